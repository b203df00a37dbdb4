-- So many keys were handed out as calls were made.
use Rattle.stream.specs.Plains.{plain_is}
use Rattle.oracle_stream.specs.Runs.{plain_calls}
use Rattle.oracle_stream.proofs.Telling.{Reached}
use Rattle.oracle_stream.proofs.keys_from.Given as goal

abbrev pub invariant-loop-n : goal.invariant-loop-n
invariant-loop-n l = Reached (plain_calls l.file) l.most (plain_is l.initial.here) l.initial.key (plain_is l.here) l.key l.n
