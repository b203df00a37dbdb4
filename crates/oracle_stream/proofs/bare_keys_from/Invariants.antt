-- So many keys were handed out as calls were made.
use Rattle.stream_start.specs.Views.{view_is}
use Rattle.oracle_stream.specs.Runs.{bare_calls}
use Rattle.oracle_stream.proofs.Telling.{Reached}
use Rattle.oracle_stream.proofs.bare_keys_from.Given as goal

abbrev pub invariant-loop-n : goal.invariant-loop-n
invariant-loop-n l = Reached (bare_calls l.file) l.most (view_is l.initial.here) l.initial.key (view_is l.here) l.key l.n
