-- The first i files are started, and the rest decides.
use Rattle.std.proofs.Common.{map}
use Rattle.stream_start.specs.Views.{bound_of}
use Rattle.ops_starts.proofs.StartLoop.{Starting}
use Rattle.ops_starts.proofs.starts.Given as goal

abbrev pub invariant-loop-i : goal.invariant-loop-i
invariant-loop-i l = Starting (map (λ f. f.now) l.files) l.count (bound_of l.lower) (bound_of l.upper) l.lives l.keys l.seen l.i
