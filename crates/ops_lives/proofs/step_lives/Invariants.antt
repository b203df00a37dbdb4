-- Each call that was on its way has come to the reading number i.
use Rattle.std.proofs.Common.{map}
use Rattle.stream_start.specs.Views.{bound_of}
use Rattle.ops_lives.proofs.LiveLoop.{Going}
use Rattle.ops_lives.proofs.step_lives.Given as goal

abbrev pub invariant-loop-i : goal.invariant-loop-i
invariant-loop-i l = Going (map (λ f. f.now) l.files) l.count (bound_of l.upper) l.initial.lives l.initial.keys l.initial.seen l.lives l.keys l.seen l.i l.moved
