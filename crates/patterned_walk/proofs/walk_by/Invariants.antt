-- `patterned_walk::walk_by`: the walk from the first n levels is the one that is wanted. The measure is what that walk has still to do (`left`):
-- a descent that goes on has followed a transition and popped a level.
-- Assumes nothing.
use Rattle.format.specs.Paths.{fst_with}
use Rattle.reading.specs.Visits.{left}
use Rattle.stream_start.specs.Views.{view_is, stack_of}
use Rattle.pattern.specs.Pattern.{walk_by}
use Rattle.patterned_fit.specs.Positions.{held_is}
use Rattle.patterned_walk.proofs.WalkingLaws.{WalkingBy}
use Rattle.patterned_walk.proofs.walk_by.Given as goal

abbrev pub invariant-loop-n : goal.invariant-loop-n
invariant-loop-n l =
    WalkingBy l.fst.bytes.now l.fst.version l.fst.root (held_is l.pattern) (view_is l.reading).bound
    (walk_by (fst_with l.fst.bytes.now l.fst.version l.fst.root) (held_is l.pattern) (view_is l.reading).bound (stack_of l.reading.levels l.initial.stack) l.reading.total)
    l.stack.addrs l.stack.inps l.stack.trans l.stack.outs l.n l.t l.fit

abbrev pub decreases-loop-n : goal.decreases-loop-n
decreases-loop-n l = left (fst_with l.fst.bytes.now l.fst.version l.fst.root) (stack_of l.n l.stack)
