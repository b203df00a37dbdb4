-- The marks passed are right, so that all are where those left are.
-- Assumes nothing.
use Rattle.std.proofs.Common.{◌≡◌, drop}
use Rattle.marking.specs.MarkCalls as M
use Rattle.marks_held.specs.MarkViews.{marks_is}
use Rattle.marks_held.proofs.marks_right.Given as goal

abbrev pub invariant-loop-i : goal.invariant-loop-i
invariant-loop-i l = M.each_right l.len (marks_is l.marks) ≡ M.each_right l.len (drop l.i (marks_is l.marks))
