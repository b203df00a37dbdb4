-- No mark passed has the name.
-- Assumes nothing.
use Rattle.std.proofs.Common.{◌≡◌, ◌≤◌, ◌<◌, ℕ, false}
use Rattle.marking.specs.MarkCalls.{same_name}
use Rattle.marks_held.specs.MarkViews.{marks_is, mark_at}
use Rattle.marks_held.proofs.name_from.Given as goal

abbrev pub invariant-loop-i : goal.invariant-loop-i
invariant-loop-i l = (j : ℕ) → l.from ≤ j → j < l.i → same_name (mark_at (marks_is l.marks) j).name l.name ≡ false
