-- The first mark that has the name, and none where the loop ends.
-- Assumes nothing.
use Rattle.std.proofs.Common.{rules, arith, ◌≡◌, ◌≤◌, ◌<◌, ◌+◌, ℕ, false, map, sym, ap, subst, ◌∙◌}
use native.Mathlib.Decide.{ℕ_discrete}
use Rattle.marking.specs.MarkCalls as M
use Rattle.marking.specs.MarkCalls.{same_name}
use Rattle.marks_held.specs.MarkViews.{no_mark, mark_is, marks_is, mark_at, at_place, nowhere}
use Rattle.marks_held.specs.MarkViewsLaws.{stated_length, mark_at_lem}
use Rattle.marks_held.proofs.name_from.Goals as goal

-- one place further
further : (from i : ℕ) (P : ℕ → Type 0) → ((j : ℕ) → from ≤ j → j < i → P j) → P i → (j : ℕ) → from ≤ j → j < i + 1 → P j
further from i P before here j le lt = elim (ℕ_discrete j i) [
  | yes e ↦ subst P (sym e) here
  | no ne ↦ before j le (omega arith)
]

pub returns-then-is_named : goal.returns-then-is_named
returns-then-is_named c =
    let a = c.args in
    let is = mark_at_lem a.marks.now (search rules) c.requires.0 c.loop-i.i _ (omega arith) in
    at_place c.loop-i.i (omega arith) (omega (arith, stated_length a.marks.now.count no_mark (map mark_is a.marks.now.marks)))
    (ap (λ (m : M.Mark). same_name m.name a.name.now) is ∙ sym c.is_named.ensures ∙ c.if-is_named.true) c.loop-i.invariant

pub loop-i-preserved : goal.loop-i-preserved
loop-i-preserved c =
    let a = c.args in
    let is = mark_at_lem a.marks.now (search rules) c.requires.0 c.loop-i.i _ (omega arith) in
    further a.from c.loop-i.i (λ j. same_name (mark_at (marks_is a.marks.now) j).name a.name.now ≡ false) c.loop-i.invariant
    (ap (λ (m : M.Mark). same_name m.name a.name.now) is ∙ sym c.is_named.ensures ∙ c.if-is_named.false)

pub returns : goal.returns
returns c =
    let a = c.args in
    nowhere (λ j le lt. c.loop-i.invariant j le (omega (arith, stated_length a.marks.now.count no_mark (map mark_is a.marks.now.marks))))
