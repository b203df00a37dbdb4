-- `marks::take_back` meets its contract: a law of MarkCases for each way. Assumes nothing.
use mathlib.Core.Path.{sym, ◌∙◌}
use Rattle.marks_held.specs.MarkViews.{marks_is}
use Rattle.marks.proofs.MarkCases.{name_short, back_no, back_told, back_nowhere, place_small}
use borrow.Author.Rules.{rules}
use native.Mathlib.Omega.{arith}
use Rattle.marks.proofs.take_back.Goals as goal

pub returns-then-not-is_name : goal.returns-then-not-is_name
returns-then-not-is_name c = back_no (marks_is c.args.marks) c.args.name.now (sym c.is_name.ensures ∙ c.if-not-is_name.true)

pub name_from-requires : goal.name_from-requires
name_from-requires c = (c.requires, name_short c.args.name.now (sym c.is_name.ensures ∙ c.if-not-is_name.false), omega arith)

pub offset_bounds-marks-i : goal.offset_bounds-marks-i
offset_bounds-marks-i c = let lt = place_small c.args.marks c.requires _ _ (rw c.in-Some.is at c.name_from.ensures) in search rules

pub bounds-marks-i : goal.bounds-marks-i
bounds-marks-i c = place_small c.args.marks c.requires _ _ (rw c.in-Some.is at c.name_from.ensures)

pub returns-in-None : goal.returns-in-None
returns-in-None c =
    let a = c.args in
    back_nowhere a.marks (search rules) c.requires a.name.now (sym c.is_name.ensures ∙ c.if-not-is_name.false) (rw c.in-None.is at c.name_from.ensures)

pub returns-in-Some : goal.returns-in-Some
returns-in-Some c =
    let a = c.args in
    back_told a.marks (search rules) c.requires a.name.now (sym c.is_name.ensures ∙ c.if-not-is_name.false) _ _ (rw c.in-Some.is at c.name_from.ensures)
