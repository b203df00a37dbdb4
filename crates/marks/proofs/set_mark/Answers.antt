-- `marks::set_mark` meets its contract: a law of MarkCases for each way. Assumes nothing.
use mathlib.Core.Path.{sym, ◌∙◌}
use Rattle.stream.specs.Plains.{plain_is}
use Rattle.marks_held.specs.MarkViews.{marks_is}
use Rattle.marks.proofs.MarkCases.{name_short, set_no, set_told, set_full, set_more, place_small}
use borrow.Author.Rules.{rules}
use native.Mathlib.Omega.{arith}
use Rattle.marks.proofs.set_mark.Goals as goal

pub returns-then-not-is_name : goal.returns-then-not-is_name
returns-then-not-is_name c =
    let a = c.args in
    set_no (plain_is a.reading) (marks_is a.marks) a.name.now (sym c.is_name.ensures ∙ c.if-not-is_name.true)

pub hold_name-requires : goal.hold_name-requires
hold_name-requires c = name_short c.args.name.now (sym c.is_name.ensures ∙ c.if-not-is_name.false)

pub name_from-requires : goal.name_from-requires
name_from-requires c = (c.requires, name_short c.args.name.now (sym c.is_name.ensures ∙ c.if-not-is_name.false), omega arith)

pub put_mark-requires : goal.put_mark-requires
put_mark-requires c =
    place_small c.args.marks c.requires _ _ (rw c.in-Some.is at c.name_from.ensures)

pub returns-then-marks-ge-MARKS : goal.returns-then-marks-ge-MARKS
returns-then-marks-ge-MARKS c =
    let a = c.args in
    set_full a.marks (search rules) c.requires a.reading a.name.now c.hold_name.result c.hold_name.ensures (sym c.is_name.ensures ∙ c.if-not-is_name.false)
    (rw c.in-None.is at c.name_from.ensures) c.if-marks-ge-MARKS.true

pub returns-in-Some : goal.returns-in-Some
returns-in-Some c =
    let a = c.args in
    set_told a.marks (search rules) c.requires a.reading a.name.now c.hold_name.result c.hold_name.ensures (sym c.is_name.ensures ∙ c.if-not-is_name.false) _
    (rw c.in-Some.is at c.name_from.ensures) _ c.put_mark.ensures

pub returns-else-marks-ge-MARKS : goal.returns-else-marks-ge-MARKS
returns-else-marks-ge-MARKS c =
    let a = c.args in
    set_more a.marks (search rules) c.requires a.reading a.name.now c.hold_name.result c.hold_name.ensures (sym c.is_name.ensures ∙ c.if-not-is_name.false)
    (rw c.in-None.is at c.name_from.ensures) (omega (arith, c.if-marks-ge-MARKS.false)) _ c.put_mark-in-None.ensures
