-- A name of no byte or of too many; one that a later mark has; and a right one.
-- Assumes nothing.
use Rattle.std.proofs.Common.{rules, arith, length, ◌≡◌, ◌+◌, ◌≤◌, ◌∙◌, ap, sym, subst}
use borrow.Author.Tests.{lt-leb}
use Rattle.marks_held.specs.MarkViews.{marks_is, SeekTold}
use Rattle.marks_held.proofs.MarkScans.{name_none, name_over, name_told, name_at, long_at}
use Rattle.marks_held.proofs.name_right.Goals as goal

pub returns-then-n-eq0 : goal.returns-then-n-eq0
returns-then-n-eq0 c =
    let m = c.args.marks.now in
    let i = c.args.i in
    name_none (marks_is m) i _ (long_at m (search rules) c.requires.0 i _ c.requires.1) c.if-n-eq0.true

pub returns-else-short : goal.returns-else-short
returns-else-short c =
    let m = c.args.marks.now in
    let i = c.args.i in
    lt-leb _ 8 c.if-short.false ∙ name_over (marks_is m) i _ (long_at m (search rules) c.requires.0 i _ c.requires.1) c.if-short.false

-- the name is as long as the mark states
pub name_from-requires : goal.name_from-requires
name_from-requires c =
    let m = c.args.marks.now in
    let i = c.args.i in
    let name = c.stated.ensures ∙ sym (name_at m (search rules) c.requires.0 i _ c.requires.1) in
    let long : length c.stated.result.now ≡ _ = ap length name ∙ long_at m (search rules) c.requires.0 i _ c.requires.1 in
    (c.requires.0, subst (λ n. n ≤ 8) (sym long) c.if-short.true, omega (arith, c.requires.1))

pub returns-then-short : goal.returns-then-short
returns-then-short c =
    let m = c.args.marks.now in
    let i = c.args.i in
    let name = c.stated.ensures ∙ sym (name_at m (search rules) c.requires.0 i _ c.requires.1) in
    name_told (marks_is m) i _ (long_at m (search rules) c.requires.0 i _ c.requires.1) c.is_none.result c.if-n-eq0.false c.if-short.true
    (subst (λ n. SeekTold n (marks_is m) (i + 1) c.name_from.result) name c.name_from.ensures) c.is_none.ensures
