-- What opening answered leads to an equation of `get`.
-- Assumes nothing.
use Rattle.std.proofs.Common.{◌≡◌, arith, sym, ◌∙◌}
use Rattle.std.specs.Prelude.{Err}
use Rattle.format.specs.Laws.LookupLaws.{get_opened, get_blank, get_refused}
use Rattle.format.specs.Laws.OpeningLaws.{version_blank, version_some}
use Rattle.format.specs.Opening as O
use Rattle.fst.specs.Open.{meta_is}
use Rattle.lookup.proofs.get.Goals as goal

-- the file does not open
pub returns-in_err-m : goal.returns-in_err-m
returns-in_err-m c =
    let told : c.from_residual.result ≡ Err c.in_err-m.field-0.0 = grind arith in
    rw told (sym (get_refused c.args.file.now c.args.key.now _ (sym c.in_err-m.ensures)))

-- version 0: the file has no bytes
pub returns-then-m-eq0 : goal.returns-then-m-eq0
returns-then-m-eq0 c =
    let a = c.args in
    let m = meta_is c.in_ok-m.m in
    let opens : O.opening a.file.now ≡ O.opened m = sym c.in_ok-m.ensures in
    sym (get_blank a.file.now a.key.now m opens (version_blank a.file.now m opens c.if-m-eq0.true))

-- the file opens and has bytes: the key is followed from its root
pub returns : goal.returns
returns c =
    let a = c.args in
    let m = meta_is c.in_ok-m.m in
    let opens : O.opening a.file.now ≡ O.opened m = sym c.in_ok-m.ensures in
    (rw c.over.ensures at c.get_from.ensures) ∙ sym (get_opened a.file.now a.key.now m opens (version_some a.file.now m opens c.if-m-eq0.false))
