-- A file that opens is started from its root, which fits.
use Rattle.std.proofs.Common.{◌≡◌, sym, ap, ◌∙◌, Err, arith}
use Rattle.format.specs.Opening as O
use Rattle.format.specs.Laws.OpeningLaws.{root_fits, version_blank, version_some}
use Rattle.fst.specs.Open.{meta_is, opening_is}
use Rattle.stream_start.specs.Views.{bound_of}
use Rattle.stream_start.specs.StartLaws.{start_opened, start_refused}
use Rattle.stream_start.proofs.start.Goals as goal

-- the file does not open
pub returns-in_err-m : goal.returns-in_err-m
returns-in_err-m c =
    let told : c.from_residual.result ≡ Err c.in_err-m.field-0.0 = grind arith in
    rw told (sym (start_refused c.args.file.now (bound_of c.args.lower) (bound_of c.args.upper) _ (sym c.open.ensures ∙ ap opening_is c.in_err-m.was)))

-- the root lies in the file, so it fits in 32 bits; and version 0 stands for no bytes
pub start_from-requires : goal.start_from-requires
start_from-requires c =
    let s = c.args.file.now in
    let m = meta_is c.in_ok-m.m in
    let opens : O.opening s ≡ O.opened m = sym c.open.ensures ∙ ap opening_is c.in_ok-m.was in
    rw c.over.ensures (root_fits s m opens, record { blank = version_blank s m opens; some = version_some s m opens })

-- it opens
pub returns : goal.returns
returns c =
    let s = c.args.file.now in
    let m = meta_is c.in_ok-m.m in
    let opens : O.opening s ≡ O.opened m = sym c.open.ensures ∙ ap opening_is c.in_ok-m.was in
    (rw c.over.ensures at c.start_from.ensures) ∙ sym (start_opened s (bound_of c.args.lower) (bound_of c.args.upper) m opens)
