-- One law for each refusal before the levels, and one for the levels.
-- Assumes nothing.
use Rattle.std.proofs.Common.{◌≡◌, Err, length, ap, sym, ◌∙◌, arith}
use Rattle.format.specs.Laws.OpeningLaws.{root_fits}
use Rattle.fst.specs.Open.{meta_is, opening_is}
use Rattle.carry.proofs.CarryCases.{levels_right, old_refused, new_refused, state_wrong, pattern_wrong, levels_carried}
use Rattle.carry.proofs.carry_reading.Goals as goal

-- the old file does not open
pub returns-in_err-m : goal.returns-in_err-m
returns-in_err-m c =
    let a = c.args in
    let told : c.from_residual.result ≡ Err c.in_err-m.field-0.0 = grind arith in
    rw told (old_refused a.fits a.old.now a.new.now a.reading _ (sym c.open.ensures ∙ ap opening_is c.in_err-m.was))

-- the new file does not open
pub returns-in_err-q : goal.returns-in_err-q
returns-in_err-q c =
    let a = c.args in
    let told : c.from_residual-in_err-q.result ≡ Err c.in_err-q.field-0.0 = grind arith in
    rw told
    (new_refused a.fits a.old.now a.new.now a.reading (meta_is c.in_ok-m.m) (sym c.open.ensures ∙ ap opening_is c.in_ok-m.was) _
    (sym c.open-2.ensures ∙ ap opening_is c.in_err-q.was))

-- the reading cannot go on with the old file: STATE
pub returns-then-not-state_right : goal.returns-then-not-state_right
returns-then-not-state_right c =
    let a = c.args in
    state_wrong a.fits a.old.now a.new.now a.reading (meta_is c.in_ok-m.m) (sym c.open.ensures ∙ ap opening_is c.in_ok-m.was)
    (meta_is c.in_ok-q.q) (sym c.open-2.ensures ∙ ap opening_is c.in_ok-q.was) (sym c.state_right.ensures ∙ c.if-not-state_right.true)

-- a pattern has too many positions: PATTERN
pub returns-then-not-fits : goal.returns-then-not-fits
returns-then-not-fits c =
    let a = c.args in
    pattern_wrong a.fits a.old.now a.new.now a.reading (meta_is c.in_ok-m.m) (sym c.open.ensures ∙ ap opening_is c.in_ok-m.was)
    (meta_is c.in_ok-q.q) (sym c.open-2.ensures ∙ ap opening_is c.in_ok-q.was) (sym c.state_right.ensures ∙ c.if-not-state_right.false)
    c.if-not-fits.true

-- the new root fits, and the state is right
pub carry_opened-requires : goal.carry_opened-requires
carry_opened-requires c =
    let a = c.args in
    rw c.over-2.ensures (
      root_fits a.new.now (meta_is c.in_ok-q.q) (sym c.open-2.ensures ∙ ap opening_is c.in_ok-q.was),
      levels_right a.reading (length a.old.now) (sym c.state_right.ensures ∙ c.if-not-state_right.false),
    )

pub returns : goal.returns
returns c =
    let a = c.args in
    rw (c.over.ensures, c.over-2.ensures) at c.carry_opened.ensures
    ∙ levels_carried a.fits a.old.now a.new.now a.reading (meta_is c.in_ok-m.m) (sym c.open.ensures ∙ ap opening_is c.in_ok-m.was)
    (meta_is c.in_ok-q.q) (sym c.open-2.ensures ∙ ap opening_is c.in_ok-q.was) (sym c.state_right.ensures ∙ c.if-not-state_right.false)
    c.if-not-fits.false
