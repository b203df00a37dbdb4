-- The empty key passes the upper bound, fits, or is dropped.
-- Assumes nothing.
use Rattle.std.proofs.Common.{sym, ◌∙◌}
use Rattle.format.specs.Paths.{fst_with}
use Rattle.patterned_held.specs.HeldPatterns.{held_is}
use Rattle.patterned_pending.proofs.StepByCases.{pending_passed, pending_key, pending_walk, fits_empty, fits_not}
use Rattle.patterned_pending.proofs.pending.Goals as goal

pub returns-then-exceeded : goal.returns-then-exceeded
returns-then-exceeded c =
    let a = c.args in
    pending_passed (fst_with a.fst.bytes.now a.fst.version a.fst.root) (held_is a.pattern) a.reading a.value a.key.now (sym (rw c.upper.ensures at c.exceeded.ensures) ∙ c.if-exceeded.true)
    c.ended.result (c.ended.ensures a.key.now)

pub returns-then-fits : goal.returns-then-fits
returns-then-fits c =
    let a = c.args in
    let q = a.pattern in
    pending_key (fst_with a.fst.bytes.now a.fst.version a.fst.root) (held_is q) a.reading a.value (sym (rw c.upper.ensures at c.exceeded.ensures) ∙ c.if-exceeded.false) a.key.now
    (fits_empty q.len q.rest q.positions c.if-fits.true) c.placed.result c.placed.ensures

pub returns : goal.returns
returns c =
    let a = c.args in
    let q = a.pattern in
    pending_walk (fst_with a.fst.bytes.now a.fst.version a.fst.root) (held_is q) a.reading a.value (sym (rw c.upper.ensures at c.exceeded.ensures) ∙ c.if-exceeded.false) a.key.now _
    (fits_not q.len q.rest q.positions c.if-fits.false) c.walk.result c.walk.ensures
