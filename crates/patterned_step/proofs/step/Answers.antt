-- `patterned_step::step` meets its contract: one law for each refusal before the walk, and one for the walk.
-- Assumes nothing.
use Rattle.std.proofs.Common.{arith, ap, sym, ◌∙◌}
use Rattle.format.specs.View.{fst_is}
use Rattle.stream_start.specs.Views.{empty_is}
use Rattle.stream_step.specs.Judged.{judged_is}
use Rattle.stream_step.specs.JudgedLaws.{judged_facts}
use Rattle.patterned_fit.specs.PositionLaws.{positions_length}
use Rattle.patterned_held.specs.HeldPatterns.{held_is}
use Rattle.patterned_step.proofs.NextByCases.{next_refused, next_pattern, next_space, next_walk}
use Rattle.patterned_step.proofs.step.Goals as goal

-- the file does not open, or the reading cannot go on with it
pub returns-in-Err : goal.returns-in-Err
returns-in-Err c =
    let a = c.args in
    next_refused a.file.now (held_is a.pattern) a.reading a.key.now c.in-Err.why (sym (ap judged_is c.in-Err.is) ∙ c.judge.ensures) c.refused.result c.refused.ensures

-- over 255 positions are held: PATTERN
pub returns-then-too_many : goal.returns-then-too_many
returns-then-too_many c =
    let a = c.args in
    next_pattern a.file.now (held_is a.pattern) a.reading a.key.now (fst_is c.in-Ok.fst) (sym (ap judged_is c.in-Ok.is) ∙ c.judge.ensures)
    (omega (arith, positions_length a.pattern.len a.pattern.positions)) c.refused-then-too_many.result c.refused-then-too_many.ensures

-- the buffer is under 255 bytes: SPACE
pub returns-then-key-lt-MAX_KEY : goal.returns-then-key-lt-MAX_KEY
returns-then-key-lt-MAX_KEY c =
    let a = c.args in
    next_space a.file.now (held_is a.pattern) a.reading a.key.now (fst_is c.in-Ok.fst) (sym (ap judged_is c.in-Ok.is) ∙ c.judge.ensures)
    (omega (arith, positions_length a.pattern.len a.pattern.positions)) (omega arith) c.refused-then-key-lt-MAX_KEY.result c.refused-then-key-lt-MAX_KEY.ensures

-- the state is right, the root fits, and the buffer has room for a key
pub pending-requires : goal.pending-requires
pending-requires c =
    let e = judged_facts c.args.file.now c.args.reading (fst_is c.in-Ok.fst) (sym (ap judged_is c.in-Ok.is) ∙ c.judge.ensures) in
    (e.1, e.2, e.0, omega arith, omega arith)

pub walk-requires : goal.walk-requires
walk-requires c =
    let e = judged_facts c.args.file.now c.args.reading (fst_is c.in-Ok.fst) (sym (ap judged_is c.in-Ok.is) ∙ c.judge.ensures) in
    (e.1, e.2, e.0, omega arith, omega arith)

-- the empty key is pending
pub returns-in-Some : goal.returns-in-Some
returns-in-Some c =
    let a = c.args in
    next_walk a.file.now (held_is a.pattern) a.reading a.key.now (fst_is c.in-Ok.fst) (sym (ap judged_is c.in-Ok.is) ∙ c.judge.ensures)
    (omega (arith, positions_length a.pattern.len a.pattern.positions)) (omega arith) (ap empty_is c.in-Some.is) _ c.pending.result c.pending.ensures

-- no empty key is pending
pub returns-in-None : goal.returns-in-None
returns-in-None c =
    let a = c.args in
    next_walk a.file.now (held_is a.pattern) a.reading a.key.now (fst_is c.in-Ok.fst) (sym (ap judged_is c.in-Ok.is) ∙ c.judge.ensures)
    (omega (arith, positions_length a.pattern.len a.pattern.positions)) (omega arith) (ap empty_is c.in-None.is) _ c.walk.result c.walk.ensures
