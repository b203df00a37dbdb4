-- `baxhiso_readings::fst_next_arrays` meets its contract: what the call answered is the definition's answer, and the arrays hold its reading, or are as they
-- were where it is refused.
-- Assumes nothing.
use Rattle.std.proofs.Common.{length, get_or, sym, ap, subst}
use Rattle.plain.specs.Plain.{plain_with, next_plain}
use Rattle.stream_start.specs.Views.{view_is}
use Rattle.stream_next.specs.Going.{step_of}
use Rattle.stream.specs.declared.Plain.{Plain}
use Rattle.stream.specs.Plains.{PlainStepped}
use Rattle.stream_arrays.specs.Arrays.{held}
use Rattle.stream_arrays.specs.ArraysLaws.{next_of}
use Rattle.baxhiso.specs.ResultLaws.{result_back}
use Rattle.baxhiso_readings.proofs.ReadingResults.{next_refused}
use Rattle.baxhiso_readings.proofs.fst_next_arrays.Goals as goal

-- the call is refused
pub returns-in-Err : goal.returns-in-Err
returns-in-Err c =
    let x = c.args in
    let h = held x.head.now x.bound.now x.addrs.now x.inps.now x.trans.now x.outs.now in
    let p : Plain = record { reading = c.reading_of.result; keys = get_or x.keys.now 0 0 } in
    let st = next_of x.file.now (length x.key.now) h x.keys.now c.reading_of.ensures
    (subst (λ a. PlainStepped (next_plain x.file.now (plain_with (view_is c.reading_of.result) (get_or x.keys.now 0 0)) (length x.key.now)) x.key.now c.turn.new.key (step_of p c.turn.new.plain a)) c.in-Err.is c.turn.ensures) in
    next_refused p c.turn.new.plain c.in-Err.why st h x.keys.now (ap (λ r. plain_with (view_is r) (get_or x.keys.now 0 0)) (sym c.reading_of.ensures)) _ _ _ _
    (result_back c.code.result c.code.type_inv) c.code.ensures
