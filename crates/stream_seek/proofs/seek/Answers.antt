-- `stream_seek::seek` meets its contract. Assumes nothing.
use Rattle.std.proofs.Common.{◌<◌, Ok, length, sym, ap, ◌∙◌, arith}
use Rattle.std.proofs.lemmas.Result.{err_from_is_err_and}
use Rattle.node.specs.Read.{meaning}
use Rattle.node.specs.ReadLaws.{answer_sound, answer_unsound}
use Rattle.stream_seek.proofs.Seeking.{seeking_none, seeking_unsound, seeking_done, seeking_bad, seeking_miss, seeking_past, seeking_step}
use Rattle.stream_seek.proofs.seek.Goals as goal

-- no byte of the bound is followed yet
pub loop-k-init : goal.loop-k-init
loop-k-init c = (omega arith, seeking_none _ _ _ _ _ _ _ c.are_arrays.ensures)

-- the node is not sound
pub returns-in_err-place : goal.returns-in_err-place
returns-in_err-place c =
    let h = c.loop-k.invariant.1 in
    let p = err_from_is_err_and c.from_residual.result c.from_residual.ensures.1 in
    record { arrays = h.arrays; found = rw (p.1, p.2) (seeking_bad h (omega arith) (sym c.enter.ensures.0 ∙ c.in_err-place.was)) }

-- the bound leaves the file at this byte
pub returns-in-Err : goal.returns-in-Err
returns-in-Err c =
    let h = c.loop-k.invariant.1 in
    record {
      arrays = c.put.ensures.arrays;
      found = seeking_miss h (omega arith) c.in-Err.place (sym c.enter.ensures.0 ∙ c.in_ok-place.was ∙ ap Ok c.in-Err.is) c.put.ensures;
    }

-- the sum up to the target does not fit
pub returns-in_default : goal.returns-in_default
returns-in_default c =
    let h = c.loop-k.invariant.1 in
    let w = c.in-Ok in
    record {
      arrays = h.arrays;
      found = seeking_past h (omega arith) w.hit (sym c.enter.ensures.0 ∙ c.in_ok-place.was ∙ ap Ok w.is) (omega (arith, c.in_default.ensures)) _ c.past_sum.ensures;
    }

-- one byte more of the bound is followed
pub loop-k-preserved : goal.loop-k-preserved
loop-k-preserved c =
    let l = c.loop-k in
    let w = c.in-Ok in
    let more : l.k < length c.args.lower.now = omega arith in
    let fits = c.in-Some.ensures in (
      omega arith,
      rw fits.1 (seeking_step l.invariant.1 more w.hit (sym c.enter.ensures.0 ∙ c.in_ok-place.was ∙ ap Ok w.is) (omega (arith, fits.0)) c.put-in-Ok.ensures),
    )

-- the last node is not sound
pub returns-in_err-node_at : goal.returns-in_err-node_at
returns-in_err-node_at c =
    let h = c.loop-k.invariant.1 in
    let p = err_from_is_err_and c.from_residual-in_err-node_at.result c.from_residual-in_err-node_at.ensures.1 in
    record { arrays = h.arrays; found = rw (p.1, p.2) (seeking_unsound h (answer_unsound c.node_at.ensures _ c.in_err-node_at.was)) }

-- the bound ends at a sound node
pub returns : goal.returns
returns c =
    let m = c.in_ok-node_at.field-0 in
    record {
      arrays = c.last_levels.ensures.arrays;
      found =
          seeking_done c.loop-k.invariant.1 (omega arith) (meaning c.args.fst.bytes.now m) (answer_sound c.node_at.ensures m c.in_ok-node_at.was) c.last_levels.ensures;
    }
