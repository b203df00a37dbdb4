-- `range_fill::fill` meets its contract: nothing is found yet; each way out of a turn; a key more.
-- Assumes nothing.
use Rattle.std.proofs.Common.{rules, ℕ, arith, length, drop, subst}
use Rattle.format.specs.Laws.OpeningLaws.{root_fits}
use Rattle.reading.specs.Reading.{bound_bytes}
use Rattle.stream_start.specs.Views.{bound_of}
use Rattle.range_bound.specs.Besides.{Beside}
use Rattle.range_fill.proofs.FillCases.{going_none, going_key, going_end, going_refused, going_more, key_low, key_len, row_within}
use Rattle.range_fill.proofs.fill.Goals as goal

pub loop-count-init : goal.loop-count-init
loop-count-init c =
    let a = c.args in
    let h = c.requires.ready in
    let k = a.stack.now in
    let hi = bound_of a.upper in
    going_none _ a.fst.bytes.now hi (bound_bytes hi) (length (bound_bytes hi)) a.first a.most a.rows.now a.values.now k.addrs k.inps k.trans k.outs a.levels _ _
    (record { addrs_len = omega arith; inps_len = omega arith; trans_len = omega arith; outs_len = omega arith }) h.few h.sounds
    (subst (λ (j : ℕ). Beside hi (bound_bytes hi) (drop 1 k.inps) j c.stand-standing.result.same c.stand-standing.result.over) c.saturating_sub.ensures
    c.stand-standing.ensures)

pub step_on-requires : goal.step_on-requires
step_on-requires c =
    let g = c.loop-count.invariant in
    let o = c.requires.ready.opens in
    record { levels_le_max_levels = (g.few, omega (arith, root_fits c.args.fst.bytes.now o.meta o.opens, o.root_is), g.sounds, g.beside) }

-- no key is left
pub returns-in-Ok-None : goal.returns-in-Ok-None
returns-in-Ok-None c =
    let h = c.requires.ready in
    let r = c.requires.most_in_bounds in
    going_end h.opens h.short r.0 r.1 c.loop-count.invariant c.loop-count-test.true (c.step_on.ensures (length c.args.fst.bytes.now) (length (bound_bytes (bound_of c.args.upper)))) (rw c.in-Ok-None.field-0-is at c.in-Ok-None.is) 0

pub returns-in-Err : goal.returns-in-Err
returns-in-Err c =
    let h = c.requires.ready in
    let r = c.requires.most_in_bounds in
    going_refused h.opens h.short r.0 r.1 c.loop-count.invariant c.loop-count-test.true (c.step_on.ensures (length c.args.fst.bytes.now) (length (bound_bytes (bound_of c.args.upper)))) _
    c.in-Err.is 0

-- the key's inputs stand among the 256
pub overflow_add-next : goal.overflow_add-next
overflow_add-next c =
    let h = c.requires.ready in
    let r = c.requires.most_in_bounds in
    let t = c.step_on.ensures (length c.args.fst.bytes.now) (length (bound_bytes (bound_of c.args.upper))) in
    let low = key_low h.opens h.short r.0 r.1 c.loop-count.invariant c.loop-count-test.true t _ (rw c.in-Ok-Some.field-0-is at c.in-Ok-Some.is) in
    search rules

pub slice_bounds-put_row-end : goal.slice_bounds-put_row-end
slice_bounds-put_row-end c =
    let h = c.requires.ready in
    let r = c.requires.most_in_bounds in
    let t = c.step_on.ensures (length c.args.fst.bytes.now) (length (bound_bytes (bound_of c.args.upper))) in
    let low = key_low h.opens h.short r.0 r.1 c.loop-count.invariant c.loop-count-test.true t _ (rw c.in-Ok-Some.field-0-is at c.in-Ok-Some.is) in
    search rules

-- the inputs hold the key, and its row lies within the rows
pub put_row-requires : goal.put_row-requires
put_row-requires c =
    let h = c.requires.ready in
    let r = c.requires.most_in_bounds in
    let t = c.step_on.ensures (length c.args.fst.bytes.now) (length (bound_bytes (bound_of c.args.upper))) in
    let g = c.loop-count.invariant in
    let left = c.loop-count-test.true in
    let e = rw c.in-Ok-Some.field-0-is at c.in-Ok-Some.is in (
      omega (arith, key_len h.opens h.short r.0 r.1 g left t _ e, key_low h.opens h.short r.0 r.1 g left t _ e),
      row_within h.opens h.short r.0 r.1 g left t _ e,
    )

pub overflow_add-height : goal.overflow_add-height
overflow_add-height c =
    let h = c.requires.ready in
    let r = c.requires.most_in_bounds in
    let t = c.step_on.ensures (length c.args.fst.bytes.now) (length (bound_bytes (bound_of c.args.upper))) in
    search (rules, key_low h.opens h.short r.0 r.1 c.loop-count.invariant c.loop-count-test.true t _ (rw c.in-Ok-Some.field-0-is at c.in-Ok-Some.is))

-- a key more
pub loop-count-preserved : goal.loop-count-preserved
loop-count-preserved c =
    let h = c.requires.ready in
    let r = c.requires.most_in_bounds in
    let t = c.step_on.ensures (length c.args.fst.bytes.now) (length (bound_bytes (bound_of c.args.upper))) in
    going_key h.opens h.short r.0 r.1 c.loop-count.invariant c.loop-count-test.true t _ (rw c.in-Ok-Some.field-0-is at c.in-Ok-Some.is) c.put_row.ensures

-- as many as asked for
pub returns : goal.returns
returns c =
    let h = c.requires.ready in
    let r = c.requires.most_in_bounds in
    going_more h.opens h.short r.0 r.1 c.loop-count.invariant c.loop-count-test.false 0
