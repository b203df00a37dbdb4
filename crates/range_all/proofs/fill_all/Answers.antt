-- `range_all::fill_all` meets its contract: no key is asked for; nothing is pending; the empty key is pending, and comes first or ends the range.
-- Assumes nothing.
use Rattle.std.proofs.Common.{◌≡◌, refl, sym, ap, subst, ◌∙◌, [], ℕ, ◌≤◌, length, length-set, arith}
use Rattle.std.proofs.Math.Option.{Option, none, some}
use Rattle.format.specs.Limits.{max_levels}
use Rattle.paging.specs.Paging.{fold}
use Rattle.reading.specs.Reading.{bound_bytes}
use Rattle.stream_start.specs.Views.{bound_of, empty_is, stack_of}
use Rattle.stream_start.specs.StackLaws.{stack_length}
use Rattle.range_fill.specs.RangedRows.{view_from}
use Rattle.range_fill.specs.FillLaws.{Filling, filling_none, filling_key, filled_more, filled_end}
use Rattle.range_all.proofs.PendingCases.{pending_ends, pending_key, pending_reading, first_row_len}
use Rattle.range_all.proofs.fill_all.Goals as goal

-- no key is asked for
pub returns-then-most-eq0 : goal.returns-then-most-eq0
returns-then-most-eq0 c =
    let a = c.args in
    let hi = bound_of a.upper in
    let levels = stack_of a.levels a.stack.now in
    filled_more (filling_none a.fst.bytes.now (view_from (length a.fst.bytes.now) hi (length (bound_bytes hi)) (empty_is a.empty) levels) a.most a.rows.now a.values.now)
    (omega (arith, c.if-most-eq0.true))

-- nothing is pending
pub returns-in-None : goal.returns-in-None
returns-in-None c =
    let a = c.args in
    let hi = bound_of a.upper in
    let levels = stack_of a.levels a.stack.now in
    let page = fold a.fst.bytes.now (view_from (length a.fst.bytes.now) hi (length (bound_bytes hi)) (empty_is a.empty) levels) a.most in
    c.fill.ensures page a.rows.now a.values.now
    (subst
    (λ (e : Option ℕ). Filling page a.fst.bytes.now (view_from (length a.fst.bytes.now) hi (length (bound_bytes hi)) e levels) a.most a.rows.now a.values.now a.rows.now a.values.now 0)
    (ap empty_is c.in-None.is) (filling_none a.fst.bytes.now (view_from (length a.fst.bytes.now) hi (length (bound_bytes hi)) (empty_is a.empty) levels) a.most a.rows.now a.values.now))

-- the empty key passes the upper bound
pub returns-then-exceeded : goal.returns-then-exceeded
returns-then-exceeded c =
    let a = c.args in
    let h = c.requires.ready in
    let hi = bound_of a.upper in
    let levels = stack_of a.levels a.stack.now in
    let few : length levels ≤ max_levels = rw (stack_length a.levels a.stack.now.addrs a.stack.now.inps a.stack.now.trans a.stack.now.outs) h.few in
    filled_end (filling_none a.fst.bytes.now (view_from (length a.fst.bytes.now) hi (length (bound_bytes hi)) (empty_is a.empty) levels) a.most a.rows.now a.values.now)
    (omega (arith, c.if-most-eq0.false))
    (pending_ends h.opens hi (length (bound_bytes hi)) (empty_is a.empty) levels h.short few c.in-Some.value (ap empty_is c.in-Some.is)
    (sym c.exceeded.ensures ∙ c.if-exceeded.true))

-- its row is written, and the rows are as long as they were
pub fill-requires-in-Some-clause-most_in_bounds : goal.fill-requires-in-Some-clause-most_in_bounds
fill-requires-in-Some-clause-most_in_bounds c =
    let a = c.args in
    let r = c.requires.most_in_bounds in
    let rows_len = first_row_len a.rows.now (omega (arith, r.0, c.if-most-eq0.false)) c.put_row.ensures in
    (omega (arith, rows_len, r.0), simp length-set r.1)

-- the empty key comes first
pub returns-else-exceeded : goal.returns-else-exceeded
returns-else-exceeded c =
    let a = c.args in
    let h = c.requires.ready in
    let r = c.requires.most_in_bounds in
    let hi = bound_of a.upper in
    let levels = stack_of a.levels a.stack.now in
    let few : length levels ≤ max_levels = rw (stack_length a.levels a.stack.now.addrs a.stack.now.inps a.stack.now.trans a.stack.now.outs) h.few in
    let page = fold a.fst.bytes.now (view_from (length a.fst.bytes.now) hi (length (bound_bytes hi)) (empty_is a.empty) levels) a.most in
    let there : empty_is a.empty ≡ some c.in-Some.value = ap empty_is c.in-Some.is in
    let open_yet = sym c.exceeded.ensures ∙ c.if-exceeded.false in
    c.fill-in-Some.ensures page a.rows.now a.values.now
    (filling_key (filling_none a.fst.bytes.now (view_from (length a.fst.bytes.now) hi (length (bound_bytes hi)) (empty_is a.empty) levels) a.most a.rows.now a.values.now) r.0 r.1
    (omega (arith, c.if-most-eq0.false)) [] c.in-Some.value 0 (view_from (length a.fst.bytes.now) hi (length (bound_bytes hi)) none levels)
    (pending_key h.opens hi (length (bound_bytes hi)) (empty_is a.empty) levels h.short few c.in-Some.value there open_yet)
    (pending_reading h.opens hi (length (bound_bytes hi)) (empty_is a.empty) levels h.short few c.in-Some.value there open_yet) refl (omega arith) c.put_row.ensures)
