-- `find_fill::fill` meets its contract: nothing is found yet; each way out of a turn; a key more.
-- Assumes nothing.
use Rattle.std.proofs.Common.{◌≡◌, Ok, Some, None, rules, arith}
use Rattle.find_fill.proofs.GoingBy.{going_none, going_key, going_more, going_end, going_refused, key_fits, key_len}
use Rattle.find_fill.proofs.fill.Goals as goal

pub loop-count-init : goal.loop-count-init
loop-count-init c = going_none c.args.file.now c.args.first c.args.most c.args.rows.now c.args.values.now _ (search rules)

-- no key is left
pub returns-in-Ok-None : goal.returns-in-Ok-None
returns-in-Ok-None c =
    let e : c.next-step.result.answer ≡ Ok None = grind arith in
    going_end c.loop-count.invariant c.loop-count-test.true (search rules) c.next-step.ensures e

-- a refusal, beside the keys before it
pub returns-in-Err : goal.returns-in-Err
returns-in-Err c = going_refused c.loop-count.invariant c.loop-count-test.true (search rules) c.next-step.ensures _ c.in-Err.is

-- the buffer holds the key
pub slice_bounds-put_row-end : goal.slice_bounds-put_row-end
slice_bounds-put_row-end c =
    let e : c.next-step.result.answer ≡ Ok (Some (c.in-Ok-Some.n, c.in-Ok-Some.value)) = grind arith in
    let fits = key_fits c.loop-count.invariant c.loop-count-test.true (search rules) c.next-step.ensures _ _ e in
    search rules

-- the key fits a row, and the row the rows
pub put_row-requires : goal.put_row-requires
put_row-requires c =
    let e : c.next-step.result.answer ≡ Ok (Some (c.in-Ok-Some.n, c.in-Ok-Some.value)) = grind arith in
    let fits = key_fits c.loop-count.invariant c.loop-count-test.true (search rules) c.next-step.ensures _ _ e in
    (omega (arith, key_len c.loop-count.invariant c.loop-count-test.true (search rules) c.next-step.ensures _ _ e, fits), omega (arith, c.loop-count.invariant.rows_len))

-- a key more
pub loop-count-preserved : goal.loop-count-preserved
loop-count-preserved c =
    let e : c.next-step.result.answer ≡ Ok (Some (c.in-Ok-Some.n, c.in-Ok-Some.value)) = grind arith in
    going_key c.loop-count.invariant c.loop-count-test.true (search rules) c.next-step.ensures c.requires.0 c.requires.1 _ _ e c.put_row.ensures

-- as many as asked for
pub returns : goal.returns
returns c = going_more c.loop-count.invariant c.loop-count-test.false
