-- `node::seek` meets its contract: the inputs fall in memory, so those above b stand first, and b can only follow them.
-- Assumes nothing.
use Rattle.std.proofs.Common.{◌≡◌, ◌+◌, refl, length, arith}
use Rattle.node.proofs.InputSearch.{over_none, over_more, over_same, over_fits, over_found, over_missing}
use Rattle.node.proofs.seek.Goals as goal
use Rattle.node.proofs.seek.Goals.{then-b-input, else-b-input, else-p-n-via-then-p-n+else-inputs-p, else-p-n-via-else-p-n}

pub loop-input-init : goal.loop-input-init
loop-input-init c = over_none c.args.inputs.now 0 (length c.args.inputs.now) c.args.b

-- the inputs above b are fewer than the bytes above b
pub overflow_add-over : goal.overflow_add-over
overflow_add-over c =
    let z : 0 + c.loop-input.input-index ≡ c.loop-input.input-index = omega arith in
    record { fits = over_fits c.requires c.loop-input-test.true c.loop-input.invariant (λ i. (c.type_inv.inputs i).fits) (rw z c.if-b-input.true) }

-- the input is above b, or it is not
pub loop-input-preserved : goal.loop-input-preserved
loop-input-preserved c =
    let asc = c.requires in
    let l = c.loop-input-test.true in
    let inv = c.loop-input.invariant in
    let z : 0 + c.loop-input.input-index ≡ c.loop-input.input-index = omega arith in
    (elim c.if-b-input.branch [
      | then-b-input w ↦ rw w.over-is (over_more asc l inv (rw z w.if-b-input.true))
      | else-b-input w ↦ rw w.over-is (over_same asc l inv (rw z w.if-b-input.false))
    ])

-- the input after those above b is b
pub returns-then-inputs-p : goal.returns-then-inputs-p
returns-then-inputs-p c =
    let s = c.args.inputs.now in
    let z : 0 + c.loop-input.over ≡ c.loop-input.over = omega arith in
    over_found s 0 (length s) c.args.b c.loop-input.over c.if-p-n.true (rw z c.if-inputs-p.true)

pub overflow_sub-result-2 : goal.overflow_sub-result-2
overflow_sub-result-2 c = omega (arith, c.loop-input.invariant.within, c.loop-input.invariant.few)

-- the input after those above b is another, or all are above b
pub returns : goal.returns
returns c =
    let z : 0 + c.loop-input.over ≡ c.loop-input.over = omega arith in
    over_missing c.loop-input.over refl c.requires c.loop-input-test.false c.loop-input.invariant
    (elim c.else-p-n.branch [ else-p-n-via-then-p-n+else-inputs-p w ↦ λ _. rw z w.if-inputs-p.false | else-p-n-via-else-p-n w ↦ λ l. absurd (omega (arith, w.if-p-n.false)) ])
