-- A number of 4 bytes is 256 times the number of its last 3 bytes, and the first byte more.
use Rattle.std.proofs.Common.{◌≡◌, ◌+◌, ◌-◌, ◌*◌, arith}
use Rattle.node_deltas.proofs.Targets.{most3_more, most3_four}
use Rattle.node_deltas.proofs.most3.Goals as goal

-- four numbers more
pub loop-i-preserved : goal.loop-i-preserved
loop-i-preserved c =
    let p = c.args.at - 1 + c.loop-i.i * 12 in
    let e : c.loop-i.i * 4 + 4 ≡ (c.loop-i.i + 1) * 4 = omega arith in
    rw e at
    (most3_four p _ _ _ _ c.max-most.result (omega arith) (omega arith) c.load4.ensures c.load4-in-loop-i.ensures c.load4-in-loop-i-2.ensures
    c.load4-in-loop-i-3.ensures (omega arith) (omega arith) (omega arith) (omega arith) (omega arith) c.loop-i.invariant)

-- one number more
pub loop-i-2-preserved : goal.loop-i-2-preserved
loop-i-2-preserved c =
    most3_more (c.args.at - 1 + c.loop-i-2.i * 3) _ c.max-most-in-loop-i-2.result (omega arith) (omega arith) c.load4-in-loop-i-2-2.ensures (omega arith)
    (omega arith) c.loop-i-2.invariant
