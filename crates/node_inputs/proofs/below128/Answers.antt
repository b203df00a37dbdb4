-- An entry below m is one more, and after the last turn every entry has been looked at.
use Rattle.std.proofs.Common.{◌≡◌, ◌+◌, ◌-◌, arith, take_all}
use Rattle.node_inputs.proofs.Index.{below_take, below_skip}
use Rattle.node_inputs.proofs.below128.Goals as goal
use Rattle.node_inputs.proofs.below128.Goals.{then-entry-m, else-entry-m}

pub loop-entry-preserved : goal.loop-entry-preserved
loop-entry-preserved c = elim c.if-entry-m.branch [
  | then-entry-m w ↦ rw w.count-is (omega arith, below_take _ (omega arith) c.loop-entry.invariant.1 w.if-entry-m.true)
  | else-entry-m w ↦ rw w.count-is (omega arith, below_skip _ (omega arith) c.loop-entry.invariant.1 w.if-entry-m.false)
]

pub returns : goal.returns
returns c =
    let w : c.args.at + 128 - c.args.at ≡ 128 = omega arith in
    let past = c.loop-entry-test.false in
    rw w at (rw take_all at c.loop-entry.invariant.1)
