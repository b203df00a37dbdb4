-- After the last turn all inputs have their places.
use Rattle.std.proofs.Common.{refl}
use Rattle.node_parts.proofs.Marking.{marked_none, marked_step, marked_all}
use Rattle.node_parts.proofs.index_of.Goals as goal

pub loop-i-init : goal.loop-i-init
loop-i-init c = marked_none c.args.inputs.now

pub loop-i-preserved : goal.loop-i-preserved
loop-i-preserved c = marked_step _ refl c.loop-i-test.true c.loop-i.invariant

pub returns : goal.returns
returns c = marked_all c.args.inputs.now c.requires.1 (λ i l. (c.type_inv.inputs i).fits) c.loop-i-test.false c.loop-i.invariant
