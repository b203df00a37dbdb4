-- `Buffers::gather` meets its contract.
-- Assumes nothing.
use Rattle.std.proofs.Common.{◌<◌, length, arith}
use Rattle.format.specs.Laws.TransitionLaws.{at_member}
use Rattle.node.specs.Read.{transitions_in}
use Rattle.node.specs.ReadLaws.{length_node_transitions}
use Rattle.convert_node.proofs.Gathering.{gathering_none, gathering_step, gathering_all}
use Rattle.convert_node.proofs.Buffers.gather.Goals as goal

-- no transition is passed yet
pub loop-i-init : goal.loop-i-init
loop-i-init c = gathering_none _ _ _ _ _

-- each array has room for all transitions
pub bounds-self-i : goal.bounds-self-i
bounds-self-i c = omega (arith, length_node_transitions _ _ c.requires.0, c.requires.1.few)

pub bounds-self-i-in-loop-i : goal.bounds-self-i-in-loop-i
bounds-self-i-in-loop-i c = omega (arith, length_node_transitions _ _ c.requires.0, c.requires.1.few)

pub bounds-self-i-in-loop-i-2 : goal.bounds-self-i-in-loop-i-2
bounds-self-i-in-loop-i-2 c = omega (arith, length_node_transitions _ _ c.requires.0, c.requires.1.few)

-- the target has an entry
pub new_target-requires : goal.new_target-requires
new_target-requires c =
    let in_list : c.loop-i.i < length (transitions_in c.args.file.now c.args.node) = omega (arith, length_node_transitions _ _ c.requires.0) in
    rw c.transition-t.ensures (c.requires.1.in_moved _ (at_member (transitions_in c.args.file.now c.args.node) c.loop-i.i in_list))

-- one transition more
pub loop-i-preserved : goal.loop-i-preserved
loop-i-preserved c =
    let in_list : c.loop-i.i < length (transitions_in c.args.file.now c.args.node) = omega (arith, length_node_transitions _ _ c.requires.0) in
    gathering_step (omega (arith, c.requires.1.few)) (omega (arith, c.requires.1.few)) (omega (arith, c.requires.1.few)) in_list c.transition-t.result c.transition-t.ensures c.new_target.ensures c.loop-i.invariant

-- all transitions are passed
pub returns : goal.returns
returns c = gathering_all (omega (arith, length_node_transitions _ _ c.requires.0)) c.loop-i.invariant
