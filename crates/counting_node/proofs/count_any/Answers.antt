-- `counting_node::count_any` meets its contract. Assumes nothing.
use Rattle.std.proofs.Common.{◌<◌, length, arith}
use Rattle.node.specs.Read.{transitions_in}
use Rattle.node.specs.ReadLaws.{length_node_transitions}
use Rattle.counting_node.proofs.Adding.{counted_none, target_inside, counted_step, counted_all}
use Rattle.counting_node.proofs.count_any.Goals as goal

-- no transition is passed yet
pub loop-i-init : goal.loop-i-init
loop-i-init c = counted_none _ _ _ _ c.own_key.ensures

-- the target lies within the table
pub child_keys-k-requires : goal.child_keys-k-requires
child_keys-k-requires c =
    let in_list : c.loop-i.i < length (transitions_in c.args.file.now c.args.node) = omega (arith, length_node_transitions _ _ c.requires.0) in
    target_inside c.loop-i.i in_list _ c.transition_addr-t.ensures c.requires.1

-- one transition more
pub loop-i-preserved : goal.loop-i-preserved
loop-i-preserved c =
    let in_list : c.loop-i.i < length (transitions_in c.args.file.now c.args.node) = omega (arith, length_node_transitions _ _ c.requires.0) in
    counted_step c.loop-i.i in_list _ c.transition_addr-t.ensures _ _ c.loop-i.invariant c.child_keys-k.ensures c.added-total.ensures

-- all transitions are passed
pub returns : goal.returns
returns c = counted_all c.loop-i.invariant (omega (arith, length_node_transitions _ _ c.requires.0))
