-- `admission_node::mark_targets` meets its contract. Assumes nothing.
use Rattle.std.proofs.Common.{refl, ◌<◌, length, arith}
use Rattle.node.specs.Read.{transitions_in}
use Rattle.node.specs.ReadLaws.{length_node_transitions}
use Rattle.admission_node.proofs.Marking.{mark_room, mark_fresh, marked_step, marked_all}
use Rattle.admission_node.proofs.mark_targets.Goals as goal

-- the target lies within the depths, so its place in bytes fits too
pub offset_bounds-depths-to : goal.offset_bounds-depths-to
offset_bounds-depths-to c =
    let in_list : c.loop-i.i < length (transitions_in c.args.file.now c.args.node) = omega (arith, length_node_transitions _ _ c.requires.0) in
    omega (arith, mark_room c.requires.3 c.loop-i.i in_list _ c.target_at-to.ensures c.loop-i.invariant)

pub bounds-depths-to : goal.bounds-depths-to
bounds-depths-to c =
    let in_list : c.loop-i.i < length (transitions_in c.args.file.now c.args.node) = omega (arith, length_node_transitions _ _ c.requires.0) in
    mark_room c.requires.3 c.loop-i.i in_list _ c.target_at-to.ensures c.loop-i.invariant

pub marked-requires : goal.marked-requires
marked-requires c =
    let in_list : c.loop-i.i < length (transitions_in c.args.file.now c.args.node) = omega (arith, length_node_transitions _ _ c.requires.0) in
    let to = c.target_at-to.ensures in
    (mark_room c.requires.3 c.loop-i.i in_list _ to c.loop-i.invariant, mark_fresh c.requires.3 c.loop-i.i in_list _ to c.loop-i.invariant c.requires.4)

-- one transition more
pub loop-i-preserved : goal.loop-i-preserved
loop-i-preserved c =
    let in_list : c.loop-i.i < length (transitions_in c.args.file.now c.args.node) = omega (arith, length_node_transitions _ _ c.requires.0) in
    marked_step c.requires.3 c.loop-i.i in_list _ c.target_at-to.ensures c.loop-i.invariant _ c.marked.ensures

-- all transitions are passed
pub returns : goal.returns
returns c = (marked_all c.loop-i.invariant (omega (arith, length_node_transitions _ _ c.requires.0)), refl)
