-- `admission_node::mark_one` meets its contract: the one target of a node gets its mark. Assumes nothing.
use Rattle.std.proofs.Common.{refl, arith, ◌∙◌}
use Rattle.node.specs.ReadLaws.{length_node_transitions}
use Rattle.admission_node.proofs.Marking.{single_inside, single_fresh, single_marked}
use Rattle.admission_node.proofs.mark_one.Goals as goal

-- the target lies within the depths, so its place in bytes fits too
pub offset_bounds-depths-t : goal.offset_bounds-depths-t
offset_bounds-depths-t c =
    omega (arith, single_inside c.requires.2 (length_node_transitions _ _ c.requires.0 ∙ c.requires.1) _ c.transition_addr-t.ensures)

pub bounds-depths-t : goal.bounds-depths-t
bounds-depths-t c = single_inside c.requires.2 (length_node_transitions _ _ c.requires.0 ∙ c.requires.1) _ c.transition_addr-t.ensures

pub marked-requires : goal.marked-requires
marked-requires c =
    let one = length_node_transitions _ _ c.requires.0 ∙ c.requires.1 in
    (single_inside c.requires.2 one _ c.transition_addr-t.ensures, single_fresh c.requires.2 one _ c.transition_addr-t.ensures)

-- the target is all that there is
pub returns : goal.returns
returns c =
    (single_marked c.requires.2 (length_node_transitions _ _ c.requires.0 ∙ c.requires.1) _ c.transition_addr-t.ensures _ _ c.marked.ensures, refl)
