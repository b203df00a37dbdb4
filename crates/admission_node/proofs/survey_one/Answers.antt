-- `admission_node::survey_one` meets its contract: what the one transition of a node says. Assumes nothing.
use Rattle.std.proofs.Common.{◌≡◌, refl, length, arith, ◌∙◌}
use Rattle.node.specs.Read.{transitions_in}
use Rattle.node.specs.ReadLaws.{length_node_transitions}
use Rattle.admission_node.proofs.Surveying.{target_in_depths, target_in_sums, target_small, surveyed_single}
use Rattle.admission_node.proofs.survey_one.Goals as goal

-- the target lies within the depths
pub child_depth-d-requires : goal.child_depth-d-requires
child_depth-d-requires c =
    let one : length (transitions_in c.args.file.now c.args.node) ≡ 1 = length_node_transitions _ _ c.requires.0 ∙ c.requires.1 in
    let t = c.transition_addr-t.ensures in
    (target_in_depths c.requires.2 0 (omega arith) _ t, c.requires.2.no_depth, target_small c.requires.2 0 (omega arith) _ t _ refl)

-- the target lies within the sums
pub child_sum-s-requires : goal.child_sum-s-requires
child_sum-s-requires c =
    (target_in_sums c.requires.2 0 (omega (arith, length_node_transitions _ _ c.requires.0)) _ c.transition_addr-t.ensures, c.requires.2.no_sum)

-- the entry of the target is small
pub overflow_add-result : goal.overflow_add-result
overflow_add-result c =
    let one : length (transitions_in c.args.file.now c.args.node) ≡ 1 = length_node_transitions _ _ c.requires.0 ∙ c.requires.1 in
    omega (arith, target_small c.requires.2 0 (omega arith) _ c.transition_addr-t.ensures _ c.child_depth-d.ensures)

-- the transition is all that there is
pub returns : goal.returns
returns c =
    surveyed_single c.requires.2 (length_node_transitions _ _ c.requires.0 ∙ c.requires.1) _ c.transition_addr-t.ensures _ c.child_depth-d.ensures
    _ _ _ c.child_sum-s.ensures c.output-w.ensures c.raised-total.ensures
