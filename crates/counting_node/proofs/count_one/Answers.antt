-- `counting_node::count_one` meets its contract: the one turn of the loop that passes all transitions.
-- Assumes nothing.
use Rattle.std.proofs.Common.{◌≡◌, length, ◌∙◌, arith}
use Rattle.node.specs.Read.{transitions_in}
use Rattle.node.specs.ReadLaws.{length_node_transitions}
use Rattle.counting_node.proofs.Adding.{counted_none, target_inside, counted_step, counted_all}
use Rattle.counting_node.proofs.count_one.Goals as goal

-- the target lies within the table
pub child_keys-k-requires : goal.child_keys-k-requires
child_keys-k-requires c =
    let one : length (transitions_in c.args.file.now c.args.node) ≡ 1 = length_node_transitions _ _ c.requires.0 ∙ c.requires.1 in
    target_inside 0 (omega arith) _ c.transition_addr-t.ensures c.requires.2

-- the one transition is passed
pub returns : goal.returns
returns c =
    let one : length (transitions_in c.args.file.now c.args.node) ≡ 1 = length_node_transitions _ _ c.requires.0 ∙ c.requires.1 in
    counted_all
    (counted_step 0 (omega arith) _ c.transition_addr-t.ensures _ _ (counted_none _ _ _ _ c.own_key.ensures) c.child_keys-k.ensures c.added.ensures)
    (omega arith)
