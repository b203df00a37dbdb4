-- `counting_node::count_at` meets its contract: what its targets say of a sound node, by the form of its state. Assumes nothing.
use Rattle.std.proofs.Common.{refl, ap}
use Rattle.node_sound.specs.Shapes.{is_any}
use Rattle.counting_node.proofs.Judged.{targets_inside}
use Rattle.counting_node.proofs.count_at.Goals as goal

-- the targets lie within the table
pub count_any-requires : goal.count_any-requires
count_any-requires c =
    let judged = c.any_node.ensures.0 in
    (judged.readable _ refl, targets_inside judged c.requires.0.inside c.requires.1)

-- there is one transition, and its target lies within the table
pub count_one-requires : goal.count_one-requires
count_one-requires c =
    let judged = c.one_node.ensures.0 in
    let readable = judged.readable _ refl in
    (readable, readable.single (ap is_any c.one_node.ensures.1), targets_inside judged c.requires.0.inside c.requires.1)

-- the same of one that leads to the node just below it
pub count_one-requires-in-OneTransNext : goal.count_one-requires-in-OneTransNext
count_one-requires-in-OneTransNext c =
    let judged = c.next_node.ensures.0 in
    let readable = judged.readable _ refl in
    (readable, readable.single (ap is_any c.next_node.ensures.1), targets_inside judged c.requires.0.inside c.requires.1)
