-- `node_way::any_way` meets its contract: the place that is found is right, and leads where the input does.
-- Assumes nothing.
use Rattle.std.proofs.Common.{refl, ◌∙◌, arith}
use Rattle.node.specs.AccessorLaws.{delta_le}
use Rattle.node_way.specs.Ways.{any_node}
use Rattle.node_way.specs.StepOfLaws.{place_lt, way_at_is}
use Rattle.node_way.proofs.any_way.Goals as goal

-- the place is one of the node's, and no delta is above the first byte
pub way_at-requires : goal.way_at-requires
way_at-requires c =
    let a = c.args in
    let s = a.file.now in
    let m = any_node a.parts in
    let inside = place_lt s m c.requires a.b c.find_in-found.result (rw c.inputs.ensures at c.find_in-found.ensures) in
    (omega (arith, c.requires.room), c.requires.osize_le, c.requires.tsize_le, record { inside = inside; reach = λ i e. delta_le s m c.requires i (inside i e) _ refl })

-- it leads where the input does
pub returns : goal.returns
returns c =
    let a = c.args in
    let m = any_node a.parts in
    c.way_at.ensures ∙ way_at_is a.file.now m c.requires a.b c.find_in-found.result (rw c.inputs.ensures at c.find_in-found.ensures)
