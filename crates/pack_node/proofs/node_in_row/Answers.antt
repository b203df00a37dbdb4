-- The node is finished in its row, and keys are opened until the next has to be; or there is no room for it.
-- Assumes nothing.
use Rattle.std.proofs.Common.{◌≡◌, ◌+◌, ◌-◌, refl, rules, arith}
use Rattle.pack_node.specs.NodeStepsLaws.{node_asked, node_full, node_started, node_next, node_at, steps_full, steps_done}
use Rattle.pack_turn.specs.RowClosingLaws.{closes_in_row}
use Rattle.pack_node.proofs.node_in_row.Goals as goal

pub overflow_sub-e : goal.overflow_sub-e
overflow_sub-e c = let l = c.requires.low in search rules

pub close_one-requires : goal.close_one-requires
close_one-requires c = node_asked c.requires.at c.args.row.now c.requires.taken (c.args.way.depth - 1) (omega (arith, c.requires.low))

pub returns-in_err-next : goal.returns-in_err-next
returns-in_err-next c =
    let deep : c.args.way.depth ≡ c.args.way.depth - 1 + 1 = omega (arith, c.requires.low) in
    let C = node_asked c.requires.at c.args.row.now c.requires.taken (c.args.way.depth - 1) deep in
    let closed = closes_in_row c.args.output.now c.args.first c.args.row.now _ (c.args.way.depth - 1) C c.close_one.result c.close_one.ensures.0 in
    rw c.from_residual.ensures (steps_full refl (λ table row at taken. node_full at c.args.row.now taken (c.args.way.depth - 1) deep closed c.in_err-next.was))

pub ahead-on-requires : goal.ahead-on-requires
ahead-on-requires c =
    let deep : c.args.way.depth ≡ c.args.way.depth - 1 + 1 = omega (arith, c.requires.low) in
    let C = node_asked c.requires.at c.args.row.now c.requires.taken (c.args.way.depth - 1) deep in
    let closed = closes_in_row c.args.output.now c.args.first c.args.row.now _ (c.args.way.depth - 1) C c.close_one.result c.close_one.ensures.0 in
    (c.requires.at.list, node_started c.requires.at c.args.row.now c.requires.taken (c.args.way.depth - 1) deep closed c.in_ok-next.next c.in_ok-next.was c.close_one.ensures.1)

pub row_next-next_row-requires : goal.row_next-next_row-requires
row_next-next_row-requires c =
    let deep : c.args.way.depth ≡ c.args.way.depth - 1 + 1 = omega (arith, c.requires.low) in
    let C = node_asked c.requires.at c.args.row.now c.requires.taken (c.args.way.depth - 1) deep in
    let closed = closes_in_row c.args.output.now c.args.first c.args.row.now _ (c.args.way.depth - 1) C c.close_one.result c.close_one.ensures.0 in
    node_next c.requires.at c.args.row.now c.requires.taken (c.args.way.depth - 1) deep closed c.in_ok-next.next c.in_ok-next.was c.close_one.ensures.1 c.ahead-on.ensures

pub returns : goal.returns
returns c =
    let deep : c.args.way.depth ≡ c.args.way.depth - 1 + 1 = omega (arith, c.requires.low) in
    let C = node_asked c.requires.at c.args.row.now c.requires.taken (c.args.way.depth - 1) deep in
    let closed = closes_in_row c.args.output.now c.args.first c.args.row.now _ (c.args.way.depth - 1) C c.close_one.result c.close_one.ensures.0 in
    let g = c.ahead-on.ensures in
    steps_done _ refl
    (λ table row at taken. node_at at c.args.row.now taken (c.args.way.depth - 1) deep closed c.in_ok-next.next c.in_ok-next.was c.close_one.ensures.1 g c.row_next-next_row.ensures)
    (omega (arith, g.gone.less))
