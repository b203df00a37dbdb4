-- The row loses base, and its record is then the node's.
-- Assumes nothing.
use Rattle.std.proofs.Common.{◌≡◌, ℕ, ◌-◌, ◌*◌, get_or, arith}
use Rattle.pack_close.specs.ClosingLaws.{finish_high, finish_less, finish_fits, finish_asked, finish_done}
use Rattle.pack_close.specs.OpenNodes.{tables_in}
use Rattle.pack_close.proofs.Tables.finish_row.Goals as goal

pub subtract-requires : goal.subtract-requires
subtract-requires c =
    let a = c.args in
    let n : ℕ = get_or a.self.now.nodes.counts a.d 0 in
    let same : c.row-row.result.end - 256 * a.d ≡ n = omega (arith, c.row-row.ensures.0, c.row-row.ensures.1) in
    rw c.row-row.ensures.0 (finish_high a.output.now a.first a.cells.now (tables_in a.self.now) a.d a.base c.requires _ same)

pub node-node-requires : goal.node-node-requires
node-node-requires c =
    let a = c.args in
    let n : ℕ = get_or a.self.now.nodes.counts a.d 0 in
    let same : c.row-row.result.end - 256 * a.d ≡ n = omega (arith, c.row-row.ensures.0, c.row-row.ensures.1) in
    let T = tables_in a.self.now in
    let less = finish_less a.output.now a.first a.cells.now T a.d a.base c.requires c.subtract.new.numbers _ same (rw c.row-row.ensures.0 at c.subtract.ensures) in
    rw c.row-row.ensures.0 (finish_fits a.output.now a.first a.cells.now T a.d a.base c.requires _ less)

pub intern-requires : goal.intern-requires
intern-requires c =
    let a = c.args in
    let n : ℕ = get_or a.self.now.nodes.counts a.d 0 in
    let same : c.row-row.result.end - 256 * a.d ≡ n = omega (arith, c.row-row.ensures.0, c.row-row.ensures.1) in
    let T = tables_in a.self.now in
    let less = finish_less a.output.now a.first a.cells.now T a.d a.base c.requires c.subtract.new.numbers _ same (rw c.row-row.ensures.0 at c.subtract.ensures) in
    finish_asked a.output.now a.first a.cells.now T a.d a.base c.requires _ less _ c.final_out-final_output.ensures (rw c.row-row.ensures.0 at c.node-node.ensures)

pub returns : goal.returns
returns c =
    let a = c.args in
    let n : ℕ = get_or a.self.now.nodes.counts a.d 0 in
    let same : c.row-row.result.end - 256 * a.d ≡ n = omega (arith, c.row-row.ensures.0, c.row-row.ensures.1) in
    let T = tables_in a.self.now in
    let less = finish_less a.output.now a.first a.cells.now T a.d a.base c.requires c.subtract.new.numbers _ same (rw c.row-row.ensures.0 at c.subtract.ensures) in
    rw c.row-row.ensures.0 (finish_done a.output.now a.first a.cells.now T a.d a.base c.requires _ less _ c.final_out-final_output.ensures (rw c.row-row.ensures.0 at c.node-node.ensures) c.intern.ensures)
