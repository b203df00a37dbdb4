-- The place of the first greater input is at most the count, and a node has at most 256 transitions. Assumes nothing.
use Rattle.std.proofs.Common.{sym, ap, ◌∙◌, arith}
use Rattle.std.specs.Prelude.{Ok}
use Rattle.format.specs.Paths.{fst_with}
use Rattle.node_view.specs.View.{place_in}
use Rattle.node_view.specs.declared.Node.{Node}
use Rattle.oracle_node.proofs.NodeTold.{viewed, absent_small}
use Rattle.oracle_node.proofs.oracle_find_input.Goals as goal

pub overflow_add-result : goal.overflow_add-result
overflow_add-result c =
    let f = fst_with c.args.file.now c.args.version c.args.root in
    omega (
      arith,
      absent_small f c.args.addr c.args.b c.in-Ok-Err.p (λ i. (c.type_inv.file i).fits)
          (ap (λ (w : Node). place_in (viewed w) c.args.b) (sym c.new.ensures) ∙ sym c.find_input.ensures ∙ c.in-Ok-Err.is ∙ ap Ok c.in-Ok-Err.field-0-is),
    )
