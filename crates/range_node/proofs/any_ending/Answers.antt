-- The node is not sound, or what is read of it is what its judgement says.
use Rattle.std.proofs.Common.{◌≡◌, Err, sym, ap, arith}
use Rattle.format.specs.Laws.NodeLaws.{node_at_unsound}
use Rattle.range_node.specs.Entries.{met_of}
use Rattle.range_node.proofs.any_ending.Goals as goal

-- it is not sound
pub returns-in_err-ok_or : goal.returns-in_err-ok_or
returns-in_err-ok_or c =
    let a = c.args in
    let told : c.from_residual.result ≡ Err c.in_err-ok_or.field-0.0 = grind arith in
    rw told
    (sym
    (ap met_of
    (node_at_unsound a.fst.bytes.now a.fst.version a.fst.root a.addr (λ z. omega (arith, c.requires.0.low)) (c.any_parts.ensures.none c.in_err-ok_or.ensures.ok_part))))
