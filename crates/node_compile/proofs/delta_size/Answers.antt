-- No transition has no delta, and the largest delta has the size of all.
use Rattle.std.proofs.Common.{◌∙◌, sym, map, length, eqb-true, arith}
use Rattle.std.proofs.lemmas.Bool.{eqb-false}
use Rattle.format.specs.Packed.{delta_of}
use Rattle.format.specs.Laws.PackedLaws.{length_deltas, delta_size_is}
use Rattle.node_compile.proofs.Sizes.{delta_size_none}
use Rattle.node_compile.proofs.delta_size.Goals as goal

pub returns-then-is_empty : goal.returns-then-is_empty
returns-then-is_empty c =
    let ts = c.args.targets.now in
    sym (delta_size_none (map (delta_of c.args.first) ts)
    (length_deltas c.args.first ts ∙ eqb-true (length ts) 0 (sym c.is_empty.ensures ∙ c.if-is_empty.true)))

pub returns : goal.returns
returns c =
    let ts = c.args.targets.now in
    let some = eqb-false (length ts) 0 (sym c.is_empty.ensures ∙ c.if-is_empty.false) in
    c.pack_size.ensures.is ∙ (rw c.largest_delta.ensures)
    ∙ sym (delta_size_is (map (delta_of c.args.first) ts) (omega (arith, some, length_deltas c.args.first ts)))
