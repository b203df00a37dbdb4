-- The form that the node packs to decides.
use Rattle.std.proofs.Common.{sym, ap, subst, ◌∙◌, List, ℕ, length, arith}
use Rattle.std.proofs.lemmas.List.{length-map}
use Rattle.format.specs.declared.Transition.{Transition}
use Rattle.node_compile.specs.Parts.{Code}
use Rattle.format.specs.Laws.PackedLaws.{packed_nothing, output_size_le}
use Rattle.node.specs.Read.{meaning}
use Rattle.node.specs.ReadLaws.{length_node_transitions}
use Rattle.convert_size.proofs.Sizing.{any_sized, nothing_is, one_is, one_single}
use Rattle.convert_size.proofs.len_any.Goals as goal

-- no bytes
pub returns-then-packs_to_nothing : goal.returns-then-packs_to_nothing
returns-then-packs_to_nothing c =
    let a = c.args in
    let m = meaning a.file.now a.node in
    let nothing = sym (nothing_is m a.moved.now a.node.ntrans (sym (length_node_transitions _ _ c.requires.0))) ∙ sym c.packs_to_nothing.ensures
    ∙ c.if-packs_to_nothing.true in
    sym (ap (λ (l : List ℕ). length l) (packed_nothing a.first _ nothing))

-- the forms 10 and 11
pub len_single-requires : goal.len_single-requires
len_single-requires c =
    let a = c.args in
    let m = meaning a.file.now a.node in
    let is = one_single m a.moved.now a.node.ntrans (sym (length_node_transitions _ _ c.requires.0)) (sym c.has_one.ensures ∙ c.if-has_one.true) in (
      c.requires.0,
      record {
        final = is.final;
        one = is.one;
        code = subst (λ (i : ℕ). Code i c.of-kept.result.idx c.of-kept.result.input) c.input.ensures c.of-kept.ensures.0;
      },
      c.requires.1,
    )

-- at most 256 transitions, and sizes of at most 8
pub any_len-requires : goal.any_len-requires
any_len-requires c =
    let m = meaning c.args.file.now c.args.node in (
      omega (arith, c.requires.1.fits.few, length_node_transitions _ _ c.requires.0, length-map m.transitions (λ (t : Transition). t.inp)),
      omega (arith, output_size_le c.most_of-most.result.output),
      omega (arith, c.pack_size.ensures.high),
    )

-- the forms 00 and 01
pub returns : goal.returns
returns c =
    let a = c.args in
    let m = meaning a.file.now a.node in
    let n = a.node.ntrans in
    let count = sym (length_node_transitions a.file.now a.node c.requires.0) in
    c.any_len.ensures
    ∙ any_sized c.requires.1 n c.output_size.result c.from-tsize.result
    (sym (nothing_is m a.moved.now n count) ∙ sym c.packs_to_nothing.ensures ∙ c.if-packs_to_nothing.false)
    (sym (one_is m a.moved.now n count) ∙ sym c.has_one.ensures ∙ c.if-has_one.false) count c.most_of-most.ensures c.output_size.ensures
    (c.from-tsize.ensures ∙ c.pack_size.ensures.is)
