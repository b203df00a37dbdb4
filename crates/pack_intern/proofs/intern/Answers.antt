-- The definition's four ways, by the choice.
-- Assumes nothing.
use Rattle.std.proofs.Common.{◌+◌, sym, ◌∙◌, arith}
use Rattle.std.proofs.lemmas.List.{get_or_default}
use Rattle.node_compile.specs.Compile.{builder_is}
use Rattle.pack_intern.specs.InterningLaws.{row_is, found_nothing, found_first, found_second, by_write}
use Rattle.pack_intern.proofs.intern.Goals as goal

pub returns-then-packs_to_nothing : goal.returns-then-packs_to_nothing
returns-then-packs_to_nothing c =
    let a = c.args in
    found_nothing a.output.now a.first a.cells.now c.requires.0 (builder_is a.node)
    (sym c.packs_to_nothing.ensures ∙ c.if-packs_to_nothing.true)

pub write_node-requires : goal.write_node-requires
write_node-requires c =
    let a = c.args in
    record {
      ready = c.requires.0;
      fits = c.requires.1;
      some = sym c.packs_to_nothing.ensures ∙ c.if-packs_to_nothing.false;
      row = row_is a.output.now a.first a.cells.now c.requires.0 (builder_is a.node)
          c.hash-own_hash.result c.row_of-i.result c.hash-own_hash.ensures c.row_of-i.ensures.0;
      low = c.row_of-i.ensures.1;
      hash_is = c.hash-own_hash.ensures;
    }

pub returns-in-First : goal.returns-in-First
returns-in-First c =
    let a = c.args in
    let b = builder_is a.node in
    found_first a.output.now a.first a.cells.now c.requires.0 b (sym c.packs_to_nothing.ensures ∙ c.if-packs_to_nothing.false) _
    (row_is a.output.now a.first a.cells.now c.requires.0 b c.hash-own_hash.result c.row_of-i.result c.hash-own_hash.ensures c.row_of-i.ensures.0)
    c.row_of-i.ensures.1 (get_or_default a.cells.now c.row_of-i.result _ _ (omega (arith, c.row_of-i.ensures.1))) (get_or_default a.cells.now (c.row_of-i.result + 1) _ _ c.row_of-i.ensures.1)
    c.choose.result c.choose.ensures c.in-First.is

pub returns-in-Second : goal.returns-in-Second
returns-in-Second c =
    let a = c.args in
    let b = builder_is a.node in
    found_second a.output.now a.first a.cells.now c.requires.0 b (sym c.packs_to_nothing.ensures ∙ c.if-packs_to_nothing.false) _
    (row_is a.output.now a.first a.cells.now c.requires.0 b c.hash-own_hash.result c.row_of-i.result c.hash-own_hash.ensures c.row_of-i.ensures.0)
    c.row_of-i.ensures.1 (get_or_default a.cells.now c.row_of-i.result _ _ (omega (arith, c.row_of-i.ensures.1))) (get_or_default a.cells.now (c.row_of-i.result + 1) _ _ c.row_of-i.ensures.1)
    c.choose.result c.choose.ensures c.in-Second.is _ c.promote.auto.cells c.promote.ensures

pub returns-in-Write : goal.returns-in-Write
returns-in-Write c =
    let a = c.args in
    let b = builder_is a.node in
    by_write a.output.now a.first a.cells.now c.requires.0 b (sym c.packs_to_nothing.ensures ∙ c.if-packs_to_nothing.false) _
    (row_is a.output.now a.first a.cells.now c.requires.0 b c.hash-own_hash.result c.row_of-i.result c.hash-own_hash.ensures c.row_of-i.ensures.0)
    c.row_of-i.ensures.1 (get_or_default a.cells.now c.row_of-i.result _ _ (omega (arith, c.row_of-i.ensures.1))) (get_or_default a.cells.now (c.row_of-i.result + 1) _ _ c.row_of-i.ensures.1)
    c.choose.result c.choose.ensures c.in-Write.is _ _ _ c.write_node.ensures
