-- The shape is that of the form 10, and each number that was read is the definition's.
use Rattle.std.proofs.Common.{refl, sym, ◌+◌, ◌-◌, add-zero, arith}
use Rattle.format.specs.Bytes.{le}
use Rattle.node_sound.specs.JudgingLaws.{sound_low, shape_sound}
use Rattle.node.specs.JudgedLaws.{judged_yes}
use Rattle.node.proofs.one_node.Goals as goal

-- the node lies above the header
pub one_shape-one-requires : goal.one_shape-one-requires
one_shape-one-requires c =
    let a = c.args in
    let low = sound_low a.fst.bytes.now a.fst.version a.fst.root a.addr c.requires.0 in
    (omega (arith, low), c.requires.0.inside, c.requires.1)

pub first-first-requires : goal.first-first-requires
first-first-requires c =
    let a = c.args in
    let low = sound_low a.fst.bytes.now a.fst.version a.fst.root a.addr c.requires.0 in
    let shape = shape_sound a.fst.bytes.now a.fst.version a.fst.root a.addr _ c.one_shape-one.ensures.0 (λ z. omega (arith, low)) c.requires.0 in
    (omega (arith, c.one_shape-one.ensures.1), omega (arith, shape.above))

-- the node is that of the form 10
pub returns : goal.returns
unfolding le
returns c =
    let a = c.args in
    let s = a.fst.bytes.now in
    let first = a.addr + 1 - c.one_shape-one.result.size in
    let low = sound_low s a.fst.version a.fst.root a.addr c.requires.0 in
    let is_h = c.one_shape-one.ensures.0 in
    let shape = shape_sound s a.fst.version a.fst.root a.addr _ is_h (λ z. omega (arith, low)) c.requires.0 in (
      rw c.first-first.ensures
          (judged_yes s a.fst.version a.fst.root a.addr _ is_h (λ z. omega (arith, low)) 0 c.input_of-input.result first shape refl
          (rw c.input_of-input.ensures) (sym (add-zero first))),
      refl,
    )
