-- The shape is that of the form 11, and each number that was read is the definition's.
use Rattle.std.proofs.Common.{refl, sym, ◌+◌, ◌-◌, add-zero, arith}
use Rattle.format.specs.Bytes.{le}
use Rattle.node_sound.specs.JudgingLaws.{sound_low, shape_sound}
use Rattle.node_sound.specs.ShapesLaws.{next_shape, shape_next}
use Rattle.node.specs.JudgedLaws.{judged_yes}
use Rattle.node.proofs.next_node.Goals as goal

-- the node is that of the form 11
pub returns : goal.returns
unfolding le
returns c =
    let s = c.args.fst.bytes.now in
    let len = c.head_len.result in
    let first = c.args.addr + 1 - len in
    let low = sound_low s c.args.fst.version c.args.fst.root c.args.addr c.requires.0 in
    let is_h = shape_next s c.args.fst.version c.args.addr len c.requires.1 c.head_len.ensures.is in
    let shape = shape_sound s c.args.fst.version c.args.fst.root c.args.addr (next_shape len) is_h (λ z. omega arith) c.requires.0 in (
      judged_yes s c.args.fst.version c.args.fst.root c.args.addr (next_shape len) is_h (λ z. omega arith) 0 c.input_of-input.result first shape refl
          (rw c.input_of-input.ensures) (sym (add-zero first)),
      refl,
    )
