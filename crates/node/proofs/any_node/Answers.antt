-- The node is sound, so its parts lie in the file, and each number that was read is the definition's.
use Rattle.std.proofs.Common.{◌≡◌, refl, ap, ◌∙◌, List, ℕ, ◌+◌, ◌-◌, ◌≤◌, take, drop, length-drop, arith}
use Rattle.format.specs.Bytes.{le}
use Rattle.format.specs.Node.{shape_of, end_len, outputs_at, SoundShape, SoundAt}
use Rattle.format.specs.Laws.StoredLaws.{part_rest}
use Rattle.node_sound.specs.declared.Shape.{Shape}
use Rattle.node_sound.specs.Shapes.{shape_is}
use Rattle.node_sound.specs.JudgingLaws.{Parts, parts, end_len_le, sound_low, shape_sound}
use Rattle.node.specs.JudgedLaws.{judged_yes}
use Rattle.node.proofs.any_node.Goals as goal

-- what the shape that was read says of a sound node
record Held (s : List ℕ) (root a : ℕ) (h : Shape) : Type 0 where
  low : 16 ≤ a
  parts : Parts (shape_is h)
  shape : SoundShape s root a (shape_is h) (a + 1 - h.size)

held : (s : List ℕ) (v root a : ℕ) (h : Shape) → SoundAt s v root a → shape_is h ≡ shape_of s v a → Held s root a h
held s v root a h sound is_h =
    let low = sound_low s v root a sound in
    record {
      low = low;
      parts = parts s v root a (shape_is h) is_h (λ z. omega arith);
      shape = shape_sound s v root a (shape_is h) is_h (λ z. omega arith) sound;
    }

-- the parts lie within the node, which lies above the header
pub parts-parts-requires : goal.parts-parts-requires
parts-parts-requires c =
    let k = held c.args.fst.bytes.now c.args.fst.version c.args.fst.root c.args.addr c.shape_of-shape.result c.requires.0 c.shape_of-shape.ensures.0 in
    (omega (arith, k.shape.above), omega (arith, k.parts.whole, c.shape_of-shape.ensures.1), c.shape_of-shape.ensures.1)

-- the final output has at most 8 bytes, and they lie within the node
pub unpack_uint-final_output-requires : goal.unpack_uint-final_output-requires
unpack_uint-final_output-requires c =
    let s = c.args.fst.bytes.now in
    let h = c.shape_of-shape.result in
    let k = held s c.args.fst.version c.args.fst.root c.args.addr h c.requires.0 c.shape_of-shape.ensures.0 in (
      omega (arith, k.shape.sizes.osize_le, end_len_le h.is_final h.osize, c.shape_of-shape.ensures.1),
      rw (part_rest s c.parts-parts.result.first, c.parts-parts.ensures)
          (simp length-drop (omega (arith, k.shape.above, k.shape.inside, k.parts.whole, c.shape_of-shape.ensures.1))),
    )

-- the final output is the number of its bytes
pub returns : goal.returns
returns c =
    let s = c.args.fst.bytes.now in
    let h = c.shape_of-shape.result in
    let first = c.args.addr + 1 - h.size in
    let k = held s c.args.fst.version c.args.fst.root c.args.addr h c.requires.0 c.shape_of-shape.ensures.0 in
    let is_first : c.parts-parts.result.first ≡ first = rw c.parts-parts.ensures in
    let fo : c.unpack_uint-final_output.result ≡ le (take (end_len h.is_final h.osize) (drop first s)) =
    c.unpack_uint-final_output.ensures ∙ ap (λ (l : List ℕ). le (take h.end_len l)) (part_rest s c.parts-parts.result.first)
    ∙ ap (λ (n : ℕ). le (take h.end_len (drop n s))) is_first ∙ ap (λ (n : ℕ). le (take n (drop first s))) c.shape_of-shape.ensures.1 in (
      rw c.parts-parts.ensures
          (judged_yes s c.args.fst.version c.args.fst.root c.args.addr (shape_is h) c.shape_of-shape.ensures.0 (λ z. omega (arith, k.low))
          c.unpack_uint-final_output.result 0 (outputs_at first h.is_final h.osize) k.shape fo refl refl),
      refl,
    )
