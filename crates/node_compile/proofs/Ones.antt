-- A node of the form 10: output, delta, sizes byte and state are written one after the other. Each law says what is still to be written.
-- Assumes nothing.
use Rattle.std.proofs.Common.{◌≡◌, refl, List, [], ◌∷◌, ◌++◌, ℕ, ◌+◌, ◌≤◌, length, set, arith}
use Rattle.format.specs.Bytes.{bytes_of, pack_size}
use Rattle.format.specs.Packed.{output_size, sizes_of}
use Rattle.buffers.specs.Put.{put}
use Rattle.buffers.specs.WritingLaws.{Writing, writing_none, part_room, part_written}
use Rattle.node_parts.specs.ByteLaws.{put_one_byte}
use Rattle.node_compile.specs.Parts.{state_for, one_for}
use Rattle.node_compile.proofs.Whole.{number_written}

module _ (idx rare output delta : ℕ) where
  abbrev whole : List ℕ
  whole = one_for idx rare output delta

  abbrev state : List ℕ
  state = state_for 128 idx rare

  abbrev sizes : List ℕ
  sizes = sizes_of (pack_size delta) (output_size output) ∷ []

  abbrev delta_bytes : List ℕ
  delta_bytes = bytes_of (pack_size delta) delta

  abbrev output_bytes : List ℕ
  output_bytes = bytes_of (output_size output) output

  module _ (out : List ℕ) (room : length whole ≤ length out) (osize : ℕ) (o : osize ≡ output_size output) where
    pub at_output : Writing out whole (output_bytes ++ (delta_bytes ++ (sizes ++ state))) out 0
    at_output = writing_none out whole _ refl room

    module _ (out₁ : List ℕ) (e₁ : out₁ ≡ put out 0 (bytes_of osize output)) where
      pub at_delta : Writing out whole (delta_bytes ++ (sizes ++ state)) out₁ osize
      at_delta =
          part_written output_bytes _ out₁ osize at_output (number_written out 0 output (output_size output) osize out₁ osize o (omega arith) e₁)

      module _ (tsize : ℕ) (t : tsize ≡ pack_size delta) (out₂ : List ℕ) (e₂ : out₂ ≡ put out₁ osize (bytes_of tsize delta)) where
        at_sizes : Writing out whole (sizes ++ state) out₂ (osize + tsize)
        at_sizes =
            part_written delta_bytes _ out₂ (osize + tsize) at_delta (number_written out₁ osize delta (pack_size delta) tsize out₂ (osize + tsize) t refl e₂)

        pub sizes_room : osize + tsize + 1 ≤ length out₂
        sizes_room = part_room sizes state at_sizes

        pub at_state : (b : ℕ) → b ≡ sizes_of tsize osize → Writing out whole state (set out₂ (osize + tsize) b) (osize + tsize + 1)
        at_state b is =
            let same : b ≡ sizes_of (pack_size delta) (output_size output) = omega (arith, o, t) in
            part_written sizes state _ _ at_sizes (rw (← same) (put_one_byte out₂ (osize + tsize) b sizes_room))
