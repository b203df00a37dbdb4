-- A node's parts, written one after the other from the buffer's first byte.
-- Assumes nothing.
use mathlib.Core.Path.{◌≡◌, refl, ◌∙◌}
use mathlib.Core.List.{List, [], ◌∷◌, ◌++◌, map}
use Prim.Native.Nat.{ℕ, ◌+◌, ◌≤◌}
use native.Mathlib.Omega.{arith}
use lib.ListN.{length, set}
use Rattle.format.specs.Bytes.{bytes_of}
use Rattle.format.specs.Laws.BytesLaws.{length_bytes_of}
use Rattle.buffers.specs.Put.{put, PutAt}
use Rattle.buffers.specs.WritingLaws.{Writing, writing_none, part_room, part_written}
use Rattle.node_parts.specs.ByteLaws.{put_one_byte}
use Rattle.format.specs.Node.{end_len}
use Rattle.format.specs.Packed.{BuilderNode, delta_of, stored_numbers, stored_bytes, index_bytes, sizes_of, head_of, packed_any}
use Rattle.node_compile.specs.Parts.{any_in, AnyFits}

-- a number in k bytes, by a callee that is given size and leaves the place to its caller
pub number_written : (out : List ℕ) (at n k size : ℕ) (out' : List ℕ) (p : ℕ) → size ≡ k → p ≡ at + size → out' ≡ put out at (bytes_of size n)
    → PutAt out at (bytes_of k n) out' p
number_written out at n k size out' p is_k is_p is_put = record {
  is = is_put ∙ rw is_k;
  next = omega (arith, length_bytes_of k n);
}

pub number_room : {out₀ whole out : List ℕ} {p : ℕ} (n k size : ℕ) (rest : List ℕ) → size ≡ k → Writing out₀ whole (bytes_of k n ++ rest) out p
    → p + size ≤ length out
number_room n k size rest is_k w = omega (arith, part_room (bytes_of k n) rest w, length_bytes_of k n)

-- one byte more
pub byte_written : {out₀ whole out rest : List ℕ} {p b : ℕ} (x : ℕ) → x ≡ b → Writing out₀ whole (b ∷ rest) out p → Writing out₀ whole rest (set out p x) (p + 1)
byte_written {out₀} {whole} {out} {rest} {p} {b} x is w =
    part_written (b ∷ []) rest (set out p x) (p + 1) w (rw (← is) (put_one_byte out p x (part_room (b ∷ []) rest w)))

-- ---- the forms 00 and 01

pub any_parts : (b : BuilderNode) (deltas : List ℕ) (osize tsize : ℕ)
    → bytes_of (end_len b.final osize) b.final_output
    ++ (stored_numbers osize b.outputs
    ++ (stored_numbers tsize deltas
    ++ (stored_bytes b.inputs
    ++ (index_bytes b.inputs
    ++ ((sizes_of tsize osize ∷ []) ++ head_of b.final (length b.inputs))))))
    ≡ packed_any b deltas osize tsize
unfolding packed_any
any_parts b deltas osize tsize = refl

-- the final output is to be written first
pub any_start : {first : ℕ} {b : BuilderNode} {osize tsize : ℕ} (out₀ : List ℕ) → AnyFits first b osize tsize (length out₀)
    → Writing out₀ (any_in first b osize tsize)
    (bytes_of (end_len b.final osize) b.final_output
    ++ (stored_numbers osize b.outputs
    ++ (stored_numbers tsize (map (delta_of first) b.targets)
    ++ (stored_bytes b.inputs ++ (index_bytes b.inputs ++ ((sizes_of tsize osize ∷ []) ++ head_of b.final (length b.inputs)))))))
    out₀ 0
any_start {first} {b} {osize} {tsize} out₀ fits = writing_none out₀ (any_in first b osize tsize) _ (any_parts b (map (delta_of first) b.targets) osize tsize) fits.fits
