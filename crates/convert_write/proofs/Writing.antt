-- The parts of a new file, one after the other.
-- Assumes nothing.
use mathlib.Core.Path.{◌≡◌, refl, sym, ap, ◌∙◌}
use mathlib.Core.List.{List, ◌++◌}
use Prim.Native.Nat.{ℕ, ◌+◌, ◌≤◌}
use native.Mathlib.Omega.{arith}
use lib.ListN.{length, take, drop, length-append, length-take, length-drop}
use Rattle.format.specs.Bytes.{bytes_of}
use Rattle.format.specs.Laws.BytesLaws.{length_bytes_of}
use Rattle.buffers.specs.Put.{put, PutAt}
use Rattle.buffers.specs.PutLaws.{put_next}
use Rattle.buffers.specs.WritingLaws.{writing_none, part_written, last_written}
use Rattle.convert_layout.specs.PartLaws.{placed}
use Rattle.convert_write.specs.Written.{header_of, file_of}

type_len : (s : List ℕ) → 16 ≤ length s → length (take 8 (drop 8 s)) ≡ 8
type_len s low = omega (arith, length-take 8 (drop 8 s), length-drop 8 s)

pub header_len : (s : List ℕ) → 16 ≤ length s → length (header_of s) ≡ 16
header_len s low = omega (arith, length-append (bytes_of 8 2) (take 8 (drop 8 s)), length_bytes_of 8 2, type_len s low)

pub header_written : (s o₀ o₁ part o₂ : List ℕ) → 16 ≤ length s → 16 ≤ length o₀ → o₁ ≡ put o₀ 0 (bytes_of 8 2) → part ≡ take 8 (drop 8 s)
    → o₂ ≡ take 8 o₁ ++ (part ++ drop 8 (drop 8 o₁)) → o₂ ≡ put o₀ 0 (header_of s)
header_written s o₀ o₁ part o₂ low room first second whole =
    let n = type_len s low in
    let is : part ++ drop 8 (drop 8 o₁) ≡ take 8 (drop 8 s) ++ drop (length (take 8 (drop 8 s))) (drop 8 o₁) =
    ap (λ (x : List ℕ). x ++ drop 8 (drop 8 o₁)) second ∙ ap (λ (k : ℕ). take 8 (drop 8 s) ++ drop k (drop 8 o₁)) (sym n) in
    whole ∙ placed 8 o₁ (take 8 (drop 8 s)) (drop 8 o₁) (part ++ drop 8 (drop 8 o₁)) refl is
    ∙ put_next o₀ 0 (bytes_of 8 2) (take 8 (drop 8 s)) first (omega (arith, length_bytes_of 8 2)) (omega (arith, n, length_bytes_of 8 2))

-- header, nodes, count, root
pub file_written : (s nodes o₀ o₁ o₂ o₃ o₄ : List ℕ) (count root end : ℕ) → 16 ≤ length s → 32 + length nodes ≤ length o₀ → o₁ ≡ put o₀ 0 (header_of s)
    → PutAt o₁ 16 nodes o₂ end → o₃ ≡ put o₂ end (bytes_of 8 count) → o₄ ≡ put o₃ (end + 8) (bytes_of 8 root) → o₄ ≡ put o₀ 0 (file_of s nodes count root)
file_written s nodes o₀ o₁ o₂ o₃ o₄ count root end low room first second third fourth =
    let h = header_len s low in
    let c = length_bytes_of 8 count in
    let r = length_bytes_of 8 root in
    let all : length (file_of s nodes count root) ≡ 32 + length nodes =
    omega (arith, length-append (header_of s) (nodes ++ (bytes_of 8 count ++ bytes_of 8 root)), length-append nodes (bytes_of 8 count ++ bytes_of 8 root), length-append (bytes_of 8 count) (bytes_of 8 root)) in
    let w₀ = writing_none o₀ (file_of s nodes count root) (file_of s nodes count root) refl (omega arith) in
    let w₁ = part_written (header_of s) (nodes ++ (bytes_of 8 count ++ bytes_of 8 root)) o₁ 16 w₀ (record { is = first; next = omega arith }) in
    let w₂ = part_written nodes (bytes_of 8 count ++ bytes_of 8 root) o₂ end w₁ second in
    let w₃ = part_written (bytes_of 8 count) (bytes_of 8 root) o₃ (end + 8) w₂ (record { is = third; next = omega arith }) in
    (last_written o₄ (end + 8 + 8) w₃ (record { is = fourth; next = omega arith })).is
