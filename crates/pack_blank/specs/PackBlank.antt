-- What packing into an output of zeros with empty cells answers and leaves (document 02, N4), by `pack_answer`, `output_after` and `cells_after`.
--     tables_test i l t     every working table has its size: 65,536 entries
--     answer_as             the code's answer for the definition's
--     Answers              what is answered and, where a file is written, left
-- Assumes nothing.
use Rattle.std.specs.Prelude.{◌≡◌, Bool, ◌&&◌, List, ℕ, ◌+◌, leb, length, Ok, Err, Result}
use Rattle.format.specs.declared.Refusal.{Refusal}
use Rattle.format.specs.Bytes.{bytes_of}
use Rattle.buffers.specs.Put.{put}
use Rattle.packing.specs.Packing.{Answer, written, refused, output_after, cells_after}
use Rattle.pack_cell.specs.declared.Cell.{Cell}
use Rattle.pack_intern.specs.Interning.{cells_is}

abbrev pub tables_test : ℕ → ℕ → ℕ → Bool
tables_test i l t = leb 65536 i && (leb 65536 l && leb 65536 t)

abbrev pub answer_as : Answer → Result ℕ Refusal
answer_as (written file cells) = Ok (length file)
answer_as (refused k) = Err k

-- version 2, the number of keys, and the root
abbrev pub trailed : List ℕ → ℕ → ℕ → ℕ → List ℕ
trailed out count root next = put (put (put out 0 (bytes_of 8 2)) next (bytes_of 8 count)) (next + 8) (bytes_of 8 root)

-- A is what the definition answers
pub record Answers (A : Answer) (out : List ℕ) (cells : List Cell) (r : Result ℕ Refusal) : Type 0 where
  pub answer : r ≡ answer_as A
  pub output : (n : ℕ) → r ≡ Ok n → out ≡ output_after A (length out)
  pub cells_left : (n : ℕ) → r ≡ Ok n → cells_is cells ≡ cells_after A (length cells)
