-- What packing a list answers in C, and what it leaves in each buffer and number, in every case (include/baxhiso.h).
--     pack_result, pack_len     the result of an answer; the length afterwards
--     PackLeaves A ..         packing that answers A: the result, the length, and every lent slice
-- A name with ₀ is what the caller handed in. Assumes nothing.
use Rattle.std.specs.Prelude.{◌≡◌, List, ℕ, ℤ, length, replicate}
use Rattle.packing.specs.Packing.{Answer, written, refused, output_after, cells_after}
use Rattle.pack_cell.specs.declared.Cell.{Cell}
use Rattle.pack_intern.specs.Interning.{cells_is}
use Rattle.baxhiso.specs.Exports.{OK, code}

abbrev pub pack_result : Answer → ℤ
pack_result (written file cells) = OK
pack_result (refused k) = code k

abbrev pub pack_len : Answer → ℕ → ℕ
pack_len (written file cells) n₀ = length file
pack_len (refused k) n₀ = n₀

pub record PackLeaves (A : Answer) (out : List ℕ) (cells : List Cell) (inputs leasts targets : List ℕ) (n₀ n : ℕ) (r : ℤ) : Type 0 where
  pub result : r ≡ pack_result A
  pub len_is : n ≡ pack_len A n₀
  pub output : out ≡ output_after A (length out)
  pub cells_left : cells_is cells ≡ cells_after A (length cells)
  pub inputs_zero : inputs ≡ replicate (length inputs) 0
  pub leasts_zero : leasts ≡ replicate (length leasts) 0
  pub targets_zero : targets ≡ replicate (length targets) 0
