-- From what packing answers to what the function for C leaves, for each answer.
-- Assumes nothing.
use Rattle.std.specs.Prelude.{◌≡◌, List, ℕ, ℤ, Result}
use Rattle.std.proofs.Common.{ap, ◌∙◌}
use Rattle.format.specs.declared.Refusal.{Refusal}
use Rattle.packing.specs.Packing.{Answer, written, refused}
use Rattle.pack_cell.specs.declared.Cell.{Cell}
use Rattle.pack.specs.PackList.{PacksBy}
use Rattle.baxhiso.specs.Exports.{result_of, len_of}
use Rattle.baxhiso_pack.specs.PackFiles.{pack_result, pack_len, PackLeaves}

module _ {out : List ℕ} {cells : List Cell} {inputs leasts targets : List ℕ} {a : Result ℕ Refusal} (n₀ n : ℕ) (z : ℤ) (result : z ≡ result_of a) (len : n ≡ len_of a n₀) where
  leaves : (A : Answer) → PacksBy A out cells inputs leasts targets a → z ≡ pack_result A → n ≡ pack_len A n₀ → PackLeaves A out cells inputs leasts targets n₀ n z
  leaves A h is len_is = record {
    result = is;
    len_is = len_is;
    output = h.output;
    cells_left = h.cells_left;
    inputs_zero = h.inputs_zero;
    leasts_zero = h.leasts_zero;
    targets_zero = h.targets_zero;
  }

  pub pack_leaves : (A : Answer) → PacksBy A out cells inputs leasts targets a → PackLeaves A out cells inputs leasts targets n₀ n z
  pack_leaves (written file left) h = leaves (written file left) h (result ∙ ap result_of h.answer) (len ∙ ap (λ (x : Result ℕ Refusal). len_of x n₀) h.answer)
  pack_leaves (refused k) h = leaves (refused k) h (result ∙ ap result_of h.answer) (len ∙ ap (λ (x : Result ℕ Refusal). len_of x n₀) h.answer)
