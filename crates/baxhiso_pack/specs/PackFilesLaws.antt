-- What the result of packing tells the C caller: FST_OK comes for a written file only, which is admitted and holds exactly the listed pairs.
--     pack_ok     on FST_OK the bytes were a list, and the output begins with its file
-- Assumes nothing.
use Rattle.std.specs.Prelude.{◌≡◌, Bool, true, false, cond, ◌&&◌, List, ℕ, ◌≤◌, ◌<◌, leb, ℤ, length, get_or, Ok}
use Rattle.std.proofs.Common.{sym, ap, ◌∙◌}
use Rattle.format.specs.declared.Refusal.{Refusal}
use Rattle.format.specs.Limits.{max_len, LARGE, SPACE, LIST, number}
use Rattle.format.specs.Laws.RefusalLaws.{number_from}
use Rattle.packing.specs.Lists.{list_test, pairs_of}
use Rattle.packing.specs.Registry.{Cell}
use Rattle.packing.specs.Packing.{pack_file, pack_cells, Answer, written, refused, pack_answer}
use Rattle.pack_cell.specs.declared.Cell as code
use Rattle.pack.specs.PackList.{PacksBy}
use Rattle.pack_right.specs.PackRightLaws.{PackedList, pack_promise}
use Rattle.baxhiso.specs.Exports.{OK}
use Rattle.baxhiso.specs.ExportsLaws.{positive_not_0}
use Rattle.baxhiso_pack.specs.PackFiles.{PackLeaves}

-- a file is written, or a refusal that is not 0
data AnswerNonzero : Answer → Type 0 where
  writes_list : (file : List ℕ) (cells : List Cell) → AnswerNonzero (written file cells)
  turns_list : (n : Refusal) → 1 ≤ number n → AnswerNonzero (refused n)

picked : (P : Answer → Type 0) (t : Bool) {x y : Answer} → P x → P y → P (cond t x y)
picked P true px py = px
picked P false px py = py

answer_nonzero : (limit : ℕ) (s : List ℕ) (tables : Bool) (n room : ℕ) → AnswerNonzero (pack_answer limit s tables n room)
unfolding pack_answer
answer_nonzero limit s tables n room =
    picked AnswerNonzero (list_test s)
    (picked AnswerNonzero (tables && (leb 2 n && leb (length (pack_file (pairs_of s) n)) room))
    (picked AnswerNonzero (leb (length (pack_file (pairs_of s) n)) limit) (writes_list (pack_file (pairs_of s) n) (pack_cells (pairs_of s) n)) (turns_list LARGE (number_from LARGE)))
    (turns_list SPACE (number_from SPACE)))
    (turns_list LIST (number_from LIST))

module _ (out : List ℕ) (cells : List code.Cell) (inputs leasts targets : List ℕ) (n₀ n : ℕ) (r : ℤ) (ok : r ≡ OK) where
  packed_by : (A : Answer) → AnswerNonzero A → PackLeaves A out cells inputs leasts targets n₀ n r → PacksBy A out cells inputs leasts targets (Ok n)
  packed_by A (writes_list file left) h = record {
    answer = ap Ok h.len_is;
    output = h.output;
    cells_left = h.cells_left;
    inputs_zero = h.inputs_zero;
    leasts_zero = h.leasts_zero;
    targets_zero = h.targets_zero;
  }
  packed_by A (turns_list k low) h = absurd (positive_not_0 k (sym h.result ∙ ok))

  pub pack_ok : (s : List ℕ) → ((i : ℕ) → get_or s i 0 < 256) → (tables : Bool) (m room : ℕ)
      → PackLeaves (pack_answer max_len s tables m room) out cells inputs leasts targets n₀ n r → PackedList s m out cells
  pack_ok s bytes tables m room h =
      pack_promise s bytes tables m room out cells inputs leasts targets n
      (packed_by (pack_answer max_len s tables m room) (answer_nonzero max_len s tables m room) h)
