-- Laws of packing a list: what is left after the last step.
--     settled_cells        cells that are emptied after a refusal
--     packs_cells          what the entry point answers and leaves
-- Assumes nothing.
use Rattle.std.specs.Prelude.{◌≡◌, refl, Bool, cond, List, ◌++◌, ℕ, ◌-◌, length, replicate, Err, Result, is_err}
use Rattle.std.proofs.Common.{sym, ap, ◌∙◌, subst}
use Rattle.format.specs.declared.Refusal.{Refusal}
use Rattle.packing.specs.Registry.{empty_cell}
use Rattle.packing.specs.Packing.{Answer, written, refused, pack_answer}
use Rattle.pack_intern.specs.Interning.{cells_is}
use Rattle.pack_blank.specs.PackBlank.{Answers}
use Rattle.pack_blank.specs.PackBlankLaws.{cells_empty, zeros_again}
use Rattle.pack_cell.specs.Cells.{empty}
use Rattle.pack_cell.specs.declared.Cell.{Cell}
use Rattle.pack_step.specs.Standing.{Ended}
use Rattle.pack_intern.specs.declared.Placed.{Placed}
use Rattle.pack_end.specs.Ending.{Finishes}
use Rattle.pack.specs.PackList.{Settled, PacksBy}

answers_as : (limit : ℕ) (s : List ℕ) (tables : Bool) (n' n room' room : ℕ) {out : List ℕ} {cells : List Cell} {r : Result ℕ Refusal} → n' ≡ n → room' ≡ room
    → Answers (pack_answer limit s tables n' room') out cells r → Answers (pack_answer limit s tables n room) out cells r
answers_as limit s tables n' n room' room {out} {cells} {r} p q w =
    subst (λ (m : ℕ). Answers (pack_answer limit s tables n m) out cells r) q (subst (λ (k : ℕ). Answers (pack_answer limit s tables k room') out cells r) p w)

packs : (A : Answer) (out₀ : List ℕ) (cells₀ : List Cell) (r₀ : Result ℕ Refusal) (out : List ℕ) (cells : List Cell) (inputs leasts targets : List ℕ) (r : Result ℕ Refusal)
    → Answers A out₀ cells₀ r₀ → Settled r₀ out₀ cells₀ out cells r → length out ≡ length out₀ → length cells ≡ length cells₀ → inputs ≡ replicate (length inputs) 0
    → leasts ≡ replicate (length leasts) 0 → targets ≡ replicate (length targets) 0 → PacksBy A out cells inputs leasts targets r
packs A out₀ cells₀ r₀ out cells inputs leasts targets r w s lo lc i l t = go A w
  where
    go : (B : Answer) → Answers B out₀ cells₀ r₀ → PacksBy B out cells inputs leasts targets r
    go (written file cs) v =
        let k = s.kept (length file) v.answer in
        record {
          answer = s.same ∙ v.answer;
          output = k.0 ∙ v.output (length file) v.answer ∙ ap (λ (n : ℕ). file ++ replicate (n - length file) 0) (sym lo);
          cells_left = ap cells_is k.1 ∙ v.cells_left (length file) v.answer;
          inputs_zero = i;
          leasts_zero = l;
          targets_zero = t;
        }
    go (refused k) v =
        let e = s.emptied k v.answer in
        record {
          answer = s.same ∙ v.answer;
          output = e.0 ∙ ap (λ (n : ℕ). replicate n 0) (sym lo);
          cells_left = ap cells_is e.1 ∙ cells_empty (length cells₀) ∙ ap (λ (n : ℕ). replicate n empty_cell) (sym lc);
          inputs_zero = i;
          leasts_zero = l;
          targets_zero = t;
        }

-- out' is zeros after a refusal, and then cells' is empty too
module _ {r : Result ℕ Refusal} {b : Bool} (test : b ≡ is_err r) (out : List ℕ) {out' : List ℕ} (cells : List Cell) {cells' : List Cell} (left : cells' ≡ cond b (replicate (length cells) empty) cells)
    (zeros : (k : Refusal) → r ≡ Err k → out' ≡ replicate (length out) 0) where
  by_test : {t : Bool} → is_err r ≡ t → cells' ≡ cond t (replicate (length cells) empty) cells
  by_test e = left ∙ ap (λ (x : Bool). cond x (replicate (length cells) empty) cells) (test ∙ e)

  settled_cells : Settled r out' cells out' cells' r
  settled_cells = record {
    same = refl;
    kept = λ n e. (refl, by_test (ap is_err e));
    emptied = λ k e. (
      zeros_again 0 (length out) (zeros k e),
      by_test (ap is_err e),
    );
  }

-- the run was given n' cells and room' bytes of output, as many as are lent; afterwards cells' are left of cells
pub packs_cells : (limit : ℕ) (s : List ℕ) (tables : Bool) (n room : ℕ) {n' room' : ℕ} → n' ≡ n → room' ≡ room → (cells cells' : List Cell) (i l w : ℕ)
    → {out out' : List ℕ} {t : Result Placed Refusal} {r : Result ℕ Refusal} {b : Bool} {inputs leasts targets : List ℕ}
    → Ended s tables n' room' out cells t → length out ≡ room' → Finishes limit s out t out' r → b ≡ is_err r → cells' ≡ cond b (replicate (length cells) empty) cells
    → length cells' ≡ length cells → inputs ≡ replicate i 0 → leasts ≡ replicate l 0 → targets ≡ replicate w 0
    → PacksBy (pack_answer limit s tables n room) out' cells' inputs leasts targets r
packs_cells limit s tables n room {n'} {room'} en er cells cells' i l w {out} {out'} {t} {r} {b} {inputs} {leasts} {targets} ended long f test left same zi zl zt =
    packs (pack_answer limit s tables n room) out' cells r out' cells' inputs leasts targets r
    (answers_as limit s tables n' n (length out) room en (long ∙ er) (f.answers tables n' cells (subst (λ (k : ℕ). Ended s tables n' k out cells t) (sym long) ended)))
    (settled_cells test out cells left f.emptied) refl same (zeros_again 0 i zi) (zeros_again 0 l zl) (zeros_again 0 w zt)
