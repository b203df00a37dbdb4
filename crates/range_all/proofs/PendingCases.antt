-- A call of next where the empty key is pending, and the first row.
--     pending_ends, pending_key, pending_reading     the empty key passes the upper bound, or is handed out
--     first_row_len                                  the empty key's row leaves the rows as long as they were
-- Assumes nothing.
use mathlib.Core.Path.{◌≡◌, refl, ap, ◌∙◌}
use mathlib.Core.Bool.{Bool, true, false, cond}
use mathlib.Core.Option.{Option, none, some}
use mathlib.Core.List.{List, [], ◌∷◌}
use Prim.Native.Nat.{ℕ, ◌≤◌}
use native.Mathlib.Omega.{arith}
use lib.ListN.{length}
use Rattle.buffers.specs.Put.{put}
use Rattle.buffers.specs.PutLaws.{length_put}
use Rattle.format.specs.Limits.{max_path, max_levels}
use Rattle.format.specs.Paths.{fst_of}
use Rattle.format.specs.Strings as S
use Rattle.reading.specs.Reading.{View, Level, Step, key, end, next, walk, moved, passes_test}
use Rattle.range_turn.specs.StartStateLaws.{next_walk}
use Rattle.range_fill.specs.RangedRows.{OpensAs, view_from}

-- what next does with it, by whether it passes the upper bound
abbrev pending_step : View → ℕ → Bool → Step
pending_step r x b = cond b (record { answer = end; reading = moved r [] r.total }) (record { answer = key [] x; reading = moved r r.levels r.total })

module _ {s : List ℕ} {version root : ℕ} (o : OpensAs s version root) (hi : S.Bound) (n : ℕ) (empty : Option ℕ) (levels : List Level) (short : n ≤ max_path)
    (few : length levels ≤ max_levels) where
  abbrev r : View
  r = view_from (length s) hi n empty levels

  pending_next : (x : ℕ) → empty ≡ some x → next s r max_path ≡ walk (fst_of s o.meta) r (some x)
  pending_next x e = next_walk s o.meta o.opens r (record { few = few; short = short; same = refl }) ∙ ap (walk (fst_of s o.meta) r) e

  pub pending_ends : (x : ℕ) → empty ≡ some x → passes_test hi [] ≡ true → (next s r max_path).answer ≡ end
  pending_ends x e p =
      ap (λ (q : Step). q.answer) (pending_next x e)
      ∙ ap (λ (b : Bool). (pending_step r x b).answer) p

  pub pending_key : (x : ℕ) → empty ≡ some x → passes_test hi [] ≡ false → (next s r max_path).answer ≡ key [] x
  pending_key x e p =
      ap (λ (q : Step). q.answer) (pending_next x e)
      ∙ ap (λ (b : Bool). (pending_step r x b).answer) p

  pub pending_reading : (x : ℕ) → empty ≡ some x → passes_test hi [] ≡ false → (next s r max_path).reading ≡ view_from (length s) hi n none levels
  pending_reading x e p =
      ap (λ (q : Step). q.reading) (pending_next x e)
      ∙ ap (λ (b : Bool). (pending_step r x b).reading) p

pub first_row_len : (rows : List ℕ) {rows' : List ℕ} → 256 ≤ length rows → rows' ≡ put rows 0 (0 ∷ []) → length rows' ≡ length rows
first_row_len rows room e = ap length e ∙ length_put rows 0 (0 ∷ []) (omega arith)
