-- The key so far, in an array, and what is left to search.
-- Assumes nothing.
use mathlib.Core.Path.{◌≡◌, refl, ◌∙◌}
use mathlib.Core.Bool.{Bool, true, false, ◌&&◌}
use mathlib.Core.List.{List, [], ◌∷◌, ◌++◌}
use Prim.Native.Nat.{ℕ, ◌+◌, ◌-◌, ◌≤◌, ◌<◌}
use native.Mathlib.Numerals.{add-one}
use native.Mathlib.Omega.{arith}
use borrow.Author.Tests.{eqb-true}
use lib.Dec.{eqb}
use lib.ListN.{length, take, set, length-set}
use lib.Seq.{take-suc-set}
use Rattle.format.specs.declared.Transition.{Transition}
use Rattle.format.specs.Limits.{max_path}
use Rattle.format.specs.Node.{Node, sound, at, transition_at}
use Rattle.format.specs.Paths.{Fst, node_in}
use Rattle.format.specs.Lookup.{last_fitting}
use Rattle.lookup_search.proofs.KeyWalks.{Searching, searching_none, searching_step}

pub record SearchTo (f : Fst) (v : ℕ) (path : List ℕ) (a left n : ℕ) : Type 0 where
  pub within : n ≤ max_path
  pub len : length path ≡ max_path
  pub rest : Searching f v (take n path) (max_path - n) a left

pub search_none : (f : Fst) (v : ℕ) (path : List ℕ) → length path ≡ max_path → SearchTo f v path f.root v 0
search_none f v path len = record { within = omega arith; len = len; rest = searching_none f v }

pub search_step : {f : Fst} {v : ℕ} {path : List ℕ} {a left n : ℕ} (m : Node) → node_in f a ≡ sound m → (eqb left 0 && m.final) ≡ false → n < max_path
    → (i : ℕ) → last_fitting m.transitions left ≡ at i → (t : Transition) → t ≡ transition_at m.transitions i
    → SearchTo f v path a left n → SearchTo f v (set path n t.inp) t.addr (left - t.out) (n + 1)
search_step {f} {v} {path} {a} {left} {n} m e on room i fits t is_t h =
    let r : max_path - n - 1 ≡ max_path - (n + 1) = omega arith in
    let k : take (n + 1) (set path n t.inp) ≡ take n path ++ (t.inp ∷ []) = rw add-one (take-suc-set path n t.inp (omega (arith, h.len))) in
    record {
      within = omega arith;
      len = length-set path n t.inp ∙ h.len;
      rest = rw (k, ← r, is_t) (searching_step h.rest m e on (omega arith) i fits);
    }

-- both halves of the test that ends the search
pub ends_both : (v : ℕ) (final : Bool) → (eqb v 0 && final) ≡ true → (v ≡ 0) × (final ≡ true)
ends_both v final e = go (eqb v 0) refl e
  where
    go : (t : Bool) → eqb v 0 ≡ t → (t && final) ≡ true → (v ≡ 0) × (final ≡ true)
    go true z e = (eqb-true v 0 z, e)
    go false z e = absurd (let y : ◌≡◌ {A = ℕ} 0 1 = cc in omega arith)
