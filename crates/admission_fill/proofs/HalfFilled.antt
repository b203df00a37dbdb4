-- A table that is filled in ascending order: the entries below a are as E wants them, the others as they were.
-- Assumes nothing.
use mathlib.Core.Path.{◌≡◌}
use mathlib.Core.List.{List}
use Prim.Native.Nat.{ℕ, ◌+◌, ◌≤◌, ◌<◌}
use native.Mathlib.Omega.{arith}
use Rattle.std.proofs.Math.Decide.{dec_le}
use lib.ListN.{length, get_or, set}
use Rattle.admission_node.specs.KeptLaws.{at_set}

pub record Half (E : ℕ → ℕ → Type 0) (d₀ d : List ℕ) (a : ℕ) : Type 0 where
  pub below : (j : ℕ) → j < a → E j (get_or d j 0)
  pub above : (j : ℕ) → a ≤ j → get_or d j 0 ≡ get_or d₀ j 0

-- entries that are right as they stand
pub half_jump : {E : ℕ → ℕ → Type 0} {d₀ d : List ℕ} {a : ℕ} (b : ℕ) → a ≤ b → Half E d₀ d a → ((j : ℕ) → a ≤ j → j < b → E j (get_or d j 0)) → Half E d₀ d b
half_jump {E} {d = d} {a = a} b le h e =
    record {
      below = λ j l. elim (dec_le a j) [ yes p ↦ e j p l | no p ↦ h.below j (omega arith) ];
      above = λ j l. h.above j (omega arith);
    }

-- an entry that is stored
pub half_store : {E : ℕ → ℕ → Type 0} {d₀ d : List ℕ} {a : ℕ} (v : ℕ) → a < length d → Half E d₀ d a → E a v → Half E d₀ (set d a v) (a + 1)
half_store {E} {d₀} {d} {a} v l h e =
    record {
      below = at_set (λ j x. j < a + 1 → E j x) d a v l (λ _. e) (λ j ne k. h.below j (omega arith));
      above = at_set (λ j x. a + 1 ≤ j → x ≡ get_or d₀ j 0) d a v l (λ k. absurd (omega arith)) (λ j ne k. h.above j (omega arith));
    }

pub half_map : {E E' : ℕ → ℕ → Type 0} {d₀ d : List ℕ} {a : ℕ} → ((j x : ℕ) → E j x → E' j x) → Half E d₀ d a → Half E' d₀ d a
half_map {d = d} f h = record { below = λ j l. f j (get_or d j 0) (h.below j l); above = h.above }
