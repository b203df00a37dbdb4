-- A table after a store, entry by entry; a table kept beyond the file.
-- Assumes nothing.
use Rattle.std.specs.Prelude.{◌≡◌, refl, List, ℕ, ◌≤◌, ◌<◌, length, get_or, set}
use Rattle.std.proofs.Common.{sym, ◌∙◌, subst, arith, length-set, get_or-set_same, get_or-set_other, drop-set-lt}
use Rattle.std.proofs.Math.Decide.{ℕ_discrete}
use Rattle.admission_node.specs.Entries.{Kept}

-- ---- what holds of the stored entry and of each other entry holds of every entry after the store

pub at_set : (P : ℕ → ℕ → Type 0) (d : List ℕ) (i v : ℕ) → i < length d → P i v → ((j : ℕ) → ¬ (j ≡ i) → P j (get_or d j 0))
    → (j : ℕ) → P j (get_or (set d i v) j 0)
at_set P d i v l here there j =
    elim (ℕ_discrete j i) [
      | yes q ↦ subst (λ k. P k (get_or (set d i v) k 0)) (sym q) (rw (get_or-set_same d i v 0 l) here)
      | no q ↦ rw (get_or-set_other d i j v 0 q) (there j q)
    ]

-- ---- kept beyond the first n entries

pub kept_none : (n : ℕ) (d : List ℕ) → Kept n d d
kept_none n d = record { long = refl; beyond = refl }

pub kept_set : {n : ℕ} {d₀ d : List ℕ} (i v : ℕ) → i < n → Kept n d₀ d → Kept n d₀ (set d i v)
kept_set {n} {d = d} i v h k = record { long = length-set d i v ∙ k.long; beyond = drop-set-lt n d i v h ∙ k.beyond }

-- a table that has room for n entries still has it
pub kept_lt : {n a : ℕ} {d₀ d : List ℕ} → Kept n d₀ d → n ≤ length d₀ → a < n → a < length d
kept_lt k room l = omega (arith, k.long)

pub kept_then : {n : ℕ} {a b c : List ℕ} → Kept n a b → Kept n b c → Kept n a c
kept_then p q = record { long = q.long ∙ p.long; beyond = q.beyond ∙ p.beyond }
