-- The keys from a node by the table: address 0 counts one, any other address has its entry.
-- Assumes nothing.
use Rattle.std.specs.Prelude.{◌≡◌, List, ℕ, get_or}
use Rattle.std.proofs.Common.{eq-eqb, ne_eqb}
use Rattle.format.specs.Tables.{keys_at}

module _ (c : List ℕ) (a : ℕ) where
  pub keys_zero : a ≡ 0 → 1 ≡ keys_at c a
  keys_zero z = rw (eq-eqb a 0 z)

  pub keys_entry : ¬ (a ≡ 0) → get_or c a 0 ≡ keys_at c a
  keys_entry ne = rw (ne_eqb a 0 ne)
