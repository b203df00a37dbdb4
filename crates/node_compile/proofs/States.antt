-- The state byte of a node with one transition, and the input before it.
-- Assumes nothing.
use mathlib.Core.Path.{◌≡◌, ap}
use mathlib.Core.List.{List, [], ◌∷◌}
use Prim.Native.Nat.{ℕ, ◌+◌, ◌≤◌}
use native.Mathlib.Omega.{arith}
use borrow.Author.Tests.{eq-eqb, ne_eqb}
use lib.ListN.{length, set}
use Rattle.buffers.specs.Put.{PutAt}
use Rattle.node_parts.specs.ByteLaws.{put_one_byte, put_two_bytes}
use Rattle.node_compile.specs.Parts.{state_for}

module _ (form idx rare : ℕ) where
  pub state_rare : idx ≡ 0 → state_for form idx rare ≡ rare ∷ (form ∷ [])
  state_rare z = rw (eq-eqb idx 0 z)

  pub state_common : ¬ (idx ≡ 0) → state_for form idx rare ≡ (form + idx) ∷ []
  state_common ne = rw (ne_eqb idx 0 ne)

  module _ (out : List ℕ) (at : ℕ) (room : at + length (state_for form idx rare) ≤ length out) where
    pub rare_room : idx ≡ 0 → at + 2 ≤ length out
    rare_room z = omega (arith, ap (λ (bs : List ℕ). length bs) (state_rare z))

    pub rare_put : idx ≡ 0 → PutAt out at (state_for form idx rare) (set (set out at rare) (at + 1) form) (at + 2)
    rare_put z = rw (state_rare z) (put_two_bytes out at rare form (rare_room z))

    pub common_room : ¬ (idx ≡ 0) → at + 1 ≤ length out
    common_room ne = omega (arith, ap (λ (bs : List ℕ). length bs) (state_common ne))

    pub common_put : ¬ (idx ≡ 0) → PutAt out at (state_for form idx rare) (set out at (form + idx)) (at + 1)
    common_put ne = rw (state_common ne) (put_one_byte out at (form + idx) (common_room ne))
