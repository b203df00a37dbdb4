-- The sizes of a node's parts.
-- Assumes nothing.
use mathlib.Core.Path.{◌≡◌, refl}
use mathlib.Core.Bool.{Bool, true, false, cond, ◌&&◌}
use mathlib.Core.List.{List, [], ◌∷◌}
use Prim.Native.Nat.{ℕ, ◌*◌, ◌≤◌}
use native.Mathlib.Nat.{le_trans, mul-le-mul_right, mul-le-mul_left}
use native.Mathlib.Omega.{arith}
use lib.Dec.{ltb, leb}
use lib.ListN.{length}
use Rattle.format.specs.Limits.{index_threshold}
use Rattle.format.specs.Node.{end_len, index_len}
use Rattle.format.specs.Packed.{delta_size}

-- no transition
pub delta_size_none : (ds : List ℕ) → length ds ≡ 0 → delta_size ds ≡ 0
unfolding delta_size
delta_size_none [] h = refl
delta_size_none (d ∷ ds) h = absurd (omega arith)

-- ---- bounds, by which the length of a node fits a usize

cond_le : (t : Bool) (a b m : ℕ) → a ≤ m → b ≤ m → cond t a b ≤ m
cond_le true a b m p q = p
cond_le false a b m p q = q

pub record AnyBounds (final : Bool) (n osize tsize : ℕ) : Type 0 where
  pub end_le : end_len final osize ≤ 8
  pub outputs_le : n * osize ≤ 2048
  pub deltas_le : n * tsize ≤ 2048
  pub index_le : index_len 3 n ≤ 256
  pub head_le : cond (ltb 0 n && ltb n 64) 1 2 ≤ 2

pub any_bounds : (final : Bool) (n osize tsize : ℕ) → n ≤ 256 → osize ≤ 8 → tsize ≤ 8 → AnyBounds final n osize tsize
unfolding index_len
any_bounds final n osize tsize few o8 t8 = record {
  end_le = cond_le final osize 0 8 o8 (omega arith);
  outputs_le = le_trans (mul-le-mul_right osize few) (mul-le-mul_left 256 o8);
  deltas_le = le_trans (mul-le-mul_right tsize few) (mul-le-mul_left 256 t8);
  index_le = cond_le (leb 2 3 && ltb index_threshold n) 256 0 256 (omega arith) (omega arith);
  head_le = cond_le (ltb 0 n && ltb n 64) 1 2 2 (omega arith) (omega arith);
}
