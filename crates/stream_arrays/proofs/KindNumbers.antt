-- Numbers for kinds and pending keys, where they are not the first.
-- Assumes nothing.
use mathlib.Core.Path.{◌≡◌, refl}
use Rattle.std.specs.Prelude.{Some}
use Prim.Native.Nat.{ℕ, zero, suc}
use Rattle.std.specs.declared.ops.Bound.TheVariants.{Unbounded}
use Rattle.stream_arrays.specs.Arrays.{kind_is, pending_is}

pub kind_other : (n : ℕ) → ¬ (n ≡ 0) → ¬ (n ≡ 1) → Unbounded ≡ kind_is n
kind_other zero a b = absurd (a refl)
kind_other (suc zero) a b = absurd (b refl)
kind_other (suc (suc n)) a b = refl

pub pending_there : (n v : ℕ) → ¬ (n ≡ 0) → Some v ≡ pending_is n v
pending_there zero v a = absurd (a refl)
pending_there (suc n) v a = refl
