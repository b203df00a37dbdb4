-- One byte more, by what is told of it.
-- Assumes nothing.
use mathlib.Core.Path.{◌≡◌}
use mathlib.Core.Bool.{Bool, true, false}
use mathlib.Core.List.{List}
use Prim.Native.Nat.{ℕ}
use native.Mathlib.Omega.{arith}
use lib.ListN.{take}
use Rattle.format.specs.Strings as S
use Rattle.reading.specs.Reading.{passes_test}
use Rattle.std.specs.Prelude.{Some, None}
use Rattle.range_bound.specs.Besides.{Beside, Followed}

pub followed_past : {hi : S.Bound} {b path : List ℕ} {k : ℕ} {over : Bool} → passes_test hi (take k path) ≡ true → Followed hi b path k over None
followed_past p = record { past = λ _. p; within = λ s e. absurd (let z : ◌≡◌ {A = ℕ} 0 1 = cc in omega arith) }

pub followed_within : {hi : S.Bound} {b path : List ℕ} {k : ℕ} {over : Bool} (s : ℕ) → (passes_test hi (take k path) ≡ false) × Beside hi b path k s over
    → Followed hi b path k over (Some s)
followed_within s h = record {
  past = λ e. absurd (let z : ◌≡◌ {A = ℕ} 0 1 = cc in omega arith);
  within = λ t e. let q : s ≡ t = cc in rw (← q) h;
}
