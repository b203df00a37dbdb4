-- The result, the length and the value of an answer that is known.
-- Assumes nothing.
use mathlib.Core.Path.{◌≡◌, refl}
use Rattle.std.specs.Prelude.{Ok, Err, Some, None, Result, Option, ℕ}
use Rattle.format.specs.declared.Refusal.{Refusal}
use Prim.Native.Nat.{ℕ}
use lib.IntN.{ℤ}
use Rattle.baxhiso.specs.Exports.{OK, code}
use Rattle.baxhiso_results.specs.Results.{END, AnswerLeaves}

pub key_leaves : (a : Result (Option (ℕ × ℕ)) Refusal) (n x len₀ v₀ : ℕ) → a ≡ Ok (Some (n, x)) → AnswerLeaves a len₀ n v₀ x OK
key_leaves a n x len₀ v₀ is = rw is (record { result = refl; len_is = refl; value_is = refl })

pub end_leaves : (a : Result (Option (ℕ × ℕ)) Refusal) (len₀ v₀ : ℕ) → a ≡ Ok None → AnswerLeaves a len₀ len₀ v₀ v₀ END
end_leaves a len₀ v₀ is = rw is (record { result = refl; len_is = refl; value_is = refl })

pub no_leaves : (a : Result (Option (ℕ × ℕ)) Refusal) (n : Refusal) (z : ℤ) (len₀ v₀ : ℕ) → a ≡ Err n → z ≡ code n → AnswerLeaves a len₀ len₀ v₀ v₀ z
no_leaves a n z len₀ v₀ is is_z = rw (is, is_z) (record { result = refl; len_is = refl; value_is = refl })
