-- What carrying a reading answers in C, and what it leaves in the arrays, in every case (include/baxhiso.h). `Held` of `stream_arrays` has the arrays.
--     carry_result q            the result of an answer
--     CarryLeaves q h₀ h n r   carrying that answers q: the result and the arrays; n keys are to come, before and after
-- A name with ₀ is what the caller handed in. Assumes nothing.
use Rattle.std.specs.Prelude.{◌≡◌, ℕ, ℤ, replicate}
use Rattle.format.specs.declared.Refusal.{Refusal}
use Rattle.plain.specs.Plain as P
use Rattle.carrying.specs.Carry as C
use Rattle.stream_arrays.specs.Arrays.{Held, held_plain}
use Rattle.baxhiso.specs.Exports.{OK, code}

abbrev pub carry_result : C.CarriedPlain → ℤ
carry_result (C.CarriedPlain.carried p) = OK
carry_result (C.CarriedPlain.refused n) = code n

-- the arrays hold the reading that was carried, or are as given
pub record CarryLeaves (q : C.CarriedPlain) (h₀ h : Held) (n : ℕ) (r : ℤ) : Type 0 where
  pub result : r ≡ carry_result q
  pub reading : (p : P.Plain) → q ≡ C.CarriedPlain.carried p → held_plain h (replicate 1 n) ≡ p
  pub kept : (k : Refusal) → q ≡ C.CarriedPlain.refused k → h ≡ h₀
