-- What the exported functions answer: a number, and what the lent arrays hold afterwards. `Held` of `stream_arrays` has the arrays.
--     carry_number q, carry_by_number q     0 for a reading that is carried, or the refusal
--     CarryTold q h₀ h n r               what is told of the answer q, the number of keys to come being n
--     CarryByTold q h₀ h r               the same of a reading by pattern
-- Assumes nothing.
use Rattle.std.specs.Prelude.{◌≡◌, ℕ, replicate}
use Rattle.format.specs.declared.Refusal.{Refusal}
use Rattle.format.specs.Limits.{number}
use Rattle.reading.specs.Reading.{View}
use Rattle.plain.specs.Plain as P
use Rattle.stream_start.specs.Views.{view_is}
use Rattle.carrying.specs.Carry as C
use Rattle.stream_arrays.specs.Arrays.{Held, held_is, held_plain}

abbrev pub carry_number : C.CarriedPlain → ℕ
carry_number (C.CarriedPlain.carried p) = 0
carry_number (C.CarriedPlain.refused n) = number n

abbrev pub carry_by_number : C.Carried → ℕ
carry_by_number (C.Carried.carried v) = 0
carry_by_number (C.Carried.refused n) = number n

pub record CarryTold (q : C.CarriedPlain) (h₀ h : Held) (n r : ℕ) : Type 0 where
  pub answer : r ≡ carry_number q
  pub reading : (p : P.Plain) → q ≡ C.CarriedPlain.carried p → held_plain h (replicate 1 n) ≡ p
  pub kept : (k : Refusal) → q ≡ C.CarriedPlain.refused k → h ≡ h₀

pub record CarryByTold (q : C.Carried) (h₀ h : Held) (r : ℕ) : Type 0 where
  pub answer : r ≡ carry_by_number q
  pub reading : (v : View) → q ≡ C.Carried.carried v → view_is (held_is h) ≡ v
  pub kept : (k : Refusal) → q ≡ C.Carried.refused k → h ≡ h₀
