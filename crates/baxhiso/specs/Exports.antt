-- What the functions for C answer, and what they leave in each buffer and number, in every case (include/baxhiso.h).
--     OK, NONE, code n        the results: an answer, none, the refusal n
--     result_of, len_of       the result of an answer that is a written file's length; the length afterwards
--     done_of                 the result of an answer that says no more than that it was done
--     OpenLeaves w ..         opening that answers w: the result and the five numbers
--     GetLeaves w ..          a lookup by key that answers w: the result and the value
--     KeyLeaves w ..          a search by value that answers w: the result, the key buffer and the key's length
--     AdmitLeaves s ..        admission of the bytes s: the result and the two tables
-- A name with ₀ is what the caller handed in. Assumes nothing.
use Rattle.std.specs.Prelude.{◌≡◌, List, [], ◌∷◌, ℕ, zero, suc, ℤ, pos, negsuc, length, Ok, Err, Result, ⊤}
use Rattle.std.proofs.Math.Option.{Option, none, some}
use Rattle.format.specs.Limits.{number}
use Rattle.format.specs.declared.Refusal.{Refusal}
use Rattle.format.specs.Opening as O
use Rattle.format.specs.Opening.{Meta, Opening, opened}
use Rattle.format.specs.Lookup as L
use Rattle.format.specs.Lookup.{value, found}
use Rattle.lookup_search.specs.KeyAnswers.{key_buffer_after}
use Rattle.admission.specs.Outcome.{Admits, RefusedFor}

-- ---- results

abbrev pub OK : ℤ
OK = pos 0

-- minus 1: none is no refusal
abbrev pub NONE : ℤ
NONE = negsuc 0

abbrev pub code : Refusal → ℤ
code n = pos (number n)

abbrev pub result_of : Result ℕ Refusal → ℤ
result_of (Ok n) = OK
result_of (Err k) = code k

abbrev pub len_of : Result ℕ Refusal → ℕ → ℕ
len_of (Ok n) n₀ = n
len_of (Err k) n₀ = n₀

abbrev pub done_of : Result ⊤ Refusal → ℤ
done_of (Ok tt) = OK
done_of (Err k) = code k

-- ---- opening

-- 2^32 stands for a missing checksum: a stored one has four bytes
abbrev pub checksum_number : Option ℕ → ℕ
checksum_number (some n) = n
checksum_number none = 4294967296

-- version, type, key count, root address, checksum
abbrev pub numbers_as : Meta → List ℕ
numbers_as m = m.version ∷ (m.ty ∷ (m.len ∷ (m.root ∷ (checksum_number m.checksum ∷ []))))

abbrev pub open_result : Opening → ℤ
open_result (opened m) = OK
open_result (O.Opening.refused n) = code n

abbrev pub open_numbers : Opening → List ℕ → List ℕ
open_numbers (opened m) out = numbers_as m
open_numbers (O.Opening.refused n) out = out

pub record OpenLeaves (w : Opening) (meta₀ meta : List ℕ) (r : ℤ) : Type 0 where
  pub result : r ≡ open_result w
  pub numbers : meta ≡ open_numbers w meta₀

-- ---- by key

abbrev pub get_result : L.Answer → ℤ
get_result (value v) = OK
get_result L.Answer.none = NONE
get_result (L.Answer.refused n) = code n

abbrev pub get_value : L.Answer → ℕ → ℕ
get_value (value v) v₀ = v
get_value L.Answer.none v₀ = v₀
get_value (L.Answer.refused n) v₀ = v₀

pub record GetLeaves (w : L.Answer) (v₀ v : ℕ) (r : ℤ) : Type 0 where
  pub result : r ≡ get_result w
  pub value_is : v ≡ get_value w v₀

-- ---- by value

abbrev pub key_result : L.KeyAnswer → ℤ
key_result (found k) = OK
key_result L.KeyAnswer.none = NONE
key_result (L.KeyAnswer.refused n) = code n

abbrev pub key_len : L.KeyAnswer → ℕ → ℕ
key_len (found k) n₀ = length k
key_len L.KeyAnswer.none n₀ = n₀
key_len (L.KeyAnswer.refused n) n₀ = n₀

pub record KeyLeaves (w : L.KeyAnswer) (buf₀ buf : List ℕ) (n₀ n : ℕ) (r : ℤ) : Type 0 where
  pub result : r ≡ key_result w
  -- a found key from the buffer's first byte on and its other bytes as given, else the buffer as given
  pub buffer : buf ≡ key_buffer_after w buf₀
  pub len : n ≡ key_len w n₀

-- ---- admission

-- by the result: 0 only for an admitted file, any other number for the refusal that it names, and nothing negative
abbrev pub AdmitLeaves : List ℕ → List ℕ → List ℕ → List ℕ → List ℕ → ℤ → Type 0
AdmitLeaves s d₀ s₀ d t (pos zero) = Admits s d₀ s₀ d t
AdmitLeaves s d₀ s₀ d t (pos (suc n)) = (why : Refusal) × (number why ≡ suc n) × RefusedFor s d₀ s₀ d t why
AdmitLeaves s d₀ s₀ d t (negsuc n) = ⊥
