-- What the exported functions answer: numbers, and what a lent buffer holds afterwards. The format itself is in `format`.
--     checksum_number c         a checksum, 2 ^ 32 for none
--     OpenTold o out₀ out r    what is told of the opening o of a file
--     AdmitTold s .. r         admission's answer and tables, and the number r that stands for the answer
--     CountTold s .. r         the same of filling the table of keys
--     GetTold a out₀ out r     what is told of the answer a to a lookup by key
--     KeyTold w buf₀ buf r     what is told of the answer w to a search by value
-- Assumes nothing.
use Rattle.std.specs.Prelude.{◌≡◌, List, [], ◌∷◌, ℕ, ◌+◌, length, Result, ⊤}
use Rattle.std.proofs.Math.Option.{Option, none, some}
use Rattle.format.specs.Limits.{number}
use Rattle.format.specs.declared.Refusal.{Refusal}
use Rattle.format.specs.Opening.{Meta, Opening, opened, refused}
use Rattle.format.specs.Lookup as L
use Rattle.admission.specs.Outcome.{Outcome}
use Rattle.counting.specs.CountOutcomes.{CountOutcome}
use Rattle.lookup_search.specs.KeyAnswers.{key_buffer_after}
use Rattle.oracle_numbers.specs.Numbers.{front, done_number}

-- ---- opening: 0 and what the file says, or the refusal

abbrev pub checksum_number : Option ℕ → ℕ
checksum_number (some c) = c
checksum_number none = 4294967296

abbrev pub open_number : Opening → ℕ
open_number (opened m) = 0
open_number (refused n) = number n

abbrev pub open_numbers : Meta → List ℕ
open_numbers m = m.version ∷ (m.ty ∷ (m.len ∷ (m.root ∷ (checksum_number m.checksum ∷ []))))

abbrev pub open_buffer : Opening → List ℕ → List ℕ
open_buffer (opened m) out = front (open_numbers m) out
open_buffer (refused n) out = out

pub record OpenTold (o : Opening) (out₀ out : List ℕ) (r : ℕ) : Type 0 where
  pub answer : r ≡ open_number o
  pub buffer : out ≡ open_buffer o out₀

-- ---- admission and the table of keys: 0, or the refusal

pub record AdmitTold (s d₀ s₀ d t : List ℕ) (r : ℕ) : Type 0 where
  pub answer : Result ⊤ Refusal
  pub outcome : Outcome s d₀ s₀ d t answer
  pub told : r ≡ done_number answer

pub record CountTold (s d₀ s₀ c₀ d t c : List ℕ) (r : ℕ) : Type 0 where
  pub answer : Result ⊤ Refusal
  pub outcome : CountOutcome s d₀ s₀ c₀ d t c answer
  pub told : r ≡ done_number answer

-- ---- a value for a key: 0 and the value, 100 for none, or the refusal

abbrev pub get_number : L.Answer → ℕ
get_number (L.Answer.value v) = 0
get_number L.Answer.none = 100
get_number (L.Answer.refused n) = number n

abbrev pub get_buffer : L.Answer → List ℕ → List ℕ
get_buffer (L.Answer.value v) out = front (v ∷ []) out
get_buffer L.Answer.none out = out
get_buffer (L.Answer.refused n) out = out

pub record GetTold (a : L.Answer) (out₀ out : List ℕ) (r : ℕ) : Type 0 where
  pub answer : r ≡ get_number a
  pub buffer : out ≡ get_buffer a out₀

-- ---- a key for a value: its length, 1000 for none, or 2000 and the refusal

abbrev pub key_number : L.KeyAnswer → ℕ
key_number (L.KeyAnswer.found k) = length k
key_number L.KeyAnswer.none = 1000
key_number (L.KeyAnswer.refused n) = 2000 + number n

pub record KeyTold (w : L.KeyAnswer) (buf₀ buf : List ℕ) (r : ℕ) : Type 0 where
  pub answer : r ≡ key_number w
  pub buffer : buf ≡ key_buffer_after w buf₀
