-- What the exported functions answer: numbers, and what the lent buffers hold afterwards. The reading itself is in `reading`, `plain` and
-- `stream`, and `stream_arrays` has the arrays that hold it. Runs has the calls one after the other.
--     StartTold w h₀ n₀ h n r       what is told of the answer w to a start
--     Told a v₀ v r                 the number and the value that are told of an answer
--     NextTold w h n k₀ k v₀ v r    what is told of the answer w to a call of next
-- Assumes nothing.
use Rattle.std.specs.Prelude.{◌≡◌, List, [], ◌∷◌, ℕ, ◌+◌, length, Ok, Err, Some, None, Result, Option}
use Rattle.format.specs.Limits.{number}
use Rattle.format.specs.declared.Refusal.{Refusal}
use Rattle.reading.specs.Reading as R
use Rattle.reading.specs.Reading.{key, end, written}
use Rattle.plain.specs.Plain as P
use Rattle.stream_arrays.specs.Arrays.{Held, held_plain}

-- ---- start: 0 and the reading, or the refusal

abbrev pub start_number : P.Begun → ℕ
start_number (P.begun p) = 0
start_number (P.Begun.refused n) = number n

pub record StartTold (w : P.Begun) (h₀ : Held) (n₀ : List ℕ) (h : Held) (n : List ℕ) (r : ℕ) : Type 0 where
  pub answer : r ≡ start_number w
  pub reading : (p : P.Plain) → w ≡ P.begun p → held_plain h n ≡ p
  pub kept : (m : Refusal) → w ≡ P.Begun.refused m → (h ≡ h₀) × (n ≡ n₀)

-- ---- next: a key's length, 1000 for the end, or 2000 and the refusal; and a key's value

abbrev pub next_number : R.Answer → ℕ
next_number (key k v) = length k
next_number end = 1000
next_number (R.Answer.refused n) = 2000 + number n

-- a key's value; else what was there
abbrev pub value_in : R.Answer → List ℕ → List ℕ
value_in (key k x) v = x ∷ []
value_in end v = v
value_in (R.Answer.refused n) v = v

abbrev pub answer_number : Result (Option (ℕ × ℕ)) Refusal → ℕ
answer_number (Ok (Some (n, x))) = n
answer_number (Ok None) = 1000
answer_number (Err n) = 2000 + number n

abbrev pub answer_value : Result (Option (ℕ × ℕ)) Refusal → List ℕ → List ℕ
answer_value (Ok (Some (n, x))) v = x ∷ []
answer_value (Ok None) v = v
answer_value (Err n) v = v

pub record Told (a : Result (Option (ℕ × ℕ)) Refusal) (v₀ v : List ℕ) (r : ℕ) : Type 0 where
  pub number : r ≡ answer_number a
  pub value : v ≡ answer_value a v₀

pub record NextTold (w : P.PlainStep) (h : Held) (n k₀ k v₀ v : List ℕ) (r : ℕ) : Type 0 where
  pub answer : r ≡ next_number w.answer
  pub reading : held_plain h n ≡ w.reading
  pub buffer : k ≡ written w.answer k₀
  pub value : v ≡ value_in w.answer v₀
