-- What the functions of readings for C answer, and what they leave in each buffer and number, in every case (include/baxhiso.h). `stream_arrays`
-- has the arrays that hold a reading between calls.
--     CountLeaves s ..        filling the table of keys of the bytes s: the result and the three tables
--     StartLeaves w ..        a start that answers w: the result and the arrays
--     NextLeaves w ..         a call of next that answers w: the result, the arrays, the key buffer, the key's length and its value
--     RangeLeaves w ..        a range that answers w: the result, the rows, the values and how many
-- A name with ₀ is what the caller handed in. Assumes nothing.
use Rattle.std.specs.Prelude.{◌≡◌, List, ℕ, zero, suc, ℤ, pos, negsuc, length}
use Rattle.format.specs.declared.Refusal.{Refusal}
use Rattle.format.specs.Limits.{number}
use Rattle.reading.specs.Reading as R
use Rattle.reading.specs.Reading.{key, end, written}
use Rattle.plain.specs.Plain as P
use Rattle.paging.specs.Paging as G
use Rattle.paging.specs.Paging.{Page, ended, more, rows_after, values_after}
use Rattle.counting.specs.CountOutcomes.{Counts, CountRefusedFor}
use Rattle.stream_arrays.specs.Arrays.{Held, held_plain}
use Rattle.baxhiso.specs.Exports.{OK, code}
pub use Rattle.baxhiso_results.specs.Results.{END, MORE, result_of, len_of, value_of, AnswerLeaves, stop_of}

-- ---- the table of keys

-- by the result, as `AdmitLeaves`: 0 only for a table that is filled, any other number for the refusal that it names, and nothing negative
abbrev pub CountLeaves : List ℕ → List ℕ → List ℕ → List ℕ → List ℕ → List ℕ → List ℕ → ℤ → Type 0
CountLeaves s d₀ s₀ c₀ d t c (pos zero) = Counts s d₀ s₀ c₀ d t c
CountLeaves s d₀ s₀ c₀ d t c (pos (suc n)) = (why : Refusal) × (number why ≡ suc n) × CountRefusedFor s d₀ s₀ c₀ d t c why
CountLeaves s d₀ s₀ c₀ d t c (negsuc n) = ⊥

-- ---- start

abbrev pub start_result : P.Begun → ℤ
start_result (P.begun p) = OK
start_result (P.Begun.refused n) = code n

-- the arrays hold the reading that began, or are as given
pub record StartLeaves (w : P.Begun) (h₀ : Held) (n₀ : List ℕ) (h : Held) (n : List ℕ) (r : ℤ) : Type 0 where
  pub result : r ≡ start_result w
  pub reading : (p : P.Plain) → w ≡ P.begun p → held_plain h n ≡ p
  pub kept : (m : Refusal) → w ≡ P.Begun.refused m → (h ≡ h₀) × (n ≡ n₀)

-- ---- next

abbrev pub next_result : R.Answer → ℤ
next_result (key k v) = OK
next_result end = END
next_result (R.Answer.refused n) = code n

abbrev pub next_len : R.Answer → ℕ → ℕ
next_len (key k v) len₀ = length k
next_len end len₀ = len₀
next_len (R.Answer.refused n) len₀ = len₀

abbrev pub next_value : R.Answer → ℕ → ℕ
next_value (key k v) v₀ = v
next_value end v₀ = v₀
next_value (R.Answer.refused n) v₀ = v₀

pub record NextLeaves (w : P.PlainStep) (h : Held) (n k₀ k : List ℕ) (len₀ len v₀ v : ℕ) (r : ℤ) : Type 0 where
  pub result : r ≡ next_result w.answer
  -- after a refusal the definition gives the reading as it was (ReadingsLaws, `refused_stays`)
  pub reading : held_plain h n ≡ w.reading
  pub buffer : k ≡ written w.answer k₀
  pub len_is : len ≡ next_len w.answer len₀
  pub value_is : v ≡ next_value w.answer v₀

-- ---- a range

abbrev pub range_result : G.Stop → ℤ
range_result ended = END
range_result more = MORE
range_result (G.Stop.refused n) = code n

-- the keys that were found stand in their rows, also beside a refusal, and the rest as given
pub record RangeLeaves (w : Page) (rows₀ rows values₀ values : List ℕ) (count : ℕ) (r : ℤ) : Type 0 where
  pub result : r ≡ range_result w.stop
  pub count_is : count ≡ length w.entries
  pub rows_are : rows ≡ rows_after w.entries rows₀
  pub values_are : values ≡ values_after w.entries values₀
