-- What the exported functions by pattern answer: numbers, and what the lent buffers hold afterwards. `stream_arrays` has the arrays, and
-- `StreamTells` of `oracle_stream` the numbers of an answer; a reading by pattern holds no number of keys to come. The readings themselves are in `reading` and `pattern`.
--     start_by_number w                the number for the answer w to a start
--     StartByTold w h₀ h r           what is told of the answer w to a start
--     NextByTold w h k₀ k v₀ v r     what is told of the answer w to a call of next
-- Assumes nothing.
use Rattle.std.specs.Prelude.{◌≡◌, List, ℕ}
use Rattle.format.specs.declared.Refusal.{Refusal}
use Rattle.format.specs.Limits.{number}
use Rattle.reading.specs.Reading as R
use Rattle.reading.specs.Reading.{View, written}
use Rattle.stream_start.specs.Views.{view_is}
use Rattle.stream_arrays.specs.Arrays.{Held, held_is}
use Rattle.oracle_stream.specs.StreamTells.{next_number, value_in}

-- ---- start: 0 and the reading, or the refusal

abbrev pub start_by_number : R.Started → ℕ
start_by_number (R.started v) = 0
start_by_number (R.Started.refused n) = number n

pub record StartByTold (w : R.Started) (h₀ h : Held) (r : ℕ) : Type 0 where
  pub answer : r ≡ start_by_number w
  pub reading : (v : View) → w ≡ R.started v → view_is (held_is h) ≡ v
  pub kept : (n : Refusal) → w ≡ R.Started.refused n → h ≡ h₀

-- ---- next: a key's length, 1000 for the end, or 2000 and the refusal; and a key's value

pub record NextByTold (w : R.Step) (h : Held) (k₀ k v₀ v : List ℕ) (r : ℕ) : Type 0 where
  pub answer : r ≡ next_number w.answer
  pub reading : view_is (held_is h) ≡ w.reading
  pub buffer : k ≡ written w.answer k₀
  pub value : v ≡ value_in w.answer v₀
