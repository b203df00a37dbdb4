-- What a call of next gives back, against `R.next` (document 01, "A reading").
--     answer_as a                     the answer of next that stands for one of the definition
--     Stepped w buf₀ buf r           the answer, the reading and the buffer of a call whose definition answers w
-- Assumes nothing.
use Rattle.std.specs.Prelude.{◌≡◌, List, ℕ, length, Ok, Err, Some, None, Result, Option}
use Rattle.format.specs.declared.Refusal.{Refusal}
use Rattle.reading.specs.Reading as R
use Rattle.reading.specs.Reading.{key, end, written}
use Rattle.stream_start.specs.Views.{view_is}
use Rattle.stream_start.specs.declared.Reading.{Reading}
use Rattle.stream_step.specs.declared.Step.{Step}

abbrev pub answer_as : R.Answer → Result (Option (ℕ × ℕ)) Refusal
answer_as (key k v) = Ok (Some (length k, v))
answer_as end = Ok None
answer_as (R.Answer.refused n) = Err n

pub record Stepped (w : R.Step) (buf₀ buf : List ℕ) (r : Step Reading) : Type 0 where
  pub answer : r.answer ≡ answer_as w.answer
  pub reading : view_is r.reading ≡ w.reading
  pub buffer : buf ≡ written w.answer buf₀
