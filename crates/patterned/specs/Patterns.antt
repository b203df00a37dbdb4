-- What a start and a call of next give back, against `start_by` and `next_by` (document 02, N1).
--     begun_is r                      what a start answered, without its pattern
--     StartedBy w p r                 the answer of a start whose definition answers w; a reading that it gives holds the pattern p
--     SteppedBy w q buf₀ buf r        the answer, the reading and the buffer of a call whose definition answers w; the pattern is the one given
-- Assumes nothing.
use Rattle.std.specs.Prelude.{◌≡◌, List, ℕ, Ok, Err, Result}
use Rattle.format.specs.declared.Refusal.{Refusal}
use Rattle.reading.specs.Reading as R
use Rattle.reading.specs.Reading.{written}
use Rattle.stream_start.specs.Views.{view_is}
use Rattle.stream_step.specs.Stepped.{answer_as}
use Rattle.stream_step.specs.declared.Step.{Step}
use Rattle.pattern.specs.Pattern as P
use Rattle.patterned_fit.specs.declared.Pattern.{Pattern}
use Rattle.patterned_held.specs.HeldPatterns.{held_is}
use Rattle.patterned.specs.declared.Patterned.{Patterned}

abbrev pub begun_is : Result Patterned Refusal → R.Started
begun_is (Ok q) = R.started (view_is q.reading)
begun_is (Err n) = R.Started.refused n

pub record StartedBy (w : R.Started) (p : P.Pattern) (r : Result Patterned Refusal) : Type 0 where
  pub answer : begun_is r ≡ w
  pub pattern : (q : Patterned) → r ≡ Ok q → held_is q.pattern ≡ p

pub record SteppedBy (w : R.Step) (q : Pattern) (buf₀ buf : List ℕ) (r : Step Patterned) : Type 0 where
  pub answer : r.answer ≡ answer_as w.answer
  pub reading : view_is r.reading.reading ≡ w.reading
  pub pattern : r.reading.pattern ≡ q
  pub buffer : buf ≡ written w.answer buf₀
