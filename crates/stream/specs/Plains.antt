-- What the values of this crate stand for, against `start_plain` and `next_plain` (crate plain).
--     plain_is p                    what a plain reading says
--     begun_is b                    what a start answered
--     no_plain                      a plain reading without levels, with no key to come
--     CallGave w r                 the answer and the reading of a call whose definition answers w
--     PlainStepped w buf₀ buf r    the same, with the buffer before and after
-- Assumes nothing.
use Rattle.std.specs.Prelude.{◌≡◌, List, ℕ, Ok, Err, Result}
use Rattle.format.specs.declared.Refusal.{Refusal}
use Rattle.reading.specs.Reading.{written}
use Rattle.plain.specs.Plain as P
use Rattle.plain.specs.Plain.{plain_with}
use Rattle.stream_start.specs.Views.{view_is, no_reading}
use Rattle.stream_step.specs.Stepped.{answer_as}
use Rattle.stream_step.specs.declared.Step.{Step}
use Rattle.stream.specs.declared.Plain.{Plain}

abbrev pub plain_is : Plain → P.Plain
plain_is p = plain_with (view_is p.reading) p.keys

abbrev pub begun_is : Result Plain Refusal → P.Begun
begun_is (Ok p) = P.begun (plain_is p)
begun_is (Err n) = P.Begun.refused n

abbrev pub no_plain : Plain
no_plain = record { reading = no_reading; keys = 0 }

pub record CallGave (w : P.PlainStep) (r : Step Plain) : Type 0 where
  pub answer : r.answer ≡ answer_as w.answer
  pub plain : plain_is r.reading ≡ w.reading

pub record PlainStepped (w : P.PlainStep) (buf₀ buf : List ℕ) (r : Step Plain) : Type 0 where
  pub gave : CallGave w r
  pub buffer : buf ≡ written w.answer buf₀
