-- What the walk of a next comes to, over levels in arrays, against `R.walk` where nothing is pending.
--     view_with len hi n e t levels       a reading by its parts
--     step_of r₀ r x                      the step of a call on a reading that stays where it is: r₀ before and r after it
--     gone_answer g                       the answer that a call gives for it
--     after_found r .., gone_view r .. g    the reading after it, its levels in the arrays
--     GoneBy w r buf₀ buf .. g           the answer, the arrays and the buffer of a walk from r whose definition answers w
-- Assumes nothing.
use Rattle.std.specs.Prelude.{◌≡◌, List, [], ℕ, ◌+◌, ◌<◌, Ok, Err, Some, None, Result, Option as Maybe}
use Rattle.std.proofs.Math.Option.{Option}
use Rattle.format.specs.declared.Refusal.{Refusal}
use Rattle.format.specs.Limits.{max_levels}
use Rattle.format.specs.Strings as S
use Rattle.reading.specs.Reading as R
use Rattle.reading.specs.Reading.{View, Level, moved, written}
use Rattle.stream_start.specs.Views.{stack_is}
use Rattle.stream_step.specs.declared.Step.{Step}
use Rattle.stream_step.specs.Stepped.{answer_as}
use Rattle.stream_descend.specs.declared.Followed.{Followed}
use Rattle.stream_descend.specs.Descent.{down_at}

abbrev pub view_with : ℕ → S.Bound → ℕ → Option ℕ → ℕ → List Level → View
view_with len hi n e t levels = record { len = len; bound = hi; bound_len = n; empty = e; total = t; levels = levels }

abbrev pub step_of : {T : Type 0} → T → T → Result (Maybe (ℕ × ℕ)) Refusal → Step T
step_of r₀ r (Ok x) = record { answer = Ok x; reading = r }
step_of r₀ r (Err n) = record { answer = Err n; reading = r₀ }

abbrev pub gone_answer : Result Followed Refusal → Result (Maybe (ℕ × ℕ)) Refusal
gone_answer (Ok g) = Ok g.found
gone_answer (Err n) = Err n

abbrev pub after_found : View → List ℕ → List ℕ → List ℕ → List ℕ → Maybe (ℕ × ℕ) → ℕ → View
after_found r xs is ps os (Some (k, v)) t = moved r (stack_is (k + 1) xs is ps os) t
after_found r xs is ps os None t = moved r [] t

abbrev pub gone_view : View → List ℕ → List ℕ → List ℕ → List ℕ → Result Followed Refusal → View
gone_view r xs is ps os (Ok g) = after_found r xs is ps os g.found g.total
gone_view r xs is ps os (Err n) = r

pub record GoneBy (w : R.Step) (r : View) (buf₀ buf xs is ps os : List ℕ) (g : Result Followed Refusal) : Type 0 where
  pub answer : gone_answer g ≡ answer_as w.answer
  pub reading : gone_view r xs is ps os g ≡ w.reading
  pub buffer : buf ≡ written w.answer buf₀
  pub low : down_at g < max_levels
