-- A plain reading from its start to its end, call after call: the claim that `whole_plain` proves (PlainRunLaws).
--     RunsPlain s space p es p'     calls with the file and a buffer of space bytes hand out es, then answer "end" and leave p'
--     WholePlain A lo hi c space    from the start with the table c: the run of `Whole`, and the number, which starts at its keys and ends at 0
-- Assumes nothing.
use Rattle.std.specs.Prelude.{◌≡◌, List, [], ◌∷◌, ℕ, length}
use Rattle.format.specs.Admitted.{Admitted}
use Rattle.format.specs.Strings.{Bound}
use Rattle.reading.specs.Reading.{end}
use Rattle.reading.specs.Demand.{Entry, hand_out}
use Rattle.reading.specs.WholeRun.{Whole}
use Rattle.plain.specs.Plain.{Plain, plain_with, begun, start_plain, next_plain}

pub data RunsPlain (s : List ℕ) (space : ℕ) : Plain → List Entry → Plain → Type 0 where
  run_end : {p p' : Plain} → next_plain s p space ≡ record { answer = end; reading = p' } → RunsPlain s space p [] p'
  run_key : {p p₁ p' : Plain} {es : List Entry} (e : Entry) → next_plain s p space ≡ record { answer = hand_out e; reading = p₁ } → RunsPlain s space p₁ es p'
      → RunsPlain s space p (e ∷ es) p'

pub record WholePlain {s : List ℕ} (A : Admitted s) (lo hi : Bound) (c : List ℕ) (space : ℕ) : Type 0 where
  -- the keys, their values and the total
  pub whole : Whole A lo hi space
  pub starts : start_plain s lo hi c ≡ begun (plain_with whole.reading (length whole.entries))
  pub runs : RunsPlain s space (plain_with whole.reading (length whole.entries)) whole.entries (plain_with whole.last 0)
