-- A list of the code's own calls of `patterned::next`, each on the reading by pattern that the one before returned, and what the caller has in hand.
--     CodeCallBy                   one call: the file's bytes, the key buffer before and after, and what next gave back
--     MadeBy s r cs                the calls cs, from the reading r, each as next's contract says; each with the file s or one of another length
--     code_answers_by cs             their answers, a key as the first n bytes of its buffer afterwards
--     last_reading_by r cs           the reading after cs, which a later call gets
--     calls_by_is w                  the calls by definition
--     CallsDefinedBy               answers and last reading are the definition's, of which demand 3 by pattern holds
--     AsDefinedBy                  the start is not refused, and CallsDefinedBy holds of all calls from its reading
-- Assumes nothing.
use Prim.{Unit}
use Rattle.std.specs.Prelude.{◌≡◌, ◌⊎◌, List, [], ◌∷◌, map, ℕ, length, Ok, Result}
use Rattle.format.specs.declared.Refusal.{Refusal}
use Rattle.format.specs.Admitted.{Admitted}
use Rattle.format.specs.Strings as S
use Rattle.reading.specs.Reading as R
use Rattle.reading.specs.Demand.{Call}
use Rattle.pattern.specs.Pattern as P
use Rattle.pattern.specs.Pattern.{next_by}
use Rattle.pattern.specs.PatternDemand.{DemandBy, reading_after_by, answers_by}
use Rattle.stream_start.specs.Views.{view_is}
use Rattle.stream_calls.specs.Calls.{in_hand}
use Rattle.patterned.specs.declared.Patterned.{Patterned}
use Rattle.stream_step.specs.declared.Step.{Step}
use Rattle.patterned_held.specs.HeldPatterns.{held_is}
use Rattle.patterned.specs.Patterns.{SteppedBy}

-- ---- a call

pub record CodeCallBy : Type 0 where
  pub file : List ℕ
  pub before : List ℕ
  pub after : List ℕ
  pub step : Step Patterned

-- what the contract of next says, of a call on the reading r with the file s or one of another length
pub record CallMadeBy (s : List ℕ) (r : Patterned) (c : CodeCallBy) : Type 0 where
  pub which : (c.file ≡ s) ⊎ (¬ (length c.file ≡ length s))
  pub stepped : SteppedBy (next_by c.file (held_is r.pattern) (view_is r.reading) (length c.before)) r.pattern c.before c.after c.step

abbrev pub answered_by : CodeCallBy → R.Answer
answered_by c = in_hand c.step.answer c.after

-- ---- a list of calls

abbrev pub MadeBy : List ℕ → Patterned → List CodeCallBy → Type 0
MadeBy s r [] = Unit {0}
MadeBy s r (c ∷ cs) = CallMadeBy s r c × MadeBy s c.step.reading cs

abbrev pub code_answers_by : List CodeCallBy → List R.Answer
code_answers_by cs = map answered_by cs

abbrev pub last_reading_by : Patterned → List CodeCallBy → Patterned
last_reading_by r [] = r
last_reading_by r (c ∷ cs) = last_reading_by c.step.reading cs

abbrev pub call_by_is : {s : List ℕ} {r : Patterned} (c : CodeCallBy) → CallMadeBy s r c → Call s
call_by_is c w = record { file = c.file; space = length c.before; which = w.which }

abbrev pub calls_by_is : {s : List ℕ} (r : Patterned) (cs : List CodeCallBy) → MadeBy s r cs → List (Call s)
calls_by_is r [] w = []
calls_by_is r (c ∷ cs) w = call_by_is c w.0 ∷ calls_by_is c.step.reading cs w.1

-- ---- the claim

-- cs are the code's calls, from the reading q that its start gave
pub record CallsDefinedBy {s : List ℕ} (A : Admitted s) (p : P.Pattern) (lo hi : S.Bound) (q : Patterned) (cs : List CodeCallBy) (made : MadeBy s q cs)
    : Type 0 where
  pub demand : DemandBy A p lo hi (calls_by_is q cs made)
  pub first_reading : view_is q.reading ≡ demand.reading
  pub same_answers : code_answers_by cs ≡ answers_by p demand.reading (calls_by_is q cs made)
  pub last_reading_lem : view_is (last_reading_by q cs).reading ≡ reading_after_by p demand.reading (calls_by_is q cs made)
  -- the pattern never changes
  pub last_pattern : held_is (last_reading_by q cs).pattern ≡ p

-- b is what the code's start gave
pub record AsDefinedBy {s : List ℕ} (A : Admitted s) (p : P.Pattern) (lo hi : S.Bound) (b : Result Patterned Refusal) : Type 0 where
  pub reading : Patterned
  pub began : b ≡ Ok reading
  pub calls : (cs : List CodeCallBy) (made : MadeBy s reading cs) → CallsDefinedBy A p lo hi reading cs made
