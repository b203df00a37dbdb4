-- Demand 3 by pattern of the code: `code_as_defined_by`. Each call's contract gives the definition's answer and reading, so a list of calls is the
-- definition's list.
--     pattern_stays                      the pattern after a list of calls
--     answers_by_are, reading_by_is      of a list of calls
--     code_as_defined_by                 with the start, which is not refused: the definition's answers, and its last reading, of any calls from there
-- Assumes nothing.
use Rattle.std.specs.Prelude.{◌≡◌, refl, List, [], ◌∷◌, ℕ, ◌≤◌, length, Ok, Err, Result}
use Rattle.std.proofs.Common.{sym, ◌∙◌, ap, ap₂, arith}
use Rattle.format.specs.declared.Refusal.{Refusal}
use Rattle.format.specs.Limits.{max_path}
use Rattle.format.specs.Admitted.{Admitted}
use Rattle.format.specs.Strings as S
use Rattle.reading.specs.Reading as R
use Rattle.reading.specs.Reading.{View, bound_bytes}
use Rattle.reading.specs.Demand.{Call}
use Rattle.pattern.specs.Pattern as P
use Rattle.pattern.specs.Pattern.{start_by, next_by}
use Rattle.pattern.specs.PatternDemand.{DemandBy, call_by, reading_after_by, answers_by}
use Rattle.pattern.proofs.DemandByLaws.{demand_3_by}
use Rattle.stream_start.specs.Views.{view_is}
use Rattle.stream_calls.specs.Calls.{in_hand}
use Rattle.stream_calls.specs.CallsLaws.{in_hand_lem}
use Rattle.patterned_fit.specs.declared.Pattern.{Pattern}
use Rattle.patterned.specs.declared.Patterned.{Patterned}
use Rattle.patterned_held.specs.HeldPatterns.{held_is}
use Rattle.patterned.specs.Patterns.{begun_is, StartedBy}
use Rattle.patterned_calls.specs.CallsBy.{CodeCallBy, CallMadeBy, answered_by, MadeBy, code_answers_by, last_reading_by, call_by_is, calls_by_is, CallsDefinedBy, AsDefinedBy}

-- ---- a call

answer_by_is : {s : List ℕ} {r : Patterned} (c : CodeCallBy) (w : CallMadeBy s r c)
    → answered_by c ≡ (call_by (held_is r.pattern) (view_is r.reading) (call_by_is c w)).answer
answer_by_is {s} {r} c w =
    ap₂ in_hand w.stepped.answer w.stepped.buffer
    ∙ in_hand_lem (next_by c.file (held_is r.pattern) (view_is r.reading) (length c.before)).answer c.before

-- ---- a list of calls

pub pattern_stays : (s : List ℕ) (r : Patterned) (cs : List CodeCallBy) → MadeBy s r cs → (last_reading_by r cs).pattern ≡ r.pattern
pattern_stays s r [] w = refl
pattern_stays s r (c ∷ cs) w = pattern_stays s c.step.reading cs w.1 ∙ w.0.stepped.pattern

pub answers_by_are : (s : List ℕ) (r : Patterned) (cs : List CodeCallBy) (w : MadeBy s r cs)
    → code_answers_by cs ≡ answers_by (held_is r.pattern) (view_is r.reading) (calls_by_is r cs w)
answers_by_are s r [] w = refl
answers_by_are s r (c ∷ cs) w =
    ap₂ ◌∷◌ (answer_by_is c w.0)
    (answers_by_are s c.step.reading cs w.1
    ∙ ap₂ (λ (q : Pattern) (v : View). answers_by (held_is q) v (calls_by_is c.step.reading cs w.1)) w.0.stepped.pattern w.0.stepped.reading)

pub reading_by_is : (s : List ℕ) (r : Patterned) (cs : List CodeCallBy) (w : MadeBy s r cs)
    → view_is (last_reading_by r cs).reading ≡ reading_after_by (held_is r.pattern) (view_is r.reading) (calls_by_is r cs w)
reading_by_is s r [] w = refl
reading_by_is s r (c ∷ cs) w =
    reading_by_is s c.step.reading cs w.1
    ∙ ap₂ (λ (q : Pattern) (v : View). reading_after_by (held_is q) v (calls_by_is c.step.reading cs w.1)) w.0.stepped.pattern w.0.stepped.reading

-- ---- the start

started_same : {v u : View} → R.started v ≡ R.started u → v ≡ u
started_same e = cc

begun_reading : (r : Result Patterned Refusal) (v : View) → begun_is r ≡ R.started v → (q : Patterned) × (r ≡ Ok q)
begun_reading (Ok q) v e = (q, refl)
begun_reading (Err n) v e = absurd (let z : ◌≡◌ {A = ℕ} 0 1 = cc in omega arith)

module _ {s : List ℕ} (A : Admitted s) (p : P.Pattern) (few : length p.positions ≤ max_path) (lo hi : S.Bound) (short_lo : length (bound_bytes lo) ≤ max_path)
    (short_hi : length (bound_bytes hi) ≤ max_path) (b : Result Patterned Refusal) (first : StartedBy (start_by s p lo hi) p b) where
  demanded : (cs : List (Call s)) → DemandBy A p lo hi cs
  demanded cs = demand_3_by A lo hi short_lo short_hi p few cs

  begins : (q : Patterned) × (b ≡ Ok q)
  begins = begun_reading b (demanded []).reading (first.answer ∙ (demanded []).starts)

  module _ (q : Patterned) (is : b ≡ Ok q) where
    same : (cs : List (Call s)) → view_is q.reading ≡ (demanded cs).reading
    same cs = started_same (sym (ap begun_is is) ∙ first.answer ∙ (demanded cs).starts)

    calls_defined_by : (cs : List CodeCallBy) (made : MadeBy s q cs) → CallsDefinedBy A p lo hi q cs made
    calls_defined_by cs made =
        record {
          demand = demanded (calls_by_is q cs made);
          first_reading = same (calls_by_is q cs made);
          same_answers =
              answers_by_are s q cs made
              ∙ ap₂ (λ (x : P.Pattern) (v : View). answers_by x v (calls_by_is q cs made)) (first.pattern q is) (same (calls_by_is q cs made));
          last_reading_lem =
              reading_by_is s q cs made
              ∙ ap₂ (λ (x : P.Pattern) (v : View). reading_after_by x v (calls_by_is q cs made)) (first.pattern q is) (same (calls_by_is q cs made));
          last_pattern = ap held_is (pattern_stays s q cs made) ∙ first.pattern q is;
        }

  pub code_as_defined_by : AsDefinedBy A p lo hi b
  code_as_defined_by = record { reading = begins.0; began = begins.1; calls = calls_defined_by begins.0 begins.1 }
