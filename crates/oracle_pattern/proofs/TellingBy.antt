-- What the exported functions tell, from what a start and a next by pattern answered.
-- Assumes nothing.
use mathlib.Core.Path.{◌≡◌, refl, sym, ap, ◌∙◌, subst}
use Rattle.std.specs.Prelude.{Result, Ok, Err}
use Rattle.format.specs.declared.Refusal.{Refusal}
use Rattle.format.specs.Limits.{number}
use mathlib.Core.List.{List}
use Prim.Native.Nat.{ℕ}
use native.Mathlib.Omega.{arith}
use Rattle.reading.specs.Reading as R
use Rattle.stream_start.specs.declared.Reading.{Reading}
use Rattle.stream_start.specs.Views.{view_is}
use Rattle.stream_step.specs.declared.Step.{Step}
use Rattle.stream_step.specs.Stepped.{Stepped}
use Rattle.pattern.specs.Pattern as P
use Rattle.pattern.specs.Pattern.{next_by}
use Rattle.patterned_fit.specs.declared.Pattern.{Pattern}
use Rattle.patterned.specs.declared.Patterned.{Patterned}
use Rattle.patterned.specs.Patterns.{begun_is, StartedBy, SteppedBy}
use Rattle.stream_arrays.specs.Arrays.{Held, held_is, held_as}
use Rattle.stream_arrays.specs.ArraysLaws.{held_back}
use Rattle.oracle_stream.specs.StreamTells.{answer_number, answer_value, Told}
use Rattle.oracle_stream.specs.StreamTellsLaws.{number_is, value_is}
use Rattle.oracle_pattern.specs.HeldBy.{StartByTold, NextByTold}

-- a step without the pattern
abbrev pub step_of : Step Patterned → Step Reading
step_of r = record { answer = r.answer; reading = r.reading.reading }

-- ---- start

module _ {w : R.Started} {p : P.Pattern} {s : Result Patterned Refusal} (e : StartedBy w p s) where
  pub start_by_refused : (n : Refusal) (h : Held) → s ≡ Err n → StartByTold w h h (number n)
  start_by_refused n h is =
      let q : w ≡ R.Started.refused n = sym e.answer ∙ ap begun_is is in
      rw q (record { answer = refl; reading = λ v no. absurd (let z : ◌≡◌ {A = ℕ} 0 1 = cc in omega arith); kept = λ m same. refl })

  pub start_by_told : (a : Patterned) (h₀ h : Held) → s ≡ Ok a → h ≡ held_as a.reading → StartByTold w h₀ h 0
  start_by_told a h₀ h is put =
      let q : w ≡ R.started (view_is a.reading) = sym e.answer ∙ ap begun_is is in
      rw q
      (record {
        answer = refl;
        reading = λ v same. ap (λ x. view_is (held_is x)) put ∙ held_back a.reading ∙ (let z : view_is a.reading ≡ v = cc in z);
        kept = λ m no. absurd (let z : ◌≡◌ {A = ℕ} 0 1 = cc in omega arith);
      })

-- ---- next

-- the reading that is handed on is the one that the arrays hold
pub step_by : (f : List ℕ) (p : P.Pattern) (n : ℕ) (h : Held) {q : Pattern} {k₀ k : List ℕ} {r : Reading} {s : Step Patterned} → r ≡ held_is h
    → SteppedBy (next_by f p (view_is r) n) q k₀ k s → Stepped (next_by f p (view_is (held_is h)) n) k₀ k (step_of s)
step_by f p n h {q} {k₀} {k} {r} {s} e w =
    subst (λ (x : Reading). Stepped (next_by f p (view_is x) n) k₀ k (step_of s)) e (record { answer = w.answer; reading = w.reading; buffer = w.buffer })

pub next_by_told : {w : R.Step} {k₀ k v₀ v : List ℕ} {s : Step Reading} → Stepped w k₀ k s → (h : Held) → h ≡ held_as s.reading
    → (r : ℕ) → Told s.answer v₀ v r → NextByTold w h k₀ k v₀ v r
next_by_told {w} {k₀} {k} {v₀} {v} {s} st h put r told =
    record {
      answer = told.number ∙ ap answer_number st.answer ∙ number_is w.answer;
      reading = ap (λ x. view_is (held_is x)) put ∙ held_back s.reading ∙ st.reading;
      buffer = st.buffer;
      value = told.value ∙ ap (λ a. answer_value a v₀) st.answer ∙ value_is w.answer v₀;
    }
