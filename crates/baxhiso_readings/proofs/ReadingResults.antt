-- From what a start and a next answer to what the functions for C leave, for each answer.
-- Assumes nothing.
use mathlib.Core.Path.{◌≡◌, refl, sym, ap, ◌∙◌, subst}
use Rattle.std.specs.Prelude.{Ok, Err, Result, ⊤}
use Rattle.format.specs.declared.Refusal.{Refusal}
use Rattle.format.specs.Limits.{number}
use mathlib.Core.List.{List}
use Prim.Native.Nat.{ℕ, zero, suc}
use native.Mathlib.Omega.{arith}
use lib.IntN.{ℤ, pos}
use Rattle.reading.specs.Reading as R
use Rattle.reading.specs.Reading.{key, end}
use Rattle.plain.specs.Plain as P
use Rattle.paging.specs.Paging as G
use Rattle.counting.specs.CountOutcomes.{CountRefusedFor, CountOutcome}
use Rattle.range_fill.specs.declared.Ranged.{Ranged}
use Rattle.range_fill.specs.RangedRows.{RangedBy}
use Rattle.format.specs.Strings as F
use Rattle.stream_start.specs.Views.{bound_is}
use Rattle.stream_step.specs.Stepped.{answer_as}
use Rattle.stream_next.specs.Going.{step_of}
use Rattle.stream.specs.declared.Plain.{Plain}
use Rattle.stream.specs.Plains.{plain_is, begun_is, PlainStepped}
use Rattle.stream_arrays.specs.Arrays.{kind_is, Held, PlainPut, held_plain}
use Rattle.stream_arrays.specs.ArraysLaws.{plain_back}
use Rattle.baxhiso.specs.Exports.{OK, code, done_of}
use Rattle.baxhiso_readings.specs.Readings.{CountLeaves, StartLeaves, next_result, next_len, next_value, result_of, len_of, value_of, NextLeaves}
use Rattle.baxhiso_readings.specs.ReadingsLaws.{counted_not_0}

-- ---- the table of keys

refused_leaves : {s d₀ s₀ c₀ d t c : List ℕ} (why : Refusal) → CountRefusedFor s d₀ s₀ c₀ d t c why → CountLeaves s d₀ s₀ c₀ d t c (code why)
refused_leaves {s} {d₀} {s₀} {c₀} {d} {t} {c} why h = go (number why) refl
  where
    go : (n : ℕ) → number why ≡ n → CountLeaves s d₀ s₀ c₀ d t c (pos n)
    go zero e = absurd (counted_not_0 h e)
    go (suc n) e = (why, e, h)

pub count_leaves : (s d₀ s₀ c₀ d t c : List ℕ) (r : Result ⊤ Refusal) → CountOutcome s d₀ s₀ c₀ d t c r → CountLeaves s d₀ s₀ c₀ d t c (done_of r)
count_leaves s d₀ s₀ c₀ d t c (Ok u) h = h
count_leaves s d₀ s₀ c₀ d t c (Err why) h = refused_leaves why h

-- ---- start

module _ {w : P.Begun} (s : Result Plain Refusal) (e : begun_is s ≡ w) where
  pub start_refused : (m : Refusal) (z : ℤ) (h : Held) (n : List ℕ) → s ≡ Err m → z ≡ code m → StartLeaves w h n h n z
  start_refused m z h n is is_z =
      let q : w ≡ P.Begun.refused m = sym e ∙ ap begun_is is in
      rw q (record { result = is_z; reading = λ p no. absurd (let z : ◌≡◌ {A = ℕ} 0 1 = cc in omega arith); kept = λ i same. (refl, refl) })

  pub start_began : (p : Plain) (h₀ : Held) (n₀ : List ℕ) (h : Held) (n : List ℕ) → s ≡ Ok p → PlainPut p h n → StartLeaves w h₀ n₀ h n OK
  start_began b h₀ n₀ h n is put =
      let q : w ≡ P.begun (plain_is b) = sym e ∙ ap begun_is is in
      rw q
      (record {
        result = refl;
        reading = λ p same. plain_back put ∙ (let z : plain_is b ≡ p = cc in z);
        kept = λ m no. absurd (let z : ◌≡◌ {A = ℕ} 0 1 = cc in omega arith);
      })

-- ---- next

-- an answer of the code leaves what the definition's does
result_is : (a : R.Answer) → result_of (answer_as a) ≡ next_result a
result_is (key k v) = refl
result_is end = refl
result_is (R.Answer.refused n) = refl

len_is : (a : R.Answer) (x : ℕ) → len_of (answer_as a) x ≡ next_len a x
len_is (key k v) x = refl
len_is end x = refl
len_is (R.Answer.refused n) x = refl

value_is : (a : R.Answer) (x : ℕ) → value_of (answer_as a) x ≡ next_value a x
value_is (key k v) x = refl
value_is end x = refl
value_is (R.Answer.refused n) x = refl

-- a refusal leaves the arrays, the buffer, the length and the value as they were
pub next_refused : {w : P.PlainStep} {k₀ k : List ℕ} (p q : Plain) (m : Refusal) → PlainStepped w k₀ k (step_of p q (Err m)) → (h : Held) (n : List ℕ)
    → held_plain h n ≡ plain_is p → (len v : ℕ) (r z : ℤ) → r ≡ z → z ≡ code m → NextLeaves w h n k₀ k len len v v r
next_refused {w} {k₀} {k} p q m st h n held len v r z same is_z =
    let is = st.gave.answer in
    record {
      result = same ∙ is_z ∙ ap result_of is ∙ result_is w.answer;
      reading = held ∙ st.gave.plain;
      buffer = st.buffer;
      len_is = ap (λ a. len_of a len) is ∙ len_is w.answer len;
      value_is = ap (λ a. value_of a v) is ∙ value_is w.answer v;
    }

-- ---- a range

-- the bounds are those that the numbers with their bytes stand for
pub range_bounds : (f lo hi : List ℕ) {x y : F.Bound} (n m most a b : ℕ) {rows₀ rows values₀ values : List ℕ} {g : Ranged} → x ≡ bound_is (kind_is n) lo
    → y ≡ bound_is (kind_is m) hi → RangedBy (G.range f x y most a b) rows₀ rows values₀ values g
    → RangedBy (G.range f (bound_is (kind_is n) lo) (bound_is (kind_is m) hi) most a b) rows₀ rows values₀ values g
range_bounds f lo hi {x} {y} n m most a b {rows₀} {rows} {values₀} {values} {g} p q h =
    subst (λ v. RangedBy (G.range f (bound_is (kind_is n) lo) v most a b) rows₀ rows values₀ values g) q
    (subst (λ v. RangedBy (G.range f v y most a b) rows₀ rows values₀ values g) p h)
