-- What the exported functions tell, from what carrying gave back.
-- Assumes nothing.
use mathlib.Core.Path.{◌≡◌, refl, sym, ap, ◌∙◌}
use Rattle.std.specs.Prelude.{Ok, Err, Result}
use Rattle.format.specs.declared.Refusal.{Refusal}
use Rattle.format.specs.Limits.{number}
use mathlib.Core.Bool.{false}
use mathlib.Core.List.{List}
use Prim.Native.Nat.{ℕ}
use native.Mathlib.Omega.{arith}
use lib.ListN.{replicate}
use Rattle.reading.specs.Reading.{View}
use Rattle.plain.specs.Plain as P
use Rattle.plain.specs.Plain.{plain_with}
use Rattle.stream_start.specs.declared.Reading.{Reading}
use Rattle.stream_start.specs.Views.{view_is}
use Rattle.stream.specs.declared.Plain.{Plain}
use Rattle.pattern.specs.Pattern.{Pattern}
use Rattle.patterned.specs.declared.Patterned.{Patterned}
use Rattle.carrying.specs.Carry as C
use Rattle.carrying.specs.Carry.{with_keys, carry, carry_plain, carry_by}
use Rattle.carry.specs.Carries.{carried_plain_is, carried_by_is, PatternedCarried}
use Rattle.stream_arrays.specs.Arrays.{Held, held_is, held_as, held_plain}
use Rattle.stream_arrays.specs.ArraysLaws.{held_back}
use Rattle.oracle_carry.specs.CarryTells.{CarryTold, CarryByTold}

-- ---- a plain reading

refusal_is : {n k : Refusal} → C.CarriedPlain.refused n ≡ C.CarriedPlain.refused k → n ≡ k
refusal_is e = cc

carried_same : {p q : P.Plain} → C.CarriedPlain.carried p ≡ C.CarriedPlain.carried q → p ≡ q
carried_same e = cc

module _ (k : ℕ) where
  told_refused : (c : C.Carried) (n : Refusal) → carried_plain_is (Err n) ≡ with_keys k c → (h : Held) → CarryTold (with_keys k c) h h k (number n)
  told_refused (C.Carried.carried v) n w h = absurd (let y : ◌≡◌ {A = ℕ} 0 1 = cc in omega arith)
  told_refused (C.Carried.refused m) n w h = record {
    answer = ap number (refusal_is w);
    reading = λ p e. absurd (let y : ◌≡◌ {A = ℕ} 0 1 = cc in omega arith);
    kept = λ j e. refl;
  }

  told_carried : (c : C.Carried) (x : Plain) → carried_plain_is (Ok x) ≡ with_keys k c → (h₀ h : Held) → h ≡ held_as x.reading → CarryTold (with_keys k c) h₀ h k 0
  told_carried (C.Carried.carried v) x w h₀ h put = record {
    answer = refl;
    reading = λ p e.
        let same : plain_with v k ≡ p = carried_same e in
        let view : view_is x.reading ≡ v = ap (λ (q : P.Plain). q.view) (carried_same w) in
        ap (λ (u : View). plain_with u k) (ap (λ (y : Held). view_is (held_is y)) put ∙ held_back x.reading ∙ view) ∙ same;
    kept = λ j e. absurd (let z : ◌≡◌ {A = ℕ} 0 1 = cc in omega arith);
  }
  told_carried (C.Carried.refused n) x w h₀ h put = absurd (let z : ◌≡◌ {A = ℕ} 0 1 = cc in omega arith)

-- the reading that is handed on is the one that the arrays hold
module _ (old new : List ℕ) (h : Held) (k : ℕ) {r : Reading} (is : r ≡ held_is h) {x : Result Plain Refusal}
    (w : carried_plain_is x ≡ carry_plain old new (plain_with (view_is r) k)) where
  here : (y : Result Plain Refusal) → x ≡ y → carried_plain_is y ≡ carry_plain old new (plain_with (view_is (held_is h)) k)
  here y e = sym (ap carried_plain_is e) ∙ w ∙ ap (λ (v : Reading). carry_plain old new (plain_with (view_is v) k)) is

  pub carry_refused : (n : Refusal) → x ≡ Err n → CarryTold (carry_plain old new (held_plain h (replicate 1 k))) h h k (number n)
  carry_refused n e = told_refused k (carry old new (view_is (held_is h))) n (here (Err n) e) h

  pub carry_carried : (y : Plain) → x ≡ Ok y → (h' : Held) → h' ≡ held_as y.reading → CarryTold (carry_plain old new (held_plain h (replicate 1 k))) h h' k 0
  carry_carried y e h' put = told_carried k (carry old new (view_is (held_is h))) y (here (Ok y) e) h h' put

-- ---- a reading by pattern

by_refusal_is : {n k : Refusal} → C.Carried.refused n ≡ C.Carried.refused k → n ≡ k
by_refusal_is e = cc

by_same : {v u : View} → C.Carried.carried v ≡ C.Carried.carried u → v ≡ u
by_same e = cc

by_refused : (c : C.Carried) (n : Refusal) → carried_by_is (Err n) ≡ c → (h : Held) → CarryByTold c h h (number n)
by_refused (C.Carried.carried v) n w h = absurd (let z : ◌≡◌ {A = ℕ} 0 1 = cc in omega arith)
by_refused (C.Carried.refused m) n w h = record {
  answer = ap number (by_refusal_is w);
  reading = λ v e. absurd (let z : ◌≡◌ {A = ℕ} 0 1 = cc in omega arith);
  kept = λ j e. refl;
}

by_carried : (c : C.Carried) (x : Patterned) → carried_by_is (Ok x) ≡ c → (h₀ h : Held) → h ≡ held_as x.reading → CarryByTold c h₀ h 0
by_carried (C.Carried.carried v) x w h₀ h put = record {
  answer = refl;
  reading = λ u e. ap (λ (y : Held). view_is (held_is y)) put ∙ held_back x.reading ∙ by_same w ∙ by_same e;
  kept = λ j e. absurd (let z : ◌≡◌ {A = ℕ} 0 1 = cc in omega arith);
}
by_carried (C.Carried.refused n) x w h₀ h put = absurd (let z : ◌≡◌ {A = ℕ} 0 1 = cc in omega arith)

module _ (old new : List ℕ) (h : Held) (p : Pattern) {r : Reading} (is : r ≡ held_is h) {g : Patterned} {x : Result Patterned Refusal}
    (w : PatternedCarried (carry_by old new p (view_is r)) g x) where
  here_by : (y : Result Patterned Refusal) → x ≡ y → carried_by_is y ≡ carry_by old new p (view_is (held_is h))
  here_by y e = sym (ap carried_by_is e) ∙ w.answer ∙ ap (λ (v : Reading). carry_by old new p (view_is v)) is

  pub carry_by_refused : (n : Refusal) → x ≡ Err n → CarryByTold (carry_by old new p (view_is (held_is h))) h h (number n)
  carry_by_refused n e = by_refused (carry_by old new p (view_is (held_is h))) n (here_by (Err n) e) h

  pub carry_by_carried : (y : Patterned) → x ≡ Ok y → (h' : Held) → h' ≡ held_as y.reading → CarryByTold (carry_by old new p (view_is (held_is h))) h h' 0
  carry_by_carried y e h' put = by_carried (carry_by old new p (view_is (held_is h))) y (here_by (Ok y) e) h h' put
