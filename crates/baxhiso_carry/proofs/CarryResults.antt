-- From what carrying gave back to what the function for C leaves.
-- Assumes nothing.
use mathlib.Core.Path.{◌≡◌, refl, sym, ap, ◌∙◌}
use Rattle.std.specs.Prelude.{Ok, Err, Result}
use Rattle.format.specs.declared.Refusal.{Refusal}
use mathlib.Core.List.{List}
use Prim.Native.Nat.{ℕ}
use native.Mathlib.Omega.{arith}
use lib.IntN.{ℤ}
use lib.ListN.{replicate}
use Rattle.reading.specs.Reading.{View}
use Rattle.plain.specs.Plain as P
use Rattle.plain.specs.Plain.{plain_with}
use Rattle.stream_start.specs.declared.Reading.{Reading}
use Rattle.stream_start.specs.Views.{view_is}
use Rattle.stream.specs.declared.Plain.{Plain}
use Rattle.carrying.specs.Carry as C
use Rattle.carrying.specs.Carry.{with_keys, carry, carry_plain}
use Rattle.carry.specs.Carries.{carried_plain_is}
use Rattle.stream_arrays.specs.Arrays.{Held, held_is, held_as, held_plain}
use Rattle.stream_arrays.specs.ArraysLaws.{held_back}
use Rattle.baxhiso.specs.Exports.{OK, code}
use Rattle.baxhiso_carry.specs.CarryArrays.{CarryLeaves}

refusal_is : {n k : Refusal} → C.CarriedPlain.refused n ≡ C.CarriedPlain.refused k → n ≡ k
refusal_is e = cc

carried_same : {p q : P.Plain} → C.CarriedPlain.carried p ≡ C.CarriedPlain.carried q → p ≡ q
carried_same e = cc

module _ (k : ℕ) where
  left_refused : (c : C.Carried) (n : Refusal) (z : ℤ) → carried_plain_is (Err n) ≡ with_keys k c → z ≡ code n → (h : Held) → CarryLeaves (with_keys k c) h h k z
  left_refused (C.Carried.carried v) n z w is_z h = absurd (let y : ◌≡◌ {A = ℕ} 0 1 = cc in omega arith)
  left_refused (C.Carried.refused m) n z w is_z h = record {
    result = is_z ∙ ap code (refusal_is w);
    reading = λ p e. absurd (let y : ◌≡◌ {A = ℕ} 0 1 = cc in omega arith);
    kept = λ j e. refl;
  }

  left_carried : (c : C.Carried) (x : Plain) → carried_plain_is (Ok x) ≡ with_keys k c → (h₀ h : Held) → h ≡ held_as x.reading → CarryLeaves (with_keys k c) h₀ h k OK
  left_carried (C.Carried.carried v) x w h₀ h put = record {
    result = refl;
    reading = λ p e.
        let same : plain_with v k ≡ p = carried_same e in
        let view : view_is x.reading ≡ v = ap (λ (q : P.Plain). q.view) (carried_same w) in
        ap (λ (u : View). plain_with u k) (ap (λ (y : Held). view_is (held_is y)) put ∙ held_back x.reading ∙ view) ∙ same;
    kept = λ j e. absurd (let z : ◌≡◌ {A = ℕ} 0 1 = cc in omega arith);
  }
  left_carried (C.Carried.refused n) x w h₀ h put = absurd (let z : ◌≡◌ {A = ℕ} 0 1 = cc in omega arith)

-- the reading that is handed on is the one that the arrays hold
module _ (old new : List ℕ) (h : Held) (k : ℕ) {r : Reading} (is : r ≡ held_is h) {x : Result Plain Refusal}
    (w : carried_plain_is x ≡ carry_plain old new (plain_with (view_is r) k)) where
  here : (y : Result Plain Refusal) → x ≡ y → carried_plain_is y ≡ carry_plain old new (plain_with (view_is (held_is h)) k)
  here y e = sym (ap carried_plain_is e) ∙ w ∙ ap (λ (v : Reading). carry_plain old new (plain_with (view_is v) k)) is

  pub carry_refused : (n : Refusal) (z : ℤ) → x ≡ Err n → z ≡ code n → CarryLeaves (carry_plain old new (held_plain h (replicate 1 k))) h h k z
  carry_refused n z e is_z = left_refused k (carry old new (view_is (held_is h))) n z (here (Err n) e) is_z h

  pub carry_carried : (y : Plain) → x ≡ Ok y → (h' : Held) → h' ≡ held_as y.reading → CarryLeaves (carry_plain old new (held_plain h (replicate 1 k))) h h' k OK
  carry_carried y e h' put = left_carried k (carry old new (view_is (held_is h))) y (here (Ok y) e) h h' put
