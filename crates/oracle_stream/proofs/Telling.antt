-- What the exported functions tell, from what start and next answered.
-- Assumes nothing.
use mathlib.Core.Path.{◌≡◌, refl, sym, ap, ◌∙◌, subst}
use Rattle.std.specs.Prelude.{Ok, Err, Some, None, Result, Option}
use Rattle.format.specs.Limits.{number}
use Rattle.format.specs.declared.Refusal.{Refusal}
use mathlib.Core.Bool.{true, false}
use mathlib.Core.List.{List, [], ◌∷◌}
use Prim.Native.Nat.{ℕ, suc, ◌+◌, ◌-◌, ◌≤◌, ◌<◌}
use lib.ListN.{length}
use native.Mathlib.Omega.{arith}
use Rattle.reading.specs.Reading as R
use Rattle.reading.specs.Reading.{View, key, end, written}
use Rattle.plain.specs.Plain as P
use Rattle.format.specs.Strings as F
use Rattle.stream_start.specs.declared.Reading.{Reading}
use Rattle.stream_step.specs.declared.Step.{Step}
use Rattle.stream.specs.declared.Plain.{Plain}
use Rattle.stream_start.specs.Views.{bound_is, view_is, started_is}
use Rattle.stream_step.specs.Stepped.{answer_as, Stepped}
use Rattle.stream.specs.Plains.{plain_is, begun_is, PlainStepped}
use Rattle.stream_arrays.specs.Arrays.{kind_is, Held, PlainPut}
use Rattle.stream_arrays.specs.ArraysLaws.{plain_back, bounds_of}
use Rattle.oracle_stream.specs.StreamTells.{StartTold, answer_number, answer_value, Told, NextTold}
use Rattle.oracle_stream.specs.StreamTellsLaws.{number_is, value_is}
use Rattle.oracle_stream.specs.Runs.{key_test, on_key, Calls, keys_by, buffer_by, RunTold, bare_calls, KeysTold, BareKeysTold, plain_calls, PlainKeysTold, StartKeysTold}

-- ---- start

pub bare_bounds : {w : R.Started} (f lo hi : List ℕ) {x y : F.Bound} (n m : ℕ) → x ≡ bound_is (kind_is n) lo → y ≡ bound_is (kind_is m) hi
    → w ≡ R.start f x y → w ≡ R.start f (bound_is (kind_is n) lo) (bound_is (kind_is m) hi)
bare_bounds f lo hi n m a b e = bounds_of (λ x y. R.start f x y) lo hi n m a b e

module _ {w : P.Begun} (s : Result Plain Refusal) (e : begun_is s ≡ w) where
  pub start_refused : (m : Refusal) (h : Held) (n : List ℕ) → s ≡ Err m → StartTold w h n h n (number m)
  start_refused m h n is =
      let q : w ≡ P.Begun.refused m = sym e ∙ ap begun_is is in
      rw q (record { answer = refl; reading = λ p no. absurd (let z : ◌≡◌ {A = ℕ} 0 1 = cc in omega arith); kept = λ i same. (refl, refl) })

  pub start_told : (b : Plain) (h₀ : Held) (n₀ : List ℕ) (h : Held) (n : List ℕ) → s ≡ Ok b → PlainPut b h n → StartTold w h₀ n₀ h n 0
  start_told b h₀ n₀ h n is put =
      let q : w ≡ P.begun (plain_is b) = sym e ∙ ap begun_is is in
      rw q
      (record {
        answer = refl;
        reading = λ p same. plain_back put ∙ (let z : plain_is b ≡ p = cc in z);
        kept = λ m no. absurd (let z : ◌≡◌ {A = ℕ} 0 1 = cc in omega arith);
      })

-- ---- next

pub next_told : {w : P.PlainStep} {k₀ k v₀ v : List ℕ} {s : Step Plain} → PlainStepped w k₀ k s → (h : Held) (n : List ℕ) → PlainPut s.reading h n
    → (r : ℕ) → Told s.answer v₀ v r → NextTold w h n k₀ k v₀ v r
next_told {w} {k₀} {k} {v₀} {v} {s} st h n put r told =
    record {
      answer = told.number ∙ ap answer_number st.gave.answer ∙ number_is w.answer;
      reading = plain_back put ∙ st.gave.plain;
      buffer = st.buffer;
      value = told.value ∙ ap (λ a. answer_value a v₀) st.gave.answer ∙ value_is w.answer v₀;
    }

-- the number and the value of an answer that is known
pub key_told : (a : Result (Option (ℕ × ℕ)) Refusal) (n x : ℕ) (v₀ v : List ℕ) → a ≡ Ok (Some (n, x)) → v ≡ x ∷ [] → Told a v₀ v n
key_told a n x v₀ v is put = rw is (record { number = refl; value = put })

pub end_told : (a : Result (Option (ℕ × ℕ)) Refusal) (v : List ℕ) → a ≡ Ok None → Told a v v 1000
end_told a v is = rw is (record { number = refl; value = refl })

pub refused_told : (a : Result (Option (ℕ × ℕ)) Refusal) (n : Refusal) (v : List ℕ) → a ≡ Err n → Told a v v (2000 + number n)
refused_told a n v is = rw is (record { number = refl; value = refl })

-- ---- calls one after the other

on_key_lem : {A : Type 0} (a : R.Answer) (go stop : A) → key_test (answer_as a) ≡ true → on_key a go stop ≡ go
on_key_lem (key k x) go stop e = refl
on_key_lem end go stop e = absurd (let z : ◌≡◌ {A = ℕ} 0 1 = cc in omega arith)
on_key_lem (R.Answer.refused n) go stop e = absurd (let z : ◌≡◌ {A = ℕ} 0 1 = cc in omega arith)

off_key : {A : Type 0} (a : R.Answer) (go stop : A) → key_test (answer_as a) ≡ false → on_key a go stop ≡ stop
off_key (key k x) go stop e = absurd (let z : ◌≡◌ {A = ℕ} 0 1 = cc in omega arith)
off_key end go stop e = refl
off_key (R.Answer.refused n) go stop e = refl

-- no key, nothing written
off_written : (a : R.Answer) (k : List ℕ) → key_test (answer_as a) ≡ false → written a k ≡ k
off_written (key j x) k e = absurd (let z : ◌≡◌ {A = ℕ} 0 1 = cc in omega arith)
off_written end k e = refl
off_written (R.Answer.refused n) k e = refl

-- what a call gave: its answer x, the reading v' after it, and the buffer
pub record Called {S : Type 0} (c : Calls S) (v : S) (k₀ k : List ℕ) (x : Result (Option (ℕ × ℕ)) Refusal) (v' : S) : Type 0 where
  pub answer : x ≡ answer_as (c.answer v (length k₀))
  pub reading : v' ≡ c.after v (length k₀)
  pub buffer : k ≡ written (c.answer v (length k₀)) k₀

pub bare_called : (f : List ℕ) (v : View) {k₀ k : List ℕ} {t : Step Reading} → Stepped (R.next f v (length k₀)) k₀ k t
    → Called (bare_calls f) v k₀ k t.answer (view_is t.reading)
bare_called f v st = record { answer = st.answer; reading = st.reading; buffer = st.buffer }

pub plain_called : (f : List ℕ) (p : P.Plain) {k₀ k : List ℕ} {t : Step Plain} → PlainStepped (P.next_plain f p (length k₀)) k₀ k t
    → Called (plain_calls f) p k₀ k t.answer (plain_is t.reading)
plain_called f p st = record { answer = st.gave.answer; reading = st.gave.plain; buffer = st.buffer }

module _ {S : Type 0} (c : Calls S) (v : S) {k₀ k : List ℕ} {x : Result (Option (ℕ × ℕ)) Refusal} {v' : S} (st : Called c v k₀ k x v') where
  -- a call that hands out a key, with m calls left after it
  keys_on : (m : ℕ) → key_test x ≡ true → keys_by c (suc m) v k₀ ≡ suc (keys_by c m v' k)
  unfolding keys_by
  keys_on m e =
      on_key_lem (c.answer v (length k₀)) _ _ (ap key_test (sym st.answer) ∙ e)
      ∙ ap (λ y. suc (keys_by c m y (written (c.answer v (length k₀)) k₀))) (sym st.reading)
      ∙ ap (λ y. suc (keys_by c m v' y)) (sym st.buffer)

  buffer_on : (m : ℕ) → key_test x ≡ true → buffer_by c (suc m) v k₀ ≡ buffer_by c m v' k
  unfolding buffer_by
  buffer_on m e =
      on_key_lem (c.answer v (length k₀)) _ _ (ap key_test (sym st.answer) ∙ e)
      ∙ ap (λ y. buffer_by c m y (written (c.answer v (length k₀)) k₀)) (sym st.reading)
      ∙ ap (λ y. buffer_by c m v' y) (sym st.buffer)

  keys_off : (m : ℕ) → key_test x ≡ false → keys_by c (suc m) v k₀ ≡ 0
  unfolding keys_by
  keys_off m e = off_key (c.answer v (length k₀)) _ _ (ap key_test (sym st.answer) ∙ e)

  buffer_off : (m : ℕ) → key_test x ≡ false → buffer_by c (suc m) v k₀ ≡ k
  unfolding buffer_by
  buffer_off m e =
      off_key (c.answer v (length k₀)) _ _ (ap key_test (sym st.answer) ∙ e)
      ∙ sym (off_written (c.answer v (length k₀)) k₀ (ap key_test (sym st.answer) ∙ e)) ∙ sym st.buffer

-- n keys were handed out, and of m calls the others are still to come
pub record Reached {S : Type 0} (c : Calls S) (m : ℕ) (v₀ : S) (k₀ : List ℕ) (v : S) (k : List ℕ) (n : ℕ) : Type 0 where
  pub at_most : n ≤ m
  pub keys : keys_by c m v₀ k₀ ≡ n + keys_by c (m - n) v k
  pub buffer : buffer_by c m v₀ k₀ ≡ buffer_by c (m - n) v k

pub reached_first : {S : Type 0} (c : Calls S) (m : ℕ) (v : S) (k : List ℕ) → Reached c m v k v k 0
reached_first c m v k =
    let all : m ≡ m - 0 = omega arith in
    record { at_most = omega arith; keys = omega (arith, ap (λ x. keys_by c x v k) all); buffer = ap (λ x. buffer_by c x v k) all }

left_is : (m n : ℕ) → n < m → m - n ≡ suc (m - (n + 1))
left_is m n h = omega (arith, h)

module _ {S : Type 0} (c : Calls S) (m : ℕ) {v₀ : S} {k₀ : List ℕ} (v : S) {k : List ℕ} (n : ℕ) (h : n < m) (r : Reached c m v₀ k₀ v k n) where
  keys_left : keys_by c m v₀ k₀ ≡ n + keys_by c (suc (m - (n + 1))) v k
  keys_left = r.keys ∙ ap (λ x. n + keys_by c x v k) (left_is m n h)

  buffer_left : buffer_by c m v₀ k₀ ≡ buffer_by c (suc (m - (n + 1))) v k
  buffer_left = r.buffer ∙ ap (λ x. buffer_by c x v k) (left_is m n h)

  pub reached_next : {k' : List ℕ} {x : Result (Option (ℕ × ℕ)) Refusal} {v' : S} → Called c v k k' x v' → key_test x ≡ true → Reached c m v₀ k₀ v' k' (n + 1)
  reached_next st e =
      let q = keys_left ∙ ap (λ y. n + y) (keys_on c v st (m - (n + 1)) e) in
      record { at_most = omega (arith, h); keys = omega (arith, q); buffer = buffer_left ∙ buffer_on c v st (m - (n + 1)) e }

  pub reached_stop : {k' : List ℕ} {x : Result (Option (ℕ × ℕ)) Refusal} {v' : S} → Called c v k k' x v' → key_test x ≡ false → RunTold c m v₀ k₀ k' n
  reached_stop st e =
      let q = keys_left ∙ ap (λ y. n + y) (keys_off c v st (m - (n + 1)) e) in
      record { answer = omega (arith, q); buffer = sym (buffer_left ∙ buffer_off c v st (m - (n + 1)) e) }

pub reached_end : {S : Type 0} (c : Calls S) (m : ℕ) {v₀ : S} {k₀ : List ℕ} (v : S) {k : List ℕ} (n : ℕ) → m ≤ n → Reached c m v₀ k₀ v k n
    → RunTold c m v₀ k₀ k m
unfolding keys_by buffer_by
reached_end c m {v₀} {k₀} v {k} n h r =
    let none : m - n ≡ 0 = omega (arith, h) in
    let q : keys_by c m v₀ k₀ ≡ n + 0 = r.keys ∙ ap (λ x. n + keys_by c x v k) none in
    record { answer = omega (arith, h, q, r.at_most); buffer = sym (r.buffer ∙ ap (λ x. buffer_by c x v k) none) }

module _ (m : ℕ) (f : List ℕ) {w : R.Started} (s : Result Reading Refusal) (e : started_is s ≡ w) where
  pub bare_refused : (n : Refusal) (k : List ℕ) → s ≡ Err n → BareKeysTold m f w k k 0
  bare_refused n k is =
      let q : w ≡ R.Started.refused n = sym e ∙ ap started_is is in
      rw q (record { reading = λ v no. absurd (let z : ◌≡◌ {A = ℕ} 0 1 = cc in omega arith); refused = λ i same. (refl, refl) })

  pub bare_told : (b : Reading) (k₀ k : List ℕ) (r : ℕ) → s ≡ Ok b → KeysTold m f (view_is b) k₀ k r → BareKeysTold m f w k₀ k r
  bare_told b k₀ k r is told =
      let q : w ≡ R.started (view_is b) = sym e ∙ ap started_is is in
      rw q
      (record {
        reading = λ v same. let z : view_is b ≡ v = cc in subst (λ x. KeysTold m f x k₀ k r) z told;
        refused = λ i no. absurd (let z : ◌≡◌ {A = ℕ} 0 1 = cc in omega arith);
      })

module _ (m : ℕ) (f : List ℕ) {w : P.Begun} (s : Result Plain Refusal) (e : begun_is s ≡ w) where
  pub keys_refused : (n : Refusal) (k : List ℕ) → s ≡ Err n → StartKeysTold m f w k k 0
  keys_refused n k is =
      let q : w ≡ P.Begun.refused n = sym e ∙ ap begun_is is in
      rw q (record { reading = λ p no. absurd (let z : ◌≡◌ {A = ℕ} 0 1 = cc in omega arith); refused = λ i same. (refl, refl) })

  pub keys_told : (b : Plain) (k₀ k : List ℕ) (r : ℕ) → s ≡ Ok b → PlainKeysTold m f (plain_is b) k₀ k r → StartKeysTold m f w k₀ k r
  keys_told b k₀ k r is told =
      let q : w ≡ P.begun (plain_is b) = sym e ∙ ap begun_is is in
      rw q
      (record {
        reading = λ p same. let z : plain_is b ≡ p = cc in subst (λ x. PlainKeysTold m f x k₀ k r) z told;
        refused = λ i no. absurd (let z : ◌≡◌ {A = ℕ} 0 1 = cc in omega arith);
      })
