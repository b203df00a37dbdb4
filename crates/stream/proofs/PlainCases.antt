-- A call of next, and then the look at its answer: a law for each case.
--     stepped_by                   what a call gives once its answer is known
--     gave_key                     a key from a reading that holds n keys to come
--     key_room, room_same          a key comes only where the buffer has room for every key, and then the room does not matter
--     some_left, none_left         a key lowers the number, which is not 0; a call where it is 0
-- Assumes nothing.
use mathlib.Core.Path.{◌≡◌, refl, sym, ap, ◌∙◌, subst}
use Rattle.std.specs.Prelude.{Ok, Some, Result, Option as Maybe}
use Rattle.format.specs.declared.Refusal.{Refusal}
use mathlib.Core.Bool.{Bool, true, false, cond}
use mathlib.Core.Logic.{◌⊎◌, inl, inr}
use mathlib.Core.List.{List}
use Prim.Native.Nat.{ℕ, ◌-◌, ◌≤◌, ◌<◌}
use native.Mathlib.Omega.{arith}
use borrow.Author.Tests.{ne_eqb, leb-true, le-leb}
use lib.Dec.{leb}
use lib.ListN.{length}
use Rattle.format.specs.Limits.{max_path, SPACE, STATE}
use Rattle.format.specs.Opening as O
use Rattle.format.specs.Opening.{opening}
use Rattle.reading.specs.Reading as R
use Rattle.reading.specs.Reading.{View, key, end, written}
use Rattle.plain.specs.Plain as P
use Rattle.plain.specs.Plain.{plain_with, counting, counted_step, next_plain}
use Rattle.stream_start.specs.declared.Reading.{Reading}
use Rattle.stream_start.specs.Views.{view_is}
use Rattle.stream_step.specs.declared.Step.{Step}
use Rattle.stream_step.specs.Stepped.{answer_as, Stepped}
use Rattle.stream_step.specs.SteppedLaws.{told, step_key}
use Rattle.stream_next.specs.Going.{step_of}
use Rattle.stream.specs.declared.Plain.{Plain}
use Rattle.stream.specs.Plains.{plain_is, CallGave, PlainStepped}

-- a call on a reading that stays where it is, once its answer is known
pub stepped_by : {w : R.Step} {buf₀ buf : List ℕ} (r₀ r : Reading) {x y : Result (Maybe (ℕ × ℕ)) Refusal} → Stepped w buf₀ buf (step_of r₀ r x) → x ≡ y → Stepped w buf₀ buf (step_of r₀ r y)
stepped_by {w} {buf₀} {buf} r₀ r h e = subst (λ z. Stepped w buf₀ buf (step_of r₀ r z)) e h

gave_of : {w w' : P.PlainStep} {r : Step Plain} → w ≡ w' → r.answer ≡ answer_as w'.answer → plain_is r.reading ≡ w'.reading → CallGave w r
gave_of {w} {w'} {r} e a p = subst (λ x. CallGave x r) (sym e) (record { answer = a; plain = p })

module _ {w : R.Step} {buf₀ buf : List ℕ} {o : Step Reading} (h : Stepped w buf₀ buf o) (r : Step Plain) (v : View) (n : ℕ) where
  counted_as : (a : R.Answer) → w.answer ≡ a → counted_step (plain_with v n) w ≡ counting (plain_with v n) w.reading a
  counted_as a e = ap (counting (plain_with v n) w.reading) e

  pub gave_key : (m u : ℕ) → o.answer ≡ Ok (Some (m, u)) → ¬ (n ≡ 0) → r.answer ≡ Ok (Some (m, u)) → plain_is r.reading ≡ plain_with (view_is o.reading) (n - 1)
      → PlainStepped (counted_step (plain_with v n) w) buf₀ buf r
  gave_key m u e ne is same =
      let q = step_key (told h) m u e in
      let some : counting (plain_with v n) w.reading (key q.0 u) ≡ record { answer = key q.0 u; reading = plain_with w.reading (n - 1) } =
      rw (ne_eqb n 0 ne) in
      let c = counted_as (key q.0 u) q.1 ∙ some in
      record {
        gave = gave_of c (is ∙ ap (λ l. Ok (Some (l, u))) (sym q.2)) (same ∙ ap (λ (x : View). plain_with x (n - 1)) h.reading);
        buffer = h.buffer ∙ ap (λ a. written a buf₀) q.1 ∙ ap (λ (x : P.PlainStep). written x.answer buf₀) (sym c);
      }

-- ---- the room

not_key : {n : Refusal} {k : List ℕ} {u : ℕ} → ¬ (R.Answer.refused n ≡ key k u)
not_key e = let z : ◌≡◌ {A = ℕ} 0 1 = cc in omega arith

pub key_room : (s : List ℕ) (v : View) (space : ℕ) (k : List ℕ) (u : ℕ) → (R.next s v space).answer ≡ key k u → max_path ≤ space
unfolding R.next
key_room s v space k u e = by (opening s) refl (R.state_test v (length s)) refl (leb max_path space) refl e
  where
    by : (o : O.Opening) → opening s ≡ o → (t : Bool) → R.state_test v (length s) ≡ t → (b : Bool) → leb max_path space ≡ b
        → (R.on_opened o (λ m. cond t (cond b (R.walk (Rattle.format.specs.Paths.fst_of s m) v v.empty) (R.refuse v SPACE)) (R.refuse v STATE)) (λ n. R.refuse v n)).answer ≡ key k u
        → max_path ≤ space
    by (O.opened m) e₁ true e₂ true e₃ e = leb-true max_path space e₃
    by (O.opened m) e₁ true e₂ false e₃ e = absurd (not_key e)
    by (O.opened m) e₁ false e₂ b e₃ e = absurd (not_key e)
    by (O.Opening.refused n) e₁ t e₂ b e₃ e = absurd (not_key e)

pub room_same : (s : List ℕ) (v : View) (space : ℕ) → max_path ≤ space → R.next s v space ≡ R.next s v max_path
unfolding R.next
room_same s v space room = rw (le-leb max_path space room)

-- where a key was handed out, the number was not 0 or the buffer short
pub some_left : (s : List ℕ) (v : View) (space : ℕ) {buf₀ buf : List ℕ} {o : Step Reading} → Stepped (R.next s v space) buf₀ buf o → (m u : ℕ) → o.answer ≡ Ok (Some (m, u)) → (n : ℕ)
    → ((n ≡ 0) × (space < 255)) ⊎ (¬ (n ≡ 0)) → ¬ (n ≡ 0)
some_left s v space h m u e n (inl x) z = let q = step_key (told h) m u e in let room = key_room s v space q.0 u q.1 in let short = x.1 in omega arith
some_left s v space h m u e n (inr ne) z = ne z

-- a call with no key left, by one with room for every key
pub none_left : (s : List ℕ) (v : View) (n space : ℕ) (buf : List ℕ) (r : Step Plain) → n ≡ 0 → 255 ≤ space → CallGave (next_plain s (plain_with v n) max_path) r
    → PlainStepped (next_plain s (plain_with v n) space) buf buf r
none_left s v n space buf r z room g =
    let same = room_same s v space room in
    record {
      gave = rw same g;
      buffer = rw (z, same) (unwritten (R.next s v max_path).answer (R.next s v max_path).reading);
    }
  where
    unwritten : (a : R.Answer) (w : View) → buf ≡ written (counting (plain_with v 0) w a).answer buf
    unwritten (key k u) w = refl
    unwritten end w = refl
    unwritten (R.Answer.refused n) w = refl
