-- `marks_test` decides `MarksRight`.
--     test_right, right_test_lem     from the test, and to it
-- Assumes nothing.
use Rattle.std.specs.Prelude.{◌≡◌, Bool, false, cond, ◌&&◌, ℕ, ◌≤◌, leb, length}
use Rattle.std.proofs.Math.Path.{refl, ap, subst}
use Rattle.std.proofs.Common.{sym, ◌∙◌}
use Rattle.std.proofs.Math.Bool.{true, not}
use Rattle.std.proofs.lemmas.Bool.{false≢true, and_parts, and_from}
use Rattle.std.proofs.Math.Option.{some}
use mathlib.Core.List.Memᴰ
use mathlib.Core.List.{List, [], ◌∷◌, Memᴰ}
use borrow.Author.Tests.{leb-true, le-leb}
use Rattle.reading.specs.Reading.{state_test}
use Rattle.marking.specs.MarkCalls.{same_name, name_test, marked, is_there, Mark, each_right, marks_test}
use Rattle.marking.proofs.NamedLaws.{same_not, not_same}
use Rattle.marking.specs.MarksRight.{MarkRight, OnceEach, none_twice, new_name, MarksRight}

not-true : (b : Bool) → not b ≡ true → b ≡ false
not-true true e = absurd (false≢true e)
not-true false e = refl

absent : (n : List ℕ) (ms : List Mark) → is_there (marked n ms) ≡ false → (k : Mark) → Memᴰ k ms → ¬ (k.name ≡ n)
unfolding marked
absent n [] e k on = absurd (Memᴰ.not-nil on)
absent n (m ∷ ms) e k on = by (same_name m.name n) refl e (absent n ms) on
  where
    by : (t : Bool) → same_name m.name n ≡ t → is_there (cond t (some m.held) (marked n ms)) ≡ false
        → (is_there (marked n ms) ≡ false → (k : Mark) → Memᴰ k ms → ¬ (k.name ≡ n)) → Memᴰ k (m ∷ ms) → ¬ (k.name ≡ n)
    by true q h ih on = absurd (false≢true (sym h))
    by false q h ih (Memᴰ.head is) = λ z. not_same m.name n q (ap (λ (x : Mark). x.name) (sym is) ∙ z)
    by false q h ih (Memᴰ.tail on) = ih h k on

not_there : (n : List ℕ) (ms : List Mark) → ((k : Mark) → Memᴰ k ms → ¬ (k.name ≡ n)) → is_there (marked n ms) ≡ false
unfolding marked
not_there n [] h = refl
not_there n (m ∷ ms) h =
    let other : same_name m.name n ≡ false = same_not m.name n (h m (Memᴰ.head refl)) in
    rw other (not_there n ms (λ k on. h k (Memᴰ.tail on)))

module _ (len : ℕ) where
  each_test : (ms : List Mark) → each_right len ms ≡ true → ((m : Mark) → Memᴰ m ms → MarkRight len m) × OnceEach ms
  unfolding each_right
  each_test [] e = (λ m on. absurd (Memᴰ.not-nil on), none_twice)
  each_test (m ∷ ms) e =
      let name = (and_parts (name_test m.name) _ e).0 in
      let more = (and_parts (name_test m.name) _ e).1 in
      let state = (and_parts (state_test m.held.view len) _ more).0 in
      let last = (and_parts (state_test m.held.view len) _ more).1 in
      let once = not-true _ (and_parts (not (is_there (marked m.name ms))) _ last).0 in
      let rest = each_test ms (and_parts (not (is_there (marked m.name ms))) _ last).1 in
      (first name state rest.0, new_name (absent m.name ms once) rest.1)
    where
      first : name_test m.name ≡ true → state_test m.held.view len ≡ true → ((k : Mark) → Memᴰ k ms → MarkRight len k)
          → (k : Mark) → Memᴰ k (m ∷ ms) → MarkRight len k
      first name state others k (Memᴰ.head is) =
          subst (MarkRight len) (sym is)
          (record {
            from_one = leb-true 1 (length m.name) (and_parts (leb 1 (length m.name)) _ name).0;
            to_eight = leb-true (length m.name) 8 (and_parts (leb 1 (length m.name)) _ name).1;
            state = state;
          })
      first name state others k (Memᴰ.tail on) = others k on

  test_each : (ms : List Mark) → ((m : Mark) → Memᴰ m ms → MarkRight len m) → OnceEach ms → each_right len ms ≡ true
  unfolding each_right
  test_each [] each once = refl
  test_each (m ∷ ms) each (new_name other more) =
      let own = each m (Memᴰ.head refl) in
      let gone : not (is_there (marked m.name ms)) ≡ true = ap not (not_there m.name ms other) in
      and_from (name_test m.name) _ (and_from (leb 1 (length m.name)) _ (le-leb 1 (length m.name) own.from_one) (le-leb (length m.name) 8 own.to_eight)) (and_from (state_test m.held.view len) _ own.state (and_from (not (is_there (marked m.name ms))) _ gone (test_each ms (λ k on. each k (Memᴰ.tail on)) more)))

  pub test_right : (ms : List Mark) → marks_test len ms ≡ true → MarksRight len ms
  test_right ms e =
      let all = each_test ms (and_parts (leb (length ms) 16) _ e).1 in
      record { few = leb-true (length ms) 16 (and_parts (leb (length ms) 16) _ e).0; each = all.0; once = all.1 }

  pub right_test_lem : {ms : List Mark} → MarksRight len ms → marks_test len ms ≡ true
  right_test_lem {ms} h = and_from (leb (length ms) 16) _ (le-leb (length ms) 16 h.few) (test_each ms h.each h.once)
