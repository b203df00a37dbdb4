-- A byte after the first bytes of a bound: what it says of every key that begins so.
--     past_end, past_high, past_own     past the bound
--     below_low                         below it
--     along_same                        along it
--     side_free                         no bound
-- Assumes nothing.
use mathlib.Core.Path.{◌≡◌, refl, sym, ap, ◌∙◌}
use mathlib.Core.Bool.{Bool, true, false, not}
use mathlib.Core.List.{List, [], ◌∷◌, ◌++◌}
use Prim.Native.Nat.{ℕ, suc, ◌+◌, ◌≤◌, ◌<◌}
use native.Mathlib.Omega.{arith}
use borrow.Author.Tests.{lt-ltb, le-ltb}
use lib.ListN.{length, get_or, take, drop, take-append-drop, drop_of_length-le}
use lib.Seq.{drop-cons}
use Rattle.format.specs.Strings.{unbounded, before_test}
use Rattle.reading.specs.Reading.{passes_test}
use Rattle.range_bound.specs.declared.Side.TheVariants.{Below, Along, Past}
use Rattle.range_bound.specs.Besides.{end_at, SideOf}

-- ---- the order of strings that begin alike

before_prefix : (p u v : List ℕ) → before_test (p ++ u) (p ++ v) ≡ before_test u v
unfolding before_test
before_prefix [] u v = refl
before_prefix (y ∷ p) u v = rw (le-ltb y y (omega arith)) (before_prefix p u v)

none_before : (s : List ℕ) → before_test s [] ≡ false
unfolding before_test
none_before [] = refl
none_before (x ∷ s) = refl

module _ (b : List ℕ) (k : ℕ) (q : List ℕ) where
  bound_before : before_test b (take k b ++ q) ≡ before_test (drop k b) q
  bound_before = ap (λ (z : List ℕ). before_test z (take k b ++ q)) (sym (take-append-drop k b)) ∙ before_prefix (take k b) (drop k b) q

  key_before : before_test (take k b ++ q) b ≡ before_test q (drop k b)
  key_before = ap (before_test (take k b ++ q)) (sym (take-append-drop k b)) ∙ before_prefix (take k b) q (drop k b)

-- by what is left of the bound
passes_rest : (e : Bool) (b : List ℕ) (k : ℕ) (q r : List ℕ) → drop k b ≡ r → passes_test (end_at e b) (take k b ++ q) ≡ passes_test (end_at e r) q
passes_rest true b k q r is = ap not (key_before b k q ∙ ap (before_test q) is)
passes_rest false b k q r is = bound_before b k q ∙ ap (λ (z : List ℕ). before_test z q) is

-- ---- by the first byte of what is left

nothing_left : (e : Bool) (x : ℕ) (more : List ℕ) → passes_test (end_at e []) (x ∷ more) ≡ true
unfolding before_test
nothing_left true x more = refl
nothing_left false x more = refl

module _ (x y : ℕ) (r more : List ℕ) where
  high : (e : Bool) → y < x → passes_test (end_at e (y ∷ r)) (x ∷ more) ≡ true
  unfolding before_test
  high true h = rw (le-ltb x y (omega arith), lt-ltb y x h)
  high false h = rw (lt-ltb y x h)

  low : (e : Bool) → x < y → passes_test (end_at e (y ∷ r)) (x ∷ more) ≡ false
  unfolding before_test
  low true h = rw (lt-ltb x y h)
  low false h = rw (le-ltb y x (omega arith), lt-ltb x y h)

  own : y ≤ x → x ≤ y → r ≡ [] → passes_test (end_at true (y ∷ r)) (x ∷ more) ≡ true
  unfolding before_test
  own p q e = rw (e, le-ltb x y p, le-ltb y x q, none_before more)

  along : (e : Bool) → y ≤ x → x ≤ y → (z : ℕ) (t : List ℕ) → (e ≡ true → r ≡ z ∷ t) → passes_test (end_at e (y ∷ r)) (x ∷ []) ≡ false
  unfolding before_test
  along true p q z t is = rw (is refl, le-ltb x y p, le-ltb y x q)
  along false p q z t is = rw (le-ltb x y p, le-ltb y x q, none_before r)

-- ---- the sides

module _ (e : Bool) (b : List ℕ) (k x : ℕ) where
  is_past : ((more : List ℕ) → passes_test (end_at e b) (take k b ++ (x ∷ more)) ≡ true) → SideOf (end_at e b) b k x Past
  is_past h = record {
    below = λ q. absurd (let z : ◌≡◌ {A = ℕ} 0 1 = cc in omega arith);
    past = λ _. h;
    along = λ q. absurd (let z : ◌≡◌ {A = ℕ} 0 1 = cc in omega arith);
  }

  pub past_end : length b ≤ k → SideOf (end_at e b) b k x Past
  past_end h = is_past (λ more. passes_rest e b k (x ∷ more) [] (drop_of_length-le b {i = k} h) ∙ nothing_left e x more)

  module _ (h : k < length b) where
    abbrev y : ℕ
    y = get_or b k 0

    left : drop k b ≡ y ∷ drop (suc k) b
    left = drop-cons b k 0 h

    pub past_high : y < x → SideOf (end_at e b) b k x Past
    past_high l = is_past (λ more. passes_rest e b k (x ∷ more) (y ∷ drop (suc k) b) left ∙ high x y (drop (suc k) b) more e l)

    pub below_low : x < y → SideOf (end_at e b) b k x Below
    below_low l = record {
      below = λ _ more. passes_rest e b k (x ∷ more) (y ∷ drop (suc k) b) left ∙ low x y (drop (suc k) b) more e l;
      past = λ q. absurd (let z : ◌≡◌ {A = ℕ} 0 1 = cc in omega arith);
      along = λ q. absurd (let z : ◌≡◌ {A = ℕ} 0 1 = cc in omega arith);
    }

    module _ (p : y ≤ x) (q : x ≤ y) where
      pub past_own : k + 1 ≡ length b → e ≡ true → SideOf (end_at e b) b k x Past
      past_own whole excludes =
          is_past
          (λ more.
          ap (λ (t : Bool). passes_test (end_at t b) (take k b ++ (x ∷ more))) excludes
          ∙ passes_rest true b k (x ∷ more) (y ∷ drop (suc k) b) left
          ∙ own x y (drop (suc k) b) more p q (drop_of_length-le b {i = suc k} (omega arith)))

      pub along_same : (e ≡ true → ¬ (k + 1 ≡ length b)) → SideOf (end_at e b) b k x Along
      along_same unless = record {
        below = λ z. absurd (let o : ◌≡◌ {A = ℕ} 0 1 = cc in omega arith);
        past = λ z. absurd (let o : ◌≡◌ {A = ℕ} 0 1 = cc in omega arith);
        along = λ _. (
          h,
          omega arith,
          passes_rest e b k (x ∷ []) (y ∷ drop (suc k) b) left
              ∙ along x y (drop (suc k) b) [] e p q (get_or b (suc k) 0) (drop (suc (suc k)) b) (λ t. drop-cons b (suc k) 0 (let ne = unless t in omega arith)),
        );
      }

pub side_free : (b : List ℕ) (k x : ℕ) → SideOf unbounded b k x Below
side_free b k x = record {
  below = λ _ more. refl;
  past = λ q. absurd (let z : ◌≡◌ {A = ℕ} 0 1 = cc in omega arith);
  along = λ q. absurd (let z : ◌≡◌ {A = ℕ} 0 1 = cc in omega arith);
}
