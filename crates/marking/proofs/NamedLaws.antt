-- What `put` and `marked` do to a list of names (N10).
--     same_refl, same_is, same_not      two names are the same exactly where the test says so
--     put_this, put_other               under the name that is put stands what was put, under each other name what stood there
--     put_in_place, put_added           a name that is held keeps its place; a new one comes last
--     put_few, put_right                at most 16 stay at most 16; marks within their limits stay so
--     marked_map, put_map, room_map     what stands under the names, sent through a function
-- Assumes nothing.
use Rattle.std.specs.Prelude.{◌≡◌, Bool, ◌&&◌, ◌||◌, not, ℕ, suc, ◌≤◌, leb, eqb, length}
use Rattle.std.proofs.Math.Path.{refl, ap}
use Rattle.std.proofs.Common.{sym, ◌∙◌, subst, arith, leb-true, eqb-true, eq-eqb, length-append}
use Rattle.std.proofs.Math.Bool.{true, false, cond}
use Rattle.std.proofs.lemmas.Bool.{false≢true, and_parts, and_from}
use Rattle.std.proofs.Math.Option.{Option, none, some}
use mathlib.Core.List.{List, [], ◌∷◌, ◌++◌, map}
use Rattle.reading.specs.Reading.{state_test}
use Rattle.plain.specs.Plain.{Plain}
use Rattle.marking.specs.MarkCalls.{same_name, name_test, Named, named, marked, is_there, put, room_for, Mark, each_right}

-- ---- two tests

-- ---- names

pub same_refl : (n : List ℕ) → same_name n n ≡ true
unfolding same_name
same_refl [] = refl
same_refl (x ∷ xs) = and_from (eqb x x) (same_name xs xs) (eq-eqb x x refl) (same_refl xs)

pub same_is : (a b : List ℕ) → same_name a b ≡ true → a ≡ b
unfolding same_name
same_is [] [] e = refl
same_is [] (y ∷ ys) e = absurd (false≢true e)
same_is (x ∷ xs) [] e = absurd (false≢true e)
same_is (x ∷ xs) (y ∷ ys) e =
    let p : x ≡ y = eqb-true x y (and_parts (eqb x y) (same_name xs ys) e).0 in
    let q : xs ≡ ys = same_is xs ys (and_parts (eqb x y) (same_name xs ys) e).1 in
    cc

pub same_not : (a b : List ℕ) → ¬ (a ≡ b) → same_name a b ≡ false
same_not a b ne = by (same_name a b) refl
  where
    by : (t : Bool) → same_name a b ≡ t → t ≡ false
    by true e = absurd (ne (same_is a b e))
    by false e = refl

pub not_same : (a b : List ℕ) → same_name a b ≡ false → ¬ (a ≡ b)
not_same a b e q = false≢true (sym e ∙ ap (λ (x : List ℕ). same_name x b) q ∙ same_refl b)

-- ---- what is put

pub put_this : {A : Type 0} (n : List ℕ) (a : A) (ms : List (Named A)) → marked n (put n a ms) ≡ some a
unfolding marked put
put_this n a [] = rw (same_refl n)
put_this {A} n a (m ∷ ms) = by (same_name m.name n) refl (put_this n a ms)
  where
    by : (t : Bool) → same_name m.name n ≡ t → marked n (put n a ms) ≡ some a → marked n (cond t (named n a ∷ ms) (m ∷ put n a ms)) ≡ some a
    by true e more = rw (same_refl n)
    by false e more = rw e more

pub put_other : {A : Type 0} (n k : List ℕ) (a : A) (ms : List (Named A)) → same_name n k ≡ false → marked k (put n a ms) ≡ marked k ms
unfolding marked put
put_other n k a [] ne = rw ne
put_other {A} n k a (m ∷ ms) ne = by (same_name m.name n) refl (put_other n k a ms ne)
  where
    by : (t : Bool) → same_name m.name n ≡ t → marked k (put n a ms) ≡ marked k ms
        → marked k (cond t (named n a ∷ ms) (m ∷ put n a ms)) ≡ cond (same_name m.name k) (some m.held) (marked k ms)
    by true e more =
        let other : same_name m.name k ≡ false = ap (λ (x : List ℕ). same_name x k) (same_is m.name n e) ∙ ne in
        rw (ne, other)
    by false e more = ap (λ (o : Option A). cond (same_name m.name k) (some m.held) o) more

pub put_in_place : {A : Type 0} (n : List ℕ) (a : A) (ms : List (Named A)) → is_there (marked n ms) ≡ true
    → map (λ (m : Named A). m.name) (put n a ms) ≡ map (λ (m : Named A). m.name) ms
unfolding marked put
put_in_place n a [] h = absurd (false≢true h)
put_in_place {A} n a (m ∷ ms) h = by (same_name m.name n) refl h (put_in_place n a ms)
  where
    by : (t : Bool) → same_name m.name n ≡ t → is_there (cond t (some m.held) (marked n ms)) ≡ true
        → (is_there (marked n ms) ≡ true → map (λ (m : Named A). m.name) (put n a ms) ≡ map (λ (m : Named A). m.name) ms)
        → map (λ (m : Named A). m.name) (cond t (named n a ∷ ms) (m ∷ put n a ms)) ≡ m.name ∷ map (λ (m : Named A). m.name) ms
    by true e g more = ap (λ (x : List ℕ). x ∷ map (λ (m : Named A). m.name) ms) (sym (same_is m.name n e))
    by false e g more = ap (λ (l : List (List ℕ)). m.name ∷ l) (more g)

pub put_added : {A : Type 0} (n : List ℕ) (a : A) (ms : List (Named A)) → is_there (marked n ms) ≡ false → put n a ms ≡ ms ++ (named n a ∷ [])
unfolding marked put
put_added n a [] h = refl
put_added {A} n a (m ∷ ms) h = by (same_name m.name n) h (put_added n a ms)
  where
    by : (t : Bool) → is_there (cond t (some m.held) (marked n ms)) ≡ false
        → (is_there (marked n ms) ≡ false → put n a ms ≡ ms ++ (named n a ∷ []))
        → cond t (named n a ∷ ms) (m ∷ put n a ms) ≡ m ∷ (ms ++ (named n a ∷ []))
    by true g more = absurd (false≢true (sym g))
    by false g more = ap (λ (l : List (Named A)). m ∷ l) (more g)

length_names : {A : Type 0} (ms : List (Named A)) → length (map (λ (m : Named A). m.name) ms) ≡ length ms
length_names [] = refl
length_names (m ∷ ms) = ap suc (length_names ms)

pub put_few : {A : Type 0} (n : List ℕ) (a : A) (ms : List (Named A)) → length ms ≤ 16 → room_for n ms ≡ true → length (put n a ms) ≤ 16
put_few {A} n a ms few room = by (is_there (marked n ms)) refl room
  where
    by : (t : Bool) → is_there (marked n ms) ≡ t → (t || leb (length ms) 15) ≡ true → length (put n a ms) ≤ 16
    by true e g =
        let q = put_in_place n a ms e in
        omega (arith, sym (length_names (put n a ms)) ∙ ap length q ∙ length_names ms)
    by false e g = omega (arith, ap length (put_added n a ms e) ∙ length-append ms (named n a ∷ []), leb-true (length ms) 15 g)

-- ---- marks within their limits

module _ (len : ℕ) (n : List ℕ) (r : Plain) (name : name_test n ≡ true) (state : state_test r.view len ≡ true) where
  pub put_right : (ms : List Mark) → each_right len ms ≡ true → each_right len (put n r ms) ≡ true
  unfolding each_right put marked
  put_right [] h = and_from (name_test n) _ name (and_from (state_test r.view len) _ state refl)
  put_right (m ∷ ms) h = by (same_name m.name n) refl (put_right ms rest)
    where
      own : name_test m.name ≡ true
      own = (and_parts (name_test m.name) _ h).0

      after_name : (state_test m.held.view len && (not (is_there (marked m.name ms)) && each_right len ms)) ≡ true
      after_name = (and_parts (name_test m.name) _ h).1

      after_state : (not (is_there (marked m.name ms)) && each_right len ms) ≡ true
      after_state = (and_parts (state_test m.held.view len) _ after_name).1

      once : not (is_there (marked m.name ms)) ≡ true
      once = (and_parts (not (is_there (marked m.name ms))) _ after_state).0

      rest : each_right len ms ≡ true
      rest = (and_parts (not (is_there (marked m.name ms))) _ after_state).1

      by : (t : Bool) → same_name m.name n ≡ t → each_right len (put n r ms) ≡ true → each_right len (cond t (named n r ∷ ms) (m ∷ put n r ms)) ≡ true
      by true e more =
          let q : not (is_there (marked n ms)) ≡ true = subst (λ (x : List ℕ). not (is_there (marked x ms)) ≡ true) (same_is m.name n e) once in
          and_from (name_test n) _ name (and_from (state_test r.view len) _ state (and_from (not (is_there (marked n ms))) _ q rest))
      by false e more =
          let ne : same_name n m.name ≡ false = same_not n m.name (λ q. not_same m.name n e (sym q)) in
          let q : not (is_there (marked m.name (put n r ms))) ≡ true = ap (λ (o : Option Plain). not (is_there o)) (put_other n m.name r ms ne) ∙ once in
          and_from (name_test m.name) _ own (and_from (state_test m.held.view len) _ (and_parts (state_test m.held.view len) _ after_name).0 (and_from (not (is_there (marked m.name (put n r ms)))) _ q more))

-- ---- through a function

abbrev pub on_some : {A B : Type 0} → (A → B) → Option A → Option B
on_some f (some a) = some (f a)
on_some f none = none

there_some : {A B : Type 0} (f : A → B) (o : Option A) → is_there (on_some f o) ≡ is_there o
there_some f (some a) = refl
there_some f none = refl

module _ {A B : Type 0} (f : A → B) where
  abbrev through : Named A → Named B
  through m = named m.name (f m.held)

  pub marked_map : (n : List ℕ) (ms : List (Named A)) → marked n (map through ms) ≡ on_some f (marked n ms)
  unfolding marked
  marked_map n [] = refl
  marked_map n (m ∷ ms) = by (same_name m.name n) (marked_map n ms)
    where
      by : (t : Bool) → marked n (map through ms) ≡ on_some f (marked n ms)
          → cond t (some (f m.held)) (marked n (map through ms)) ≡ on_some f (cond t (some m.held) (marked n ms))
      by true more = refl
      by false more = more

  pub put_map : (n : List ℕ) (a : A) (ms : List (Named A)) → put n (f a) (map through ms) ≡ map through (put n a ms)
  unfolding put
  put_map n a [] = refl
  put_map n a (m ∷ ms) = by (same_name m.name n) (put_map n a ms)
    where
      by : (t : Bool) → put n (f a) (map through ms) ≡ map through (put n a ms)
          → cond t (named n (f a) ∷ map through ms) (through m ∷ put n (f a) (map through ms)) ≡ map through (cond t (named n a ∷ ms) (m ∷ put n a ms))
      by true more = refl
      by false more = ap (λ (l : List (Named B)). through m ∷ l) more

  length_through : (ms : List (Named A)) → length (map through ms) ≡ length ms
  length_through [] = refl
  length_through (m ∷ ms) = ap suc (length_through ms)

  pub room_map : (n : List ℕ) (ms : List (Named A)) → room_for n (map through ms) ≡ room_for n ms
  room_map n ms =
      ap (λ (t : Bool). t || leb (length (map through ms)) 15) (ap is_there (marked_map n ms) ∙ there_some f (marked n ms))
      ∙ ap (λ (k : ℕ). is_there (marked n ms) || leb k 15) (length_through ms)
