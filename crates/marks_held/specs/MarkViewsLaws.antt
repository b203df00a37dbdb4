-- The view of the marks, place by place, and what the first place of a name tells.
--     stated_length, stated_take                 as many as are stated; those that are held
--     stated_set, stated_more                    one of them put in its place; one more, after the last
--     mark_at_lem                                    the view of one of the marks
--     marked_place, put_place                    what stands under a name, and a mark of it put, by the first place of the name
--     marked_nowhere, there_place                a name that no mark has from a place on; one that some mark has
-- Assumes nothing.
use Rattle.std.specs.Prelude.{◌≡◌, refl, true, false, List, [], ◌∷◌, ◌++◌, map, ℕ, zero, suc, ◌+◌, ◌-◌, ◌≤◌, ◌<◌, length, get_or, set, take, drop, Some, None}
use Rattle.std.proofs.Common.{sym, ap, ◌∙◌, subst, arith, add-one, length-drop, get_or-drop}
use Rattle.std.proofs.Math.Option.{some, none}
use Rattle.std.proofs.lemmas.List.{length-map}
use Rattle.plain.specs.Plain as P
use Rattle.marking.specs.MarkCalls as M
use Rattle.marking.specs.MarkCalls.{named, same_name, marked, is_there, put}
use Rattle.marks_held.specs.declared.Mark.{Mark}
use Rattle.marks_held.specs.declared.Marks.{Marks}
use Rattle.marks_held.specs.MarkViews.{stated, no_mark, mark_is, marks_is, mark_at, SeekTold, at_place, nowhere}

-- ---- what is stated

pub stated_length : {A : Type 0} (n : ℕ) (d : A) (xs : List A) → length (stated n d xs) ≡ n
unfolding stated
stated_length zero d xs = refl
stated_length (suc n) d [] = ap suc (stated_length n d [])
stated_length (suc n) d (x ∷ xs) = ap suc (stated_length n d xs)

pub stated_take : {A : Type 0} (n : ℕ) (d : A) (xs : List A) → n ≤ length xs → stated n d xs ≡ take n xs
unfolding stated
stated_take zero d xs h = refl
stated_take (suc n) d [] h = absurd (omega arith)
stated_take {A} (suc n) d (x ∷ xs) h = ap (λ (l : List A). x ∷ l) (stated_take n d xs (omega arith))

stated_at : {A : Type 0} (n : ℕ) (d e : A) (xs : List A) (i : ℕ) → i < n → i < length xs → get_or (stated n d xs) i e ≡ get_or xs i e
unfolding stated
stated_at zero d e xs i h l = absurd (omega arith)
stated_at (suc n) d e [] i h l = absurd (omega arith)
stated_at (suc n) d e (x ∷ xs) zero h l = refl
stated_at (suc n) d e (x ∷ xs) (suc i) h l = stated_at n d e xs i (omega arith) (omega arith)

map_at : (l : List Mark) (i : ℕ) (d : Mark) → i < length l → get_or (map mark_is l) i no_mark ≡ mark_is (get_or l i d)
map_at [] i d h = absurd (omega arith)
map_at (x ∷ l) zero d h = refl
map_at (x ∷ l) (suc i) d h = map_at l i d (omega arith)

pub mark_at_lem : (m : Marks) → length m.marks ≡ 16 → m.count ≤ 16 → (i : ℕ) (d : Mark) → i < m.count → mark_at (marks_is m) i ≡ mark_is (get_or m.marks i d)
mark_at_lem m sixteen few i d h =
    stated_at m.count no_mark no_mark (map mark_is m.marks) i h (omega (arith, length-map m.marks mark_is)) ∙ map_at m.marks i d (omega arith)

-- one put in its place, below what is stated
pub stated_set : (n : ℕ) (l : List Mark) (i : ℕ) (x : Mark) → i < n → n ≤ length l
    → stated n no_mark (map mark_is (set l i x)) ≡ set (stated n no_mark (map mark_is l)) i (mark_is x)
unfolding stated
stated_set zero l i x h g = absurd (omega arith)
stated_set (suc n) [] i x h g = absurd (omega arith)
stated_set (suc n) (y ∷ l) zero x h g = refl
stated_set (suc n) (y ∷ l) (suc i) x h g = ap (λ (r : List M.Mark). mark_is y ∷ r) (stated_set n l i x (omega arith) (omega arith))

-- one more, after the last
stated_suc : (n : ℕ) (l : List Mark) (x : Mark) → n < length l → stated (suc n) no_mark (map mark_is (set l n x)) ≡ stated n no_mark (map mark_is l) ++ (mark_is x ∷ [])
unfolding stated
stated_suc zero [] x h = absurd (omega arith)
stated_suc zero (y ∷ l) x h = refl
stated_suc (suc n) [] x h = absurd (omega arith)
stated_suc (suc n) (y ∷ l) x h = ap (λ (r : List M.Mark). mark_is y ∷ r) (stated_suc n l x (omega arith))

pub stated_more : (n : ℕ) (l : List Mark) (x : Mark) → n < length l → stated (n + 1) no_mark (map mark_is (set l n x)) ≡ stated n no_mark (map mark_is l) ++ (mark_is x ∷ [])
stated_more n l x h = rw add-one (stated_suc n l x h)

-- ---- the first place of a name

first_marked : (n : List ℕ) (l : List M.Mark) (i : ℕ) → i < length l → same_name (mark_at l i).name n ≡ true
    → ((j : ℕ) → j < i → same_name (mark_at l j).name n ≡ false) → marked n l ≡ some (mark_at l i).held
unfolding marked
first_marked n [] i h e before = absurd (omega arith)
first_marked n (m ∷ l) zero h e before = rw e
first_marked n (m ∷ l) (suc i) h e before =
    let other : same_name m.name n ≡ false = before 0 (omega arith) in
    rw other (first_marked n l i (omega arith) e (λ j lt. before (suc j) (omega arith)))

first_put : (n : List ℕ) (p : P.Plain) (l : List M.Mark) (i : ℕ) → i < length l → same_name (mark_at l i).name n ≡ true
    → ((j : ℕ) → j < i → same_name (mark_at l j).name n ≡ false) → put n p l ≡ set l i (named n p)
unfolding put
first_put n p [] i h e before = absurd (omega arith)
first_put n p (m ∷ l) zero h e before = rw e
first_put n p (m ∷ l) (suc i) h e before =
    let other : same_name m.name n ≡ false = before 0 (omega arith) in
    rw other (ap (λ (r : List M.Mark). m ∷ r) (first_put n p l i (omega arith) e (λ j lt. before (suc j) (omega arith))))

none_marked : (n : List ℕ) (l : List M.Mark) → ((j : ℕ) → j < length l → same_name (mark_at l j).name n ≡ false) → marked n l ≡ none
unfolding marked
none_marked n [] off = refl
none_marked n (m ∷ l) off = let e : same_name m.name n ≡ false = off 0 (omega arith) in rw e (none_marked n l (λ j lt. off (suc j) (omega arith)))

module _ (n : List ℕ) (ms : List M.Mark) where
  pub marked_place : (i : ℕ) → SeekTold n ms 0 (Some i) → marked n ms ≡ some (mark_at ms i).held
  marked_place i (at_place k le lt e before) = first_marked n ms k lt e (λ j l. before j (omega arith) l)

  pub put_place : (p : P.Plain) (i : ℕ) → SeekTold n ms 0 (Some i) → put n p ms ≡ set ms i (named n p)
  put_place p i (at_place k le lt e before) = first_put n p ms k lt e (λ j l. before j (omega arith) l)

  pub place_lt : (from i : ℕ) → SeekTold n ms from (Some i) → i < length ms
  place_lt from i (at_place k le lt e before) = lt

  pub marked_nowhere : (from : ℕ) → SeekTold n ms from None → marked n (drop from ms) ≡ none
  marked_nowhere from (nowhere off) =
      none_marked n (drop from ms)
      (λ j lt. subst (λ (m : M.Mark). same_name m.name n ≡ false) (sym (get_or-drop from ms j no_mark)) (off (from + j) (omega arith) (omega (arith, length-drop from ms))))

  pub there_place : (from i : ℕ) → SeekTold n ms from (Some i) → is_there (marked n (drop from ms)) ≡ true
  there_place from i (at_place k le lt e before) =
      let at : from + (k - from) ≡ k = omega arith in
      ap is_there
      (first_marked n (drop from ms) (k - from) (omega (arith, length-drop from ms))
      (subst (λ (m : M.Mark). same_name m.name n ≡ true) (sym (get_or-drop from ms (k - from) no_mark ∙ ap (mark_at ms) at)) e)
      (λ j l. subst (λ (m : M.Mark). same_name m.name n ≡ false) (sym (get_or-drop from ms j no_mark)) (before (from + j) (omega arith) (omega arith))))
