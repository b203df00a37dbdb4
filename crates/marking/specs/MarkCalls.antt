-- Marks, places to come back to (document 02, N10), beside a plain reading. MarksDemand has what is promised of them.
--     Named A              a name of its own, and what stands under it
--     marked, put          what stands under a name; a name replaced where it stands, or added after the last
--     Mark, marks_test      a name with a reading; STATE's condition on marks
--     mark, back           the calls, by definition
--     refuse_with, next_marked   a refused call; next, with the marks judged too
-- Assumes nothing.
use Rattle.std.specs.Prelude.{Bool, true, false, cond, ◌&&◌, ◌||◌, not, List, [], ◌∷◌, ℕ, leb, eqb, length}
use Rattle.std.proofs.Math.Option.{Option, none, some}
use Rattle.format.specs.declared.Refusal.{Refusal}
use Rattle.format.specs.Limits.{STATE, NAME, FULL}
use Rattle.format.specs.Opening.{opening}
use Rattle.reading.specs.Reading.{on_opened, state_test, Answer}
use Rattle.plain.specs.Plain.{Plain, PlainStep, next_plain}

-- ---- names

-- the same length and the same bytes
unfoldable pub same_name : List ℕ → List ℕ → Bool
same_name [] [] = true
same_name [] (y ∷ ys) = false
same_name (x ∷ xs) [] = false
same_name (x ∷ xs) (y ∷ ys) = eqb x y && same_name xs ys

-- 1 to 8 bytes
abbrev pub name_test : List ℕ → Bool
name_test n = leb 1 (length n) && leb (length n) 8

pub record Named (A : Type 0) : Type 0 where
  pub name : List ℕ
  pub held : A

abbrev pub named : {A : Type 0} → List ℕ → A → Named A
named n a = record { name = n; held = a }

-- what stands under the name n
unfoldable pub marked : {A : Type 0} → List ℕ → List (Named A) → Option A
unfolding same_name
marked n [] = none
marked n (m ∷ ms) = cond (same_name m.name n) (some m.held) (marked n ms)

abbrev pub is_there : {A : Type 0} → Option A → Bool
is_there (some a) = true
is_there none = false

-- a mark of that name is replaced where it stands, or added after the last
unfoldable pub put : {A : Type 0} → List ℕ → A → List (Named A) → List (Named A)
unfolding same_name
put n a [] = named n a ∷ []
put n a (m ∷ ms) = cond (same_name m.name n) (named n a ∷ ms) (m ∷ put n a ms)

-- the name is held, or there is room for one more of 16
abbrev pub room_for : {A : Type 0} → List ℕ → List (Named A) → Bool
room_for n ms = is_there (marked n ms) || leb (length ms) 15

-- ---- marks

-- a mark holds a whole reading
abbrev pub Mark : Type 0
Mark = Named Plain

abbrev pub mark_is : List ℕ → Plain → Mark
mark_is n r = named n r

-- each name within its limits and held once, each mark's own state within its limits
unfoldable pub each_right : ℕ → List Mark → Bool
unfolding marked
each_right len [] = true
each_right len (m ∷ ms) = name_test m.name && (state_test m.held.view len && (not (is_there (marked m.name ms)) && each_right len ms))

abbrev pub marks_test : ℕ → List Mark → Bool
marks_test len ms = leb (length ms) 16 && each_right len ms

-- ---- the calls

pub data Marking : Type 0 where
  has_marks : List Mark → Marking
  refused : Refusal → Marking

-- opening's refusals, STATE, NAME, FULL
unfoldable pub mark : List ℕ → Plain → List Mark → List ℕ → Marking
unfolding each_right put
mark s r ms n =
    on_opened (opening s)
    (λ m.
    cond (state_test r.view (length s) && marks_test (length s) ms)
    (cond (name_test n) (cond (room_for n ms) (has_marks (put n r ms)) (refused FULL)) (refused NAME))
    (refused STATE))
    (λ c. refused c)

pub data Return : Type 0 where
  at : Plain → Return
  refused : Refusal → Return

abbrev pub found : Option Plain → Return
found (some r) = at r
found none = Return.refused NAME

-- opening's refusals, STATE, NAME
unfoldable pub back : List ℕ → Plain → List Mark → List ℕ → Return
unfolding each_right
back s r ms n =
    on_opened (opening s)
    (λ m.
    cond (state_test r.view (length s) && marks_test (length s) ms)
    (cond (name_test n) (found (marked n ms)) (Return.refused NAME))
    (Return.refused STATE))
    (λ c. Return.refused c)

abbrev pub refuse_with : Plain → Refusal → PlainStep
refuse_with r n = record { answer = Answer.refused n; reading = r }

-- opening's refusals, STATE for the marks or the reading, then next
unfoldable pub next_marked : List ℕ → Plain → List Mark → ℕ → PlainStep
unfolding each_right
next_marked s r ms space =
    on_opened (opening s) (λ m. cond (marks_test (length s) ms) (next_plain s r space) (refuse_with r STATE)) (λ c. refuse_with r c)
