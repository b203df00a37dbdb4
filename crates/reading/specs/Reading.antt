-- A reading (document 01, "A reading"; docs/FORMAT.md, "Readings"): start and next by definition, for every file, bound and reading,
-- admitted or made.
--     Level, View              a level of a reading, and what a reading says: what carries no meaning is not in it
--     key_of levels             the bytes of the levels after the first
--     Started, start s lo hi   what a start on the bytes s answers: a reading, or a refusal
--     Answer, Step             what a call of next answers, and the reading after it
--     next s r space           a call with the reading r and a key buffer of space bytes
--     written a buf            the key buffer afterwards
-- Levels are listed highest first: a pop is a tail, and the first level is the last of the list.
-- Assumes nothing.
use Rattle.std.specs.Prelude.{Bool, true, false, cond, not, ◌&&◌, List, [], ◌∷◌, ◌++◌, ℕ, zero, suc, ◌+◌, ◌-◌, ltb, leb, eqb, length, drop}
use Rattle.std.proofs.Math.Option.{Option, none, some}
use Rattle.format.specs.declared.Refusal.{Refusal}
use Rattle.format.specs.declared.Transition.{Transition}
use Rattle.format.specs.Limits.{max_path, max_levels, max_sum, NODE, DEEP, SUM, SPACE, BOUND, STATE}
use Rattle.format.specs.Node.{Node, Judgement, sound, unsound, Search, find_input, transition_at}
use Rattle.format.specs.Opening.{Meta, Opening, opened, opening}
use Rattle.format.specs.Opening as Opening
use Rattle.format.specs.Paths.{Fst, fst_of, node_in}
use Rattle.format.specs.Strings.{Bound, unbounded, included, excluded, before_test}

-- ---- bounds, as tests that compute; BoundLaws, `decides_meets` and `decides_passes`

abbrev pub meets_test : Bound → List ℕ → Bool
meets_test unbounded k = true
meets_test (included b) k = not (before_test k b)
meets_test (excluded b) k = before_test b k

abbrev pub passes_test : Bound → List ℕ → Bool
passes_test unbounded k = false
passes_test (included b) k = before_test b k
passes_test (excluded b) k = not (before_test k b)

-- the bytes of a bound; an unbounded one has none
abbrev pub bound_bytes : Bound → List ℕ
bound_bytes unbounded = []
bound_bytes (included b) = b
bound_bytes (excluded b) = b

-- whether a key equal to the lower bound is handed out
abbrev pub is_inclusive : Bound → Bool
is_inclusive unbounded = true
is_inclusive (included b) = true
is_inclusive (excluded b) = false

-- ---- what a reading says

-- the node's address, the byte that led there (0 at the first level), the next place, and the running sum
pub record Level : Type 0 where
  pub addr : ℕ
  pub inp : ℕ
  pub trans : ℕ
  pub out : ℕ

abbrev pub level_with : ℕ → ℕ → ℕ → ℕ → Level
level_with a i p sum = record { addr = a; inp = i; trans = p; out = sum }

pub record View : Type 0 where
  -- the file's length
  pub len : ℕ
  -- the upper bound, and the number of its bytes that the reading states
  pub bound : Bound
  pub bound_len : ℕ
  -- the pending empty key's value
  pub empty : Option ℕ
  -- how many transitions were followed
  pub total : ℕ
  pub levels : List Level

unfoldable pub path_of : List Level → List ℕ
path_of [] = []
path_of (l ∷ s) = path_of s ++ (l.inp ∷ [])

abbrev pub key_of : List Level → List ℕ
key_of s = drop 1 (path_of s)

-- ---- the cases of the answers that are leaned on

abbrev pub on_node : {A : Type 0} → Judgement → (Node → A) → A → A
on_node (sound m) go stop = go m
on_node unsound go stop = stop

abbrev pub on_search : {A : Type 0} → Search → (ℕ → A) → (ℕ → A) → A
on_search (Search.at i) go miss = go i
on_search (Search.absent p) go miss = miss p

abbrev pub on_opened : {A : Type 0} → Opening → (Meta → A) → (Refusal → A) → A
on_opened (opened m) go stop = go m
on_opened (Opening.refused n) go stop = stop n

-- ---- start

pub data Sought : Type 0 where
  got : List Level → Sought
  halted : Refusal → Sought

-- where the bound ends: below its node, or at the transition that led there, so that the bound's own key comes next; an empty bound
-- ends at the root
abbrev pub last_levels : Bool → Level → List Level → List Level
last_levels true l [] = l ∷ []
last_levels true l (p ∷ s) = level_with p.addr p.inp (p.trans - 1) p.out ∷ s
last_levels false l s = l ∷ s

-- the rest of the lower bound from the node at a, to which the byte i led, over the levels s: 5 for the node as it is entered, then 7
-- for the running sum up to it
unfoldable pub seek : Fst → Bool → ℕ → ℕ → ℕ → List Level → List ℕ → Sought
seek f inclusive a i sum s [] =
    on_node (node_in f a)
    (λ m. cond (leb sum max_sum) (got (last_levels inclusive (level_with a i 0 sum) s)) (halted SUM))
    (halted NODE)
seek f inclusive a i sum s (b ∷ lo) =
    on_node (node_in f a)
    (λ m. cond (leb sum max_sum)
    (on_search (find_input m.transitions b)
    (λ p. seek f inclusive (transition_at m.transitions p).addr b (sum + (transition_at m.transitions p).out) (level_with a i (p + 1) sum ∷ s) lo)
    (λ p. got (level_with a i p sum ∷ s)))
    (halted SUM))
    (halted NODE)

-- the empty key is pending where it is held and meets the lower bound
abbrev pub pending_at : Bound → Judgement → Option ℕ
pending_at lo j = cond (meets_test lo []) (on_node j (λ m. cond m.final (some m.final_output) none) none) none

pub data Started : Type 0 where
  started : View → Started
  refused : Refusal → Started

abbrev pub started_at : List ℕ → Bound → Option ℕ → Sought → Started
started_at s hi empty (got levels) =
    started (record { len = length s; bound = hi; bound_len = length (bound_bytes hi); empty = empty; total = 0; levels = levels })
started_at s hi empty (halted n) = refused n

abbrev pub bounds_test : Bound → Bound → Bool
bounds_test lo hi = leb (length (bound_bytes lo)) max_path && leb (length (bound_bytes hi)) max_path

-- opening's refusals, BOUND, then a reading at its end on a file without bytes, which has no node to enter, and the walk on any other
unfoldable pub start : List ℕ → Bound → Bound → Started
unfolding seek
start s lo hi =
    on_opened (opening s)
    (λ m.
    cond (bounds_test lo hi)
    (cond (eqb (length s) 0) (started_at s hi none (got []))
    (started_at s hi (pending_at lo (node_in (fst_of s m) m.root)) (seek (fst_of s m) (is_inclusive lo) m.root 0 0 [] (bound_bytes lo))))
    (refused BOUND))
    (λ n. refused n)

-- ---- next

pub data Answer : Type 0 where
  key : List ℕ → ℕ → Answer
  end : Answer
  refused : Refusal → Answer

pub record Step : Type 0 where
  pub answer : Answer
  pub reading : View

abbrev pub refuse : View → Refusal → Step
refuse r n = record { answer = Answer.refused n; reading = r }

-- the reading with other levels and another total, and nothing pending
abbrev pub moved : View → List Level → ℕ → View
moved r s t = record { len = r.len; bound = r.bound; bound_len = r.bound_len; empty = none; total = t; levels = s }

-- one more transition followed; the total stays at 2^64 - 1
abbrev pub counted : ℕ → ℕ
counted t = cond (ltb t max_sum) (t + 1) t

-- the highest level that has a transition left, with its node and the levels below it; each level that is looked at is judged
pub data Popped : Type 0 where
  top : Level → Node → List Level → Popped
  used_up : Popped
  bad : Popped

unfoldable pub pop : Fst → List Level → Popped
pop f [] = used_up
pop f (l ∷ s) = on_node (node_in f l.addr) (λ m. cond (ltb l.trans (length m.transitions)) (top l m s) (pop f s)) bad

abbrev pub next_trans : Level → Node → Transition
next_trans l m = transition_at m.transitions l.trans

-- the level that the next transition leads to, and the level left behind
abbrev pub child : Level → Node → Level
child l m = level_with (next_trans l m).addr (next_trans l m).inp 0 (l.out + (next_trans l m).out)

abbrev pub stepped : Level → Level
stepped l = level_with l.addr l.inp (l.trans + 1) l.out

-- where a key is found, with its value and the total; where the upper bound is passed; or why neither
pub data Went : Type 0 where
  found : List Level → ℕ → ℕ → Went
  passed : ℕ → Went
  halted : Refusal → Went

-- down from the level l, whose node m is judged, with room for so many levels more: 6, 7 for the running sum, 5 for the target, the upper
-- bound, 7 with the final output. A target that is not final has a transition, since no target is the root
-- (RunLaws, `target_live`), so every turn follows one.
unfoldable pub descend : ℕ → Fst → Bound → Level → Node → List Level → ℕ → Went
descend zero f hi l m s t = Went.halted DEEP
descend (suc room) f hi l m s t =
    cond (leb (l.out + (next_trans l m).out) max_sum)
    (on_node (node_in f (next_trans l m).addr)
    (λ n.
    cond (passes_test hi (key_of (child l m ∷ stepped l ∷ s))) (passed (counted t))
    (cond n.final
    (cond (leb (l.out + (next_trans l m).out + n.final_output) max_sum)
    (found (child l m ∷ stepped l ∷ s) (l.out + (next_trans l m).out + n.final_output) (counted t))
    (Went.halted SUM))
    (descend room f hi (child l m) n (stepped l ∷ s) (counted t))))
    (Went.halted NODE))
    (Went.halted SUM)

abbrev pub after_descend : View → Went → Step
after_descend r (found s v t) = record { answer = key (key_of s) v; reading = moved r s t }
after_descend r (passed t) = record { answer = end; reading = moved r [] t }
after_descend r (Went.halted n) = refuse r n

abbrev pub after_pop : Fst → View → Popped → Step
after_pop f r (top l m s) = after_descend r (descend (max_path - length s) f r.bound l m s r.total)
after_pop f r used_up = record { answer = end; reading = moved r [] r.total }
after_pop f r bad = refuse r NODE

-- a pending empty key is handed out, or ends the reading, before any node is judged
abbrev pub walk : Fst → View → Option ℕ → Step
walk f r (some v) =
    cond (passes_test r.bound [])
    (record { answer = end; reading = moved r [] r.total })
    (record { answer = key [] v; reading = moved r r.levels r.total })
walk f r none = after_pop f r (pop f r.levels)

-- at most 256 levels, a held bound of at most 255 bytes, and the file's length
abbrev pub state_test : View → ℕ → Bool
state_test r n = leb (length r.levels) max_levels && (leb r.bound_len max_path && eqb r.len n)

-- opening's refusals, STATE, SPACE, then the walk
unfoldable pub next : List ℕ → View → ℕ → Step
unfolding pop descend
next s r space =
    on_opened (opening s)
    (λ m.
    cond (state_test r (length s))
    (cond (leb max_path space) (walk (fst_of s m) r r.empty) (refuse r SPACE))
    (refuse r STATE))
    (λ n. refuse r n)

-- a key is written from the buffer's first byte, the rest as given; otherwise the buffer is as given
abbrev pub written : Answer → List ℕ → List ℕ
written (key k v) buf = k ++ drop (length k) buf
written end buf = buf
written (Answer.refused n) buf = buf
