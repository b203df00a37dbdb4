-- A value for a key, a key for a value (document 01; docs/FORMAT.md, "Lookup"), for every file, admitted or not.
--     past_sum j                  the refusal where the sum that leads to a node is too large
--     Answer, get s k            what a lookup of the key k in the bytes s answers
--     KeyAnswer, get_key s v      what the search for a key with the value v answers
--     last_fitting ts v           the last of the leading transitions of ts whose output is not above v
--     Numbered s                 document 01's word: on such a file the search by value is exact
-- Assumes nothing.
use Rattle.std.specs.Prelude.{◌≡◌, Bool, true, false, cond, ◌&&◌, List, [], ◌∷◌, ℕ, zero, suc, ◌+◌, ◌-◌, ◌≤◌, ◌<◌, leb, eqb, length}
use Rattle.format.specs.declared.Refusal.{Refusal}
use Rattle.format.specs.declared.Transition.{Transition}
use Rattle.format.specs.Limits.{max_path, max_sum, NODE, DEEP, SUM, SPACE}
use Rattle.format.specs.Node.{Node, Judgement, sound, unsound, Place, at, absent, Search, find_input, transition_at}
use Rattle.format.specs.Opening.{Meta, Opening, opened, opening}
use Rattle.format.specs.Opening as Opening
use Rattle.format.specs.Paths.{Fst, fst_of, node_in, Path}
use Rattle.format.specs.Tables.{largest_sum}
use Rattle.format.specs.Admitted.{Admitted}

-- a sum past 2^64 - 1 leads to a node: 5 for the node, then 7 for the sum
abbrev pub past_sum : Judgement → Refusal
past_sum (sound m) = SUM
past_sum unsound = NODE

-- ---- by key

pub data Answer : Type 0 where
  value : ℕ → Answer
  none : Answer
  refused : Refusal → Answer

-- a node that is entered is judged: 5 where it is not sound
abbrev pub entered : Judgement → (Node → Answer) → Answer
entered (sound m) go = go m
entered unsound go = refused NODE

abbrev pub followed : Search → (ℕ → Answer) → Answer
followed (Search.at i) go = go i
followed (Search.absent p) go = none

-- at the key's end: none where the node is not final, 7 with the final output
abbrev pub ended : Node → ℕ → Answer
ended m sum = cond m.final (cond (leb (sum + m.final_output) max_sum) (value (sum + m.final_output)) (refused SUM)) none

-- the rest k of a key from the node at a, with the running sum up to it: 5 for the node, then 7 for the sum
unfoldable pub get_from : Fst → List ℕ → ℕ → ℕ → Answer
get_from f [] a sum = entered (node_in f a) (λ m. cond (leb sum max_sum) (ended m sum) (refused SUM))
get_from f (b ∷ k) a sum =
    entered (node_in f a) (λ m.
    cond (leb sum max_sum)
    (followed (find_input m.transitions b) (λ i. get_from f k (transition_at m.transitions i).addr (sum + (transition_at m.transitions i).out)))
    (refused SUM))

abbrev pub opened_as : Opening → (Meta → Answer) → Answer
opened_as (opened m) go = go m
opened_as (Opening.refused n) go = refused n

-- a file without bytes has no node to enter: none
unfoldable pub get : List ℕ → List ℕ → Answer
unfolding get_from
get s k = opened_as (opening s) (λ m. cond (eqb (length s) 0) none (get_from (fst_of s m) k m.root 0))

-- ---- by value

pub data KeyAnswer : Type 0 where
  found : List ℕ → KeyAnswer
  none : KeyAnswer
  refused : Refusal → KeyAnswer

-- place i of the first transition of ts; the outputs before it fit
unfoldable pub fitting_from : ℕ → Place → List Transition → ℕ → Place
fitting_from i last [] v = last
fitting_from i last (t ∷ ts) v = cond (leb t.out v) (fitting_from (i + 1) (at i) ts v) last

unfoldable pub last_fitting : List Transition → ℕ → Place
unfolding fitting_from
last_fitting ts v = fitting_from 0 absent ts v

abbrev pub key_entered : Judgement → (Node → KeyAnswer) → KeyAnswer
key_entered (sound m) go = go m
key_entered unsound go = KeyAnswer.refused NODE

abbrev pub key_followed : Place → (ℕ → KeyAnswer) → KeyAnswer
key_followed (at i) go = go i
key_followed absent go = KeyAnswer.none

-- the byte b before what is found
abbrev pub with_byte : ℕ → KeyAnswer → KeyAnswer
with_byte b (found k) = found (b ∷ k)
with_byte b KeyAnswer.none = KeyAnswer.none
with_byte b (KeyAnswer.refused n) = KeyAnswer.refused n

-- from the node at a, with v left and room for so many bytes: the key ends where nothing is left and the node is final; final outputs
-- are ignored. 6 where a byte would be one too many, before its target is judged
unfoldable pub get_key_from : ℕ → Fst → ℕ → ℕ → KeyAnswer
unfolding last_fitting
get_key_from zero f a v =
    key_entered (node_in f a) (λ m.
    cond (eqb v 0 && m.final) (found [])
    (key_followed (last_fitting m.transitions v) (λ i. KeyAnswer.refused DEEP)))
get_key_from (suc room) f a v =
    key_entered (node_in f a) (λ m.
    cond (eqb v 0 && m.final) (found [])
    (key_followed (last_fitting m.transitions v) (λ i.
    with_byte (transition_at m.transitions i).inp (get_key_from room f (transition_at m.transitions i).addr (v - (transition_at m.transitions i).out)))))

abbrev pub key_opened_as : Opening → (Meta → KeyAnswer) → KeyAnswer
key_opened_as (opened m) go = go m
key_opened_as (Opening.refused n) go = KeyAnswer.refused n

-- into a key buffer of space bytes: opening's refusals, then SPACE under 255, then none on a file without bytes
unfoldable pub get_key : List ℕ → ℕ → ℕ → KeyAnswer
unfolding get_key_from
get_key s v space =
    key_opened_as (opening s) (λ m.
    cond (leb max_path space)
    (cond (eqb (length s) 0) KeyAnswer.none (get_key_from max_path (fst_of s m) m.root v))
    (KeyAnswer.refused SPACE))

-- ---- numbered files

-- over the nodes that a path from the root reaches
pub record NumberedNode (f : Fst) (m : Node) : Type 0 where
  pub no_final_output : m.final_output ≡ 0
  pub first_output : m.final ≡ true → 0 < length m.transitions → 1 ≤ (transition_at m.transitions 0).out
  pub below_next : (i : ℕ) → i + 1 < length m.transitions
      → (transition_at m.transitions i).out + largest_sum f (transition_at m.transitions i).addr < (transition_at m.transitions (i + 1)).out

pub record Numbered (s : List ℕ) : Type 0 where
  pub admitted : Admitted s
  pub numbered : (k : List ℕ) (sum a : ℕ) (m : Node) → Path (fst_of s admitted.meta) admitted.meta.root k sum a
      → node_in (fst_of s admitted.meta) a ≡ sound m → NumberedNode (fst_of s admitted.meta) m
