-- What the exported functions answer: numbers, and what a lent buffer holds afterwards. The format itself is in `format`.
--     unpacked s k             the number of the first k bytes of s; 0 where k is over 8 or over the length of s
--     flag_as b                 1 for true, 0 for false
--     NodeTold j out₀ out r    what is told of the judgement j of a node
--     TransitionTold j i out₀ out r     what is told of transition i of that node
--     PackingTold p out₀ out r          what is told of the packing p of a node record
--     found_as j b              the place of the input b in that node, 256 and the place of the first greater one where it is absent, 513 for an unsound node
-- Assumes nothing.
use Rattle.std.specs.Prelude.{◌≡◌, Bool, cond, not, ◌&&◌, List, [], ◌∷◌, ◌++◌, ℕ, ◌+◌, ltb, leb, eqb, length, take, drop}
use Rattle.format.specs.declared.Transition.{Transition}
use Rattle.format.specs.Limits.{number}
use Rattle.format.specs.Bytes.{le}
use Rattle.format.specs.Node.{Node, Judgement, sound, unsound, Search, find_input, transition_at}
use Rattle.format.specs.Packed.{Packing, written, refused}
use Rattle.oracle_numbers.specs.Numbers.{front}

unfoldable pub unpacked : List ℕ → ℕ → ℕ
unpacked s k = cond (leb k 8 && leb k (length s)) (le (take k s)) 0

abbrev pub flag_as : Bool → ℕ
flag_as b = cond b 1 0

-- any number but 0 is true
abbrev pub is_set : ℕ → Bool
is_set n = not (eqb n 0)

-- ---- packing: how many bytes, or 2 ^ 32 and the refusal

abbrev pub packing_number : Packing → ℕ
packing_number (written bs) = length bs
packing_number (refused k) = 4294967296 + number k

-- the bytes at the buffer's front; a refusal leaves it as it was
abbrev pub packing_buffer : Packing → List ℕ → List ℕ
packing_buffer (written bs) out = bs ++ drop (length bs) out
packing_buffer (refused k) out = out

pub record PackingTold (p : Packing) (out₀ out : List ℕ) (r : ℕ) : Type 0 where
  pub answer : r ≡ packing_number p
  pub buffer : out ≡ packing_buffer p out₀

-- ---- a node: 1 and its numbers, or 0

abbrev pub node_number : Judgement → ℕ
node_number (sound m) = 1
node_number unsound = 0

-- F, final or not, final output, number of transitions
abbrev pub node_numbers : Node → List ℕ
node_numbers m = m.first ∷ (flag_as m.final ∷ (m.final_output ∷ (length m.transitions ∷ [])))

abbrev pub node_buffer : Judgement → List ℕ → List ℕ
node_buffer (sound m) out = front (node_numbers m) out
node_buffer unsound out = out

pub record NodeTold (j : Judgement) (out₀ out : List ℕ) (r : ℕ) : Type 0 where
  pub answer : r ≡ node_number j
  pub buffer : out ≡ node_buffer j out₀

-- ---- a transition: 1 and its numbers, or 0 where there is none or no room

abbrev pub transition_numbers : Transition → List ℕ
transition_numbers t = t.inp ∷ (t.out ∷ (t.addr ∷ []))

abbrev pub transition_number : Judgement → ℕ → ℕ → ℕ
transition_number (sound m) i room = cond (ltb i (length m.transitions) && leb 3 room) 1 0
transition_number unsound i room = 0

abbrev pub transition_buffer : Judgement → ℕ → List ℕ → List ℕ
transition_buffer (sound m) i out =
    cond (ltb i (length m.transitions)) (front (transition_numbers (transition_at m.transitions i)) out) out
transition_buffer unsound i out = out

pub record TransitionTold (j : Judgement) (i : ℕ) (out₀ out : List ℕ) (r : ℕ) : Type 0 where
  pub answer : r ≡ transition_number j i (length out₀)
  pub buffer : out ≡ transition_buffer j i out₀

-- ---- the place of an input

abbrev pub place_number : Search → ℕ
place_number (Search.at i) = i
place_number (Search.absent p) = 256 + p

abbrev pub found_as : Judgement → ℕ → ℕ
found_as (sound m) b = place_number (find_input m.transitions b)
found_as unsound b = 513
