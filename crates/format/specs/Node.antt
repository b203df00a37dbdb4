-- A stored node (document 01, "A packed or read node"; docs/FORMAT.md, "A node").
-- A node's address is the offset of its last byte, the state byte; F is the offset of its first byte. s is the whole file, v its
-- version, a an address. The shape is read off the node's last bytes and gives its size; every other place is counted up from F.
--     state_form, is_final       how the state byte says that the node is stored, and whether it is final
--     ntrans_of, sizes_byte      the transition count; the byte with the sizes of a delta and of an output
--     size_of s v a, first_of    how many bytes the node takes; F
--     Shape, shape_of s v a     these numbers together
--     inputsOf, outputsOf, deltasOf     what the node stores, first transition first
--     Node, node_of s v a       what it means: final, final output, transitions in ascending order
--     SoundAt s v root a       the node is sound (document 01's word), each of its conditions named
--     node_at s v root a        the node's meaning where it is sound, and `unsound` where it is not; address 0 has no bytes
--     find_input ts b           the place of the byte b among the inputs of the transitions ts, or the place where it would stand
--     Gap n x b p              b is none of the n inputs x 0, x 1, ..: those before place p are smaller, the others greater
-- Assumes nothing.
use Rattle.std.specs.Prelude.{◌≡◌, Bool, true, false, cond, not, ◌&&◌, ◌||◌, ◌⊎◌, List, [], ◌∷◌, map, ℕ, zero, suc, ◌+◌, ◌-◌, ◌*◌, ◌/◌, ◌%◌, ◌≤◌, ◌<◌, ltb, leb, eqb, length, get_or, take, drop}
use Rattle.format.specs.declared.State.{State}
use Rattle.format.specs.declared.State.TheVariants.{OneTransNext, OneTrans, AnyTrans}
use Rattle.format.specs.declared.Transition.{Transition}
use Rattle.buffers.specs.Decide.{implies, all_below}
use Rattle.format.specs.Limits.{first_node, index_threshold}
use Rattle.format.specs.Bytes.{le}
use Rattle.format.specs.CommonInputs.{common_input}

-- ---- the state byte

-- top bits 11; 10; 00 or 01
abbrev pub state_form : ℕ → State
state_form state = cond (leb 192 state) OneTransNext (cond (leb 128 state) OneTrans AnyTrans)

-- top bits 01
abbrev pub is_final : ℕ → Bool
is_final state = leb 64 state && ltb state 128

-- the low six bits, c in document 01
abbrev pub low_bits : List ℕ → ℕ → ℕ
low_bits s a = get_or s a 0 % 64

-- the state byte, and below it a byte with the count or the input where the low six bits are 0
unfoldable pub head_len : List ℕ → ℕ → ℕ
head_len s a = cond (eqb (low_bits s a) 0) 2 1

-- the low six bits, or the count byte, in which 1 means 256
abbrev pub count_of : List ℕ → ℕ → ℕ
count_of s a = cond (eqb (low_bits s a) 0) (cond (eqb (get_or s (a - 1) 0) 1) 256 (get_or s (a - 1) 0)) (low_bits s a)

-- the input of a node with one transition: a common one, or the byte below the state
unfoldable pub input_of : List ℕ → ℕ → ℕ
input_of s a = cond (eqb (low_bits s a) 0) (get_or s (a - 1) 0) (common_input (low_bits s a))

-- ---- the parts' sizes

abbrev pub ntrans_in : State → List ℕ → ℕ → ℕ
ntrans_in OneTransNext s a = 1
ntrans_in OneTrans s a = 1
ntrans_in AnyTrans s a = count_of s a

unfoldable pub ntrans_of : List ℕ → ℕ → ℕ
ntrans_of s a = ntrans_in (state_form (get_or s a 0)) s a

-- a node of the form 11 stores no sizes, no output and no delta
abbrev pub sizes_in : State → List ℕ → ℕ → ℕ
sizes_in OneTransNext s a = 0
sizes_in OneTrans s a = get_or s (a - head_len s a) 0
sizes_in AnyTrans s a = get_or s (a - head_len s a) 0

unfoldable pub sizes_byte : List ℕ → ℕ → ℕ
sizes_byte s a = sizes_in (state_form (get_or s a 0)) s a

abbrev pub sizes_len : State → ℕ
sizes_len OneTransNext = 0
sizes_len OneTrans = 1
sizes_len AnyTrans = 1

-- the inputs that stand between the deltas and the index
abbrev pub inputs_len : State → ℕ → ℕ
inputs_len OneTransNext n = 0
inputs_len OneTrans n = 0
inputs_len AnyTrans n = n

-- versions 2 and 3, with more than 32 transitions
unfoldable pub index_len : ℕ → ℕ → ℕ
index_len v n = cond (leb 2 v && ltb index_threshold n) 256 0

-- the bytes of the final output
abbrev pub end_len : Bool → ℕ → ℕ
end_len final osize = cond final osize 0

-- ---- the shape

pub record Shape : Type 0 where
  pub state : State
  pub final : Bool
  pub ntrans : ℕ
  -- the bytes of a delta and of an output
  pub tsize : ℕ
  pub osize : ℕ
  pub indexed : ℕ
  -- the bytes of the whole node
  pub size : ℕ

unfoldable pub size_of : List ℕ → ℕ → ℕ → ℕ
size_of s v a =
    end_len (is_final (get_or s a 0)) (sizes_byte s a % 16) + ntrans_of s a * (sizes_byte s a % 16) + ntrans_of s a * (sizes_byte s a / 16)
    + inputs_len (state_form (get_or s a 0)) (ntrans_of s a) + index_len v (ntrans_of s a) + sizes_len (state_form (get_or s a 0)) + head_len s a

-- the high four bits of the sizes byte are the delta size, the low four the output size
abbrev pub shape_of : List ℕ → ℕ → ℕ → Shape
shape_of s v a = record {
  state = state_form (get_or s a 0);
  final = is_final (get_or s a 0);
  ntrans = ntrans_of s a;
  tsize = sizes_byte s a / 16;
  osize = sizes_byte s a % 16;
  indexed = index_len v (ntrans_of s a);
  size = size_of s v a;
}

abbrev pub first_of : List ℕ → ℕ → ℕ → ℕ
first_of s v a = a + 1 - size_of s v a

-- ---- the parts' places, from F up: final output, outputs, deltas, inputs, index

abbrev pub outputs_at : ℕ → Bool → ℕ → ℕ
outputs_at first final osize = first + end_len final osize

abbrev pub deltas_at : ℕ → ℕ → ℕ → ℕ
deltas_at outputs n osize = outputs + n * osize

abbrev pub inputs_at : ℕ → ℕ → ℕ → ℕ → ℕ
inputs_at outputs n osize tsize = deltas_at outputs n osize + n * tsize

-- ---- what is stored: last transition first, given here first transition first

-- f (n - 1), .., f 0
unfoldable pub down_from : (ℕ → ℕ) → ℕ → List ℕ
down_from f zero = []
down_from f (suc n) = f n ∷ down_from f n

-- n bytes from place at of s
unfoldable pub bytes_down : List ℕ → ℕ → ℕ → List ℕ
unfolding down_from
bytes_down s at n = down_from (λ j. get_or s (at + j) 0) n

-- n numbers of k bytes from place at of s
unfoldable pub numbers_down : List ℕ → ℕ → ℕ → ℕ → List ℕ
unfolding down_from
numbers_down s at k n = down_from (λ j. le (take k (drop (at + j * k) s))) n

-- a node with one transition has its input elsewhere
abbrev pub inputs_in : State → List ℕ → ℕ → ℕ → ℕ → List ℕ
inputs_in OneTransNext s at n inp = inp ∷ []
inputs_in OneTrans s at n inp = inp ∷ []
inputs_in AnyTrans s at n inp = bytes_down s at n

-- the form 11 stores no delta: its target is F - 1
abbrev pub deltas_in : State → List ℕ → ℕ → ℕ → ℕ → List ℕ
deltas_in OneTransNext s at k n = 1 ∷ []
deltas_in OneTrans s at k n = numbers_down s at k n
deltas_in AnyTrans s at k n = numbers_down s at k n

-- delta 0 is target 0; otherwise the target is F less the delta
abbrev pub target_of : ℕ → ℕ → ℕ
target_of first d = cond (eqb d 0) 0 (first - d)

-- ---- the meaning

pub record Node : Type 0 where
  pub first : ℕ
  pub final : Bool
  pub final_output : ℕ
  pub transitions : List Transition

-- one transition for each input, with its output and its target
unfoldable pub transitions_of : List ℕ → List ℕ → List ℕ → List Transition
transitions_of [] os ts = []
transitions_of (b ∷ bs) [] ts = []
transitions_of (b ∷ bs) (o ∷ os) [] = []
transitions_of (b ∷ bs) (o ∷ os) (t ∷ ts) = record { inp = b; out = o; addr = t } ∷ transitions_of bs os ts

-- the transitions of a node of this state, first byte, count, sizes and input, whose outputs start at the place outputs
abbrev pub stored_transitions : List ℕ → State → ℕ → ℕ → ℕ → ℕ → ℕ → ℕ → List Transition
stored_transitions s state first n tsize osize inp outputs =
    transitions_of (inputs_in state s (inputs_at outputs n osize tsize) n inp) (numbers_down s outputs osize n)
    (map (target_of first) (deltas_in state s (deltas_at outputs n osize) tsize n))

-- the inputs, deltas and index entries of a node of this shape and first byte
abbrev pub shape_inputs : List ℕ → ℕ → Shape → ℕ → List ℕ
shape_inputs s a h first = inputs_in h.state s (inputs_at (outputs_at first h.final h.osize) h.ntrans h.osize h.tsize) h.ntrans (input_of s a)

abbrev pub shape_deltas : List ℕ → Shape → ℕ → List ℕ
shape_deltas s h first = deltas_in h.state s (deltas_at (outputs_at first h.final h.osize) h.ntrans h.osize) h.tsize h.ntrans

abbrev pub shape_entries : List ℕ → Shape → ℕ → List ℕ
shape_entries s h first =
    take 256 (drop (inputs_at (outputs_at first h.final h.osize) h.ntrans h.osize h.tsize + h.ntrans) s)

abbrev pub shape_node : List ℕ → ℕ → Shape → ℕ → Node
shape_node s a h first = record {
  first = first;
  final = h.final;
  final_output = le (take (end_len h.final h.osize) (drop first s));
  transitions = stored_transitions s h.state first h.ntrans h.tsize h.osize (input_of s a) (outputs_at first h.final h.osize);
}

unfoldable pub node_of : List ℕ → ℕ → ℕ → Node
node_of s v a = shape_node s a (shape_of s v a) (first_of s v a)

-- ---- soundness

-- each byte is below the next
unfoldable pub Ascending : List ℕ → Type 0
Ascending bs = (i : ℕ) → i + 1 < length bs → get_or bs i 0 < get_or bs (i + 1) 0

unfoldable pub Absent : ℕ → List ℕ → Type 0
Absent b bs = (i : ℕ) → i < length bs → ¬ (get_or bs i 0 ≡ b)

-- an entry is the place of its byte, or at least the transition count if the byte is absent
pub record Indexed (bs es : List ℕ) : Type 0 where
  pub present : (i : ℕ) → i < length bs → get_or es (get_or bs i 0) 0 ≡ i
  pub absent : (b : ℕ) → b < 256 → Absent b bs → length bs ≤ get_or es b 0

-- sizes are at most 8, and a stored delta has at least 1 byte
abbrev pub stores_deltas : State → Bool
stores_deltas OneTransNext = false
stores_deltas OneTrans = true
stores_deltas AnyTrans = true

pub record SizesRight (state : State) (n tsize osize : ℕ) : Type 0 where
  pub tsize_le : tsize ≤ 8
  pub osize_le : osize ≤ 8
  pub tsize_pos : stores_deltas state ≡ true → 0 < n → 0 < tsize

-- a delta does not reach below 0, and a target other than 0 lies from 16 to F - 1
pub record TargetRight (first d : ℕ) : Type 0 where
  pub reach : d ≤ first
  pub low : ¬ (target_of first d ≡ 0) → first_node ≤ target_of first d
  pub high : ¬ (target_of first d ≡ 0) → target_of first d < first

unfoldable pub TargetsRight : ℕ → List ℕ → Type 0
TargetsRight first ds = (i : ℕ) → i < length ds → TargetRight first (get_or ds i 0)

-- final, or with a transition, or the root
unfoldable pub Useful : Bool → ℕ → ℕ → ℕ → Type 0
Useful final n a root = (final ≡ true) ⊎ ((0 < n) ⊎ (a ≡ root))

pub record SoundShape (s : List ℕ) (root a : ℕ) (h : Shape) (first : ℕ) : Type 0 where
  -- all its bytes lie in the file, to the root, from 16
  pub inside : a < length s
  pub below : a ≤ root
  pub above : first_node + h.size ≤ a + 1
  pub sizes : SizesRight h.state h.ntrans h.tsize h.osize
  pub ascending : Ascending (shape_inputs s a h first)
  pub entries : ¬ (h.indexed ≡ 0) → Indexed (shape_inputs s a h first) (shape_entries s h first)
  pub targets : TargetsRight first (shape_deltas s h first)
  pub useful : Useful h.final h.ntrans a root

abbrev pub SoundAt : List ℕ → ℕ → ℕ → ℕ → Type 0
SoundAt s v root a = SoundShape s root a (shape_of s v a) (first_of s v a)

-- ---- soundness as a test that computes; NodeLaws, `decides_sound`, shows that it decides `SoundAt`

abbrev pub ascending_test : List ℕ → Bool
ascending_test bs = all_below (λ i. ltb (get_or bs i 0) (get_or bs (i + 1) 0)) (length bs - 1)

abbrev pub absent_test : ℕ → List ℕ → Bool
absent_test b bs = all_below (λ i. not (eqb (get_or bs i 0) b)) (length bs)

abbrev pub indexed_test : List ℕ → List ℕ → Bool
indexed_test bs es =
    all_below (λ i. eqb (get_or es (get_or bs i 0) 0) i) (length bs) && all_below (λ b. implies (absent_test b bs) (leb (length bs) (get_or es b 0))) 256

abbrev pub sizes_test : State → ℕ → ℕ → ℕ → Bool
sizes_test state n tsize osize = leb tsize 8 && (leb osize 8 && implies (stores_deltas state) (implies (ltb 0 n) (ltb 0 tsize)))

abbrev pub target_test : ℕ → ℕ → Bool
target_test first d =
    leb d first
    && implies (not (eqb (target_of first d) 0)) (leb first_node (target_of first d) && ltb (target_of first d) first)

abbrev pub shape_test : List ℕ → ℕ → ℕ → Shape → ℕ → Bool
shape_test s root a h first =
    ltb a (length s)
    && (leb a root
    && (leb (first_node + h.size) (a + 1)
    && (sizes_test h.state h.ntrans h.tsize h.osize
    && (ascending_test (shape_inputs s a h first)
    && (implies (not (eqb h.indexed 0)) (indexed_test (shape_inputs s a h first) (shape_entries s h first))
    && (all_below (λ i. target_test first (get_or (shape_deltas s h first) i 0)) (length (shape_deltas s h first))
    && (h.final || (ltb 0 h.ntrans || eqb a root))))))))

unfoldable pub sound_test : List ℕ → ℕ → ℕ → ℕ → Bool
sound_test s v root a = shape_test s root a (shape_of s v a) (first_of s v a)

-- ---- the node at an address

-- what judging a node says
pub data Judgement : Type 0 where
  sound : Node → Judgement
  unsound : Judgement

-- address 0 of a file that has bytes: a final node with no transitions, output 0 and no bytes
abbrev pub empty_final : Node
empty_final = record { first = 0; final = true; final_output = 0; transitions = [] }

-- a file without bytes has no node, at address 0 neither
unfoldable pub node_at : List ℕ → ℕ → ℕ → ℕ → Judgement
node_at s v root a =
    cond (eqb a 0) (cond (eqb (length s) 0) unsound (sound empty_final)) (cond (sound_test s v root a) (sound (node_of s v a)) unsound)

-- ---- the place of an input

pub data Place : Type 0 where
  at : ℕ → Place
  absent : Place

unfoldable pub find_from : ℕ → List Transition → ℕ → Place
find_from i [] b = absent
find_from i (t ∷ ts) b = cond (eqb t.inp b) (at i) (find_from (i + 1) ts b)

-- how many transitions come before the first whose input is above b
unfoldable pub first_above : List Transition → ℕ → ℕ
first_above [] b = 0
first_above (t ∷ ts) b = cond (ltb b t.inp) 0 (suc (first_above ts b))

-- the place of a byte, or, where it is absent, the place of the first greater input
pub data Search : Type 0 where
  at : ℕ → Search
  absent : ℕ → Search

abbrev pub search_of : Place → ℕ → Search
search_of (Place.at i) p = Search.at i
search_of Place.absent p = Search.absent p

abbrev pub find_input : List Transition → ℕ → Search
find_input ts b = search_of (find_from 0 ts b) (first_above ts b)

pub record Gap (n : ℕ) (x : ℕ → ℕ) (b p : ℕ) : Type 0 where
  pub within : p ≤ n
  pub below : (i : ℕ) → i < p → x i < b
  pub above : (i : ℕ) → p ≤ i → i < n → b < x i

-- the transition at a place; a default that no place of ts reaches
abbrev pub transition_at : List Transition → ℕ → Transition
transition_at ts i = get_or ts i (record { inp = 0; out = 0; addr = 0 })
