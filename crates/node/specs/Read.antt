-- What the answers of this crate stand for, and what its functions ask and promise; the format itself is in `format`.
--     transitions_in s m       the transitions of the judged node m, out of the file s
--     judged_is s r            what an answer says: the node's meaning, or that it is not sound
--     node_parts m            where the parts of the judged node m stand
--     Readable s m            what reading the judged node m leans on
--     Judges s v root a r     the answer r is `node_at`, and a node that it hands out can be read
--     search_is r              what an answer says of the place of an input
--     Searchable, Finds       what finding an input asks and answers
-- Assumes nothing.
use Rattle.std.specs.Prelude.{Result, Ok, Err, ◌≡◌, true, false, List, ℕ, ◌+◌, ◌≤◌, ◌<◌, length, get_or, take, drop}
use Rattle.format.specs.declared.State.TheVariants.{AnyTrans}
use Rattle.format.specs.declared.Transition.{Transition}
use Rattle.format.specs.Node as F
use Rattle.format.specs.Node.{inputs_len, inputs_in, deltas_in, inputs_at, deltas_at, stored_transitions, Absent, Indexed, TargetsRight, Judgement, sound, unsound, node_at, Search, Gap}
use Rattle.node_sound.specs.Shapes.{is_any}
use Rattle.node_sound.specs.declared.Parts.{Parts}
use Rattle.node.specs.declared.Node.{Node}
use Rattle.node.specs.declared.Unsound.{Unsound}

-- ---- what the answers say

abbrev pub transitions_in : List ℕ → Node → List Transition
transitions_in s m = stored_transitions s m.state m.first m.ntrans m.tsize m.osize m.input m.outputs

abbrev pub meaning : List ℕ → Node → F.Node
meaning s m = record {
  first = m.first;
  final = m.is_final;
  final_output = m.final_output;
  transitions = transitions_in s m;
}

abbrev pub judged_is : List ℕ → Result Node Unsound → Judgement
judged_is s (Ok m) = sound (meaning s m)
judged_is s (Err _) = unsound

abbrev pub search_is : Result ℕ ℕ → Search
search_is (Ok i) = Search.at i
search_is (Err p) = Search.absent p

-- ---- what reading a judged node leans on

-- where its parts stand
abbrev pub node_parts : Node → Parts
node_parts m = record {
  is_final = m.is_final;
  first = m.first;
  outputs = m.outputs;
  ntrans = m.ntrans;
  tsize = m.tsize;
  osize = m.osize;
  index_len = m.index_len;
}

abbrev pub node_inputs : List ℕ → Node → List ℕ
node_inputs s m = inputs_in m.state s (inputs_at m.outputs m.ntrans m.osize m.tsize) m.ntrans m.input

abbrev pub node_deltas : List ℕ → Node → List ℕ
node_deltas s m = deltas_in m.state s (deltas_at m.outputs m.ntrans m.osize) m.tsize m.ntrans

abbrev pub node_entries : List ℕ → Node → List ℕ
node_entries s m = take 256 (drop (inputs_at m.outputs m.ntrans m.osize m.tsize + m.ntrans) s)

pub record Readable (s : List ℕ) (m : Node) : Type 0 where
  pub room : inputs_at m.outputs m.ntrans m.osize m.tsize + inputs_len m.state m.ntrans + m.index_len ≤ length s
  pub tsize_le : m.tsize ≤ 8
  pub osize_le : m.osize ≤ 8
  pub single : is_any m.state ≡ false → m.ntrans ≡ 1
  pub ascending : F.Ascending (node_inputs s m)
  pub targets : TargetsRight m.first (node_deltas s m)
  pub entries_len : ¬ (m.index_len ≡ 0) → m.index_len ≡ 256
  pub entries : ¬ (m.index_len ≡ 0) → Indexed (node_inputs s m) (node_entries s m)

pub record Judges (s : List ℕ) (v root a : ℕ) (r : Result Node Unsound) : Type 0 where
  pub answer : judged_is s r ≡ node_at s v root a
  pub readable : (m : Node) → r ≡ Ok m → Readable s m

-- address 0
abbrev pub empty_node : Node
empty_node = record {
  state = AnyTrans;
  first = 0;
  is_final = true;
  ntrans = 0;
  tsize = 0;
  osize = 0;
  index_len = 0;
  final_output = 0;
  input = 0;
  outputs = 0;
}

-- ---- what finding an input asks and answers

-- what finding one of n inputs from place at on leans on
pub record Searchable (s : List ℕ) (at n entries : ℕ) : Type 0 where
  pub room : at + n + entries ≤ length s
  pub ascending : F.Ascending (F.bytes_down s at n)
  pub entries_len : ¬ (entries ≡ 0) → entries ≡ 256
  pub index : ¬ (entries ≡ 0) → Indexed (F.bytes_down s at n) (take 256 (drop (at + n) s))

-- a place of b in bs, or the place of the first that is above it
pub record Finds (bs : List ℕ) (b : ℕ) (r : Result ℕ ℕ) : Type 0 where
  pub found : (i : ℕ) → r ≡ Ok i → (i < length bs) × (get_or bs i 0 ≡ b)
  pub missing : (p : ℕ) → r ≡ Err p → Gap (length bs) (λ i. get_or bs i 0) b p
