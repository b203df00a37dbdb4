-- One step of a lookup by key, as a definition over what judging a node says; and where finding an input leads in a node.
--     way_in ts b              where the input b leads among the transitions ts
--     way_at first outs ds f   where finding an input leads, by the outputs outs and the deltas ds
--     PlaceRight first ds n f  what is asked of it: a place is one of n, with a delta that is not above the first byte
--     step_of j b              one step of a lookup by key, from what judging says
--     parts_node p n, any_node p   a node with the parts p: with the final output n, or for its transitions alone
-- Assumes nothing.
use Rattle.std.specs.Prelude.{Result, Ok, Err, ◌≡◌, List, ℕ, ◌≤◌, ◌<◌, get_or}
use Rattle.format.specs.declared.State.TheVariants.{AnyTrans}
use Rattle.format.specs.declared.Transition.{Transition}
use Rattle.format.specs.Node as F
use Rattle.format.specs.Node.{Judgement, sound, unsound, Search}
use Rattle.node_sound.specs.declared.Parts.{Parts}
use Rattle.node.specs.declared.Node.{Node}
use Rattle.node.specs.declared.Unsound.{Unsound}

-- where b leads among these transitions
abbrev pub way_as : List Transition → Search → Result (ℕ × ℕ) ℕ
way_as ts (Search.at i) = Ok ((F.transition_at ts i).out, (F.transition_at ts i).addr)
way_as ts (Search.absent p) = Err p

abbrev pub way_in : List Transition → ℕ → Result (ℕ × ℕ) ℕ
way_in ts b = way_as ts (F.find_input ts b)

-- where finding an input leads, by the outputs and the deltas of a node with this first byte
abbrev pub way_at : ℕ → List ℕ → List ℕ → Result ℕ ℕ → Result (ℕ × ℕ) ℕ
way_at first outs deltas (Ok i) = Ok (get_or outs i 0, F.target_of first (get_or deltas i 0))
way_at first outs deltas (Err p) = Err p

-- a place that was found is one of n, and its delta is not above the first byte
pub record PlaceRight (first : ℕ) (deltas : List ℕ) (n : ℕ) (f : Result ℕ ℕ) : Type 0 where
  pub inside : (i : ℕ) → f ≡ Ok i → i < n
  pub reach : (i : ℕ) → f ≡ Ok i → get_or deltas i 0 ≤ first

-- one step of a lookup by key, from what judging says
abbrev pub step_of : Judgement → ℕ → Result (Result (ℕ × ℕ) ℕ) Unsound
step_of (sound m) b = Ok (way_in m.transitions b)
step_of unsound b = Err (record {})

-- ---- a node with any number of transitions

-- the node with these parts and this final output
abbrev pub parts_node : Parts → ℕ → Node
parts_node p final_output = record {
  state = AnyTrans;
  first = p.first;
  is_final = p.is_final;
  ntrans = p.ntrans;
  tsize = p.tsize;
  osize = p.osize;
  index_len = p.index_len;
  final_output = final_output;
  input = 0;
  outputs = p.outputs;
}

-- with the final output left out as 0, which neither Readable nor transitions_in reads
abbrev pub any_node : Parts → Node
any_node p = parts_node p 0
