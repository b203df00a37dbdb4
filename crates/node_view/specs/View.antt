-- A view of a node, and what it answers, out of what the node at its address means (`format`, `node_at`).
--     view_with fst a             the view of the node at a
--     transition_in j i         transition i of the judged node, or none where it is not sound or has no transition i
--     place_in j b              the place of the byte b among its inputs, or of the first greater one; a case of its own where it is not sound
-- Assumes nothing.
use Rattle.std.specs.Prelude.{Option, Some, None, Result, Ok, Err, cond, ℕ, ltb, length}
use Rattle.format.specs.declared.FstRef.{FstRef}
use Rattle.format.specs.declared.Transition.{Transition}
use Rattle.format.specs.Node.{Judgement, sound, unsound, Search, transition_at, find_input}
use Rattle.node.specs.declared.Unsound.{Unsound}
use Rattle.node_view.specs.declared.Node.{Node}

abbrev pub view_with : FstRef → ℕ → Node
view_with fst a = record { fst = fst; addr = a }

abbrev pub transition_in : Judgement → ℕ → Option Transition
transition_in (sound m) i = cond (ltb i (length m.transitions)) (Some (transition_at m.transitions i)) None
transition_in unsound i = None

abbrev pub search_as : Search → Result ℕ ℕ
search_as (Search.at i) = Ok i
search_as (Search.absent p) = Err p

abbrev pub place_in : Judgement → ℕ → Result (Result ℕ ℕ) Unsound
place_in (sound m) b = Ok (search_as (find_input m.transitions b))
place_in unsound b = Err (record {})
