-- What this crate says of a node, against its judgement.
--     ending_of m, met_of j       whether a key ends at a node; what entering a node says
--     Entered f a               the node at a was judged, and is sound
--     Leads f a i               it is sound, and has a transition i
--     CountsAt, TakesAt         how many transitions a sound node has; its transition i
--     SoundTo f xs n            the first n addresses of a list are those of sound nodes
-- Assumes nothing.
use Rattle.std.specs.Prelude.{◌≡◌, cond, Result, Ok, Err, Option, Some, None, List, ℕ, ◌<◌, length, get_or}
use Rattle.format.specs.declared.Transition.{Transition}
use Rattle.format.specs.Node.{Node, Judgement, sound, unsound, transition_at}
use Rattle.format.specs.Paths.{Fst, node_in}
use Rattle.node.specs.declared.Unsound.{Unsound}

abbrev pub ending_of : Node → Option ℕ
ending_of m = cond m.final (Some m.final_output) None

abbrev pub met_of : Judgement → Result (Option ℕ) Unsound
met_of (sound m) = Ok (ending_of m)
met_of unsound = Err (record {})

pub record Entered (f : Fst) (a : ℕ) : Type 0 where
  pub node : Node
  pub is : node_in f a ≡ sound node

pub record Leads (f : Fst) (a i : ℕ) : Type 0 where
  pub node : Node
  pub is : node_in f a ≡ sound node
  pub has : i < length node.transitions

abbrev pub CountsAt : Fst → ℕ → ℕ → Type 0
CountsAt f a n = (m : Node) → node_in f a ≡ sound m → n ≡ length m.transitions

abbrev pub TakesAt : Fst → ℕ → ℕ → Transition → Type 0
TakesAt f a i t = (m : Node) → node_in f a ≡ sound m → t ≡ transition_at m.transitions i

abbrev pub SoundTo : Fst → List ℕ → ℕ → Type 0
SoundTo f xs n = (k : ℕ) → k < n → Entered f (get_or xs k 0)
