-- Laws of `Ready`: a node that was judged and has a transition i.
--     ready_length, ready_place      the transition is one of the node's, and its place fits 8 bits
--     ready_target                   its target lies below the root
-- Assumes nothing.
use Rattle.std.specs.Prelude.{ℕ, ◌<◌, List, length, get_or}
use Rattle.std.proofs.Common.{arith}
use Rattle.format.specs.Node.{transition_at}
use Rattle.format.specs.Laws.NodeFacts.{node_count}
use Rattle.format.specs.Laws.LiveLaws.{target_below_root}
use Rattle.format.specs.Laws.TransitionLaws.{at_member}
use Rattle.format.specs.Paths.{fst_with}
use Rattle.node.specs.declared.Node.{Node}
use Rattle.node.specs.Read.{meaning, transitions_in}
use Rattle.node.specs.ReadLaws.{length_node_transitions}
use Rattle.stream_pop.specs.Pops.{Ready}

module _ {s : List ℕ} {v root a i : ℕ} {m : Node} (r : Ready s v root a i m) where
  pub ready_length : i < length (transitions_in s m)
  ready_length = omega (arith, r.next, length_node_transitions s m r.readable)

  pub ready_place : ((j : ℕ) → get_or s j 0 < 256) → i < 256
  ready_place bytes = omega (arith, ready_length, node_count (fst_with s v root) a (meaning s m) r.node bytes)

  pub ready_target : (transition_at (transitions_in s m) i).addr < root
  ready_target =
      target_below_root (fst_with s v root) a (meaning s m) (transition_at (transitions_in s m) i) r.node (at_member (transitions_in s m) i ready_length)
