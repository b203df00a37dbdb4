-- What a node that is made of a sound one says of the node at its address.
-- Assumes nothing.
use Rattle.std.specs.Prelude.{Ok}
use mathlib.Core.Path.{◌≡◌, sym}
use mathlib.Core.List.{List}
use Prim.Native.Nat.{ℕ, ◌≤◌, ◌<◌}
use native.Mathlib.Omega.{arith}
use lib.ListN.{length}
use Rattle.format.specs.Node.{sound}
use Rattle.format.specs.Paths.{fst_with, node_in}
use Rattle.format.specs.Laws.NodeFacts.{node_target_lt}
use Rattle.node.specs.declared.Node.{Node}
use Rattle.node.specs.Read.{meaning, Judges, transitions_in}
use Rattle.counting_node.specs.CountNodes.{Inside}

module _ {s : List ℕ} {v root a : ℕ} {m : Node} (j : Judges s v root a (Ok m)) where
  node_is : node_in (fst_with s v root) a ≡ sound (meaning s m)
  node_is = sym j.answer

  -- its targets lie below it
  pub targets_inside : {c : List ℕ} → a < length s → length s ≤ length c → Inside c (transitions_in s m)
  targets_inside l room =
      record { each = λ t mem. omega (arith, node_target_lt (fst_with s v root) a (meaning s m) node_is t mem) }
