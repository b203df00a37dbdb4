-- What judging a node and reading it say of the node at its address.
-- Assumes nothing.
use mathlib.Core.Path.{◌≡◌, sym, ap, ◌∙◌}
use mathlib.Core.List.{List}
use Prim.Native.Nat.{ℕ}
use Rattle.format.specs.Node.{sound}
use Rattle.format.specs.Paths.{node_in, fst_with}
use Rattle.node.specs.declared.Node.{Node}
use Rattle.node.specs.declared.Unsound.{Unsound}
use Rattle.std.specs.Prelude.{Result, Ok}
use Rattle.node.specs.Read.{meaning, judged_is, Judges}

module _ {s : List ℕ} {v root a : ℕ} {r : Result Node Unsound} (j : Judges s v root a r) where
  pub judged_sound : (m : Node) → r ≡ Ok m → node_in (fst_with s v root) a ≡ sound (meaning s m)
  judged_sound m e = sym j.answer ∙ ap (judged_is s) e
