-- What a judged node says of one of its transitions.
-- Assumes nothing.
use Rattle.std.proofs.Common.{◌≡◌, ap, List, ℕ, ◌≤◌, ◌<◌, length, arith}
use Rattle.std.specs.Prelude.{Result, Ok, Err, Some, None}
use Rattle.std.specs.Result.{result_ok}
use borrow.Author.Tests.{lt-ltb, le-ltb}
use Rattle.format.specs.declared.Transition.{Transition}
use Rattle.format.specs.Node.{node_at, transition_at}
use Rattle.node.specs.declared.Node.{Node}
use Rattle.node.specs.declared.Unsound.{Unsound}
use Rattle.node.specs.Read.{Judges, transitions_in}
use Rattle.node.specs.ReadLaws.{answer_sound, length_node_transitions}
use Rattle.node_view.specs.View.{transition_in}

-- a judged node that `ok` leaves
pub ok_is : (r : Result Node Unsound) (m : Node) → Some m ≡ result_ok r → r ≡ Ok m
ok_is (Ok n) m e = cc
ok_is (Err u) m e = absurd (let z : ◌≡◌ {A = ℕ} 0 1 = cc in omega arith)

module _ {s : List ℕ} {v root a : ℕ} {r : Result Node Unsound} (j : Judges s v root a r) (m : Node) (e : r ≡ Ok m) where
  pub transition_in_at : (i : ℕ) (t : Transition) → i < m.ntrans → t ≡ transition_at (transitions_in s m) i → Some t ≡ transition_in (node_at s v root a) i
  transition_in_at i t l is =
      let lt : i < length (transitions_in s m) = omega (arith, length_node_transitions s m (j.readable m e)) in
      rw (answer_sound j m e, lt-ltb i (length (transitions_in s m)) lt) (ap Some is)

  pub transition_in_past : (i : ℕ) → m.ntrans ≤ i → None ≡ transition_in (node_at s v root a) i
  transition_in_past i past =
      let le : length (transitions_in s m) ≤ i = omega (arith, length_node_transitions s m (j.readable m e)) in
      rw (answer_sound j m e, le-ltb i (length (transitions_in s m)) le)
