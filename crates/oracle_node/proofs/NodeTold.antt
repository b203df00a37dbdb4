-- What the exported functions tell, from what judging the node answered, and from what a view of it says.
-- Assumes nothing.
use Rattle.std.specs.Prelude.{Result, Ok, Err, Some, None, Bool, true, false, cond, ℕ, ◌≤◌, ◌<◌, ltb, get_or}
use mathlib.Core.Path.{◌≡◌, refl, sym, ◌∙◌}
use mathlib.Core.List.{List, [], ◌∷◌}
use native.Mathlib.Omega.{arith}
use borrow.Author.Tests.{le-leb, lt-leb}
use lib.ListN.{length}
use Rattle.format.specs.declared.Transition.{Transition}
use Rattle.format.specs.Node.{Node, Judgement, sound, unsound, Search, node_at, transition_at, find_input}
use Rattle.format.specs.Paths.{Fst, node_in}
use Rattle.format.specs.Laws.NodeFacts.{node_count}
use Rattle.format.specs.Laws.TransitionLaws.{find_input_le}
use Rattle.node.specs.declared.Node as N
use Rattle.node.specs.declared.Unsound.{Unsound}
use Rattle.node.specs.Read.{meaning, Judges}
use Rattle.node.specs.ReadLaws.{length_node_transitions}
use Rattle.node_view.specs.View.{transition_in, search_as, place_in}
use Rattle.node_view.specs.declared.Node as V
use Rattle.oracle_node.proofs.NodeFront.{front_short}
use Rattle.oracle_numbers.specs.Numbers.{front}
use Rattle.oracle_node.specs.NodeTells.{flag_as, transition_numbers, NodeTold, TransitionTold}

-- ---- a judged node

-- the node that a view is of
abbrev pub viewed : V.Node → Judgement
viewed w = node_at w.fst.bytes.now w.fst.version w.fst.root w.addr

module _ {s : List ℕ} {v root a : ℕ} {j : Result N.Node Unsound} (judged : Judges s v root a j) where
  is_sound : (m : N.Node) → j ≡ Ok m → node_at s v root a ≡ sound (meaning s m)
  is_sound m e = sym judged.answer ∙ rw e

  pub node_sound : (m : N.Node) (flag : ℕ) (out₀ out : List ℕ) → j ≡ Ok m → flag ≡ flag_as m.is_final
      → out ≡ front (m.first ∷ (flag ∷ (m.final_output ∷ (m.ntrans ∷ [])))) out₀
      → NodeTold (node_at s v root a) out₀ out 1
  node_sound m flag out₀ out e is_flag is =
      let count = length_node_transitions s m (judged.readable m e) in
      rw (is_sound m e) (record { answer = refl; buffer = is ∙ rw (count, is_flag) })

-- ---- a transition of a node

pub transition_none : (j : Judgement) (i : ℕ) (out : List ℕ) → transition_in j i ≡ None → TransitionTold j i out out 0
transition_none unsound i out e = record { answer = refl; buffer = refl }
transition_none (sound m) i out e = go (ltb i (length m.transitions)) refl e
  where
    go : (b : Bool) → ltb i (length m.transitions) ≡ b → cond b (Some (transition_at m.transitions i)) None ≡ None → TransitionTold (sound m) i out out 0
    go true h p = absurd (let z : ◌≡◌ {A = ℕ} 0 1 = cc in omega arith)
    go false h p = record { answer = rw h; buffer = rw h }

pub transition_no_room : (j : Judgement) (i : ℕ) (t : Transition) (out : List ℕ) → transition_in j i ≡ Some t → length out < 3 → TransitionTold j i out out 0
transition_no_room unsound i t out e short = absurd (let z : ◌≡◌ {A = ℕ} 0 1 = cc in omega arith)
transition_no_room (sound m) i t out e short = go (ltb i (length m.transitions)) refl
  where
    go : (b : Bool) → ltb i (length m.transitions) ≡ b → TransitionTold (sound m) i out out 0
    go true h = record {
      answer = rw (h, lt-leb 3 (length out) short);
      buffer = rw h (front_short (transition_numbers (transition_at m.transitions i)) out short);
    }
    go false h = record { answer = rw h; buffer = rw h }

pub transition_told : (j : Judgement) (i : ℕ) (t : Transition) (out₀ out : List ℕ) → transition_in j i ≡ Some t → 3 ≤ length out₀
    → out ≡ front (transition_numbers t) out₀ → TransitionTold j i out₀ out 1
transition_told unsound i t out₀ out e room is = absurd (let z : ◌≡◌ {A = ℕ} 0 1 = cc in omega arith)
transition_told (sound m) i t out₀ out e room is = go (ltb i (length m.transitions)) refl e
  where
    go : (b : Bool) → ltb i (length m.transitions) ≡ b → cond b (Some (transition_at m.transitions i)) None ≡ Some t → TransitionTold (sound m) i out₀ out 1
    go true h p =
        let same : transition_at m.transitions i ≡ t = cc in
        record { answer = rw (h, le-leb 3 (length out₀) room); buffer = rw h (is ∙ rw same) }
    go false h p = absurd (let z : ◌≡◌ {A = ℕ} 0 1 = cc in omega arith)

-- ---- an input that is absent

-- the place of the first greater one is at most the number of transitions
pub absent_small : (f : Fst) (a b p : ℕ) → ((i : ℕ) → get_or f.bytes i 0 < 256) → place_in (node_in f a) b ≡ Ok (Err p) → p ≤ 256
absent_small f a b p bytes e = go (node_in f a) refl e
  where
    at : (m : Node) → node_in f a ≡ sound m → (q : Search) → find_input m.transitions b ≡ q → ◌≡◌ {A = Result (Result ℕ ℕ) Unsound} (Ok (search_as q)) (Ok (Err p)) → p ≤ 256
    at m is (Search.at i) h w = absurd (let z : ◌≡◌ {A = ℕ} 0 1 = cc in omega arith)
    at m is (Search.absent q) h w =
        let same : q ≡ p = cc in
        omega (arith, same, find_input_le m.transitions b q h, node_count f a m is bytes)

    go : (j : Judgement) → node_in f a ≡ j → place_in j b ≡ Ok (Err p) → p ≤ 256
    go unsound is w = absurd (let z : ◌≡◌ {A = ℕ} 0 1 = cc in omega arith)
    go (sound m) is w = at m is (find_input m.transitions b) refl w
