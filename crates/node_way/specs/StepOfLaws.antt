-- One step of a lookup by key: where an input leads from a node, and what each way out of the judging functions says.
-- Assumes nothing.
use Rattle.std.specs.Prelude.{Result, Ok, Err, ◌≡◌, refl, List, ℕ, ◌<◌, length, get_or}
use Rattle.std.proofs.Common.{sym, ap, ◌∙◌, arith}
use Rattle.format.specs.Node as F
use Rattle.format.specs.Node.{numbers_down, target_of, Absent, SoundAt, node_at, find_input, Search}
use Rattle.format.specs.Laws.NodeLaws.{node_at_unsound, node_at_blank}
use Rattle.node.specs.declared.Node.{Node}
use Rattle.node.specs.Read.{Readable, Judges, transitions_in, node_inputs, node_deltas, search_is, Finds, empty_node}
use Rattle.node_way.specs.Ways.{way_at, way_in, step_of}
use Rattle.node.specs.ReadLaws.{finds_missing, node_find, node_transition, length_node_inputs}
use Rattle.node.specs.JudgedLaws.{judged_empty}

-- ---- where an input leads from a node that can be read

module _ (s : List ℕ) (m : Node) (r : Readable s m) (b : ℕ) (f : Result ℕ ℕ) (h : Finds (node_inputs s m) b f) where
  pub way_absent : (p : ℕ) → f ≡ Err p → Err p ≡ way_in (transitions_in s m) b
  way_absent p e =
      let place : Search.absent p ≡ find_input (transitions_in s m) b = sym (ap search_is e) ∙ node_find s m r b f h in
      rw (← place)

  pub place_lt : (i : ℕ) → f ≡ Ok i → i < m.ntrans
  place_lt i e = omega (arith, (h.found i e).0, length_node_inputs s m r)

  pub way_to : (i out target : ℕ) → f ≡ Ok i → out ≡ get_or (numbers_down s m.outputs m.osize m.ntrans) i 0
      → target ≡ target_of m.first (get_or (node_deltas s m) i 0) → Ok (out, target) ≡ way_in (transitions_in s m) b
  way_to i out target e is_out is_target =
      let place : Search.at i ≡ find_input (transitions_in s m) b = sym (ap search_is e) ∙ node_find s m r b f h in
      rw (← place, node_transition s m r i (place_lt i e), is_out, is_target)

module _ (s : List ℕ) (m : Node) (r : Readable s m) (b : ℕ) where
  pub way_at_is : (f : Result ℕ ℕ) → Finds (node_inputs s m) b f
      → way_at m.first (numbers_down s m.outputs m.osize m.ntrans) (node_deltas s m) f ≡ way_in (transitions_in s m) b
  way_at_is (Ok i) h = way_to s m r b (Ok i) h i _ _ refl refl refl
  way_at_is (Err p) h = way_absent s m r b (Err p) h p refl

-- ---- the answers

module _ (s : List ℕ) (v root a b : ℕ) where
  pub step_no : ¬ (a ≡ 0) → ¬ SoundAt s v root a → Err (record {}) ≡ step_of (node_at s v root a) b
  step_no ne not_sound = rw (node_at_unsound s v root a ne not_sound)

  pub step_yes : (m : Node) (w : Result (ℕ × ℕ) ℕ) → Judges s v root a (Ok m) → w ≡ way_in (transitions_in s m) b → Ok w ≡ step_of (node_at s v root a) b
  step_yes m w j is_w = rw (← j.answer, is_w)

-- no bytes, no node
pub step_blank : (s : List ℕ) (v root a b : ℕ) → length s ≡ 0 → Err (record {}) ≡ step_of (node_at s v root a) b
step_blank s v root a b z = rw (node_at_blank s v root a z)

-- address 0 has no transition
pub step_empty : (s : List ℕ) (v root b : ℕ) → ¬ (length s ≡ 0) → Ok (Err 0) ≡ step_of (node_at s v root 0) b
unfolding F.bytes_down F.down_from Absent
step_empty s v root b some =
    let j = judged_empty s v root (omega arith) in
    step_yes s v root 0 b empty_node (Err 0) j
    (way_absent s empty_node (j.readable empty_node refl) b (Err 0)
    (finds_missing 0 (record { within = omega arith; below = λ i l. absurd (omega arith); above = λ i l m. absurd (omega arith) })) 0 refl)
