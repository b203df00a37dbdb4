-- Laws of `Ways`: what a step says to a caller, and a node that is read for its transitions alone.
-- Assumes nothing.
use Rattle.std.specs.Prelude.{Result, Ok, Err, ◌≡◌, refl, List, ℕ}
use Rattle.std.proofs.Common.{ap, ◌∙◌, arith}
use Rattle.format.specs.declared.Transition.{Transition}
use Rattle.format.specs.Node as F
use Rattle.format.specs.Node.{transition_at, find_input, Search, Judgement, sound, unsound}
use Rattle.node_way.specs.Ways.{parts_node, any_node, way_as, way_in, step_of}
use Rattle.node_sound.specs.declared.Parts.{Parts}
use Rattle.node.specs.Read.{Readable}

pub step_sound : (j : Judgement) (b : ℕ) (w : Result (ℕ × ℕ) ℕ) → Ok w ≡ step_of j b → (m : F.Node) × ((j ≡ sound m) × (w ≡ way_in m.transitions b))
step_sound (sound m) b w e = (m, (refl, cc))
step_sound unsound b w e = absurd (let z : ◌≡◌ {A = ℕ} 0 1 = cc in omega arith)

pub step_stuck : (j : Judgement) (b : ℕ) → Err (record {}) ≡ step_of j b → j ≡ unsound
step_stuck (sound m) b e = absurd (let z : ◌≡◌ {A = ℕ} 0 1 = cc in omega arith)
step_stuck unsound b e = refl

-- the transition that an input leads along
pub way_found : (ts : List Transition) (b out target : ℕ) → Ok (out, target) ≡ way_in ts b
    → (i : ℕ) × ((find_input ts b ≡ Search.at i) × (out ≡ (transition_at ts i).out) × (target ≡ (transition_at ts i).addr))
way_found ts b out target e = go (find_input ts b) refl e
  where
    go : (p : Search) → find_input ts b ≡ p → Ok (out, target) ≡ way_as ts p
        → (i : ℕ) × ((find_input ts b ≡ Search.at i) × (out ≡ (transition_at ts i).out) × (target ≡ (transition_at ts i).addr))
    go (Search.at i) is_p e =
        let same : (out, target) ≡ ((transition_at ts i).out, (transition_at ts i).addr) = cc in
        (i, (is_p, ap (λ (p : ℕ × ℕ). p.0) same, ap (λ (p : ℕ × ℕ). p.1) same))
    go (Search.absent q) is_p e = absurd (let z : ◌≡◌ {A = ℕ} 0 1 = cc in omega arith)

pub way_none : (ts : List Transition) (b p : ℕ) → Err p ≡ way_in ts b → find_input ts b ≡ Search.absent p
way_none ts b p e = go (find_input ts b) refl e
  where
    go : (r : Search) → find_input ts b ≡ r → Err p ≡ way_as ts r → find_input ts b ≡ Search.absent p
    go (Search.at i) is_r e = absurd (let z : ◌≡◌ {A = ℕ} 0 1 = cc in omega arith)
    go (Search.absent q) is_r e = let same : q ≡ p = cc in is_r ∙ ap Search.absent same

-- the transitions do not depend on the final output
pub readable_any : (s : List ℕ) (p : Parts) (final_output : ℕ) → Readable s (parts_node p final_output) → Readable s (any_node p)
readable_any s p final_output r = record {
  room = r.room;
  tsize_le = r.tsize_le;
  osize_le = r.osize_le;
  single = r.single;
  ascending = r.ascending;
  targets = r.targets;
  entries_len = r.entries_len;
  entries = r.entries;
}
