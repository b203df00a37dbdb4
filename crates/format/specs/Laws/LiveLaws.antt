-- Every node of a file's chain leads to a final node, except a root with no transition that is not final itself.
--     FinalFrom f a              a path from a to a final node
--     leads_to_final             from a node of the chain that is final or has a transition
--     target_leads_to_final      from what a transition of such a node leads to, which is never the root
-- Assumes nothing.
use Rattle.std.specs.Prelude.{◌≡◌, refl, true, ◌⊎◌, ℕ, zero, suc, ◌+◌, ◌≤◌, ◌<◌, length}
use Rattle.std.proofs.Common.{inl, inr, arith}
use mathlib.Core.List.{List, [], ◌∷◌, Memᴰ}
use Rattle.std.proofs.Math.Decide.{ℕ_discrete}
use Rattle.format.specs.declared.Transition.{Transition}
use Rattle.format.specs.Node.{Node, sound, empty_final, transition_at}
use Rattle.format.specs.Laws.NodeLaws.{node_at_zero, sound_not_empty}
use Rattle.format.specs.Laws.TransitionLaws.{at_member}
use Rattle.format.specs.Paths.{Fst, node_in, Path, here, follow}
use Rattle.format.specs.Admitted.{Nodes}
use Rattle.format.specs.Laws.NodeFacts.{node_zero_none, node_below, node_target_lt, node_useful}
use Rattle.format.specs.Laws.ChainLaws.{root_chain_low, root_chain_sound}

pub record FinalFrom (f : Fst) (a : ℕ) : Type 0 where
  pub key : List ℕ
  pub sum : ℕ
  pub to : ℕ
  pub last : Node
  pub path : Path f a key sum to
  pub ends : node_in f to ≡ sound last
  pub final : last.final ≡ true

-- a final node leads to itself, and a node to what its transitions lead to
pub final_here : (f : Fst) (a : ℕ) (m : Node) → node_in f a ≡ sound m → m.final ≡ true → FinalFrom f a
final_here f a m e is = record { key = []; sum = 0; to = a; last = m; path = here; ends = e; final = is }

-- address 0 is final where any node is sound
pub final_zero : (f : Fst) (a : ℕ) → 0 < length f.bytes → a ≡ 0 → FinalFrom f a
final_zero f a pos z = final_here f a empty_final (rw z (node_at_zero f.bytes f.version f.root pos)) refl

pub final_by : (f : Fst) (a : ℕ) (m : Node) (t : Transition) → node_in f a ≡ sound m → Memᴰ t m.transitions → FinalFrom f t.addr → FinalFrom f a
final_by f a m t e mem r =
    record {
      key = t.inp ∷ r.key;
      sum = t.out + r.sum;
      to = r.to;
      last = r.last;
      path = follow m t e mem r.path;
      ends = r.ends;
      final = r.final;
    }

-- a target lies below its node, and a node not above the root
pub target_below_root : (f : Fst) (a : ℕ) (m : Node) (t : Transition) → node_in f a ≡ sound m → Memᴰ t m.transitions → t.addr < f.root
target_below_root f a m t e mem = omega (arith, node_target_lt f a m e t mem, node_below f a m e (λ z. node_zero_none f a m e z t mem))

pub target_not_root : (f : Fst) (a : ℕ) (m : Node) (t : Transition) → node_in f a ≡ sound m → Memᴰ t m.transitions → ¬ (t.addr ≡ f.root)
target_not_root f a m t e mem z = omega (arith, target_below_root f a m t e mem)

-- only the root may be neither final nor have a transition
pub live_below_root : (f : Fst) (a : ℕ) (m : Node) → node_in f a ≡ sound m → ¬ (a ≡ 0) → ¬ (a ≡ f.root) → (m.final ≡ true) ⊎ (0 < length m.transitions)
live_below_root f a m e nz nr = go (node_useful f a m e nz)
  where
    go : (m.final ≡ true) ⊎ ((0 < length m.transitions) ⊎ (a ≡ f.root)) → (m.final ≡ true) ⊎ (0 < length m.transitions)
    go (inl h) = inl h
    go (inr (inl h)) = inr h
    go (inr (inr h)) = absurd (nr h)

module _ {f : Fst} {l : List ℕ} (nodes : Nodes f l) where
  leads_by : (a : ℕ) (m : Node) → node_in f a ≡ sound m → ((t : Transition) → Memᴰ t m.transitions → FinalFrom f t.addr)
      → (m.final ≡ true) ⊎ (0 < length m.transitions) → FinalFrom f a
  leads_by a m e below (inl is) = final_here f a m e is
  leads_by a m e below (inr pos) =
      let mem = at_member m.transitions 0 pos in
      final_by f a m (transition_at m.transitions 0) e mem (below (transition_at m.transitions 0) mem)

  -- from a target, where every live node of the chain below a leads to a final one
  target_by : (a : ℕ) → Memᴰ a l → (m : Node) → node_in f a ≡ sound m → (t : Transition) → Memᴰ t m.transitions
      → ((b : ℕ) → b < a → Memᴰ b l → (n : Node) → node_in f b ≡ sound n → (n.final ≡ true) ⊎ (0 < length n.transitions) → FinalFrom f b)
      → FinalFrom f t.addr
  target_by a on m e t mem below =
      elim (ℕ_discrete t.addr 0) [
        | yes z ↦ final_zero f t.addr (sound_not_empty f.bytes f.version f.root a m e) z
        | no z ↦
            let on_t = nodes.closed a m t on e mem z in
            let q = root_chain_sound nodes.chain t.addr on_t in
            below t.addr (node_target_lt f a m e t mem) on_t q.0 q.1
            (live_below_root f t.addr q.0 q.1 z (target_not_root f a m t e mem))
      ]

  leads_to : (k a : ℕ) → a ≤ k → Memᴰ a l → (m : Node) → node_in f a ≡ sound m → (m.final ≡ true) ⊎ (0 < length m.transitions) → FinalFrom f a
  leads_to zero a h on m e live = absurd (omega (arith, root_chain_low nodes.chain a on))
  leads_to (suc k) a h on m e live =
      leads_by a m e (λ t mem. target_by a on m e t mem (λ b lt on_b n e_b live_b. leads_to k b (omega arith) on_b n e_b live_b)) live

  pub leads_to_final : (a : ℕ) → Memᴰ a l → (m : Node) → node_in f a ≡ sound m → (m.final ≡ true) ⊎ (0 < length m.transitions) → FinalFrom f a
  leads_to_final a on m e live = leads_to a a (omega arith) on m e live

  pub target_leads_to_final : (a : ℕ) → Memᴰ a l → (m : Node) → node_in f a ≡ sound m → (t : Transition) → Memᴰ t m.transitions → FinalFrom f t.addr
  target_leads_to_final a on m e t mem = target_by a on m e t mem (λ b lt on_b n e_b live_b. leads_to_final b on_b n e_b live_b)

  -- a path from a node of the chain stays on it, or ends at address 0
  pub path_stays : {a : ℕ} {k : List ℕ} {sum b : ℕ} → (a ≡ 0) ⊎ Memᴰ a l → Path f a k sum b → (b ≡ 0) ⊎ Memᴰ b l
  path_stays on here = on
  path_stays {a = a} (inl z) (follow m t e mem p) = absurd (node_zero_none f a m e z t mem)
  path_stays {a = a} (inr on) (follow m t e mem p) =
      path_stays (elim (ℕ_discrete t.addr 0) [ yes z ↦ inl z | no z ↦ inr (nodes.closed a m t on e mem z) ]) p
