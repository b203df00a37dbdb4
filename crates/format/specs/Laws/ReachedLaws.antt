-- Laws of `Reached`, and what an admitted file says of a node that a path from its root reaches, root 0 included, which has no chain.
--     reached_root, reached_by, reached_on   the root is reached, and what a reached node leads to
--     shallow_root, light_root               the conditions on reached nodes are those on paths from the root, both ways
--     unused_does_not_matter                 the nodes that are not reached change no held key and no value
--     PathEnd f k sum b                      the end of a path from the root of an admitted file
--     held_from, from_held                   Held is HeldFrom the root
-- Assumes nothing.
use Rattle.std.specs.Prelude.{◌≡◌, refl, true, ◌⊎◌, ℕ, ◌+◌, ◌≤◌, ◌<◌, length}
use Rattle.std.proofs.Common.{sym, ap, ◌∙◌, subst, inl, inr, arith, length-append}
use mathlib.Core.List.{List, [], ◌∷◌, ◌++◌, Memᴰ}
use Rattle.std.proofs.Math.Decide.{ℕ_discrete}
use Rattle.format.specs.declared.Transition.{Transition}
use Rattle.format.specs.Limits.{max_path, max_sum}
use Rattle.format.specs.Node.{Node, sound, empty_final}
use Rattle.format.specs.Laws.NodeLaws.{node_at_zero}
use Rattle.format.specs.Paths.{Fst, fst_of, node_in, Path, here, follow, Reached, Held, HeldFrom}
use Rattle.format.specs.Admitted.{Nodes, Shallow, Light, Admitted}
use Rattle.format.specs.Laws.NodeFacts.{node_zero_none, node_same}
use Rattle.format.specs.Laws.PathLaws.{path_nil, path_step, path_append, path_snoc}
use Rattle.format.specs.Laws.ChainLaws.{root_chain_root, root_chain_sound}
use Rattle.format.specs.Laws.LiveLaws.{path_stays}

-- ---- reached

pub reached_root : (f : Fst) → Reached f f.root
reached_root f = record { key = []; sum = 0; path = here }

pub reached_by : {f : Fst} {a : ℕ} → Reached f a → (m : Node) (t : Transition) → node_in f a ≡ sound m → Memᴰ t m.transitions → Reached f t.addr
reached_by r m t e mem = record { key = r.key ++ (t.inp ∷ []); sum = r.sum + t.out; path = path_snoc m t r.path e mem }

pub reached_on : {f : Fst} {a : ℕ} {k : List ℕ} {sum b : ℕ} → Reached f a → Path f a k sum b → Reached f b
reached_on {k = k} {sum = sum} r p = record { key = r.key ++ k; sum = r.sum + sum; path = path_append r.path p }

-- a reached node is one of the chain, or address 0
pub reached_stays : {f : Fst} {l : List ℕ} → Nodes f l → {a : ℕ} → Reached f a → (a ≡ 0) ⊎ Memᴰ a l
reached_stays {f} nodes r =
    path_stays nodes (elim (ℕ_discrete f.root 0) [ yes z ↦ inl z | no ne ↦ inr (root_chain_root nodes.chain ne) ]) r.path

-- ---- the conditions on reached nodes, by paths from the root: each path from a reached node continues one

pub shallow_root : (f : Fst)
    → (Shallow f → (k : List ℕ) (sum b : ℕ) → Path f f.root k sum b → length k ≤ max_path)
    × (((k : List ℕ) (sum b : ℕ) → Path f f.root k sum b → length k ≤ max_path) → Shallow f)
unfolding Shallow
shallow_root f = (
  λ h k sum b p. h f.root k sum b (reached_root f) p,
  λ h a k sum b r p.
      let whole = h (r.key ++ k) (r.sum + sum) b (path_append r.path p) in
      omega (arith, whole, length-append r.key k),
)

pub light_root : (f : Fst)
    → (Light f → (k : List ℕ) (sum b : ℕ) (m : Node) → Path f f.root k sum b → node_in f b ≡ sound m → sum + m.final_output ≤ max_sum)
    × (((k : List ℕ) (sum b : ℕ) (m : Node) → Path f f.root k sum b → node_in f b ≡ sound m → sum + m.final_output ≤ max_sum) → Light f)
unfolding Light
light_root f = (
  λ h k sum b m p e. h f.root k sum b m (reached_root f) p e,
  λ h a k sum b m r p e.
      let whole = h (r.key ++ k) (r.sum + sum) b m (path_append r.path p) e in
      omega (arith, whole),
)

-- ---- nodes that are not reached

-- a path from a node of S, where two files agree on S and transitions lead from S into S
path_moves : {f g : Fst} (S : ℕ → Type 0) → ((a : ℕ) → S a → node_in f a ≡ node_in g a)
    → ((a : ℕ) (m : Node) (t : Transition) → S a → node_in f a ≡ sound m → Memᴰ t m.transitions → S t.addr)
    → {a : ℕ} {k : List ℕ} {sum b : ℕ} → S a → Path f a k sum b → Path g a k sum b × S b
path_moves S same closed s here = (here, s)
path_moves S same closed {a = a} s (follow m t e mem p) =
    let rest = path_moves S same closed (closed a m t s e mem) p in
    (follow m t (sym (same a s) ∙ e) mem rest.0, rest.1)

module _ {f g : Fst} (root_is : f.root ≡ g.root) (same : (a : ℕ) → Reached f a → node_in f a ≡ node_in g a) where
  held_there : (k : List ℕ) (v : ℕ) → Held f k v → Held g k v
  held_there k v h =
      let p = path_moves {f = f} {g = g} (Reached f) same (λ a m t s e mem. reached_by s m t e mem) (reached_root f) h.path in
      record {
        sum = h.sum;
        to = h.to;
        last = h.last;
        path = subst (λ a. Path g a k h.sum h.to) root_is p.0;
        ends = sym (same h.to p.1) ∙ h.ends;
        final = h.final;
        value = h.value;
      }

  held_back : (k : List ℕ) (v : ℕ) → Held g k v → Held f k v
  held_back k v h =
      let from = subst (λ a. Path g a k h.sum h.to) (sym root_is) h.path in
      let p =
      path_moves {f = g} {g = f} (Reached f) (λ a s. sym (same a s)) (λ a m t s e mem. reached_by s m t (same a s ∙ e) mem) (reached_root f) from in
      record {
        sum = h.sum;
        to = h.to;
        last = h.last;
        path = p.0;
        ends = same h.to p.1 ∙ h.ends;
        final = h.final;
        value = h.value;
      }

  pub unused_does_not_matter : (k : List ℕ) (v : ℕ) → (Held f k v → Held g k v) × (Held g k v → Held f k v)
  unused_does_not_matter k v = (held_there k v, held_back k v)

-- ---- on an admitted file

pub record PathEnd (f : Fst) (k : List ℕ) (sum b : ℕ) : Type 0 where
  pub node : Node
  pub judged : node_in f b ≡ sound node
  pub light : sum + node.final_output ≤ max_sum
  pub short : length k ≤ max_path

-- address 0 leads only to itself
zero_reached : {f : Fst} {a : ℕ} {k : List ℕ} {sum b : ℕ} → 0 < length f.bytes → a ≡ 0 → Path f a k sum b → PathEnd f k sum b
zero_reached {f} {a} pos z here =
    record { node = empty_final; judged = rw z (node_at_zero f.bytes f.version f.root pos); light = omega arith; short = omega arith }
zero_reached {f} {a} pos z (follow m t e mem p) = absurd (node_zero_none f a m e z t mem)

-- a file without bytes has a path of no transitions and no node at its end
pub path_reached : {s : List ℕ} (A : Admitted s) → 0 < length s → {k : List ℕ} {sum b : ℕ} → Path (fst_of s A.meta) A.meta.root k sum b
    → PathEnd (fst_of s A.meta) k sum b
path_reached {s} A pos {k} {sum} {b} p =
    elim (ℕ_discrete A.meta.root 0) [
      | yes z ↦ zero_reached pos z p
      | no ne ↦
          let on = root_chain_root A.chained.chain ne in
          let q = sound_at (path_stays A.chained (inr on) p) in
          record {
            node = q.0;
            judged = q.1;
            light = (light_root (fst_of s A.meta)).0 A.light k sum b q.0 p q.1;
            short = (shallow_root (fst_of s A.meta)).0 A.shallow k sum b p;
          }
    ]
  where
    sound_at : (b ≡ 0) ⊎ Memᴰ b A.nodes → (m : Node) × (node_in (fst_of s A.meta) b ≡ sound m)
    sound_at (inl z) = (empty_final, rw z (node_at_zero s A.meta.version A.meta.root pos))
    sound_at (inr mem) = root_chain_sound A.chained.chain b mem

-- ---- held from a node

pub held_from : {f : Fst} {k : List ℕ} {v : ℕ} → Held f k v → HeldFrom f f.root k v
held_from h = record { sum = h.sum; to = h.to; last = h.last; path = h.path; ends = h.ends; final = h.final; value = h.value }

pub from_held : {f : Fst} {k : List ℕ} {v : ℕ} → HeldFrom f f.root k v → Held f k v
from_held h = record { sum = h.sum; to = h.to; last = h.last; path = h.path; ends = h.ends; final = h.final; value = h.value }

module _ (f : Fst) (a : ℕ) (m : Node) (e : node_in f a ≡ sound m) where
  pub held_here : m.final ≡ true → HeldFrom f a [] m.final_output
  held_here is = record { sum = 0; to = a; last = m; path = here; ends = e; final = is; value = omega arith }

  pub held_by : (t : Transition) → Memᴰ t m.transitions → {k : List ℕ} {v : ℕ} → HeldFrom f t.addr k v → HeldFrom f a (t.inp ∷ k) (t.out + v)
  held_by t mem h =
      record {
        sum = t.out + h.sum;
        to = h.to;
        last = h.last;
        path = follow m t e mem h.path;
        ends = h.ends;
        final = h.final;
        value = omega (arith, h.value);
      }

  -- the empty key is held only where the node is final
  pub held_nil : {v : ℕ} → HeldFrom f a [] v → (m.final ≡ true) × (v ≡ m.final_output)
  held_nil h =
      let p = path_nil h.path in
      let ends : node_in f a ≡ sound h.last = rw p.1 at h.ends in
      let same : h.last ≡ m = cc in
      (rw same at h.final, omega (arith, h.value, p.0, ap (λ (n : Node). n.final_output) same))

  -- a key by the byte of the transition t goes on from its target
  pub held_step : (t : Transition) → Memᴰ t m.transitions → {k : List ℕ} {v : ℕ} → HeldFrom f a (t.inp ∷ k) v
      → (w : ℕ) × HeldFrom f t.addr k w × (v ≡ t.out + w)
  held_step t mem {k} h =
      let p = path_step h.path in
      let judged = p.judged in
      let node_is : p.node ≡ m = cc in
      let by_is = node_same f a m e p.by t (rw node_is at p.member) mem p.inp_is in
      let rest = subst (λ (u : Transition). Path f u.addr k p.more h.to) by_is p.rest in (
        p.more + h.last.final_output,
        record { sum = p.more; to = h.to; last = h.last; path = rest; ends = h.ends; final = h.final; value = refl },
        omega (arith, h.value, p.sum_is, ap (λ (u : Transition). u.out) by_is),
      )

  -- the byte that a held key starts with is the input of a transition
  pub held_input : {b : ℕ} {k : List ℕ} {v : ℕ} → HeldFrom f a (b ∷ k) v → (t : Transition) × Memᴰ t m.transitions × (t.inp ≡ b)
  held_input h =
      let p = path_step h.path in
      let judged = p.judged in
      let node_is : p.node ≡ m = cc in
      (p.by, rw node_is at p.member, p.inp_is)
