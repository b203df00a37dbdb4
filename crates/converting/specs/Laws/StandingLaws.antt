-- A chain that is laid out stands in the new file, wherever the layout stands in it: `standing`, by induction on the chain. The head's
-- node is `round_trip`; the nodes below it keep their new addresses, since no target leads up.
-- Assumes nothing.
use Rattle.std.specs.Prelude.{◌≡◌, refl, Bool, true, false, cond, ◌⊎◌, ℕ, ◌+◌, ◌≤◌, ◌<◌, get_or}
use Rattle.std.proofs.Common.{sym, ap, ◌∙◌, subst, ⊎_elim, arith, ne_eqb, length-append}
use Rattle.std.proofs.Math.Logic.{inl, inr}
use mathlib.Core.List.Memᴰ
use mathlib.Core.List.{List, [], ◌∷◌, ◌++◌, append_assoc, append-nil, Memᴰ}
use Rattle.std.proofs.Math.ListN.{length, length-map}
use Rattle.format.specs.declared.Transition.{Transition}
use Rattle.format.specs.Limits.{max_len}
use Rattle.format.specs.Node.{Node, sound, Useful, node_at}
use Rattle.format.specs.Laws.NodeFacts.{node_first_low, node_first_le, node_below, node_target_lt, node_useful}
use Rattle.format.specs.Packed.{BuilderNode, packed, packs_to_nothing, node_addr, record_node}
use Rattle.format.specs.Laws.PackedLaws.{packed_nothing}
use Rattle.format.specs.RoundTrip.RoundTrip.{round_trip}
use Rattle.format.specs.Paths.{Fst, fst_with, node_in}
use Rattle.format.specs.Admitted.{Chain, last, next}
use Rattle.format.specs.Laws.ChainLaws.{chain_not_zero, chain_start_low, chain_le}
use Rattle.converting.specs.Converting.{Moved, new_addr, record_of, Laid, lay_out}
use Rattle.converting.specs.Mirror.{Image}
use Rattle.converting.specs.Laws.LayLaws.{laid_next, lay_out_is, packed_pos, new_addr_here, new_addr_other, AllOk, new_ok, record_mirrored, mirrored_same, ranges_of, record_ok_of}
use Rattle.converting.specs.Standing.{new_nodes, Chained, Standing}

-- ---- one node more

pub new_nodes_none : (x : Moved) (ms : List Moved) → x.to ≡ 0 → new_nodes (x ∷ ms) ≡ new_nodes ms
unfolding new_nodes
new_nodes_none x ms z = rw z

pub new_nodes_some : (x : Moved) (ms : List Moved) → ¬ (x.to ≡ 0) → new_nodes (x ∷ ms) ≡ x.to ∷ new_nodes ms
unfolding new_nodes
new_nodes_some x ms ne = rw (ne_eqb x.to 0 ne)

module _ (f : Fst) (bytes : (i : ℕ) → get_or f.bytes i 0 < 256) (r : Laid) (ok : AllOk r) (a : ℕ) (m : Node) (e : node_in f a ≡ sound m) (ne : ¬ (a ≡ 0))
    (pre post : List ℕ) (root : ℕ) (at : length pre ≡ 16) (fits : 15 + length (laid_next r a m).nodes ≤ root) (high : root < max_len)
    (root_new : a ≡ f.root → node_addr (16 + length r.nodes) (record_of r.moved m) ≡ root) where
  abbrev first : ℕ
  first = 16 + length r.nodes

  abbrev b : BuilderNode
  b = record_of r.moved m

  abbrev x : Moved
  x = record { from = a; to = node_addr first b }

  abbrev g : Fst
  g = fst_with (pre ++ ((r.nodes ++ packed first b) ++ post)) 2 root

  size : length (r.nodes ++ packed first b) ≡ length r.nodes + length (packed first b)
  size = length-append r.nodes (packed first b)

  addr_le : node_addr first b ≤ root
  addr_le = go (packs_to_nothing b) refl
    where
      go : (t : Bool) → packs_to_nothing b ≡ t → node_addr first b ≤ root
      go true z = rw z (omega arith)
      go false z = rw z (omega (arith, size, fits))

  useful : Useful b.final (length b.inputs) (node_addr first b) root
  unfolding Useful
  useful = go (node_useful f a m e ne)
    where
      go : (m.final ≡ true) ⊎ ((0 < length m.transitions) ⊎ (a ≡ f.root))
          → (m.final ≡ true) ⊎ ((0 < length b.inputs) ⊎ (node_addr first b ≡ root))
      go (inl h) = inl h
      go (inr (inl h)) = inr (inl (omega (arith, length-map m.transitions (λ (t : Transition). t.inp))))
      go (inr (inr h)) = inr (inr (root_new h))

  -- the new node, as the record says it
  head_stands : node_in g (node_addr first b) ≡ sound (record_node first b)
  head_stands =
      let file_is_lem : pre ++ ((r.nodes ++ packed first b) ++ post) ≡ (pre ++ r.nodes) ++ (packed first b ++ post) =
      ap (λ (l : List ℕ). pre ++ l) (append_assoc r.nodes (packed first b) post) ∙ sym (append_assoc pre r.nodes (packed first b ++ post)) in
      ap (λ (l : List ℕ). node_at l 2 root (node_addr first b)) file_is_lem
      ∙ round_trip first b (pre ++ r.nodes) post 2 root (ranges_of f a m e bytes (new_addr r.moved))
      (record_ok_of f a m e bytes (new_addr r.moved) first (omega arith) (omega (arith, fits, size)) (λ t mem. ok t.addr))
      (omega (arith, length-append pre r.nodes)) (omega arith) addr_le useful

  -- targets lie below a, so that a's own new address changes none
  below_same : (j : ℕ) → j < a → new_addr r.moved j ≡ new_addr (x ∷ r.moved) j
  below_same j l = sym (new_addr_other x r.moved j (λ z. omega arith))

  head_image : Image f g (new_addr (x ∷ r.moved)) a
  head_image = record {
    node = m;
    first = cond (packs_to_nothing b) 0 first;
    judged = e;
    stands = ap (node_in g) (new_addr_here x r.moved a refl)
        ∙ head_stands
        ∙ ap sound (record_mirrored r.moved first m ∙ mirrored_same (new_addr r.moved) (new_addr (x ∷ r.moved)) (cond (packs_to_nothing b) 0 first) m (λ t mem. below_same t.addr (node_target_lt f a m e t mem)));
  }

  later_image : (j : ℕ) → j < a → Image f g (new_addr r.moved) j → Image f g (new_addr (x ∷ r.moved)) j
  later_image j l i = record {
    node = i.node;
    first = i.first;
    judged = i.judged;
    stands = ap (node_in g) (sym (below_same j l))
        ∙ i.stands
        ∙ ap sound (mirrored_same (new_addr r.moved) (new_addr (x ∷ r.moved)) i.first i.node (λ t mem. below_same t.addr (omega (arith, node_target_lt f j i.node i.judged t mem))));
  }

  chain_step : Chained g r → Chained g (laid_next r a m)
  chain_step below = go (packs_to_nothing b) refl
    where
      vanished : packs_to_nothing b ≡ true → Chained g (laid_next r a m)
      vanished z =
          let none : new_nodes (x ∷ r.moved) ≡ new_nodes r.moved = new_nodes_none x r.moved (rw z) in
          let nodes_is : r.nodes ++ packed first b ≡ r.nodes = ap (λ (l : List ℕ). r.nodes ++ l) (packed_nothing first b z) ∙ append-nil r.nodes in
          ⊎_elim (λ h. inl (ap (λ (l : List ℕ). length l) nodes_is ∙ h.0, none ∙ h.1))
          (λ c. inr (subst (λ (n : ℕ). Chain g n (new_nodes (x ∷ r.moved))) (ap (λ (l : List ℕ). 15 + length l) (sym nodes_is)) (subst (Chain g (15 + length r.nodes)) (sym none) c)))
          below

      written : packs_to_nothing b ≡ false → Chained g (laid_next r a m)
      written z =
          let pos = packed_pos first b z in
          let addr_is : node_addr first b ≡ 15 + length (r.nodes ++ packed first b) = rw z (omega (arith, size)) in
          let some : new_nodes (x ∷ r.moved) ≡ node_addr first b ∷ new_nodes r.moved = new_nodes_some x r.moved (λ q. omega arith) in
          let first_is : (record_node first b).first ≡ first = rw z in
          let chain : Chain g (node_addr first b) (node_addr first b ∷ new_nodes r.moved) =
          ⊎_elim
          (λ h. subst (λ (l : List ℕ). Chain g (node_addr first b) (node_addr first b ∷ l)) (sym h.1) (last (record_node first b) head_stands (omega (arith, first_is, h.0))))
          (λ c. upon c first_is)
          below in
          inr (subst (λ (n : ℕ). Chain g n (new_nodes (x ∷ r.moved))) addr_is (subst (Chain g (node_addr first b)) (sym some) chain))
        where
          -- the node below ends where this one starts
          upon : Chain g (15 + length r.nodes) (new_nodes r.moved) → (record_node first b).first ≡ first
              → Chain g (node_addr first b) (node_addr first b ∷ new_nodes r.moved)
          upon c is =
              next (record_node first b) head_stands (λ q. omega (arith, chain_start_low c, is))
              (subst (λ (n : ℕ). Chain g n (new_nodes r.moved)) (omega (arith, is)) c)

      go : (t : Bool) → packs_to_nothing b ≡ t → Chained g (laid_next r a m)
      go true z = vanished z
      go false z = written z

-- ---- the whole chain

module _ (f : Fst) (bytes : (i : ℕ) → get_or f.bytes i 0 < 256) where
  -- what the file around a layout has to meet
  pub record Around (l : List ℕ) (a : ℕ) (pre : List ℕ) (root : ℕ) : Type 0 where
    pub at : length pre ≡ 16
    pub fits : 15 + length (lay_out f l).nodes ≤ root
    pub high : root < max_len
    pub root_new : a ≡ f.root → new_addr (lay_out f l).moved a ≡ root

  standing_step : (a : ℕ) (l : List ℕ) (m : Node) → node_in f a ≡ sound m → ¬ (a ≡ 0) → ((j : ℕ) → Memᴰ j l → j < a)
      → (pre post : List ℕ) (root : ℕ) → Around (a ∷ l) a pre root
      → Standing f l (lay_out f l) (fst_with (pre ++ ((lay_out f l).nodes ++ (packed (16 + length (lay_out f l).nodes) (record_of (lay_out f l).moved m) ++ post))) 2 root)
      → Standing f (a ∷ l) (lay_out f (a ∷ l)) (fst_with (pre ++ ((lay_out f (a ∷ l)).nodes ++ post)) 2 root)
  standing_step a l m e ne lower pre post root w below =
      let r : Laid = lay_out f l in
      let is = lay_out_is f a l m e in
      subst (λ (q : Laid). Standing f (a ∷ l) q (fst_with (pre ++ (q.nodes ++ post)) 2 root)) (sym is)
      (go (subst (λ (q : Laid). 15 + length q.nodes ≤ root) is w.fits)
      (λ z. sym (new_addr_here (record { from = a; to = node_addr (16 + length r.nodes) (record_of r.moved m) }) r.moved a refl) ∙ ap (λ (q : Laid). new_addr q.moved a) (sym is) ∙ w.root_new z))
    where
      go : 15 + length (laid_next (lay_out f l) a m).nodes ≤ root
          → (a ≡ f.root → node_addr (16 + length (lay_out f l).nodes) (record_of (lay_out f l).moved m) ≡ root)
          → Standing f (a ∷ l) (laid_next (lay_out f l) a m) (fst_with (pre ++ ((laid_next (lay_out f l) a m).nodes ++ post)) 2 root)
      go fits root_new =
          let r : Laid = lay_out f l in
          let p : List ℕ = packed (16 + length r.nodes) (record_of r.moved m) in
          let same : pre ++ (r.nodes ++ (p ++ post)) ≡ pre ++ ((r.nodes ++ p) ++ post) = ap (λ (q : List ℕ). pre ++ q) (sym (append_assoc r.nodes p post)) in
          let there = subst (λ (q : List ℕ). Standing f l (lay_out f l) (fst_with q 2 root)) same below in
          record {
            images = λ j mem.
                ⊎_elim
                (λ z. subst (Image f (fst_with (pre ++ ((laid_next (lay_out f l) a m).nodes ++ post)) 2 root) (new_addr (laid_next (lay_out f l) a m).moved)) (sym z)
                (head_image f bytes (lay_out f l) (new_ok f l) a m e ne pre post root w.at fits w.high root_new))
                (λ k. later_image f bytes (lay_out f l) (new_ok f l) a m e ne pre post root w.at fits w.high root_new j (lower j k) (there.images j k))
                (Memᴰ.cases_cons mem);
            chained = chain_step f bytes (lay_out f l) (new_ok f l) a m e ne pre post root w.at fits w.high root_new there.chained;
          }

  lay_out_grows : (a : ℕ) (l : List ℕ) (m : Node) → node_in f a ≡ sound m → length (lay_out f l).nodes ≤ length (lay_out f (a ∷ l)).nodes
  lay_out_grows a l m e =
      rw (lay_out_is f a l m e)
      (omega (arith, length-append (lay_out f l).nodes (packed (16 + length (lay_out f l).nodes) (record_of (lay_out f l).moved m))))

  standing_none : (g : Fst) → Standing f [] (lay_out f []) g
  unfolding lay_out new_nodes
  standing_none g = record { images = λ j mem. absurd (Memᴰ.not-nil mem); chained = inl (refl, refl) }

  pub standing : {a : ℕ} {l : List ℕ} → Chain f a l → (pre post : List ℕ) (root : ℕ) → Around l a pre root
      → Standing f l (lay_out f l) (fst_with (pre ++ ((lay_out f l).nodes ++ post)) 2 root)
  standing {a} (last m e done) pre post root w =
      standing_step a [] m e (chain_not_zero (last m e done)) (λ j mem. absurd (Memᴰ.not-nil mem)) pre post root w (standing_none _)
  standing {a} (next {l = l} m e more c) pre post root w =
      let ne = chain_not_zero (next m e more c) in
      let first_le = node_first_le f a m e ne in
      let first_low = node_first_low f a m e ne in
      let root_le = node_below f a m e ne in
      let q : List ℕ = packed (16 + length (lay_out f l).nodes) (record_of (lay_out f l).moved m) ++ post in
      standing_step a l m e ne (λ j mem. omega (arith, chain_le c j mem, first_le, first_low)) pre post root w
      (standing c pre q root (record {
        at = w.at;
        fits = omega (arith, w.fits, lay_out_grows a l m e);
        high = w.high;
        root_new = λ z. absurd (omega arith);
      }))
