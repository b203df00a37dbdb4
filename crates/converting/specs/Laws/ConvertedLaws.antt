-- The nodes of a converted file are the old ones with targets replaced (document 02, N7).
--     old_has_bytes         a file of version 1 is no blank card
--     new_addr_off          an address off the chain becomes 0
--     mirrors_vanished      where the root vanishes: the root alone, at address 0
--     mirrors_kept          where it does not: each address of the chain, and 0
--     held_both             the same keys with the same values, both ways
-- Assumes nothing.
use Rattle.std.specs.Prelude.{◌≡◌, refl, Bool, true, false, ◌&&◌, ℕ, ◌+◌, ◌≤◌, ◌<◌, eqb, length, get_or, take, drop}
use Rattle.std.proofs.Math.Path.{sym, ap}
use Rattle.std.proofs.Common.{◌∙◌, subst, inl, inr, ⊎_elim, arith, length-append, length-take, length-drop}
use mathlib.Core.List.Memᴰ
use mathlib.Core.List.{List, [], ◌∷◌, ◌++◌, append_assoc, Memᴰ}
use Rattle.std.proofs.Math.Decide.{ℕ_discrete}
use Rattle.format.specs.declared.Transition.{Transition}
use Rattle.buffers.specs.DecideLaws.{decides_and, decides_self, decides_eq}
use Rattle.format.specs.Limits.{max_len}
use Rattle.format.specs.Bytes.{bytes_of}
use Rattle.format.specs.Laws.BytesLaws.{length_bytes_of}
use Rattle.format.specs.Node.{Node, Judgement, sound, unsound, empty_final}
use Rattle.format.specs.Laws.NodeLaws.{node_at_zero}
use Rattle.format.specs.Laws.NodeFacts.{node_zero_none}
use Rattle.format.specs.Packed.{packed, packs_to_nothing}
use Rattle.format.specs.Laws.OpeningLaws.{opened_facts, version_some}
use Rattle.format.specs.Paths.{Fst, fst_with, node_in, Held}
use Rattle.format.specs.Admitted.{Chain, Admitted}
use Rattle.format.specs.Laws.ChainLaws.{chain_cases, root_chain_cases, root_chain_low, root_chain_root}
use Rattle.converting.specs.Converting.{vanishes, new_addr, record_of, Laid, lay_node, lay_out, laid, moved_to, converted}
use Rattle.converting.specs.Converted.{old_fst, new_fst, OnChain}
use Rattle.converting.specs.Mirror.{mirrored, Image, Mirror}
use Rattle.converting.specs.Laws.MirrorLaws.{held_there, held_back}
use Rattle.converting.specs.Laws.LayLaws.{vanishes_nothing, laid_next, lay_node_is, new_addr_here, new_addr_other}
use Rattle.converting.specs.Standing.{Standing}
use Rattle.converting.specs.Laws.StandingLaws.{Around, standing}

-- ---- a node that vanishes

pub record Vanished (j : Judgement) : Type 0 where
  pub node : Node
  pub judged : j ≡ sound node
  pub final : node.final ≡ true
  pub none : node.transitions ≡ []
  pub output : node.final_output ≡ 0

pub vanished_is : (j : Judgement) → vanishes j ≡ true → Vanished j
vanished_is unsound e = absurd (let z : ◌≡◌ {A = Bool} false true = e in let q : ◌≡◌ {A = ℕ} 0 1 = cc in omega arith)
vanished_is (sound m) e =
    let h = (decides_and m.final (eqb (length m.transitions) 0 && eqb m.final_output 0) (decides_self m.final)
    (decides_and _ _ (decides_eq (length m.transitions) 0) (decides_eq m.final_output 0))).yes e in
    record { node = m; judged = refl; final = h.0; none = empty m.transitions h.1.0; output = h.1.1 }
  where
    empty : (ts : List Transition) → length ts ≡ 0 → ts ≡ []
    empty [] z = refl
    empty (t ∷ ts) z = absurd (omega arith)

-- ---- new addresses

pub new_addr_off : (f : Fst) (l : List ℕ) (j : ℕ) → ¬ Memᴰ j l → new_addr (lay_out f l).moved j ≡ 0
unfolding lay_out new_addr
new_addr_off f [] j off = refl
new_addr_off f (a ∷ l) j off = go (new_addr_off f l j (λ mem. off (Memᴰ.tail mem))) (node_in f a)
  where
    go : new_addr (lay_out f l).moved j ≡ 0 → (q : Judgement) → new_addr (lay_node (lay_out f l) a q).moved j ≡ 0
    go below unsound = below
    go below (sound m) =
        ap (λ (r : Laid). new_addr r.moved j) (lay_node_is (lay_out f l) a m)
        ∙ new_addr_other _ (lay_out f l).moved j (λ z. off (Memᴰ.head (sym z)))
        ∙ below

-- the head of a chain ends the layout
pub head_new : (f : Fst) (a : ℕ) (l : List ℕ) (m : Node) → node_in f a ≡ sound m → vanishes (sound m) ≡ false
    → new_addr (lay_out f (a ∷ l)).moved a ≡ 15 + length (lay_out f (a ∷ l)).nodes
unfolding lay_out
head_new f a l m e some =
    let r : Laid = lay_out f l in
    let is : lay_node r a (node_in f a) ≡ laid_next r a m = ap (lay_node r a) e ∙ lay_node_is r a m in
    let kept : packs_to_nothing (record_of r.moved m) ≡ false = vanishes_nothing r.moved m ∙ some in
    ap (λ (q : Laid). new_addr q.moved a) is
    ∙ new_addr_here _ r.moved a refl
    ∙ rw kept (omega (arith, length-append r.nodes (packed (16 + length r.nodes) (record_of r.moved m))))
    ∙ ap (λ (q : Laid). 15 + length q.nodes) (sym is)

-- ---- the converted file

pub old_has_bytes : {s : List ℕ} (A : Admitted s) → A.meta.version ≡ 1 → 0 < length s
old_has_bytes {s} A old = version_some s A.meta A.opens (λ z. omega arith)

module _ {s : List ℕ} (A : Admitted s) (has_bytes : 0 < length s) where
  -- ---- the parts of the file

  pub old_low : 32 ≤ length s
  old_low = ⊎_elim (λ z. absurd (omega arith)) (λ l. omega (arith, l)) (opened_facts s A.meta A.opens).low

  abbrev pub header : List ℕ
  header = bytes_of 8 2 ++ take 8 (drop 8 s)

  abbrev pub trailer : List ℕ
  trailer = bytes_of 8 A.meta.len ++ bytes_of 8 (moved_to A A.meta.root)

  pub converted_is : converted A ≡ header ++ ((laid A).nodes ++ trailer)
  unfolding converted
  converted_is = sym (append_assoc (bytes_of 8 2) (take 8 (drop 8 s)) ((laid A).nodes ++ trailer))

  pub length_header : length header ≡ 16
  length_header =
      let part : length (take 8 (drop 8 s)) ≡ 8 = rw (length-take, length-drop) (omega (arith, old_low)) in
      omega (arith, length-append (bytes_of 8 2) (take 8 (drop 8 s)), length_bytes_of 8 2, part)

  pub length_converted : length (converted A) ≡ 32 + length (laid A).nodes
  length_converted =
      ap (λ (l : List ℕ). length l) converted_is
      ∙ omega (
        arith,
        length-append header ((laid A).nodes ++ trailer),
        length-append (laid A).nodes trailer,
        length-append (bytes_of 8 A.meta.len) (bytes_of 8 (moved_to A A.meta.root)),
        length_bytes_of 8 A.meta.len,
        length_bytes_of 8 (moved_to A A.meta.root),
        length_header,
      )

  -- ---- where the root vanishes

  nothing_laid : vanishes (node_in (old_fst A) A.meta.root) ≡ true → laid A ≡ lay_out (old_fst A) []
  nothing_laid gone = rw gone

  pub vanished_none : vanishes (node_in (old_fst A) A.meta.root) ≡ true → (laid A).nodes ≡ []
  unfolding lay_out
  vanished_none gone = ap (λ (r : Laid). r.nodes) (nothing_laid gone)

  pub zero_vanished : vanishes (node_in (old_fst A) A.meta.root) ≡ true → (a : ℕ) → moved_to A a ≡ 0
  zero_vanished gone a = ap (λ (r : Laid). new_addr r.moved a) (nothing_laid gone) ∙ new_addr_off (old_fst A) [] a (λ mem. Memᴰ.not-nil mem)

  pub mirrors_vanished : vanishes (node_in (old_fst A) A.meta.root) ≡ true → Mirror (old_fst A) (new_fst A) (moved_to A) (λ a. a ≡ A.meta.root)
  mirrors_vanished gone =
      let w = vanished_is (node_in (old_fst A) A.meta.root) gone in
      record {
        image = λ a z. rw z (image w);
        closed = λ a m t z e mem.
            let j = w.judged in
            let same : w.node ≡ m = let q : node_in (old_fst A) A.meta.root ≡ sound m = ap (node_in (old_fst A)) (sym z) ∙ e in cc in
            absurd (Memᴰ.not-nil (rw w.none at (rw (sym same) at mem)));
        root_on = refl;
        root_is = refl;
      }
    where
      image : Vanished (node_in (old_fst A) A.meta.root) → Image (old_fst A) (new_fst A) (moved_to A) A.meta.root
      image w =
          let same : empty_final ≡ mirrored (moved_to A) 0 w.node = rw (w.final, w.none, w.output) in
          record {
            node = w.node;
            first = 0;
            judged = w.judged;
            stands = ap (node_in (new_fst A)) (zero_vanished gone A.meta.root) ∙ node_at_zero (converted A) 2 (moved_to A A.meta.root) (omega (arith, length_converted)) ∙ ap sound same;
          }

  -- ---- where the root does not vanish

  module _ (kept : vanishes (node_in (old_fst A) A.meta.root) ≡ false) where
    pub laid_is : laid A ≡ lay_out (old_fst A) A.nodes
    laid_is = rw kept

    pub root_not_zero : ¬ (A.meta.root ≡ 0)
    root_not_zero z =
        let e : node_in (old_fst A) A.meta.root ≡ sound empty_final = ap (node_in (old_fst A)) z ∙ node_at_zero s A.meta.version A.meta.root has_bytes in
        let q : ◌≡◌ {A = Bool} true false = sym (ap vanishes e) ∙ kept in
        let y : ◌≡◌ {A = ℕ} 0 1 = cc in
        omega arith

    pub old_chain : Chain (old_fst A) A.meta.root A.nodes
    old_chain = ⊎_elim (λ h. absurd (root_not_zero h.0)) (λ h. h.1) (root_chain_cases A.chained.chain)

    -- the root's node is the last one written
    pub root_new : moved_to A A.meta.root ≡ 15 + length (laid A).nodes
    root_new = ⊎_elim (λ z. go _ z.node z.judged z.list_is) (λ n. go n.others n.node n.judged n.list_is) (chain_cases old_chain)
      where
        go : (l : List ℕ) (m : Node) → node_in (old_fst A) A.meta.root ≡ sound m → A.nodes ≡ A.meta.root ∷ l → moved_to A A.meta.root ≡ 15 + length (laid A).nodes
        go l m e is =
            let whole : laid A ≡ lay_out (old_fst A) (A.meta.root ∷ l) = laid_is ∙ ap (lay_out (old_fst A)) is in
            ap (λ (r : Laid). new_addr r.moved A.meta.root) whole
            ∙ head_new (old_fst A) A.meta.root l m e (ap vanishes (sym e) ∙ kept)
            ∙ ap (λ (r : Laid). 15 + length r.nodes) (sym whole)

    zero_new : moved_to A 0 ≡ 0
    zero_new =
        ap (λ (r : Laid). new_addr r.moved 0) laid_is
        ∙ new_addr_off (old_fst A) A.nodes 0 (λ mem. let h = root_chain_low A.chained.chain 0 mem in omega arith)

    module _ (bytes : (i : ℕ) → get_or s i 0 < 256) (small : length (converted A) ≤ max_len) where
      pub stands : Standing (old_fst A) A.nodes (laid A) (new_fst A)
      stands =
          let around : Around (old_fst A) bytes A.nodes A.meta.root header (moved_to A A.meta.root) = record {
            at = length_header;
            fits = subst (λ (r : Laid). 15 + length r.nodes ≤ moved_to A A.meta.root) laid_is (omega (arith, root_new));
            high = omega (arith, root_new, length_converted, small);
            root_new = λ z. ap (λ (r : Laid). new_addr r.moved A.meta.root) (sym laid_is);
          } in
          let there = standing (old_fst A) bytes old_chain header trailer (moved_to A A.meta.root) around in
          let in_file : Standing (old_fst A) A.nodes (laid A) (fst_with (header ++ ((laid A).nodes ++ trailer)) 2 (moved_to A A.meta.root)) =
          subst (λ (r : Laid). Standing (old_fst A) A.nodes r (fst_with (header ++ (r.nodes ++ trailer)) 2 (moved_to A A.meta.root))) (sym laid_is) there in
          subst (λ (l : List ℕ). Standing (old_fst A) A.nodes (laid A) (fst_with l 2 (moved_to A A.meta.root))) (sym converted_is) in_file

      pub mirrors_kept : Mirror (old_fst A) (new_fst A) (moved_to A) (OnChain A)
      mirrors_kept = record {
        image = λ a on. ⊎_elim (λ z. subst (Image (old_fst A) (new_fst A) (moved_to A)) (sym z) zero_image) (λ mem. stands.images a mem) on;
        closed = λ a m t on e mem.
            elim (ℕ_discrete t.addr 0) [
              | yes z ↦ inl z
              | no z ↦ ⊎_elim (λ q. absurd (node_zero_none (old_fst A) a m e q t mem)) (λ k. inr (A.chained.closed a m t k e mem z)) on
            ];
        root_on = inr (root_chain_root A.chained.chain root_not_zero);
        root_is = refl;
      }
        where
          zero_image : Image (old_fst A) (new_fst A) (moved_to A) 0
          zero_image = record {
            node = empty_final;
            first = 0;
            judged = node_at_zero s A.meta.version A.meta.root has_bytes;
            stands = ap (node_in (new_fst A)) zero_new ∙ node_at_zero (converted A) 2 (moved_to A A.meta.root) (omega (arith, length_converted));
          }

  -- ---- held keys

  pub held_both : ((i : ℕ) → get_or s i 0 < 256) → length (converted A) ≤ max_len → (k : List ℕ) (v : ℕ)
      → (Held (old_fst A) k v → Held (new_fst A) k v) × (Held (new_fst A) k v → Held (old_fst A) k v)
  held_both bytes small k v = go (vanishes (node_in (old_fst A) A.meta.root)) refl
    where
      go : (t : Bool) → vanishes (node_in (old_fst A) A.meta.root) ≡ t → (Held (old_fst A) k v → Held (new_fst A) k v) × (Held (new_fst A) k v → Held (old_fst A) k v)
      go true gone = (λ h. held_there (mirrors_vanished gone) h, λ h. held_back (mirrors_vanished gone) h)
      go false kept = (λ h. held_there (mirrors_kept kept bytes small) h, λ h. held_back (mirrors_kept kept bytes small) h)
