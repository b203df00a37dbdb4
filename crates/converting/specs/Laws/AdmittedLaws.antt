-- A converted file is admitted, and says the old file's type and count (document 02, N7).
--     new_nodes_hold        a new address other than 0 is on the new chain
--     origin                each address of the new chain is the new one of an address of the old chain
--     version_said, type_said, count_said, root_said     what the new file's header and trailer say
--     converted_admitted    the new file is admitted
--     converted_holds       and holds the same keys with the same values
-- Assumes nothing.
use Rattle.std.specs.Prelude.{◌≡◌, Bool, true, false, get_or, take, drop}
use Rattle.std.proofs.Math.Path.{refl, sym, ap, subst}
use Rattle.std.proofs.Common.{ap₂, ◌∙◌, lt_of_lt_of_le, arith, le-leb, eq-eqb, length-drop, take_at, drop_at, get_or-take}
use Rattle.std.proofs.Math.Logic.{⊎_elim}
use mathlib.Core.List.Memᴰ
use mathlib.Core.List.{List, [], ◌∷◌, ◌++◌, append_assoc, append-nil, Memᴰ}
use Prim.Native.Nat.{ℕ, ◌+◌, ◌-◌, ◌^◌, ◌≤◌, ◌<◌}
use Rattle.std.proofs.Math.Decide.{ℕ_discrete}
use Rattle.std.proofs.Math.ListN.{length, length-append, length-take}
use Rattle.std.proofs.Math.Seq.{get_or-drop}
use Rattle.format.specs.declared.Transition.{Transition}
use Rattle.format.specs.Limits.{max_len, max_sum}
use Rattle.format.specs.Bytes.{le, bytes_of}
use Rattle.format.specs.Laws.BytesLaws.{length_bytes_of, le_lt, pow_256_le}
use Rattle.format.specs.RoundTrip.ReadBack.{number_between}
use Rattle.format.specs.Node.{Node, sound}
use Rattle.format.specs.Laws.NodeFacts.{node_first_low, node_first_le}
use Rattle.format.specs.Packed.{TargetOk}
use Rattle.format.specs.Opening.{Meta, number_at, trailer_len, least_len, meta_of, root_test}
use Rattle.format.specs.Laws.OpeningLaws.{opened_facts, opening_opened, root_none, root_some}
use Rattle.format.specs.Paths.{Fst, fst_with, fst_of, node_in, Path, Held}
use Rattle.format.specs.Admitted.{Chain, last, next, empty, rooted, Nodes, Shallow, Light, Admitted}
use Rattle.format.specs.Laws.ChainLaws.{chain_not_zero, chain_start_low, chain_le}
use Rattle.converting.specs.Converting.{vanishes, Moved, new_addr, Laid, lay_out, laid, moved_to, converted}
use Rattle.converting.specs.Converted.{old_fst, new_fst, SameContents}
use Rattle.format.specs.Laws.ReachedLaws.{shallow_root, light_root}
use Rattle.converting.specs.Mirror.{renamed, mirrored, Mirror}
use Rattle.converting.specs.Laws.MirrorLaws.{map_mem, Back, path_back}
use Rattle.converting.specs.Laws.LayLaws.{laid_next, lay_out_is, new_addr_here, new_addr_other, new_ok}
use Rattle.converting.specs.Standing.{new_nodes}
use Rattle.converting.specs.Laws.StandingLaws.{new_nodes_none, new_nodes_some}
use Rattle.converting.specs.Laws.ConvertedLaws.{header, trailer, old_low, converted_is, length_header, length_converted, laid_is, old_chain, root_new, stands, mirrors_kept, mirrors_vanished, vanished_none, zero_vanished, held_both}

-- ---- the new chain's addresses

pub new_nodes_hold : (ms : List Moved) (a : ℕ) → ¬ (new_addr ms a ≡ 0) → Memᴰ (new_addr ms a) (new_nodes ms)
unfolding new_addr
new_nodes_hold [] a ne = absurd (ne refl)
new_nodes_hold (x ∷ ms) a ne = go (new_nodes_hold ms a) (ℕ_discrete x.from a) (ℕ_discrete x.to 0)
  where
    go : (¬ (new_addr ms a ≡ 0) → Memᴰ (new_addr ms a) (new_nodes ms)) → Dec (x.from ≡ a) → Dec (x.to ≡ 0) → Memᴰ (new_addr (x ∷ ms) a) (new_nodes (x ∷ ms))
    go below (yes e) (yes z) = absurd (ne (new_addr_here x ms a e ∙ z))
    go below (yes e) (no z) = subst (Memᴰ (new_addr (x ∷ ms) a)) (sym (new_nodes_some x ms z)) (Memᴰ.head (new_addr_here x ms a e))
    go below (no e) (yes z) =
        let same = new_addr_other x ms a e in
        subst (Memᴰ (new_addr (x ∷ ms) a)) (sym (new_nodes_none x ms z)) (subst (λ (c : ℕ). Memᴰ c (new_nodes ms)) (sym same) (below (λ q. ne (same ∙ q))))
    go below (no e) (no z) =
        let same = new_addr_other x ms a e in
        subst (Memᴰ (new_addr (x ∷ ms) a)) (sym (new_nodes_some x ms z))
        (Memᴰ.tail (subst (λ (c : ℕ). Memᴰ c (new_nodes ms)) (sym same) (below (λ q. ne (same ∙ q)))))

-- an old address of the chain l with the new address c
pub record Origin (l : List ℕ) (ms : List Moved) (c : ℕ) : Type 0 where
  pub from : ℕ
  pub member : Memᴰ from l
  pub is : new_addr ms from ≡ c

module _ (f : Fst) (bytes : (i : ℕ) → get_or f.bytes i 0 < 256) where
  origin_step : (a : ℕ) (l : List ℕ) (m : Node) → node_in f a ≡ sound m → ((j : ℕ) → Memᴰ j l → j < a)
      → ((c : ℕ) → Memᴰ c (new_nodes (lay_out f l).moved) → Origin l (lay_out f l).moved c)
      → (c : ℕ) → Memᴰ c (new_nodes (lay_out f (a ∷ l)).moved) → Origin (a ∷ l) (lay_out f (a ∷ l)).moved c
  origin_step a l m e lower below c mem =
      let is = lay_out_is f a l m e in
      subst (λ (r : Laid). Origin (a ∷ l) r.moved c) (sym is) (go (subst (λ (r : Laid). Memᴰ c (new_nodes r.moved)) is mem))
    where
      older : (y : Moved) → y.from ≡ a → Origin l (lay_out f l).moved c → Origin (a ∷ l) (y ∷ (lay_out f l).moved) c
      older y is o = record {
        from = o.from;
        member = Memᴰ.tail o.member;
        is = new_addr_other y (lay_out f l).moved o.from (λ z. omega (arith, lower o.from o.member, is)) ∙ o.is;
      }

      by : (y : Moved) → y.from ≡ a → Dec (y.to ≡ 0) → Memᴰ c (new_nodes (y ∷ (lay_out f l).moved)) → Origin (a ∷ l) (y ∷ (lay_out f l).moved) c
      by y is (yes z) k = older y is (below c (subst (Memᴰ c) (new_nodes_none y (lay_out f l).moved z) k))
      by y is (no z) k =
          ⊎_elim (λ q. record { from = a; member = Memᴰ.head refl; is = new_addr_here y (lay_out f l).moved a is ∙ sym q })
          (λ q. older y is (below c q)) (Memᴰ.cases_cons (subst (Memᴰ c) (new_nodes_some y (lay_out f l).moved z) k))

      go : Memᴰ c (new_nodes (laid_next (lay_out f l) a m).moved) → Origin (a ∷ l) (laid_next (lay_out f l) a m).moved c
      go k = by _ refl (ℕ_discrete _ 0) k

  origin_none : (c : ℕ) → Memᴰ c (new_nodes (lay_out f []).moved) → Origin [] (lay_out f []).moved c
  unfolding lay_out new_nodes
  origin_none c mem = absurd (Memᴰ.not-nil mem)

  pub origin : {a : ℕ} {l : List ℕ} → Chain f a l → (c : ℕ) → Memᴰ c (new_nodes (lay_out f l).moved) → Origin l (lay_out f l).moved c
  origin {a} (last m e done) c mem = origin_step a [] m e (λ j k. absurd (Memᴰ.not-nil k)) origin_none c mem
  origin {a} (next {l = l} m e more d) c mem =
      let ne = chain_not_zero (next m e more d) in
      origin_step a l m e (λ j k. omega (arith, chain_le d j k, node_first_le f a m e ne, node_first_low f a m e ne)) (λ b k. origin d b k) c mem

-- ---- what the new file says

module _ {s : List ℕ} (A : Admitted s) (has_bytes : 0 < length s) where
  pub version_said : number_at (converted A) 0 8 ≡ 2
  unfolding converted
  version_said = number_between [] (take 8 (drop 8 s) ++ ((laid A).nodes ++ trailer A has_bytes)) 8 2 0 (omega arith) refl

  count_lt : ((i : ℕ) → get_or s i 0 < 256) → A.meta.len < 256 ^ 8
  unfolding meta_of
  count_lt bytes =
      let is = ap (λ (m : Meta). m.len) (opened_facts s A.meta A.opens).is in
      let at : ℕ = length s - trailer_len (number_at s 0 8) in
      let short : length (take 8 (drop at s)) ≤ 8 = rw length-take (omega arith) in
      rw is
      (lt_of_lt_of_le (le_lt (take 8 (drop at s)) (λ j l. rw (get_or-take 8 (drop at s) j 0 (omega arith), get_or-drop at s j 0) (bytes (at + j))))
      (pow_256_le short))

  pub type_said : (meta_of (converted A)).ty ≡ A.meta.ty
  unfolding meta_of converted
  type_said =
      let is = ap (λ (m : Meta). m.ty) (opened_facts s A.meta A.opens).is in
      let part : length (take 8 (drop 8 s)) ≡ 8 = rw (length-take, length-drop) (omega (arith, old_low A has_bytes)) in
      let rest : List ℕ = (laid A).nodes ++ trailer A has_bytes in
      ap (λ (l : List ℕ). le (take 8 l)) (drop_at (bytes_of 8 2) (take 8 (drop 8 s) ++ rest) 8 (length_bytes_of 8 2))
      ∙ ap le (take_at (take 8 (drop 8 s)) rest 8 part) ∙ sym is

  trailer_place : length (converted A) - trailer_len (number_at (converted A) 0 8) ≡ 16 + length (laid A).nodes
  trailer_place = rw version_said (omega (arith, length_converted A has_bytes))

  pub count_said : ((i : ℕ) → get_or s i 0 < 256) → (meta_of (converted A)).len ≡ A.meta.len
  unfolding meta_of
  count_said bytes =
      let file_is_lem : converted A ≡ (header A has_bytes ++ (laid A).nodes) ++ trailer A has_bytes = converted_is A has_bytes ∙ sym (append_assoc (header A has_bytes) (laid A).nodes (trailer A has_bytes)) in
      rw trailer_place
      (ap (λ (l : List ℕ). number_at l (16 + length (laid A).nodes) 8) file_is_lem
      ∙ number_between (header A has_bytes ++ (laid A).nodes) (bytes_of 8 (moved_to A A.meta.root)) 8 A.meta.len (16 + length (laid A).nodes) (count_lt bytes)
      (omega (arith, length-append (header A has_bytes) (laid A).nodes, length_header A has_bytes)))

  pub root_said : moved_to A A.meta.root < 256 ^ 8 → (meta_of (converted A)).root ≡ moved_to A A.meta.root
  unfolding meta_of
  root_said lt =
      let n : List ℕ = (laid A).nodes in
      let k : List ℕ = bytes_of 8 A.meta.len in
      let r : List ℕ = bytes_of 8 (moved_to A A.meta.root) in
      let file_is_lem : converted A ≡ ((header A has_bytes ++ n) ++ k) ++ (r ++ []) =
      converted_is A has_bytes ∙ sym (append_assoc (header A has_bytes) n (k ++ r)) ∙ sym (append_assoc (header A has_bytes ++ n) k r) ∙ ap (λ (l : List ℕ). ((header A has_bytes ++ n) ++ k) ++ l) (sym (append-nil r)) in
      rw trailer_place
      (ap (λ (l : List ℕ). number_at l (16 + length (laid A).nodes + 8) 8) file_is_lem
      ∙ number_between ((header A has_bytes ++ n) ++ k) [] 8 (moved_to A A.meta.root) (16 + length (laid A).nodes + 8) lt
      (omega (arith, length-append (header A has_bytes ++ n) k, length-append (header A has_bytes) n, length_header A has_bytes, length_bytes_of 8 A.meta.len)))

  -- ---- admission

  module _ (kept : vanishes (node_in (old_fst A) A.meta.root) ≡ false) (bytes : (i : ℕ) → get_or s i 0 < 256) (small : length (converted A) ≤ max_len) where
    -- some node is written, so that the new root is on the new chain
    pub new_chain : Chain (new_fst A) (new_fst A).root (new_nodes (laid A).moved)
    unfolding TargetOk
    new_chain =
        ⊎_elim (λ h. absurd (root_low h.0)) (λ c. subst (λ (a : ℕ). Chain (new_fst A) a (new_nodes (laid A).moved)) (sym (root_new A has_bytes kept)) c)
        (stands A has_bytes kept bytes small).chained
      where
        root_low : length (laid A).nodes ≡ 0 → ⊥
        root_low z =
            let ok = subst (λ (r : Laid). TargetOk (16 + length r.nodes) (new_addr r.moved A.meta.root)) (sym (laid_is A has_bytes kept)) (new_ok (old_fst A) A.nodes A.meta.root) in
            let is = root_new A has_bytes kept in
            ⊎_elim (λ q. omega arith) (λ q. omega (arith, q.0)) ok

    pub new_origin : (c : ℕ) → Memᴰ c (new_nodes (laid A).moved) → Origin A.nodes (laid A).moved c
    new_origin c mem =
        let is = laid_is A has_bytes kept in
        subst (λ (r : Laid). Origin A.nodes r.moved c) (sym is)
        (origin (old_fst A) bytes (old_chain A has_bytes kept) c (subst (λ (r : Laid). Memᴰ c (new_nodes r.moved)) is mem))

    -- the node at an address of the new chain is the image of the old one
    new_node : (c : ℕ) (m : Node) → (o : Origin A.nodes (laid A).moved c) → node_in (new_fst A) c ≡ sound m
        → mirrored (moved_to A) ((stands A has_bytes kept bytes small).images o.from o.member).first ((stands A has_bytes kept bytes small).images o.from o.member).node ≡ m
    new_node c m o e =
        let i = (stands A has_bytes kept bytes small).images o.from o.member in
        let e' = i.stands in
        let both : sound (mirrored (moved_to A) i.first i.node) ≡ sound m = sym e' ∙ ap (node_in (new_fst A)) o.is ∙ e in
        let same : mirrored (moved_to A) i.first i.node ≡ m = cc in
        same

    new_nodes_lem : Nodes (new_fst A) (new_nodes (laid A).moved)
    new_nodes_lem = record {
      chain = rooted (chain_not_zero new_chain) new_chain;
      closed = λ c m t mem e k ne.
          let o = new_origin c mem in
          let i = (stands A has_bytes kept bytes small).images o.from o.member in
          let old = map_mem (renamed (moved_to A)) i.node.transitions (rw (sym (new_node c m o e)) at k) in
          let addr_is : moved_to A old.0.addr ≡ t.addr = ap (λ (u : Transition). u.addr) old.2 in
          subst (λ (b : ℕ). Memᴰ b (new_nodes (laid A).moved)) addr_is (new_nodes_hold (laid A).moved old.0.addr (λ z. ne (sym addr_is ∙ z)));
    }

    kept_root_lt : moved_to A A.meta.root < 256 ^ 8
    kept_root_lt = omega (arith, root_new A has_bytes kept, length_converted A has_bytes, small)

    kept_root_right : root_test 2 (moved_to A A.meta.root) (length (converted A)) ≡ true
    kept_root_right =
        let root : ℕ = moved_to A A.meta.root in
        let ends : root + 1 + trailer_len 2 ≡ length (converted A) = omega (arith, root_new A has_bytes kept, length_converted A has_bytes) in
        root_some 2 root (length (converted A)) (chain_not_zero new_chain)
        ∙ rw (le-leb 16 root (chain_start_low new_chain), eq-eqb (root + 1 + trailer_len 2) (length (converted A)) ends)
    -- ---- a root that vanishes leaves a file without nodes

  module _ (gone : vanishes (node_in (old_fst A) A.meta.root) ≡ true) where
    gone_len : length (converted A) ≡ 32
    gone_len = omega (arith, length_converted A has_bytes, ap length (vanished_none A has_bytes gone))

    gone_nodes : Nodes (new_fst A) []
    gone_nodes = record { chain = empty (zero_vanished A has_bytes gone A.meta.root); closed = λ a m t mem e k ne. absurd (Memᴰ.not-nil mem) }

    gone_root_right : root_test 2 (moved_to A A.meta.root) (length (converted A)) ≡ true
    gone_root_right =
        ap (λ (r : ℕ). root_test 2 r (length (converted A))) (zero_vanished A has_bytes gone A.meta.root)
        ∙ root_none 2 (length (converted A)) ∙ eq-eqb (length (converted A)) (least_len 2) gone_len

  -- ---- paths from the new root are those from the old one

  module _ {On : ℕ → Type 0} (mirror : Mirror (old_fst A) (new_fst A) (moved_to A) On) where
    old_path : (k : List ℕ) (sum b : ℕ) → Path (new_fst A) (new_fst A).root k sum b → Back mirror A.meta.root k sum b
    old_path k sum b p =
        path_back mirror A.meta.root k sum b mirror.root_on (subst (λ (a : ℕ). Path (new_fst A) a k sum b) (sym mirror.root_is) p)

    new_shallow : Shallow (new_fst A)
    new_shallow =
        (shallow_root (new_fst A)).1 (λ k sum b p.
        let r = old_path k sum b p in
        (shallow_root (old_fst A)).0 A.shallow k sum r.to r.path)

    new_light : Light (new_fst A)
    new_light =
        (light_root (new_fst A)).1 (λ k sum b m p e.
        let r = old_path k sum b p in
        let i = mirror.image r.to r.to_on in
        let both : sound (mirrored (moved_to A) i.first i.node) ≡ sound m = sym i.stands ∙ ap (node_in (new_fst A)) r.to_is ∙ e in
        let same : mirrored (moved_to A) i.first i.node ≡ m = cc in
        let out : i.node.final_output ≡ m.final_output = ap (λ (x : Node). x.final_output) same in
        subst (λ (n : ℕ). sum + n ≤ max_sum) out ((light_root (old_fst A)).0 A.light k sum r.to i.node r.path i.judged))

  -- ---- the whole

  module _ (bytes : (i : ℕ) → get_or s i 0 < 256) (small : length (converted A) ≤ max_len) where
    file_said : moved_to A A.meta.root < 256 ^ 8 → new_fst A ≡ fst_of (converted A) (meta_of (converted A))
    unfolding meta_of
    file_said lt = sym (ap₂ (λ (v r : ℕ). fst_with (converted A) v r) version_said (root_said lt))

    whole : moved_to A A.meta.root < 256 ^ 8 → root_test 2 (moved_to A A.meta.root) (length (converted A)) ≡ true
        → (l : List ℕ) → Nodes (new_fst A) l → Shallow (new_fst A) → Light (new_fst A) → Admitted (converted A)
    unfolding meta_of
    whole lt right l nodes shallow light =
        let said = file_said lt in
        record {
          meta = meta_of (converted A);
          nodes = l;
          opens =
              opening_opened (converted A) (λ z. omega (arith, length_converted A has_bytes)) (omega (arith, length_converted A has_bytes)) small
              (rw version_said refl) (rw version_said (omega (arith, length_converted A has_bytes)))
              (ap₂ (λ (v r : ℕ). root_test v r (length (converted A))) version_said (root_said lt) ∙ right);
          chained = subst (λ (h : Fst). Nodes h l) said nodes;
          shallow = subst Shallow said shallow;
          light = subst Light said light;
        }

    root_lt : moved_to A A.meta.root < 256 ^ 8
    root_lt = go (vanishes (node_in (old_fst A) A.meta.root)) refl
      where
        go : (t : Bool) → vanishes (node_in (old_fst A) A.meta.root) ≡ t → moved_to A A.meta.root < 256 ^ 8
        go true gone = omega (arith, zero_vanished A has_bytes gone A.meta.root)
        go false kept = kept_root_lt kept bytes small

    pub converted_holds : (B : Admitted (converted A)) → SameContents A B
    unfolding meta_of
    converted_holds B =
        let is : B.meta ≡ meta_of (converted A) = (opened_facts (converted A) B.meta B.opens).is in
        let said : new_fst A ≡ fst_of (converted A) B.meta = file_said root_lt ∙ ap (fst_of (converted A)) (sym is) in
        record {
          file = said;
          version = ap (λ (m : Meta). m.version) is ∙ version_said;
          ty = ap (λ (m : Meta). m.ty) is ∙ type_said;
          count = ap (λ (m : Meta). m.len) is ∙ count_said bytes;
          there = λ k v h. subst (λ (f : Fst). Held f k v) said ((held_both A has_bytes bytes small k v).0 h);
          back = λ k v h. (held_both A has_bytes bytes small k v).1 (subst (λ (f : Fst). Held f k v) (sym said) h);
        }

    pub converted_admitted : Admitted (converted A)
    converted_admitted = go (vanishes (node_in (old_fst A) A.meta.root)) refl
      where
        go : (t : Bool) → vanishes (node_in (old_fst A) A.meta.root) ≡ t → Admitted (converted A)
        go true gone =
            let mirror = mirrors_vanished A has_bytes gone in
            whole root_lt (gone_root_right gone) [] (gone_nodes gone) (new_shallow mirror) (new_light mirror)
        go false kept =
            let mirror = mirrors_kept A has_bytes kept bytes small in
            whole root_lt (kept_root_right kept bytes small) (new_nodes (laid A).moved) (new_nodes_lem kept bytes small) (new_shallow mirror)
            (new_light mirror)
