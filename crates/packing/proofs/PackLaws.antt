-- The whole: a packed list is admitted, says what it is, and holds exactly the pairs.
--     no_file              the file of the empty list: one node that is neither final nor has a transition
--     pack_admitted        the file of every list that is not too large is admitted
--     pack_kept            whether a filled cell was overwritten is seen from the cells and the nodes
--     pack_right           it opens as version 2, type 0, with the number of keys; it holds a key with a value exactly where the list has them;
--                          each cell is empty or has a node's address and hash; where every node still stands in a cell, no two nodes are the same
-- Assumes nothing.
use Rattle.std.proofs.Math.Path.{◌≡◌, refl, sym, ap, subst}
use Rattle.std.proofs.Common.{◌∙◌, arith}
use Rattle.std.specs.Prelude.{Bool, false, ◌⊎◌, ℕ, ◌+◌, ◌^◌, ◌≤◌, ◌<◌, replicate}
use Rattle.std.proofs.Math.Bool.{true}
use Rattle.std.proofs.Math.Logic.{inl, inr, ⊎_elim}
use Rattle.std.proofs.Math.Option.{none}
use mathlib.Core.List.Memᴰ
use mathlib.Core.List.{List, [], ◌∷◌, ◌++◌, Memᴰ}
use borrow.Author.Tests.{eq-eqb}
use Rattle.std.proofs.Math.ListN.{length}
use Rattle.std.proofs.lemmas.List.{length-replicate}
use Rattle.format.specs.declared.Transition.{Transition}
use Rattle.format.specs.Limits.{max_len, max_path, max_sum}
use Rattle.format.specs.Node.{Node, sound, transitions_of, Ascending, Useful}
use Rattle.format.specs.Opening.{Meta, meta_of}
use Rattle.format.specs.Laws.OpeningLaws.{opened_facts}
use Rattle.format.specs.Packed.{BuilderNode, Ranges, TargetsOk, RecordOk, packed, packs_to_nothing}
use Rattle.format.specs.Paths.{Fst, fst_with, fst_of, node_in, Path, Held}
use Rattle.format.specs.Laws.PathLaws.{path_nil, path_step}
use Rattle.format.specs.Admitted.{Chain, last, rooted, Nodes, Shallow, Light, Admitted}
use Rattle.format.specs.Laws.ChainLaws.{root_chain_unique}
use Rattle.format.specs.Laws.ReachedLaws.{shallow_root, light_root}
use Rattle.packing.specs.Lists.{Pair}
use Rattle.packing.specs.Registry.{hash_node, hash_of, Cell, empty_cell, Build, cell_at, row_of, Interned, intern}
use Rattle.packing.specs.Packing.{record_of, start, insert_all, pack_nodes, pack_file, pack_cells}
use Rattle.packing.specs.Kept.{keeps, pack_keeps, insert_all_keeps, KeptSeen}
use Rattle.packing.specs.Promise.{Listed, pair_with, SameNodes, InCell, CellOf, PackRight}
use Rattle.packing.proofs.FileLaws.{Has, node_with, packed_some, written_reads}
use Rattle.packing.proofs.InternLaws.{match_filled}
use Rattle.packing.proofs.BuildLaws.{row_set_lem, Interning, nothing, first, second, wrote, intern_cases}
use Rattle.packing.proofs.RootLaws.{cell_empty}
use Rattle.packing.proofs.TrailerLaws.{length_file, file_has, version_said, type_said, count_said, Placed, file_said, file_opens}
use Rattle.packing.proofs.KeptLaws.{first_set, keeps_wrote}
use Rattle.packing.proofs.WholeFileLaws.{FileOk, run, some_file, some_kept}
use Rattle.packing.proofs.RootLaws.{RootOk}
use Rattle.packing.proofs.BuildLaws.{addrs}

-- ---- the empty list

-- neither final nor with a transition
abbrev bare_node : BuilderNode
bare_node = record { final = false; final_output = 0; inputs = []; outputs = []; targets = [] }

bare_ranges : Ranges bare_node
bare_ranges = record { input_lt = λ i l. absurd (omega arith); output_lt = λ i l. absurd (omega arith); final_lt = omega arith }

bare_ok : 16 ≤ max_len → RecordOk 16 bare_node
unfolding Ascending TargetsOk
bare_ok small = record {
  few = omega arith;
  outputs_len = refl;
  targets_len = refl;
  ascending = λ i l. absurd (omega arith);
  first_low = omega arith;
  first_high = small;
  targets_ok = λ i l. absurd (omega arith);
  final_ok = λ e. refl;
}

record NoneOk (m : ℕ) (r : Interned) : Type 0 where
  nodes_is : r.build.nodes ≡ packed 16 bare_node
  addr_is : r.addr ≡ 15 + length r.build.nodes
  cells_are : (i : ℕ) → (cell_at r.build.cells i ≡ empty_cell) ⊎ (cell_at r.build.cells i ≡ record { addr = r.addr; hash = hash_of bare_node })
  in_cell : 2 ≤ m → InCell r.build.cells r.addr

module _ (m : ℕ) where
  abbrev blank : Build
  blank = record { nodes = []; cells = replicate m empty_cell }

  none_by : (r : Interned) → Interning blank bare_node r → NoneOk m r
  none_by r (nothing e) = absurd (let z : ◌≡◌ {A = ℕ} 0 1 = cc in omega arith)
  none_by r (first e f) = absurd (match_filled [] (omega arith) bare_node _ f (ap (λ (c : Cell). c.addr) (cell_empty m (row_of blank.cells bare_node))))
  none_by r (second e f) = absurd (match_filled [] (omega arith) bare_node _ f (ap (λ (c : Cell). c.addr) (cell_empty m (row_of blank.cells bare_node + 1))))
  none_by r (wrote e f h) = record {
    nodes_is = refl;
    addr_is = refl;
    cells_are =
        row_set_lem (λ (j : ℕ) (c : Cell). (c ≡ empty_cell) ⊎ (c ≡ record { addr = 15 + length (packed 16 bare_node); hash = hash_of bare_node })) blank.cells (row_of blank.cells bare_node) _ _
        (inr refl) (inl (cell_empty m (row_of blank.cells bare_node))) (λ j. inl (cell_empty m j));
    in_cell = λ two. (row_of blank.cells bare_node, ap (λ (c : Cell). c.addr) (first_set blank.cells bare_node _ _ (omega (arith, two, length-replicate m empty_cell))));
  }

  none_keeps : pack_keeps [] m ≡ true
  unfolding pack_keeps insert_all_keeps insert_all record_of keeps
  none_keeps = none_by_keeps (intern_cases blank bare_node)
    where
      none_by_keeps : {r : Interned} → Interning blank bare_node r → keeps blank bare_node ≡ true
      none_by_keeps (nothing e) = absurd (let z : ◌≡◌ {A = ℕ} 0 1 = cc in omega arith)
      none_by_keeps (first e f) = absurd (match_filled [] (omega arith) bare_node _ f (ap (λ (c : Cell). c.addr) (cell_empty m (row_of blank.cells bare_node))))
      none_by_keeps (second e f) = absurd (match_filled [] (omega arith) bare_node _ f (ap (λ (c : Cell). c.addr) (cell_empty m (row_of blank.cells bare_node + 1))))
      none_by_keeps (wrote e f h) = keeps_wrote blank bare_node e f h ∙ eq-eqb _ 1 (ap (λ (c : Cell). c.addr) (cell_empty m (row_of blank.cells bare_node + 1)))

  none_ok : NoneOk m (pack_nodes [] m)
  unfolding pack_nodes insert_all record_of
  none_ok = none_by (intern blank bare_node) (intern_cases blank bare_node)

  module _ (small : length (pack_file [] m) ≤ max_len) where
    abbrev r : Interned
    r = pack_nodes [] m

    abbrev g : Fst
    g = fst_with (pack_file [] m) 2 r.addr

    some : 0 < length r.build.nodes
    some = rw none_ok.nodes_is (omega (arith, packed_some 16 bare_node refl))

    has : Has (packed 16 bare_node) g
    has =
        subst (λ (l : List ℕ). Has l g) none_ok.nodes_is
        (file_has 0 r r.addr (omega (arith, none_ok.addr_is)) (omega (arith, none_ok.addr_is, small, length_file 0 r)))

    read : node_in g r.addr ≡ sound (node_with 16 bare_node)
    unfolding Useful
    read =
        let is : r.addr ≡ 15 + length (packed 16 bare_node) = none_ok.addr_is ∙ ap (λ (l : List ℕ). 15 + length l) none_ok.nodes_is in
        ap (node_in g) is ∙ written_reads [] bare_node refl bare_ranges bare_ok g has (inr (inr (sym is)))

    same : (n : Node) → node_in g r.addr ≡ sound n → n ≡ node_with 16 bare_node
    same n e = let e' = read in let q : n ≡ node_with 16 bare_node = cc in q

    no_transition : (t : Transition) → Memᴰ t (transitions_of [] [] []) → ⊥
    unfolding transitions_of
    no_transition t mem = Memᴰ.not-nil mem

    only_here : (k : List ℕ) (sum b : ℕ) → Path g r.addr k sum b → (length k ≡ 0) × (sum ≡ 0) × (b ≡ r.addr)
    only_here [] sum b p = let q = path_nil p in (refl, q.0, q.1)
    only_here (x ∷ k) sum b p =
        let s = path_step p in
        absurd (no_transition s.by (subst (λ (n : Node). Memᴰ s.by n.transitions) (same s.node s.judged) s.member))

    never : (k : List ℕ) (v : ℕ) → Held g k v → ⊥
    never k v h =
        let q = only_here k h.sum h.to h.path in
        let is = same h.last (sym (ap (node_in g) q.2) ∙ h.ends) in
        let e : false ≡ true = sym (ap (λ (n : Node). n.final) is) ∙ h.final in
        let z : ◌≡◌ {A = ℕ} 0 1 = cc in
        omega arith

    none_nodes : Nodes g (r.addr ∷ [])
    none_nodes = record {
      chain = rooted (λ z. omega (arith, none_ok.addr_is)) (last (node_with 16 bare_node) read refl);
      closed = λ a n t mem e k ne.
          absurd (no_transition t (subst (λ (x : Node). Memᴰ t x.transitions) (same n (subst (λ (b : ℕ). node_in g b ≡ sound n) (Memᴰ.eq_of_singleton mem) e)) k));
    }

    pub no_file : FileOk [] (pack_cells [] m) g (r.addr ∷ [])
    unfolding hash_of transitions_of
    no_file = record {
      nodes = none_nodes;
      held = λ k v h. absurd (never k v h);
      holds = λ k v mem. absurd (Memᴰ.not-nil mem);
      shallow = (shallow_root g).1 (λ k sum b p. omega (arith, (only_here k sum b p).0));
      light = (light_root g).1 (λ k sum b n p e.
          let q = only_here k sum b p in
          omega (arith, q.1, ap (λ (x : Node). x.final_output) (same n (sym (ap (node_in g) q.2) ∙ e))));
      cells_of = λ i. ⊎_elim (λ z. inl z) (λ z. inr (subst (CellOf g (r.addr ∷ [])) (sym z) cell)) (none_ok.cells_are i);
      minimal = λ all a b ma mb s. Memᴰ.eq_of_singleton ma ∙ sym (Memᴰ.eq_of_singleton mb);
    }
      where
        cell : CellOf g (r.addr ∷ []) (record { addr = r.addr; hash = hash_of bare_node })
        cell = record { node = node_with 16 bare_node; on = Memᴰ.head refl; judged = read; hash_is = refl }

    pub none_kept : 2 ≤ m → KeptSeen (pack_keeps [] m) (pack_cells [] m) (r.addr ∷ [])
    none_kept two = record {
      kept = λ t a mem. subst (InCell (pack_cells [] m)) (sym (Memᴰ.eq_of_singleton mem)) (none_ok.in_cell two);
      seen = λ all. none_keeps;
    }

-- ---- every list

pub record PackedOk (ps : List Pair) (m : ℕ) : Type 0 where
  pub chain : List ℕ
  pub file : FileOk ps (pack_cells ps m) (fst_with (pack_file ps m) 2 (pack_nodes ps m).addr) chain
  pub place : Placed (length ps) (pack_nodes ps m)
  pub kept : 2 ≤ m → KeptSeen (pack_keeps ps m) (pack_cells ps m) chain

pub packed_ok : (ps : List Pair) (m : ℕ) → Listed ps → length (pack_file ps m) ≤ max_len → PackedOk ps m
packed_ok [] m listed small = record { chain = (pack_nodes [] m).addr ∷ []; file = no_file m small; place = inr ((none_ok m).addr_is, some m small); kept = none_kept m small }
packed_ok (p ∷ ps) m listed small =
    record { chain = addrs (run p ps m listed small).log; file = some_file p ps m listed small; place = (run p ps m listed small).place; kept = some_kept p ps m listed small }

module _ (ps : List Pair) (m : ℕ) (listed : Listed ps) (small : length (pack_file ps m) ≤ max_len) where
  ok : PackedOk ps m
  ok = packed_ok ps m listed small

  said : fst_with (pack_file ps m) 2 (pack_nodes ps m).addr ≡ fst_of (pack_file ps m) (meta_of (pack_file ps m))
  said = file_said (length ps) (pack_nodes ps m) small ok.place

  pub pack_admitted : Admitted (pack_file ps m)
  pack_admitted = record {
    meta = meta_of (pack_file ps m);
    nodes = ok.chain;
    opens = file_opens (length ps) (pack_nodes ps m) small ok.place;
    chained = subst (λ (f : Fst). Nodes f ok.chain) said ok.file.nodes;
    shallow = subst Shallow said ok.file.shallow;
    light = subst Light said ok.file.light;
  }

  -- however it is admitted
  pub pack_kept : 2 ≤ m → (A : Admitted (pack_file ps m)) → KeptSeen (pack_keeps ps m) (pack_cells ps m) A.nodes
  pack_kept two A =
      let is : A.meta ≡ meta_of (pack_file ps m) = (opened_facts (pack_file ps m) A.meta A.opens).is in
      let g_is : fst_with (pack_file ps m) 2 (pack_nodes ps m).addr ≡ fst_of (pack_file ps m) A.meta = said ∙ ap (fst_of (pack_file ps m)) (sym is) in
      let f = subst (λ (g : Fst). FileOk ps (pack_cells ps m) g ok.chain) g_is ok.file in
      subst (KeptSeen (pack_keeps ps m) (pack_cells ps m)) (root_chain_unique f.nodes.chain A.chained.chain) (ok.kept two)

  pub pack_right : length ps < 256 ^ 8 → (A : Admitted (pack_file ps m)) → PackRight ps m A
  unfolding meta_of
  pack_right few A =
      let is : A.meta ≡ meta_of (pack_file ps m) = (opened_facts (pack_file ps m) A.meta A.opens).is in
      let g_is : fst_with (pack_file ps m) 2 (pack_nodes ps m).addr ≡ fst_of (pack_file ps m) A.meta = said ∙ ap (fst_of (pack_file ps m)) (sym is) in
      let f = subst (λ (g : Fst). FileOk ps (pack_cells ps m) g ok.chain) g_is ok.file in
      let chain_is : ok.chain ≡ A.nodes = root_chain_unique f.nodes.chain A.chained.chain in
      let h = subst (FileOk ps (pack_cells ps m) (fst_of (pack_file ps m) A.meta)) chain_is f in
      record {
        version = ap (λ (x : Meta). x.version) is ∙ version_said (length ps) (pack_nodes ps m);
        ty = ap (λ (x : Meta). x.ty) is ∙ type_said (length ps) (pack_nodes ps m);
        count = ap (λ (x : Meta). x.len) is ∙ count_said (length ps) (pack_nodes ps m) few;
        held = h.held;
        holds = h.holds;
        cells = h.cells_of;
        minimal = h.minimal;
      }
