-- From the root's run to the file: its chain, its keys, the limits on its paths, its cells.
--     FileOk ps cells g l  the file g has the chain l and holds exactly the pairs ps; paths are within the limits; the cells; that it is minimal
--     held-limits          a chain whose held keys are the listed ones is shallow and light
--     some_file            the file of a list that is not empty
--     no-file              the file of the empty list
-- Assumes nothing.
use Rattle.std.specs.Prelude.{◌≡◌, refl, Bool, true, false, cond, ◌⊎◌, ℕ, zero, suc, ◌+◌, ◌-◌, ◌≤◌, ◌<◌, length, replicate}
use Rattle.std.proofs.Math.Path.{sym}
use Rattle.std.proofs.Common.{ap, ap₂, ◌∙◌, subst, ⊎_elim, arith, length-append}
use Rattle.std.proofs.Math.Logic.{inl, inr}
use mathlib.Core.List.Memᴰ
use mathlib.Core.List.{List, [], ◌∷◌, ◌++◌, map, Memᴰ}
use Rattle.std.proofs.Math.Decide.{ℕ_discrete}
use Rattle.format.specs.declared.Transition.{Transition}
use Rattle.format.specs.Limits.{max_len, max_path, max_sum}
use Rattle.format.specs.Node.{Node, sound, empty_final, node_at}
use Rattle.format.specs.Laws.NodeLaws.{node_at_zero}
use Rattle.format.specs.Laws.NodeFacts.{node_zero_none, node_not_final}
use Rattle.format.specs.Laws.TransitionLaws.{member_at}
use Rattle.format.specs.Paths.{Fst, fst_with, node_in, Path, here, Held, HeldFrom}
use Rattle.format.specs.Laws.PathLaws.{path_nil, path_step, path_append}
use Rattle.format.specs.Admitted.{Chain, empty, rooted, RootChain, Nodes, Shallow, Light}
use Rattle.format.specs.Laws.ChainLaws.{chain_start_low, chain_not_zero, root_chain_sound, root_chain_low, root_chain_root}
use Rattle.format.specs.Laws.LiveLaws.{FinalFrom, final_zero, live_below_root, leads_to_final, path_stays}
use Rattle.format.specs.Laws.ReachedLaws.{shallow_root, light_root, held_from, from_held}
use Rattle.packing.specs.Lists.{Pair}
use Rattle.packing.specs.Registry.{transitions_in, hash_node, hash_of, Cell, empty_cell, Build, cell_at, Interned}
use Rattle.packing.specs.Packing.{start, file_of, pack_nodes, pack_file, pack_cells}
use Rattle.packing.specs.Kept.{pack_keeps, KeptSeen}
use Rattle.packing.specs.Promise.{PairOk, Listed, pair_with, SameNodes, InCell, CellOf}
use Rattle.packing.proofs.FileLaws.{Has, node_with, Reads, At}
use Rattle.packing.proofs.InternLaws.{Alike}
use Rattle.packing.proofs.BuildLaws.{Entry, InLog, OnLog, Filled, CellOk, BuildOk, addrs}
use Rattle.packing.proofs.KeptLaws.{Lost, Kept}
use Rattle.packing.proofs.RootLaws.{longest, RootOk, start_kept, run_ok}
use Rattle.packing.proofs.TrailerLaws.{length_file, file_has}

pub record FileOk (ps : List Pair) (cells : List Cell) (g : Fst) (l : List ℕ) : Type 0 where
  pub nodes : Nodes g l
  pub held : (k : List ℕ) (v : ℕ) → Held g k v → Memᴰ (pair_with k v) ps
  pub holds : (k : List ℕ) (v : ℕ) → Memᴰ (pair_with k v) ps → Held g k v
  pub shallow : Shallow g
  pub light : Light g
  pub cells_of : (i : ℕ) → (cell_at cells i ≡ empty_cell) ⊎ CellOf g l (cell_at cells i)
  pub minimal : ((a : ℕ) → Memᴰ a l → InCell cells a) → (a b : ℕ) → Memᴰ a l → Memᴰ b l → SameNodes g a b → a ≡ b

-- ---- limits on paths

module _ {g : Fst} {l : List ℕ} (nodes : Nodes g l) (pos : 0 < length g.bytes) (ps : List Pair) (listed : Listed ps)
    (held : (k : List ℕ) (v : ℕ) → Held g k v → Memᴰ (pair_with k v) ps) (some : (k : List ℕ) × (v : ℕ) × Held g k v) where
  root_live : (m : Node) → node_in g g.root ≡ sound m → (m.final ≡ true) ⊎ (0 < length m.transitions)
  root_live m e = go some.0 some.2
    where
      go : (k : List ℕ) → Held g k some.1 → (m.final ≡ true) ⊎ (0 < length m.transitions)
      go [] h =
          let p = path_nil h.path in
          let e' : node_in g g.root ≡ sound h.last = sym (ap (node_in g) p.1) ∙ h.ends in
          let same : h.last ≡ m = cc in
          inl (sym (ap (λ (x : Node). x.final) same) ∙ h.final)
      go (x ∷ k) h =
          let s = path_step h.path in
          let e' = s.judged in
          let same : s.node ≡ m = cc in
          let at = member_at (subst (λ (y : Node). Memᴰ s.by y.transitions) same s.member) in
          inr (omega (arith, at.1))

  ends_final : {k : List ℕ} {sum b : ℕ} → Path g g.root k sum b → FinalFrom g b
  ends_final {b = b} p = by (path_stays nodes (elim (ℕ_discrete g.root 0) [ yes z ↦ inl z | no z ↦ inr (root_chain_root nodes.chain z) ]) p)
    where
      by : (b ≡ 0) ⊎ Memᴰ b l → FinalFrom g b
      by (inl z) = final_zero g b pos z
      by (inr on) =
          let q = root_chain_sound nodes.chain b on in
          leads_to_final nodes b on q.0 q.1
          (elim (ℕ_discrete b g.root) [
            | yes z ↦ root_live q.0 (subst (λ (x : ℕ). node_in g x ≡ sound q.0) z q.1)
            | no z ↦
                elim (ℕ_discrete b 0) [
                  | yes y ↦ absurd (omega (arith, root_chain_low nodes.chain b on, y))
                  | no y ↦ live_below_root g b q.0 q.1 y z
                ]
          ])

  whole : {k : List ℕ} {sum b : ℕ} → Path g g.root k sum b → (f : FinalFrom g b) → PairOk max_path (pair_with (k ++ f.key) (sum + f.sum + f.last.final_output))
  whole {k} {sum} p f =
      listed.pairs _ (held (k ++ f.key) (sum + f.sum + f.last.final_output) (record {
        sum = sum + f.sum;
        to = f.to;
        last = f.last;
        path = path_append p f.path;
        ends = f.ends;
        final = f.final;
        value = refl;
      }))

  pub held_shallow : Shallow g
  held_shallow = (shallow_root g).1 (λ k sum b p. let f = ends_final p in omega (arith, (whole p f).short, length-append k f.key))

  pub held_light : Light g
  held_light = (light_root g).1 (λ k sum b m p e. go k sum b m p e m.final refl)
    where
      go : (k : List ℕ) (sum b : ℕ) (m : Node) → Path g g.root k sum b → node_in g b ≡ sound m → (x : Bool) → m.final ≡ x → sum + m.final_output ≤ max_sum
      go k sum b m p e true is = omega (arith, (whole p (record { key = []; sum = 0; to = b; last = m; path = here; ends = e; final = is })).fits)
      go k sum b m p e false is = let f = ends_final p in omega (arith, (whole p f).fits, node_not_final g b m e is)

-- ---- the log as a chain

pub record OfLog (log : List Entry) (a : ℕ) : Type 0 where
  pub entry : Entry
  pub member : Memᴰ entry log
  pub is : entry.addr ≡ a

of_log : (log : List Entry) (a : ℕ) → Memᴰ a (addrs log) → OfLog log a
of_log [] a mem = absurd (Memᴰ.not-nil mem)
of_log (e ∷ log) a mem = by (Memᴰ.cases_cons mem) (λ m. of_log log a m)
  where
    by : (a ≡ e.addr) ⊎ Memᴰ a (addrs log) → (Memᴰ a (addrs log) → OfLog log a) → OfLog (e ∷ log) a
    by (inl z) rec = record { entry = e; member = Memᴰ.head refl; is = sym z }
    by (inr m) rec = let r = rec m in record { entry = r.entry; member = Memᴰ.tail r.member; is = r.is }

log_of : {log : List Entry} {e : Entry} → Memᴰ e log → (a : ℕ) → e.addr ≡ a → Memᴰ a (addrs log)
log_of mem a z = Memᴰ.cast (sym z) (Memᴰ.map (λ (x : Entry). x.addr) mem)

module _ {B : Build} {log : List Entry} (build : BuildOk B log) (g : Fst) (has : Has B.nodes g) where
  read : (a : ℕ) (w : OfLog log a) → Reads g a w.entry.node
  read a w = subst (λ (x : ℕ). Reads g x w.entry.node) w.is ((build.stands w.entry w.member).at.reads g has)

  said : (a : ℕ) (w : OfLog log a) (m : Node) → node_in g a ≡ sound m → node_with (read a w).first w.entry.node ≡ m
  said a w m e = let e' = (read a w).is in let same : node_with (read a w).first w.entry.node ≡ m = cc in same

  pub log_closed : (a : ℕ) (m : Node) (t : Transition) → Memᴰ a (addrs log) → node_in g a ≡ sound m → Memᴰ t m.transitions → ¬ (t.addr ≡ 0)
      → Memᴰ t.addr (addrs log)
  log_closed a m t mem e k ne =
      let w = of_log log a mem in
      let k' = subst (λ (x : Node). Memᴰ t x.transitions) (sym (said a w m e)) k in
      ⊎_elim (λ z. absurd (ne z)) (λ v. log_of v.member t.addr v.is) ((build.stands w.entry w.member).closed t k')

  pub log_cells : (i : ℕ) → (cell_at B.cells i ≡ empty_cell) ⊎ CellOf g (addrs log) (cell_at B.cells i)
  unfolding hash_of
  log_cells i = go (build.cells_ok i)
    where
      go : CellOk log (length B.cells) i (cell_at B.cells i) → (cell_at B.cells i ≡ empty_cell) ⊎ CellOf g (addrs log) (cell_at B.cells i)
      go (inl z) = inl z
      go (inr f) =
          let w : OfLog log (cell_at B.cells i).addr = record { entry = f.entry; member = f.member; is = sym f.addr_is } in
          inr (record {
            node = node_with (read _ w).first f.entry.node;
            on = log_of f.member _ (sym f.addr_is);
            judged = (read _ w).is;
            hash_is = f.hash_is;
          })

  pub log_minimal : ((a : ℕ) → Memᴰ a (addrs log) → InCell B.cells a) → (a b : ℕ) → Memᴰ a (addrs log) → Memᴰ b (addrs log)
      → SameNodes g a b → a ≡ b
  log_minimal all a b ma mb s =
      let v = of_log log a ma in
      let w = of_log log b mb in
      let p = said a v s.first s.judged in
      let q = said b w s.second s.judged' in
      let alike : Alike v.entry.node w.entry.node = record {
        final = ap (λ (x : Node). x.final) p ∙ s.final ∙ sym (ap (λ (x : Node). x.final) q);
        final_output = ap (λ (x : Node). x.final_output) p ∙ s.final_output ∙ sym (ap (λ (x : Node). x.final_output) q);
        transitions = ap (λ (x : Node). x.transitions) p ∙ s.transitions ∙ sym (ap (λ (x : Node). x.transitions) q);
      } in
      sym v.is
      ∙ build.minimal v.entry w.entry v.member w.member (subst (InCell B.cells) (sym v.is) (all a ma)) (subst (InCell B.cells) (sym w.is) (all b mb)) alike
      ∙ w.is

-- ---- what the run kept, seen from outside

log_kept : {B : Build} {log : List Entry} (y : Bool) → Kept B log y → KeptSeen y B.cells (addrs log)
log_kept {B} {log} y w = record {
  kept = λ t a mem. let v = of_log log a mem in subst (InCell B.cells) v.is (w.all t v.entry v.member);
  seen = λ all. go y refl all;
}
  where
    go : (z : Bool) → y ≡ z → ((a : ℕ) → Memᴰ a (addrs log) → InCell B.cells a) → y ≡ true
    go true e all = e
    go false e all = let l = w.lost e in absurd (l.gone (all l.entry.addr (log_of l.member l.entry.addr refl)))

-- ---- address 0 is the same node in every file

zero_held : (f g : Fst) → 0 < length f.bytes → 0 < length g.bytes → (k : List ℕ) (v : ℕ) → HeldFrom f 0 k v → HeldFrom g 0 k v
zero_held f g pf pg [] v h =
    let p = path_nil h.path in
    let e : node_in f 0 ≡ sound h.last = sym (ap (node_in f) p.1) ∙ h.ends in
    let e' = node_at_zero f.bytes f.version f.root pf in
    let same : h.last ≡ empty_final = cc in
    record {
      sum = 0;
      to = 0;
      last = empty_final;
      path = here;
      ends = node_at_zero g.bytes g.version g.root pg;
      final = refl;
      value = omega (arith, h.value, p.0, ap (λ (m : Node). m.final_output) same);
    }
zero_held f g pf pg (x ∷ k) v h = let s = path_step h.path in absurd (node_zero_none f 0 s.node s.judged refl s.by s.member)

-- ---- a list that is not empty

module _ (p : Pair) (ps : List Pair) (m : ℕ) (listed : Listed (p ∷ ps)) (small : length (pack_file (p ∷ ps) m) ≤ max_len) where
  abbrev r : Interned
  r = pack_nodes (p ∷ ps) m

  abbrev g : Fst
  g = fst_with (pack_file (p ∷ ps) m) 2 r.addr

  -- the same with its root at the end of the nodes
  abbrev g₀ : Fst
  g₀ = fst_with (pack_file (p ∷ ps) m) 2 (15 + length r.build.nodes)

  size : length (pack_file (p ∷ ps) m) ≡ 32 + length r.build.nodes
  size = length_file (length (p ∷ ps)) r

  has₀ : Has r.build.nodes g₀
  has₀ = file_has (length (p ∷ ps)) r (15 + length r.build.nodes) (omega arith) (omega (arith, small, size))

  pub run : RootOk g₀ (length (longest p ps).pair.key) (start (replicate m empty_cell)).build [] (pack_keeps (p ∷ ps) m) r (λ k v. Memᴰ (pair_with k v) (p ∷ ps))
  run = run_ok g₀ p ps m listed has₀

  -- with root 0 no node was written
  no_log : length r.build.nodes ≡ 0 → run.log ≡ []
  no_log z = ⊎_elim (λ q. q.1) (λ c. absurd (omega (arith, chain_start_low c))) (run.build.chained g₀ has₀)

  -- what the root holds, in the file itself
  held_both : (k : List ℕ) (v : ℕ) → (Held g k v → Memᴰ (pair_with k v) (p ∷ ps)) × (Memᴰ (pair_with k v) (p ∷ ps) → Held g k v)
  held_both k v = by run.place
    where
      pos : (a : ℕ) → 0 < length (fst_with (pack_file (p ∷ ps) m) 2 a).bytes
      pos a = omega (arith, size)

      by : ((r.addr ≡ 0) × (length r.build.nodes ≡ 0)) ⊎ ((r.addr ≡ 15 + length r.build.nodes) × (0 < length r.build.nodes))
          → (Held g k v → Memᴰ (pair_with k v) (p ∷ ps)) × (Memᴰ (pair_with k v) (p ∷ ps) → Held g k v)
      by (inl (z, none)) = (
        λ h. run.holds k v (subst (λ (a : ℕ). HeldFrom g₀ a k v) (sym z) (zero_held g g₀ (pos r.addr) (pos (15 + length r.build.nodes)) k v (subst (λ (a : ℕ). HeldFrom g a k v) z (held_from h)))),
        λ mem. from_held (subst (λ (a : ℕ). HeldFrom g a k v) (sym z) (zero_held g₀ g (pos (15 + length r.build.nodes)) (pos r.addr) k v (subst (λ (a : ℕ). HeldFrom g₀ a k v) z (run.back k v mem)))),
      )
      by (inr (e, some)) =
          let same : g₀ ≡ g = ap (fst_with (pack_file (p ∷ ps) m) 2) (sym e) in (
            λ h. run.holds k v (subst (λ (f : Fst). HeldFrom f r.addr k v) (sym same) (held_from h)),
            λ mem. from_held (subst (λ (f : Fst). HeldFrom f r.addr k v) same (run.back k v mem)),
          )

  some_nodes : Nodes g (addrs run.log)
  some_nodes = by run.place
    where
      by : ((r.addr ≡ 0) × (length r.build.nodes ≡ 0)) ⊎ ((r.addr ≡ 15 + length r.build.nodes) × (0 < length r.build.nodes)) → Nodes g (addrs run.log)
      by (inl (z, none)) =
          subst (λ (log : List Entry). Nodes g (addrs log)) (sym (no_log none))
          (record { chain = empty z; closed = λ a m t mem e k ne. absurd (Memᴰ.not-nil mem) })
      by (inr (e, some)) =
          let same : g₀ ≡ g = ap (fst_with (pack_file (p ∷ ps) m) 2) (sym e) in
          subst (λ (f : Fst). Nodes f (addrs run.log)) same (record {
            chain = ⊎_elim (λ q. absurd (omega (arith, q.0, some))) (λ c. rooted (chain_not_zero c) c) (run.build.chained g₀ has₀);
            closed = log_closed run.build g₀ has₀;
          })

  cells_minimal : ((i : ℕ) → (cell_at (pack_cells (p ∷ ps) m) i ≡ empty_cell) ⊎ CellOf g (addrs run.log) (cell_at (pack_cells (p ∷ ps) m) i))
      × (((a : ℕ) → Memᴰ a (addrs run.log) → InCell (pack_cells (p ∷ ps) m) a) → (a b : ℕ) → Memᴰ a (addrs run.log) → Memᴰ b (addrs run.log)
      → SameNodes g a b → a ≡ b)
  cells_minimal = by run.place
    where
      by : ((r.addr ≡ 0) × (length r.build.nodes ≡ 0)) ⊎ ((r.addr ≡ 15 + length r.build.nodes) × (0 < length r.build.nodes))
          → ((i : ℕ) → (cell_at (pack_cells (p ∷ ps) m) i ≡ empty_cell) ⊎ CellOf g (addrs run.log) (cell_at (pack_cells (p ∷ ps) m) i))
          × (((a : ℕ) → Memᴰ a (addrs run.log) → InCell (pack_cells (p ∷ ps) m) a) → (a b : ℕ) → Memᴰ a (addrs run.log) → Memᴰ b (addrs run.log)
          → SameNodes g a b → a ≡ b)
      by (inl (z, none)) = (
        λ i. ⊎_elim (λ q. inl q) (λ f. absurd (Memᴰ.not-nil (subst (λ (log : List Entry). Memᴰ f.entry log) (no_log none) f.member))) (run.build.cells_ok i),
        λ all a b ma mb s. absurd (Memᴰ.not-nil (subst (λ (log : List Entry). Memᴰ a (addrs log)) (no_log none) ma)),
      )
      by (inr (e, some)) =
          let same : g₀ ≡ g = ap (fst_with (pack_file (p ∷ ps) m) 2) (sym e) in (
            λ i. subst (λ (f : Fst). (cell_at (pack_cells (p ∷ ps) m) i ≡ empty_cell) ⊎ CellOf f (addrs run.log) (cell_at (pack_cells (p ∷ ps) m) i)) same (log_cells run.build g₀ has₀ i),
            λ all a b ma mb s. log_minimal run.build g₀ has₀ all a b ma mb (subst (λ (f : Fst). SameNodes f a b) (sym same) s),
          )

  pub some_file : FileOk (p ∷ ps) (pack_cells (p ∷ ps) m) g (addrs run.log)
  some_file =
      let pos : 0 < length g.bytes = omega (arith, size) in
      let held : (k : List ℕ) (v : ℕ) → Held g k v → Memᴰ (pair_with k v) (p ∷ ps) = λ k v. (held_both k v).0 in
      let any : (k : List ℕ) × (v : ℕ) × Held g k v = (p.key, p.value, (held_both p.key p.value).1 (Memᴰ.head refl)) in
      record {
        nodes = some_nodes;
        held = held;
        holds = λ k v. (held_both k v).1;
        shallow = held_shallow some_nodes pos (p ∷ ps) listed held any;
        light = held_light some_nodes pos (p ∷ ps) listed held any;
        cells_of = cells_minimal.0;
        minimal = cells_minimal.1;
      }

  pub some_kept : 2 ≤ m → KeptSeen (pack_keeps (p ∷ ps) m) (pack_cells (p ∷ ps) m) (addrs run.log)
  some_kept two = log_kept (pack_keeps (p ∷ ps) m) (run.kept true (start_kept m two))
