-- What the run's nodes and cells keep while records are interned.
--     Entry, InLog         a node that was written: its address and its record; an address of the log
--     BuildOk B log        the nodes are those of the log (last written first), a chain; each filled cell has the address of one and its hash,
--                          in the hash's row; of two nodes that stand in cells and are alike, the addresses are equal
--     Fine nodes log b     what a record needs to be written after the nodes
--     intern_cases         the four ways to an address
--     intern_ok            an interned record is read at its address, and `BuildOk` is kept
-- Assumes nothing.
use Rattle.std.specs.Prelude.{◌≡◌, refl, Bool, true, false, cond, ◌&&◌, not, ◌⊎◌, ℕ, zero, suc, ◌+◌, ◌-◌, ◌*◌, ◌/◌, ◌%◌, ◌≤◌, ◌<◌, get_or, set, replicate}
use Rattle.std.proofs.Common.{sym, ap, ap₂, ◌∙◌, subst, ⊎_elim, arith, length-set, length-append}
use Rattle.std.proofs.Math.Logic.{inl, inr}
use mathlib.Core.List.Memᴰ
use mathlib.Core.List.{List, [], ◌∷◌, ◌++◌, append-nil, map, Memᴰ}
use Rattle.std.proofs.Math.Decide.{ℕ_discrete}
use Rattle.std.proofs.Math.ListN.{length}
use Rattle.format.specs.declared.Transition.{Transition}
use Rattle.format.specs.Limits.{max_len}
use Rattle.format.specs.Node.{Useful}
use Rattle.format.specs.Packed.{BuilderNode, Ranges, RecordOk, packed, packs_to_nothing}
use Rattle.format.specs.Paths.{Fst, fst_with}
use Rattle.format.specs.Admitted.{Chain, last, next}
use Rattle.format.specs.Laws.ChainLaws.{chain_start_low}
use Rattle.packing.specs.Registry.{transitions_in, hash_of, Cell, empty_cell, Build, cell_at, row_of, matches, Interned, row_set, write_node, promote, intern}
use Rattle.packing.specs.Promise.{InCell}
use Rattle.packing.proofs.FileLaws.{Has, has_less, has_stored, node_with, Reads, At, at_more, zero_at, grown, grown_more, written_reads, written_at}
use Rattle.packing.proofs.InternLaws.{Alike, alike_sym, alike_trans, alike_hash, at_alike, reads_same, match_means, match_filled, match_of}

pub record Entry : Type 0 where
  pub addr : ℕ
  pub node : BuilderNode

abbrev pub addrs : List Entry → List ℕ
addrs log = map (λ (e : Entry). e.addr) log

pub record InLog (a : ℕ) (log : List Entry) : Type 0 where
  pub entry : Entry
  pub member : Memᴰ entry log
  pub is : entry.addr ≡ a

-- 0, or a node that was written
abbrev pub OnLog : ℕ → List Entry → Type 0
OnLog a log = (a ≡ 0) ⊎ InLog a log

pub in_log_more : {a : ℕ} {log : List Entry} (e : Entry) → InLog a log → InLog a (e ∷ log)
in_log_more e w = record { entry = w.entry; member = Memᴰ.tail w.member; is = w.is }

pub on_log_more : {a : ℕ} {log : List Entry} (e : Entry) → OnLog a log → OnLog a (e ∷ log)
on_log_more e (inl z) = inl z
on_log_more e (inr w) = inr (in_log_more e w)

pub record Stands (nodes : List ℕ) (log : List Entry) (e : Entry) : Type 0 where
  pub at : At nodes e.node e.addr
  pub low : 16 ≤ e.addr
  pub high : e.addr < 16 + length nodes
  pub live : (e.node.final ≡ true) ⊎ (0 < length e.node.inputs)
  pub closed : (t : Transition) → Memᴰ t (transitions_in e.node) → OnLog t.addr log

-- the cell c at place i of n
pub record Filled (log : List Entry) (n i : ℕ) (c : Cell) : Type 0 where
  pub entry : Entry
  pub member : Memᴰ entry log
  pub addr_is : c.addr ≡ entry.addr
  pub hash_is : c.hash ≡ hash_of entry.node
  pub row : i / 2 ≡ hash_of entry.node % (n / 2)

abbrev pub CellOk : List Entry → ℕ → ℕ → Cell → Type 0
CellOk log n i c = (c ≡ empty_cell) ⊎ Filled log n i c

abbrev pub Chained : List ℕ → List Entry → Fst → Type 0
Chained nodes log g = ((length nodes ≡ 0) × (log ≡ [])) ⊎ Chain g (15 + length nodes) (addrs log)

abbrev pub Minimal : List Entry → List Cell → Type 0
Minimal log cells = (d e : Entry) → Memᴰ d log → Memᴰ e log → InCell cells d.addr → InCell cells e.addr → Alike d.node e.node → d.addr ≡ e.addr

pub record BuildOk (B : Build) (log : List Entry) : Type 0 where
  pub stands : (e : Entry) → Memᴰ e log → Stands B.nodes log e
  pub chained : (g : Fst) → Has B.nodes g → Chained B.nodes log g
  pub cells_ok : (i : ℕ) → CellOk log (length B.cells) i (cell_at B.cells i)
  pub minimal : Minimal log B.cells

pub record Fine (nodes : List ℕ) (log : List Entry) (b : BuilderNode) : Type 0 where
  pub ranges : Ranges b
  pub ok : 16 + length nodes ≤ max_len → RecordOk (16 + length nodes) b
  pub live : (b.final ≡ true) ⊎ (0 < length b.inputs)
  pub closed : (t : Transition) → Memᴰ t (transitions_in b) → OnLog t.addr log

-- ---- cells

pub cell_set : (P : ℕ → Cell → Type 0) (cells : List Cell) (i : ℕ) (c : Cell) → P i c → ((j : ℕ) → P j (cell_at cells j))
    → (j : ℕ) → P j (cell_at (set cells i c) j)
cell_set P [] i c p all j = all j
cell_set P (x ∷ xs) zero c p all zero = p
cell_set P (x ∷ xs) zero c p all (suc j) = all (suc j)
cell_set P (x ∷ xs) (suc i) c p all zero = all zero
cell_set P (x ∷ xs) (suc i) c p all (suc j) = cell_set (λ (k : ℕ). P (suc k)) xs i c p (λ k. all (suc k)) j

pub row_set_lem : (P : ℕ → Cell → Type 0) (cells : List Cell) (i : ℕ) (c d : Cell) → P i c → P (i + 1) d → ((j : ℕ) → P j (cell_at cells j))
    → (j : ℕ) → P j (cell_at (row_set cells i c d) j)
row_set_lem P cells i c d p q all = cell_set P (set cells i c) (i + 1) d q (cell_set P cells i c p all)

pub length_row_set : (cells : List Cell) (i : ℕ) (c d : Cell) → length (row_set cells i c d) ≡ length cells
length_row_set cells i c d = length-set (set cells i c) (i + 1) d ∙ length-set cells i c

-- a cell may stand anywhere in its row
cell_moves : {log : List Entry} {n : ℕ} (i j : ℕ) {c : Cell} → i / 2 ≡ j / 2 → CellOk log n i c → CellOk log n j c
cell_moves i j same (inl e) = inl e
cell_moves i j same (inr f) = inr (record { entry = f.entry; member = f.member; addr_is = f.addr_is; hash_is = f.hash_is; row = sym same ∙ f.row })

cell_more : {log : List Entry} {n i : ℕ} {c : Cell} (e : Entry) → CellOk log n i c → CellOk (e ∷ log) n i c
cell_more e (inl z) = inl z
cell_more e (inr f) = inr (record { entry = f.entry; member = Memᴰ.tail f.member; addr_is = f.addr_is; hash_is = f.hash_is; row = f.row })

-- the row of a record
pub row_first : (cells : List Cell) (b : BuilderNode) → row_of cells b / 2 ≡ hash_of b % (length cells / 2)
unfolding row_of
row_first cells b = omega arith

pub row_second : (cells : List Cell) (b : BuilderNode) → (row_of cells b + 1) / 2 ≡ hash_of b % (length cells / 2)
unfolding row_of
row_second cells b = omega arith

row_place : (cells : List Cell) (b : BuilderNode) (i : ℕ) → i / 2 ≡ hash_of b % (length cells / 2) → (i ≡ row_of cells b) ⊎ (i ≡ row_of cells b + 1)
unfolding row_of
row_place cells b i e =
    elim (ℕ_discrete (i % 2) 0) [ yes z ↦ inl (omega arith) | no z ↦ inr (omega arith) ]

-- ---- the four ways

pub data Interning (B : Build) (b : BuilderNode) : Interned → Type 0 where
  nothing : packs_to_nothing b ≡ true → Interning B b (record { build = B; addr = 0 })
  first : packs_to_nothing b ≡ false → matches B.nodes b (cell_at B.cells (row_of B.cells b)) ≡ true
      → Interning B b (record { build = B; addr = (cell_at B.cells (row_of B.cells b)).addr })
  second : packs_to_nothing b ≡ false → matches B.nodes b (cell_at B.cells (row_of B.cells b + 1)) ≡ true → Interning B b (promote B (row_of B.cells b))
  wrote : packs_to_nothing b ≡ false → matches B.nodes b (cell_at B.cells (row_of B.cells b)) ≡ false
      → matches B.nodes b (cell_at B.cells (row_of B.cells b + 1)) ≡ false
      → Interning B b (write_node B b (B.nodes ++ packed (16 + length B.nodes) b))

pub intern_cases : (B : Build) (b : BuilderNode) → Interning B b (intern B b)
unfolding intern
intern_cases B b =
    go (packs_to_nothing b) refl (matches B.nodes b (cell_at B.cells (row_of B.cells b))) refl
    (matches B.nodes b (cell_at B.cells (row_of B.cells b + 1))) refl
  where
    go : (x : Bool) → packs_to_nothing b ≡ x → (y : Bool) → matches B.nodes b (cell_at B.cells (row_of B.cells b)) ≡ y
        → (z : Bool) → matches B.nodes b (cell_at B.cells (row_of B.cells b + 1)) ≡ z
        → Interning B b (cond x (record { build = B; addr = 0 }) (cond y (record { build = B; addr = (cell_at B.cells (row_of B.cells b)).addr })
        (cond z (promote B (row_of B.cells b)) (write_node B b (B.nodes ++ packed (16 + length B.nodes) b)))))
    go true p y q z r = nothing p
    go false p true q z r = first p q
    go false p false q true r = second p r
    go false p false q false r = wrote p q r

-- what is added to the log
abbrev pub added_by : {B : Build} {b : BuilderNode} {r : Interned} → Interning B b r → List Entry
added_by (nothing e) = []
added_by (first e f) = []
added_by (second e f) = []
added_by {B} {b} (wrote e f h) = record { addr = 15 + length (B.nodes ++ packed (16 + length B.nodes) b); node = b } ∷ []

-- ---- what is kept

pub record InternOk (B : Build) (b : BuilderNode) (log : List Entry) (r : Interned) : Type 0 where
  pub added : List Entry
  pub build : BuildOk r.build (added ++ log)
  pub added_is : (e : Entry) → Memᴰ e added → (e.node ≡ b) × (e.addr ≡ r.addr)
  pub at : At r.build.nodes b r.addr
  pub on : OnLog r.addr (added ++ log)
  pub more : List ℕ
  pub nodes_is : r.build.nodes ≡ B.nodes ++ more
  pub way : Interning B b r
  pub added_by_lem : added ≡ added_by way

module _ (B : Build) (log : List Entry) (ok : BuildOk B log) (small : 15 + length B.nodes < max_len) (b : BuilderNode) where
  none_added : (e : Entry) (a : ℕ) → Memᴰ e [] → (e.node ≡ b) × (e.addr ≡ a)
  none_added e a mem = absurd (Memᴰ.not-nil mem)

  -- the cell at i matches
  pub matched : (i : ℕ) → matches B.nodes b (cell_at B.cells i) ≡ true → At B.nodes b (cell_at B.cells i).addr × InLog (cell_at B.cells i).addr log
  matched i e = go (ok.cells_ok i)
    where
      go : CellOk log (length B.cells) i (cell_at B.cells i) → At B.nodes b (cell_at B.cells i).addr × InLog (cell_at B.cells i).addr log
      go (inl z) = absurd (match_filled B.nodes small b (cell_at B.cells i) e (ap (λ (c : Cell). c.addr) z))
      go (inr f) =
          let at : At B.nodes f.entry.node (cell_at B.cells i).addr =
          subst (λ (a : ℕ). At B.nodes f.entry.node a) (sym f.addr_is) (ok.stands f.entry f.member).at in
          (at_alike (match_means B.nodes small b (cell_at B.cells i) f.entry.node at e) at, record { entry = f.entry; member = f.member; is = sym f.addr_is })

  -- an alike node that stands in a cell stands in the record's row, and matches
  pub unmatched : matches B.nodes b (cell_at B.cells (row_of B.cells b)) ≡ false → matches B.nodes b (cell_at B.cells (row_of B.cells b + 1)) ≡ false
      → (e : Entry) → Memᴰ e log → InCell B.cells e.addr → ¬ Alike e.node b
  unmatched no_first no_second e mem (i, is) s = go (ok.cells_ok i)
    where
      never : (c : Cell) → matches B.nodes b c ≡ true → matches B.nodes b c ≡ false → ⊥
      never c p q = let w : true ≡ false = sym p ∙ q in let v : ◌≡◌ {A = ℕ} 0 1 = cc in omega arith

      go : CellOk log (length B.cells) i (cell_at B.cells i) → ⊥
      go (inl z) = omega (arith, (ok.stands e mem).low, is, ap (λ (c : Cell). c.addr) z)
      go (inr f) =
          let at = ok.stands f.entry f.member in
          let here : At B.nodes f.entry.node (cell_at B.cells i).addr = subst (λ (a : ℕ). At B.nodes f.entry.node a) (sym f.addr_is) at.at in
          let there : At B.nodes e.node (cell_at B.cells i).addr = subst (λ (a : ℕ). At B.nodes e.node a) (sym is) (ok.stands e mem).at in
          let g : Fst = fst_with (replicate 16 0 ++ B.nodes) 2 (15 + length B.nodes) in
          let same = alike_trans (reads_same (here.reads g (has_stored B.nodes small)) (there.reads g (has_stored B.nodes small))) s in
          let hit = match_of B.nodes small b (cell_at B.cells i) f.entry.node here (λ z. omega (arith, at.low, f.addr_is)) (f.hash_is ∙ alike_hash same) same in
          ⊎_elim (λ z. never (cell_at B.cells (row_of B.cells b)) (subst (λ (j : ℕ). matches B.nodes b (cell_at B.cells j) ≡ true) z hit) no_first)
          (λ z. never (cell_at B.cells (row_of B.cells b + 1)) (subst (λ (j : ℕ). matches B.nodes b (cell_at B.cells j) ≡ true) z hit) no_second)
          (row_place B.cells b i (f.row ∙ ap (λ (n : ℕ). n % (length B.cells / 2)) (alike_hash same)))

  -- ---- two cells change places

  abbrev moved : List Cell
  moved = row_set B.cells (row_of B.cells b) (cell_at B.cells (row_of B.cells b + 1)) (cell_at B.cells (row_of B.cells b))

  moved_ok : BuildOk (record { nodes = B.nodes; cells = moved }) log
  moved_ok = record {
    stands = ok.stands;
    chained = ok.chained;
    cells_ok = λ i.
        subst (λ (n : ℕ). CellOk log n i (cell_at moved i)) (sym (length_row_set B.cells (row_of B.cells b) _ _))
        (row_set_lem (λ (j : ℕ) (c : Cell). CellOk log (length B.cells) j c) B.cells (row_of B.cells b) _ _
        (cell_moves (row_of B.cells b + 1) (row_of B.cells b) (row_second B.cells b ∙ sym (row_first B.cells b)) (ok.cells_ok (row_of B.cells b + 1)))
        (cell_moves (row_of B.cells b) (row_of B.cells b + 1) (row_first B.cells b ∙ sym (row_second B.cells b)) (ok.cells_ok (row_of B.cells b)))
        ok.cells_ok i);
    minimal = λ d e md me cd ce. ok.minimal d e md me (was d.addr cd) (was e.addr ce);
  }
    where
      was : (a : ℕ) → InCell moved a → InCell B.cells a
      was a (i, is) =
          let w = row_set_lem (λ (j : ℕ) (c : Cell). InCell B.cells c.addr) B.cells (row_of B.cells b) (cell_at B.cells (row_of B.cells b + 1)) (cell_at B.cells (row_of B.cells b))
          (row_of B.cells b + 1, refl) (row_of B.cells b, refl) (λ j. (j, refl)) i in
          (w.0, w.1 ∙ is)

  -- ---- a node is written

  module _ (fine : Fine B.nodes log b) (some : packs_to_nothing b ≡ false) where
    abbrev after : List ℕ
    after = B.nodes ++ packed (16 + length B.nodes) b

    abbrev new : Entry
    new = record { addr = 15 + length after; node = b }

    pub longer : length B.nodes + 1 ≤ length after
    longer = grown_more B.nodes b some fine.ranges fine.ok

    new_stands : Stands after (new ∷ log) new
    new_stands = record {
      at = written_at B.nodes b some fine.ranges fine.ok fine.live;
      low = omega (arith, longer);
      high = omega arith;
      live = fine.live;
      closed = λ t mem. on_log_more new (fine.closed t mem);
    }

    old_stands : (e : Entry) → Memᴰ e log → Stands after (new ∷ log) e
    old_stands e mem =
        let s = ok.stands e mem in
        record {
          at = at_more (packed (16 + length B.nodes) b) s.at;
          low = s.low;
          high = omega (arith, s.high, longer);
          live = s.live;
          closed = λ t m. on_log_more new (s.closed t m);
        }

    all_stand : (e : Entry) → Memᴰ e (new ∷ log) → Stands after (new ∷ log) e
    all_stand e mem = ⊎_elim (λ z. subst (Stands after (new ∷ log)) (sym z) new_stands) (λ m. old_stands e m) (Memᴰ.cases_cons mem)

    new_chained : (g : Fst) → Has after g → Chained after (new ∷ log) g
    unfolding Useful
    new_chained g h = inr (go (ok.chained g (has_less B.nodes (packed (16 + length B.nodes) b) h)))
      where
        live : (b.final ≡ true) ⊎ (0 < length b.inputs) → (b.final ≡ true) ⊎ ((0 < length b.inputs) ⊎ (15 + length after ≡ g.root))
        live (inl q) = inl q
        live (inr q) = inr (inl q)

        go : Chained B.nodes log g → Chain g (15 + length after) (addrs (new ∷ log))
        go (inl (z, none)) =
            subst (λ (l : List Entry). Chain g (15 + length after) ((15 + length after) ∷ addrs l)) (sym none)
            (last (node_with (16 + length B.nodes) b) (written_reads B.nodes b some fine.ranges fine.ok g h (live fine.live)) (omega arith))
        go (inr c) =
            next (node_with (16 + length B.nodes) b) (written_reads B.nodes b some fine.ranges fine.ok g h (live fine.live))
            (λ z. omega (arith, chain_start_low c)) (subst (λ (n : ℕ). Chain g n (addrs log)) (omega arith) c)

    abbrev first_cell : Cell
    first_cell = record { addr = 15 + length after; hash = hash_of b }

    abbrev placed : List Cell
    placed = row_set B.cells (row_of B.cells b) first_cell (cell_at B.cells (row_of B.cells b))

    was_or_new : (a : ℕ) → InCell placed a → (a ≡ 15 + length after) ⊎ InCell B.cells a
    was_or_new a (i, is) =
        subst (λ (n : ℕ). (n ≡ 15 + length after) ⊎ InCell B.cells n) is
        (row_set_lem (λ (j : ℕ) (c : Cell). (c.addr ≡ 15 + length after) ⊎ InCell B.cells c.addr) B.cells (row_of B.cells b) first_cell (cell_at B.cells (row_of B.cells b))
        (inl refl) (inr (row_of B.cells b, refl)) (λ j. inr (j, refl)) i)

    was : (e : Entry) → Memᴰ e log → InCell placed e.addr → InCell B.cells e.addr
    was e mem c = ⊎_elim (λ z. absurd (omega (arith, (ok.stands e mem).high, longer))) (λ w. w) (was_or_new e.addr c)

    written_ok : matches B.nodes b (cell_at B.cells (row_of B.cells b)) ≡ false → matches B.nodes b (cell_at B.cells (row_of B.cells b + 1)) ≡ false
        → BuildOk (record { nodes = after; cells = placed }) (new ∷ log)
    written_ok no_first no_second = record {
      stands = all_stand;
      chained = new_chained;
      cells_ok = λ i.
          subst (λ (n : ℕ). CellOk (new ∷ log) n i (cell_at placed i)) (sym (length_row_set B.cells (row_of B.cells b) _ _))
          (row_set_lem (λ (j : ℕ) (c : Cell). CellOk (new ∷ log) (length B.cells) j c) B.cells (row_of B.cells b) _ _
          (inr (record { entry = new; member = Memᴰ.head refl; addr_is = refl; hash_is = refl; row = row_first B.cells b }))
          (cell_moves (row_of B.cells b) (row_of B.cells b + 1) (row_first B.cells b ∙ sym (row_second B.cells b)) (cell_more new (ok.cells_ok (row_of B.cells b))))
          (λ j. cell_more new (ok.cells_ok j)) i);
      minimal = λ d e md me cd ce s. both d e (Memᴰ.cases_cons md) (Memᴰ.cases_cons me) cd ce s;
    }
      where
        both : (d e : Entry) → (d ≡ new) ⊎ Memᴰ d log → (e ≡ new) ⊎ Memᴰ e log → InCell placed d.addr → InCell placed e.addr → Alike d.node e.node
            → d.addr ≡ e.addr
        both d e (inl p) (inl q) cd ce s = ap (λ (x : Entry). x.addr) (p ∙ sym q)
        both d e (inl p) (inr q) cd ce s =
            absurd (unmatched no_first no_second e q (was e q ce) (alike_sym (subst (λ (x : Entry). Alike x.node e.node) p s)))
        both d e (inr p) (inl q) cd ce s = absurd (unmatched no_first no_second d p (was d p cd) (subst (λ (x : Entry). Alike d.node x.node) q s))
        both d e (inr p) (inr q) cd ce s = ok.minimal d e p q (was d p cd) (was e q ce) s

  -- ---- the whole

  pub intern_by_lem : Fine B.nodes log b → (r : Interned) → Interning B b r → InternOk B b log r
  intern_by_lem fine r (nothing z) = record {
    added = [];
    build = ok;
    added_is = λ e mem. none_added e 0 mem;
    at = zero_at B.nodes b z;
    on = inl refl;
    more = [];
    nodes_is = sym (append-nil B.nodes);
    way = nothing z;
    added_by_lem = refl;
  }
  intern_by_lem fine r (first some e) =
      let w = matched (row_of B.cells b) e in
      record { added = []; build = ok; added_is = λ e mem. none_added e _ mem; at = w.0; on = inr w.1; more = []; nodes_is = sym (append-nil B.nodes); way = first some e; added_by_lem = refl }
  intern_by_lem fine r (second some e) =
      let w = matched (row_of B.cells b + 1) e in
      record { added = []; build = moved_ok; added_is = λ e mem. none_added e _ mem; at = w.0; on = inr w.1; more = []; nodes_is = sym (append-nil B.nodes); way = second some e; added_by_lem = refl }
  intern_by_lem fine r (wrote some no_first no_second) = record {
    added = new fine some ∷ [];
    build = written_ok fine some no_first no_second;
    added_is = λ e mem. ⊎_elim (λ z. (ap (λ (x : Entry). x.node) z, ap (λ (x : Entry). x.addr) z)) (λ m. absurd (Memᴰ.not-nil m)) (Memᴰ.cases_cons mem);
    at = (new_stands fine some).at;
    on = inr (record { entry = new fine some; member = Memᴰ.head refl; is = refl });
    more = packed (16 + length B.nodes) b;
    nodes_is = refl;
    way = wrote some no_first no_second;
    added_by_lem = refl;
  }

  pub intern_ok : Fine B.nodes log b → InternOk B b log (intern B b)
  intern_ok fine = intern_by_lem fine (intern B b) (intern_cases B b)
