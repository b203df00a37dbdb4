-- Laws of a row of two cells: what is done in it alone is what is done in the whole table.
--     intern_in_row        a record interned in its row
--     row_interned         so of lent cells, which are put back
--     row_ready, row_closable  what interning a record, and finishing a node, asks, in its row alone
--     step_in_row, step_full   the deepest node finished in its row alone, or the output is full
-- Assumes nothing.
use Rattle.std.specs.Prelude.{◌≡◌, Option, refl, Bool, true, false, cond, List, [], ◌∷◌, ◌++◌, ℕ, zero, suc, ◌+◌, ◌-◌, ◌*◌, ◌≤◌, ◌<◌, length, set}
use Rattle.std.proofs.Common.{sym, ap₂, ◌∙◌, subst, inl, inr, length-set, length-append, get_or-set_same, get_or-set_other}
use Rattle.std.proofs.Math.Path.{ap}
use Rattle.std.proofs.Math.Decide.{ℕ_discrete}
use native.Mathlib.Omega.{arith}
use Rattle.std.proofs.Math.Nat as nat
use Rattle.std.proofs.lemmas.List.{set-get_or}
use Rattle.format.specs.Packed.{BuilderNode, packed, packs_to_nothing}
use Rattle.packing.specs.Registry.{hash_of, Cell, empty_cell, Build, cell_at, row_of, matches, Interned, row_set, promote, intern}
use Rattle.packing.specs.Packing.{Arc, Open, least_at, record_of, close, finish, closed_as}
use Rattle.packing.proofs.CloseLaws.{intern_grows}
use Rattle.packing_rows.specs.WorkTables.{Tables, open_at, levels, Joined, joined, join, close_into}
use Rattle.packing_rows.specs.OpenLaws.{closed_with, close_deepest, finish_into_grows}
use Rattle.pack_cell.specs.Cells.{at}
use Rattle.pack_cell.specs.declared.Cell as code
use Rattle.pack_intern.specs.Interning.{nodes_in, cells_is, build_is, Laid, CellFit, CellsFit, Ready, interned_with, InternIs}
use Rattle.pack_intern.specs.declared.Placed.{Placed}
use Rattle.pack_intern.specs.InterningLaws.{nodes_length, cell_at_lem, length_cells, row_stored}
use Rattle.pack_close.specs.Closing.{Closable, closed_to, StepTo, JoinedAt}
use Rattle.pack_row.specs.Row.{pair_at, back_in, put_pair, TakenFrom}

-- ---- interning, by its three tests

abbrev by_tests : Build → ℕ → Bool → Bool → Bool → List ℕ → ℕ → Interned
by_tests s i nothing first second nodes h =
    cond nothing (record { build = s; addr = 0 })
    (cond first (record { build = s; addr = (cell_at s.cells i).addr })
    (cond second (promote s i)
    (record { build = record { nodes = nodes; cells = row_set s.cells i (record { addr = 15 + length nodes; hash = h }) (cell_at s.cells i) }; addr = 15 + length nodes })))

intern_by_lem : (s : Build) (b : BuilderNode) → intern s b
    ≡ by_tests s (row_of s.cells b) (packs_to_nothing b) (matches s.nodes b (cell_at s.cells (row_of s.cells b))) (matches s.nodes b (cell_at s.cells (row_of s.cells b + 1)))
    (s.nodes ++ packed (16 + length s.nodes) b) (hash_of b)
unfolding intern
intern_by_lem s b = refl

-- a row stored as it was
row_same : (cells : List Cell) (i : ℕ) → cells ≡ row_set cells i (cell_at cells i) (cell_at cells (i + 1))
row_same cells i = sym (ap (λ (t : List Cell). set t (i + 1) (cell_at cells (i + 1))) (set-get_or cells i empty_cell) ∙ set-get_or cells (i + 1) empty_cell)

module _ (nodes : List ℕ) (cells : List Cell) (i : ℕ) where
  abbrev B : Build
  B = record { nodes = nodes; cells = cells }

  abbrev B₂ : Build
  B₂ = record { nodes = nodes; cells = pair_at cells i }

  in_row : (nothing first second : Bool) (more : List ℕ) (h : ℕ) → by_tests B i nothing first second more h ≡ back_in cells i (by_tests B₂ 0 nothing first second more h)
  in_row true first second more h = ap (λ (t : List Cell). record { build = record { nodes = nodes; cells = t }; addr = 0 }) (row_same cells i)
  in_row false true second more h = ap (λ (t : List Cell). record { build = record { nodes = nodes; cells = t }; addr = (cell_at cells i).addr }) (row_same cells i)
  in_row false false true more h = refl
  in_row false false false more h = refl

-- a table of one row
one_row : (c d : Cell) (b : BuilderNode) → row_of (c ∷ d ∷ []) b ≡ 0
unfolding row_of
one_row c d b = ap (λ (k : ℕ). 2 * k) (nat.mod-one (hash_of b))

pub intern_in_row : (nodes : List ℕ) (cells : List Cell) (b : BuilderNode) → intern (record { nodes = nodes; cells = cells }) b
    ≡ back_in cells (row_of cells b) (intern (record { nodes = nodes; cells = pair_at cells (row_of cells b) }) b)
intern_in_row nodes cells b =
    let i : ℕ = row_of cells b in
    let s₂ : Build = record { nodes = nodes; cells = pair_at cells i } in
    let more : List ℕ = nodes ++ packed (16 + length nodes) b in
    intern_by_lem (record { nodes = nodes; cells = cells }) b
    ∙ in_row nodes cells i (packs_to_nothing b) (matches nodes b (cell_at cells i)) (matches nodes b (cell_at cells (i + 1))) more (hash_of b)
    ∙ ap (back_in cells i)
    (sym (intern_by_lem s₂ b
    ∙ ap (λ (k : ℕ). by_tests s₂ k (packs_to_nothing b) (matches nodes b (cell_at (pair_at cells i) k)) (matches nodes b (cell_at (pair_at cells i) (k + 1))) more (hash_of b)) (one_row (cell_at cells i) (cell_at cells (i + 1)) b)))

-- ---- cells

-- a cell of the row in the whole table
cell_of_row : (cells : List code.Cell) (i : ℕ) → cells_is (at cells i ∷ at cells (i + 1) ∷ []) ≡ pair_at (cells_is cells) i
cell_of_row cells i = ap₂ (λ (c d : Cell). c ∷ d ∷ []) (sym (cell_at_lem cells i)) (sym (cell_at_lem cells (i + 1)))

fit_later : (first later : ℕ) (c : Cell) → first ≤ later → CellFit first c → CellFit later c
fit_later first later c l (inl e) = inl e
fit_later first later c l (inr (p, q)) = inr (p, omega arith)

-- ---- the row put back

cells_after_lem : (cells : List code.Cell) (i : ℕ) (row : List code.Cell) → row_set (cells_is cells) i (cell_at (cells_is row) 0) (cell_at (cells_is row) 1) ≡ cells_is (put_pair cells i row)
cells_after_lem cells i row =
    ap₂ (row_set (cells_is cells) i) (cell_at_lem row 0) (cell_at_lem row 1) ∙ sym (row_stored cells i (at row 0) (at row 1))

module _ (out : List ℕ) (first : ℕ) (cells : List code.Cell) (i : ℕ) (ready : Ready out first cells) (within : i + 1 < length cells) {out' : List ℕ} {next : ℕ} {row : List code.Cell} (grown : first ≤ next) (laid : Laid out' next)
    (fit : CellsFit next row) where
  abbrev c₀ : Cell
  c₀ = cell_at (cells_is row) 0

  abbrev c₁ : Cell
  c₁ = cell_at (cells_is row) 1

  abbrev inner : List Cell
  inner = set (cells_is cells) i c₀

  low : i + 1 < length (cells_is cells)
  low = omega (arith, length_cells cells, within)

  else : (k : ℕ) → ¬ (k ≡ i + 1) → CellFit next (cell_at (row_set (cells_is cells) i c₀ c₁) k)
  else k z = elim (ℕ_discrete k i) [
    | yes w ↦ subst (CellFit next) (sym (get_or-set_other inner (i + 1) k c₁ empty_cell z ∙ ap (λ (n : ℕ). cell_at inner n) w ∙ get_or-set_same (cells_is cells) i c₀ empty_cell (omega (arith, low)))) (fit.fit 0)
    | no w ↦ subst (CellFit next) (sym (get_or-set_other inner (i + 1) k c₁ empty_cell z ∙ get_or-set_other (cells_is cells) i k c₀ empty_cell w))
        (fit_later first next (cell_at (cells_is cells) k) grown (ready.cells_fit.fit k))
  ]

  fits_all : (k : ℕ) → CellFit next (cell_at (row_set (cells_is cells) i c₀ c₁) k)
  fits_all k = elim (ℕ_discrete k (i + 1)) [
    | yes z ↦ subst (λ (n : ℕ). CellFit next (cell_at (row_set (cells_is cells) i c₀ c₁) n)) (sym z)
        (subst (CellFit next) (sym (get_or-set_same inner (i + 1) c₁ empty_cell (omega (arith, length-set (cells_is cells) i c₀, low)))) (fit.fit 1))
    | no z ↦ else k z
  ]

  pub ready_after : Ready out' next (put_pair cells i row)
  ready_after = record {
    laid = laid;
    cells_fit = record { fit = λ k. subst (λ (t : List Cell). CellFit next (cell_at t k)) (cells_after_lem cells i row) (fits_all k) };
    two = omega (arith, ready.two, length-set (set cells i (at row 0)) (i + 1) (at row 1), length-set cells i (at row 0));
  }

-- ---- a record

module _ (out : List ℕ) (first : ℕ) (cells : List code.Cell) (i : ℕ) (row : List code.Cell) (ready : Ready out first cells) (taken : TakenFrom cells i row) (b : BuilderNode) (at_row : i ≡ row_of (cells_is cells) b) where
  interned_as : intern (build_is out first cells) b ≡ back_in (cells_is cells) i (intern (build_is out first row) b)
  interned_as =
      intern_in_row (nodes_in out first) (cells_is cells) b
      ∙ ap (λ (k : ℕ). back_in (cells_is cells) k (intern (record { nodes = nodes_in out first; cells = pair_at (cells_is cells) k }) b)) (sym at_row)
      ∙ ap (λ (t : List Cell). back_in (cells_is cells) i (intern (record { nodes = nodes_in out first; cells = t }) b)) (sym (ap cells_is taken.is ∙ cell_of_row cells i))

  -- what interning in the row alone answers and leaves is what interning in the whole table does
  pub row_interned : {out' : List ℕ} {row' : List code.Cell} {r : Option Placed} → InternIs (intern (build_is out first row) b) first out' row' r
      → InternIs (intern (build_is out first cells) b) first out' (put_pair cells i row') r
  row_interned {out'} {row'} w = record {
    at = λ p e.
        let g = w.at p e in
        record {
          is = interned_as ∙ ap (back_in (cells_is cells) i) g.is ∙ ap (λ (t : List Cell). interned_with (record { nodes = nodes_in out' p.next; cells = t }) p.addr) (cells_after_lem cells i row');
          ready = ready_after out first cells i ready taken.within g.grown g.ready.laid g.ready.cells_fit;
          grown = g.grown;
          target = g.target;
        };
    full = λ e. omega (arith, w.full e, ap (λ (x : Interned). length x.build.nodes) interned_as);
  }

-- ---- the deepest node finished

module _ (out : List ℕ) (first : ℕ) (cells : List code.Cell) (i : ℕ) (row : List code.Cell) (ready : Ready out first cells) (taken : TakenFrom cells i row) where
  row_taken : cells_is row ≡ pair_at (cells_is cells) i
  row_taken = ap cells_is taken.is ∙ cell_of_row cells i

  pair_fits : (j : ℕ) → CellFit first (cell_at (pair_at (cells_is cells) i) j)
  pair_fits zero = ready.cells_fit.fit i
  pair_fits (suc zero) = ready.cells_fit.fit (i + 1)
  pair_fits (suc (suc j)) = inl refl

  pub row_ready : Ready out first row
  row_ready = record {
    laid = ready.laid;
    cells_fit = record { fit = λ j. subst (λ (t : List Cell). CellFit first (cell_at t j)) (sym row_taken) (pair_fits j) };
    two = subst (λ (t : List code.Cell). 2 ≤ length t) (sym taken.is) (omega arith);
  }

module _ (out : List ℕ) (first : ℕ) (cells : List code.Cell) (T : Tables) (e i : ℕ) (row : List code.Cell) (C : Closable out first cells T (e + 1)) (taken : TakenFrom cells i row) where
  row_is : cells_is row ≡ pair_at (cells_is cells) i
  row_is = row_taken out first cells i row C.ready taken

  pub row_closable : Closable out first row T (e + 1)
  row_closable = record {
    ready = row_ready out first cells i row C.ready taken;
    sized = C.sized;
    orderly = C.orderly;
    low = C.low;
  }

  abbrev p : Open
  p = open_at T (e + 1)

  abbrev node : BuilderNode
  node = record_of p (least_at p)

  abbrev B' : Build
  B' = build_is out first cells

  abbrev B₂' : Build
  B₂' = build_is out first row

  module _ (at_row : i ≡ row_of (cells_is cells) node) where
    interned : intern B' node ≡ back_in (cells_is cells) i (intern B₂' node)
    interned =
        intern_in_row (nodes_in out first) (cells_is cells) node
        ∙ ap (λ (k : ℕ). back_in (cells_is cells) k (intern (record { nodes = nodes_in out first; cells = pair_at (cells_is cells) k }) node)) (sym at_row)
        ∙ ap (λ (t : List Cell). back_in (cells_is cells) i (intern (record { nodes = nodes_in out first; cells = t }) node)) (sym row_is)

    closed_one : closed_to B₂' T e (e + 1) ≡ join (open_at T e) (finish B₂' p)
    unfolding levels close
    closed_one = let q : e + 1 - e ≡ 1 = omega arith in ap (λ (k : ℕ). close_into B₂' (open_at T e) (levels (open_at T) (e + 1) k)) q

    pub step_full : (out' : List ℕ) → length out' < 16 + length (closed_to B₂' T e (e + 1)).build.nodes → (m : ℕ) → m ≤ e
        → length out' < 16 + length (closed_to B' T m (e + 1)).build.nodes
    step_full out' short m le =
        let q : e + 1 - m ≡ suc (e - m) = omega arith in
        let g = finish_into_grows (open_at T) B' m (e - m) (e + 1) (omega arith) in
        let l = ap length g.is ∙ length-append (finish B' p).build.nodes g.added in
        let same = ap (λ (k : ℕ). length (close_into B' (open_at T m) (levels (open_at T) (m + 1) k)).build.nodes) q in
        omega (arith, short, l, same, ap (λ (x : Interned). length x.build.nodes) interned, ap (λ (x : Joined). length x.build.nodes) closed_one)

    module _ {out' : List ℕ} {row' : List code.Cell} {T' : Tables} {next : ℕ} (j : JoinedAt (closed_to B₂' T e (e + 1)) T e out' row' T' next) where
      here : join (open_at T e) (finish B₂' p) ≡ joined (build_is out' next row') (open_at T' e)
      here = sym closed_one ∙ j.is

      abbrev arc : Arc
      arc = (finish B₂' p).arc

      build_row : (intern B₂' node).build ≡ build_is out' next row'
      build_row = ap (λ (x : Joined). x.build) here

      done : finish B' p ≡ closed_with (build_is out' next (put_pair cells i row')) arc
      done =
          ap (closed_as p) interned
          ∙ ap (λ (b : Build). closed_with (record { nodes = b.nodes; cells = row_set (cells_is cells) i (cell_at b.cells 0) (cell_at b.cells 1) }) arc) build_row
          ∙ ap (λ (t : List Cell). closed_with (record { nodes = nodes_in out' next; cells = t }) arc) (cells_after_lem cells i row')

      grown : first ≤ next
      grown =
          let g = intern_grows B₂' node in
          omega (arith, nodes_length C.ready.laid, nodes_length j.closable.ready.laid, ap length g.is, length-append (nodes_in out first) g.added, ap (λ (b : Build). length b.nodes) build_row)

      pub step_in_row : StepTo B' first T e out' (put_pair cells i row') T' next
      step_in_row = record {
        is = λ m le.
            let q : e + 1 - m ≡ suc (e - m) = omega arith in
            ap (λ (k : ℕ). close_into B' (open_at T m) (levels (open_at T) (m + 1) k)) q
            ∙ close_deepest (open_at T) (open_at T') B' (build_is out' next (put_pair cells i row')) arc (e + 1) e done (sym (ap (λ (x : Joined). x.top) here)) j.same m (e - m) (omega arith) (omega arith);
        same = j.same;
        closable = record {
          ready = ready_after out first cells i C.ready taken.within grown j.closable.ready.laid j.closable.ready.cells_fit;
          sized = j.closable.sized;
          orderly = j.closable.orderly;
          low = j.closable.low;
        };
      }
