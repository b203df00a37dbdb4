-- Laws of `keeps`: what stands in the cells after a record is interned.
--     Kept B log x     where x says that no filled cell was overwritten: every node of the log stands in a cell; where it says that one was, some
--                      node stands in none, and comes back into none
--     intern_kept      a record more
-- Assumes nothing.
use Rattle.std.specs.Prelude.{◌≡◌, refl, Bool, true, false, cond, ◌&&◌, ◌⊎◌, ℕ, ◌+◌, ◌*◌, ◌/◌, ◌%◌, ◌≤◌, ◌<◌, eqb, length, get_or, set, replicate}
use Rattle.std.proofs.Common.{sym, ap, ◌∙◌, subst, inl, inr, ⊎_elim, mod-lt, arith, eqb-true, length-set, get_or-set_same, get_or-set_other}
use mathlib.Core.List.Memᴰ
use mathlib.Core.List.{List, [], ◌∷◌, ◌++◌, Memᴰ}
use Rattle.std.proofs.Math.Decide.{ℕ_discrete}
use Rattle.std.proofs.lemmas.Bool.{eqb-false}
use Rattle.std.proofs.lemmas.List.{length-replicate}
use Rattle.format.specs.Limits.{max_len}
use Rattle.format.specs.Packed.{BuilderNode, packed, packs_to_nothing}
use Rattle.packing.specs.Registry.{hash_of, Cell, empty_cell, Build, cell_at, row_of, matches, Interned, row_set, intern}
use Rattle.packing.specs.Promise.{InCell}
use Rattle.packing.specs.Kept.{keeps}
use Rattle.packing.proofs.BuildLaws.{Entry, Filled, CellOk, BuildOk, Fine, Interning, nothing, first, second, wrote, added_by, InternOk, length_row_set, longer}

-- ---- tests joined

pub and_true : (x : Bool) → (x && true) ≡ x
and_true true = refl
and_true false = refl

pub and_assoc : (x y z : Bool) → ((x && y) && z) ≡ (x && (y && z))
and_assoc true y z = refl
and_assoc false y z = refl

-- ---- the two cells of a row

row_within : (cells : List Cell) (b : BuilderNode) → 2 ≤ length cells → row_of cells b + 1 < length cells
unfolding row_of
row_within cells b two = omega (arith, mod-lt (hash_of b) (let q : 0 < length cells / 2 = omega arith in q))

module _ (cells : List Cell) (i : ℕ) (c d : Cell) (within : i + 1 < length cells) where
  set_first : cell_at (row_set cells i c d) i ≡ c
  set_first = get_or-set_other (set cells i c) (i + 1) i d empty_cell (λ z. omega arith) ∙ get_or-set_same cells i c empty_cell (omega arith)

  set_second : cell_at (row_set cells i c d) (i + 1) ≡ d
  set_second = get_or-set_same (set cells i c) (i + 1) d empty_cell (omega (arith, length-set cells i c))

  set_other : (j : ℕ) → ¬ (j ≡ i) → ¬ (j ≡ i + 1) → cell_at (row_set cells i c d) j ≡ cell_at cells j
  set_other j p q = get_or-set_other (set cells i c) (i + 1) j d empty_cell q ∙ get_or-set_other cells i j c empty_cell p

pub first_set : (cells : List Cell) (b : BuilderNode) (c d : Cell) → 2 ≤ length cells → cell_at (row_set cells (row_of cells b) c d) (row_of cells b) ≡ c
first_set cells b c d two = set_first cells (row_of cells b) c d (row_within cells b two)

-- a place: the first of the row, the second, or another
data Place (i j : ℕ) : Type 0 where
  here : j ≡ i → Place i j
  next : j ≡ i + 1 → Place i j
  other : ¬ (j ≡ i) → ¬ (j ≡ i + 1) → Place i j

place : (i j : ℕ) → Place i j
place i j = elim (ℕ_discrete j i) [ yes z ↦ here z | no z ↦ elim (ℕ_discrete j (i + 1)) [ yes y ↦ next y | no y ↦ other z y ] ]

-- ---- what is kept

pub record Lost (B : Build) (log : List Entry) : Type 0 where
  pub entry : Entry
  pub member : Memᴰ entry log
  pub gone : ¬ InCell B.cells entry.addr

pub record Kept (B : Build) (log : List Entry) (x : Bool) : Type 0 where
  pub two : 2 ≤ length B.cells
  -- no address stands in two cells
  pub distinct : (i j : ℕ) → (cell_at B.cells i).addr ≡ (cell_at B.cells j).addr → ¬ ((cell_at B.cells i).addr ≡ 1) → i ≡ j
  pub all : x ≡ true → (e : Entry) → Memᴰ e log → InCell B.cells e.addr
  pub lost : x ≡ false → Lost B log

pub kept_as : {B : Build} {log : List Entry} {x y : Bool} → x ≡ y → Kept B log x → Kept B log y
kept_as {B} {log} e w = subst (Kept B log) e w

-- ---- the cells change places

module _ (B : Build) (log : List Entry) (x : Bool) (w : Kept B log x) (b : BuilderNode) where
  abbrev i : ℕ
  i = row_of B.cells b

  abbrev one : Cell
  one = cell_at B.cells i

  abbrev two_cell : Cell
  two_cell = cell_at B.cells (i + 1)

  within : i + 1 < length B.cells
  within = row_within B.cells b w.two

  abbrev moved : List Cell
  moved = row_set B.cells i two_cell one

  -- where a cell was
  record Was (j : ℕ) : Type 0 where
    from : ℕ
    is : cell_at moved j ≡ cell_at B.cells from
    how : ((j ≡ i) × (from ≡ i + 1)) ⊎ (((j ≡ i + 1) × (from ≡ i)) ⊎ ((from ≡ j) × (¬ (j ≡ i)) × (¬ (j ≡ i + 1))))

  was : (j : ℕ) → Was j
  was j = go (place i j)
    where
      go : Place i j → Was j
      go (here z) = record { from = i + 1; is = ap (cell_at moved) z ∙ set_first B.cells i two_cell one within; how = inl (z, refl) }
      go (next z) = record { from = i; is = ap (cell_at moved) z ∙ set_second B.cells i two_cell one within; how = inr (inl (z, refl)) }
      go (other p q) = record { from = j; is = set_other B.cells i two_cell one within j p q; how = inr (inr (refl, p, q)) }

  moved_in : (a : ℕ) → InCell B.cells a → InCell moved a
  moved_in a (j, is) = go (place i j)
    where
      go : Place i j → InCell moved a
      go (here z) = (i + 1, ap (λ (c : Cell). c.addr) (set_second B.cells i two_cell one within) ∙ ap (λ (k : ℕ). (cell_at B.cells k).addr) (sym z) ∙ is)
      go (next z) = (i, ap (λ (c : Cell). c.addr) (set_first B.cells i two_cell one within) ∙ ap (λ (k : ℕ). (cell_at B.cells k).addr) (sym z) ∙ is)
      go (other p q) = (j, ap (λ (c : Cell). c.addr) (set_other B.cells i two_cell one within j p q) ∙ is)

  moved_out : (a : ℕ) → InCell moved a → InCell B.cells a
  moved_out a (j, is) = let v = was j in (v.from, sym (ap (λ (c : Cell). c.addr) v.is) ∙ is)

  same_from : (j k from from' : ℕ) → ((j ≡ i) × (from ≡ i + 1)) ⊎ (((j ≡ i + 1) × (from ≡ i)) ⊎ ((from ≡ j) × (¬ (j ≡ i)) × (¬ (j ≡ i + 1))))
      → ((k ≡ i) × (from' ≡ i + 1)) ⊎ (((k ≡ i + 1) × (from' ≡ i)) ⊎ ((from' ≡ k) × (¬ (k ≡ i)) × (¬ (k ≡ i + 1)))) → from ≡ from' → j ≡ k
  same_from j k from from' (inl (p, q)) (inl (r, s)) e = p ∙ sym r
  same_from j k from from' (inl (p, q)) (inr (inl (r, s))) e = absurd (omega arith)
  same_from j k from from' (inl (p, q)) (inr (inr (r, s, t))) e = absurd (t (omega arith))
  same_from j k from from' (inr (inl (p, q))) (inl (r, s)) e = absurd (omega arith)
  same_from j k from from' (inr (inl (p, q))) (inr (inl (r, s))) e = p ∙ sym r
  same_from j k from from' (inr (inl (p, q))) (inr (inr (r, s, t))) e = absurd (s (omega arith))
  same_from j k from from' (inr (inr (p, q, t))) (inl (r, s)) e = absurd (t (omega arith))
  same_from j k from from' (inr (inr (p, q, t))) (inr (inl (r, s))) e = absurd (q (omega arith))
  same_from j k from from' (inr (inr (p, q, t))) (inr (inr (r, s, u))) e = sym p ∙ e ∙ r

  moved_kept : Kept (record { nodes = B.nodes; cells = moved }) log x
  moved_kept = record {
    two = subst (λ (n : ℕ). 2 ≤ n) (sym (length_row_set B.cells i two_cell one)) w.two;
    distinct = λ j k e filled.
        let u = was j in
        let v = was k in
        let pj = ap (λ (c : Cell). c.addr) u.is in
        let pk = ap (λ (c : Cell). c.addr) v.is in
        same_from j k u.from v.from u.how v.how (w.distinct u.from v.from (sym pj ∙ e ∙ pk) (λ z. filled (pj ∙ z)));
    all = λ t e mem. moved_in e.addr (w.all t e mem);
    lost = λ f. let l = w.lost f in record { entry = l.entry; member = l.member; gone = λ c. l.gone (moved_out l.entry.addr c) };
  }

  -- ---- a node is written

  module _ (ok : BuildOk B log) (small : 15 + length B.nodes < max_len) (fine : Fine B.nodes log b) (some : packs_to_nothing b ≡ false) where
    abbrev after : List ℕ
    after = B.nodes ++ packed (16 + length B.nodes) b

    abbrev new : Entry
    new = record { addr = 15 + length after; node = b }

    abbrev cell : Cell
    cell = record { addr = 15 + length after; hash = hash_of b }

    abbrev placed : List Cell
    placed = row_set B.cells i cell one

    more : length B.nodes + 1 ≤ length after
    more = longer B log ok small b fine some

    -- every address in a cell is 1, or below the new one
    low_by : (j : ℕ) → CellOk log (length B.cells) j (cell_at B.cells j) → (cell_at B.cells j).addr < 15 + length after
    low_by j (inl z) = omega (arith, more, ap (λ (c : Cell). c.addr) z)
    low_by j (inr f) = omega (arith, more, f.addr_is, (ok.stands f.entry f.member).high)

    low : (j : ℕ) → (cell_at B.cells j).addr < 15 + length after
    low j = low_by j (ok.cells_ok j)

    -- where a cell was; nothing stays of the second
    data From (j : ℕ) : Type 0 where
      written_here : j ≡ i → (cell_at placed j).addr ≡ 15 + length after → From j
      from : (k : ℕ) → ¬ (k ≡ i + 1) → ((j ≡ i + 1) × (k ≡ i)) ⊎ ((k ≡ j) × (¬ (j ≡ i)) × (¬ (j ≡ i + 1))) → (cell_at placed j).addr ≡ (cell_at B.cells k).addr → From j

    from_of : (j : ℕ) → From j
    from_of j = go (place i j)
      where
        go : Place i j → From j
        go (here z) = written_here z (ap (λ (k : ℕ). (cell_at placed k).addr) z ∙ ap (λ (c : Cell). c.addr) (set_first B.cells i cell one within))
        go (next z) = from i (λ y. omega arith) (inl (z, refl)) (ap (λ (k : ℕ). (cell_at placed k).addr) z ∙ ap (λ (c : Cell). c.addr) (set_second B.cells i cell one within))
        go (other p q) = from j q (inr (refl, p, q)) (ap (λ (c : Cell). c.addr) (set_other B.cells i cell one within j p q))

    same_place : (j k m n : ℕ) → ((j ≡ i + 1) × (m ≡ i)) ⊎ ((m ≡ j) × (¬ (j ≡ i)) × (¬ (j ≡ i + 1))) → ((k ≡ i + 1) × (n ≡ i)) ⊎ ((n ≡ k) × (¬ (k ≡ i)) × (¬ (k ≡ i + 1))) → m ≡ n → j ≡ k
    same_place j k m n (inl (p, q)) (inl (r, s)) e = p ∙ sym r
    same_place j k m n (inl (p, q)) (inr (r, s, t)) e = absurd (s (omega arith))
    same_place j k m n (inr (p, q, t)) (inl (r, s)) e = absurd (q (omega arith))
    same_place j k m n (inr (p, q, t)) (inr (r, s, u)) e = sym p ∙ e ∙ r

    placed_distinct : (j k : ℕ) → (cell_at placed j).addr ≡ (cell_at placed k).addr → ¬ ((cell_at placed j).addr ≡ 1) → j ≡ k
    placed_distinct j k e filled = go (from_of j) (from_of k)
      where
        go : From j → From k → j ≡ k
        go (written_here p q) (written_here r s) = p ∙ sym r
        go (written_here p q) (from m ne how is) = absurd (omega (arith, low m, q, is, e))
        go (from m ne how is) (written_here r s) = absurd (omega (arith, low m, s, is, e))
        go (from m ne how is) (from n ne' how' is') = same_place j k m n how how' (w.distinct m n (sym is ∙ e ∙ is') (λ z. filled (is ∙ z)))

    -- an address that was in no cell but the second is in none now
    gone_still : (e : Entry) → Memᴰ e log → ((j : ℕ) → ¬ (j ≡ i + 1) → ¬ ((cell_at B.cells j).addr ≡ e.addr)) → ¬ InCell placed e.addr
    gone_still e mem none (j, is) = go (from_of j)
      where
        go : From j → ⊥
        go (written_here p q) = omega (arith, (ok.stands e mem).high, more, q, is)
        go (from k ne how at) = none k ne (sym at ∙ is)

    placed_in : (a : ℕ) → ¬ (two_cell.addr ≡ a) → InCell B.cells a → InCell placed a
    placed_in a ne (j, is) = go (place i j)
      where
        go : Place i j → InCell placed a
        go (here z) = (i + 1, ap (λ (c : Cell). c.addr) (set_second B.cells i cell one within) ∙ ap (λ (k : ℕ). (cell_at B.cells k).addr) (sym z) ∙ is)
        go (next z) = absurd (ne (ap (λ (k : ℕ). (cell_at B.cells k).addr) (sym z) ∙ is))
        go (other p q) = (j, ap (λ (c : Cell). c.addr) (set_other B.cells i cell one within j p q) ∙ is)

    overwritten : ¬ (two_cell.addr ≡ 1) → Lost (record { nodes = after; cells = placed }) (new ∷ log)
    overwritten filled = go (ok.cells_ok (i + 1))
      where
        go : CellOk log (length B.cells) (i + 1) two_cell → Lost (record { nodes = after; cells = placed }) (new ∷ log)
        go (inl z) = absurd (filled (ap (λ (c : Cell). c.addr) z))
        go (inr f) = record {
          entry = f.entry;
          member = Memᴰ.tail f.member;
          gone = gone_still f.entry f.member (λ j ne is. ne (w.distinct j (i + 1) (is ∙ sym f.addr_is) (λ z. filled (f.addr_is ∙ sym is ∙ z))));
        }

    written_kept : (y : Bool) → eqb two_cell.addr 1 ≡ y → Kept (record { nodes = after; cells = placed }) (new ∷ log) (x && y)
    written_kept true e = record {
      two = subst (λ (n : ℕ). 2 ≤ n) (sym (length_row_set B.cells i cell one)) w.two;
      distinct = placed_distinct;
      all = λ t d mem.
          ⊎_elim (λ z. (i, ap (λ (c : Cell). c.addr) (set_first B.cells i cell one within) ∙ sym (ap (λ (u : Entry). u.addr) z)))
          (λ m. placed_in d.addr (λ z. omega (arith, (ok.stands d m).low, eqb-true two_cell.addr 1 e, z)) (w.all (sym (and_true x) ∙ t) d m)) (Memᴰ.cases_cons mem);
      lost = λ f.
          let l = w.lost (sym (and_true x) ∙ f) in
          record { entry = l.entry; member = Memᴰ.tail l.member; gone = gone_still l.entry l.member (λ j ne is. l.gone (j, is)) };
    }
    written_kept false e = record {
      two = subst (λ (n : ℕ). 2 ≤ n) (sym (length_row_set B.cells i cell one)) w.two;
      distinct = placed_distinct;
      all = λ t. absurd (never x t);
      lost = λ f. overwritten (eqb-false two_cell.addr 1 e);
    }
      where
        never : (z : Bool) → (z && false) ≡ true → ⊥
        never true q = let v : ◌≡◌ {A = ℕ} 0 1 = cc in omega arith
        never false q = let v : ◌≡◌ {A = ℕ} 0 1 = cc in omega arith

-- ---- a record more

module _ (B : Build) (b : BuilderNode) where
  abbrev at_first : Bool
  at_first = matches B.nodes b (cell_at B.cells (row_of B.cells b))

  abbrev at_second : Bool
  at_second = matches B.nodes b (cell_at B.cells (row_of B.cells b + 1))

  keeps_nothing : packs_to_nothing b ≡ true → keeps B b ≡ true
  unfolding keeps
  keeps_nothing z = rw z

  true_either : (y : Bool) → cond y true true ≡ true
  true_either true = refl
  true_either false = refl

  keeps_first : at_first ≡ true → keeps B b ≡ true
  unfolding keeps
  keeps_first f = rw f (true_either (packs_to_nothing b))

  keeps_second : at_second ≡ true → keeps B b ≡ true
  unfolding keeps
  keeps_second f = rw (f, true_either at_first) (true_either (packs_to_nothing b))

  pub keeps_wrote : packs_to_nothing b ≡ false → at_first ≡ false → at_second ≡ false → keeps B b ≡ eqb (cell_at B.cells (row_of B.cells b + 1)).addr 1
  unfolding keeps
  keeps_wrote z f h = rw (z, f, h)

module _ (B : Build) (log : List Entry) (ok : BuildOk B log) (small : 15 + length B.nodes < max_len) (b : BuilderNode) (fine : Fine B.nodes log b) where
  by_way : {r : Interned} (way : Interning B b r) (x : Bool) → Kept B log x → Kept r.build (added_by way ++ log) (x && keeps B b)
  by_way (nothing z) x w = kept_as (sym (and_true x) ∙ ap (λ (y : Bool). x && y) (sym (keeps_nothing B b z))) w
  by_way (first z f) x w = kept_as (sym (and_true x) ∙ ap (λ (y : Bool). x && y) (sym (keeps_first B b f))) w
  by_way (second z f) x w = kept_as (sym (and_true x) ∙ ap (λ (y : Bool). x && y) (sym (keeps_second B b f))) (moved_kept B log x w b)
  by_way (wrote z f h) x w =
      kept_as (ap (λ (y : Bool). x && y) (sym (keeps_wrote B b z f h))) (written_kept B log x w b ok small fine z (eqb (cell_at B.cells (row_of B.cells b + 1)).addr 1) refl)

  pub intern_kept : {r : Interned} (i : InternOk B b log r) (x : Bool) → Kept B log x → Kept r.build (i.added ++ log) (x && keeps B b)
  intern_kept {r} i x w = subst (λ (l : List Entry). Kept r.build (l ++ log) (x && keeps B b)) (sym i.added_by_lem) (by_way i.way x w)
