-- Laws of the way through a list: keys opened, nodes finished, the root.
--     key_short            a key of a list is below 256 bytes
--     leaves_common, leaves_none, opens_key    what opening a key leaves
--     underway_none        the start
--     underway_open        a key opened
--     underway_close       a node finished
--     underway_full        the output has no room for a node
--     root_asked, root_done    the root finished
--     gone_none, gone_open, gone_on  the loop over the keys
--     row_asked, row_given, record_next   the row of the node to be finished
-- Assumes nothing.
use Rattle.std.specs.Prelude.{◌≡◌, Option, None, refl, Bool, true, false, cond, List, [], ◌∷◌, ℕ, zero, suc, ◌+◌, ◌-◌, ◌*◌, ◌≤◌, ◌<◌, eqb, length, get_or, take, drop, replicate}
use Rattle.std.proofs.Common.{sym, ap, ◌∙◌, subst, inl, arith, ne_eqb, length-take, get_or-take, get_or-drop}
use Rattle.std.proofs.Math.Decide.{ℕ_discrete}
use Rattle.std.proofs.lemmas.List.{length-replicate}
use Rattle.std.proofs.Math.ListN.{get_or-eq_default}
use Rattle.format.specs.Packed.{BuilderNode}
use Rattle.packing.specs.Lists.{IsList, count_in, begin_at, end_at, key_at, value_at, pairs_of}
use Rattle.packing.specs.Registry.{Cell, empty_cell, intern}
use Rattle.packing.specs.Packing.{State, insert_all, start, pack_nodes, least_at, record_of}
use Rattle.packing_rows.specs.WorkTables.{Tables, tables_with, row_in, zip_arcs, count_at, open_at, levels, Sized}
use Rattle.packing_rows.specs.WorkTableLaws.{length_row, open_least, record_row}
use Rattle.pack_cell.specs.Cells.{empty}
use Rattle.pack_cell.specs.declared.Cell as code
use Rattle.pack_intern.specs.Interning.{cells_is, build_is, InternIs}
use Rattle.pack_intern.specs.declared.Placed.{Placed}
use Rattle.pack_finish.specs.LeastLaws.{from_each, from_value}
use Rattle.pack_close.specs.Closing.{node_from, least_in, CanFinish, closed_to, StepTo, JoinedAt, ClosesTo}
use Rattle.pack_close.specs.OpenNodes.{tables_of}
use Rattle.pack_close.specs.declared.Open.{Open}
use Rattle.pack_close.specs.ClosingLaws.{closing_none, closing_step, closing_full, closing_all, step_done, step_no_room}
use Rattle.pack_insert.specs.Inserting.{CommonIs, Opened, state_of, Between}
use Rattle.pack_insert.specs.InsertingLaws.{inserted, insert_done, insert_full}
use Rattle.pack_keys.specs.AddKeys.{BuildsTo, Builds, Building}
use Rattle.pack_keys.specs.AddKeysLaws.{cut_is, cut_short, building_none, insertable, building_step, building_full, building_all}
use Rattle.pack_run.specs.Running.{Blank, Runs}
use Rattle.pack_run.specs.RunningLaws.{fresh, run_full, run_closed_full, root_finishable, run_done}
use Rattle.pack_row.specs.Row.{RowGiven}
use Rattle.pack_ahead.specs.declared.Way.{Way}
use Rattle.pack_ahead.specs.Ahead.{whole, way_with, LeavesAt, OpensKey, Underway, Started, GoneTo, row_next, base_next, RowAsked}

pub key_short : (s : List ℕ) → IsList s → (i : ℕ) → i < count_in s → length (key_at s i) < 256
key_short s ok i l =
    subst (λ (key : List ℕ). length key < 256) (cut_is s ok i (count_in s) (begin_at s i) (end_at s i) l refl refl refl)
    (cut_short s ok i (count_in s) (begin_at s i) (end_at s i) l refl refl refl)

-- ---- a key as the code cuts it out

part_bytes : (s : List ℕ) → ((j : ℕ) → get_or s j 0 < 256) → (a b j : ℕ) → get_or (take a (drop b s)) j 0 < 256
part_bytes s f a b j = elim (ℕ_discrete (j + 1 - a) 0) [
  | yes z ↦ omega (arith, get_or-take a (drop b s) j 0 (omega arith) ∙ get_or-drop b s j 0, f (b + j))
  | no z ↦ omega (arith, get_or-eq_default (take a (drop b s)) 0 {n = j} (omega (arith, length-take a (drop b s))))
]

pub leaves_common : {s led : List ℕ} {k i m : ℕ} → i < count_in s → (key : List ℕ) → key ≡ key_at s i → CommonIs key led k m → LeavesAt s led k i m
leaves_common {s} {led} {k} {i} {m} l key key_is c = record {
  low = c.low;
  on = λ h. subst (λ (x : List ℕ). CommonIs x led k m) key_is c;
  last = λ h. absurd (omega arith);
}

pub opens_key : (s : List ℕ) (i : ℕ) (key : List ℕ) → key ≡ key_at s i → {m v : ℕ} → v ≡ value_at s i → {T T' : Tables} → Opened key m v T T' → ((j : ℕ) → get_or s j 0 < 256) → {r : Way}
    → r.depth ≡ length key → r.keys ≡ i + 1 → LeavesAt s T'.led r.depth r.keys r.to → OpensKey s i m T T' r
opens_key s i key key_is {m} {v} v_is {T} {T'} o bytes {r} d_is k_is lv = record {
  opened = subst (λ (x : ℕ). Opened (key_at s i) m x T T') v_is (subst (λ (x : List ℕ). Opened x m v T T') key_is o);
  bytes = part_bytes s bytes (end_at s i - begin_at s i) (8 + 12 * count_in s + begin_at s i);
  depth = d_is ∙ ap length key_is;
  more = k_is;
  leaves = lv;
}

pub leaves_none : (s led : List ℕ) (k i : ℕ) → count_in s ≤ i → LeavesAt s led k i 0
leaves_none s led k i h = record { low = omega arith; on = λ l. absurd (omega arith); last = λ z. refl }

-- ---- the start

abbrev fresh_tables : List ℕ → List ℕ → List ℕ → Tables
fresh_tables inputs leasts targets = tables_with inputs leasts targets (replicate 256 0) (replicate 256 0) (replicate 256 false) (replicate 256 0)

start_is : (out : List ℕ) (table : List code.Cell) → Blank out table → (inputs leasts targets : List ℕ)
    → state_of (build_is out 16 table) (fresh_tables inputs leasts targets) 0 ≡ start (replicate (length table) empty_cell)
unfolding open_at levels zip_arcs
start_is out table blank inputs leasts targets = ap start blank.empty

pub underway_none : (s out : List ℕ) (table : List code.Cell) → Blank out table → (inputs leasts targets : List ℕ) → 65536 ≤ length inputs → 65536 ≤ length leasts → 65536 ≤ length targets
    → Underway s (length table) out table (fresh_tables inputs leasts targets) 16 (way_with 0 0 0)
underway_none s out table blank inputs leasts targets il ll tl =
    let T : Tables = fresh_tables inputs leasts targets in
    let b : Between out 16 table T 0 = fresh out table blank inputs leasts targets il ll tl in
    record {
      out₀ = out;
      table₀ = table;
      T₀ = T;
      next₀ = 16;
      k = 0;
      building = subst (λ (t : State). Building t s out table T 16 0 0) (ap (λ (x : State). insert_all x (pairs_of s)) (start_is out table blank inputs leasts targets)) (building_none s out table T b);
      closing = closing_none out 16 table T 0 0 b.closable (omega arith);
      led_kept = refl;
      leaves = record {
        low = omega arith;
        on = λ l. record { low = omega arith; within = omega arith; agree = λ j h. absurd (omega arith); leaves = inl refl };
        last = λ l. refl;
      };
    }

-- an output of zeros and empty cells, by which the laws of the run are told
module _ (cells : ℕ) (two : 2 ≤ cells) where
  abbrev zeros : List ℕ
  zeros = replicate 32 0

  abbrev empties : List code.Cell
  empties = replicate cells empty

  empties_are : (n : ℕ) → cells_is (replicate n empty) ≡ replicate n empty_cell
  empties_are zero = refl
  empties_are (suc n) = ap (λ (l : List Cell). empty_cell ∷ l) (empties_are n)

  empties_length : length empties ≡ cells
  empties_length = length-replicate cells empty

  blank : Blank zeros empties
  blank = record {
    room = omega (arith, length-replicate {A = ℕ} 32 0);
    zeros = ap (λ (n : ℕ). replicate n 0) (sym (length-replicate {A = ℕ} 32 0));
    empty = empties_are cells ∙ ap (λ (n : ℕ). replicate n empty_cell) (sym empties_length);
    two = omega (arith, empties_length);
  }

  whole_is : (s inputs leasts targets : List ℕ) → insert_all (state_of (build_is zeros 16 empties) (fresh_tables inputs leasts targets) 0) (pairs_of s) ≡ whole s cells
  whole_is s inputs leasts targets =
      ap (λ (x : State). insert_all x (pairs_of s)) (start_is zeros empties blank inputs leasts targets ∙ ap (λ (n : ℕ). start (replicate n empty_cell)) empties_length)

  run_as : (s : List ℕ) {out : List ℕ} {table : List code.Cell} {r : Option Placed} → Runs (pack_nodes (pairs_of s) (length empties)) out table r → Runs (pack_nodes (pairs_of s) cells) out table r
  run_as s {out} {table} {r} w = subst (λ (n : ℕ). Runs (pack_nodes (pairs_of s) n) out table r) empties_length w

-- ---- a key opened, a node finished

module _ {s : List ℕ} {cells : ℕ} {out : List ℕ} {table : List code.Cell} {T : Tables} {next : ℕ} {w : Way} (u : Underway s cells out table T next w) (ok : IsList s) where
  pub underway_open : w.keys < count_in s → w.depth ≤ w.to → {T' : Tables} {r : Way} → OpensKey s w.keys w.to T T' r
      → Underway s cells out table T' next (way_with r.depth r.to (w.keys + 1))
  underway_open l e {T'} {r} o =
      let key : List ℕ = key_at s w.keys in
      let v : ℕ = value_at s w.keys in
      let short : length key < 256 = key_short s ok w.keys l in
      let J = (closing_all u.closing e).at next refl in
      let I = insertable u.building ok l key refl short v refl in
      let a = inserted u.out₀ u.next₀ u.table₀ u.T₀ u.k key v I w.to (u.leaves.on l) out table T next J T' o.opened u.led_kept o.bytes in
      let b = building_step u.building ok l key refl short v refl (insert_done a) refl (sym o.depth) in
      record {
        out₀ = out;
        table₀ = table;
        T₀ = T';
        next₀ = next;
        k = r.depth;
        building = b;
        closing = closing_none out next table T' r.depth r.to b.between.closable o.leaves.low;
        led_kept = refl;
        leaves = subst (λ (i : ℕ). LeavesAt s T'.led r.depth i r.to) o.more o.leaves;
      }

  pub underway_close : (e : ℕ) → w.depth ≡ e + 1 → w.to ≤ e → {out' : List ℕ} {table' : List code.Cell} {T' : Tables} {next' : ℕ}
      → StepTo (build_is out next table) next T e out' table' T' next' → T'.led ≡ T.led → Underway s cells out' table' T' next' (way_with e w.to w.keys)
  underway_close e de le st led_same = record {
    out₀ = u.out₀;
    table₀ = u.table₀;
    T₀ = u.T₀;
    next₀ = u.next₀;
    k = u.k;
    building = u.building;
    closing = closing_step u.closing de le (step_done st) refl;
    led_kept = led_same ∙ u.led_kept;
    leaves = u.leaves;
  }

  -- ---- no room

  module _ (two : 2 ≤ cells) where
    builds : {out' : List ℕ} {table' : List code.Cell} {T' : Tables} {r : _} → Builds (whole s cells) out' table' T' r
        → Builds (insert_all (state_of (build_is (zeros cells two) 16 (empties cells two)) (fresh_tables T.inputs T.leasts T.targets) 0) (pairs_of s)) out' table' T' r
    builds {out'} {table'} {T'} {r} b = subst (λ (t : State). Builds t out' table' T' r) (sym (whole_is cells two s T.inputs T.leasts T.targets)) b

    -- the keys are all open
    all_open : count_in s ≤ w.keys
        → BuildsTo (insert_all (state_of (build_is (zeros cells two) 16 (empties cells two)) (fresh_tables T.inputs T.leasts T.targets) 0) (pairs_of s)) u.out₀ u.table₀ u.T₀ u.next₀ u.k
    all_open l = (builds (building_all u.building l)).at u.next₀ u.k refl

    pub underway_full : (e : ℕ) → w.depth ≡ e + 1 → w.to ≤ e → (out' : List ℕ)
        → ((m : ℕ) → m ≤ e → length out' < 16 + length (closed_to (build_is out next table) T m (e + 1)).build.nodes)
        → length out' < 16 + length (pack_nodes (pairs_of s) cells).build.nodes
    underway_full e de le out' f =
        let S = u.closing.closable.sized in
        let c = closing_full u.closing de le {out' = out'} {cells' = table} {T' = T} (step_no_room {out = out'} {cells = table} {T' = T} f) refl in
        elim (ℕ_discrete (count_in s - w.keys) 0) [
          | yes z ↦
              let m0 : w.to ≡ 0 = u.leaves.last (omega arith) in
              let c₀ = subst (λ (m : ℕ). ClosesTo (closed_to (build_is u.out₀ u.next₀ u.table₀) u.T₀ m u.k) u.T₀ m out' table T None) m0 c in
              (run_as cells two s (run_closed_full (zeros cells two) (empties cells two) (blank cells two) T.inputs T.leasts T.targets S.inputs_long S.leasts_long S.targets_long (pairs_of s) (all_open (omega arith)) c₀ refl)).full refl
          | no z ↦
              let l : w.keys < count_in s = omega arith in
              let key : List ℕ = key_at s w.keys in
              let v : ℕ = value_at s w.keys in
              let short : length key < 256 = key_short s ok w.keys l in
              let I = insertable u.building ok l key refl short v refl in
              let i = insert_full u.out₀ u.next₀ u.table₀ u.T₀ u.k key v I w.to (u.leaves.on l) out' table T T None c refl in
              let b = building_full u.building ok l key refl short v refl i refl in
              (run_as cells two s (run_full (zeros cells two) (empties cells two) (blank cells two) T.inputs T.leasts T.targets S.inputs_long S.leasts_long S.targets_long (pairs_of s) (builds b) refl)).full refl
        ]

    -- ---- the root

    module _ (top : w.depth ≡ 0) (none_left : count_in s ≤ w.keys) where
      S : Sized T
      S = u.closing.closable.sized

      abbrev root_node : BuilderNode
      root_node = node_from T 0 0

      joined_root : JoinedAt (closed_to (build_is u.out₀ u.next₀ u.table₀) u.T₀ 0 u.k) u.T₀ 0 out table T next
      joined_root =
          subst (λ (m : ℕ). JoinedAt (closed_to (build_is u.out₀ u.next₀ u.table₀) u.T₀ m u.k) u.T₀ m out table T next) (u.leaves.last none_left)
          ((closing_all u.closing (omega arith)).at next refl)

      pub root_asked : CanFinish out next table T 0 0
      root_asked =
          root_finishable (zeros cells two) (empties cells two) (blank cells two) T.inputs T.leasts T.targets S.inputs_long S.leasts_long S.targets_long (pairs_of s) (all_open none_left) joined_root

      pub root_done : {out' : List ℕ} {table' : List code.Cell} {r : Option Placed} → InternIs (intern (build_is out next table) root_node) next out' table' r → Runs (pack_nodes (pairs_of s) cells) out' table' r
      root_done i =
          run_as cells two s (run_done (zeros cells two) (empties cells two) (blank cells two) T.inputs T.leasts T.targets S.inputs_long S.leasts_long S.targets_long (pairs_of s) (all_open none_left) joined_root i)

-- ---- the loop

pub gone_none : (s : List ℕ) (o : Open) (w : Way) → GoneTo s o w o w
gone_none s o w = record { on = λ cells out table inputs leasts targets next u. u; less = omega arith }

module _ {s : List ℕ} {o₀ : Open} {w : Way} {o : Open} {v : Way} (g : GoneTo s o₀ w o v) (ok : IsList s) (l : v.keys < count_in s) (le : v.depth ≤ v.to) where
  -- the key goes along the open nodes that far
  pub key_goes : Started s o₀ w → (v.to ≤ length (key_at s v.keys)) × (length o.counts ≡ 256) × (length o.led ≡ 256) × (length o.finals ≡ 256) × (length o.values ≡ 256)
  key_goes st =
      let u = g.on st.cells st.out st.table st.inputs st.leasts st.targets st.next st.underway in
      let z = u.closing.closable.sized in
      ((u.leaves.on l).within, z.counts_long, z.led_long, z.finals_long, z.values_long)

  pub gone_open : {o' : Open} {r : Way} → ((inputs leasts targets : List ℕ) → OpensKey s v.keys v.to (tables_of inputs leasts targets o) (tables_of inputs leasts targets o') r)
      → GoneTo s o₀ w o' (way_with r.depth r.to (v.keys + 1))
  gone_open opens = record {
    on = λ cells out table inputs leasts targets next u. underway_open (g.on cells out table inputs leasts targets next u) ok l le (opens inputs leasts targets);
    less = omega (arith, g.less, (opens [] [] []).depth, key_short s ok v.keys l);
  }

  pub gone_on : {i : ℕ} {o' : Open} {r : Way} → v.keys ≡ i → ((inputs leasts targets : List ℕ) → OpensKey s i v.to (tables_of inputs leasts targets o) (tables_of inputs leasts targets o') r)
      → GoneTo s o₀ w o' r
  gone_on {i} {o'} {r} e opens =
      let here : (inputs leasts targets : List ℕ) → OpensKey s v.keys v.to (tables_of inputs leasts targets o) (tables_of inputs leasts targets o') r =
      λ inputs leasts targets. subst (λ (k : ℕ). OpensKey s k v.to (tables_of inputs leasts targets o) (tables_of inputs leasts targets o') r) (sym e) (opens inputs leasts targets) in
      subst (λ (k : ℕ). GoneTo s o₀ w o' (way_with r.depth r.to k)) (sym (here [] [] []).more) (gone_open here)

-- ---- the row of the node to be finished

-- what the loop asks of the next row
pub row_asked : {s : List ℕ} {cells : ℕ} {out : List ℕ} {table : List code.Cell} {T : Tables} {next : ℕ} {w : Way} → Underway s cells out table T next w → 2 ≤ cells
    → RowAsked cells w.depth T
row_asked {w = w} u two =
    let C = u.closing.closable in
    record {
      two = two;
      fits = record {
        low = C.low;
        few = C.orderly.few w.depth (omega arith);
        inputs_long = C.sized.inputs_long;
        leasts_long = C.sized.leasts_long;
        targets_long = C.sized.targets_long;
      };
    }

pub row_given : (cells d : ℕ) (T : Tables) (base : ℕ) → RowAsked cells d T → base ≡ base_next T d → RowGiven cells d base T
row_given cells d T base a e = record {
  two = a.two;
  fits = a.fits;
  high = record {
    within = omega (arith, a.fits.leasts_long, a.fits.low, a.fits.few);
    high = λ j l h.
        let i : ℕ = j - 256 * d in
        let at : 256 * d + i ≡ j = omega arith in
        let e₁ = get_or-take n (drop (256 * d) T.leasts) i 0 (omega arith) ∙ get_or-drop (256 * d) T.leasts i 0 ∙ ap (λ (k : ℕ). get_or T.leasts k 0) at in
        omega (arith, base_low, e₁, from_each (get_or T.finals d false) (get_or T.values d 0) (row_in T.leasts d n) i (omega (arith, o)));
  };
  value_high = λ z. omega (arith, base_low, from_value (get_or T.finals d false) (get_or T.values d 0) (row_in T.leasts d n) z);
}
  where
    n : ℕ
    n = count_at T d

    o : length (row_in T.leasts d n) ≡ n
    o = length_row T.leasts d n (omega (arith, a.fits.leasts_long, a.fits.low, a.fits.few))

    low_of : (b : Bool) (m : ℕ) → cond b 0 m ≤ m
    low_of true m = omega arith
    low_of false m = omega arith

    base_low : base ≤ least_in T d
    base_low = omega (arith, e, low_of (eqb d 0) (least_in T d))

-- the record of a node that is not the root is the definition's
pub record_next : (T : Tables) (d : ℕ) → Sized T → d < 256 → count_at T d ≤ 256 → 0 < d
    → row_next T d ≡ record_of (open_at T d) (least_at (open_at T d))
record_next T d sized low few pos =
    let e : base_next T d ≡ least_at (open_at T d) =
    ap (λ (b : Bool). cond b 0 (least_in T d)) (ne_eqb d 0 (λ z. omega arith))
    ∙ sym (open_least T sized d low few) in
    ap (node_from T d) e ∙ sym (record_row T sized d low few (least_at (open_at T d)))
