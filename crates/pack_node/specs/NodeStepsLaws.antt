-- Laws of a node finished in its row, and of keys opened after it.
--     row_of_record        the row that is known is a record's
--     put_length           a table is as long with a row put back
--     node_asked, node_full, node_started, node_next, node_at      what the code asks and leaves
--     steps_full, steps_done   what it answers
-- Assumes nothing.
use Rattle.std.specs.Prelude.{◌≡◌, Option, None, Some, List, ℕ, ◌+◌, ◌*◌, ◌/◌, ◌%◌, ◌≤◌, ◌<◌, length, set}
use Rattle.std.proofs.Common.{sym, ap, ◌∙◌, subst, ⊎_elim, arith, length-set}
use Rattle.std.proofs.Math.Path.{ap₂}
use Rattle.format.specs.Packed.{BuilderNode}
use Rattle.packing.specs.Lists.{pairs_of}
use Rattle.packing.specs.Registry.{hash_of, row_of}
use Rattle.packing.specs.Packing.{pack_nodes, least_at, record_of}
use Rattle.packing_rows.specs.WorkTables.{Tables, open_at}
use Rattle.pack_intern.specs.Interning.{cells_is}
use Rattle.pack_intern.specs.InterningLaws.{length_cells}
use Rattle.pack_close.specs.Closing.{Closable}
use Rattle.pack_close.specs.OpenNodes.{tables_of}
use Rattle.pack_close.specs.declared.Open.{Open}
use Rattle.pack_cell.specs.Cells.{at}
use Rattle.pack_cell.specs.declared.Cell.{Cell}
use Rattle.pack_row.specs.Row.{put_pair, TakenFrom}
use Rattle.pack_row.specs.RowLaws.{row_closable}
use Rattle.pack_turn.specs.RowClosing.{ClosesInRow}
use Rattle.pack_turn.specs.RowClosingLaws.{node_step}
use Rattle.pack_ahead.specs.declared.Way.{Way}
use Rattle.pack_ahead.specs.Ahead.{way_with, Underway, way_left, Started, GoesAhead, row_next, RowAsked}
use Rattle.pack_ahead.specs.AheadLaws.{underway_close, underway_full, row_asked, record_next}
use Rattle.pack_node.specs.declared.Due.{Due}
use Rattle.pack_node.specs.NodeSteps.{hash_next, NodeAt, NodeSteps}

pub put_length : (table : List Cell) (i : ℕ) (row : List Cell) → length (put_pair table i row) ≡ length table
put_length table i row = length-set (set table i (at row 0)) (i + 1) (at row 1) ∙ length-set table i (at row 0)

module _ {s : List ℕ} {cells : ℕ} {out : List ℕ} {table : List Cell} {T : Tables} {next : ℕ} {w : Way} {i : ℕ} (G : NodeAt s cells out table T next w i) where
  pub row_of_record : (b : BuilderNode) → row_next T w.depth ≡ b → i ≡ row_of (cells_is table) b
  unfolding row_of
  row_of_record b e = G.row_is ∙ ap₂ (λ (x : BuilderNode) (n : ℕ). 2 * (hash_of x % (n / 2))) e (sym (length_cells table ∙ G.count))

  module _ (pair : List Cell) (taken : TakenFrom table i pair) (e : ℕ) (deep : w.depth ≡ e + 1) where
    low : w.to ≤ e
    low = ⊎_elim (λ l. omega arith) (λ l. omega (arith, G.underway.leaves.last l)) G.node

    C : Closable out next table T (e + 1)
    C = subst (Closable out next table T) deep G.underway.closing.closable

    at_row : i ≡ row_of (cells_is table) (record_of (open_at T (e + 1)) (least_at (open_at T (e + 1))))
    at_row =
        row_of_record (record_of (open_at T (e + 1)) (least_at (open_at T (e + 1))))
        (ap (row_next T) deep
        ∙ record_next T (e + 1) C.sized C.low (C.orderly.few (e + 1) (omega arith)) (omega arith))

    pub node_asked : Closable out next pair T (e + 1)
    node_asked = row_closable out next table T e i pair C taken

    module _ {out' inputs' leasts' targets' : List ℕ} {o : Open} {back : List Cell} {r : Option ℕ} (c : ClosesInRow out next pair T e out' back (tables_of inputs' leasts' targets' o) r) where
      abbrev T₁ : Tables
      T₁ = tables_of inputs' leasts' targets' o

      abbrev table' : List Cell
      table' = put_pair table i back

      pub node_full : r ≡ None → length out' < 16 + length (pack_nodes (pairs_of s) cells).build.nodes
      node_full d = underway_full G.underway G.list G.two e deep low out' ((node_step out next table T e i pair C taken at_row c).1 d)

      module _ (after : ℕ) (d : r ≡ Some after) (led_same : T₁.led ≡ T.led) where
        node_on : Underway s cells out' table' T₁ after (way_with e w.to w.keys)
        node_on = underway_close G.underway G.list e deep low ((node_step out next table T e i pair C taken at_row c).0 after d) led_same

        pub node_started : Started s o (way_with e w.to w.keys)
        node_started = record {
          cells = cells;
          out = out';
          table = table';
          inputs = inputs';
          leasts = leasts';
          targets = targets';
          next = after;
          underway = node_on;
        }

        module _ {o' : Open} {v : Way} (go : GoesAhead s o (way_with e w.to w.keys) o' v) where
          abbrev T₂ : Tables
          T₂ = tables_of inputs' leasts' targets' o'

          node_after : Underway s cells out' table' T₂ after v
          node_after = go.gone.on cells out' table' inputs' leasts' targets' after node_on

          pub node_next : RowAsked cells v.depth T₂
          node_next = row_asked node_after G.two

          pub node_at : {row : ℕ} → (row ≡ 2 * (hash_next T₂ v.depth % (cells / 2))) × (row + 1 < cells) → NodeAt s cells out' table' T₂ after v row
          node_at row = record {
            list = G.list;
            two = G.two;
            count = put_length table i back ∙ G.count;
            underway = node_after;
            node = go.stops;
            row_is = row.0;
            within = row.1;
          }

-- ---- what the code answers

none_some : {n : Due} → ¬ (◌≡◌ {A = Option Due} None (Some n))
none_some e = let z : ◌≡◌ {A = ℕ} 0 1 = cc in omega arith

some_same : {n m : Due} → ◌≡◌ {A = Option Due} (Some n) (Some m) → n ≡ m
some_same e = cc

module _ {s : List ℕ} {cells : ℕ} {out : List ℕ} {pair : List Cell} {T : Tables} {next : ℕ} {w : Way} {out' : List ℕ} {back : List Cell} {T' : Tables} {r : Option Due} where
  pub steps_full : r ≡ None
      → ((table : List Cell) (row : ℕ) → NodeAt s cells out table T next w row → TakenFrom table row pair → length out' < 16 + length (pack_nodes (pairs_of s) cells).build.nodes)
      → NodeSteps s cells out pair T next w out' back T' r
  steps_full e f = record { at = λ n d. absurd (none_some (sym e ∙ d)); full = λ d. f; less = λ n d. absurd (none_some (sym e ∙ d)) }

  pub steps_done : (n : Due) → r ≡ Some n
      → ((table : List Cell) (row : ℕ) → NodeAt s cells out table T next w row → TakenFrom table row pair
      → NodeAt s cells out' (put_pair table row back) T' n.next n.way n.row)
      → way_left s n.way < way_left s w → NodeSteps s cells out pair T next w out' back T' r
  steps_done n e f l = record {
    at = λ m d table row at taken. subst (λ (k : Due). NodeAt s cells out' (put_pair table row back) T' k.next k.way k.row) (some_same (sym e ∙ d)) (f table row at taken);
    full = λ d. absurd (none_some (sym d ∙ e));
    less = λ m d. subst (λ (k : Due). way_left s k.way < way_left s w) (some_same (sym e ∙ d)) l;
  }
