-- A node finished in its row alone, and the same in the whole table.
--     closes_in_row        what finishing the deepest node leaves, said of the row
--     node_step            and of the table that the row is put back into
-- Assumes nothing.
use Rattle.std.specs.Prelude.{◌≡◌, Option, None, Some, refl, List, ℕ, ◌+◌, ◌≤◌, ◌<◌, length}
use Rattle.std.proofs.Common.{arith}
use Rattle.packing.specs.Registry.{row_of}
use Rattle.packing.specs.Packing.{least_at, record_of}
use Rattle.packing_rows.specs.WorkTables.{Tables, open_at}
use Rattle.pack_cell.specs.declared.Cell.{Cell}
use Rattle.pack_intern.specs.Interning.{cells_is, build_is}
use Rattle.pack_row.specs.RowLaws.{step_in_row, step_full}
use Rattle.pack_close.specs.Closing.{Closable, closed_to, StepTo, StepIs}
use Rattle.pack_close.specs.ClosingLaws.{closing_none, closing_step, closing_full, closing_all}
use Rattle.pack_row.specs.Row.{put_pair, TakenFrom}
use Rattle.pack_turn.specs.RowClosing.{ClosesInRow}

pub closes_in_row : (out : List ℕ) (first : ℕ) (row : List Cell) (T : Tables) (e : ℕ) → Closable out first row T (e + 1) → {out' : List ℕ} {back : List Cell} {T' : Tables}
    → (r : Option ℕ) → StepIs (build_is out first row) first T e out' back T' r → ClosesInRow out first row T e out' back T' r
closes_in_row out first row T e C None s = closing_full (closing_none out first row T (e + 1) e C (omega arith)) refl (omega arith) s refl
closes_in_row out first row T e C (Some next) s = closing_all (closing_step (closing_none out first row T (e + 1) e C (omega arith)) refl (omega arith) s refl) (omega arith)

-- what finishing the node in its row leaves there is what finishing it leaves, once the row is put back
pub node_step : (out : List ℕ) (first : ℕ) (table : List Cell) (T : Tables) (e i : ℕ) (row : List Cell) → Closable out first table T (e + 1) → TakenFrom table i row
    → i ≡ row_of (cells_is table) (record_of (open_at T (e + 1)) (least_at (open_at T (e + 1)))) → {out' : List ℕ} {back : List Cell} {T' : Tables} {r : Option ℕ} → ClosesInRow out first row T e out' back T' r
    → ((next : ℕ) → r ≡ Some next → StepTo (build_is out first table) first T e out' (put_pair table i back) T' next)
    × (r ≡ None → (m : ℕ) → m ≤ e → length out' < 16 + length (closed_to (build_is out first table) T m (e + 1)).build.nodes)
node_step out first table T e i row C taken at_row {out'} w =
    ((λ next d. step_in_row out first table T e i row C taken at_row (w.at next d)), λ d. step_full out first table T e i row C taken at_row out' (w.full d))
