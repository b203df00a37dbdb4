-- The deepest node is finished, and becomes a transition of the node above it; or there is no room for it.
-- Assumes nothing.
use Rattle.std.proofs.Common.{◌+◌, refl, length, get_or, ap, ◌∙◌, arith}
use Rattle.packing_rows.specs.WorkTables.{Tables}
use Rattle.packing_rows.specs.WorkTableLaws.{with_entry}
use Rattle.pack_close.specs.OpenNodes.{tables_in}
use Rattle.pack_close.specs.ClosingLaws.{row_fits, finishable, room, step_full, step_at, step_done, step_no_room}
use Rattle.pack_close.proofs.Tables.close_one.Goals as goal

pub least-base-requires : goal.least-base-requires
least-base-requires c =
    let a = c.args in
    row_fits a.output.now a.first a.cells.now (tables_in a.self.now) a.e c.requires c.are_bytes.ensures _ refl

pub finish_row-requires : goal.finish_row-requires
finish_row-requires c =
    let a = c.args in
    finishable a.output.now a.first a.cells.now (tables_in a.self.now) a.e c.requires c.are_bytes.ensures c.least-base.result c.least-base.ensures

pub add_arc-requires : goal.add_arc-requires
add_arc-requires c =
    let a = c.args in
    let z = c.requires.sized in
    let f = c.finish_row.ensures in
    let r = room a.output.now a.first a.cells.now (tables_in a.self.now) a.e c.requires c.are_bytes.ensures c.least-base.result c.least-base.ensures in (
      omega (arith, c.requires.low),
      omega (arith, r, ap (λ (T : Tables). get_or T.counts a.e 0) f.rest),
      omega (arith, z.inputs_long, ap (λ (T : Tables). length T.inputs) f.rest),
      omega (arith, z.leasts_long, f.less.long),
      omega (arith, z.targets_long, ap (λ (T : Tables). length T.targets) f.rest),
    )

pub returns : goal.returns
returns c =
    let a = c.args in
    let f = c.finish_row.ensures in
    let added = c.add_arc.ensures ∙ ap (λ (T : Tables). with_entry T a.e (get_or T.led (a.e + 1) 0) c.least-base.result c.in_ok-placed.placed.addr) f.rest in (
      step_done (step_at a.output.now a.first a.cells.now (tables_in a.self.now) a.e c.requires c.are_bytes.ensures c.least-base.result c.least-base.ensures
          c.finish_row.new.output c.finish_row.new.cells _ f.less c.in_ok-placed.placed.addr c.in_ok-placed.placed.next
          (f.interned.at c.in_ok-placed.placed c.in_ok-placed.was) _ added),
      ap (λ (T : Tables). T.led) added,
    )

pub returns-in_err-placed : goal.returns-in_err-placed
returns-in_err-placed c =
    let a = c.args in
    let f = c.finish_row.ensures in
    rw c.from_residual.ensures (
      step_no_room (step_full a.output.now a.first a.cells.now (tables_in a.self.now) a.e c.requires c.are_bytes.ensures c.least-base.result c.least-base.ensures
          c.finish_row.new.output (f.interned.full c.in_err-placed.was)),
      ap (λ (T : Tables). T.led) f.rest,
    )
