-- A turn takes the two cells of a row, a step is made, and two cells are put back.
-- Assumes nothing.
use Rattle.std.proofs.Common.{rules, refl, sym, ap, ◌+◌, ◌<◌, arith, length}
use Rattle.std.specs.Prelude.{Ok, Err}
use Rattle.std.proofs.lemmas.List.{get_or_default}
use Rattle.std.proofs.lemmas.Result.{err_from_is_err_and}
use Rattle.pack_close.specs.OpenNodes.{tables_in}
use Rattle.pack_cells.proofs.Turns.{State, stands_fit, stands_judged, ended_judged, standing_as, within, asked, after}
use Rattle.pack_cells.proofs.run.Goals as goal

-- the list or the tables are refused before the first turn
pub returns-in_err-turn : goal.returns-in_err-turn
returns-in_err-turn c =
    let p = err_from_is_err_and c.from_residual.result c.from_residual.ensures.1 in
    let st = c.begin.ensures.0 c.args.output.now c.args.cells.now c.requires.0 c.requires.1 in
    rw (p.1, p.2) (st.ended (Err _) c.in_err-turn.was)

pub loop-turn-init : goal.loop-turn-init
loop-turn-init c =
    let st = standing_as c.in_ok-turn.was (c.begin.ensures.0 c.args.output.now c.args.cells.now c.requires.0 c.requires.1) in
    stands_judged (stands_fit c.in_ok-turn.turn st) st

-- every node is placed
pub returns-in-Done : goal.returns-in-Done
returns-in-Done c =
    let fit = stands_fit c.in_ok-turn.turn (standing_as c.in_ok-turn.was (c.begin.ensures.0 c.args.output.now c.args.cells.now c.requires.0 c.requires.1)) in
    ended_judged (sym fit) (c.loop-turn.invariant.ended (Ok c.in-Done.root) (ap Ok c.in-Done.is))

pub offset_bounds-cells-i : goal.offset_bounds-cells-i
offset_bounds-cells-i c =
    let w : c.in-Next.due.row + 1 < length c.loop-turn.cells = within _ c.loop-turn.invariant c.in-Next.due (ap Ok c.in-Next.is) in
    search rules

pub slice_copy_out-row : goal.slice_copy_out-row
slice_copy_out-row c =
    let w : c.in-Next.due.row + 1 < length c.loop-turn.cells = within _ c.loop-turn.invariant c.in-Next.due (ap Ok c.in-Next.is) in
    omega arith

pub overflow_add-row : goal.overflow_add-row
overflow_add-row c =
    let w : c.in-Next.due.row + 1 < length c.loop-turn.cells = within _ c.loop-turn.invariant c.in-Next.due (ap Ok c.in-Next.is) in
    search rules

pub offset_bounds-cells-i-in-loop-turn : goal.offset_bounds-cells-i-in-loop-turn
offset_bounds-cells-i-in-loop-turn c =
    let w : c.in-Next.due.row + 1 < length c.loop-turn.cells = within _ c.loop-turn.invariant c.in-Next.due (ap Ok c.in-Next.is) in
    search rules

pub slice_copy_out-row-in-loop-turn : goal.slice_copy_out-row-in-loop-turn
slice_copy_out-row-in-loop-turn c = within _ c.loop-turn.invariant c.in-Next.due (ap Ok c.in-Next.is)

pub step-next-requires : goal.step-next-requires
step-next-requires c =
    let d = c.in-Next.due in
    let w = within _ c.loop-turn.invariant d (ap Ok c.in-Next.is) in
    asked _ c.loop-turn.invariant d (ap Ok c.in-Next.is) (get_or_default c.loop-turn.cells d.row _ _ (omega (arith, w))) (get_or_default c.loop-turn.cells (d.row + 1) _ _ w)

pub put_row-requires : goal.put_row-requires
put_row-requires c = within _ c.loop-turn.invariant c.in-Next.due (ap Ok c.in-Next.is)

-- a step has no room
pub returns-in_err-turn-2 : goal.returns-in_err-turn-2
returns-in_err-turn-2 c =
    let p = err_from_is_err_and c.from_residual-in_err-turn-2.result c.from_residual-in_err-turn-2.ensures.1 in
    let d = c.in-Next.due in
    let w = within _ c.loop-turn.invariant d (ap Ok c.in-Next.is) in
    let fit = stands_fit c.in_ok-turn.turn (standing_as c.in_ok-turn.was (c.begin.ensures.0 c.args.output.now c.args.cells.now c.requires.0 c.requires.1)) in
    let left : State = record {
      out = c.step-next.new.output;
      cells = c.put_row.new.cells;
      tables = tables_in c.step-next.new.tables;
      turn = c.step-next.result;
    } in
    let st = after _ c.loop-turn.invariant d (ap Ok c.in-Next.is) (get_or_default c.loop-turn.cells d.row _ _ (omega (arith, w))) (get_or_default c.loop-turn.cells (d.row + 1) _ _ w)
    left c.step-next.ensures refl c.put_row.ensures in
    rw (p.1, p.2) (ended_judged (sym fit) (st.ended (Err _) c.in_err-turn-2.was))

pub loop-turn-preserved : goal.loop-turn-preserved
loop-turn-preserved c =
    let d = c.in-Next.due in
    let w = within _ c.loop-turn.invariant d (ap Ok c.in-Next.is) in
    let left : State = record {
      out = c.step-next.new.output;
      cells = c.put_row.new.cells;
      tables = tables_in c.step-next.new.tables;
      turn = Ok c.in_ok-turn-2.turn;
    } in
    after _ c.loop-turn.invariant d (ap Ok c.in-Next.is) (get_or_default c.loop-turn.cells d.row _ _ (omega (arith, w))) (get_or_default c.loop-turn.cells (d.row + 1) _ _ w)
    left c.step-next.ensures c.in_ok-turn-2.was c.put_row.ensures
