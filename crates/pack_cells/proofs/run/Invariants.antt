-- Between two turns packing stands over the cells.
-- Assumes nothing.
use Rattle.std.specs.Prelude.{Ok, length}
use Rattle.pack_close.specs.OpenNodes.{tables_in}
use Rattle.pack_step.specs.Standing.{turn_left}
use Rattle.pack_cells.proofs.Turns.{Between}
use Rattle.pack_cells.proofs.run.Given as goal

abbrev pub invariant-loop-turn : goal.invariant-loop-turn
invariant-loop-turn l =
    Between l.list (length l.initial.cells) (length l.initial.output)
    (record {
      out = l.output;
      cells = l.cells;
      tables = tables_in l.tables;
      turn = Ok l.turn;
    })

abbrev pub decreases-loop-turn : goal.decreases-loop-turn
decreases-loop-turn l = turn_left l.list (Ok l.turn)
