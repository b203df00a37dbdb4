-- Whatever output, cells and tables the way began with, it goes on with them.
-- Assumes nothing.
use Rattle.std.specs.Prelude.{◌≡◌}
use Rattle.pack_ahead.specs.Ahead.{GoneTo}
use Rattle.pack_ahead.proofs.ahead.Given as goal

abbrev pub invariant-loop-i : goal.invariant-loop-i
invariant-loop-i l =
    GoneTo l.list l.initial.nodes l.initial.way l.nodes l.way × (l.way.keys ≡ l.i)
