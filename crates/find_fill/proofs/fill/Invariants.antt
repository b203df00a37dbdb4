-- `find_fill::fill`: the rows before `count` are written, and the page goes on from the reading `here`.
-- Assumes nothing.
use Rattle.finding.specs.Finding.{fold_by}
use Rattle.stream_start.specs.Views.{view_is}
use Rattle.patterned_held.specs.HeldPatterns.{held_is}
use Rattle.find_fill.proofs.GoingBy.{Going}
use Rattle.find_fill.proofs.fill.Given as goal

abbrev pub invariant-loop-count : goal.invariant-loop-count
invariant-loop-count l =
    Going l.file (held_is l.initial.here.pattern) (fold_by l.file (held_is l.initial.here.pattern) (view_is l.initial.here.reading) l.most) l.most
    l.initial.rows l.initial.values l.rows l.values l.key l.here l.count
