-- `range_fill::fill`: the rows before `count` are written, and the page goes on from the levels in the stack.
-- Assumes nothing.
use Rattle.std.proofs.Common.{length}
use Rattle.format.specs.View.{fst_is}
use Rattle.reading.specs.Reading.{bound_bytes}
use Rattle.stream_start.specs.Views.{bound_of, stack_of}
use Rattle.range_turn.specs.Turns.{view_at}
use Rattle.range_fill.proofs.FillCases.{Going}
use Rattle.range_fill.proofs.fill.Given as goal

abbrev pub invariant-loop-count : goal.invariant-loop-count
invariant-loop-count l =
    Going (fst_is l.fst) l.fst.bytes.now (bound_of l.upper) (bound_bytes (bound_of l.upper)) (length (bound_bytes (bound_of l.upper)))
    (λ t. view_at (length l.fst.bytes.now) (bound_of l.upper) (length (bound_bytes (bound_of l.upper))) t (stack_of l.levels l.initial.stack)) l.first l.most
    l.initial.rows l.initial.values l.rows l.values l.stack.addrs l.stack.inps l.stack.trans l.stack.outs l.height l.count l.standing.same l.standing.over
