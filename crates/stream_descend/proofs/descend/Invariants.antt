-- `stream_descend::descend`: from level k on, with its judged node, the answer is the one that is wanted.
-- Assumes nothing.
use Rattle.stream_start.specs.Views.{bound_of}
use Rattle.stream_descend.specs.Descent.{down_from}
use Rattle.stream_descend.proofs.GoingLaws.{Going}
use Rattle.stream_descend.proofs.descend.Given as goal

abbrev pub invariant-loop-k : goal.invariant-loop-k
invariant-loop-k l =
    Going l.fst.bytes.now l.fst.version l.fst.root (bound_of l.upper)
    (down_from l.fst.bytes.now l.fst.version l.fst.root (bound_of l.upper) l.initial.stack.addrs l.initial.stack.inps l.initial.stack.trans l.initial.stack.outs l.top
    l.initial.m l.total) l.stack.addrs l.stack.inps l.stack.trans l.stack.outs l.k l.m l.t
