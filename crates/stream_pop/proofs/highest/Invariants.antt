-- `stream_pop::highest`: the first `top` levels decide.
-- Assumes nothing.
use Rattle.stream_pop.proofs.PopLaws.{Popping}
use Rattle.stream_pop.proofs.highest.Given as goal

abbrev pub invariant-loop-top : goal.invariant-loop-top
invariant-loop-top l = Popping l.fst.bytes.now l.fst.version l.fst.root l.stack.addrs l.stack.trans l.levels l.top
