-- `patterned_walk::pop_by`: the first `top` levels decide.
-- Assumes nothing.
use Rattle.patterned_walk.proofs.PopByLaws.{PoppingBy}
use Rattle.patterned_walk.proofs.pop_by.Given as goal

abbrev pub invariant-loop-top : goal.invariant-loop-top
invariant-loop-top l = PoppingBy l.fst.bytes.now l.fst.version l.fst.root l.pattern.len l.pattern.rest l.stack.addrs l.stack.trans l.levels l.fit l.top
