-- The first k levels are carried, their new addresses written, and the highest one's new node is kept.
-- Assumes nothing.
use Rattle.format.specs.Paths.{fst_with}
use Rattle.carry_levels.specs.Settling.{WalkedTo}
use Rattle.carry_levels.proofs.other_levels.Given as goal

abbrev pub invariant-loop-k : goal.invariant-loop-k
invariant-loop-k l = WalkedTo (fst_with l.old.bytes.now l.old.version l.old.root) l.new.bytes.now l.new.version l.new.root l.k l.reading.stack.addrs l.reading.stack.inps l.reading.stack.outs l.moved l.below
