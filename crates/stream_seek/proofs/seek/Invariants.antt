-- The loop's invariant: what is left of the bound, from the node at addr over the levels written so far, decides the answer.
use Rattle.std.proofs.Common.{◌<◌}
use Rattle.format.specs.Paths.{fst_with}
use Rattle.stream_seek.proofs.Seeking.{Seeking}
use Rattle.stream_seek.proofs.seek.Given as goal

abbrev pub invariant-loop-k : goal.invariant-loop-k
invariant-loop-k l = (l.addr < 4294967296) × Seeking (fst_with l.fst.bytes.now l.fst.version l.fst.root) l.inclusive l.lower l.stack.addrs l.stack.inps l.stack.trans l.stack.outs l.k l.addr l.inp l.sum
