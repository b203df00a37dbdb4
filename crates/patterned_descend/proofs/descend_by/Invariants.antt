-- `patterned_descend::descend_by`: level k, with its judged node, can go on, and the walk from there is the one that is wanted.
-- Assumes nothing.
use Rattle.std.proofs.Common.{◌∷◌}
use Rattle.stream_start.specs.Views.{bound_of, level_at, stack_of}
use Rattle.patterned_fit.specs.Positions.{held_is}
use Rattle.patterned_descend.proofs.GoingByLaws.{GoingBy}
use Rattle.patterned_descend.proofs.descend_by.Given as goal

abbrev pub invariant-loop-k : goal.invariant-loop-k
invariant-loop-k l =
    let o = l.initial.stack in
    GoingBy l.fst.bytes.now l.fst.version l.fst.root (held_is l.pattern) (bound_of l.upper)
    (level_at l.top o.addrs o.inps o.trans o.outs ∷ stack_of l.top o) l.total l.stack.addrs l.stack.inps l.stack.trans l.stack.outs l.k l.m l.t
