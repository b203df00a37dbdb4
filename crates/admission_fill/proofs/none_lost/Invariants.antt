-- The flag is 0 exactly where none of the entries passed is 1 or 2.
use Rattle.std.proofs.Common.{nat_eq}
use Rattle.admission_fill.specs.Fills.{NoneLost}
use Rattle.admission_fill.proofs.none_lost.Given as goal

abbrev pub invariant-loop-mark : goal.invariant-loop-mark
invariant-loop-mark l = NoneLost l.depths l.mark-index (nat_eq l.lost 0)
