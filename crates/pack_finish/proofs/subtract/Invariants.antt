-- The numbers so far have lost base.
-- Assumes nothing.
use Rattle.pack_finish.specs.FinishRow.{Lessened}
use Rattle.pack_finish.proofs.subtract.Given as goal

abbrev pub invariant-loop-number : goal.invariant-loop-number
invariant-loop-number l = Lessened l.initial.numbers l.numbers 0 l.number-index l.base
