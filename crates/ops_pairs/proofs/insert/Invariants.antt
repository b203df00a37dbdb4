-- The first j places are settled, and the rest decides.
use Rattle.ops_pairs.proofs.InsertLaws.{Placing}
use Rattle.ops_pairs.proofs.insert.Given as goal

abbrev pub invariant-loop-j : goal.invariant-loop-j
invariant-loop-j l = Placing l.value l.file l.n l.initial.values l.initial.files l.values l.files l.v l.f l.found l.j
