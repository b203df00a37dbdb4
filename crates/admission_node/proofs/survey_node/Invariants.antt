-- The loop's invariant: `best` and `most` are the largest depth and sum of the transitions passed, the final output included, where no sum is past the limit.
use Rattle.std.specs.Prelude.{cond, Some, None}
use Rattle.node.specs.Read.{transitions_in}
use Rattle.admission_node.proofs.Surveying.{SurveyedTo}
use Rattle.admission_node.proofs.survey_node.Given as goal

abbrev pub invariant-loop-i : goal.invariant-loop-i
invariant-loop-i l = SurveyedTo l.depths l.sums l.node.final_output (transitions_in l.file l.node) l.i l.best (cond l.fits (Some l.most) None)
