-- `find::find_from` meets its contract: the start's refusal, or the rows of its reading. Assumes nothing.
use Rattle.std.proofs.Common.{◌≡◌, sym, ap, ◌∙◌}
use Rattle.reading.specs.Reading as R
use Rattle.pattern.specs.Pattern as P
use Rattle.pattern.specs.Pattern.{start_by}
use Rattle.finding.specs.Finding.{fold_by, page_by}
use Rattle.stream_start.specs.Views.{bound_of, view_is}
use Rattle.patterned.specs.Patterns.{begun_is}
use Rattle.patterned_held.specs.HeldPatterns.{given_is}
use Rattle.range_fill.specs.FillLaws.{ranged_as, refused_by}
use Rattle.find.proofs.find_from.Goals as goal

-- the start is refused
pub returns-in-Err : goal.returns-in-Err
returns-in-Err c =
    let a = c.args in
    let p = given_is a.positions.now a.rest in
    let is : start_by a.file.now p (bound_of a.lower) (bound_of a.upper) ≡ R.Started.refused c.in-Err.why = sym c.start.ensures.answer ∙ ap begun_is c.in-Err.is in
    refused_by _ a.rows.now a.values.now (ap (page_by a.file.now p a.most) is) c.refused.ensures

-- the rows of its reading, which holds the pattern
pub returns-in-Ok : goal.returns-in-Ok
returns-in-Ok c =
    let a = c.args in
    let p = given_is a.positions.now a.rest in
    let q = c.in-Ok.patterned in
    let v = view_is q.reading in
    let is : start_by a.file.now p (bound_of a.lower) (bound_of a.upper) ≡ R.started v = sym c.start.ensures.answer ∙ ap begun_is c.in-Ok.is in
    ranged_as
    (ap (λ (x : P.Pattern). fold_by a.file.now x v a.most) (c.start.ensures.pattern q c.in-Ok.is) ∙ ap (page_by a.file.now p a.most) (sym is))
    c.fill.ensures
