-- `marks::none` meets its contract. Assumes nothing.
use mathlib.Core.Path.{◌≡◌, refl, ap, ◌∙◌}
use mathlib.Core.List.{[]}
use Rattle.marks_held.specs.MarkViews.{stated, marks_is, no_marks}
use Rattle.marks.proofs.none.Goals as goal

none_is : marks_is no_marks ≡ []
unfolding stated
none_is = refl

pub returns : goal.returns
returns c = ap marks_is c.no_marks.ensures ∙ none_is
