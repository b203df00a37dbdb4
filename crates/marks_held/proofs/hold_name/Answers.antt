-- The name stands at the front of eight bytes.
-- Assumes nothing.
use Rattle.std.proofs.Common.{◌≡◌, ℕ, List, ◌++◌, length, arith, refl, ◌∙◌, length-append}
use Rattle.std.proofs.lemmas.List.{take_at}
use Rattle.marks_held.specs.MarkViews.{stated}
use Rattle.marks_held.specs.MarkViewsLaws.{stated_take}
use Rattle.marks_held.proofs.hold_name.Goals as goal

held_front : (name copied rest : List ℕ) → copied ≡ name → stated (length name) 0 (copied ++ rest) ≡ name
held_front name copied rest e =
    rw e (stated_take (length name) 0 (name ++ rest) (omega (arith, length-append name rest)) ∙ take_at name rest _ refl)

pub returns : goal.returns
returns c = held_front c.args.name.now c.copy_from_slice.new.self _ c.copy_from_slice.ensures.after
