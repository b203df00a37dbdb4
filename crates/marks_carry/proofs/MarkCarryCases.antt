-- Carrying with marks by cases, as the code goes through them.
--     plain_refused, plain_right         a plain reading, by what was judged
--     patterned_refused, patterned_right     a reading by pattern
-- Assumes nothing.
use mathlib.Core.Path.{◌≡◌, refl, sym, ap, ◌∙◌, subst}
use Rattle.std.specs.Prelude.{Ok, Err, Result, ⊤}
use Rattle.format.specs.declared.Refusal.{Refusal}
use mathlib.Core.Bool.{true}
use mathlib.Core.List.{List}
use Prim.Native.Nat.{ℕ}
use native.Mathlib.Omega.{arith}
use lib.Dec.{leb}
use lib.ListN.{length}
use Rattle.format.specs.Limits.{max_path}
use Rattle.stream_start.specs.Views.{view_is}
use Rattle.stream.specs.declared.Plain.{Plain}
use Rattle.stream.specs.Plains.{plain_is}
use Rattle.patterned.specs.declared.Patterned.{Patterned}
use Rattle.patterned_held.specs.HeldPatterns.{held_is}
use Rattle.carrying.specs.Carry as C
use Rattle.carrying.specs.Carry.{carry_plain, carry_by, with_keys}
use Rattle.carry.specs.Carries.{carried_plain_is, PatternedCarried}
use Rattle.marking.specs.MarkCalls.{Mark}
use Rattle.marks_carry.specs.MarksCarry.{carry_marked, carry_marked_by, judging, on_judged}
use Rattle.marks_carry.specs.MarksCarryLaws.{marked_judged}

module _ (old new : List ℕ) (ms : List Mark) where
  module _ (given : Plain) where
    marked_plain : (j : Result ⊤ Refusal) → j ≡ judging old new ms
        → with_keys given.keys (on_judged j (C.carry old new (view_is given.reading))) ≡ carry_marked old new (plain_is given) ms
    marked_plain j is =
        ap (λ (i : Result ⊤ Refusal). with_keys given.keys (on_judged i (C.carry old new (view_is given.reading)))) is
        ∙ ap (with_keys given.keys) (sym (marked_judged true old new (view_is given.reading) ms))

    pub plain_refused : (why : Refusal) → Err why ≡ judging old new ms → carried_plain_is (Err why) ≡ carry_marked old new (plain_is given) ms
    plain_refused why is = marked_plain (Err why) is

    pub plain_right : (Ok tt) ≡ judging old new ms → (r : Result Plain Refusal) → carried_plain_is r ≡ carry_plain old new (plain_is given)
        → carried_plain_is r ≡ carry_marked old new (plain_is given) ms
    plain_right is r h = h ∙ marked_plain (Ok tt) is

  module _ (given : Patterned) where
    marked_patterned : (j : Result ⊤ Refusal) → j ≡ judging old new ms
        → on_judged j (carry_by old new (held_is given.pattern) (view_is given.reading))
        ≡ carry_marked_by old new (held_is given.pattern) (view_is given.reading) ms
    marked_patterned j is =
        ap (λ (i : Result ⊤ Refusal). on_judged i (carry_by old new (held_is given.pattern) (view_is given.reading))) is
        ∙ sym (marked_judged (leb (length (held_is given.pattern).positions) max_path) old new (view_is given.reading) ms)

    pub patterned_refused : (why : Refusal) → Err why ≡ judging old new ms
        → PatternedCarried (carry_marked_by old new (held_is given.pattern) (view_is given.reading) ms) given (Err why)
    patterned_refused why is =
        record { answer = marked_patterned (Err why) is; pattern = λ x e. absurd (let z : ◌≡◌ {A = ℕ} 0 1 = cc in omega arith) }

    pub patterned_right : (Ok tt) ≡ judging old new ms → (r : Result Patterned Refusal)
        → PatternedCarried (carry_by old new (held_is given.pattern) (view_is given.reading)) given r
        → PatternedCarried (carry_marked_by old new (held_is given.pattern) (view_is given.reading) ms) given r
    patterned_right is r h = record { answer = h.answer ∙ marked_patterned (Ok tt) is; pattern = h.pattern }
