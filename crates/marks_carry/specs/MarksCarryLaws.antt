-- Carrying with marks, by what is judged.
--     judged_as            what is judged, by what both openings answer and whether the marks are right
--     marked_judged        as the code goes: the two files and the marks first, then carrying, which judges the reading itself
--     marked_carries       with right marks it is carrying
--     marks_wrong          with wrong marks, between two files that open, it is STATE
-- Assumes nothing.
use Rattle.std.specs.Prelude.{◌≡◌, Bool, cond, ◌&&◌, List, ℕ, length, Ok, Err, Result, ⊤}
use Rattle.std.proofs.Math.Path.{refl, ap}
use Rattle.std.proofs.Common.{◌∙◌}
use Rattle.std.proofs.Math.Bool.{true, false}
use Rattle.format.specs.declared.Refusal.{Refusal}
use Rattle.format.specs.Limits.{STATE}
use Rattle.format.specs.Opening as O
use Rattle.format.specs.Opening.{Meta, opened, opening}
use Rattle.reading.specs.Reading.{View, on_opened, state_test}
use Rattle.carrying.specs.Carry.{Carried, carry_with}
use Rattle.marking.specs.MarkCalls.{Mark, marks_test}
use Rattle.marks_carry.specs.MarksCarry.{carry_marked_with, judging, on_judged}

both_wrong : (a : Bool) (c : Carried) → cond (a && false) c (Carried.refused STATE) ≡ Carried.refused STATE
both_wrong true c = refl
both_wrong false c = refl

pub judged_as : (old new : List ℕ) (ms : List Mark) (o p : O.Opening) (b : Bool) → opening old ≡ o → opening new ≡ p → marks_test (length old) ms ≡ b
    → on_opened o (λ m. on_opened p (λ q. cond b (Ok tt) (Err STATE)) (λ n. Err n)) (λ n. Err n) ≡ judging old new ms
unfolding judging
judged_as old new ms o p b e e' t = rw (e, e', t)

module _ (fits : Bool) (old new : List ℕ) (r : View) (ms : List Mark) where
  pub marked_carries : marks_test (length old) ms ≡ true → carry_marked_with fits old new r ms ≡ carry_with fits old new r
  unfolding carry_marked_with carry_with
  marked_carries right = by (opening old) refl (opening new) refl (state_test r (length old)) refl
    where
      by : (o : O.Opening) → opening old ≡ o → (p : O.Opening) → opening new ≡ p → (b : Bool) → state_test r (length old) ≡ b
          → carry_marked_with fits old new r ms ≡ carry_with fits old new r
      by (O.refused n) e p e' b t = rw e
      by (opened m) e (O.refused n) e' b t = rw (e, e')
      by (opened m) e (opened q) e' true t = rw (e, e', t, right)
      by (opened m) e (opened q) e' false t = rw (e, e', t)

  pub marks_wrong : (m q : Meta) → opening old ≡ opened m → opening new ≡ opened q → marks_test (length old) ms ≡ false
      → carry_marked_with fits old new r ms ≡ Carried.refused STATE
  unfolding carry_marked_with
  marks_wrong m q e e' wrong = rw (e, e', wrong) (both_wrong (state_test r (length old)) (carry_with fits old new r))

  abbrev carrying : Result ⊤ Refusal → Carried
  carrying j = on_judged j (carry_with fits old new r)

  pub marked_judged : carry_marked_with fits old new r ms ≡ on_judged (judging old new ms) (carry_with fits old new r)
  unfolding judging carry_marked_with
  marked_judged = by (opening old) refl (opening new) refl (marks_test (length old) ms) refl
    where
      by : (o : O.Opening) → opening old ≡ o → (p : O.Opening) → opening new ≡ p → (b : Bool) → marks_test (length old) ms ≡ b
          → carry_marked_with fits old new r ms ≡ on_judged (judging old new ms) (carry_with fits old new r)
      by (O.refused n) e p e' b t = rw e
      by (opened m) e (O.refused n) e' b t = rw (e, e')
      by (opened m) e (opened q) e' true t = marked_carries t ∙ ap carrying (judged_as old new ms (opened m) (opened q) true e e' t)
      by (opened m) e (opened q) e' false t = marks_wrong m q e e' t ∙ ap carrying (judged_as old new ms (opened m) (opened q) false e e' t)
