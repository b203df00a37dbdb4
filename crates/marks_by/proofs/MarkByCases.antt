-- The calls by cases, as the code goes through them.
--     pattern_right, pattern_wrong       the held positions
--     judged_by, passed_by               what is judged before a mark is set or looked for
--     mark_by_refused, mark_by_set, back_by_refused, back_by_taken, returned     the calls by what is judged first
--     next_by_refused, next_by_goes      a next by what is judged first
-- Assumes nothing.
use mathlib.Core.Path.{◌≡◌, refl, sym, ap, ap₂, ◌∙◌, subst}
use Rattle.std.specs.Prelude.{Ok, Err, Result, ⊤}
use Rattle.format.specs.declared.Refusal.{Refusal}
use mathlib.Core.Bool.{Bool, true, false, cond}
use mathlib.Core.List.{List}
use Prim.Native.Nat.{ℕ, ◌≤◌, ◌<◌}
use native.Mathlib.Omega.{arith}
use borrow.Author.Tests.{lt-leb, le-leb}
use Rattle.format.specs.Limits.{max_path, PATTERN}
use Rattle.reading.specs.Reading as R
use Rattle.reading.specs.Reading.{View, refuse}
use Rattle.plain.specs.Plain.{plain_with}
use Rattle.pattern.specs.Pattern as Q
use Rattle.pattern.specs.Pattern.{next_by}
use Rattle.marking.specs.MarkCalls as M
use Rattle.stream_start.specs.Views.{view_is}
use Rattle.stream.specs.declared.Plain.{Plain}
use Rattle.patterned_fit.specs.PositionLaws.{positions_length}
use Rattle.patterned_fit.specs.declared.Pattern.{Pattern}
use Rattle.patterned.specs.declared.Patterned.{Patterned}
use Rattle.stream_step.specs.declared.Step.{Step}
use Rattle.patterned_held.specs.HeldPatterns.{held_is}
use Rattle.patterned.specs.Patterns.{SteppedBy}
use Rattle.marks.specs.MarkAnswers.{judging, judging_marks, on_judged_marks, on_judged_mark, on_judged_back, set_in, back_in, marking_is, return_is}
use Rattle.marks.specs.MarkAnswersLaws.{judged_marks, judged_mark, judged_back}
use Rattle.marks_by.specs.MarksBy.{pattern_test, on_pattern, judging_by, mark_by, back_by, next_marked_by, view_back, ReturnByTold}

pub pattern_right : (q : Pattern) → q.len ≤ max_path → pattern_test (held_is q) ≡ true
pattern_right q h = rw (positions_length q.len q.positions) (le-leb q.len max_path h)

pub pattern_wrong : (q : Pattern) → max_path < q.len → pattern_test (held_is q) ≡ false
pattern_wrong q h = rw (positions_length q.len q.positions) (lt-leb q.len max_path h)

-- ---- what is judged first

pattern_passed : (b : Bool) (j : Result ⊤ Refusal) → Ok tt ≡ on_pattern b j → Ok tt ≡ j
pattern_passed b (Ok tt) e = refl
pattern_passed b (Err n) e = e

pattern_mark : (b : Bool) (j : Result ⊤ Refusal) (w : M.Marking) → on_judged_mark (on_pattern b j) w ≡ on_judged_mark j (cond b w (M.Marking.refused PATTERN))
pattern_mark true (Ok tt) w = refl
pattern_mark false (Ok tt) w = refl
pattern_mark b (Err n) w = refl

pattern_back : (b : Bool) (j : Result ⊤ Refusal) (w : M.Return) → on_judged_back (on_pattern b j) w ≡ on_judged_back j (cond b w (M.Return.refused PATTERN))
pattern_back true (Ok tt) w = refl
pattern_back false (Ok tt) w = refl
pattern_back b (Err n) w = refl

module _ (s : List ℕ) (q : Q.Pattern) (v : View) (ms : List M.Mark) where
  pub judged_by : (b : Bool) (j : Result ⊤ Refusal) → pattern_test q ≡ b → j ≡ judging s (plain_with v 0) ms → on_pattern b j ≡ judging_by s q v ms
  judged_by b j e is = ap₂ on_pattern (sym e) is

  pub passed_by : Ok tt ≡ judging_by s q v ms → Ok tt ≡ judging s (plain_with v 0) ms
  passed_by e = pattern_passed (pattern_test q) (judging s (plain_with v 0) ms) e

  module _ (n : List ℕ) where
    mark_is_judged : on_judged_mark (judging_by s q v ms) (set_in (plain_with v 0) ms n) ≡ mark_by s q v ms n
    unfolding mark_by
    mark_is_judged =
        pattern_mark (pattern_test q) (judging s (plain_with v 0) ms) (set_in (plain_with v 0) ms n)
        ∙ judged_mark s (plain_with v 0) ms (cond (pattern_test q) (set_in (plain_with v 0) ms n) (M.Marking.refused PATTERN))

    pub mark_by_refused : (c : Refusal) → Err c ≡ judging_by s q v ms → marking_is (Err c) ≡ mark_by s q v ms n
    mark_by_refused c e = ap (λ (j : Result ⊤ Refusal). on_judged_mark j (set_in (plain_with v 0) ms n)) e ∙ mark_is_judged

    pub mark_by_set : Ok tt ≡ judging_by s q v ms → set_in (plain_with v 0) ms n ≡ mark_by s q v ms n
    mark_by_set e = ap (λ (j : Result ⊤ Refusal). on_judged_mark j (set_in (plain_with v 0) ms n)) e ∙ mark_is_judged

    back_is_judged : on_judged_back (judging_by s q v ms) (back_in ms n) ≡ back_by s q (plain_with v 0) ms n
    unfolding back_by
    back_is_judged =
        pattern_back (pattern_test q) (judging s (plain_with v 0) ms) (back_in ms n)
        ∙ judged_back s (plain_with v 0) ms (cond (pattern_test q) (back_in ms n) (M.Return.refused PATTERN))

    pub back_by_refused : (c : Refusal) → Err c ≡ judging_by s q v ms → return_is (Err c) ≡ back_by s q (plain_with v 0) ms n
    back_by_refused c e = ap (λ (j : Result ⊤ Refusal). on_judged_back j (back_in ms n)) e ∙ back_is_judged

    pub back_by_taken : Ok tt ≡ judging_by s q v ms → back_in ms n ≡ back_by s q (plain_with v 0) ms n
    back_by_taken e = ap (λ (j : Result ⊤ Refusal). on_judged_back j (back_in ms n)) e ∙ back_is_judged

-- ---- what going back answers

pattern_of : {x y : Patterned} → ◌≡◌ {A = Result Patterned Refusal} (Ok x) (Ok y) → x.pattern ≡ y.pattern
pattern_of {x} {y} e = let z : x ≡ y = cc in ap (λ (w : Patterned). w.pattern) z

module _ {w : M.Return} (given : Patterned) where
  pub return_refused : (c : Refusal) → return_is (Err c) ≡ w → ReturnByTold w given (Err c)
  return_refused c e = record { answer = ap view_back e; pattern = λ x is. absurd (let z : ◌≡◌ {A = ℕ} 0 1 = cc in omega arith) }

  pub returned : (p : Plain) → return_is (Ok p) ≡ w → ReturnByTold w given (Ok (record { reading = p.reading; pattern = given.pattern }))
  returned p e = record { answer = ap view_back e; pattern = λ x is. sym (pattern_of is) }

-- ---- next

module _ (s : List ℕ) (r : Patterned) (ms : List M.Mark) (space : ℕ) where
  abbrev going : R.Step
  going = next_by s (held_is r.pattern) (view_is r.reading) space

  next_is_judged : on_judged_marks (judging_marks s ms) going (λ n. refuse (view_is r.reading) n) ≡ next_marked_by s (held_is r.pattern) (view_is r.reading) ms space
  unfolding next_marked_by
  next_is_judged = judged_marks s ms going (λ n. refuse (view_is r.reading) n)

  next_as : (j : Result ⊤ Refusal) → j ≡ judging_marks s ms → {buf₀ buf : List ℕ} {x : Step Patterned}
      → SteppedBy (on_judged_marks j going (λ n. refuse (view_is r.reading) n)) r.pattern buf₀ buf x
      → SteppedBy (next_marked_by s (held_is r.pattern) (view_is r.reading) ms space) r.pattern buf₀ buf x
  next_as j e {buf₀} {buf} {x} h =
      subst (λ (w : R.Step). SteppedBy w r.pattern buf₀ buf x)
      (ap (λ (k : Result ⊤ Refusal). on_judged_marks k going (λ n. refuse (view_is r.reading) n)) e ∙ next_is_judged) h

  pub next_by_refused : (n : Refusal) → Err n ≡ judging_marks s ms → (buf : List ℕ) (x : Step Patterned) → (x.answer ≡ Err n) × (x.reading ≡ r)
      → SteppedBy (next_marked_by s (held_is r.pattern) (view_is r.reading) ms space) r.pattern buf buf x
  next_by_refused n e buf x h =
      next_as (Err n) e
      (record { answer = h.0; reading = ap (λ (y : Patterned). view_is y.reading) h.1; pattern = ap (λ (y : Patterned). y.pattern) h.1; buffer = refl })

  pub next_by_goes : Ok tt ≡ judging_marks s ms → {buf₀ buf : List ℕ} {x : Step Patterned} → SteppedBy going r.pattern buf₀ buf x
      → SteppedBy (next_marked_by s (held_is r.pattern) (view_is r.reading) ms space) r.pattern buf₀ buf x
  next_by_goes e h = next_as (Ok tt) e h
