-- What is judged before a mark is set or looked for.
--     judged_no, judged_as         by what is judged of the marks alone, and whether the reading is right
--     marks_judged_as, judged_marks     the same of the marks alone, and what comes after it
--     judged_mark, judged_back     what comes after it, as the definitions go
--     judged_few                   where it passes there are at most 16 marks
-- Assumes nothing.
use Rattle.std.specs.Prelude.{◌≡◌, Bool, cond, ◌&&◌, List, map, ℕ, ◌≤◌, length, Ok, Err, Result, ⊤}
use Rattle.std.proofs.Math.Path.{refl, sym, ap, ◌∙◌}
use Rattle.std.proofs.Math.Bool.{true, false}
use Rattle.std.proofs.Common.{arith}
use Rattle.std.proofs.lemmas.Bool.{and_parts}
use Rattle.format.specs.declared.Refusal.{Refusal}
use Rattle.format.specs.Limits.{STATE}
use Rattle.format.specs.Opening as O
use Rattle.format.specs.Opening.{opened, opening}
use Rattle.reading.specs.Reading.{on_opened, state_test}
use Rattle.plain.specs.Plain.{Plain}
use Rattle.marking.specs.MarkCalls as M
use Rattle.marking.specs.MarkCalls.{marks_test}
use Rattle.marking.proofs.MarksRightLaws.{test_right}
use Rattle.marks_held.specs.declared.Marks.{Marks}
use Rattle.marks_held.specs.MarkViews.{no_mark, mark_is, marks_is}
use Rattle.marks_held.specs.MarkViewsLaws.{stated_length}
use Rattle.marks.specs.MarkAnswers.{both_test, judging, judging_marks, on_judged_marks, on_judged_mark, on_judged_back}

module _ (s : List ℕ) (ms : List M.Mark) where
  pub marks_judged_as : (o : O.Opening) (b : Bool) → opening s ≡ o → marks_test (length s) ms ≡ b → on_opened o (λ m. cond b (Ok tt) (Err STATE)) (λ n. Err n) ≡ judging_marks s ms
  unfolding judging_marks
  marks_judged_as o b e t = rw (e, t)

  pub judged_marks : {A : Type 0} (go : A) (stop : Refusal → A)
      → on_judged_marks (judging_marks s ms) go stop ≡ on_opened (opening s) (λ m. cond (marks_test (length s) ms) go (stop STATE)) (λ n. stop n)
  unfolding judging_marks
  judged_marks {A} go stop = by (opening s) (marks_test (length s) ms)
    where
      by : (o : O.Opening) (b : Bool)
          → on_judged_marks (on_opened o (λ m. cond b (Ok tt) (Err STATE)) (λ n. Err n)) go stop ≡ on_opened o (λ m. cond b go (stop STATE)) (λ n. stop n)
      by (opened m) true = refl
      by (opened m) false = refl
      by (O.refused n) b = refl

module _ (s : List ℕ) (p : Plain) (ms : List M.Mark) where
  pub judged_no : (n : Refusal) → Err n ≡ judging_marks s ms → Err n ≡ judging s p ms
  unfolding judging judging_marks
  judged_no n = by (opening s) (state_test p.view (length s)) (marks_test (length s) ms)
    where
      by : (o : O.Opening) (a b : Bool) → ◌≡◌ {A = Result ⊤ Refusal} (Err n) (on_opened o (λ m. cond b (Ok tt) (Err STATE)) (λ n. Err n))
          → ◌≡◌ {A = Result ⊤ Refusal} (Err n) (on_opened o (λ m. cond (a && b) (Ok tt) (Err STATE)) (λ n. Err n))
      by (opened m) a true e = absurd (let z : ◌≡◌ {A = ℕ} 0 1 = cc in omega arith)
      by (opened m) true false e = e
      by (opened m) false false e = e
      by (O.refused n) a b e = e

  judged_then : Ok tt ≡ judging_marks s ms → cond (state_test p.view (length s)) (Ok tt) (Err STATE) ≡ judging s p ms
  unfolding judging judging_marks
  judged_then = by (opening s) (state_test p.view (length s)) (marks_test (length s) ms)
    where
      by : (o : O.Opening) (a b : Bool) → ◌≡◌ {A = Result ⊤ Refusal} (Ok tt) (on_opened o (λ m. cond b (Ok tt) (Err STATE)) (λ n. Err n))
          → ◌≡◌ {A = Result ⊤ Refusal} (cond a (Ok tt) (Err STATE)) (on_opened o (λ m. cond (a && b) (Ok tt) (Err STATE)) (λ n. Err n))
      by (opened m) true true e = refl
      by (opened m) false true e = refl
      by (opened m) a false e = absurd (let z : ◌≡◌ {A = ℕ} 0 1 = cc in omega arith)
      by (O.refused n) a b e = absurd (let z : ◌≡◌ {A = ℕ} 0 1 = cc in omega arith)

  pub judged_as : (b : Bool) → Ok tt ≡ judging_marks s ms → state_test p.view (length s) ≡ b → cond b (Ok tt) (Err STATE) ≡ judging s p ms
  judged_as b e t = ap (λ (x : Bool). cond x (Ok tt) (Err STATE)) (sym t) ∙ judged_then e

  pub judged_mark : (w : M.Marking)
      → on_judged_mark (judging s p ms) w ≡ on_opened (opening s) (λ m. cond (both_test p ms (length s)) w (M.Marking.refused STATE)) (λ n. M.Marking.refused n)
  unfolding judging
  judged_mark w = by (opening s) (both_test p ms (length s))
    where
      by : (o : O.Opening) (b : Bool)
          → on_judged_mark (on_opened o (λ m. cond b (Ok tt) (Err STATE)) (λ n. Err n)) w
          ≡ on_opened o (λ m. cond b w (M.Marking.refused STATE)) (λ n. M.Marking.refused n)
      by (opened m) true = refl
      by (opened m) false = refl
      by (O.refused n) b = refl

  pub judged_back : (w : M.Return)
      → on_judged_back (judging s p ms) w ≡ on_opened (opening s) (λ m. cond (both_test p ms (length s)) w (M.Return.refused STATE)) (λ n. M.Return.refused n)
  unfolding judging
  judged_back w = by (opening s) (both_test p ms (length s))
    where
      by : (o : O.Opening) (b : Bool)
          → on_judged_back (on_opened o (λ m. cond b (Ok tt) (Err STATE)) (λ n. Err n)) w
          ≡ on_opened o (λ m. cond b w (M.Return.refused STATE)) (λ n. M.Return.refused n)
      by (opened m) true = refl
      by (opened m) false = refl
      by (O.refused n) b = refl

  judged_both : Ok tt ≡ judging s p ms → both_test p ms (length s) ≡ true
  unfolding judging
  judged_both = by (opening s) (both_test p ms (length s))
    where
      by : (o : O.Opening) (b : Bool) → ◌≡◌ {A = Result ⊤ Refusal} (Ok tt) (on_opened o (λ m. cond b (Ok tt) (Err STATE)) (λ n. Err n)) → b ≡ true
      by (opened m) true e = refl
      by (opened m) false e = absurd (let z : ◌≡◌ {A = ℕ} 0 1 = cc in omega arith)
      by (O.refused n) b e = absurd (let z : ◌≡◌ {A = ℕ} 0 1 = cc in omega arith)

pub judged_few : (s : List ℕ) (p : Plain) (m : Marks) → Ok tt ≡ judging s p (marks_is m) → m.count ≤ 16
judged_few s p m e =
    let right : marks_test (length s) (marks_is m) ≡ true = (and_parts (state_test p.view (length s)) (marks_test (length s) (marks_is m)) (judged_both s p (marks_is m) e)).1 in
    omega (arith, (test_right (length s) (marks_is m) right).few, stated_length m.count no_mark (map mark_is m.marks))
