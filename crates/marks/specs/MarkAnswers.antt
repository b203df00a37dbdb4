-- What the calls of this crate tell, against `MarkCalls` (crate marking), and the parts of those.
--     both_test             STATE's condition, on the reading and on its marks
--     judging               opening's refusals and STATE, as the code judges them first; on_judged_mark, on_judged_back, what comes after that
--     judging_marks         the same of the marks alone, before a next; on_judged_marks, what comes after that
--     set_in, back_in        marking and going back, where that holds
--     marking_is r, return_is r       what a mark and going back answered
-- Assumes nothing.
use Rattle.std.specs.Prelude.{Bool, cond, ◌&&◌, List, ℕ, length, Ok, Err, Result, ⊤}
use Rattle.format.specs.declared.Refusal.{Refusal}
use Rattle.format.specs.Limits.{STATE, NAME, FULL}
use Rattle.format.specs.Opening.{opening}
use Rattle.reading.specs.Reading.{on_opened, state_test}
use Rattle.plain.specs.Plain.{Plain}
use Rattle.marking.specs.MarkCalls as M
use Rattle.marking.specs.MarkCalls.{name_test, room_for, put, marked, found, marks_test}
use Rattle.stream.specs.declared.Plain as S
use Rattle.stream.specs.Plains.{plain_is}
use Rattle.marks_held.specs.MarkViews.{marks_is}
use Rattle.marks_held.specs.declared.Marks.{Marks}

abbrev pub both_test : Plain → List M.Mark → ℕ → Bool
both_test p ms len = state_test p.view len && marks_test len ms

abbrev pub set_in : Plain → List M.Mark → List ℕ → M.Marking
set_in p ms n = cond (name_test n) (cond (room_for n ms) (M.has_marks (put n p ms)) (M.Marking.refused FULL)) (M.Marking.refused NAME)

abbrev pub back_in : List M.Mark → List ℕ → M.Return
back_in ms n = cond (name_test n) (found (marked n ms)) (M.Return.refused NAME)

abbrev pub marking_is : Result Marks Refusal → M.Marking
marking_is (Ok m) = M.has_marks (marks_is m)
marking_is (Err n) = M.Marking.refused n

abbrev pub return_is : Result S.Plain Refusal → M.Return
return_is (Ok p) = M.at (plain_is p)
return_is (Err n) = M.Return.refused n

-- ---- as the code goes

unfoldable pub judging : List ℕ → Plain → List M.Mark → Result ⊤ Refusal
judging s p ms = on_opened (opening s) (λ m. cond (both_test p ms (length s)) (Ok tt) (Err STATE)) (λ n. Err n)

-- before a next without marks, which judges the reading
unfoldable pub judging_marks : List ℕ → List M.Mark → Result ⊤ Refusal
judging_marks s ms = on_opened (opening s) (λ m. cond (marks_test (length s) ms) (Ok tt) (Err STATE)) (λ n. Err n)

abbrev pub on_judged_marks : {A : Type 0} → Result ⊤ Refusal → A → (Refusal → A) → A
on_judged_marks (Ok tt) go stop = go
on_judged_marks (Err n) go stop = stop n

abbrev pub on_judged_mark : Result ⊤ Refusal → M.Marking → M.Marking
on_judged_mark (Ok tt) w = w
on_judged_mark (Err n) w = M.Marking.refused n

abbrev pub on_judged_back : Result ⊤ Refusal → M.Return → M.Return
on_judged_back (Ok tt) w = w
on_judged_back (Err n) w = M.Return.refused n
