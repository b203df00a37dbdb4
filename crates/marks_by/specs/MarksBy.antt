-- Marks of readings by pattern (document 02, N10), by definition, over those of plain readings: a mark holds the reading without its pattern, as a plain
-- reading whose number carries no meaning.
--     pattern_test                    at most 255 positions
--     mark_by, back_by, next_marked_by   the calls: opening's refusals, STATE for the reading or the marks, PATTERN, then NAME and FULL, or the call by pattern
--     view_back, view_of, ReturnByTold   what going back answers: the reading, and the pattern as it was
--     on_pattern, judging_by          opening's refusals, STATE and PATTERN, as the code judges them first
-- Assumes nothing.
use Rattle.std.specs.Prelude.{◌≡◌, Bool, cond, List, ℕ, leb, length, Ok, Err, Result, ⊤}
use Rattle.format.specs.declared.Refusal.{Refusal}
use Rattle.format.specs.Limits.{max_path, STATE, PATTERN}
use Rattle.format.specs.Opening.{opening}
use Rattle.reading.specs.Reading.{View, on_opened, Step, refuse}
use Rattle.plain.specs.Plain as P
use Rattle.plain.specs.Plain.{plain_with}
use Rattle.pattern.specs.Pattern.{Pattern, next_by}
use Rattle.marking.specs.MarkCalls as M
use Rattle.marking.specs.MarkCalls.{marks_test}
use Rattle.stream_start.specs.Views.{view_is}
use Rattle.patterned.specs.declared.Patterned.{Patterned}
use Rattle.marks.specs.MarkAnswers.{both_test, judging, set_in, back_in}

abbrev pub pattern_test : Pattern → Bool
pattern_test q = leb (length q.positions) max_path

unfoldable pub mark_by : List ℕ → Pattern → View → List M.Mark → List ℕ → M.Marking
mark_by s q v ms n =
    on_opened (opening s)
    (λ m.
    cond (both_test (plain_with v 0) ms (length s))
    (cond (pattern_test q) (set_in (plain_with v 0) ms n) (M.Marking.refused PATTERN))
    (M.Marking.refused STATE))
    (λ c. M.Marking.refused c)

unfoldable pub back_by : List ℕ → Pattern → P.Plain → List M.Mark → List ℕ → M.Return
back_by s q p ms n =
    on_opened (opening s)
    (λ m. cond (both_test p ms (length s)) (cond (pattern_test q) (back_in ms n) (M.Return.refused PATTERN)) (M.Return.refused STATE))
    (λ c. M.Return.refused c)

unfoldable pub next_marked_by : List ℕ → Pattern → View → List M.Mark → ℕ → Step
next_marked_by s q v ms space = on_opened (opening s) (λ m. cond (marks_test (length s) ms) (next_by s q v space) (refuse v STATE)) (λ c. refuse v c)

-- the reading inside, as a return answers it
abbrev pub view_back : M.Return → Result View Refusal
view_back (M.at p) = Ok p.view
view_back (M.Return.refused c) = Err c

abbrev pub view_of : Result Patterned Refusal → Result View Refusal
view_of (Ok x) = Ok (view_is x.reading)
view_of (Err c) = Err c

pub record ReturnByTold (w : M.Return) (given : Patterned) (r : Result Patterned Refusal) : Type 0 where
  pub answer : view_of r ≡ view_back w
  pub pattern : (x : Patterned) → r ≡ Ok x → x.pattern ≡ given.pattern

-- ---- as the code goes

abbrev pub on_pattern : Bool → Result ⊤ Refusal → Result ⊤ Refusal
on_pattern b (Ok tt) = cond b (Ok tt) (Err PATTERN)
on_pattern b (Err n) = Err n

abbrev pub judging_by : List ℕ → Pattern → View → List M.Mark → Result ⊤ Refusal
judging_by s q v ms = on_pattern (pattern_test q) (judging s (plain_with v 0) ms)
