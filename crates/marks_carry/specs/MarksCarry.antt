-- A reading with marks carried to another file (document 02, N10 with N8), by definition, for any two files, any reading and any marks. A carried reading
-- has no marks: what is answered is that of `carry`, and the marks are judged only.
--     carry_marked_with                  the old file's refusals, the new file's, STATE for the reading or its marks by the old file's length, then as carrying goes on
--     carry_marked, carry_marked_by       a plain reading; a reading by pattern, of which PATTERN is judged after STATE
--     judging, on_judged                what is judged of the two files and the marks; carrying behind it
-- Assumes nothing.
use Rattle.std.specs.Prelude.{Bool, true, cond, ◌&&◌, List, ℕ, leb, length, Ok, Err, Result, ⊤}
use Rattle.format.specs.declared.Refusal.{Refusal}
use Rattle.format.specs.Limits.{max_path, STATE}
use Rattle.format.specs.Opening.{opening}
use Rattle.reading.specs.Reading.{View, on_opened, state_test}
use Rattle.plain.specs.Plain.{Plain}
use Rattle.pattern.specs.Pattern.{Pattern}
use Rattle.carrying.specs.Carry.{Carried, carry_with, CarriedPlain, with_keys}
use Rattle.marking.specs.MarkCalls.{Mark, marks_test}

unfoldable pub carry_marked_with : Bool → List ℕ → List ℕ → View → List Mark → Carried
carry_marked_with fits old new r ms =
    on_opened (opening old)
    (λ m.
    on_opened (opening new)
    (λ q. cond (state_test r (length old) && marks_test (length old) ms) (carry_with fits old new r) (Carried.refused STATE))
    (λ n. Carried.refused n))
    (λ n. Carried.refused n)

abbrev pub carry_marked : List ℕ → List ℕ → Plain → List Mark → CarriedPlain
carry_marked old new p ms = with_keys p.keys (carry_marked_with true old new p.view ms)

abbrev pub carry_marked_by : List ℕ → List ℕ → Pattern → View → List Mark → Carried
carry_marked_by old new p r ms = carry_marked_with (leb (length p.positions) max_path) old new r ms

-- ---- as the code goes

unfoldable pub judging : List ℕ → List ℕ → List Mark → Result ⊤ Refusal
judging old new ms =
    on_opened (opening old) (λ m. on_opened (opening new) (λ q. cond (marks_test (length old) ms) (Ok tt) (Err STATE)) (λ n. Err n)) (λ n. Err n)

abbrev pub on_judged : Result ⊤ Refusal → Carried → Carried
on_judged (Ok tt) c = c
on_judged (Err n) c = Carried.refused n
