-- What the values of this crate stand for, against `MarkCalls` (crate marking).
--     stated n d xs       the first n of xs; those that are stated and not held are d
--     mark_is, marks_is     a mark: its name and its reading; the marks below the count, so that more than 16 are seen as that many
--     name_right           whether the name of one mark is right, the later ones beside it
--     SeekTold            the first place of a name, from a place on
--     no_marks, put_at      no marks; the marks with one put at a place
-- Assumes nothing.
use Rattle.std.specs.Prelude.{◌≡◌, Bool, true, false, ◌&&◌, not, List, [], ◌∷◌, map, ℕ, zero, suc, ◌+◌, ◌≤◌, ◌<◌, length, get_or, set, drop, replicate, Option, Some, None}
use Rattle.marking.specs.MarkCalls as M
use Rattle.marking.specs.MarkCalls.{named, same_name, name_test, marked, is_there}
use Rattle.stream.specs.declared.Plain.{Plain}
use Rattle.stream.specs.Plains.{plain_is, no_plain}
use Rattle.marks_held.specs.declared.Mark.{Mark}
use Rattle.marks_held.specs.declared.Marks.{Marks}

unfoldable pub stated : {A : Type 0} → ℕ → A → List A → List A
stated zero d xs = []
stated (suc n) d [] = d ∷ stated n d []
stated (suc n) d (x ∷ xs) = x ∷ stated n d xs

abbrev pub no_mark : M.Mark
no_mark = named [] (plain_is no_plain)

abbrev pub mark_is : Mark → M.Mark
mark_is x = named (stated x.name_len 0 x.name) (plain_is x.reading)

abbrev pub marks_is : Marks → List M.Mark
marks_is m = stated m.count no_mark (map mark_is m.marks)

abbrev pub mark_at : List M.Mark → ℕ → M.Mark
mark_at ms i = get_or ms i no_mark

-- as each_right judges its first mark's name
abbrev pub name_right : List M.Mark → ℕ → Bool
name_right ms i = name_test (mark_at ms i).name && not (is_there (marked (mark_at ms i).name (drop (i + 1) ms)))

-- none before it, from a place on
pub data SeekTold (n : List ℕ) (ms : List M.Mark) (from : ℕ) : Option ℕ → Type 0 where
  at_place : (i : ℕ) → from ≤ i → i < length ms → same_name (mark_at ms i).name n ≡ true → ((j : ℕ) → from ≤ j → j < i → same_name (mark_at ms j).name n ≡ false)
      → SeekTold n ms from (Some i)
  nowhere : ((j : ℕ) → from ≤ j → j < length ms → same_name (mark_at ms j).name n ≡ false) → SeekTold n ms from None

abbrev pub empty_mark : Mark
empty_mark = record { name_len = 0; name = replicate 8 0; reading = no_plain }

abbrev pub no_marks : Marks
no_marks = record { count = 0; marks = replicate 16 empty_mark }

abbrev pub put_at : Marks → ℕ → ℕ → Mark → Marks
put_at m count i x = record { count = count; marks = set m.marks i x }
