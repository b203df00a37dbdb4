-- A sitting (document 02, N14): a start of the code, and calls of next of which one answers "end", refused ones among them.
--     Sitting s lo hi t b cs     on the file s, from the bound lo to the bound hi, with the table t
--     code_total b cs             the total of the reading that it leaves
-- Assumes nothing.
use mathlib.Core.List.{List, Memᴰ}
use Rattle.std.specs.Prelude.{ℕ}
use Rattle.format.specs.Strings as S
use Rattle.reading.specs.Reading.{end}
use Rattle.stream.specs.declared.Plain.{Plain}
use Rattle.stream_calls.specs.Calls.{CodeCall, Made, code_answers, last_reading, StartMade}

pub record Sitting (s : List ℕ) (lo hi : S.Bound) (t : List ℕ) (b : Plain) (cs : List CodeCall) : Type 0 where
  pub first : StartMade s lo hi t b
  pub made : Made s b cs
  pub ends : Memᴰ end (code_answers cs)

abbrev pub code_total : Plain → List CodeCall → ℕ
code_total b cs = (last_reading b cs).reading.total
