-- Worked rows of a reading with marks carried to another file (document 02, N10 with N8), each by computation.
--     W1, W2        a version 1 file that holds "" 0, a 2 and b 0, and its conversion (convert_rows, `vanished_W`)
--     here, there   the reading of W1 after "" and a, and the same of W2; one key is to come
--     x             the name that is marked
-- Assumes nothing.
use Rattle.std.specs.Prelude.{◌≡◌, refl, false, List, [], ◌∷◌, ℕ, replicate}
use Rattle.std.proofs.Math.Option.{none}
use Rattle.format.specs.Bytes.{le, bytes_of}
use Rattle.format.specs.CommonInputs.{common_inputs_inv}
use Rattle.format.specs.Limits.{SHORT, NODE, STATE, PATTERN, NAME}
use Rattle.format.specs.Node.{head_len, input_of, ntrans_of, sizes_byte, index_len, size_of, down_from, bytes_down, numbers_down, transitions_of, node_of, sound_test, node_at, find_from}
use Rattle.format.specs.Opening.{meta_of, root_test, opening}
use Rattle.format.specs.Strings.{unbounded}
use Rattle.reading.specs.Reading.{Level, level_with, View}
use Rattle.plain.specs.Plain.{Plain, plain_with}
use Rattle.pattern.specs.Pattern.{Pattern}
use Rattle.convert_rows.specs.Rows.{W1, W2}
use Rattle.carrying.specs.Carry.{carry_levels, carry_with, Carried, CarriedPlain}
use Rattle.marking.specs.MarkCalls.{same_name, named, marked, put, Mark, each_right, has_marks, mark, Return, at, back}
use Rattle.marks_carry.specs.MarksCarry.{carry_marked_with, carry_marked, carry_marked_by}

-- ---- readings and marks

abbrev view_at : ℕ → ℕ → List Level → View
view_at n t s = record { len = n; bound = unbounded; bound_len = 0; empty = none; total = t; levels = s }

abbrev here : Plain
here = plain_with (view_at 44 1 (level_with 18 97 0 2 ∷ level_with 27 0 1 0 ∷ [])) 1

abbrev there : Plain
there = plain_with (view_at 41 1 (level_with 0 97 0 2 ∷ level_with 24 0 1 0 ∷ [])) 1

abbrev x : List ℕ
x = 120 ∷ []

-- a mark of the name n, at the end of a file of that length
abbrev ended : List ℕ → ℕ → Mark
ended n len = named n (plain_with (view_at len 0 []) 0)

abbrev unsound : Plain
unsound = plain_with (view_at 44 1 (level_with 17 97 0 2 ∷ level_with 27 0 1 0 ∷ [])) 1

abbrev long : Pattern
long = record { positions = replicate 256 none; rest = false }

-- ---- the rows

pub record MarksCarryTable : Type 0 where
  -- "x" is marked and the reading carried; it has no marks there, so going back to "x" is NAME
  pub marks_x : mark W1 here [] x ≡ has_marks (named x here ∷ [])
  pub carried_on : carry_marked W1 W2 here (named x here ∷ []) ≡ CarriedPlain.carried there
  pub gone : back W2 there [] x ≡ Return.refused NAME
  -- the old marks are no marks of the new file, and the name can be marked anew
  pub stale : back W2 there (named x here ∷ []) x ≡ Return.refused STATE
  pub anew : mark W2 there [] x ≡ has_marks (named x there ∷ [])
  pub found : back W2 there (named x there ∷ []) x ≡ at there
  -- marks out of their limits: of the new file's length, a name twice, a name of 9 bytes, 17 of them
  pub other_length : carry_marked W1 W2 here (ended x 41 ∷ []) ≡ CarriedPlain.refused STATE
  pub twice : carry_marked W1 W2 here (ended x 44 ∷ ended x 44 ∷ []) ≡ CarriedPlain.refused STATE
  pub long_name : carry_marked W1 W2 here (ended (replicate 9 120) 44 ∷ []) ≡ CarriedPlain.refused STATE
  pub many : carry_marked W1 W2 here (replicate 17 (ended x 44)) ≡ CarriedPlain.refused STATE
  -- both files before the marks, the marks before PATTERN and before the levels
  pub old_first : carry_marked (replicate 5 0) W2 here (ended x 41 ∷ []) ≡ CarriedPlain.refused SHORT
  pub new_first : carry_marked W1 (replicate 5 0) here (ended x 41 ∷ []) ≡ CarriedPlain.refused SHORT
  pub before_pattern : carry_marked_by W1 W2 long here.view (ended x 41 ∷ []) ≡ Carried.refused STATE
  pub then_pattern : carry_marked_by W1 W2 long here.view (ended x 44 ∷ []) ≡ Carried.refused PATTERN
  pub before_levels : carry_marked W1 W2 unsound (ended x 41 ∷ []) ≡ CarriedPlain.refused STATE
  pub then_levels : carry_marked W1 W2 unsound (ended x 44 ∷ []) ≡ CarriedPlain.refused NODE

pub marks_carry_table : MarksCarryTable
unfolding bytes_of common_inputs_inv le head_len input_of ntrans_of sizes_byte index_len size_of down_from bytes_down numbers_down transitions_of node_of sound_test node_at find_from meta_of root_test opening carry_levels carry_with same_name marked put each_right mark back carry_marked_with
marks_carry_table = record {
  marks_x = refl;
  carried_on = refl;
  gone = refl;
  stale = refl;
  anew = refl;
  found = refl;
  other_length = refl;
  twice = refl;
  long_name = refl;
  many = refl;
  old_first = refl;
  new_first = refl;
  before_pattern = refl;
  then_pattern = refl;
  before_levels = refl;
  then_levels = refl;
}
