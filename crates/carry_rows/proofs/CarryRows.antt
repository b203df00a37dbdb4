-- Worked rows of a reading carried to another file (document 02, N8), each by computation.
--     W1, W2        a version 1 file that holds "" 0, a 2 and b 0, and its conversion (convert_rows, `vanished_W`)
--     D             document 01's file
--     X             a file whose key ab has outputs 2^64 - 1 and 1
--     started₀, after_a, at_end     readings of W1: just started, after "" and a, at its end
-- Assumes nothing.
use Rattle.std.specs.Prelude.{◌≡◌, refl, true, false, List, [], ◌∷◌, ◌++◌, ℕ, length, replicate}
use Rattle.std.proofs.Math.Option.{Option, none, some}
use Rattle.format.specs.Bytes.{le, bytes_of}
use Rattle.format.specs.CommonInputs.{common_inputs_inv, common_input}
use Rattle.format.specs.Limits.{max_sum, SHORT, NODE, STATE, PATTERN, CARRY}
use Rattle.format.specs.Node.{head_len, input_of, ntrans_of, sizes_byte, index_len, size_of, down_from, bytes_down, numbers_down, transitions_of, node_of, sound_test, node_at, find_from, first_above}
use Rattle.format.specs.Opening.{meta_of, root_test, opening}
use Rattle.format.specs.Strings.{unbounded, before_test}
use Rattle.reading.specs.Reading.{Level, level_with, View, path_of, seek, started, start, Answer, key, end, Step, pop, descend, next}
use Rattle.plain.specs.Plain.{plain_with}
use Rattle.pattern.specs.Pattern.{Pattern}
use Rattle.bench_table.specs.BenchTable.{D}
use Rattle.convert_rows.specs.Rows.{W1, W2}
use Rattle.carrying.specs.Carry.{carry_levels, Carried, carried, refused, carry_with, carry, carry_by, CarriedPlain, carry_plain}

-- ---- files and readings

abbrev X : List ℕ
X = bytes_of 8 2 ++ (bytes_of 8 7 ++ ((1 ∷ 0 ∷ 98 ∷ 17 ∷ 1 ∷ []) ++ (replicate 8 255 ++ ((1 ∷ 97 ∷ 24 ∷ 1 ∷ []) ++ (bytes_of 8 1 ++ bytes_of 8 32)))))

abbrev view_at : ℕ → Option ℕ → ℕ → List Level → View
view_at n e t s = record { len = n; bound = unbounded; bound_len = 0; empty = e; total = t; levels = s }

abbrev started₀ : View
started₀ = view_at 44 (some 0) 0 (level_with 27 0 0 0 ∷ [])

abbrev after_a : View
after_a = view_at 44 none 1 (level_with 18 97 0 2 ∷ level_with 27 0 1 0 ∷ [])

abbrev at_end : View
at_end = view_at 44 none 2 []

abbrev carried_a : View
carried_a = view_at 41 none 1 (level_with 0 97 0 2 ∷ level_with 24 0 1 0 ∷ [])

abbrev step_to : Answer → View → Step
step_to a r = record { answer = a; reading = r }

-- ---- what the readings are

pub record Made : Type 0 where
  pub starts : start W1 unbounded unbounded ≡ started started₀
  pub first : next W1 started₀ 255 ≡ step_to (key [] 0) (view_at 44 none 0 (level_with 27 0 0 0 ∷ []))
  pub second : next W1 (view_at 44 none 0 (level_with 27 0 0 0 ∷ [])) 255 ≡ step_to (key (97 ∷ []) 2) after_a
  pub third : next W1 after_a 255 ≡ step_to (key (98 ∷ []) 0) (view_at 44 none 2 (level_with 0 98 0 0 ∷ level_with 27 0 2 0 ∷ []))
  pub last : next W1 (view_at 44 none 2 (level_with 0 98 0 0 ∷ level_with 27 0 2 0 ∷ [])) 255 ≡ step_to end at_end

pub made : Made
unfolding bytes_of common_inputs_inv le head_len input_of ntrans_of sizes_byte index_len size_of down_from bytes_down numbers_down transitions_of node_of sound_test node_at find_from first_above meta_of root_test opening before_test path_of seek start pop descend next
made = record { starts = refl; first = refl; second = refl; third = refl; last = refl }

-- ---- the rows

pub record CarryTable : Type 0 where
  -- after "" and a: the levels at their new addresses; b 0 comes next, then the end with a total of 2
  pub carried_on : carry W1 W2 after_a ≡ carried carried_a
  pub next_b : next W2 carried_a 255 ≡ step_to (key (98 ∷ []) 0) (view_at 41 none 2 (level_with 0 98 0 0 ∷ level_with 24 0 2 0 ∷ []))
  pub then_end : next W2 (view_at 41 none 2 (level_with 0 98 0 0 ∷ level_with 24 0 2 0 ∷ [])) 255 ≡ step_to end (view_at 41 none 2 [])
  -- the pending empty key stays
  pub pending : carry W1 W2 started₀ ≡ carried (view_at 41 (some 0) 0 (level_with 24 0 0 0 ∷ []))
  -- a reading at its end has no level: to the new file, to a blank card, to 5 zero bytes
  pub ended : carry W1 W2 at_end ≡ carried (view_at 41 none 2 [])
  pub ended_blank : carry W1 [] at_end ≡ carried (view_at 0 none 2 [])
  pub ended_short : carry W1 (replicate 5 0) at_end ≡ refused SHORT
  -- a file that is not its conversion; a blank card has no node
  pub foreign : carry W1 D after_a ≡ refused CARRY
  pub blank : carry W1 [] after_a ≡ refused NODE
  -- by the old file: its length, its opening before the new one's, 257 levels
  pub other_length : carry W2 W1 after_a ≡ refused STATE
  pub old_first : carry (replicate 5 0) (replicate 32 0) after_a ≡ refused SHORT
  pub many_levels : carry W1 W2 (view_at 44 none 0 (replicate 257 (level_with 27 0 0 0))) ≡ refused STATE
  -- a byte that the new file lacks, at an old address that is sound and at one that is not
  pub lacks : carry W1 W2 (view_at 44 none 1 (level_with 18 122 0 2 ∷ level_with 27 0 1 0 ∷ [])) ≡ refused CARRY
  pub unsound_first : carry W1 W2 (view_at 44 none 1 (level_with 17 122 0 2 ∷ level_with 27 0 1 0 ∷ [])) ≡ refused NODE
  -- running values: 1 at the first level; 2^64 - 1 where the new sum is 2^64
  pub first_value : carry W1 W2 (view_at 44 none 1 (level_with 27 0 1 1 ∷ [])) ≡ refused CARRY
  pub past_sum_lem : carry X X (view_at 49 none 2 (level_with 0 98 0 max_sum ∷ level_with 20 97 1 max_sum ∷ level_with 32 0 1 0 ∷ [])) ≡ refused CARRY
  pub full_sum : carry X X (view_at 49 none 1 (level_with 20 97 0 max_sum ∷ level_with 32 0 1 0 ∷ [])) ≡ carried (view_at 49 none 1 (level_with 20 97 0 max_sum ∷ level_with 32 0 1 0 ∷ []))
  -- a pattern of 256 positions, after STATE
  pub long_pattern : carry_by W1 W2 (record { positions = replicate 256 none; rest = false }) after_a ≡ refused PATTERN
  pub state_first : carry_by W1 W2 (record { positions = replicate 256 none; rest = false }) (view_at 43 none 0 []) ≡ refused STATE
  -- the number of keys to come is copied
  pub number_copied : carry_plain W1 W2 (plain_with after_a 1) ≡ CarriedPlain.carried (plain_with carried_a 1)

pub carry_table : CarryTable
unfolding bytes_of common_inputs_inv le head_len input_of ntrans_of sizes_byte index_len size_of down_from bytes_down numbers_down transitions_of node_of sound_test node_at find_from first_above meta_of root_test opening before_test path_of pop descend next carry_levels carry_with
carry_table = record {
  carried_on = refl;
  next_b = refl;
  then_end = refl;
  pending = refl;
  ended = refl;
  ended_blank = refl;
  ended_short = refl;
  foreign = refl;
  blank = refl;
  other_length = refl;
  old_first = refl;
  many_levels = refl;
  lacks = refl;
  unsound_first = refl;
  first_value = refl;
  past_sum_lem = refl;
  full_sum = refl;
  long_pattern = refl;
  state_first = refl;
  number_copied = refl;
}
