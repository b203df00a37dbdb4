-- Rows of document 02's N11, by computation: the keys from each node of D, numbers worked out with four tables and the entries that they read,
-- starts and calls.
--     Row lo hi n z w m reads     the numbers between two bounds of D with its own table, zeros, one wrong entry, and the largest entries
-- Assumes nothing.
use Rattle.std.specs.Prelude.{◌≡◌, refl, List, [], ◌∷◌, ◌++◌, ℕ, replicate}
use Rattle.std.proofs.Math.Option.{none}
use Rattle.format.specs.Bytes.{le, bytes_of}
use Rattle.format.specs.CommonInputs.{common_inputs_inv}
use Rattle.format.specs.Limits.{max_sum, NODE, SPACE, BOUND, STATE, COUNT}
use Rattle.format.specs.Node.{head_len, input_of, ntrans_of, sizes_byte, index_len, size_of, down_from, bytes_down, numbers_down, transitions_of, node_of, sound_test, node_at, find_from, first_above}
use Rattle.format.specs.Opening.{meta_of, root_test, opening}
use Rattle.format.specs.Paths.{Fst, fst_with}
use Rattle.format.specs.Strings.{Bound, unbounded, included, excluded, before_test}
use Rattle.format.specs.Tables.{sum_of, keys_to, keys_from}
use Rattle.reading.specs.Reading.{path_of, seek, start, pop, descend, next, level_with, Answer, key, end}
use Rattle.plain.specs.Numbers.{Tally, comes_to, refused, up_to, within, below_lower, number, reads_to, reads_of}
use Rattle.plain.specs.Plain.{Plain, plain_with, Begun, begun, start_plain, PlainStep, next_plain}
use Rattle.bench_table.specs.BenchTable.{D}

abbrev file_d : Fst
file_d = fst_with D 3 29

-- entries at 21 and at 29
abbrev table : ℕ → ℕ → List ℕ
table x y = replicate 21 0 ++ (x ∷ replicate 7 0 ++ (y ∷ replicate 20 0))

abbrev Row : Bound → Bound → Tally → Tally → Tally → Tally → List ℕ → Type 0
Row lo hi n z w m reads =
    (number file_d (table 2 3) lo hi ≡ n)
    × (number file_d (table 0 0) lo hi ≡ z)
    × (number file_d (table 5 3) lo hi ≡ w)
    × (number file_d (table max_sum max_sum) lo hi ≡ m)
    × (reads_of file_d lo hi ≡ reads)

-- C1 at 16, 07 01 00 40 at 20, and the root at 28 with the inputs a, b and c
abbrev file_c : Fst
file_c = fst_with (replicate 16 0 ++ (193 ∷ 7 ∷ 1 ∷ 0 ∷ 64 ∷ 1 ∷ 5 ∷ 1 ∷ 99 ∷ 98 ∷ 97 ∷ 16 ∷ 3 ∷ []) ++ replicate 20 0) 3 28

abbrev all_most : List ℕ
all_most = replicate 49 max_sum

-- header and trailer alone, and no bytes
abbrev file0 : Fst
file0 = fst_with (replicate 36 0) 3 0

abbrev blank : Fst
blank = fst_with [] 0 0

-- the unbounded reading of D with n keys to come
abbrev fresh : ℕ → Plain
fresh n = plain_with (record { len = 50; bound = unbounded; bound_len = 0; empty = none; total = 0; levels = level_with 29 0 0 0 ∷ [] }) n

abbrev step : Plain → PlainStep
step p = next_plain D p 255

pub record NumberTable : Type 0 where
  pub keys_of_D : (keys_from file_d 0 ≡ 1) × (keys_from file_d 21 ≡ 2) × (keys_from file_d 29 ≡ 3) × (keys_from file_d 28 ≡ 0)
  pub none : Row unbounded unbounded (comes_to 3) (comes_to 0) (comes_to 3) (comes_to max_sum) (29 ∷ [])
  pub from_at_below_e : Row (included (97 ∷ 116 ∷ [])) (excluded (101 ∷ [])) (comes_to 1) (refused COUNT) (comes_to 4) (comes_to 18446744073709551614) (21 ∷ [])
  pub from_b : Row (included (98 ∷ [])) unbounded (comes_to 1) (comes_to 0) (refused COUNT) (comes_to 0) (29 ∷ 21 ∷ [])
  pub after_at : Row (excluded (97 ∷ 116 ∷ [])) unbounded (comes_to 1) (refused COUNT) (comes_to 1) (comes_to 18446744073709551613) (29 ∷ [])
  pub to_a : Row unbounded (included (97 ∷ [])) (comes_to 1) (comes_to 1) (comes_to 1) (comes_to 1) []
  pub below_a : Row unbounded (excluded (97 ∷ [])) (comes_to 0) (comes_to 0) (comes_to 0) (comes_to 0) []
  pub below_empty : Row unbounded (excluded []) (comes_to 0) (comes_to 0) (comes_to 0) (comes_to 0) []
  pub to_zz : Row unbounded (included (122 ∷ 122 ∷ [])) (comes_to 3) (comes_to 1) (comes_to 6) (refused COUNT) (21 ∷ [])
  pub from_e_to_a : Row (included (101 ∷ [])) (included (97 ∷ [])) (comes_to 0) (comes_to 0) (comes_to 0) (comes_to 0) []
  pub after_a_to_a : Row (excluded (97 ∷ [])) (included (97 ∷ [])) (comes_to 0) (comes_to 0) (comes_to 0) (comes_to 0) []
  -- NODE of the upper bound comes before COUNT; bounds that cross judge no node
  pub node_first : (number file_c all_most unbounded (included (98 ∷ [])) ≡ refused NODE)
      × (number file_c all_most (included (99 ∷ [])) (included (98 ∷ [])) ≡ comes_to 0)
      × (number file_c all_most unbounded (included (99 ∷ [])) ≡ refused COUNT)
  -- one key at root 0, without an entry; none where there are no bytes
  pub no_nodes : (number file0 [] unbounded unbounded ≡ comes_to 1)
      × (number file0 [] (excluded []) unbounded ≡ comes_to 0)
      × (reads_of file0 unbounded unbounded ≡ [])
      × (number blank [] unbounded unbounded ≡ comes_to 0)
      × (number blank [] unbounded (included (97 ∷ [])) ≡ comes_to 0)
  -- the table's length is judged after the bounds
  pub starts : (start_plain D unbounded unbounded (table 2 3) ≡ begun (fresh 3))
      × (start_plain D unbounded unbounded (replicate 49 0) ≡ Begun.refused SPACE)
      × (start_plain D (included (replicate 256 0)) unbounded (replicate 49 0) ≡ Begun.refused BOUND)
      × (start_plain D (included (98 ∷ [])) unbounded (table 5 3) ≡ Begun.refused COUNT)
  -- a number that says fewer keys than come, and one that says more
  pub calls : (step (fresh 0) ≡ record { answer = Answer.refused STATE; reading = fresh 0 })
      × ((step (fresh 1)).answer ≡ key (97 ∷ []) 1)
      × ((step (fresh 1)).reading.keys ≡ 0)
      × (step (step (fresh 1)).reading ≡ record { answer = Answer.refused STATE; reading = (step (fresh 1)).reading })
      × ((step (step (step (step (fresh 9)).reading).reading).reading).answer ≡ end)
      × ((step (step (step (step (fresh 9)).reading).reading).reading).reading.keys ≡ 6)

pub number_table : NumberTable
unfolding le common_inputs_inv head_len input_of ntrans_of sizes_byte index_len size_of down_from bytes_down numbers_down transitions_of node_of sound_test node_at find_from first_above before_test sum_of keys_to keys_from up_to within below_lower number reads_to reads_of bytes_of meta_of root_test opening path_of seek start pop descend next start_plain
number_table =
    record {
      keys_of_D = (refl, refl, refl, refl);
      none = (refl, refl, refl, refl, refl);
      from_at_below_e = (refl, refl, refl, refl, refl);
      from_b = (refl, refl, refl, refl, refl);
      after_at = (refl, refl, refl, refl, refl);
      to_a = (refl, refl, refl, refl, refl);
      below_a = (refl, refl, refl, refl, refl);
      below_empty = (refl, refl, refl, refl, refl);
      to_zz = (refl, refl, refl, refl, refl);
      from_e_to_a = (refl, refl, refl, refl, refl);
      after_a_to_a = (refl, refl, refl, refl, refl);
      node_first = (refl, refl, refl);
      no_nodes = (refl, refl, refl, refl, refl);
      starts = (refl, refl, refl, refl);
      calls = (refl, refl, refl, refl, refl, refl);
    }
