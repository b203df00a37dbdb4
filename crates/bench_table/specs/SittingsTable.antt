-- The rows of document 02's N14 on document 01's file and on one whose root is final: plain readings cut in two, each row by computation; and the
-- theorem at the first row.
--     table, table_e       the tables of keys as filled for D and for E
--     E                   a 42-byte file that holds the empty key with 0, and "t" with 2
--     in_d, in_e            a reading of either file, with its upper bound, total and levels; l₀ .. l₃ are those of D at its start, and after each key
--     Sits s lo hi t es n       a plain reading from its start to its end: the keys with their values, their number at its start, and the total
--     Cut s lo hi t c ..        the two readings that the cut c makes of one, each with its keys and its total
-- Assumes nothing.
use Rattle.std.specs.Prelude.{◌≡◌, refl, ℕ, ◌≤◌, length, replicate}
use Rattle.std.proofs.Common.{sym, inl, ⊎_elim, arith}
use Rattle.std.proofs.Math.Option.{Option, none, some}
use mathlib.Core.List.{List, [], ◌∷◌, ◌++◌, Memᴰ}
use Rattle.format.specs.Bytes.{le, bytes_of}
use Rattle.format.specs.CommonInputs.{common_inputs, common_inputs_inv}
use Rattle.format.specs.Node.{head_len, input_of, ntrans_of, sizes_byte, index_len, size_of, down_from, bytes_down, numbers_down, transitions_of, node_of, sound_test, node_at, find_from, first_above}
use Rattle.format.specs.Opening.{meta_of, root_test, opening}
use Rattle.format.specs.Paths.{fst_of}
use Rattle.format.specs.Strings.{Bound, unbounded, included, excluded, before_test}
use Rattle.format.specs.Tables.{sum_of, KeysFilled}
use Rattle.format.specs.Laws.ReachedLaws.{reached_stays}
use Rattle.reading.specs.Reading.{bound_bytes, Level, level_with, View, path_of, seek, start, pop, descend, next}
use Rattle.reading.specs.Demand.{Entry, entry}
use Rattle.reading.specs.WholeRun.{run_end, run_key}
use Rattle.reading.proofs.WholeLaws.{between_all}
use Rattle.plain.specs.Numbers.{up_to, within, below_lower, number}
use Rattle.plain.specs.Plain.{plain_with, begun, start_plain}
use Rattle.plain.specs.PlainRun.{RunsPlain}
use Rattle.plain.proofs.PlainRunLaws.{runs_plain}
use Rattle.sittings.specs.Sittings.{up_to_cut, from_cut, InTwo}
use Rattle.sittings.proofs.SittingsLaws.{two_sittings_runs}
use Rattle.bench_table.specs.BenchTable.{D}
use Rattle.bench_table.specs.DAdmitted.{addrs, in_two, nodes_two, meta_d, root_D, t_D, admitted_D, meta_D}
use Rattle.bench_table.specs.DKeys.{keys_t, keys_root}

-- 2 keys from the node at 21, 3 from the root at 29
abbrev table : List ℕ
table = replicate 21 0 ++ (2 ∷ replicate 7 0 ++ (3 ∷ replicate 20 0))

abbrev E : List ℕ
E = bytes_of 8 3 ++ bytes_of 8 0 ++ (0 ∷ 2 ∷ 0 ∷ 116 ∷ 17 ∷ 65 ∷ []) ++ bytes_of 8 2 ++ bytes_of 8 21 ++ replicate 4 0

-- 2 keys from the root at 21
abbrev table_e : List ℕ
table_e = replicate 21 0 ++ (2 ∷ replicate 20 0)

abbrev a : List ℕ
a = 97 ∷ []

abbrev at : List ℕ
at = 97 ∷ 116 ∷ []

abbrev e : List ℕ
e = 101 ∷ []

abbrev in_d : Bound → ℕ → List Level → View
in_d hi n levels = record { len = 50; bound = hi; bound_len = length (bound_bytes hi); empty = none; total = n; levels = levels }

abbrev in_e : Option ℕ → Bound → ℕ → List Level → View
in_e empty hi n levels = record { len = 42; bound = hi; bound_len = length (bound_bytes hi); empty = empty; total = n; levels = levels }

abbrev l₀ : List Level
l₀ = level_with 29 0 0 0 ∷ []

abbrev l₁ : List Level
l₁ = level_with 21 97 0 1 ∷ level_with 29 0 1 0 ∷ []

abbrev l₂ : List Level
l₂ = level_with 0 116 0 3 ∷ level_with 21 97 1 1 ∷ level_with 29 0 1 0 ∷ []

abbrev l₃ : List Level
l₃ = level_with 0 101 0 4 ∷ level_with 29 0 2 0 ∷ []

-- each call with a buffer of 255 bytes
pub record Sits (s : List ℕ) (lo hi : Bound) (t : List ℕ) (es : List Entry) (n : ℕ) : Type 0 where
  pub reading : View
  pub last : View
  pub starts : start_plain s lo hi t ≡ begun (plain_with reading (length es))
  pub runs : RunsPlain s 255 (plain_with reading (length es)) es (plain_with last 0)
  pub total : last.total ≡ n

pub record Cut (s : List ℕ) (lo hi : Bound) (t c : List ℕ) (es₁ es₂ : List Entry) (n₁ n₂ : ℕ) : Type 0 where
  pub first : Sits s lo (up_to_cut c) t es₁ n₁
  pub second : Sits s (from_cut c) hi t es₂ n₂

pub record SittingsTable : Type 0 where
  -- D whole: 3 keys, 3 followed
  pub whole : Sits D unbounded unbounded table (entry a 1 ∷ entry at 3 ∷ entry e 4 ∷ []) 3
  -- D at "at", which is held
  pub at_at : Cut D unbounded unbounded table at (entry a 1 ∷ entry at 3 ∷ []) (entry e 4 ∷ []) 3 1
  -- at "e": nothing is greater
  pub at_e : Cut D unbounded unbounded table e (entry a 1 ∷ entry at 3 ∷ entry e 4 ∷ []) [] 3 0
  -- at "b", which is not held and lies between two keys
  pub at_b : Cut D unbounded unbounded table (98 ∷ []) (entry a 1 ∷ entry at 3 ∷ []) (entry e 4 ∷ []) 3 1
  -- at the empty string: the first sitting hands out nothing, and follows one
  pub at_nothing : Cut D unbounded unbounded table [] [] (entry a 1 ∷ entry at 3 ∷ entry e 4 ∷ []) 1 3
  -- at "zz", after every key
  pub at_zz : Cut D unbounded unbounded table (122 ∷ 122 ∷ []) (entry a 1 ∷ entry at 3 ∷ entry e 4 ∷ []) [] 3 0
  -- D from "at" included to "e" excluded: 1 key, 2 followed
  pub range : Sits D (included at) (excluded e) table (entry at 3 ∷ []) 2
  -- this range at its lower bound, and at "au"
  pub range_at : Cut D (included at) (excluded e) table at (entry at 3 ∷ []) [] 2 1
  pub range_au : Cut D (included at) (excluded e) table (97 ∷ 117 ∷ []) (entry at 3 ∷ []) [] 2 1
  -- E, which holds the empty key: 2 keys, 1 followed; at the empty string
  pub E-whole : Sits E unbounded unbounded table_e (entry [] 0 ∷ entry (116 ∷ []) 2 ∷ []) 1
  pub E-at-nothing : Cut E unbounded unbounded table_e [] (entry [] 0 ∷ []) (entry (116 ∷ []) 2 ∷ []) 1 1

pub sittings_table : SittingsTable
unfolding bytes_of le common_inputs common_inputs_inv head_len input_of ntrans_of sizes_byte index_len size_of down_from bytes_down numbers_down transitions_of node_of sound_test node_at find_from first_above meta_of root_test opening before_test sum_of path_of seek start pop descend next up_to within below_lower number start_plain
sittings_table = record {
  whole = record { reading = in_d unbounded 0 l₀; last = in_d unbounded 3 []; starts = refl; runs = runs_plain (run_key {r₁ = in_d unbounded 1 l₁} _ refl (run_key {r₁ = in_d unbounded 2 l₂} _ refl (run_key {r₁ = in_d unbounded 3 l₃} _ refl (run_end refl)))); total = refl };
  at_at = record { first = record { reading = in_d (included at) 0 l₀; last = in_d (included at) 3 []; starts = refl; runs = runs_plain (run_key {r₁ = in_d (included at) 1 l₁} _ refl (run_key {r₁ = in_d (included at) 2 l₂} _ refl (run_end refl))); total = refl }; second = record { reading = in_d unbounded 0 l₂; last = in_d unbounded 1 []; starts = refl; runs = runs_plain (run_key {r₁ = in_d unbounded 1 l₃} _ refl (run_end refl)); total = refl } };
  at_e = record { first = record { reading = in_d (included e) 0 l₀; last = in_d (included e) 3 []; starts = refl; runs = runs_plain (run_key {r₁ = in_d (included e) 1 l₁} _ refl (run_key {r₁ = in_d (included e) 2 l₂} _ refl (run_key {r₁ = in_d (included e) 3 l₃} _ refl (run_end refl)))); total = refl }; second = record { reading = in_d unbounded 0 l₃; last = in_d unbounded 0 []; starts = refl; runs = runs_plain (run_end refl); total = refl } };
  at_b = record { first = record { reading = in_d (included (98 ∷ [])) 0 l₀; last = in_d (included (98 ∷ [])) 3 []; starts = refl; runs = runs_plain (run_key {r₁ = in_d (included (98 ∷ [])) 1 l₁} _ refl (run_key {r₁ = in_d (included (98 ∷ [])) 2 l₂} _ refl (run_end refl))); total = refl }; second = record { reading = in_d unbounded 0 (level_with 29 0 1 0 ∷ []); last = in_d unbounded 1 []; starts = refl; runs = runs_plain (run_key {r₁ = in_d unbounded 1 l₃} _ refl (run_end refl)); total = refl } };
  at_nothing = record { first = record { reading = in_d (included []) 0 l₀; last = in_d (included []) 1 []; starts = refl; runs = runs_plain (run_end refl); total = refl }; second = record { reading = in_d unbounded 0 l₀; last = in_d unbounded 3 []; starts = refl; runs = runs_plain (run_key {r₁ = in_d unbounded 1 l₁} _ refl (run_key {r₁ = in_d unbounded 2 l₂} _ refl (run_key {r₁ = in_d unbounded 3 l₃} _ refl (run_end refl)))); total = refl } };
  at_zz = record { first = record { reading = in_d (included (122 ∷ 122 ∷ [])) 0 l₀; last = in_d (included (122 ∷ 122 ∷ [])) 3 []; starts = refl; runs = runs_plain (run_key {r₁ = in_d (included (122 ∷ 122 ∷ [])) 1 l₁} _ refl (run_key {r₁ = in_d (included (122 ∷ 122 ∷ [])) 2 l₂} _ refl (run_key {r₁ = in_d (included (122 ∷ 122 ∷ [])) 3 l₃} _ refl (run_end refl)))); total = refl }; second = record { reading = in_d unbounded 0 (level_with 29 0 2 0 ∷ []); last = in_d unbounded 0 []; starts = refl; runs = runs_plain (run_end refl); total = refl } };
  range = record { reading = in_d (excluded e) 0 l₁; last = in_d (excluded e) 2 []; starts = refl; runs = runs_plain (run_key {r₁ = in_d (excluded e) 1 l₂} _ refl (run_end refl)); total = refl };
  range_at = record { first = record { reading = in_d (included at) 0 l₁; last = in_d (included at) 2 []; starts = refl; runs = runs_plain (run_key {r₁ = in_d (included at) 1 l₂} _ refl (run_end refl)); total = refl }; second = record { reading = in_d (excluded e) 0 l₂; last = in_d (excluded e) 1 []; starts = refl; runs = runs_plain (run_end refl); total = refl } };
  range_au = record { first = record { reading = in_d (included (97 ∷ 117 ∷ [])) 0 l₁; last = in_d (included (97 ∷ 117 ∷ [])) 2 []; starts = refl; runs = runs_plain (run_key {r₁ = in_d (included (97 ∷ 117 ∷ [])) 1 l₂} _ refl (run_end refl)); total = refl }; second = record { reading = in_d (excluded e) 0 (level_with 21 97 1 1 ∷ level_with 29 0 1 0 ∷ []); last = in_d (excluded e) 1 []; starts = refl; runs = runs_plain (run_end refl); total = refl } };
  E-whole = record { reading = in_e (some 0) unbounded 0 (level_with 21 0 0 0 ∷ []); last = in_e none unbounded 1 []; starts = refl; runs = runs_plain (run_key {r₁ = in_e none unbounded 0 (level_with 21 0 0 0 ∷ [])} _ refl (run_key {r₁ = in_e none unbounded 1 (level_with 0 116 0 2 ∷ level_with 21 0 1 0 ∷ [])} _ refl (run_end refl))); total = refl };
  E-at-nothing = record { first = record { reading = in_e (some 0) (included []) 0 (level_with 21 0 0 0 ∷ []); last = in_e none (included []) 1 []; starts = refl; runs = runs_plain (run_key {r₁ = in_e none (included []) 0 (level_with 21 0 0 0 ∷ [])} _ refl (run_end refl)); total = refl }; second = record { reading = in_e none unbounded 0 (level_with 21 0 0 0 ∷ []); last = in_e none unbounded 1 []; starts = refl; runs = runs_plain (run_key {r₁ = in_e none unbounded 1 (level_with 0 116 0 2 ∷ level_with 21 0 1 0 ∷ [])} _ refl (run_end refl)); total = refl } };
}

-- ---- the theorem, at the first row

-- the table is filled for D: only the root and the node at 21 are reached
filled_D : KeysFilled (fst_of D meta_d) table
filled_D x on =
    ⊎_elim
    (λ (z : x ≡ 0). absurd (on.not_zero z))
    (λ (mem : Memᴰ x addrs).
    ⊎_elim (λ (q : x ≡ 29). rw q (record { entry = sym keys_root; fits = omega (arith, keys_root) }))
    (λ (q : x ≡ 21). rw q (record { entry = sym keys_t; fits = omega (arith, keys_t) })) (in_two mem))
    (reached_stays (nodes_two (fst_of D meta_d) refl root_D t_D) on.reached)

fits_D : KeysFilled (fst_of D admitted_D.meta) table
fits_D = rw meta_D filled_D

long_D : length D ≤ length table
unfolding bytes_of le
long_D = let fifty : length D ≡ 50 = refl in omega arith

pub D-at-at : InTwo (fst_of D admitted_D.meta) at (entry a 1 ∷ entry at 3 ∷ entry e 4 ∷ []) (entry a 1 ∷ entry at 3 ∷ []) (entry e 4 ∷ []) 3 3 1
D-at-at =
    let w = sittings_table.whole in
    let w₁ = sittings_table.at_at.first in
    let w₂ = sittings_table.at_at.second in
    let cut = two_sittings_runs admitted_D unbounded unbounded (omega arith) (omega arith) at (omega arith) (between_all at) table table table long_D long_D long_D
    (inl fits_D) (inl fits_D) (inl fits_D) w.starts w₁.starts w₂.starts w.runs w₁.runs w₂.runs in
    rw (w.total, w₁.total, w₂.total) at cut
