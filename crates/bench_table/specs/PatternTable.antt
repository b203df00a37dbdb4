-- Rows of readings by pattern (document 02, N1), in one theorem, each by computation.
--     ReadsBy s p lo hi es n      a start and calls of next hand out es, then answer "end", with the total n
--     RefusedBy s p lo hi n       the first call of next is refused with n, and changes nothing
--     Nested                      a file that holds "" with 5, a with 1 and ab with 2
--     Heavy                       a file whose only key, a, has a final output that takes its sum past 2^64 - 1
-- A pattern is written as its positions, `?` any byte, and a last `*` for any rest.
-- Assumes nothing.
use Rattle.std.specs.Prelude.{◌≡◌, refl, Bool, true, false, List, [], ◌∷◌, ◌++◌, ℕ, replicate}
use Rattle.std.proofs.Math.Option.{Option, none, some}
use Rattle.format.specs.declared.Refusal.{Refusal}
use Rattle.format.specs.Bytes.{le, bytes_of}
use Rattle.format.specs.CommonInputs.{common_inputs_inv, common_input}
use Rattle.format.specs.Limits.{SUM, STATE, PATTERN}
use Rattle.format.specs.Node.{head_len, input_of, ntrans_of, sizes_byte, index_len, size_of, down_from, bytes_down, numbers_down, transitions_of, node_of, sound_test, node_at, find_from, first_above}
use Rattle.format.specs.Opening.{meta_of, root_test, opening}
use Rattle.format.specs.Strings.{Bound, unbounded, included, excluded, before_test}
use Rattle.reading.specs.Reading.{path_of, seek, level_with, View, Started, started, start, end, refuse}
use Rattle.reading.specs.Demand.{Entry, entry, hand_out}
use Rattle.pattern.specs.Pattern.{Pattern, start_test, fits_test, walk_to, walk_by, next_by, start_by}
use Rattle.bench_table.specs.BenchTable.{D}

-- calls with a buffer of 255 bytes hand out these keys, then answer "end", and leave this reading
pub data RunsBy (s : List ℕ) (p : Pattern) : View → List Entry → View → Type 0 where
  run_end : {r r' : View} → next_by s p r 255 ≡ record { answer = end; reading = r' } → RunsBy s p r [] r'
  run_key : {r r₁ r' : View} {es : List Entry} (e : Entry) → next_by s p r 255 ≡ record { answer = hand_out e; reading = r₁ } → RunsBy s p r₁ es r'
      → RunsBy s p r (e ∷ es) r'

pub record ReadsBy (s : List ℕ) (p : Pattern) (lo hi : Bound) (es : List Entry) (followed : ℕ) : Type 0 where
  pub reading : View
  pub starts : start_by s p lo hi ≡ started reading
  pub last : View
  pub runs : RunsBy s p reading es last
  pub total : last.total ≡ followed

pub record RefusedBy (s : List ℕ) (p : Pattern) (lo hi : Bound) (n : Refusal) : Type 0 where
  pub reading : View
  pub starts : start_by s p lo hi ≡ started reading
  pub refuses : next_by s p reading 255 ≡ refuse reading n

abbrev whole : List (Option ℕ) → Pattern
whole ps = record { positions = ps; rest = false }

abbrev with_rest : List (Option ℕ) → Pattern
with_rest ps = record { positions = ps; rest = true }

abbrev Nested : List ℕ
Nested =
    bytes_of 8 3 ++ bytes_of 8 0 ++ (0 ∷ 1 ∷ 0 ∷ 98 ∷ 17 ∷ 65 ∷ 5 ∷ 1 ∷ 1 ∷ 97 ∷ 17 ∷ 65 ∷ []) ++ bytes_of 8 3 ++ bytes_of 8 27 ++ replicate 4 0

abbrev Heavy : List ℕ
Heavy = bytes_of 8 3 ++ bytes_of 8 0 ++ (1 ∷ 1 ∷ 0 ∷ 64 ∷ []) ++ replicate 8 255 ++ (1 ∷ 24 ∷ 133 ∷ []) ++ bytes_of 8 1 ++ bytes_of 8 30 ++ replicate 4 0

-- a reading of D with so many levels at its root
abbrev made : ℕ → View
made n = record { len = 50; bound = unbounded; bound_len = 0; empty = none; total = 0; levels = replicate n (level_with 29 0 0 0) }

pub record PatternTable : Type 0 where
  -- D, ?: a e, 3 transitions followed
  pub any_byte : ReadsBy D (whole (none ∷ [])) unbounded unbounded (entry (97 ∷ []) 1 ∷ entry (101 ∷ []) 4 ∷ []) 3
  -- D, a?: at, 3
  pub a_any : ReadsBy D (whole (some 97 ∷ none ∷ [])) unbounded unbounded (entry (97 ∷ 116 ∷ []) 3 ∷ []) 3
  -- D, a: a, 3: one byte past a whole pattern is still followed
  pub a_only : ReadsBy D (whole (some 97 ∷ [])) unbounded unbounded (entry (97 ∷ []) 1 ∷ []) 3
  -- D, e: e, 2
  pub e_only : ReadsBy D (whole (some 101 ∷ [])) unbounded unbounded (entry (101 ∷ []) 4 ∷ []) 2
  -- D, no position: none, 2
  pub no_position : ReadsBy D (whole []) unbounded unbounded [] 2
  -- D, *: a at e, 3
  pub any_rest_lem : ReadsBy D (with_rest []) unbounded unbounded (entry (97 ∷ []) 1 ∷ entry (97 ∷ 116 ∷ []) 3 ∷ entry (101 ∷ []) 4 ∷ []) 3
  -- D, a? from "at" included to "e" excluded: at, 2
  pub a_any_range : ReadsBy D (whole (some 97 ∷ none ∷ [])) (included (97 ∷ 116 ∷ [])) (excluded (101 ∷ [])) (entry (97 ∷ 116 ∷ []) 3 ∷ []) 2
  -- D, e up to "a" included: none, 2
  pub e_below_a : ReadsBy D (whole (some 101 ∷ [])) unbounded (included (97 ∷ [])) [] 2
  -- Nested, a: a, 2: the pending empty key is dropped in the first call
  pub empty_dropped : ReadsBy Nested (whole (some 97 ∷ [])) unbounded unbounded (entry (97 ∷ []) 1 ∷ []) 2
  -- Nested, no position: "" with 5, then the end, 1
  pub empty_only : ReadsBy Nested (whole []) unbounded unbounded (entry [] 5 ∷ []) 1
  -- Nested, a, upper bound "" excluded: the end, 0; with the lower bound "" excluded too: the end, 1
  pub empty_shut : ReadsBy Nested (whole (some 97 ∷ [])) unbounded (excluded []) [] 0
  pub empty_shut_below : ReadsBy Nested (whole (some 97 ∷ [])) (excluded []) (excluded []) [] 1
  -- Heavy, a: refused SUM; b: the end, 1
  pub heavy_a : RefusedBy Heavy (whole (some 97 ∷ [])) unbounded unbounded SUM
  pub heavy_b : ReadsBy Heavy (whole (some 98 ∷ [])) unbounded unbounded [] 1
  -- 255 positions, with any rest too, are taken; 256 given, 256 held: 12; 256 held and 257 levels: 11
  pub most_taken : start_by D (with_rest (replicate 255 none)) unbounded unbounded ≡ started (made 1)
  pub more_given : start_by D (whole (replicate 256 none)) unbounded unbounded ≡ Started.refused PATTERN
  pub more_held : next_by D (whole (replicate 256 none)) (made 1) 255 ≡ refuse (made 1) PATTERN
  pub state_first : next_by D (whole (replicate 256 none)) (made 257) 255 ≡ refuse (made 257) STATE

pub pattern_table : PatternTable
unfolding bytes_of common_inputs_inv common_input le head_len input_of ntrans_of sizes_byte index_len size_of down_from bytes_down numbers_down transitions_of node_of sound_test node_at find_from first_above meta_of root_test opening before_test path_of seek start start_test fits_test walk_to walk_by next_by start_by
pattern_table = record {
  any_byte = record { reading = _; starts = refl; last = _; runs = run_key _ refl (run_key _ refl (run_end refl)); total = refl };
  a_any = record { reading = _; starts = refl; last = _; runs = run_key _ refl (run_end refl); total = refl };
  a_only = record { reading = _; starts = refl; last = _; runs = run_key _ refl (run_end refl); total = refl };
  e_only = record { reading = _; starts = refl; last = _; runs = run_key _ refl (run_end refl); total = refl };
  no_position = record { reading = _; starts = refl; last = _; runs = run_end refl; total = refl };
  any_rest_lem = record { reading = _; starts = refl; last = _; runs = run_key _ refl (run_key _ refl (run_key _ refl (run_end refl))); total = refl };
  a_any_range = record { reading = _; starts = refl; last = _; runs = run_key _ refl (run_end refl); total = refl };
  e_below_a = record { reading = _; starts = refl; last = _; runs = run_end refl; total = refl };
  empty_dropped = record { reading = _; starts = refl; last = _; runs = run_key _ refl (run_end refl); total = refl };
  empty_only = record { reading = _; starts = refl; last = _; runs = run_key _ refl (run_end refl); total = refl };
  empty_shut = record { reading = _; starts = refl; last = _; runs = run_end refl; total = refl };
  empty_shut_below = record { reading = _; starts = refl; last = _; runs = run_end refl; total = refl };
  heavy_a = record { reading = _; starts = refl; refuses = refl };
  heavy_b = record { reading = _; starts = refl; last = _; runs = run_end refl; total = refl };
  most_taken = refl;
  more_given = refl;
  more_held = refl;
  state_first = refl;
}
