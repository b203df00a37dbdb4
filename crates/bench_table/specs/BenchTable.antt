-- Document 01's bench table: one theorem that holds all of its rows, each by computation.
--     one, ending      a record with one transition; a record without any
--     D                the 50-byte file of document 01's listing
-- Assumes nothing.
use Rattle.std.specs.Prelude.{◌≡◌, refl, Bool, true, false, List, [], ◌∷◌, ◌++◌, ℕ, replicate}
use Rattle.format.specs.Bytes.{le, bytes_of, size_up_to, pack_size, largest}
use Rattle.format.specs.CommonInputs.{common_inputs, common_inputs_inv, common_idx, common_input}
use Rattle.format.specs.Packed.{BuilderNode, record_test, stored_numbers, stored_bytes, place_from, up_from, index_of, index_bytes, output_size, delta_size, input_bytes, packed_next, packed_one, head_of, packed_any, packed, written, packing}
use Rattle.format.specs.Node.{head_len, input_of, ntrans_of, sizes_byte, index_len, size_of, down_from, bytes_down, numbers_down, transitions_of, node_of, sound_test, node_at, find_from, first_above}
use Rattle.format.specs.Opening.{meta_of, root_test, opening}
use Rattle.format.specs.Strings.{Bound, unbounded, included, excluded, before_test}
use Rattle.reading.specs.Reading.{path_of, seek, View, started, start, pop, descend, next}
use Rattle.reading.specs.Demand.{Entry, entry}
use Rattle.reading.specs.WholeRun.{Runs, run_end, run_key}
use Rattle.format.specs.Lookup.{value, get_from, get, found, fitting_from, last_fitting, get_key_from, get_key, KeyAnswer}

abbrev one : ℕ → ℕ → ℕ → BuilderNode
one inp out target =
    record { final = false; final_output = 0; inputs = inp ∷ []; outputs = out ∷ []; targets = target ∷ [] }

abbrev ending : Bool → ℕ → BuilderNode
ending final out = record { final = final; final_output = out; inputs = []; outputs = []; targets = [] }

-- the buffer of each row has 16 bytes, which is more than any of them needs
abbrev packs : ℕ → BuilderNode → List ℕ → Type 0
packs first b bytes = packing first b 16 ≡ written bytes

-- version 3, type 0, the nodes, count 3, root 29, checksum 0
abbrev pub D : List ℕ
D =
    bytes_of 8 3 ++ bytes_of 8 0 ++ (0 ∷ 2 ∷ 0 ∷ 116 ∷ 17 ∷ 65 ∷ 4 ∷ 1 ∷ 0 ∷ 1 ∷ 101 ∷ 97 ∷ 17 ∷ 2 ∷ []) ++ bytes_of 8 3 ++ bytes_of 8 29
    ++ replicate 4 0

-- a start and calls of next, each with a buffer of 255 bytes: the keys with their values, and then the total
pub record Reads (s : List ℕ) (lo hi : Bound) (es : List Entry) (followed : ℕ) : Type 0 where
  pub reading : View
  pub starts : start s lo hi ≡ started reading
  pub last : View
  pub runs : Runs s 255 reading es last
  pub total : last.total ≡ followed

pub record BenchTable : Type 0 where
  -- a/0 to 18 at F 19 is C5
  pub a_next : packs 19 (one 97 0 18) (197 ∷ [])
  -- a/0 to 0 at 16 is 00 10 85
  pub a_zero : packs 16 (one 97 0 0) (0 ∷ 16 ∷ 133 ∷ [])
  -- G/0 to 0 at 16 is 00 10 BF
  pub G-zero : packs 16 (one 71 0 0) (0 ∷ 16 ∷ 191 ∷ [])
  -- W/300 to 0 at 16 is 2C 01 00 12 57 80
  pub W-300 : packs 16 (one 87 300 0) (44 ∷ 1 ∷ 0 ∷ 18 ∷ 87 ∷ 128 ∷ [])
  -- final, output 7, no transitions is 07 01 00 40
  pub final_7 : packs 16 (ending true 7) (7 ∷ 1 ∷ 0 ∷ 64 ∷ [])
  -- final, output 0, none is no bytes
  pub final_0 : packs 16 (ending true 0) []
  -- not final, none is 00 00 00
  pub not_final : packs 16 (ending false 0) (0 ∷ 0 ∷ 0 ∷ [])
  -- the lines of D's listing, by lookup: "a" 1, "at" 3, "e" 4
  pub D-a : get D (97 ∷ []) ≡ value 1
  pub D-at : get D (97 ∷ 116 ∷ []) ≡ value 3
  pub D-e : get D (101 ∷ []) ≡ value 4
  -- D whole gives 3 keys, 3 followed
  pub D-whole : Reads D unbounded unbounded (entry (97 ∷ []) 1 ∷ entry (97 ∷ 116 ∷ []) 3 ∷ entry (101 ∷ []) 4 ∷ []) 3
  -- D from "at" included to "e" excluded gives "at", 2 followed
  pub D-range : Reads D (included (97 ∷ 116 ∷ [])) (excluded (101 ∷ [])) (entry (97 ∷ 116 ∷ []) 3 ∷ []) 2
  -- D by value 3 is "at", by value 2 none
  pub D-3 : get_key D 3 255 ≡ found (97 ∷ 116 ∷ [])
  pub D-2 : get_key D 2 255 ≡ KeyAnswer.none

pub bench_table : BenchTable
unfolding bytes_of size_up_to pack_size largest common_inputs common_inputs_inv common_idx record_test stored_numbers stored_bytes place_from up_from index_of index_bytes output_size delta_size input_bytes packed_next packed_one head_of packed_any packed packing le head_len input_of ntrans_of sizes_byte index_len size_of down_from bytes_down numbers_down transitions_of node_of sound_test node_at find_from meta_of root_test opening get_from get fitting_from last_fitting get_key_from get_key before_test path_of first_above seek start pop descend next
bench_table = record {
  a_next = refl;
  a_zero = refl;
  G-zero = refl;
  W-300 = refl;
  final_7 = refl;
  final_0 = refl;
  not_final = refl;
  D-a = refl;
  D-at = refl;
  D-e = refl;
  D-whole = record { reading = _; starts = refl; last = _; runs = run_key _ refl (run_key _ refl (run_key _ refl (run_end refl))); total = refl };
  D-range = record { reading = _; starts = refl; last = _; runs = run_key _ refl (run_end refl); total = refl };
  D-3 = refl;
  D-2 = refl;
}
