-- Rows: what the definition computes for small lists and two cells, in one row.
--     hash_row             one step of the hash
--     none .. a_1          results of 35, 32, 36, 35 and 36 bytes
--     falling              values that fall along the keys
--     shared               two equal nodes are one
--     one_hash             two different nodes with one hash are both written
--     three_cells          as two cells
--     shared_kept, one_hash_lost   whether a filled cell was overwritten
-- Assumes nothing.
use Rattle.std.specs.Prelude.{◌≡◌, refl, true, false, List, [], ◌∷◌, ℕ}
use Rattle.format.specs.Bytes.{le, bytes_of, size_up_to, pack_size, largest}
use Rattle.format.specs.CommonInputs.{common_inputs, common_inputs_inv, common_idx, common_input}
use Rattle.format.specs.Packed.{stored_numbers, stored_bytes, place_from, up_from, index_of, index_bytes, output_size, delta_size, input_bytes, packed_next, packed_one, head_of, packed_any, packed}
use Rattle.format.specs.Node.{head_len, input_of, ntrans_of, sizes_byte, index_len, size_of, down_from, bytes_down, numbers_down, transitions_of, node_of, sound_test, node_at}
use Rattle.packing.specs.Lists.{Pair}
use Rattle.packing.specs.Registry.{fnv_step, hash_transitions, hash_node, hash_of, row_of, same_transitions, matches, intern}
use Rattle.packing.specs.Packing.{least_of, least_at, record_of, close, open_key, insert, insert_all, pack_nodes, file_of, pack_file}
use Rattle.packing.specs.Kept.{keeps, close_keeps, insert_keeps, insert_all_keeps, pack_keeps}

pub hash_row : fnv_step 14695981039346656037 97 ≡ 12638187200555641996
unfolding fnv_step
hash_row = refl

abbrev pair : List ℕ → ℕ → Pair
pair k v = record { key = k; value = v }

pub none : pack_file ([]) 2
    ≡ (2 ∷ 0 ∷ 0 ∷ 0 ∷ 0 ∷ 0 ∷ 0 ∷ 0 ∷ 0 ∷ 0 ∷ 0 ∷ 0 ∷ 0 ∷ 0 ∷ 0 ∷ 0 ∷ 0 ∷ 0 ∷ 0 ∷ 0 ∷ 0 ∷ 0 ∷ 0 ∷ 0 ∷ 0 ∷ 0 ∷ 0 ∷ 18 ∷ 0 ∷ 0 ∷ 0 ∷ 0 ∷ 0 ∷ 0 ∷ 0 ∷ [])
unfolding le bytes_of size_up_to pack_size largest common_inputs common_inputs_inv common_idx common_input stored_numbers stored_bytes place_from up_from index_of index_bytes output_size delta_size input_bytes packed_next packed_one head_of packed_any packed head_len input_of ntrans_of sizes_byte index_len size_of down_from bytes_down numbers_down transitions_of node_of sound_test node_at fnv_step hash_transitions hash_node hash_of row_of same_transitions matches intern least_of least_at record_of close open_key insert insert_all pack_nodes file_of
none = refl

pub empty_0 : pack_file (pair ([]) 0 ∷ []) 2
    ≡ (2 ∷ 0 ∷ 0 ∷ 0 ∷ 0 ∷ 0 ∷ 0 ∷ 0 ∷ 0 ∷ 0 ∷ 0 ∷ 0 ∷ 0 ∷ 0 ∷ 0 ∷ 0 ∷ 1 ∷ 0 ∷ 0 ∷ 0 ∷ 0 ∷ 0 ∷ 0 ∷ 0 ∷ 0 ∷ 0 ∷ 0 ∷ 0 ∷ 0 ∷ 0 ∷ 0 ∷ 0 ∷ [])
unfolding le bytes_of size_up_to pack_size largest common_inputs common_inputs_inv common_idx common_input stored_numbers stored_bytes place_from up_from index_of index_bytes output_size delta_size input_bytes packed_next packed_one head_of packed_any packed head_len input_of ntrans_of sizes_byte index_len size_of down_from bytes_down numbers_down transitions_of node_of sound_test node_at fnv_step hash_transitions hash_node hash_of row_of same_transitions matches intern least_of least_at record_of close open_key insert insert_all pack_nodes file_of
empty_0 = refl

pub empty_7 : pack_file (pair ([]) 7 ∷ []) 2
    ≡ (2 ∷ 0 ∷ 0 ∷ 0 ∷ 0 ∷ 0 ∷ 0 ∷ 0 ∷ 0 ∷ 0 ∷ 0 ∷ 0 ∷ 0 ∷ 0 ∷ 0 ∷ 0 ∷ 7 ∷ 1 ∷ 0 ∷ 64 ∷ 1 ∷ 0 ∷ 0 ∷ 0 ∷ 0 ∷ 0 ∷ 0 ∷ 0 ∷ 19 ∷ 0 ∷ 0 ∷ 0 ∷ 0 ∷ 0 ∷ 0 ∷ 0 ∷ [])
unfolding le bytes_of size_up_to pack_size largest common_inputs common_inputs_inv common_idx common_input stored_numbers stored_bytes place_from up_from index_of index_bytes output_size delta_size input_bytes packed_next packed_one head_of packed_any packed head_len input_of ntrans_of sizes_byte index_len size_of down_from bytes_down numbers_down transitions_of node_of sound_test node_at fnv_step hash_transitions hash_node hash_of row_of same_transitions matches intern least_of least_at record_of close open_key insert insert_all pack_nodes file_of
empty_7 = refl

pub a_0 : pack_file (pair (97 ∷ []) 0 ∷ []) 2
    ≡ (2 ∷ 0 ∷ 0 ∷ 0 ∷ 0 ∷ 0 ∷ 0 ∷ 0 ∷ 0 ∷ 0 ∷ 0 ∷ 0 ∷ 0 ∷ 0 ∷ 0 ∷ 0 ∷ 0 ∷ 16 ∷ 133 ∷ 1 ∷ 0 ∷ 0 ∷ 0 ∷ 0 ∷ 0 ∷ 0 ∷ 0 ∷ 18 ∷ 0 ∷ 0 ∷ 0 ∷ 0 ∷ 0 ∷ 0 ∷ 0 ∷ [])
unfolding le bytes_of size_up_to pack_size largest common_inputs common_inputs_inv common_idx common_input stored_numbers stored_bytes place_from up_from index_of index_bytes output_size delta_size input_bytes packed_next packed_one head_of packed_any packed head_len input_of ntrans_of sizes_byte index_len size_of down_from bytes_down numbers_down transitions_of node_of sound_test node_at fnv_step hash_transitions hash_node hash_of row_of same_transitions matches intern least_of least_at record_of close open_key insert insert_all pack_nodes file_of
a_0 = refl

pub a_1 : pack_file (pair (97 ∷ []) 1 ∷ []) 2
    ≡ (2 ∷ 0 ∷ 0 ∷ 0 ∷ 0 ∷ 0 ∷ 0 ∷ 0 ∷ 0 ∷ 0 ∷ 0 ∷ 0 ∷ 0 ∷ 0 ∷ 0 ∷ 0 ∷ 1 ∷ 0 ∷ 17 ∷ 133 ∷ 1 ∷ 0 ∷ 0 ∷ 0 ∷ 0 ∷ 0 ∷ 0 ∷ 0 ∷ 19 ∷ 0 ∷ 0 ∷ 0 ∷ 0 ∷ 0 ∷ 0 ∷ 0 ∷ [])
unfolding le bytes_of size_up_to pack_size largest common_inputs common_inputs_inv common_idx common_input stored_numbers stored_bytes place_from up_from index_of index_bytes output_size delta_size input_bytes packed_next packed_one head_of packed_any packed head_len input_of ntrans_of sizes_byte index_len size_of down_from bytes_down numbers_down transitions_of node_of sound_test node_at fnv_step hash_transitions hash_node hash_of row_of same_transitions matches intern least_of least_at record_of close open_key insert insert_all pack_nodes file_of
a_1 = refl

pub falling : pack_file (pair ([]) 9 ∷ pair (97 ∷ 98 ∷ []) 4 ∷ pair (97 ∷ 98 ∷ 99 ∷ []) 2 ∷ pair (98 ∷ []) 7 ∷ []) 2
    ≡ (2 ∷ 0 ∷ 0 ∷ 0 ∷ 0 ∷ 0 ∷ 0 ∷ 0 ∷ 0 ∷ 0 ∷ 0 ∷ 0 ∷ 0 ∷ 0 ∷ 0 ∷ 0 ∷ 2 ∷ 0 ∷ 0 ∷ 99 ∷ 17 ∷ 65 ∷ 218 ∷ 9 ∷ 7 ∷ 2 ∷ 0 ∷ 1 ∷ 98 ∷ 97 ∷ 17 ∷ 66 ∷ 4 ∷ 0 ∷ 0 ∷ 0 ∷ 0 ∷ 0 ∷ 0 ∷ 0 ∷ 31 ∷ 0 ∷ 0 ∷ 0 ∷ 0 ∷ 0 ∷ 0 ∷ 0 ∷ [])
unfolding le bytes_of size_up_to pack_size largest common_inputs common_inputs_inv common_idx common_input stored_numbers stored_bytes place_from up_from index_of index_bytes output_size delta_size input_bytes packed_next packed_one head_of packed_any packed head_len input_of ntrans_of sizes_byte index_len size_of down_from bytes_down numbers_down transitions_of node_of sound_test node_at fnv_step hash_transitions hash_node hash_of row_of same_transitions matches intern least_of least_at record_of close open_key insert insert_all pack_nodes file_of
falling = refl

pub shared : pack_file (pair (49 ∷ 97 ∷ []) 0 ∷ pair (49 ∷ 99 ∷ []) 5 ∷ pair (50 ∷ 97 ∷ []) 0 ∷ pair (50 ∷ 99 ∷ []) 5 ∷ []) 2
    ≡ (2 ∷ 0 ∷ 0 ∷ 0 ∷ 0 ∷ 0 ∷ 0 ∷ 0 ∷ 0 ∷ 0 ∷ 0 ∷ 0 ∷ 0 ∷ 0 ∷ 0 ∷ 0 ∷ 5 ∷ 0 ∷ 0 ∷ 0 ∷ 99 ∷ 97 ∷ 17 ∷ 2 ∷ 1 ∷ 1 ∷ 50 ∷ 49 ∷ 16 ∷ 2 ∷ 4 ∷ 0 ∷ 0 ∷ 0 ∷ 0 ∷ 0 ∷ 0 ∷ 0 ∷ 29 ∷ 0 ∷ 0 ∷ 0 ∷ 0 ∷ 0 ∷ 0 ∷ 0 ∷ [])
unfolding le bytes_of size_up_to pack_size largest common_inputs common_inputs_inv common_idx common_input stored_numbers stored_bytes place_from up_from index_of index_bytes output_size delta_size input_bytes packed_next packed_one head_of packed_any packed head_len input_of ntrans_of sizes_byte index_len size_of down_from bytes_down numbers_down transitions_of node_of sound_test node_at fnv_step hash_transitions hash_node hash_of row_of same_transitions matches intern least_of least_at record_of close open_key insert insert_all pack_nodes file_of
shared = refl

pub one_hash : pack_file (pair (49 ∷ 97 ∷ []) 0 ∷ pair (49 ∷ 99 ∷ []) 5 ∷ pair (50 ∷ 98 ∷ []) 0 ∷ pair (50 ∷ 99 ∷ []) 2319356264794259026 ∷ []) 2
    ≡ (2 ∷ 0 ∷ 0 ∷ 0 ∷ 0 ∷ 0 ∷ 0 ∷ 0 ∷ 0 ∷ 0 ∷ 0 ∷ 0 ∷ 0 ∷ 0 ∷ 0 ∷ 0 ∷ 5 ∷ 0 ∷ 0 ∷ 0 ∷ 99 ∷ 97 ∷ 17 ∷ 2 ∷ 82 ∷ 126 ∷ 163 ∷ 254 ∷ 59 ∷ 2 ∷ 48 ∷ 32 ∷ 0 ∷ 0 ∷ 0 ∷ 0 ∷ 0 ∷ 0 ∷ 0 ∷ 0 ∷ 0 ∷ 0 ∷ 99 ∷ 98 ∷ 24 ∷ 2 ∷ 1 ∷ 23 ∷ 50 ∷ 49 ∷ 16 ∷ 2 ∷ 4 ∷ 0 ∷ 0 ∷ 0 ∷ 0 ∷ 0 ∷ 0 ∷ 0 ∷ 51 ∷ 0 ∷ 0 ∷ 0 ∷ 0 ∷ 0 ∷ 0 ∷ 0 ∷ [])
unfolding le bytes_of size_up_to pack_size largest common_inputs common_inputs_inv common_idx common_input stored_numbers stored_bytes place_from up_from index_of index_bytes output_size delta_size input_bytes packed_next packed_one head_of packed_any packed head_len input_of ntrans_of sizes_byte index_len size_of down_from bytes_down numbers_down transitions_of node_of sound_test node_at fnv_step hash_transitions hash_node hash_of row_of same_transitions matches intern least_of least_at record_of close open_key insert insert_all pack_nodes file_of
one_hash = refl

-- an odd last cell is not used
pub three_cells : pack_file (pair (49 ∷ 97 ∷ []) 0 ∷ pair (49 ∷ 99 ∷ []) 5 ∷ pair (50 ∷ 98 ∷ []) 0 ∷ pair (50 ∷ 99 ∷ []) 2319356264794259026 ∷ []) 3
    ≡ pack_file (pair (49 ∷ 97 ∷ []) 0 ∷ pair (49 ∷ 99 ∷ []) 5 ∷ pair (50 ∷ 98 ∷ []) 0 ∷ pair (50 ∷ 99 ∷ []) 2319356264794259026 ∷ []) 2
unfolding le bytes_of size_up_to pack_size largest common_inputs common_inputs_inv common_idx common_input stored_numbers stored_bytes place_from up_from index_of index_bytes output_size delta_size input_bytes packed_next packed_one head_of packed_any packed head_len input_of ntrans_of sizes_byte index_len size_of down_from bytes_down numbers_down transitions_of node_of sound_test node_at fnv_step hash_transitions hash_node hash_of row_of same_transitions matches intern least_of least_at record_of close open_key insert insert_all pack_nodes file_of
three_cells = refl

-- two nodes fill a row; the third overwrites the first
pub shared_kept : pack_keeps (pair (49 ∷ 97 ∷ []) 0 ∷ pair (49 ∷ 99 ∷ []) 5 ∷ pair (50 ∷ 97 ∷ []) 0 ∷ pair (50 ∷ 99 ∷ []) 5 ∷ []) 2 ≡ true
unfolding le bytes_of size_up_to pack_size largest common_inputs common_inputs_inv common_idx common_input stored_numbers stored_bytes place_from up_from index_of index_bytes output_size delta_size input_bytes packed_next packed_one head_of packed_any packed head_len input_of ntrans_of sizes_byte index_len size_of down_from bytes_down numbers_down transitions_of node_of sound_test node_at fnv_step hash_transitions hash_node hash_of row_of same_transitions matches intern least_of least_at record_of close open_key insert insert_all pack_nodes file_of keeps close_keeps insert_keeps insert_all_keeps pack_keeps
shared_kept = refl

pub one_hash_lost : pack_keeps (pair (49 ∷ 97 ∷ []) 0 ∷ pair (49 ∷ 99 ∷ []) 5 ∷ pair (50 ∷ 98 ∷ []) 0 ∷ pair (50 ∷ 99 ∷ []) 2319356264794259026 ∷ []) 2 ≡ false
unfolding le bytes_of size_up_to pack_size largest common_inputs common_inputs_inv common_idx common_input stored_numbers stored_bytes place_from up_from index_of index_bytes output_size delta_size input_bytes packed_next packed_one head_of packed_any packed head_len input_of ntrans_of sizes_byte index_len size_of down_from bytes_down numbers_down transitions_of node_of sound_test node_at fnv_step hash_transitions hash_node hash_of row_of same_transitions matches intern least_of least_at record_of close open_key insert insert_all pack_nodes file_of keeps close_keeps insert_keeps insert_all_keeps pack_keeps
one_hash_lost = refl
