-- Rows: what the definition answers for small lists, each refusal in its order, and the cells afterwards.
-- Assumes nothing.
use Rattle.std.specs.Prelude.{◌≡◌, refl, true, false, List, [], ◌∷◌, ℕ, replicate}
use Rattle.format.specs.Limits.{LARGE, SPACE, LIST}
use Rattle.format.specs.Bytes.{le, bytes_of, size_up_to, pack_size, largest}
use Rattle.format.specs.CommonInputs.{common_inputs, common_inputs_inv, common_idx, common_input}
use Rattle.format.specs.Packed.{stored_numbers, stored_bytes, place_from, up_from, index_of, index_bytes, output_size, delta_size, input_bytes, packed_next, packed_one, head_of, packed_any, packed}
use Rattle.format.specs.Node.{head_len, input_of, ntrans_of, sizes_byte, index_len, size_of, down_from, bytes_down, numbers_down, transitions_of, node_of, sound_test, node_at}
use Rattle.format.specs.Strings.{before_test}
use Rattle.packing.specs.Lists.{Pair, list_test, pairs_from, pairs_of}
use Rattle.packing.specs.Registry.{fnv_step, hash_transitions, hash_node, hash_of, row_of, same_transitions, matches, intern}
use Rattle.packing.specs.Packing.{least_of, least_at, record_of, close, open_key, insert, insert_all, pack_nodes, file_of, pack_cells, written, refused, pack_answer}

abbrev pair : List ℕ → ℕ → Pair
pair k v = record { key = k; value = v }

-- `a` with 1
abbrev list : List ℕ
list = 1 ∷ 0 ∷ 0 ∷ 0 ∷ 1 ∷ 0 ∷ 0 ∷ 0 ∷ 1 ∷ 0 ∷ 0 ∷ 0 ∷ 1 ∷ 0 ∷ 0 ∷ 0 ∷ 0 ∷ 0 ∷ 0 ∷ 0 ∷ 97 ∷ []

-- `a` with 1
pub answer_written : pack_answer 36 list true 2 36
    ≡ written (2 ∷ 0 ∷ 0 ∷ 0 ∷ 0 ∷ 0 ∷ 0 ∷ 0 ∷ 0 ∷ 0 ∷ 0 ∷ 0 ∷ 0 ∷ 0 ∷ 0 ∷ 0 ∷ 1 ∷ 0 ∷ 17 ∷ 133 ∷ 1 ∷ 0 ∷ 0 ∷ 0 ∷ 0 ∷ 0 ∷ 0 ∷ 0 ∷ 19 ∷ 0 ∷ 0 ∷ 0 ∷ 0 ∷ 0 ∷ 0 ∷ 0 ∷ []) (record { addr = 19; hash = 11279294778699107757 } ∷ record { addr = 1; hash = 0 } ∷ [])
unfolding le bytes_of size_up_to pack_size largest common_inputs common_inputs_inv common_idx common_input stored_numbers stored_bytes place_from up_from index_of index_bytes output_size delta_size input_bytes packed_next packed_one head_of packed_any packed head_len input_of ntrans_of sizes_byte index_len size_of down_from bytes_down numbers_down transitions_of node_of sound_test node_at fnv_step hash_transitions hash_node hash_of row_of same_transitions matches intern least_of least_at record_of close open_key insert insert_all pack_nodes file_of before_test list_test pairs_from pairs_of pack_answer
answer_written = refl

-- one byte short
pub answer_space : pack_answer 36 list true 2 35 ≡ refused SPACE
unfolding le bytes_of size_up_to pack_size largest common_inputs common_inputs_inv common_idx common_input stored_numbers stored_bytes place_from up_from index_of index_bytes output_size delta_size input_bytes packed_next packed_one head_of packed_any packed head_len input_of ntrans_of sizes_byte index_len size_of down_from bytes_down numbers_down transitions_of node_of sound_test node_at fnv_step hash_transitions hash_node hash_of row_of same_transitions matches intern least_of least_at record_of close open_key insert insert_all pack_nodes file_of before_test list_test pairs_from pairs_of pack_answer
answer_space = refl

-- one byte over the limit
pub answer_large : pack_answer 35 list true 2 36 ≡ refused LARGE
unfolding le bytes_of size_up_to pack_size largest common_inputs common_inputs_inv common_idx common_input stored_numbers stored_bytes place_from up_from index_of index_bytes output_size delta_size input_bytes packed_next packed_one head_of packed_any packed head_len input_of ntrans_of sizes_byte index_len size_of down_from bytes_down numbers_down transitions_of node_of sound_test node_at fnv_step hash_transitions hash_node hash_of row_of same_transitions matches intern least_of least_at record_of close open_key insert insert_all pack_nodes file_of before_test list_test pairs_from pairs_of pack_answer
answer_large = refl

-- both: SPACE
pub answer_both : pack_answer 35 list true 2 35 ≡ refused SPACE
unfolding le bytes_of size_up_to pack_size largest common_inputs common_inputs_inv common_idx common_input stored_numbers stored_bytes place_from up_from index_of index_bytes output_size delta_size input_bytes packed_next packed_one head_of packed_any packed head_len input_of ntrans_of sizes_byte index_len size_of down_from bytes_down numbers_down transitions_of node_of sound_test node_at fnv_step hash_transitions hash_node hash_of row_of same_transitions matches intern least_of least_at record_of close open_key insert insert_all pack_nodes file_of before_test list_test pairs_from pairs_of pack_answer
answer_both = refl

-- one cell
pub answer_cells : pack_answer 36 list true 1 36 ≡ refused SPACE
unfolding le bytes_of size_up_to pack_size largest common_inputs common_inputs_inv common_idx common_input stored_numbers stored_bytes place_from up_from index_of index_bytes output_size delta_size input_bytes packed_next packed_one head_of packed_any packed head_len input_of ntrans_of sizes_byte index_len size_of down_from bytes_down numbers_down transitions_of node_of sound_test node_at fnv_step hash_transitions hash_node hash_of row_of same_transitions matches intern least_of least_at record_of close open_key insert insert_all pack_nodes file_of before_test list_test pairs_from pairs_of pack_answer
answer_cells = refl

-- a working table that is too short
pub answer_tables : pack_answer 36 list false 2 36 ≡ refused SPACE
unfolding le bytes_of size_up_to pack_size largest common_inputs common_inputs_inv common_idx common_input stored_numbers stored_bytes place_from up_from index_of index_bytes output_size delta_size input_bytes packed_next packed_one head_of packed_any packed head_len input_of ntrans_of sizes_byte index_len size_of down_from bytes_down numbers_down transitions_of node_of sound_test node_at fnv_step hash_transitions hash_node hash_of row_of same_transitions matches intern least_of least_at record_of close open_key insert insert_all pack_nodes file_of before_test list_test pairs_from pairs_of pack_answer
answer_tables = refl

-- 7 bytes
pub list_short : pack_answer 36 (1 ∷ 0 ∷ 0 ∷ 0 ∷ 1 ∷ 0 ∷ 0 ∷ []) false 0 0 ≡ refused LIST
unfolding le bytes_of size_up_to pack_size largest common_inputs common_inputs_inv common_idx common_input stored_numbers stored_bytes place_from up_from index_of index_bytes output_size delta_size input_bytes packed_next packed_one head_of packed_any packed head_len input_of ntrans_of sizes_byte index_len size_of down_from bytes_down numbers_down transitions_of node_of sound_test node_at fnv_step hash_transitions hash_node hash_of row_of same_transitions matches intern least_of least_at record_of close open_key insert insert_all pack_nodes file_of before_test list_test pairs_from pairs_of pack_answer
list_short = refl

-- a byte more
pub list_length : pack_answer 36 (1 ∷ 0 ∷ 0 ∷ 0 ∷ 1 ∷ 0 ∷ 0 ∷ 0 ∷ 1 ∷ 0 ∷ 0 ∷ 0 ∷ 1 ∷ 0 ∷ 0 ∷ 0 ∷ 0 ∷ 0 ∷ 0 ∷ 0 ∷ 97 ∷ 0 ∷ []) false 0 0 ≡ refused LIST
unfolding le bytes_of size_up_to pack_size largest common_inputs common_inputs_inv common_idx common_input stored_numbers stored_bytes place_from up_from index_of index_bytes output_size delta_size input_bytes packed_next packed_one head_of packed_any packed head_len input_of ntrans_of sizes_byte index_len size_of down_from bytes_down numbers_down transitions_of node_of sound_test node_at fnv_step hash_transitions hash_node hash_of row_of same_transitions matches intern least_of least_at record_of close open_key insert insert_all pack_nodes file_of before_test list_test pairs_from pairs_of pack_answer
list_length = refl

-- no keys, and a byte
pub list_total : pack_answer 36 (0 ∷ 0 ∷ 0 ∷ 0 ∷ 1 ∷ 0 ∷ 0 ∷ 0 ∷ 9 ∷ []) false 0 0 ≡ refused LIST
unfolding le bytes_of size_up_to pack_size largest common_inputs common_inputs_inv common_idx common_input stored_numbers stored_bytes place_from up_from index_of index_bytes output_size delta_size input_bytes packed_next packed_one head_of packed_any packed head_len input_of ntrans_of sizes_byte index_len size_of down_from bytes_down numbers_down transitions_of node_of sound_test node_at fnv_step hash_transitions hash_node hash_of row_of same_transitions matches intern least_of least_at record_of close open_key insert insert_all pack_nodes file_of before_test list_test pairs_from pairs_of pack_answer
list_total = refl

-- equal keys
pub list_equal : pack_answer 36 (2 ∷ 0 ∷ 0 ∷ 0 ∷ 2 ∷ 0 ∷ 0 ∷ 0 ∷ 1 ∷ 0 ∷ 0 ∷ 0 ∷ 2 ∷ 0 ∷ 0 ∷ 0 ∷ 1 ∷ 0 ∷ 0 ∷ 0 ∷ 0 ∷ 0 ∷ 0 ∷ 0 ∷ 2 ∷ 0 ∷ 0 ∷ 0 ∷ 0 ∷ 0 ∷ 0 ∷ 0 ∷ 97 ∷ 97 ∷ []) false 0 0 ≡ refused LIST
unfolding le bytes_of size_up_to pack_size largest common_inputs common_inputs_inv common_idx common_input stored_numbers stored_bytes place_from up_from index_of index_bytes output_size delta_size input_bytes packed_next packed_one head_of packed_any packed head_len input_of ntrans_of sizes_byte index_len size_of down_from bytes_down numbers_down transitions_of node_of sound_test node_at fnv_step hash_transitions hash_node hash_of row_of same_transitions matches intern least_of least_at record_of close open_key insert insert_all pack_nodes file_of before_test list_test pairs_from pairs_of pack_answer
list_equal = refl

-- keys that fall
pub list_falls : pack_answer 36 (2 ∷ 0 ∷ 0 ∷ 0 ∷ 2 ∷ 0 ∷ 0 ∷ 0 ∷ 1 ∷ 0 ∷ 0 ∷ 0 ∷ 2 ∷ 0 ∷ 0 ∷ 0 ∷ 1 ∷ 0 ∷ 0 ∷ 0 ∷ 0 ∷ 0 ∷ 0 ∷ 0 ∷ 2 ∷ 0 ∷ 0 ∷ 0 ∷ 0 ∷ 0 ∷ 0 ∷ 0 ∷ 98 ∷ 97 ∷ []) false 0 0 ≡ refused LIST
unfolding le bytes_of size_up_to pack_size largest common_inputs common_inputs_inv common_idx common_input stored_numbers stored_bytes place_from up_from index_of index_bytes output_size delta_size input_bytes packed_next packed_one head_of packed_any packed head_len input_of ntrans_of sizes_byte index_len size_of down_from bytes_down numbers_down transitions_of node_of sound_test node_at fnv_step hash_transitions hash_node hash_of row_of same_transitions matches intern least_of least_at record_of close open_key insert insert_all pack_nodes file_of before_test list_test pairs_from pairs_of pack_answer
list_falls = refl

-- ends that fall
pub list_ends : pack_answer 36 (2 ∷ 0 ∷ 0 ∷ 0 ∷ 2 ∷ 0 ∷ 0 ∷ 0 ∷ 2 ∷ 0 ∷ 0 ∷ 0 ∷ 1 ∷ 0 ∷ 0 ∷ 0 ∷ 1 ∷ 0 ∷ 0 ∷ 0 ∷ 0 ∷ 0 ∷ 0 ∷ 0 ∷ 2 ∷ 0 ∷ 0 ∷ 0 ∷ 0 ∷ 0 ∷ 0 ∷ 0 ∷ 97 ∷ 98 ∷ []) false 0 0 ≡ refused LIST
unfolding le bytes_of size_up_to pack_size largest common_inputs common_inputs_inv common_idx common_input stored_numbers stored_bytes place_from up_from index_of index_bytes output_size delta_size input_bytes packed_next packed_one head_of packed_any packed head_len input_of ntrans_of sizes_byte index_len size_of down_from bytes_down numbers_down transitions_of node_of sound_test node_at fnv_step hash_transitions hash_node hash_of row_of same_transitions matches intern least_of least_at record_of close open_key insert insert_all pack_nodes file_of before_test list_test pairs_from pairs_of pack_answer
list_ends = refl

-- a last end that is not the total
pub list_last : pack_answer 36 (1 ∷ 0 ∷ 0 ∷ 0 ∷ 1 ∷ 0 ∷ 0 ∷ 0 ∷ 0 ∷ 0 ∷ 0 ∷ 0 ∷ 1 ∷ 0 ∷ 0 ∷ 0 ∷ 0 ∷ 0 ∷ 0 ∷ 0 ∷ 97 ∷ []) false 0 0 ≡ refused LIST
unfolding le bytes_of size_up_to pack_size largest common_inputs common_inputs_inv common_idx common_input stored_numbers stored_bytes place_from up_from index_of index_bytes output_size delta_size input_bytes packed_next packed_one head_of packed_any packed head_len input_of ntrans_of sizes_byte index_len size_of down_from bytes_down numbers_down transitions_of node_of sound_test node_at fnv_step hash_transitions hash_node hash_of row_of same_transitions matches intern least_of least_at record_of close open_key insert insert_all pack_nodes file_of before_test list_test pairs_from pairs_of pack_answer
list_last = refl

-- 2^32 - 1 keys
pub list_count : pack_answer 36 (255 ∷ 255 ∷ 255 ∷ 255 ∷ 0 ∷ 0 ∷ 0 ∷ 0 ∷ 0 ∷ 0 ∷ 0 ∷ 0 ∷ []) false 0 0 ≡ refused LIST
unfolding le bytes_of size_up_to pack_size largest common_inputs common_inputs_inv common_idx common_input stored_numbers stored_bytes place_from up_from index_of index_bytes output_size delta_size input_bytes packed_next packed_one head_of packed_any packed head_len input_of ntrans_of sizes_byte index_len size_of down_from bytes_down numbers_down transitions_of node_of sound_test node_at fnv_step hash_transitions hash_node hash_of row_of same_transitions matches intern least_of least_at record_of close open_key insert insert_all pack_nodes file_of before_test list_test pairs_from pairs_of pack_answer
list_count = refl

-- a key of 256 bytes
pub list_long : pack_answer 36 (1 ∷ 0 ∷ 0 ∷ 0 ∷ 0 ∷ 1 ∷ 0 ∷ 0 ∷ 0 ∷ 1 ∷ 0 ∷ 0 ∷ 1 ∷ 0 ∷ 0 ∷ 0 ∷ 0 ∷ 0 ∷ 0 ∷ 0 ∷ replicate 256 97) false 0 0 ≡ refused LIST
unfolding le bytes_of size_up_to pack_size largest common_inputs common_inputs_inv common_idx common_input stored_numbers stored_bytes place_from up_from index_of index_bytes output_size delta_size input_bytes packed_next packed_one head_of packed_any packed head_len input_of ntrans_of sizes_byte index_len size_of down_from bytes_down numbers_down transitions_of node_of sound_test node_at fnv_step hash_transitions hash_node hash_of row_of same_transitions matches intern least_of least_at record_of close open_key insert insert_all pack_nodes file_of before_test list_test pairs_from pairs_of pack_answer
list_long = refl

-- a key of 255 bytes is taken: what is refused is the room
pub list_longest : pack_answer 36 (1 ∷ 0 ∷ 0 ∷ 0 ∷ 255 ∷ 0 ∷ 0 ∷ 0 ∷ 255 ∷ 0 ∷ 0 ∷ 0 ∷ 1 ∷ 0 ∷ 0 ∷ 0 ∷ 0 ∷ 0 ∷ 0 ∷ 0 ∷ replicate 255 97) false 0 0 ≡ refused SPACE
unfolding le bytes_of size_up_to pack_size largest common_inputs common_inputs_inv common_idx common_input stored_numbers stored_bytes place_from up_from index_of index_bytes output_size delta_size input_bytes packed_next packed_one head_of packed_any packed head_len input_of ntrans_of sizes_byte index_len size_of down_from bytes_down numbers_down transitions_of node_of sound_test node_at fnv_step hash_transitions hash_node hash_of row_of same_transitions matches intern least_of least_at record_of close open_key insert insert_all pack_nodes file_of before_test list_test pairs_from pairs_of pack_answer
list_longest = refl

-- the second cell matches and goes first; then the root is written
pub promoted : pack_cells (pair (97 ∷ 120 ∷ []) 1 ∷ pair (97 ∷ 121 ∷ []) 2 ∷ pair (98 ∷ 112 ∷ []) 1 ∷ pair (98 ∷ 113 ∷ []) 2 ∷ pair (99 ∷ 120 ∷ []) 1 ∷ pair (99 ∷ 121 ∷ []) 2 ∷ []) 2 ≡ (record { addr = 42; hash = 15186680871384040311 } ∷ record { addr = 23; hash = 15843973219126631123 } ∷ [])
unfolding le bytes_of size_up_to pack_size largest common_inputs common_inputs_inv common_idx common_input stored_numbers stored_bytes place_from up_from index_of index_bytes output_size delta_size input_bytes packed_next packed_one head_of packed_any packed head_len input_of ntrans_of sizes_byte index_len size_of down_from bytes_down numbers_down transitions_of node_of sound_test node_at fnv_step hash_transitions hash_node hash_of row_of same_transitions matches intern least_of least_at record_of close open_key insert insert_all pack_nodes file_of before_test list_test pairs_from pairs_of pack_answer
promoted = refl
