-- The bytes that the packer writes for a node record (document 01: `Node::compile`, version 3 layout; refusals RECORD and SPACE).
--     BuilderNode          a node record, by the source's name: final, final output, and three parallel lists
--     Ranges b             what the code's types say of a record: inputs are bytes, outputs and the final output have 64 bits
--     RecordOk F b         what RECORD (10) asks of a record whose node is to stand at F
--     last_addr F           the address that the packer was left with by the node before: F - 1, or 1 where there is none
--     packed F b           the node's bytes, from F on
--     Packing, packing F b room    what the packer answers into a buffer of room bytes: the bytes, or a refusal
--     record_node F b       what the record says, as the node that reading gives back
--     node_addr F b         the address of the packed node: its last byte, or 0 for the record that packs to nothing
-- Assumes nothing.
use Rattle.std.specs.Prelude.{◌≡◌, Bool, true, false, cond, not, ◌&&◌, ◌||◌, ◌⊎◌, List, [], ◌∷◌, ◌++◌, map, ℕ, zero, suc, ◌+◌, ◌-◌, ◌*◌, ◌^◌, ◌≤◌, ◌<◌, ltb, leb, eqb, length, get_or}
use Rattle.format.specs.declared.Refusal.{Refusal}
use Rattle.buffers.specs.Decide.{implies, all_below}
use Rattle.format.specs.Limits.{first_node, max_len, max_trans, index_threshold, SPACE, RECORD}
use Rattle.format.specs.Bytes.{bytes_of, pack_size, largest}
use Rattle.format.specs.CommonInputs.{common_idx}
use Rattle.format.specs.Node.{Ascending, ascending_test, Node, transitions_of, end_len}

pub record BuilderNode : Type 0 where
  pub final : Bool
  pub final_output : ℕ
  pub inputs : List ℕ
  pub outputs : List ℕ
  pub targets : List ℕ

pub record Ranges (b : BuilderNode) : Type 0 where
  pub input_lt : (i : ℕ) → i < length b.inputs → get_or b.inputs i 0 < 256
  pub output_lt : (i : ℕ) → i < length b.outputs → get_or b.outputs i 0 < 2 ^ 64
  pub final_lt : b.final_output < 2 ^ 64

-- ---- RECORD

-- 0, or from 16 to F - 1
unfoldable pub TargetOk : ℕ → ℕ → Type 0
TargetOk first t = (t ≡ 0) ⊎ ((first_node ≤ t) × (t < first))

unfoldable pub TargetsOk : ℕ → List ℕ → Type 0
unfolding TargetOk
TargetsOk first ts = (i : ℕ) → i < length ts → TargetOk first (get_or ts i 0)

pub record RecordOk (first : ℕ) (b : BuilderNode) : Type 0 where
  pub few : length b.inputs ≤ max_trans
  pub outputs_len : length b.outputs ≡ length b.inputs
  pub targets_len : length b.targets ≡ length b.inputs
  pub ascending : Ascending b.inputs
  pub first_low : first_node ≤ first
  pub first_high : first ≤ max_len
  pub targets_ok : TargetsOk first b.targets
  pub final_ok : b.final ≡ false → b.final_output ≡ 0

-- the same as a test that computes; PackedLaws, `decides_record`
abbrev pub target_ok_test : ℕ → ℕ → Bool
target_ok_test first t = eqb t 0 || (leb first_node t && ltb t first)

unfoldable pub record_test : ℕ → BuilderNode → Bool
record_test first b =
    leb (length b.inputs) max_trans
    && (eqb (length b.outputs) (length b.inputs)
    && (eqb (length b.targets) (length b.inputs)
    && (ascending_test b.inputs
    && (leb first_node first
    && (leb first max_len
    && (all_below (λ i. target_ok_test first (get_or b.targets i 0)) (length b.targets)
    && implies (not b.final) (eqb b.final_output 0)))))))

-- ---- the parts of a packed node

-- target 0 is delta 0; any other target is measured from F
abbrev pub delta_of : ℕ → ℕ → ℕ
delta_of first t = cond (eqb t 0) 0 (first - t)

-- last transition first
unfoldable pub stored_numbers : ℕ → List ℕ → List ℕ
stored_numbers k [] = []
stored_numbers k (n ∷ ns) = stored_numbers k ns ++ bytes_of k n

unfoldable pub stored_bytes : List ℕ → List ℕ
stored_bytes [] = []
stored_bytes (b ∷ bs) = stored_bytes bs ++ (b ∷ [])

-- i plus the place of b in bs, or 255 if bs has no b
unfoldable pub place_from : ℕ → List ℕ → ℕ → ℕ
place_from i [] b = 255
place_from i (x ∷ xs) b = cond (eqb x b) i (place_from (i + 1) xs b)

-- f i, .., f (i + n - 1)
unfoldable pub up_from : (ℕ → ℕ) → ℕ → ℕ → List ℕ
up_from f i zero = []
up_from f i (suc n) = f i ∷ up_from f (i + 1) n

-- the places of the bytes 0 to 255
unfoldable pub index_of : List ℕ → List ℕ
unfolding up_from place_from
index_of bs = up_from (place_from 0 bs) 0 256

unfoldable pub index_bytes : List ℕ → List ℕ
unfolding index_of
index_bytes bs = cond (ltb index_threshold (length bs)) (index_of bs) []

-- outputs take as many bytes as the largest of them and the final output needs, and none where all are 0
unfoldable pub output_size : ℕ → ℕ
unfolding pack_size
output_size n = cond (eqb n 0) 0 (pack_size n)

-- deltas take as many bytes as the largest of them needs, and none where there is none
unfoldable pub delta_size : List ℕ → ℕ
unfolding pack_size largest
delta_size [] = 0
delta_size (d ∷ ds) = pack_size (largest (d ∷ ds))

-- the delta size in the high four bits, the output size in the low four
abbrev pub sizes_of : ℕ → ℕ → ℕ
sizes_of tsize osize = tsize * 16 + osize

-- an input past place 62 of the common ones stands before the state byte
unfoldable pub input_bytes : ℕ → List ℕ
unfolding common_idx
input_bytes inp = cond (eqb (common_idx inp) 0) (inp ∷ []) []

-- ---- the three forms

-- 11
unfoldable pub packed_next : ℕ → List ℕ
unfolding input_bytes
packed_next inp = input_bytes inp ++ ((192 + common_idx inp) ∷ [])

-- 10
unfoldable pub packed_one : ℕ → ℕ → ℕ → List ℕ
unfolding input_bytes output_size pack_size
packed_one inp out delta =
    bytes_of (output_size out) out ++ (bytes_of (pack_size delta) delta ++ ((sizes_of (pack_size delta) (output_size out) ∷ []) ++ (input_bytes inp ++ ((128 + common_idx inp) ∷ []))))

-- 64 for a final node
abbrev pub final_flag : Bool → ℕ
final_flag final = cond final 64 0

-- 1 to 63 go into the state byte; any other count stands before it, with 1 for 256
unfoldable pub head_of : Bool → ℕ → List ℕ
head_of final n = cond (ltb 0 n && ltb n 64) ((final_flag final + n) ∷ []) (cond (eqb n 256) 1 n ∷ (final_flag final ∷ []))

-- 00 and 01, with outputs of osize bytes and deltas of tsize bytes
unfoldable pub packed_any : BuilderNode → List ℕ → ℕ → ℕ → List ℕ
unfolding stored_numbers stored_bytes index_bytes head_of
packed_any b deltas osize tsize =
    bytes_of (end_len b.final osize) b.final_output ++ (stored_numbers osize b.outputs ++ (stored_numbers tsize deltas
    ++ (stored_bytes b.inputs ++ (index_bytes b.inputs ++ ((sizes_of tsize osize ∷ []) ++ head_of b.final (length b.inputs))))))

-- ---- which form is chosen

abbrev pub last_addr : ℕ → ℕ
last_addr first = cond (eqb first 16) 1 (first - 1)

-- final, no transitions and output 0: nothing is written
abbrev pub packs_to_nothing : BuilderNode → Bool
packs_to_nothing b = b.final && (eqb (length b.inputs) 0 && eqb b.final_output 0)

-- one transition and not final: 11 where it leads with output 0 to the node before, else 10
abbrev pub has_one : BuilderNode → Bool
has_one b = not b.final && eqb (length b.inputs) 1

abbrev pub leads_next : ℕ → BuilderNode → Bool
leads_next first b = eqb (get_or b.targets 0 0) (last_addr first) && eqb (get_or b.outputs 0 0) 0

unfoldable pub packed : ℕ → BuilderNode → List ℕ
unfolding packed_next packed_one packed_any output_size delta_size largest
packed first b =
    cond (packs_to_nothing b) []
    (cond (has_one b)
    (cond (leads_next first b) (packed_next (get_or b.inputs 0 0))
    (packed_one (get_or b.inputs 0 0) (get_or b.outputs 0 0) (delta_of first (get_or b.targets 0 0))))
    (packed_any b (map (delta_of first) b.targets) (output_size (largest (b.final_output ∷ b.outputs))) (delta_size (map (delta_of first) b.targets))))

-- ---- what the packer answers

pub data Packing : Type 0 where
  written : List ℕ → Packing
  refused : Refusal → Packing

-- RECORD, then SPACE
unfoldable pub packing : ℕ → BuilderNode → ℕ → Packing
unfolding packed record_test
packing first b room =
    cond (record_test first b) (cond (leb (length (packed first b)) room) (written (packed first b)) (refused SPACE)) (refused RECORD)

-- ---- what is read back

abbrev pub node_addr : ℕ → BuilderNode → ℕ
node_addr first b = cond (packs_to_nothing b) 0 (first + length (packed first b) - 1)

abbrev pub record_node : ℕ → BuilderNode → Node
record_node first b = record {
  first = cond (packs_to_nothing b) 0 first;
  final = b.final;
  final_output = b.final_output;
  transitions = transitions_of b.inputs b.outputs b.targets;
}
