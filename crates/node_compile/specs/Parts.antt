-- What the functions under `compile` answer and write: the bytes of a form, and the part of a buffer.
--     state_bytes form inp              the end of a node with one transition, whose top two bits are given as form: 128, or 192
--     Code inp idx rare                 the state byte keeps idx of the input inp, and where that is 0, the input is rare
--     form_bits st                      the top two bits of the state byte of a node in the form st that is not final
--     state_for form idx rare           the same end by what the state byte keeps
--     one_for idx rare out delta        the bytes of the form 10, by the same
--     any_in F b osize tsize            the bytes of b in the forms 00 and 01, with outputs of osize bytes and deltas of tsize bytes
--     any_bytes F b                     the same, with the sizes that b's outputs and deltas need
--     any_len f n osize tsize           how many they are, of n transitions, final or not by f
--     RecordFits F b                   what the bytes need of a record: as RECORD asks, but for its limit on F
--     AnyFits F b osize tsize room     what writing them asks: the record fits, and they have room
--     Fitted bs out₀ out r             what writing a node's bytes bs answers and leaves, where only SPACE can refuse
-- Assumes nothing.
use Rattle.std.specs.Prelude.{◌≡◌, Bool, cond, List, [], ◌∷◌, ◌++◌, map, ℕ, ◌+◌, ◌*◌, ◌≤◌, ◌<◌, eqb, leb, length, Result}
use Rattle.format.specs.declared.Refusal.{Refusal}
use Rattle.format.specs.declared.State.{State}
use Rattle.format.specs.declared.State.TheVariants.{OneTransNext, OneTrans, AnyTrans}
use Rattle.format.specs.Limits.{first_node, max_trans, SPACE}
use Rattle.format.specs.Bytes.{bytes_of, pack_size, largest}
use Rattle.format.specs.CommonInputs.{common_idx}
use Rattle.format.specs.Node.{Ascending, end_len, index_len}
use Rattle.format.specs.Packed.{BuilderNode, TargetsOk, RecordOk, delta_of, input_bytes, output_size, delta_size, sizes_of, head_of, packed_any, Packing, written, refused}
use Rattle.node_compile.specs.Compile.{answer_as, buffer_after}

-- ---- a node's bytes

-- the input where the state byte does not keep it, and the state byte
abbrev pub state_bytes : ℕ → ℕ → List ℕ
state_bytes form inp = input_bytes inp ++ ((form + common_idx inp) ∷ [])

pub record Code (inp idx rare : ℕ) : Type 0 where
  pub is : idx ≡ common_idx inp
  pub rare_is : idx ≡ 0 → rare ≡ inp

abbrev pub form_bits : State → ℕ
form_bits OneTransNext = 192
form_bits OneTrans = 128
form_bits AnyTrans = 0

abbrev pub state_for : ℕ → ℕ → ℕ → List ℕ
state_for form idx rare = cond (eqb idx 0) (rare ∷ (form ∷ [])) ((form + idx) ∷ [])

abbrev pub one_for : ℕ → ℕ → ℕ → ℕ → List ℕ
one_for idx rare out delta =
    bytes_of (output_size out) out ++ (bytes_of (pack_size delta) delta ++ ((sizes_of (pack_size delta) (output_size out) ∷ []) ++ state_for 128 idx rare))

abbrev pub any_in : ℕ → BuilderNode → ℕ → ℕ → List ℕ
any_in first b osize tsize = packed_any b (map (delta_of first) b.targets) osize tsize

abbrev pub any_bytes : ℕ → BuilderNode → List ℕ
any_bytes first b = any_in first b (output_size (largest (b.final_output ∷ b.outputs))) (delta_size (map (delta_of first) b.targets))

pub record RecordFits (first : ℕ) (b : BuilderNode) : Type 0 where
  pub few : length b.inputs ≤ max_trans
  pub outputs_len : length b.outputs ≡ length b.inputs
  pub targets_len : length b.targets ≡ length b.inputs
  pub ascending : Ascending b.inputs
  pub first_low : first_node ≤ first
  pub targets_ok : TargetsOk first b.targets

-- what RECORD has passed fits
abbrev pub fits_of : {first : ℕ} {b : BuilderNode} → RecordOk first b → RecordFits first b
fits_of ok = record {
  few = ok.few;
  outputs_len = ok.outputs_len;
  targets_len = ok.targets_len;
  ascending = ok.ascending;
  first_low = ok.first_low;
  targets_ok = ok.targets_ok;
}

pub record AnyFits (first : ℕ) (b : BuilderNode) (osize tsize room : ℕ) : Type 0 where
  pub ok : RecordFits first b
  pub osize_le : osize ≤ 8
  pub tsize_le : tsize ≤ 8
  pub fits : length (any_in first b osize tsize) ≤ room

-- final output, outputs, deltas, inputs, index, sizes byte, head
abbrev pub any_len : Bool → ℕ → ℕ → ℕ → ℕ
any_len final n osize tsize = end_len final osize + n * osize + n * tsize + n + index_len 3 n + 1 + length (head_of final n)

-- ---- the buffer

-- bs where there is room for it, else SPACE
abbrev pub fitting : List ℕ → ℕ → Packing
fitting bs room = cond (leb (length bs) room) (written bs) (refused SPACE)

pub record Fitted (bs out₀ out : List ℕ) (r : Result ℕ Refusal) : Type 0 where
  pub answer : r ≡ answer_as (fitting bs (length out₀))
  pub buffer : out ≡ buffer_after (fitting bs (length out₀)) out₀
