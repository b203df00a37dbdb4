-- What `compile` answers and leaves in the lent buffer (document 01: "a packed node", refusals RECORD and SPACE).
--     builder_with f o is os ts     the node record of these parts
--     builder_is n                  the node record that the code's n is
--     answer_as p                   the code's answer for the packing p: the number of bytes, or the refusal
--     buffer_after p out            the lent buffer out after the packing p
--     ReadsBack b F bs             the bytes bs read back as the record b in every file of version 2 or 3 that has them at F
--     Compiles b F out₀ out r      packing b at F into the buffer out₀ answers r and leaves out
-- Assumes nothing.
use Rattle.std.specs.Prelude.{◌≡◌, Bool, List, ◌++◌, ℕ, ◌≤◌, length, take, drop, Ok, Err, Result}
use Rattle.format.specs.declared.Refusal.{Refusal}
use Rattle.format.specs.Node.{Useful, sound, node_at}
use Rattle.format.specs.Packed.{BuilderNode, Packing, written, refused, packing, node_addr, record_node}
use Rattle.node_record.specs.declared.BuilderNode as Lent

abbrev pub builder_with : Bool → ℕ → List ℕ → List ℕ → List ℕ → BuilderNode
builder_with final final_output inputs outputs targets = record {
  final = final;
  final_output = final_output;
  inputs = inputs;
  outputs = outputs;
  targets = targets;
}

abbrev pub builder_is : Lent.BuilderNode → BuilderNode
builder_is n = builder_with n.is_final n.final_output n.inputs.now n.outputs.now n.targets.now

abbrev pub answer_as : Packing → Result ℕ Refusal
answer_as (written bs) = Ok (length bs)
answer_as (refused k) = Err k

-- a refusal leaves the buffer as it was
abbrev pub buffer_after : Packing → List ℕ → List ℕ
buffer_after (written bs) out = bs ++ drop (length bs) out
buffer_after (refused k) out = out

-- the root is not below the node; a node that is neither final nor has a transition is sound only at the root
pub record ReadsBack (b : BuilderNode) (first : ℕ) (bs : List ℕ) : Type 0 where
  pub node : (pre post : List ℕ) (v root : ℕ) → length pre ≡ first → 2 ≤ v → node_addr first b ≤ root
      → Useful b.final (length b.inputs) (node_addr first b) root
      → node_at (pre ++ (bs ++ post)) v root (node_addr first b) ≡ sound (record_node first b)

pub record Compiles (b : BuilderNode) (first : ℕ) (out₀ out : List ℕ) (r : Result ℕ Refusal) : Type 0 where
  pub answer : r ≡ answer_as (packing first b (length out₀))
  pub buffer : out ≡ buffer_after (packing first b (length out₀)) out₀
  pub reads_back : (n : ℕ) → r ≡ Ok n → ReadsBack b first (take n out)
