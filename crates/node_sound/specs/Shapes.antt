-- What the functions that judge a node say of its last bytes.
--     Head s a r              r is how many bytes the state takes, with the byte below it
--     AtForm s root a         the state byte lies from 16 to the root, and in the file
--     shape_is h               the shape that the code works out, as the definition has it
--     one_shape t o n          the shape of a node with one transition, by its sizes and its bytes
--     parts_at h a            the parts of a node of the shape h at a
--     deltas_from, inputs_from    where the deltas and the inputs start
--     PartsRight s p          the inputs, the deltas and the index of a node with any number of transitions
--     Judged s v root a r     r has the parts of the node at a where it is sound, and none where it is not
-- Assumes nothing.
use Rattle.std.specs.Prelude.{◌≡◌, Bool, true, false, List, ℕ, ◌+◌, ◌-◌, ◌≤◌, ◌<◌, length, take, drop, Option, Some, None}
use Rattle.format.specs.declared.State.{State}
use Rattle.format.specs.declared.State.TheVariants.{OneTransNext, OneTrans, AnyTrans}
use Rattle.format.specs.Node as F
use Rattle.format.specs.Node.{head_len, Indexed, TargetsRight}
use Rattle.node_sound.specs.declared.Shape.{Shape}
use Rattle.node_sound.specs.declared.Parts.{Parts}

pub record Head (s : List ℕ) (a r : ℕ) : Type 0 where
  pub is : r ≡ head_len s a
  pub low : 1 ≤ r
  pub high : r ≤ 2

-- the state byte lies from 16 to the root, and in the file
pub record AtForm (s : List ℕ) (root a : ℕ) : Type 0 where
  pub low : 16 ≤ a
  pub below : a ≤ root
  pub inside : a < length s

-- the shape that the code works out, as the definition has it
abbrev pub shape_is : Shape → F.Shape
shape_is h = record {
  state = AnyTrans;
  final = h.is_final;
  ntrans = h.ntrans;
  tsize = h.tsize;
  osize = h.osize;
  indexed = h.index_len;
  size = h.size;
}

-- one transition, wherever it leads
abbrev pub one_shape : ℕ → ℕ → ℕ → F.Shape
one_shape tsize osize size = record {
  state = OneTrans;
  final = false;
  ntrans = 1;
  tsize = tsize;
  osize = osize;
  indexed = 0;
  size = size;
}

-- a node that is not stored as `AnyTrans` has one transition
abbrev pub is_any : State → Bool
is_any OneTransNext = false
is_any OneTrans = false
is_any AnyTrans = true

-- the parts of a node of the shape h at a
abbrev pub parts_at : F.Shape → ℕ → Parts
parts_at h a = record {
  is_final = h.final;
  first = a + 1 - h.size;
  outputs = F.outputs_at (a + 1 - h.size) h.final h.osize;
  ntrans = h.ntrans;
  tsize = h.tsize;
  osize = h.osize;
  index_len = h.indexed;
}

-- where the deltas and the inputs start
abbrev pub deltas_from : Parts → ℕ
deltas_from p = F.deltas_at p.outputs p.ntrans p.osize

abbrev pub inputs_from : Parts → ℕ
inputs_from p = F.inputs_at p.outputs p.ntrans p.osize p.tsize

-- the inputs, the deltas and the index of a node with any number of transitions
pub record PartsRight (s : List ℕ) (p : Parts) : Type 0 where
  pub ascending : F.Ascending (F.bytes_down s (inputs_from p) p.ntrans)
  pub targets : TargetsRight p.first (F.numbers_down s (deltas_from p) p.tsize p.ntrans)
  pub index : ¬ (p.index_len ≡ 0) → Indexed (F.bytes_down s (inputs_from p) p.ntrans) (take 256 (drop (inputs_from p + p.ntrans) s))

-- the parts of the node at a where it is sound, and none where it is not
pub record Judged (s : List ℕ) (v root a : ℕ) (r : Option Parts) : Type 0 where
  pub some : (p : Parts) → r ≡ Some p → F.SoundAt s v root a × (p ≡ parts_at (F.shape_of s v a) a)
  pub none : r ≡ None → ¬ F.SoundAt s v root a
