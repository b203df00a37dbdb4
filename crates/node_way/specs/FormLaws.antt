-- A sound node that is read without being made: the node that judging it would answer, from the bytes or the shape that are read.
-- Assumes nothing.
use Rattle.std.specs.Prelude.{Ok, ◌≡◌, refl, List, ℕ, ◌+◌, ◌-◌, ◌≤◌, get_or, take, drop}
use Rattle.std.proofs.Common.{sym, subst, arith, add-zero}
use Rattle.format.specs.Bytes.{le}
use Rattle.format.specs.Node as F
use Rattle.format.specs.Node.{numbers_down, SoundAt, SoundShape, node_at, unsound}
use Rattle.format.specs.declared.State.TheVariants.{OneTransNext, AnyTrans}
use Rattle.format.specs.Laws.NodeLaws.{node_at_unsound}
use Rattle.format.specs.Laws.StoredLaws.{get_d_numbers_down}
use Rattle.node_sound.specs.Shapes.{AtForm, one_shape, parts_at}
use Rattle.node_sound.specs.JudgingLaws.{sound_low, sound_form, shape_sound}
use Rattle.node_sound.specs.ShapesLaws.{next_shape, shape_next}
use Rattle.node.specs.declared.Node.{Node}
use Rattle.node.specs.Read.{Readable, Judges}
use Rattle.node.specs.JudgedLaws.{code_node, judged_yes}
use Rattle.node_way.specs.Ways.{parts_node, any_node}
use Rattle.node_way.specs.WaysLaws.{readable_any}

-- ---- where a node may lie

-- elsewhere, but at address 0, is no node
pub node_elsewhere : (s : List ℕ) (v root a : ℕ) → ¬ (a ≡ 0) → ¬ AtForm s root a → node_at s v root a ≡ unsound
node_elsewhere s v root a ne elsewhere =
    node_at_unsound s v root a ne (λ is_sound. elsewhere (sound_form s v root a is_sound))

-- ---- one transition

-- a node of this shape at a, with this input
abbrev pub form_node : ℕ → F.Shape → ℕ → Node
form_node a h inp = code_node h (a + 1 - h.size) 0 inp (a + 1 - h.size)

-- a number that takes no byte is 0
pub no_number : (s : List ℕ) (at : ℕ) → 0 ≡ get_or (numbers_down s at 0 1) 0 0
unfolding le
no_number s at = sym (get_d_numbers_down s at 0 1 0 (omega arith))

module _ (s : List ℕ) (v root a : ℕ) (is_sound : SoundAt s v root a) where
  low : 16 ≤ a
  low = sound_low s v root a is_sound

  nonzero : ¬ (a ≡ 0)
  nonzero z = omega (arith, low)

  -- one transition to the node just below
  pub next_judged : (len : ℕ) → len ≡ F.head_len s a → (inp : ℕ) → inp ≡ F.input_of s a → F.state_form (get_or s a 0) ≡ OneTransNext
      → Judges s v root a (Ok (form_node a (next_shape len) inp))
  unfolding le
  next_judged len is_len inp is_inp form =
      let h = next_shape len in
      let is_h = shape_next s v a len form is_len in
      judged_yes s v root a h is_h nonzero 0 inp (a + 1 - len) (shape_sound s v root a h is_h nonzero is_sound) refl (rw is_inp) (sym (add-zero (a + 1 - len)))

  -- one transition, wherever it leads
  module _ (tsize osize size : ℕ) (is_h : one_shape tsize osize size ≡ F.shape_of s v a) where
    abbrev h : F.Shape
    h = one_shape tsize osize size

    sound : SoundShape s root a h (a + 1 - h.size)
    sound = shape_sound s v root a h is_h nonzero is_sound

    -- its bytes lie from 16 on
    pub one_above : size ≤ a
    one_above = omega (arith, sound.above)

    pub one_judged : (inp : ℕ) → inp ≡ F.input_of s a → Judges s v root a (Ok (form_node a h inp))
    unfolding le
    one_judged inp is_inp = judged_yes s v root a h is_h nonzero 0 inp (a + 1 - h.size) sound refl (rw is_inp) (sym (add-zero (a + 1 - h.size)))

-- ---- any number of transitions

parts_form : (h : F.Shape) (a fo : ℕ) → h.state ≡ AnyTrans
    → code_node h (a + 1 - h.size) fo 0 (F.outputs_at (a + 1 - h.size) h.final h.osize) ≡ parts_node (parts_at h a) fo
parts_form h a fo any = rw any refl

module _ (s : List ℕ) (v root a : ℕ) (any : F.state_form (get_or s a 0) ≡ AnyTrans) (is_sound : SoundAt s v root a) where
  abbrev shape : F.Shape
  shape = F.shape_of s v a

  abbrev final_output : ℕ
  final_output = le (take (F.end_len shape.final shape.osize) (drop (a + 1 - shape.size) s))

  pub any_judged : Judges s v root a (Ok (parts_node (parts_at shape a) final_output))
  any_judged =
      subst (λ (m : Node). Judges s v root a (Ok m)) (parts_form shape a final_output any)
      (judged_yes s v root a shape refl (λ z. omega (arith, sound_low s v root a is_sound)) final_output 0 (F.outputs_at (a + 1 - shape.size) shape.final shape.osize) is_sound refl (rw any refl) refl)

  pub any_readable : Readable s (any_node (parts_at shape a))
  any_readable = readable_any s (parts_at shape a) final_output (any_judged.readable _ refl)
