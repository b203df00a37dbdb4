-- A node of the form 11 reads back: one transition with output 0, to the node whose last byte stands just below.
-- Assumes nothing.
use Rattle.std.specs.Prelude.{◌≡◌, false, length, get_or}
use Rattle.std.proofs.Math.Path.{refl}
use Rattle.std.proofs.Common.{◌∙◌, inl}
use Rattle.std.proofs.lemmas.Bool.{false≢true}
use Rattle.std.proofs.Math.Logic.{inr}
use mathlib.Core.List.{List, [], ◌∷◌, ◌++◌, append_assoc}
use Prim.Native.Nat.{ℕ, zero, suc, ◌+◌, ◌-◌, ◌≤◌, ◌<◌}
use native.Mathlib.Omega.{arith}
use Rattle.format.specs.declared.State.TheVariants.{OneTransNext}
use Rattle.format.specs.Limits.{first_node}
use Rattle.format.specs.Bytes.{le}
use Rattle.format.specs.CommonInputs.{common_idx}
use Rattle.format.specs.Node.{state_form, is_final, Shape, size_of, shape_of, first_of, down_from, numbers_down, transitions_of, Ascending, TargetRight, TargetsRight, Useful, SoundShape, sound, node_at}
use Rattle.format.specs.Laws.NodeLaws.{form_next, not_final}
use Rattle.format.specs.Packed.{input_bytes, packed_next}
use Rattle.format.specs.Laws.PackedLaws.{length_packed_next}
use Rattle.format.specs.Laws.HeadLaws.{ntrans_next, sizes_next, index_len_few, OneHead, one_head_at}
use Rattle.format.specs.RoundTrip.ReadBack.{last_lt, node_at_shape}

module _ (pre post : List ℕ) (first inp v root a : ℕ) (at : length pre ≡ first) (above : first_node < first) (byte : inp < 256)
    (here : a + 1 ≡ first + length (packed_next inp)) where
  abbrev file : List ℕ
  file = pre ++ (packed_next inp ++ post)

  head : OneHead file a inp 192 (length (input_bytes inp))
  unfolding packed_next
  head =
      let cut : pre ++ ((input_bytes inp ++ ((192 + common_idx inp) ∷ [])) ++ post) ≡ pre ++ (input_bytes inp ++ ((192 + common_idx inp) ∷ post)) =
      simp append_assoc in
      rw cut (one_head_at pre post 192 inp a byte refl (omega (arith, length_packed_next inp)))

  form : state_form (get_or file a 0) ≡ OneTransNext
  form = form_next (get_or file a 0) (omega (arith, head.state))

  final : is_final (get_or file a 0) ≡ false
  final = not_final (get_or file a 0) (omega (arith, head.state))

  size_is : size_of file v a ≡ length (packed_next inp)
  unfolding size_of
  size_is = rw (form, final, ntrans_next file a form, sizes_next file a form, index_len_few v 1 (omega arith), head.size) (omega (arith, length_packed_next inp))

  abbrev shape : Shape
  shape = record { state = OneTransNext; final = false; ntrans = 1; tsize = 0; osize = 0; indexed = 0; size = length (packed_next inp) }

  shape_is : shape_of file v a ≡ shape
  shape_is = rw (form, final, ntrans_next file a form, sizes_next file a form, index_len_few v 1 (omega arith), size_is)

  first_is : first_of file v a ≡ first
  first_is = omega (arith, size_is)

  is_sound : a ≤ root → SoundShape file root a shape first
  unfolding Ascending TargetsRight Useful
  is_sound below = record {
    inside = last_lt pre (packed_next inp) post a (omega arith);
    below = below;
    above = omega arith;
    sizes = record { tsize_le = omega arith; osize_le = omega arith; tsize_pos = λ e. absurd (false≢true e) };
    ascending = λ i l. absurd (omega arith);
    entries = λ ne. absurd (ne refl);
    targets = target;
    useful = inr (inl (omega arith));
  }
    where
      target : (i : ℕ) → i < 1 → TargetRight first (get_or (1 ∷ []) i 0)
      target zero l = record { reach = omega arith; low = λ ne. omega arith; high = λ ne. omega arith }
      target (suc i) l = absurd (omega arith)

  pub next_read : a ≤ root
      → node_at file v root a
      ≡ sound (record { first = first; final = false; final_output = 0; transitions = transitions_of (inp ∷ []) (0 ∷ []) ((first - 1) ∷ []) })
  unfolding le numbers_down down_from
  next_read below =
      node_at_shape file v root a shape first (λ z. omega arith) shape_is first_is (is_sound below) ∙ rw head.input
