-- A node of the form 10 reads back: one transition, with its output and its delta in front of the sizes byte.
-- Assumes nothing.
use Rattle.std.specs.Prelude.{◌≡◌, refl, false, length, get_or}
use Rattle.std.proofs.Common.{ap, ap₂, ◌∙◌, inl, arith, length-append}
use Rattle.std.proofs.Math.Logic.{inr}
use mathlib.Core.List.{List, [], ◌∷◌, ◌++◌, append_assoc}
use Prim.Native.Nat.{ℕ, zero, suc, ◌+◌, ◌-◌, ◌*◌, ◌/◌, ◌%◌, ◌^◌, ◌≤◌, ◌<◌}
use Rattle.std.proofs.lemmas.List.{get_or_at}
use Rattle.format.specs.declared.State.TheVariants.{OneTrans}
use Rattle.format.specs.Limits.{first_node, max_len}
use Rattle.format.specs.Bytes.{le, bytes_of, pack_size}
use Rattle.format.specs.Laws.BytesLaws.{length_bytes_of, size_of_pack, pack_size_low, pack_size_high}
use Rattle.format.specs.CommonInputs.{common_idx}
use Rattle.format.specs.Laws.CommonInputsLaws.{common_idx_lt}
use Rattle.format.specs.Node.{state_form, is_final, sizes_byte, Shape, size_of, shape_of, first_of, outputs_at, deltas_at, numbers_down, transitions_of, Ascending, TargetRight, TargetsRight, Useful, SoundShape, sound, node_at}
use Rattle.format.specs.Laws.NodeLaws.{form_one, not_final}
use Rattle.format.specs.Packed.{TargetOk, delta_of, output_size, sizes_of, input_bytes, packed_one}
use Rattle.format.specs.Laws.PackedLaws.{length_packed_one, output_size_le, output_size_holds, delta_lt}
use Rattle.format.specs.Laws.HeadLaws.{ntrans_one, sizes_one, index_len_few, OneHead, one_head_at}
use Rattle.format.specs.RoundTrip.ReadBack.{one_number, target_of_delta, target_right_of_delta, last_lt, node_at_shape}

module _ (pre post : List ℕ) (first inp out t v root a : ℕ) (at : length pre ≡ first) (low : first_node ≤ first) (high : first ≤ max_len)
    (byte : inp < 256) (out_lt : out < 2 ^ 64) (ok : TargetOk first t) (here : a + 1 ≡ first + length (packed_one inp out (delta_of first t))) where
  abbrev delta : ℕ
  delta = delta_of first t

  abbrev osize : ℕ
  osize = output_size out

  abbrev tsize : ℕ
  tsize = pack_size delta

  abbrev file : List ℕ
  file = pre ++ (packed_one inp out delta ++ post)

  -- the parts, each after those before it: output, delta, sizes byte
  abbrev p1 : List ℕ
  p1 = pre ++ bytes_of osize out

  abbrev p2 : List ℕ
  p2 = p1 ++ bytes_of tsize delta

  abbrev p3 : List ℕ
  p3 = p2 ++ (sizes_of tsize osize ∷ [])

  abbrev q3 : List ℕ
  q3 = input_bytes inp ++ ((128 + common_idx inp) ∷ post)

  cut0 : file ≡ pre ++ (bytes_of osize out ++ (bytes_of tsize delta ++ (sizes_of tsize osize ∷ q3)))
  unfolding packed_one
  cut0 = simp append_assoc

  cut1 : file ≡ p1 ++ (bytes_of tsize delta ++ (sizes_of tsize osize ∷ q3))
  unfolding packed_one
  cut1 = simp append_assoc

  cut2 : file ≡ p2 ++ (sizes_of tsize osize ∷ q3)
  unfolding packed_one
  cut2 = simp append_assoc

  cut3 : file ≡ p3 ++ q3
  unfolding packed_one
  cut3 = simp append_assoc

  len1 : length p1 ≡ first + osize
  len1 = length-append pre (bytes_of osize out) ∙ ap₂ ◌+◌ at (length_bytes_of osize out)

  len2 : length p2 ≡ first + osize + tsize
  len2 = length-append p1 (bytes_of tsize delta) ∙ ap₂ ◌+◌ len1 (length_bytes_of tsize delta)

  len3 : length p3 ≡ first + osize + tsize + 1
  len3 = length-append p2 (sizes_of tsize osize ∷ []) ∙ ap (λ (x : ℕ). x + 1) len2

  abbrev len : ℕ
  len = length (packed_one inp out delta)

  len_is : len ≡ osize + tsize + 1 + length (input_bytes inp) + 1
  len_is = length_packed_one inp out delta

  head : OneHead file a inp 128 (length (input_bytes inp))
  head = rw cut3 (one_head_at p3 post 128 inp a byte refl (omega (arith, len_is, len3)))

  form : state_form (get_or file a 0) ≡ OneTrans
  form = form_one (get_or file a 0) (omega (arith, head.state)) (omega (arith, head.state, common_idx_lt inp))

  final : is_final (get_or file a 0) ≡ false
  final = not_final (get_or file a 0) (omega (arith, head.state))

  sizes_are : sizes_byte file a ≡ sizes_of tsize osize
  sizes_are =
      sizes_one file a form
      ∙ (rw (head.size, cut2) (get_or_at p2 (sizes_of tsize osize) q3 0 (a - (length (input_bytes inp) + 1)) (omega (arith, len_is, len2))))

  tsize_is : sizes_byte file a / 16 ≡ tsize
  tsize_is = omega (arith, sizes_are, output_size_le out)

  osize_is : sizes_byte file a % 16 ≡ osize
  osize_is = omega (arith, sizes_are, output_size_le out)

  size_is : size_of file v a ≡ len
  unfolding size_of
  size_is = rw (form, final, ntrans_one file a form, tsize_is, osize_is, index_len_few v 1 (omega arith), head.size) (omega (arith, len_is))

  abbrev shape : Shape
  shape = record { state = OneTrans; final = false; ntrans = 1; tsize = tsize; osize = osize; indexed = 0; size = len }

  shape_is : shape_of file v a ≡ shape
  shape_is = rw (form, final, ntrans_one file a form, tsize_is, osize_is, index_len_few v 1 (omega arith), size_is)

  first_is : first_of file v a ≡ first
  first_is = omega (arith, size_is)

  output_read : numbers_down file (outputs_at first false osize) osize 1 ≡ out ∷ []
  output_read = rw cut0 (one_number pre (bytes_of tsize delta ++ (sizes_of tsize osize ∷ q3)) osize out (first + 0) (output_size_holds out out_lt) (omega arith))

  delta_read : numbers_down file (deltas_at (outputs_at first false osize) 1 osize) tsize 1 ≡ delta ∷ []
  delta_read =
      rw cut1 (one_number p1 (sizes_of tsize osize ∷ q3) tsize delta (first + 0 + 1 * osize) (size_of_pack delta (delta_lt first t high)).holds (omega (arith, len1)))

  is_sound : a ≤ root → SoundShape file root a shape first
  unfolding Ascending TargetsRight Useful
  is_sound below = record {
    inside = last_lt pre (packed_one inp out delta) post a (omega arith);
    below = below;
    above = omega arith;
    sizes = record { tsize_le = pack_size_high delta; osize_le = output_size_le out; tsize_pos = λ _ _. pack_size_low delta };
    ascending = λ i l. absurd (omega arith);
    entries = λ ne. absurd (ne refl);
    targets = rw delta_read target;
    useful = inr (inl (omega arith));
  }
    where
      target : (i : ℕ) → i < 1 → TargetRight first (get_or (delta ∷ []) i 0)
      target zero l = target_right_of_delta first t ok
      target (suc i) l = absurd (omega arith)

  pub one_read : a ≤ root
      → node_at file v root a
      ≡ sound (record { first = first; final = false; final_output = 0; transitions = transitions_of (inp ∷ []) (out ∷ []) (t ∷ []) })
  unfolding le
  one_read below =
      node_at_shape file v root a shape first (λ z. omega arith) shape_is first_is (is_sound below)
      ∙ rw (head.input, output_read, delta_read, target_of_delta first t ok)
