-- A node of the forms 00 and 01 reads back: any number of transitions, with whatever sizes hold its numbers.
--     AnyFits b deltas osize tsize F      what such a node keeps to, with outputs of osize bytes and deltas of tsize bytes
-- Assumes nothing.
use Rattle.std.specs.Prelude.{◌≡◌, Bool, ℕ, ◌+◌, ◌-◌, ◌*◌, ◌/◌, ◌%◌, ◌^◌, ◌≤◌, ◌<◌, ltb, length, get_or, take, drop}
use Rattle.std.proofs.Math.Path.{refl}
use Rattle.std.proofs.Common.{ap, ap₂, ◌∙◌, arith, length-append, take_at}
use Rattle.std.proofs.Math.Bool.{true, false, cond}
use mathlib.Core.List.{List, [], ◌∷◌, ◌++◌, append_assoc, map}
use Rattle.std.proofs.Math.Seq.{drop_at}
use Rattle.std.proofs.lemmas.List.{get_or_at}
use Rattle.format.specs.declared.State.TheVariants.{AnyTrans}
use Rattle.format.specs.Limits.{first_node, index_threshold}
use Rattle.format.specs.Bytes.{le, bytes_of}
use Rattle.format.specs.Laws.BytesLaws.{length_bytes_of}
use Rattle.format.specs.Node.{state_form, ntrans_of, sizes_byte, index_len, end_len, Shape, size_of, shape_of, first_of, outputs_at, deltas_at, inputs_at, bytes_down, numbers_down, target_of, transitions_of, Ascending, SizesRight, TargetsRight, Useful, SoundShape, sound, node_at}
use Rattle.format.specs.Laws.NodeLaws.{form_any}
use Rattle.format.specs.Packed.{BuilderNode, stored_numbers, stored_bytes, index_of, index_bytes, sizes_of, head_of, packed_any}
use Rattle.format.specs.Laws.PackedLaws.{length_stored_numbers, length_stored_bytes, length_index_of, index_len_is, length_index_bytes, length_packed_any, indexed_packed}
use Rattle.format.specs.Laws.HeadLaws.{ntrans_any, sizes_any, AnyHead, any_head_at}
use Rattle.format.specs.RoundTrip.ReadBack.{number_between, numbers_of_stored, inputs_of_stored, last_lt, node_at_shape}

pub record AnyFits (b : BuilderNode) (deltas : List ℕ) (osize tsize first : ℕ) : Type 0 where
  pub few : length b.inputs ≤ 256
  pub outputs_len : length b.outputs ≡ length b.inputs
  pub deltas_len : length deltas ≡ length b.inputs
  pub bytes : (i : ℕ) → i < length b.inputs → get_or b.inputs i 0 < 256
  pub ascending : Ascending b.inputs
  pub outputs_fit : (i : ℕ) → i < length b.outputs → get_or b.outputs i 0 < 256 ^ osize
  pub deltas_fit : (i : ℕ) → i < length deltas → get_or deltas i 0 < 256 ^ tsize
  pub final_fits : b.final_output < 256 ^ osize
  pub final_ok : b.final ≡ false → b.final_output ≡ 0
  pub sizes : SizesRight AnyTrans (length b.inputs) tsize osize
  pub targets : TargetsRight first deltas

module _ (pre post : List ℕ) (b : BuilderNode) (deltas : List ℕ) (osize tsize first v root a : ℕ) (fits : AnyFits b deltas osize tsize first)
    (at : length pre ≡ first) (low : first_node ≤ first) (version : 2 ≤ v) (here : a + 1 ≡ first + length (packed_any b deltas osize tsize)) where
  abbrev file : List ℕ
  file = pre ++ (packed_any b deltas osize tsize ++ post)

  abbrev len : ℕ
  len = length (packed_any b deltas osize tsize)

  abbrev n : ℕ
  n = length b.inputs

  abbrev end : ℕ
  end = end_len b.final osize

  -- the parts, each after those before it: final output, outputs, deltas, inputs, index, sizes byte
  abbrev p1 : List ℕ
  p1 = pre ++ bytes_of end b.final_output

  abbrev p2 : List ℕ
  p2 = p1 ++ stored_numbers osize b.outputs

  abbrev p3 : List ℕ
  p3 = p2 ++ stored_numbers tsize deltas

  abbrev p4 : List ℕ
  p4 = p3 ++ stored_bytes b.inputs

  abbrev p5 : List ℕ
  p5 = p4 ++ index_bytes b.inputs

  abbrev p6 : List ℕ
  p6 = p5 ++ (sizes_of tsize osize ∷ [])

  -- what follows each of them
  abbrev q6 : List ℕ
  q6 = head_of b.final n ++ post

  abbrev q5 : List ℕ
  q5 = (sizes_of tsize osize ∷ []) ++ q6

  abbrev q4 : List ℕ
  q4 = index_bytes b.inputs ++ q5

  abbrev q3 : List ℕ
  q3 = stored_bytes b.inputs ++ q4

  abbrev q2 : List ℕ
  q2 = stored_numbers tsize deltas ++ q3

  abbrev q1 : List ℕ
  q1 = stored_numbers osize b.outputs ++ q2

  cut0 : file ≡ pre ++ (bytes_of end b.final_output ++ q1)
  unfolding packed_any
  cut0 = simp append_assoc

  cut1 : file ≡ p1 ++ q1
  unfolding packed_any
  cut1 = simp append_assoc

  cut2 : file ≡ p2 ++ q2
  unfolding packed_any
  cut2 = simp append_assoc

  cut3 : file ≡ p3 ++ q3
  unfolding packed_any
  cut3 = simp append_assoc

  cut4 : file ≡ p4 ++ q4
  unfolding packed_any
  cut4 = simp append_assoc

  cut5 : file ≡ p5 ++ q5
  unfolding packed_any
  cut5 = simp append_assoc

  cut6 : file ≡ p6 ++ q6
  unfolding packed_any
  cut6 = simp append_assoc

  len1 : length p1 ≡ first + end
  len1 = length-append pre (bytes_of end b.final_output) ∙ ap₂ ◌+◌ at (length_bytes_of end b.final_output)

  len2 : length p2 ≡ first + end + n * osize
  len2 = length-append p1 (stored_numbers osize b.outputs) ∙ ap₂ ◌+◌ len1 (length_stored_numbers osize b.outputs ∙ rw fits.outputs_len)

  len3 : length p3 ≡ first + end + n * osize + n * tsize
  len3 = length-append p2 (stored_numbers tsize deltas) ∙ ap₂ ◌+◌ len2 (length_stored_numbers tsize deltas ∙ rw fits.deltas_len)

  len4 : length p4 ≡ first + end + n * osize + n * tsize + n
  len4 = length-append p3 (stored_bytes b.inputs) ∙ ap₂ ◌+◌ len3 (length_stored_bytes b.inputs)

  len5 : length p5 ≡ first + end + n * osize + n * tsize + n + index_len v n
  len5 = length-append p4 (index_bytes b.inputs) ∙ ap₂ ◌+◌ len4 (length_index_bytes v b.inputs version)

  len6 : length p6 ≡ first + end + n * osize + n * tsize + n + index_len v n + 1
  len6 = length-append p5 (sizes_of tsize osize ∷ []) ∙ ap (λ (x : ℕ). x + 1) len5

  abbrev head_size : ℕ
  head_size = length (head_of b.final n)

  len_is : len ≡ end + n * osize + n * tsize + n + index_len v n + 1 + head_size
  len_is = length_packed_any b deltas osize tsize ∙ rw (fits.outputs_len, fits.deltas_len, length_index_bytes v b.inputs version)

  head : AnyHead file a n b.final head_size
  head = rw cut6 (any_head_at p6 post b.final n a fits.few (omega (arith, len_is, len6)))

  form : state_form (get_or file a 0) ≡ AnyTrans
  form = form_any (get_or file a 0) head.state_lt

  ntrans_is : ntrans_of file a ≡ n
  ntrans_is = ntrans_any file a form ∙ head.count

  sizes_are : sizes_byte file a ≡ sizes_of tsize osize
  sizes_are =
      sizes_any file a form
      ∙ (rw (head.size, cut5) (get_or_at p5 (sizes_of tsize osize) q6 0 (a - head_size) (omega (arith, len_is, len5))))

  tsize_is : sizes_byte file a / 16 ≡ tsize
  tsize_is = omega (arith, sizes_are, fits.sizes.osize_le)

  osize_is : sizes_byte file a % 16 ≡ osize
  osize_is = omega (arith, sizes_are, fits.sizes.osize_le)

  size_is : size_of file v a ≡ len
  unfolding size_of
  size_is = rw (form, head.final_is, ntrans_is, tsize_is, osize_is, head.size) (omega (arith, len_is))

  abbrev shape : Shape
  shape = record { state = AnyTrans; final = b.final; ntrans = n; tsize = tsize; osize = osize; indexed = index_len v n; size = len }

  shape_is : shape_of file v a ≡ shape
  shape_is = rw (form, head.final_is, ntrans_is, tsize_is, osize_is, size_is)

  first_is : first_of file v a ≡ first
  first_is = omega (arith, size_is)

  -- a node that is not final stores no final output: it is 0
  end_holds : b.final_output < 256 ^ end
  end_holds = go b.final refl
    where
      go : (t : Bool) → b.final ≡ t → b.final_output < 256 ^ end_len t osize
      go true e = fits.final_fits
      go false e = omega (arith, fits.final_ok e)

  final_output_read : le (take end (drop first file)) ≡ b.final_output
  final_output_read = rw cut0 (number_between pre q1 end b.final_output first end_holds at)

  outputs_read : numbers_down file (outputs_at first b.final osize) osize n ≡ b.outputs
  outputs_read = rw (← len1, ← fits.outputs_len, cut1) (numbers_of_stored p1 b.outputs q2 osize fits.outputs_fit)

  deltas_read : numbers_down file (deltas_at (outputs_at first b.final osize) n osize) tsize n ≡ deltas
  deltas_read = rw (← len2, ← fits.deltas_len, cut2) (numbers_of_stored p2 deltas q3 tsize fits.deltas_fit)

  inputs_read : bytes_down file (inputs_at (outputs_at first b.final osize) n osize tsize) n ≡ b.inputs
  inputs_read = rw (← len3, cut3) (inputs_of_stored p3 b.inputs q4)

  entries_read : ¬ (index_len v n ≡ 0) → take 256 (drop (inputs_at (outputs_at first b.final osize) n osize tsize + n) file) ≡ index_of b.inputs
  unfolding index_bytes
  entries_read ne =
      let all : index_bytes b.inputs ≡ index_of b.inputs = go (ltb index_threshold n) (λ z. ne (index_len_is v n version ∙ z)) in
      rw (← len4, cut4, drop_at p4 q4 (length p4) refl, all) (take_at (index_of b.inputs) q5 256 (length_index_of b.inputs))
    where
      go : (t : Bool) → ¬ (◌≡◌ {A = ℕ} (cond t 256 0) 0) → cond t (index_of b.inputs) [] ≡ index_of b.inputs
      go true ne = refl
      go false ne = absurd (ne refl)

  is_sound : a ≤ root → Useful b.final n a root → SoundShape file root a shape first
  is_sound below useful = record {
    inside = last_lt pre (packed_any b deltas osize tsize) post a (omega arith);
    below = below;
    above = omega arith;
    sizes = fits.sizes;
    ascending = rw inputs_read fits.ascending;
    entries = λ ne. rw (inputs_read, entries_read ne) (indexed_packed b.inputs fits.ascending fits.bytes fits.few);
    targets = rw deltas_read fits.targets;
    useful = useful;
  }

  pub any_read : a ≤ root → Useful b.final n a root
      → node_at file v root a
      ≡ sound (record {
        first = first;
        final = b.final;
        final_output = b.final_output;
        transitions = transitions_of b.inputs b.outputs (map (target_of first) deltas);
      })
  any_read below useful =
      node_at_shape file v root a shape first (λ z. omega (arith, len_is)) shape_is first_is (is_sound below useful)
      ∙ rw (final_output_read, inputs_read, outputs_read, deltas_read)
