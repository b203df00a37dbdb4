-- A packed node reads back as its record (document 01: "a packed node reads back as its record").
-- The bytes that are packed for a record at F, standing at F in any file of version 2 or 3 whose root is at or above the node's
-- last byte, are a sound node, and that node is the record. A record that is neither final nor has a transition is sound only at
-- the root, hence `Useful`. The record that packs to nothing is the node at address 0.
-- Assumes nothing.
use Rattle.std.specs.Prelude.{◌≡◌, Bool, true, false, ℕ, ◌+◌, ◌≤◌, ◌<◌, get_or}
use Rattle.std.proofs.Math.Path.{refl, ap}
use Rattle.std.proofs.Common.{sym, ap₂, ◌∙◌, arith}
use mathlib.Core.List.{List, [], ◌∷◌, ◌++◌, map}
use Rattle.std.proofs.Math.ListN.{length, length-append}
use Rattle.format.specs.Bytes.{largest}
use Rattle.format.specs.Node.{transitions_of, Useful, sound, empty_final, node_at}
use Rattle.format.specs.Laws.NodeLaws.{node_at_zero}
use Rattle.format.specs.Packed.{BuilderNode, Ranges, TargetOk, TargetsOk, RecordOk, delta_of, output_size, delta_size, packs_to_nothing, has_one, leads_next, packed, node_addr, record_node}
use Rattle.format.specs.Laws.PackedLaws.{one_means, leads_next_means, last_addr_ok, nothing_means, packed_next_is, packed_one_is, packed_any_is, one_not_nothing, output_size_le, delta_size_le, delta_size_pos, length_deltas, outputs_hold, final_output_holds, deltas_hold}
use Rattle.format.specs.RoundTrip.ReadBack.{one_element, targets_of_deltas, targets_right_of_deltas}
use Rattle.format.specs.RoundTrip.RoundTripNext.{next_read}
use Rattle.format.specs.RoundTrip.RoundTripOne.{one_read}
use Rattle.format.specs.RoundTrip.RoundTripAny.{AnyFits, any_read}

module _ (first : ℕ) (b : BuilderNode) (pre post : List ℕ) (v root : ℕ) (ranges : Ranges b) (ok : RecordOk first b) (at : length pre ≡ first)
    (version : 2 ≤ v) where
  -- the record that packs to nothing
  nothing_read : packs_to_nothing b ≡ true → node_at (pre ++ (packed first b ++ post)) v root 0 ≡ sound (record_node first b)
  unfolding transitions_of
  nothing_read nothing =
      node_at_zero (pre ++ (packed first b ++ post)) v root (rw length-append (omega (arith, ok.first_low)))
      ∙ ap sound (sym empty)
    where
      no_transitions : (is os ts : List ℕ) → length is ≡ 0 → transitions_of is os ts ≡ []
      no_transitions [] os ts e = refl
      no_transitions (i ∷ is) os ts e = absurd (omega arith)

      empty : record_node first b ≡ empty_final
      empty =
          let is = nothing_means b nothing in
          rw (nothing, is.0, is.1.1, no_transitions b.inputs b.outputs b.targets is.1.0)

  -- a record with one transition that is not final
  record_one : has_one b ≡ true
      → record_node first b
      ≡ record {
        first = first;
        final = false;
        final_output = 0;
        transitions = transitions_of (get_or b.inputs 0 0 ∷ []) (get_or b.outputs 0 0 ∷ []) (get_or b.targets 0 0 ∷ []);
      }
  record_one one =
      let is = one_means b one in
      let transitions : transitions_of b.inputs b.outputs b.targets
      ≡ transitions_of (get_or b.inputs 0 0 ∷ []) (get_or b.outputs 0 0 ∷ []) (get_or b.targets 0 0 ∷ []) =
      ap (λ (l : List ℕ). transitions_of l b.outputs b.targets) (one_element b.inputs is.1)
      ∙ ap₂ (transitions_of (get_or b.inputs 0 0 ∷ [])) (one_element b.outputs (ok.outputs_len ∙ is.1)) (one_element b.targets (ok.targets_len ∙ is.1)) in
      rw (one_not_nothing b one, is.0, ok.final_ok is.0, transitions)

  target_ok : has_one b ≡ true → TargetOk first (get_or b.targets 0 0)
  unfolding TargetsOk
  target_ok one = ok.targets_ok 0 (omega (arith, ok.targets_len, (one_means b one).1))

  byte : has_one b ≡ true → get_or b.inputs 0 0 < 256
  byte one = ranges.input_lt 0 (omega (arith, (one_means b one).1))

  next_case : has_one b ≡ true → leads_next first b ≡ true → (a : ℕ) → a + 1 ≡ first + length (packed first b) → a ≤ root
      → node_at (pre ++ (packed first b ++ post)) v root a ≡ sound (record_node first b)
  next_case one next a here below =
      let is = packed_next_is first b one next in
      let means = leads_next_means first b next in
      let last = last_addr_ok first (get_or b.targets 0 0) ok.first_low (target_ok one) means.0 in
      ap (λ (l : List ℕ). node_at (pre ++ (l ++ post)) v root a) is
      ∙ next_read pre post first (get_or b.inputs 0 0) v root a at last.0 (byte one) (here ∙ ap (λ (l : List ℕ). first + length l) is) below
      ∙ ap sound (sym (record_one one ∙ rw (means.1, last.1)))

  one_case : has_one b ≡ true → leads_next first b ≡ false → (a : ℕ) → a + 1 ≡ first + length (packed first b) → a ≤ root
      → node_at (pre ++ (packed first b ++ post)) v root a ≡ sound (record_node first b)
  one_case one other a here below =
      let is = packed_one_is first b one other in
      ap (λ (l : List ℕ). node_at (pre ++ (l ++ post)) v root a) is
      ∙ one_read pre post first (get_or b.inputs 0 0) (get_or b.outputs 0 0) (get_or b.targets 0 0) v root a at ok.first_low ok.first_high
      (byte one) (ranges.output_lt 0 (omega (arith, ok.outputs_len, (one_means b one).1))) (target_ok one)
      (here ∙ ap (λ (l : List ℕ). first + length l) is) below
      ∙ ap sound (sym (record_one one))

  fits : AnyFits b (map (delta_of first) b.targets) (output_size (largest (b.final_output ∷ b.outputs))) (delta_size (map (delta_of first) b.targets)) first
  fits =
      let ds : List ℕ = map (delta_of first) b.targets in
      let deltas_len : length ds ≡ length b.inputs = length_deltas first b.targets ∙ ok.targets_len in
      record {
        few = ok.few;
        outputs_len = ok.outputs_len;
        deltas_len = deltas_len;
        bytes = ranges.input_lt;
        ascending = ok.ascending;
        outputs_fit = outputs_hold b ranges;
        deltas_fit = deltas_hold first b.targets ok.first_high;
        final_fits = final_output_holds b ranges;
        final_ok = ok.final_ok;
        sizes = record {
          tsize_le = delta_size_le ds;
          osize_le = output_size_le (largest (b.final_output ∷ b.outputs));
          tsize_pos = λ _ some. delta_size_pos ds (omega arith);
        };
        targets = targets_right_of_deltas first b.targets ok.targets_ok;
      }

  any_case : packs_to_nothing b ≡ false → has_one b ≡ false → (a : ℕ) → a + 1 ≡ first + length (packed first b) → a ≤ root
      → Useful b.final (length b.inputs) a root → node_at (pre ++ (packed first b ++ post)) v root a ≡ sound (record_node first b)
  any_case some many a here below useful =
      let is = packed_any_is first b some many in
      ap (λ (l : List ℕ). node_at (pre ++ (l ++ post)) v root a) is
      ∙ any_read pre post b (map (delta_of first) b.targets) (output_size (largest (b.final_output ∷ b.outputs)))
      (delta_size (map (delta_of first) b.targets)) first v root a fits at ok.first_low version (here ∙ ap (λ (l : List ℕ). first + length l) is) below useful
      ∙ rw (some, targets_of_deltas first b.targets ok.targets_ok)

-- every record that is not refused, at every F
pub round_trip : (first : ℕ) (b : BuilderNode) (pre post : List ℕ) (v root : ℕ) → Ranges b → RecordOk first b → length pre ≡ first → 2 ≤ v
    → node_addr first b ≤ root → Useful b.final (length b.inputs) (node_addr first b) root
    → node_at (pre ++ (packed first b ++ post)) v root (node_addr first b) ≡ sound (record_node first b)
round_trip first b pre post v root ranges ok at version below useful = go (packs_to_nothing b) refl (has_one b) refl (leads_next first b) refl
  where
    addr_is : packs_to_nothing b ≡ false → node_addr first b + 1 ≡ first + length (packed first b)
    addr_is some = rw some (omega (arith, ok.first_low))

    go : (nothing : Bool) → packs_to_nothing b ≡ nothing → (one : Bool) → has_one b ≡ one → (next : Bool) → leads_next first b ≡ next
        → node_at (pre ++ (packed first b ++ post)) v root (node_addr first b) ≡ sound (record_node first b)
    go true nothing one is_one next is_next =
        let zero_addr : node_addr first b ≡ 0 = rw nothing in
        ap (node_at (pre ++ (packed first b ++ post)) v root) zero_addr ∙ nothing_read first b pre post v root ranges ok at version nothing
    go false some true one true next = next_case first b pre post v root ranges ok at version one next (node_addr first b) (addr_is some) below
    go false some true one false other = one_case first b pre post v root ranges ok at version one other (node_addr first b) (addr_is some) below
    go false some false many next is_next =
        any_case first b pre post v root ranges ok at version some many (node_addr first b) (addr_is some) below useful
