-- The length of a node with any number of transitions, from the sizes of its parts.
--     any_sized                 it is that of the packed node
--     nothing_is, one_is        which form the node packs to, by what the code tests
--     Seen, seen-..             what a turn of the loop over the transitions knows
-- Assumes nothing.
use mathlib.Core.Path.{◌≡◌, refl, sym, ap, ◌∙◌}
use mathlib.Core.Bool.{Bool, true, false, cond, not, ◌&&◌, false≢true}
use mathlib.Core.List.{List, [], ◌∷◌, map}
use Prim.Native.Nat.{ℕ, ◌+◌, ◌-◌, ◌*◌, ◌≤◌, ◌<◌}
use native.Mathlib.Omega.{arith}
use borrow.Author.Tests.{eqb-true}
use lib.Dec.{ltb, eqb}
use lib.ListN.{length, length-map}
use Rattle.format.specs.declared.Transition.{Transition}
use Rattle.format.specs.Bytes.{pack_size, largest}
use Rattle.format.specs.Node.{Node, end_len, index_len, transition_at}
use Rattle.format.specs.Packed.{BuilderNode, delta_of, output_size, delta_size, head_of, packed_any, packs_to_nothing, has_one, packed}
use Rattle.format.specs.Laws.PackedLaws.{length_deltas, get_d_deltas, delta_size_is, packed_any_is}
use Rattle.node_compile.specs.Parts.{any_len}
use Rattle.node_compile.specs.CompileLaws.{any_len_is}
use Rattle.converting.specs.Converting.{record_by}
use Rattle.converting.specs.Laws.LayLaws.{get_d_map_lt}
use Rattle.convert_size.specs.declared.Most.{Most}
use Rattle.convert_size.specs.Sizes.{entry_in, Sizable, Mosts}
use Rattle.convert_size.specs.SingleLaws.{Single}
use Rattle.convert_size.proofs.Largest.{LargestFrom, largest_none, largest_step, largest_all, largest_cons}
use Rattle.std.proofs.lemmas.Bool.{and_parts}

-- ---- the length of a node of the forms 00 and 01

-- the bytes of all deltas: none where there is none, whatever one takes
deltas_len : (ds : List ℕ) (n : ℕ) → n ≡ length ds → n * pack_size (largest ds) ≡ n * delta_size ds
unfolding delta_size
deltas_len [] n is = rw is
deltas_len (d ∷ ds) n is = rw (delta_size_is (d ∷ ds) (omega arith))

module _ {m : Node} {first : ℕ} {moved : List ℕ} (ok : Sizable m first moved) where
  abbrev b : BuilderNode
  b = record_by (entry_in moved) m

  pub any_sized : {r : Most} (n osize tsize : ℕ) → packs_to_nothing b ≡ false → has_one b ≡ false → n ≡ length m.transitions → Mosts m first moved r
      → osize ≡ output_size r.output → tsize ≡ pack_size r.delta → any_len m.final n osize tsize ≡ length (packed first b)
  any_sized {r} n osize tsize some many is_n most is_o is_t =
      let count : n ≡ length b.inputs = is_n ∙ sym (length-map m.transitions (λ (t : Transition). t.inp)) in
      let o : osize ≡ output_size (largest (b.final_output ∷ b.outputs)) = is_o ∙ ap output_size most.output_is in
      let deltas : n ≡ length (map (delta_of first) b.targets) =
      is_n ∙ sym (length-map m.transitions (λ (t : Transition). entry_in moved t.addr)) ∙ sym (length_deltas first b.targets) in
      let t : n * tsize ≡ n * delta_size (map (delta_of first) b.targets) =
      ap (λ (x : ℕ). n * x) (is_t ∙ ap pack_size most.delta_is) ∙ deltas_len (map (delta_of first) b.targets) n deltas in
      ap (λ (x : ℕ). end_len m.final osize + n * osize + x + n + index_len 3 n + 1 + length (head_of m.final n)) t
      ∙ ap (λ (x : ℕ). any_len m.final x osize (delta_size (map (delta_of first) b.targets))) count
      ∙ any_len_is first b osize (delta_size (map (delta_of first) b.targets)) ok.fits
      ∙ ap (λ (x : ℕ). length (packed_any b (map (delta_of first) b.targets) x (delta_size (map (delta_of first) b.targets)))) o
      ∙ ap (λ (l : List ℕ). length l) (sym (packed_any_is first b some many))

-- ---- the forms, by what the code tests

not-true : (t : Bool) → not t ≡ true → t ≡ false
not-true true e = absurd (false≢true e)
not-true false e = refl

module _ (m : Node) (moved : List ℕ) (n : ℕ) (is_n : n ≡ length m.transitions) where
  inputs_count : n ≡ length (record_by (entry_in moved) m).inputs
  inputs_count = is_n ∙ sym (length-map m.transitions (λ (t : Transition). t.inp))

  pub nothing_is : (m.final && (eqb n 0 && eqb m.final_output 0)) ≡ packs_to_nothing (record_by (entry_in moved) m)
  nothing_is = ap (λ (x : ℕ). m.final && (eqb x 0 && eqb m.final_output 0)) inputs_count

  pub one_is : (not m.final && eqb n 1) ≡ has_one (record_by (entry_in moved) m)
  one_is = ap (λ (x : ℕ). not m.final && eqb x 1) inputs_count

  pub one_single : (not m.final && eqb n 1) ≡ true → Single m (transition_at m.transitions 0).inp
  one_single e =
      let parts = and_parts (not m.final) (eqb n 1) e in
      record { final = not-true m.final parts.0; one = sym is_n ∙ eqb-true n 1 parts.1; input = refl }

-- ---- the loop over the transitions, from the last down

-- those from i on are seen
pub record Seen (m : Node) (first : ℕ) (moved : List ℕ) (output delta i : ℕ) : Type 0 where
  pub outputs : LargestFrom (record_by (entry_in moved) m).outputs output i
  pub deltas : LargestFrom (map (delta_of first) (record_by (entry_in moved) m).targets) delta i

outputs_count : (m : Node) (moved : List ℕ) → length (record_by (entry_in moved) m).outputs ≡ length m.transitions
outputs_count m moved = length-map m.transitions (λ (t : Transition). t.out)

targets_count : (m : Node) (moved : List ℕ) → length (record_by (entry_in moved) m).targets ≡ length m.transitions
targets_count m moved = length-map m.transitions (λ (t : Transition). entry_in moved t.addr)

module _ {m : Node} {first : ℕ} {moved : List ℕ} where
  pub seen_none : (n : ℕ) → n ≡ length m.transitions → Seen m first moved 0 0 n
  seen_none n is =
      record {
        outputs = largest_none _ n (is ∙ sym (outputs_count m moved));
        deltas = largest_none _ n (is ∙ sym (targets_count m moved) ∙ sym (length_deltas first (record_by (entry_in moved) m).targets));
      }

  pub seen_step : {output delta i : ℕ} (output' delta' out to target d : ℕ) → 0 < i → i ≤ length m.transitions
      → out ≡ (transition_at m.transitions (i - 1)).out → to ≡ (transition_at m.transitions (i - 1)).addr → target ≡ entry_in moved to → d ≡ delta_of first target
      → output' ≡ cond (ltb out output) output out → delta' ≡ cond (ltb d delta) delta d
      → Seen m first moved output delta i → Seen m first moved output' delta' (i - 1)
  seen_step {i = i} output' delta' out to target d pos le is_out is_to is_target is_d is_output is_delta w =
      record {
        outputs = largest_step output' out pos (is_out ∙ sym (get_d_map_lt (λ (t : Transition). t.out) m.transitions (i - 1) (omega (arith, outputs_count m moved)))) is_output w.outputs;
        deltas = largest_step delta' d pos
            (is_d ∙ ap (delta_of first) (is_target ∙ ap (entry_in moved) is_to
            ∙ sym (get_d_map_lt (λ (t : Transition). entry_in moved t.addr) m.transitions (i - 1) (omega (arith, targets_count m moved))))
            ∙ sym (get_d_deltas first (record_by (entry_in moved) m).targets (i - 1)))
            is_delta w.deltas;
      }

  pub seen_all : {output delta i : ℕ} (r : Most) → i ≤ 0 → r.output ≡ cond (ltb m.final_output output) output m.final_output → r.delta ≡ delta
      → Seen m first moved output delta i → Mosts m first moved r
  seen_all r none is_output is_delta w =
      record {
        output_is = largest_cons m.final_output _ _ r.output (largest_all none w.outputs) is_output;
        delta_is = is_delta ∙ largest_all none w.deltas;
      }
