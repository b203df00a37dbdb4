-- What packing a gathered record answers: its bytes, and never a refusal.
-- Assumes nothing.
use mathlib.Core.Path.{◌≡◌, sym, ap, ◌∙◌, subst}
use Rattle.std.specs.Prelude.{Ok, Err, Result, ℕ}
use Rattle.format.specs.declared.Refusal.{Refusal}
use mathlib.Core.List.{List}
use Prim.Native.Nat.{ℕ, ◌≤◌}
use native.Mathlib.Omega.{arith}
use borrow.Author.Tests.{le-leb}
use lib.ListN.{length, take, length-map}
use Rattle.buffers.specs.Put.{PutAt}
use Rattle.buffers.specs.PutLaws.{put_zero}
use Rattle.format.specs.declared.Transition.{Transition}
use Rattle.format.specs.Node.{Node}
use Rattle.format.specs.Paths.{fst_with}
use Rattle.node.specs.declared.Node as N
use Rattle.node.specs.Read.{meaning, transitions_in, Readable, Judges}
use Rattle.node.specs.ReadLaws.{length_node_transitions}
use Rattle.format.specs.Packed.{BuilderNode, Packing, written, packed}
use Rattle.node_compile.specs.Compile.{builder_with, answer_as, buffer_after}
use Rattle.node_compile.specs.Parts.{RecordFits, Fitted, fitting}
use Rattle.converting.specs.Converting.{record_by}
use Rattle.convert_size.specs.Sizes.{entry_in}
use Rattle.convert_size.specs.SingleLaws.{judged_at}
use Rattle.convert_node.specs.Packs.{Gathered, Packable, PackedFront, PackableAt}

-- a node that is packed has at most 256 transitions
pub few : {s : List ℕ} {n : N.Node} {first room : ℕ} {moved : List ℕ} → Readable s n → Packable (meaning s n) first moved room → n.ntrans ≤ 256
few {s} {n} r p =
    omega (arith, length_node_transitions s n r, p.sizable.fits.few, length-map (transitions_in s n) (λ (t : Transition). t.inp))

-- ---- a node that the code read by its form

module _ {s : List ℕ} {v root a : ℕ} {r : N.Node} (j : Judges s v root a (Ok r)) {first : ℕ} {moved : List ℕ} where
  pub judged_packable : {room : ℕ} → PackableAt (fst_with s v root) a first moved room → Packable (meaning s r) first moved room
  judged_packable ok = ok.each (meaning s r) (judged_at j)

-- ---- the bytes

-- bytes put at the front, by another name
pub front_put : {bs bs' out₀ out : List ℕ} {r : ℕ} → bs ≡ bs' → PutAt out₀ 0 bs out r → PackedFront bs' out₀ out r
front_put {bs} {out₀ = out₀} e p = rw (← e) (record { buffer = p.is ∙ put_zero out₀ bs; count = omega (arith, p.next) })

module _ (m : Node) {moved inputs outputs targets : List ℕ} (n : ℕ) (is : n ≡ length m.transitions) (g : Gathered m.transitions moved inputs outputs targets) where
  abbrev b : BuilderNode
  b = builder_with m.final m.final_output (take n inputs) (take n outputs) (take n targets)

  same : b ≡ record_by (entry_in moved) m
  same = rw (is, g.inputs_are, g.outputs_are, g.targets_are)

  pub pack_fits : {first room : ℕ} → Packable m first moved room → RecordFits first b
  pack_fits {first} p = subst (RecordFits first) (sym same) p.sizable.fits

  module _ {first : ℕ} {out₀ out : List ℕ} {r : Result ℕ Refusal} (p : Packable m first moved (length out₀)) (c : Fitted (packed first b) out₀ out r) where
    fitting_is : fitting (packed first b) (length out₀) ≡ written (packed first (record_by (entry_in moved) m))
    fitting_is =
        ap (λ (x : BuilderNode). fitting (packed first x) (length out₀)) same
        ∙ rw (le-leb (length (packed first (record_by (entry_in moved) m))) (length out₀) p.fits)

    answer_is_lem : r ≡ Ok (length (packed first (record_by (entry_in moved) m)))
    answer_is_lem = c.answer ∙ ap answer_as fitting_is

    pub pack_done : (k : ℕ) → r ≡ Ok k → PackedFront (packed first (record_by (entry_in moved) m)) out₀ out k
    pack_done k e = record { buffer = c.buffer ∙ ap (λ (x : Packing). buffer_after x out₀) fitting_is; count = let q = answer_is_lem in cc }

    pub pack_never : (k : Refusal) → r ≡ Err k → ⊥
    pack_never k e = let q = answer_is_lem in let z : ◌≡◌ {A = ℕ} 0 1 = cc in omega arith
