-- Laws of `state_for` and `one_for` of `Parts`.
--     length_state, length_one                 how many bytes; what is kept of the input decides, and not the input
--     length_state_by                          whether it is 0 decides
--     state_is_lem, next_for_is, one_for_is    they are the packer's bytes of the input
-- Assumes nothing.
use Rattle.std.specs.Prelude.{◌≡◌, refl, Bool, true, false, cond, List, [], ◌∷◌, ◌++◌, ℕ, ◌+◌, eqb, length}
use Rattle.std.proofs.Common.{ap, arith, length-append}
use Rattle.std.proofs.Math.Decide.{ℕ_discrete}
use borrow.Author.Tests.{eq-eqb, ne_eqb}
use Rattle.format.specs.Bytes.{bytes_of, pack_size}
use Rattle.format.specs.Laws.BytesLaws.{length_bytes_of}
use Rattle.format.specs.Packed.{output_size, sizes_of, input_bytes, packed_next, packed_one}
use Rattle.node_compile.specs.Parts.{state_bytes, Code, state_for, one_for}

pub length_state : (form idx rare form' rare' : ℕ) → length (state_for form idx rare) ≡ length (state_for form' idx rare')
length_state form idx rare form' rare' = go (eqb idx 0)
  where
    go : (t : Bool) → length (cond t (rare ∷ (form ∷ [])) ((form + idx) ∷ [])) ≡ length (cond t (rare' ∷ (form' ∷ [])) ((form' + idx) ∷ []))
    go true = refl
    go false = refl

pub length_state_by : (form idx rare : ℕ) → length (state_for form idx rare) ≡ cond (eqb idx 0) 2 1
length_state_by form idx rare = go (eqb idx 0)
  where
    go : (t : Bool) → length (cond t (rare ∷ (form ∷ [])) ((form + idx) ∷ [])) ≡ cond t 2 1
    go true = refl
    go false = refl

pub length_one : (idx rare out delta : ℕ) → length (one_for idx rare out delta) ≡ output_size out + pack_size delta + 1 + length (state_for 128 idx rare)
length_one idx rare out delta = go (state_for 128 idx rare)
  where
    go : (tail : List ℕ)
        → length (bytes_of (output_size out) out ++ (bytes_of (pack_size delta) delta ++ ((sizes_of (pack_size delta) (output_size out) ∷ []) ++ tail)))
        ≡ output_size out + pack_size delta + 1 + length tail
    go tail = simp (length-append, length_bytes_of) (omega arith)

module _ {inp idx rare : ℕ} (code : Code inp idx rare) where
  pub state_is_lem : (form : ℕ) → state_for form idx rare ≡ state_bytes form inp
  unfolding input_bytes
  state_is_lem form =
      elim (ℕ_discrete idx 0) [
        | yes z ↦ rw (← code.is, eq-eqb idx 0 z, code.rare_is z, z) (ap (λ (x : ℕ). inp ∷ (x ∷ [])) (omega arith))
        | no ne ↦ rw (← code.is, ne_eqb idx 0 ne)
      ]

  pub next_for_is : state_for 192 idx rare ≡ packed_next inp
  unfolding packed_next
  next_for_is = state_is_lem 192

  pub one_for_is : (out delta : ℕ) → one_for idx rare out delta ≡ packed_one inp out delta
  unfolding packed_one
  one_for_is out delta = rw (state_is_lem 128)
