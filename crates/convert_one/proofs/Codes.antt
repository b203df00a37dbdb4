-- What the old state byte says of the one that is packed.
-- Assumes nothing.
use mathlib.Core.Path.{◌≡◌, sym, ap, ◌∙◌, subst}
use mathlib.Core.List.{List}
use Prim.Native.Nat.{ℕ, ◌-◌, ◌≤◌, ◌<◌}
use native.Mathlib.Omega.{arith}
use borrow.Author.Tests.{lt-ltb}
use lib.ListN.{get_or}
use Rattle.format.specs.CommonInputs.{common_inputs, common_inputs_inv, common_idx, common_input}
use Rattle.format.specs.Laws.CommonInputsLaws.{undone}
use Rattle.format.specs.Node.{low_bits, input_of}
use Rattle.format.specs.Laws.HeadLaws.{input_of_byte, input_of_common}
use Rattle.node_compile.specs.Parts.{Code}

-- what stands for an input is what is kept of it
pub common_idx_input : (c : ℕ) → 1 ≤ c → c < 64 → common_idx (common_input c) ≡ c
unfolding common_idx common_input
common_idx_input c low high =
    let place : get_or common_inputs (get_or common_inputs_inv (c - 1) 0) 0 ≡ c - 1 = (undone (c - 1) (omega arith)).place_byte in
    rw (place, lt-ltb (c - 1) 63 (omega arith)) (omega arith)

module _ (s : List ℕ) (a : ℕ) where
  -- the input has a byte of its own
  pub code_byte : {r x : ℕ} → low_bits s a ≡ 0 → Code (get_or s (a - 1) 0) r x → Code (input_of s a) r x
  code_byte {r} {x} z code = subst (λ (i : ℕ). Code i r x) (sym (input_of_byte s a z)) code

  -- the state byte keeps it
  pub code_low : ¬ (low_bits s a ≡ 0) → low_bits s a < 64 → Code (input_of s a) (low_bits s a) (get_or s (a - 1) 0)
  code_low ne lt =
      record {
        is = sym (ap common_idx (input_of_common s a ne) ∙ common_idx_input (low_bits s a) (omega (arith, ne)) lt);
        rare_is = λ z. absurd (ne z);
      }
