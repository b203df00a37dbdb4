-- The two tables undo each other: one computed test for each way, over all 256 bytes; and what follows for the code of an input.
-- Assumes nothing.
use Rattle.std.specs.Prelude.{◌≡◌, refl, Bool, true, false, cond, ◌&&◌, ℕ, ◌+◌, ◌-◌, ◌≤◌, ◌<◌, ltb, eqb, get_or}
use Rattle.std.proofs.Common.{sym, ap, ◌∙◌, arith, ltb-true, lt-ltb}
use Rattle.buffers.specs.Decide.{Decides, all_below}
use Rattle.buffers.specs.DecideLaws.{decides_below, decides_eq, decides_lt, decides_and}
use Rattle.format.specs.CommonInputs.{Undone, common_inputs, common_inputs_inv, common_idx, common_input}

abbrev undone_test : ℕ → Bool
undone_test b =
    eqb (get_or common_inputs_inv (get_or common_inputs b 0) 0) b
    && (eqb (get_or common_inputs (get_or common_inputs_inv b 0) 0) b && (ltb (get_or common_inputs b 0) 256 && ltb (get_or common_inputs_inv b 0) 256))

tested : all_below undone_test 256 ≡ true
unfolding common_inputs common_inputs_inv
tested = refl

-- both tables, over all 256 bytes
pub undone : (b : ℕ) → b < 256 → Undone b
undone b h =
    let all = decides_below undone_test _ (λ b.
    decides_and _ _ (decides_eq (get_or common_inputs_inv (get_or common_inputs b 0) 0) b)
    (decides_and _ _ (decides_eq (get_or common_inputs (get_or common_inputs_inv b 0) 0) b)
    (decides_and _ _ (decides_lt (get_or common_inputs b 0) 256) (decides_lt (get_or common_inputs_inv b 0) 256)))) 256 in
    let at = all.yes tested b h in
    record { byte_place = at.0; place_byte = at.1.0; place_lt = at.1.1.0; byte_lt = at.1.1.1 }

-- what the state byte keeps fits six bits
pub common_idx_lt : (b : ℕ) → common_idx b < 64
unfolding common_idx
common_idx_lt b = go (ltb (get_or common_inputs b 0) 63) refl
  where
    go : (t : Bool) → ltb (get_or common_inputs b 0) 63 ≡ t → cond t (get_or common_inputs b 0 + 1) 0 < 64
    go true e = let l = ltb-true (get_or common_inputs b 0) 63 e in omega arith
    go false e = omega arith

-- and gives the input back where it is not 0
pub common_input_idx : (b : ℕ) → b < 256 → ¬ (common_idx b ≡ 0) → common_input (common_idx b) ≡ b
unfolding common_idx common_input
common_input_idx b h ne = go (ltb (get_or common_inputs b 0) 63) ne
  where
    go : (t : Bool) → ¬ (cond t (get_or common_inputs b 0 + 1) 0 ≡ 0) → get_or common_inputs_inv (cond t (get_or common_inputs b 0 + 1) 0 - 1) 0 ≡ b
    go true ne = let e : get_or common_inputs b 0 + 1 - 1 ≡ get_or common_inputs b 0 = omega arith in rw e (undone b h).byte_place
    go false ne = absurd (ne refl)

pub common_input_lt : (c : ℕ) → 1 ≤ c → c < 64 → common_input c < 256
unfolding common_input
common_input_lt c low high = (undone (c - 1) (omega arith)).byte_lt
