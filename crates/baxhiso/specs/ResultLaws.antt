-- A result that came from a call is read back from its bits: what every function for C uses to hand on what another answered.
-- Assumes nothing.
use Rattle.std.specs.Prelude.{◌≡◌, ℕ, ◌<◌, ◌^◌, ℤ, pos}
use Rattle.std.proofs.Common.{◌∙◌, to_z-of_z}
use Rattle.std.specs.Int.Signed.{mag}
use Rattle.std.specs.Int.{w32}
use mir.Val.{hbits, to_z, of_z}

pub result_back : (z : ℤ) → mag z < 2 ^ hbits w32 → to_z w32 (of_z w32 z) ≡ z
result_back z fits = to_z-of_z {w = w32} (record { sfits = fits })

pub code_is : (z : ℤ) {n : ℕ} → mag z < 2 ^ hbits w32 → z ≡ pos n → to_z w32 (of_z w32 z) ≡ pos n
code_is z fits e = result_back z fits ∙ e
