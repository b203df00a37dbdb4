-- Bytes copied one after the other to the front of a buffer: what a turn of such a loop knows.
--     Copied bytes n out₀ out i     the first i of n bytes stand at the front of out, and the rest of it is as given
--     copied_none, copied_step, copied_all      before the first turn, after a turn, after the last
-- Assumes nothing.
use Rattle.std.specs.Prelude.{◌≡◌, refl, List, ◌++◌, ℕ, ◌+◌, ◌≤◌, ◌<◌, length, get_or, take, drop, set}
use Rattle.std.proofs.Common.{◌∙◌, zero-add, add-one, arith, length-set}
use Rattle.std.proofs.Math.Seq.{paste-suc}

pub record Copied (bytes : List ℕ) (n : ℕ) (out₀ out : List ℕ) (i : ℕ) : Type 0 where
  pub within : i ≤ n
  pub len : length out ≡ length out₀
  pub is : out ≡ take i bytes ++ drop i out₀

pub copied_none : (bytes : List ℕ) (n : ℕ) (out : List ℕ) → Copied bytes n out out 0
copied_none bytes n out = record { within = omega arith; len = refl; is = refl }

pub copied_step : {bytes : List ℕ} {n : ℕ} {out₀ out : List ℕ} {i : ℕ} → i < n → i < length bytes → i < length out₀ → Copied bytes n out₀ out i
    → Copied bytes n out₀ (set out i (get_or bytes i 0)) (i + 1)
copied_step {bytes} {n} {out₀} {out} {i} l in_bytes in_out h = record {
  within = omega arith;
  len = length-set out i (get_or bytes i 0) ∙ h.len;
  is = rw (h.is, add-one) (simp zero-add at (paste-suc out₀ 0 bytes i 0 (omega arith) in_bytes));
}

pub copied_all : {bytes : List ℕ} {n : ℕ} {out₀ out : List ℕ} {i : ℕ} → n ≤ i → Copied bytes n out₀ out i → out ≡ take n bytes ++ drop n out₀
copied_all {bytes} {n} {out₀} {out} {i} past h = let e : i ≡ n = omega (arith, h.within) in rw (← e) h.is
