-- The count of bytes that holds a number, from its leading zero bits, is the packer's.
-- Assumes nothing.
use mathlib.Core.Path.{◌≡◌}
use Prim.Native.Nat.{ℕ, suc, ◌+◌, ◌-◌, ◌*◌, ◌/◌, ◌^◌, ◌<◌}
use native.Mathlib.Nat.{lt_of_lt_of_le, le_trans, lt_irrefl, lt_of_not-le}
use native.Mathlib.Omega.{arith}
use lib.Pow.{pow_mono}
use lib.Count.{count_leading_zeros, leading_top}
use Rattle.format.specs.Bytes.{SizeOf}
use Rattle.format.specs.Laws.BytesLaws.{pow_256_pow_2, size_of_pack, size_unique}
use Rattle.le_bytes.specs.Size.{PackedIn}

pub size_zero : SizeOf 0 1
size_zero = record { low = omega arith; high = omega arith; holds = omega arith; least = λ j l h. l }

pub size_is : (n : ℕ) → 0 < n → n < 2 ^ 64 → SizeOf n (8 - count_leading_zeros 64 n / 8)
size_is n pos fits =
    let t = leading_top 64 n pos fits in
    let top : ℕ = t.0 in
    let lz : ℕ = count_leading_zeros 64 n in
    let sum : lz + suc top ≡ 64 = t.1 in
    record {
      low = omega arith;
      high = omega arith;
      holds = rw pow_256_pow_2 (lt_of_lt_of_le t.3 (pow_mono (omega arith)));
      least = λ j l h.
          let h2 : n < 2 ^ (8 * j) = rw pow_256_pow_2 at h in
          let above : top < 8 * j = lt_of_not-le (λ g. lt_irrefl n (lt_of_lt_of_le h2 (le_trans (pow_mono g) t.2))) in
          omega arith;
    }

-- no two counts are least
pub packed_in : {n k : ℕ} → n < 2 ^ 64 → SizeOf n k → PackedIn n k
packed_in {n} fits size = record { is = size_unique size (size_of_pack n fits); low = size.low; high = size.high }
