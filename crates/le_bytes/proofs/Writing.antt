-- A number written from its lowest byte up, over the bytes of a slice.
-- Assumes nothing.
use Rattle.std.specs.Prelude.{◌≡◌, List, ◌++◌, ℕ, ◌+◌, ◌-◌, ◌/◌, ◌%◌, ◌≤◌, ◌<◌, length, take, set}
use Rattle.std.proofs.Common.{◌∙◌, append_assoc, append-nil, arith, length-set, take_all}
use Rattle.std.proofs.lemmas.List.{take_more_set}
use Rattle.format.specs.Bytes.{bytes_of}
use Rattle.format.specs.Laws.BytesLaws.{bytes_of_step}

-- the first i of nbytes bytes are written, and what they leave of n is m
pub record Writing (n nbytes : ℕ) (bytes : List ℕ) (m i : ℕ) : Type 0 where
  pub len : length bytes ≡ nbytes
  pub is : take i bytes ++ bytes_of (nbytes - i) m ≡ bytes_of nbytes n

pub writing_step : {n nbytes : ℕ} {bytes : List ℕ} {m i : ℕ} → i < length bytes → Writing n nbytes bytes m i
    → Writing n nbytes (set bytes i (m % 256)) (m / 256) (i + 1)
writing_step {n} {nbytes} {bytes} {m} {i} lt w =
    let l = w.len in
    let less : nbytes - (i + 1) ≡ nbytes - i - 1 = omega arith in
    record {
      len = length-set bytes i (m % 256) ∙ w.len;
      is = rw (take_more_set bytes i (m % 256) lt, less, append_assoc) (rw (bytes_of_step (nbytes - i) m (omega arith)) at w.is);
    }

pub writing_all : {n nbytes : ℕ} {bytes : List ℕ} {m i : ℕ} → length bytes ≤ i → Writing n nbytes bytes m i → bytes ≡ bytes_of nbytes n
unfolding bytes_of
writing_all {n} {nbytes} {bytes} {m} {i} past w =
    let l = w.len in
    let none : nbytes - i ≡ 0 = omega arith in
    rw (none, take_all i bytes past, append-nil) at w.is
