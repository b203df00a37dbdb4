-- What a buffer is held to, and how answers are counted.
--     wanted_at s i         byte i of a buffer that is to hold the bytes s, and then what it held
--     Holds s buf          the buffer holds them
--     AllKept bs           each byte is what a buffer holds before it is lent
--     smaller n most       the smaller of the two
--     more_at c k           the counts with one more at place k, up to 2^64 - 1
--     no_counts            the counts before any record
--     tallied c kind t     the counts after a record of this kind: one more that was asked, and if alike one more that was answered so
-- Assumes nothing.
use Rattle.std.specs.Prelude.{◌≡◌, Bool, cond, List, ℕ, ◌+◌, ◌≤◌, ◌<◌, leb, ltb, length, get_or, set, replicate}
use Rattle.replay_list.specs.declared.Counts.{Counts}

-- 170 is what every buffer holds before it is lent
unfoldable pub wanted_at : List ℕ → ℕ → ℕ
wanted_at s i = cond (ltb i (length s)) (get_or s i 0) 170

pub record Holds (s buf : List ℕ) : Type 0 where
  pub fits : length s ≤ 4096
  pub bytes : (i : ℕ) → i < 4096 → get_or buf i 0 ≡ wanted_at s i

abbrev pub AllKept : List ℕ → Type 0
AllKept bs = (i : ℕ) → i < length bs → get_or bs i 0 ≡ 170

abbrev pub smaller : ℕ → ℕ → ℕ
smaller n most = cond (ltb n most) n most

unfoldable pub more_at : List ℕ → ℕ → List ℕ
more_at c k = cond (ltb (get_or c k 0) 18446744073709551615) (set c k (get_or c k 0 + 1)) c

abbrev pub no_counts : Counts
no_counts = record { asked = replicate 8 0; alike = replicate 8 0 }

-- a kind from 8 on is none, and is counted as 0
unfoldable pub tallied : Counts → ℕ → Bool → Counts
tallied c kind alike =
    cond (leb 8 kind)
    (record { asked = more_at c.asked 0; alike = c.alike })
    (record { asked = more_at c.asked kind; alike = cond alike (more_at c.alike kind) c.alike })
