-- What filling the table of keys answers, and what it leaves in the three tables, in every case (document 02, N11).
--     FewKeys f               no reached node has more than 2^64 - 1 keys
--     ManyKeys f              a reached node has
--     CountRefusedFor s .. r  why the bytes s are refused with r, and the tables afterwards
--     Counts s ..             the bytes s are admitted and the table is filled; the tables afterwards
--     CountOutcome s ..       the answer
-- Of a table, the first name is as it was lent and the second as it is left: d₀ d the depths, s₀ t the sums, c₀ c the numbers of keys.
-- Assumes nothing.
use Rattle.std.specs.Prelude.{◌≡◌, List, ◌⊎◌, ℕ, ◌≤◌, ◌<◌, length, Ok, Err, Result, ⊤}
use Rattle.format.specs.declared.Refusal.{Refusal}
use Rattle.format.specs.Limits.{max_sum, SPACE, COUNT}
use Rattle.format.specs.Opening.{Meta, opened, refused, opening}
use Rattle.format.specs.Paths.{Fst, fst_of, Reached}
use Rattle.format.specs.Tables.{keys_from, InTable}
use Rattle.admission.specs.Outcome.{Holds, Wiped, RefusedFor, Admits}

-- ---- the numbers

unfoldable pub FewKeys : Fst → Type 0
FewKeys f = (a : ℕ) → Reached f a → keys_from f a ≤ max_sum

pub record ManyKeys (f : Fst) : Type 0 where
  pub at : ℕ
  pub in_table : InTable f at
  pub over : max_sum < keys_from f at

-- ---- the answer

-- opening's refusals and SPACE leave the tables as they were; admission's NODE, DEEP and SUM leave zeros over the file in its two and the
-- third as it was; COUNT, judged last, leaves zeros over the file in the third and the other two as admission left them
pub data CountRefusedFor (s d₀ s₀ c₀ d t c : List ℕ) (r : Refusal) : Type 0 where
  not_opened : opening s ≡ refused r → d ≡ d₀ → t ≡ s₀ → c ≡ c₀ → CountRefusedFor s d₀ s₀ c₀ d t c r
  no_space : (m : Meta) → opening s ≡ opened m → r ≡ SPACE → (length d₀ < length s) ⊎ ((length s₀ < length s) ⊎ (length c₀ < length s)) → d ≡ d₀ → t ≡ s₀ → c ≡ c₀
      → CountRefusedFor s d₀ s₀ c₀ d t c r
  not_admitted : (m : Meta) → opening s ≡ opened m → length s ≤ length d₀ → length s ≤ length s₀ → length s ≤ length c₀ → RefusedFor s d₀ s₀ d t r → c ≡ c₀
      → CountRefusedFor s d₀ s₀ c₀ d t c r
  too_many : (A : Admits s d₀ s₀ d t) → length s ≤ length c₀ → r ≡ COUNT → ManyKeys (fst_of s A.admitted.meta) → Wiped (length s) c₀ c
      → CountRefusedFor s d₀ s₀ c₀ d t c r

-- each reached node's address has the number of keys from the node
pub record Counts (s d₀ s₀ c₀ d t c : List ℕ) : Type 0 where
  pub admits : Admits s d₀ s₀ d t
  pub room_counts : length s ≤ length c₀
  pub few : FewKeys (fst_of s admits.admitted.meta)
  pub counts : Holds (keys_from (fst_of s admits.admitted.meta)) (InTable (fst_of s admits.admitted.meta)) (length s) c₀ c

abbrev pub CountOutcome : List ℕ → List ℕ → List ℕ → List ℕ → List ℕ → List ℕ → List ℕ → Result ⊤ Refusal → Type 0
CountOutcome s d₀ s₀ c₀ d t c (Ok tt) = Counts s d₀ s₀ c₀ d t c
CountOutcome s d₀ s₀ c₀ d t c (Err r) = CountRefusedFor s d₀ s₀ c₀ d t c r
