-- Where a listing begins.
--     Begins s ..            the answer and the three tables of beginning a listing
-- Assumes nothing.
use Rattle.std.specs.Prelude.{◌≡◌, List, ℕ, ◌≤◌, ◌<◌, length, Ok, Err, Result}
use Rattle.format.specs.declared.Refusal.{Refusal}
use Rattle.format.specs.Limits.{LARGE}
use Rattle.format.specs.Strings.{unbounded}
use Rattle.counting.specs.CountOutcomes.{CountRefusedFor, Counts}
use Rattle.plain.specs.Plain.{begun, start_plain}
use Rattle.stream.specs.Plains.{plain_is}
use Rattle.stream.specs.declared.Plain.{Plain}

-- over 4,096 bytes LARGE, with the tables as given; else the answer of counting the keys, and where they are counted the unbounded reading
pub data Begins (s d₀ s₀ c₀ d t c : List ℕ) (r : Result Plain Refusal) : Type 0 where
  too_large : 4096 < length s → r ≡ Err LARGE → d ≡ d₀ → t ≡ s₀ → c ≡ c₀ → Begins s d₀ s₀ c₀ d t c r
  not_counted : length s ≤ 4096 → (n : Refusal) → r ≡ Err n → CountRefusedFor s d₀ s₀ c₀ d t c n → Begins s d₀ s₀ c₀ d t c r
  begins : length s ≤ 4096 → (p : Plain) → r ≡ Ok p → Counts s d₀ s₀ c₀ d t c → start_plain s unbounded unbounded c ≡ begun (plain_is p)
      → Begins s d₀ s₀ c₀ d t c r
