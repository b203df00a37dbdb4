-- Sums that may pass the limit: a total raised by one number after another is the total of their largest.
-- Assumes nothing.
use Rattle.std.specs.Prelude.{◌≡◌, ℕ, ◌≤◌, ◌<◌, max, Option, Some, None}
use Rattle.std.proofs.Common.{◌∙◌, arith, le-leb}
use Rattle.std.proofs.Math.Decide.{dec_le}
use Rattle.std.proofs.lemmas.Bool.{lt-leb}
use Rattle.format.specs.Limits.{max_sum}
use Rattle.admission_node.specs.Entries.{total_as, raised_by}

pub total_of_le : (n : ℕ) → n ≤ max_sum → Some n ≡ total_as n
total_of_le n h = rw (le-leb n max_sum h)

pub raised_total : (n x : ℕ) → raised_by (total_as n) x ≡ total_as (max n x)
raised_total n x =
    elim (dec_le n max_sum) [
      | yes p ↦ elim (dec_le x max_sum) [
        | yes q ↦ rw (le-leb n max_sum p, le-leb x max_sum q) (rw (le-leb (max n x) max_sum (omega arith)))
        | no q ↦ rw (le-leb n max_sum p, lt-leb x max_sum (omega arith)) (rw (lt-leb (max n x) max_sum (omega arith)))
      ]
      | no p ↦ rw (lt-leb n max_sum (omega arith)) (rw (lt-leb (max n x) max_sum (omega arith)))
    ]

-- a total within the limit, or past it
pub total_cases : {X : Type 0} (n : ℕ) (t : Option ℕ) → t ≡ total_as n → (n ≤ max_sum → t ≡ Some n → X) → (max_sum < n → t ≡ None → X) → X
total_cases n t e f g =
    elim (dec_le n max_sum) [
      | yes p ↦ f p (e ∙ rw (le-leb n max_sum p))
      | no p ↦ g (omega arith) (e ∙ rw (lt-leb n max_sum (omega arith)))
    ]
