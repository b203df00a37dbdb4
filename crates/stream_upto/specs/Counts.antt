-- What the walk along a string answers, against `Numbers` (document 02, N11), and what it asks of the table.
--     HasEntry c a         the table c has an entry for the address a, where that is not 0
--     HasEntries c ts      for each target of the transitions ts
--     total_as n            the number n as a total: None where it passes 2^64 - 1
--     added_to t n          the total t with n more
--     turn_of f c a b n     the byte b looked for at the node at a, with n keys so far: where it leads, if it does, and the total
--     walked_as t           a tally as a walk along a string answers it
-- Assumes nothing.
use Rattle.std.specs.Prelude.{◌≡◌, cond, ℕ, ◌+◌, ◌<◌, leb, length, Option, Some, None, Ok, Err, Result}
use Rattle.format.specs.declared.Refusal.{Refusal}
use mathlib.Core.List.{List, Memᴰ}
use Rattle.format.specs.declared.Transition.{Transition}
use Rattle.format.specs.Limits.{max_sum}
use Rattle.format.specs.Node.{find_input, transition_at}
use Rattle.format.specs.Paths.{Fst, node_in}
use Rattle.format.specs.Tables.{one}
use Rattle.reading.specs.Reading.{on_node, on_search}
use Rattle.plain.specs.Numbers.{Tally, comes_to, refused, keys_below}
use Rattle.node.specs.declared.Unsound.{Unsound}

-- ---- what is asked of the table

-- address 0 counts one key and has no entry
pub record HasEntry (c : List ℕ) (a : ℕ) : Type 0 where
  pub inside : ¬ (a ≡ 0) → a < length c

pub record HasEntries (c : List ℕ) (ts : List Transition) : Type 0 where
  pub each : (t : Transition) → Memᴰ t ts → HasEntry c t.addr

-- ---- what the answers say

abbrev pub total_as : ℕ → Option ℕ
total_as n = cond (leb n max_sum) (Some n) None

abbrev pub added_to : Option ℕ → ℕ → Option ℕ
added_to (Some x) n = total_as (x + n)
added_to None n = None

unfoldable pub turn_of : Fst → List ℕ → ℕ → ℕ → ℕ → Result (Option ℕ × Option ℕ) Unsound
turn_of f c a b n =
    on_node (node_in f a)
    (λ m.
    on_search (find_input m.transitions b)
    (λ p. Ok (Some (transition_at m.transitions p).addr, total_as (n + (one m.final + keys_below c b m.transitions))))
    (λ p. Ok (None, total_as (n + (one m.final + keys_below c b m.transitions)))))
    (Err (record {}))

abbrev pub walked_as : Tally → Result (Option ℕ) Refusal
walked_as (comes_to n) = Ok (total_as n)
walked_as (refused n) = Err n
