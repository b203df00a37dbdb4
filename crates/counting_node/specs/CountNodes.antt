-- The keys from one node, by the entries of its targets.
--     added_to                 a sum that may pass the limit, and more
--     keys_by c final ts       the keys from a node, by the table c: 1 if it is final, and those from its transitions' targets
--     CountedAt               what counting at an address answers
-- Assumes nothing.
use Rattle.std.specs.Prelude.{◌≡◌, Bool, cond, ℕ, ◌+◌, ◌<◌, leb, length, Option, Some, None}
use mathlib.Core.List.{List, Memᴰ}
use Rattle.format.specs.declared.Transition.{Transition}
use Rattle.format.specs.Limits.{max_sum}
use Rattle.format.specs.Node.{Node, sound}
use Rattle.format.specs.Paths.{Fst, node_in}
use Rattle.format.specs.Tables.{one, sum_of, keys_at}
use Rattle.admission_node.specs.Entries.{total_as}

abbrev pub added_to : Option ℕ → ℕ → Option ℕ
added_to (Some b) x = cond (leb (b + x) max_sum) (Some (b + x)) None
added_to None x = None

unfoldable pub keys_by : List ℕ → Bool → List Transition → ℕ
unfolding sum_of
keys_by c final ts = one final + sum_of (λ t. keys_at c t.addr) ts

-- the targets lie within the table
pub record Inside (c : List ℕ) (ts : List Transition) : Type 0 where
  pub each : (t : Transition) → Memᴰ t ts → t.addr < length c

pub record CountedAt (f : Fst) (c : List ℕ) (a : ℕ) (r : Option ℕ) : Type 0 where
  pub each : (m : Node) → node_in f a ≡ sound m → r ≡ total_as (keys_by c m.final m.transitions)
