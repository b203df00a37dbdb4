-- What the pops answer, and when a level can be left by its next transition.
--     pop_seen s .. r        what the pops answered, read against the four arrays
--     Ready s v root a i m  the node m was judged at the address a, and has a transition i
--     Pops s v root ..      the pops' contract
-- Assumes nothing.
use Rattle.std.specs.Prelude.{◌≡◌, List, ℕ, ◌<◌, get_or, Ok, Err, Some, None, Result, Option}
use Rattle.format.specs.Limits.{max_levels}
use Rattle.format.specs.Node.{sound}
use Rattle.format.specs.Paths.{fst_with, node_in}
use Rattle.node.specs.declared.Node.{Node}
use Rattle.node.specs.declared.Unsound.{Unsound}
use Rattle.node.specs.Read.{meaning, Readable}
use Rattle.reading.specs.Reading as R
use Rattle.reading.specs.Reading.{top, used_up, bad, pop}
use Rattle.stream_start.specs.Views.{level_at, stack_is}

abbrev pub pop_seen : List ℕ → List ℕ → List ℕ → List ℕ → List ℕ → Result (Option (ℕ × Node)) Unsound → R.Popped
pop_seen s xs is ps os (Ok (Some (k, m))) = top (level_at k xs is ps os) (meaning s m) (stack_is k xs is ps os)
pop_seen s xs is ps os (Ok None) = used_up
pop_seen s xs is ps os (Err u) = bad

pub record Ready (s : List ℕ) (v root a i : ℕ) (m : Node) : Type 0 where
  pub node : node_in (fst_with s v root) a ≡ sound (meaning s m)
  pub readable : Readable s m
  pub next : i < m.ntrans

-- the pops see neither the inputs nor the sums
pub record Pops (s : List ℕ) (v root : ℕ) (xs ps : List ℕ) (levels : ℕ) (r : Result (Option (ℕ × Node)) Unsound) : Type 0 where
  pub seen : (is os : List ℕ) → pop_seen s xs is ps os r ≡ pop (fst_with s v root) (stack_is levels xs is ps os)
  pub low : (k : ℕ) (m : Node) → r ≡ Ok (Some (k, m)) → k < max_levels
  pub ready : (k : ℕ) (m : Node) → r ≡ Ok (Some (k, m)) → Ready s v root (get_or xs k 0) (get_or ps k 0) m
