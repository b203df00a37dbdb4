-- What a turn answers, against a call of next where no empty key is pending.
--     view_at len hi n t levels        a reading with nothing pending
--     step_of f len hi n t levels      the call of next on it, in a file that opens, where the reading's state is right
--     TopAt f .. k, Tops f .. r       level k is the highest that has a transition left; what the pops answer
--     Turned f .. r                   the turn r and the arrays after it, for every total
-- Assumes nothing.
use Rattle.std.specs.Prelude.{◌≡◌, false, Option, Some, None, List, ℕ, ◌+◌, ◌<◌, length, get_or, take, drop, Ok, Err, Result}
use Rattle.std.proofs.Math.Option.{none}
use Rattle.format.specs.declared.Refusal.{Refusal}
use Rattle.format.specs.Limits.{max_levels}
use Rattle.format.specs.Node.{Node, sound}
use Rattle.format.specs.Paths.{Fst, node_in}
use Rattle.format.specs.Strings as S
use Rattle.reading.specs.Reading as R
use Rattle.reading.specs.Reading.{View, Level, key, end, after_pop, top, used_up, pop}
use Rattle.stream_start.specs.Views.{Arrays, level_at, stack_is}
use Rattle.range_bound.specs.Besides.{Beside}
use Rattle.range_node.specs.Entries.{SoundTo}
use Rattle.range_down.specs.declared.Next.{Next}

abbrev pub view_at : ℕ → S.Bound → ℕ → ℕ → List Level → View
view_at len hi n t levels = record { len = len; bound = hi; bound_len = n; empty = none; total = t; levels = levels }

abbrev pub step_of : Fst → ℕ → S.Bound → ℕ → ℕ → List Level → R.Step
step_of f len hi n t levels = after_pop f (view_at len hi n t levels) (pop f levels)

pub record TopAt (f : Fst) (xs ps : List ℕ) (levels k : ℕ) : Type 0 where
  pub low : k < levels
  pub node : Node
  pub is : node_in f (get_or xs k 0) ≡ sound node
  pub has : get_or ps k 0 < length node.transitions
  -- the pops see neither the inputs nor the sums
  pub pops : (is os : List ℕ) → pop f (stack_is levels xs is ps os) ≡ top (level_at k xs is ps os) node (stack_is k xs is ps os)

pub record Tops (f : Fst) (xs ps : List ℕ) (levels : ℕ) (r : Option ℕ) : Type 0 where
  pub at : (k : ℕ) → r ≡ Some k → TopAt f xs ps levels k
  pub none_left : r ≡ None → (is os : List ℕ) → pop f (stack_is levels xs is ps os) ≡ used_up

-- a key ends at its level, its bytes are the inputs after the first, and so many of them agree with the upper bound, whose bytes are b
pub data Turned (f : Fst) (len : ℕ) (hi : S.Bound) (b : List ℕ) (n t : ℕ) (levels : List Level) (xs is ps os : List ℕ) : Result (Option Next) Refusal → Type 0 where
  goes_on : (q : Next) (t' : ℕ) → q.level < max_levels → Arrays xs is ps os → SoundTo f xs (q.level + 1) → Beside hi b (drop 1 is) q.level q.same false
      → (step_of f len hi n t levels).answer ≡ key (take q.level (drop 1 is)) q.value
      → (step_of f len hi n t levels).reading ≡ view_at len hi n t' (stack_is (q.level + 1) xs is ps os) → Turned f len hi b n t levels xs is ps os (Ok (Some q))
  ends : (step_of f len hi n t levels).answer ≡ end → Turned f len hi b n t levels xs is ps os (Ok None)
  stops : (c : Refusal) → (step_of f len hi n t levels).answer ≡ R.Answer.refused c → Turned f len hi b n t levels xs is ps os (Err c)
