-- What the parts of a start answer around its walk, against `R.start` (document 01, "A reading").
--     pending_if c j                the pending empty key of a file whose root is judged j, where the bound lets it by
--     pending_from f lo             the same of a start on a file that opens
--     walk_from f lo                what its walk along the lower bound finds
--     reading_at len b n empty w    the reading that the walk w gives
--     start_from f lo hi            a start on a file that opens
--     BlankTold s version          version 0 stands for no bytes
-- Assumes nothing.
use Rattle.std.specs.Prelude.{◌≡◌, Bool, cond, List, [], ℕ, ◌<◌, eqb, length}
use Rattle.std.proofs.Math.Option.{Option, none, some}
use Rattle.format.specs.Limits.{BOUND}
use Rattle.format.specs.Node.{Judgement}
use Rattle.format.specs.Paths.{Fst, node_in}
use Rattle.format.specs.Strings as S
use Rattle.reading.specs.Reading as R
use Rattle.reading.specs.Reading.{on_node, got, bounds_test, started_at, pending_at, is_inclusive, bound_bytes}

abbrev pub pending_if : Bool → Judgement → Option ℕ
pending_if c j = cond c (on_node j (λ m. cond m.final (some m.final_output) none) none) none

abbrev pub reading_at : ℕ → S.Bound → ℕ → Option ℕ → R.Sought → R.Started
reading_at len b n empty (got s) = R.started (record { len = len; bound = b; bound_len = n; empty = empty; total = 0; levels = s })
reading_at len b n empty (R.Sought.halted k) = R.Started.refused k

abbrev pub pending_from : Fst → S.Bound → Option ℕ
pending_from f lo = cond (eqb (length f.bytes) 0) none (pending_at lo (node_in f f.root))

-- a file without bytes has no node to enter
abbrev pub walk_from : Fst → S.Bound → R.Sought
walk_from f lo = cond (eqb (length f.bytes) 0) (got []) (R.seek f (is_inclusive lo) f.root 0 0 [] (bound_bytes lo))

abbrev pub start_from : Fst → S.Bound → S.Bound → R.Started
start_from f lo hi = cond (bounds_test lo hi) (started_at f.bytes hi (pending_from f lo) (walk_from f lo)) (R.Started.refused BOUND)

-- the version that opening read of the bytes s is 0 exactly where there are none
pub record BlankTold (s : List ℕ) (version : ℕ) : Type 0 where
  pub blank : version ≡ 0 → length s ≡ 0
  pub some : ¬ (version ≡ 0) → 0 < length s
