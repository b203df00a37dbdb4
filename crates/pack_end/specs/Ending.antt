-- The end of packing, once no node is to be finished (document 02, N4).
--     EndAsked, Finishes   what the end asks of some table of cells, and leaves of every table; Ends: before the output is emptied
-- Assumes nothing.
use Rattle.std.specs.Prelude.{◌≡◌, Bool, List, ℕ, length, replicate, Err, Result}
use Rattle.format.specs.declared.Refusal.{Refusal}
use Rattle.packing.specs.Packing.{pack_answer}
use Rattle.pack_cell.specs.declared.Cell.{Cell}
use Rattle.pack_blank.specs.PackBlank.{Answers}
use Rattle.pack_intern.specs.declared.Placed.{Placed}
use Rattle.pack_step.specs.Standing.{Ended}

pub record EndAsked (s out : List ℕ) (t : Result Placed Refusal) : Type 0 where
  pub tables : Bool
  pub cells : ℕ
  pub table : List Cell
  pub ended : Ended s tables cells (length out) out table t

abbrev pub Ends : ℕ → List ℕ → List ℕ → Result Placed Refusal → List ℕ → Result ℕ Refusal → Type 0
Ends limit s out t out' r =
    (tables : Bool) (cells : ℕ) (table : List Cell) → Ended s tables cells (length out) out table t → Answers (pack_answer limit s tables cells (length out)) out' table r

pub record Finishes (limit : ℕ) (s out : List ℕ) (t : Result Placed Refusal) (out' : List ℕ) (r : Result ℕ Refusal) : Type 0 where
  pub answers : Ends limit s out t out' r
  pub emptied : (k : Refusal) → r ≡ Err k → out' ≡ replicate (length out) 0
