-- The answer and the key buffer of a search by value, for each answer of the definition.
-- Assumes nothing.
use mathlib.Core.Path.{◌≡◌}
use Rattle.std.specs.Prelude.{Ok, Err, Some, None, ℕ}
use Rattle.format.specs.declared.Refusal.{Refusal}
use mathlib.Core.List.{List, ◌++◌}
use Prim.Native.Nat.{ℕ, ◌≤◌}
use lib.ListN.{length, take, drop}
use lib.Seq.{length-take-le}
use Rattle.format.specs.Lookup as L
use Rattle.format.specs.Lookup.{found}
use Rattle.lookup_search.specs.KeyAnswers.{KeyWritten}

pub written_none : (w : L.KeyAnswer) (buf : List ℕ) → w ≡ L.KeyAnswer.none → KeyWritten w buf buf (Ok None)
written_none w buf e = record { answer = rw e; buffer = rw e }

pub written_refused : (w : L.KeyAnswer) (buf : List ℕ) (n : Refusal) → w ≡ L.KeyAnswer.refused n → KeyWritten w buf buf (Err n)
written_refused w buf n e = record { answer = rw e; buffer = rw e }

pub written_key : (w : L.KeyAnswer) (path buf₀ buf : List ℕ) (n : ℕ) → w ≡ found (take n path) → n ≤ length path → buf ≡ take n path ++ drop n buf₀ → KeyWritten w buf₀ buf (Ok (Some n))
written_key w path buf₀ buf n e fits is =
    let len = length-take-le n path fits in
    record { answer = rw (e, len); buffer = rw (e, len) is }
