-- The marks of a table without the links, entry by entry.
-- Assumes nothing.
use Rattle.std.specs.Prelude.{◌≡◌, List, ℕ, ◌%◌, length, get_or}
use Rattle.std.proofs.lemmas.List.{length-map}
use Rattle.std.proofs.Math.ListN.{get_or-map}
use Rattle.admission_walk.specs.Walks.{marks_in}

pub marks_at : (d : List ℕ) (j : ℕ) → get_or (marks_in d) j 0 ≡ get_or d j 0 % 8
marks_at d j = get_or-map (λ x. x % 8) d j 0

pub marks_long : (d : List ℕ) → length (marks_in d) ≡ length d
marks_long d = length-map d (λ x. x % 8)
