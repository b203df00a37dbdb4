-- Readings by pattern (document 02, N1; docs/FORMAT.md, "Readings by pattern"): start and next by definition, for every file, pattern,
-- bound and reading, admitted or made.
--     Pattern                    positions, each a byte or any byte (none), and whether any rest may follow
--     FitsStart, Fits            a string fits the pattern's start; it fits the pattern
--     start_test, fits_test        the same as tests that compute (FitLaws, `start_decides` and `fits_decides`)
--     turn_by, walk_by             a turn of the walk; the walk, which may follow any number of transitions
--     next_by s p r space         a call of next by the pattern p, with the reading r and a key buffer of space bytes
--     start_by s p lo hi          a start
-- What fits at a level is read off the levels' bytes: nothing is stored for it, so a reading made by hand has a meaning too.
-- Assumes nothing.
use Rattle.std.specs.Prelude.{◌≡◌, ◌⊎◌, Bool, true, false, cond, ◌&&◌, List, [], ◌∷◌, ℕ, zero, suc, ◌+◌, ◌≤◌, ◌<◌, ltb, leb, eqb, length, get_or}
use Rattle.std.proofs.Math.Option.{Option, none, some}
use Rattle.format.specs.declared.Refusal.{Refusal}
use Rattle.format.specs.Limits.{max_path, max_sum, NODE, DEEP, SUM, SPACE, STATE, PATTERN}
use Rattle.format.specs.Opening.{opening}
use Rattle.format.specs.Paths.{Fst, fst_of, node_in}
use Rattle.format.specs.Strings.{Bound}
use Rattle.reading.specs.Reading.{passes_test, Level, View, key_of, on_node, on_opened, Started, start, key, end, Step, refuse, moved, counted, next_trans, child, stepped, state_test}
use Rattle.reading.specs.Reading as R
use Rattle.reading.specs.Visits.{left}

pub record Pattern : Type 0 where
  pub positions : List (Option ℕ)
  pub rest : Bool

-- the position is any byte, or that byte
pub data FitsAt : Option ℕ → ℕ → Type 0 where
  any_byte : {b : ℕ} → FitsAt none b
  this_byte : {b : ℕ} → FitsAt (some b) b

-- s is as long as the pattern at most, or the pattern ends in any rest; and each byte of s that has a position fits it
pub record FitsStart (p : Pattern) (s : List ℕ) : Type 0 where
  pub short : (length s ≤ length p.positions) ⊎ (p.rest ≡ true)
  pub bytes : (i : ℕ) → i < length s → i < length p.positions → FitsAt (get_or p.positions i none) (get_or s i 0)

-- and s is not shorter than the pattern
pub record Fits (p : Pattern) (s : List ℕ) : Type 0 where
  pub start : FitsStart p s
  pub whole : length p.positions ≤ length s

-- ---- the same as tests that compute

abbrev pub at_test : Option ℕ → ℕ → Bool
at_test none b = true
at_test (some x) b = eqb x b

unfoldable pub start_test : List (Option ℕ) → Bool → List ℕ → Bool
start_test ps r [] = true
start_test [] r (b ∷ s) = r
start_test (p ∷ ps) r (b ∷ s) = at_test p b && start_test ps r s

unfoldable pub fits_test : List (Option ℕ) → Bool → List ℕ → Bool
fits_test [] r [] = true
fits_test [] r (b ∷ s) = r
fits_test (p ∷ ps) r [] = false
fits_test (p ∷ ps) r (b ∷ s) = at_test p b && fits_test ps r s

-- ---- the walk

-- a key, with its levels, its value and the total; the end, with the total; or a refusal
pub data WentBy : Type 0 where
  found : List Level → ℕ → ℕ → WentBy
  ended : ℕ → WentBy
  halted : Refusal → WentBy

-- one turn, again being the walk that goes on: NODE for the level, also where it is used up or can fit no more; such a level is popped;
-- from any other one transition is followed: DEEP, SUM for the running sum, NODE for the target, the upper bound, and, where the target is
-- final and the key fits, SUM with the final output
abbrev pub turn_by : Fst → Pattern → Bound → (List Level → ℕ → WentBy) → List Level → ℕ → WentBy
turn_by f p hi again [] t = ended t
turn_by f p hi again (l ∷ s) t =
    on_node (node_in f l.addr)
    (λ m.
    cond (ltb l.trans (length m.transitions) && start_test p.positions p.rest (key_of (l ∷ s)))
    (cond (ltb (length s) max_path)
    (cond (leb (l.out + (next_trans l m).out) max_sum)
    (on_node (node_in f (next_trans l m).addr)
    (λ n.
    cond (passes_test hi (key_of (child l m ∷ stepped l ∷ s))) (ended (counted t))
    (cond (n.final && fits_test p.positions p.rest (key_of (child l m ∷ stepped l ∷ s)))
    (cond (leb (l.out + (next_trans l m).out + n.final_output) max_sum)
    (found (child l m ∷ stepped l ∷ s) (l.out + (next_trans l m).out + n.final_output) (counted t))
    (halted SUM))
    (again (child l m ∷ stepped l ∷ s) (counted t))))
    (halted NODE))
    (halted SUM))
    (halted DEEP))
    (again s t))
    (halted NODE)

-- with so much fuel; `left` and one more is enough, so that the walk is a turn and the walk from there (WalkLaws, `walk_by_lem`)
unfoldable pub walk_to : ℕ → Fst → Pattern → Bound → List Level → ℕ → WentBy
walk_to zero f p hi s t = halted NODE
walk_to (suc n) f p hi s t = turn_by f p hi (walk_to n f p hi) s t

unfoldable pub walk_by : Fst → Pattern → Bound → List Level → ℕ → WentBy
unfolding walk_to
walk_by f p hi s t = walk_to (suc (left f s)) f p hi s t

abbrev pub after_walk : View → WentBy → Step
after_walk r (found s v t) = record { answer = key (key_of s) v; reading = moved r s t }
after_walk r (ended t) = record { answer = end; reading = moved r [] t }
after_walk r (halted n) = refuse r n

-- a pending empty key that does not fit is dropped, and the same call walks on
abbrev pub pending_by : Fst → Pattern → View → Option ℕ → Step
pending_by f p r (some v) =
    cond (passes_test r.bound [])
    (record { answer = end; reading = moved r [] r.total })
    (cond (fits_test p.positions p.rest [])
    (record { answer = key [] v; reading = moved r r.levels r.total })
    (after_walk r (walk_by f p r.bound r.levels r.total)))
pending_by f p r none = after_walk r (walk_by f p r.bound r.levels r.total)

-- opening's refusals, STATE, PATTERN, SPACE, then the walk
unfoldable pub next_by : List ℕ → Pattern → View → ℕ → Step
unfolding walk_by fits_test start_test
next_by s p r space =
    on_opened (opening s)
    (λ m.
    cond (state_test r (length s))
    (cond (leb (length p.positions) max_path)
    (cond (leb max_path space) (pending_by (fst_of s m) p r r.empty) (refuse r SPACE))
    (refuse r PATTERN))
    (refuse r STATE))
    (λ n. refuse r n)

-- opening's refusals, PATTERN, then a start without pattern
unfoldable pub start_by : List ℕ → Pattern → Bound → Bound → Started
start_by s p lo hi =
    on_opened (opening s)
    (λ m. cond (leb (length p.positions) max_path) (start s lo hi) (R.Started.refused PATTERN))
    (λ n. R.Started.refused n)
