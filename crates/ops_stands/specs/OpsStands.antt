-- Where the readings of an operation stand (document 02, N5), over calls of next on each file alone, keys and their order. `OpsStands op cs pre c` is the
-- claim about an operation, its files with the readings that their starts gave, the calls before and one call more; OpsStandsLaws proves it (`ops_stands`).
--
--     after an item with key k the reading of each file is the one that      `after_item`, by `StandsAt`: `calls`, each allowed, and `left`
--     calls of next, on its own, leave
--     when they stop at its first key that is not before k,                  `stopped`
--     or at "end" if there is none;
--     its total is the one of demand 3                                       `total_at_lem`, `total_ended`, `total_excluded`
--     after "end", of a union, an intersection or a symmetric difference:    `after_end`, `EndsAt`: no key stops these calls (`NoKey`)
--     every reading has ended;
--     of a difference: file 0's has, and the others stand at their           `EndsAt`: `AfterAll`; where file 0 has no key, that is their first
--     first key after file 0's last, or have ended
-- A refused call leaves every reading where it was (ops_calls `OpsExact`, `unchanged`).
-- Assumes nothing.
use Rattle.std.specs.Prelude.{◌≡◌, ℕ, ◌+◌}
use Rattle.std.proofs.Math.Option.{Option, none, some}
use mathlib.Core.List.{List, [], ◌∷◌, map, Memᴰ}
use Rattle.format.specs.Paths.{Fst, fst_of}
use Rattle.format.specs.Strings.{Before, NumberOf}
use Rattle.reading.specs.Reading.{Answer, key, end}
use Rattle.reading.specs.Demand.{Within, Extra, EmptyExcluded, capped, Call, Allowed}
use Rattle.plain.specs.Plain.{Plain, plain_after, answers_plain}
use Rattle.ops_spec.specs.Ops.{Op, union, intersection, difference, symmetric, Card, Indexed}
use Rattle.ops_spec.specs.OpsDemand.{Source, Has}
use Rattle.ops_spec.specs.OpsWholeLaws.{cards_of}
use Rattle.ops_calls.specs.OpsCalls as C
use Rattle.ops_calls.specs.OpsCalls.{OpsCall, call_item, cards_after}

-- ---- one file alone

-- the answers of calls that stop at the first key such that Stop, or at "end" if there is none; where they stopped
pub data Stopped (Stop : List ℕ → Type 0) : List Answer → Option (List ℕ) → Type 0 where
  at_end : Stopped Stop (end ∷ []) none
  at_key : {k : List ℕ} {v : ℕ} → Stop k → Stopped Stop (key k v ∷ []) (some k)
  earlier : {k : List ℕ} {v : ℕ} {xs : List Answer} {at : Option (List ℕ)} → ¬ Stop k → Stopped Stop xs at → Stopped Stop (key k v ∷ xs) at

abbrev pub fst_in : Source → Fst
fst_in c = fst_of c.file c.admitted.meta

-- p is the reading that calls of next on the file c leave when they stop so
pub record StandsAt (c : Source) (Stop : List ℕ → Type 0) (p : Plain) : Type 0 where
  pub calls : List (Call c.file)
  pub allowed : (d : Call c.file) → Memᴰ d calls → Allowed d
  -- the key at which they stop, or none at "end"
  pub at : Option (List ℕ)
  pub stopped : Stopped Stop (answers_plain c.reading calls) at
  pub left : p ≡ plain_after c.reading calls
  -- the total of demand 3
  pub total_at_lem : (k : List ℕ) → at ≡ some k
      → (n : ℕ) × NumberOf (λ x. Within (fst_in c) c.lower c.upper x × ¬ Before k x) n × (p.view.total ≡ capped n)
  pub total_ended : at ≡ none → ¬ EmptyExcluded (fst_in c) c.lower c.upper
      → (n e : ℕ) × NumberOf (Within (fst_in c) c.lower c.upper) n × Extra (fst_in c) c.lower c.upper e × (p.view.total ≡ capped (n + e))
  pub total_excluded : EmptyExcluded (fst_in c) c.lower c.upper → p.view.total ≡ 0

-- ---- the files of an operation

-- one reading for each file
pub data AllAt (Stop : List ℕ → Type 0) : List Source → List Plain → Type 0 where
  none_at : AllAt Stop [] []
  one_at : {c : Source} {cs : List Source} {p : Plain} {ps : List Plain} → StandsAt c Stop p → AllAt Stop cs ps → AllAt Stop (c ∷ cs) (p ∷ ps)

abbrev pub NoKey : List ℕ → Type 0
NoKey k = ⊥

-- k comes after every key that the file has between its bounds
abbrev pub AfterAll : Source → List ℕ → Type 0
AfterAll c k = (l : List ℕ) (v : ℕ) → Has c l v → Before l k

pub data FirstEnded : List Source → List Plain → Type 0 where
  first_ended : {c : Source} {cs : List Source} {p : Plain} {ps : List Plain} → StandsAt c NoKey p → AllAt (AfterAll c) cs ps → FirstEnded (c ∷ cs) (p ∷ ps)

abbrev pub EndsAt : Op → List Source → List Plain → Type 0
EndsAt union cs ps = AllAt NoKey cs ps
EndsAt intersection cs ps = AllAt NoKey cs ps
EndsAt symmetric cs ps = AllAt NoKey cs ps
EndsAt difference cs ps = FirstEnded cs ps

-- ---- the claim

abbrev pub readings_in : List Card → List Plain
readings_in ds = map (λ (d : Card). d.reading) ds

pub record OpsStands (op : Op) (cs : List Source) (pre : List (OpsCall cs)) (c : OpsCall cs) : Type 0 where
  pub after_item : (k : List ℕ) (ps : List Indexed) → (call_item op (cards_after op (cards_of cs) pre) c).answer ≡ C.item k ps
      → AllAt (λ x. ¬ Before x k) cs (readings_in (call_item op (cards_after op (cards_of cs) pre) c).cards)
  pub after_end : (call_item op (cards_after op (cards_of cs) pre) c).answer ≡ C.end → EndsAt op cs (readings_in (call_item op (cards_after op (cards_of cs) pre) c).cards)
