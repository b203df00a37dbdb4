-- A list of a C program's calls of `fst_raise_arrays`, `fst_seat_arrays` and `fst_dispatch_arrays`, each on the arrays that the one before left, and what
-- the program has in hand.
--     CEvent                 one call: what it was given and what it left
--     CMade a es             the calls es, from the arrays a, each as its contract says
--     last_arrays a es        the arrays after them
--     events_is es            the events by definition
--     told_then, told_by es    the unrefused dispatches, as a program reads them off its results: the seat that each served, or none where nobody waited
--     DispatchTells          the arrays hold the seats of these events, and a waiting seat is served in time, of what the program was told
-- A name with ₀ is what the caller handed in. Assumes nothing.
use Prim.{Unit}
use Rattle.std.specs.Prelude.{◌≡◌, true, ℕ, zero, suc, ◌≤◌, ℤ, pos, negsuc, length, take, replicate}
use Rattle.std.proofs.Math.Option.{Option, none, some}
use mathlib.Core.List.{List, [], ◌∷◌, map, Memᴰ}
use Rattle.turns.specs.Turns as T
use Rattle.turns.specs.Turns.{Event, raises, sits, dispatches, after}
use Rattle.turns.specs.TurnsDemand.{SeatsRight, ahead, Fair}
use Rattle.stream_arrays.specs.Arrays.{Held, held_plain}
use Rattle.seats_arrays.specs.SeatArrays.{Flat, flat_is}
use Rattle.baxhiso_seats.specs.Seats.{RaiseLeaves, SeatLeaves, DispatchLeaves}

-- ---- a call

pub record CDispatch : Type 0 where
  pub file : List ℕ
  pub before : List ℕ
  pub after : List ℕ
  pub seat₀ : ℕ
  pub seat : ℕ
  pub len₀ : ℕ
  pub len : ℕ
  pub value₀ : ℕ
  pub value : ℕ

-- last the arrays after the call and its result
pub data CEvent : Type 0 where
  raised : ℕ → Flat → ℤ → CEvent
  sat : ℕ → Held → ℕ → Flat → ℤ → CEvent
  dispatched : CDispatch → Flat → ℤ → CEvent

-- what the contracts say
abbrev pub CMadeOne : Flat → CEvent → Type 0
CMadeOne a (raised i b r) = RaiseLeaves (T.raise (flat_is a) i) a i b r
CMadeOne a (sat i h n b r) = SeatLeaves (T.seat (flat_is a) i (held_plain h (replicate 1 n))) a i h n b r
CMadeOne a (dispatched c b r) =
    DispatchLeaves (T.dispatch c.file (flat_is a) (length c.before)) a b c.before c.after c.seat₀ c.seat c.len₀ c.len c.value₀ c.value
    r

-- ---- a list of calls

abbrev pub arrays_of : CEvent → Flat
arrays_of (raised i b r) = b
arrays_of (sat i h n b r) = b
arrays_of (dispatched c b r) = b

abbrev pub CMade : Flat → List CEvent → Type 0
CMade a [] = Unit {0}
CMade a (e ∷ es) = CMadeOne a e × CMade (arrays_of e) es

abbrev pub last_arrays : Flat → List CEvent → Flat
last_arrays a [] = a
last_arrays a (e ∷ es) = last_arrays (arrays_of e) es

abbrev pub event_is : CEvent → Event
event_is (raised i b r) = raises i
event_is (sat i h n b r) = sits i (held_plain h (replicate 1 n))
event_is (dispatched c b r) = dispatches c.file (length c.before)

abbrev pub events_is : List CEvent → List Event
events_is es = map event_is es

-- by the result of a dispatch and the seat beside it: 0 and minus 2 serve it, minus 1 is nobody, and a positive number is a refusal
abbrev pub told_then : ℤ → ℕ → List (Option ℕ) → List (Option ℕ)
told_then (pos zero) seat more = some seat ∷ more
told_then (pos (suc n)) seat more = more
told_then (negsuc zero) seat more = none ∷ more
told_then (negsuc (suc n)) seat more = some seat ∷ more

abbrev pub told_by : List CEvent → List (Option ℕ)
told_by [] = []
told_by (raised i b r ∷ es) = told_by es
told_by (sat i h n b r ∷ es) = told_by es
told_by (dispatched c b r ∷ es) = told_then r c.seat (told_by es)

-- ---- the claim

-- seat w waits in the arrays a
pub record DispatchTells (a : Flat) (w : ℕ) (es : List CEvent) : Type 0 where
  -- so what is proved of a list of events holds of the arrays: `alone`, `seat_demand_3` and `dispatch_limit_after` of crate turns
  pub seats : flat_is (last_arrays a es) ≡ after (flat_is a) (events_is es)
  pub stays_right : SeatsRight (flat_is (last_arrays a es))
  pub fair : Fair w (ahead a.last w) (told_by es) (flat_is (last_arrays a es))
  pub within_eight : 8 ≤ length (told_by es) → Memᴰ (some w) (take 8 (told_by es))
  pub waits : ¬ Memᴰ (some w) (told_by es) → (T.seat_at (flat_is (last_arrays a es)) w).waiting ≡ true
