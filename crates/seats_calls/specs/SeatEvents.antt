-- A list of the code's own calls of `seats::raise`, `seats::seat` and `seats::dispatch`, each on the seats that the one before returned.
--     CodeEvent              one call: what it was given and what it gave back
--     kept_of, dispatched_of, seats_of s e  the seats after one call: those that it gave back, or the ones before where it was refused
--     Made s es              the calls es, from the seats s, each as its contract says
--     last_seats s es         the seats after them
--     events_is es            the events by definition
--     code_unrefused es       the unrefused dispatches: the seat that each served, or none where nobody waited
--     FairCode               a waiting seat is served in time, of what the code answered
-- Assumes nothing.
use Prim.{Unit}
use Rattle.std.specs.Prelude.{◌≡◌, true, ℕ, ◌≤◌, length, take, Ok, Err, Result}
use Rattle.std.proofs.Math.Option.{Option, none, some}
use Rattle.format.specs.declared.Refusal.{Refusal}
use mathlib.Core.List.{List, [], ◌∷◌, map, Memᴰ}
use Rattle.turns.specs.Turns as T
use Rattle.turns.specs.Turns.{Event, raises, sits, dispatches}
use Rattle.turns.specs.TurnsDemand.{SeatsRight, ahead, Fair}
use Rattle.stream.specs.declared.Plain.{Plain}
use Rattle.stream.specs.Plains.{plain_is}
use Rattle.seats_turn.specs.declared.Seats.{Seats}
use Rattle.seats_turn.specs.SeatViews.{seats_is}
use Rattle.seats.specs.declared.Served.{Served}
use Rattle.seats.specs.declared.Served.TheVariants as S
use Rattle.seats.specs.declared.Dispatched.{Dispatched}
use Rattle.seats.specs.SeatCalls.{changed_is, served_of, DispatchTold}

pub data CodeEvent : Type 0 where
  raised : ℕ → Result Seats Refusal → CodeEvent
  sat : ℕ → Plain → Result Seats Refusal → CodeEvent
  -- the file, and the buffer before and after
  dispatched : List ℕ → List ℕ → List ℕ → Result Dispatched Refusal → CodeEvent

abbrev pub MadeOne : Seats → CodeEvent → Type 0
MadeOne s (raised i r) = changed_is r ≡ T.raise (seats_is s) i
MadeOne s (sat i p r) = changed_is r ≡ T.seat (seats_is s) i (plain_is p)
MadeOne s (dispatched file before after r) = DispatchTold (T.dispatch file (seats_is s) (length before)) (seats_is s) before after r

abbrev pub kept_of : Seats → Result Seats Refusal → Seats
kept_of s (Ok t) = t
kept_of s (Err n) = s

abbrev pub dispatched_of : Seats → Result Dispatched Refusal → Seats
dispatched_of s (Ok d) = d.seats
dispatched_of s (Err n) = s

abbrev pub seats_of : Seats → CodeEvent → Seats
seats_of s (raised i r) = kept_of s r
seats_of s (sat i p r) = kept_of s r
seats_of s (dispatched file before after r) = dispatched_of s r

abbrev pub Made : Seats → List CodeEvent → Type 0
Made s [] = Unit {0}
Made s (e ∷ es) = MadeOne s e × Made (seats_of s e) es

abbrev pub last_seats : Seats → List CodeEvent → Seats
last_seats s [] = s
last_seats s (e ∷ es) = last_seats (seats_of s e) es

abbrev pub event_is : CodeEvent → Event
event_is (raised i r) = raises i
event_is (sat i p r) = sits i (plain_is p)
event_is (dispatched file before after r) = dispatches file (length before)

abbrev pub events_is : List CodeEvent → List Event
events_is es = map event_is es

abbrev pub served_then : Result Served Refusal → List (Option ℕ) → List (Option ℕ)
served_then (Ok (S.Key i n v)) more = some i ∷ more
served_then (Ok (S.End i)) more = some i ∷ more
served_then (Ok S.Nobody) more = none ∷ more
served_then (Err n) more = more

abbrev pub code_unrefused : List CodeEvent → List (Option ℕ)
code_unrefused [] = []
code_unrefused (raised i r ∷ es) = code_unrefused es
code_unrefused (sat i p r ∷ es) = code_unrefused es
code_unrefused (dispatched file before after r ∷ es) = served_then (served_of r) (code_unrefused es)

-- seat w waits in s
pub record FairCode (s : Seats) (w : ℕ) (es : List CodeEvent) : Type 0 where
  pub stays_right : SeatsRight (seats_is (last_seats s es))
  pub fair : Fair w (ahead s.last w) (code_unrefused es) (seats_is (last_seats s es))
  pub within_eight : 8 ≤ length (code_unrefused es) → Memᴰ (some w) (take 8 (code_unrefused es))
  pub waits : ¬ Memᴰ (some w) (code_unrefused es) → (T.seat_at (seats_is (last_seats s es)) w).waiting ≡ true
