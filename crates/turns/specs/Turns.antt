-- Eight seats on one file (document 02, N13), by definition. TurnsDemand has what is promised of them.
--     Seat, Seats                 a seat's plain reading (or none) and its request; the eight, and the seat served last
--     right_test                   SEAT's condition: `last` is at most 7, and a waiting seat has a reading
--     turn s                      the seat whose turn it is: the first that waits after the one served last
--     new, seat, raise, dispatch  the calls
--     Event, after                a list of events, and the seats after it
-- Assumes nothing.
use Rattle.std.specs.Prelude.{Bool, true, false, cond, ◌&&◌, List, [], ◌∷◌, ℕ, zero, suc, ◌+◌, ◌%◌, leb, get_or, set, replicate}
use Rattle.std.proofs.Math.Option.{Option, none, some}
use Rattle.format.specs.declared.Refusal.{Refusal}
use Rattle.format.specs.Limits.{SEAT}
use Rattle.reading.specs.Reading.{Answer, key, end}
use Rattle.plain.specs.Plain.{Plain, PlainStep, next_plain}

pub record Seat : Type 0 where
  pub reading : Option Plain
  pub waiting : Bool

pub record Seats : Type 0 where
  pub last : ℕ
  pub seats : List Seat

abbrev pub no_seat : Seat
no_seat = record { reading = none; waiting = false }

abbrev pub seat_at : Seats → ℕ → Seat
seat_at s i = get_or s.seats i no_seat

-- nobody sits, and the first turn is seat 0's
abbrev pub new : Seats
new = record { last = 7; seats = replicate 8 no_seat }

-- ---- SEAT

abbrev pub taken : Option Plain → Bool
taken none = false
taken (some r) = true

-- a waiting seat has a reading
abbrev pub seat_test : Seat → Bool
seat_test x = cond x.waiting (taken x.reading) true

unfoldable pub all_seats : List Seat → Bool
all_seats [] = true
all_seats (x ∷ xs) = seat_test x && all_seats xs

abbrev pub right_test : Seats → Bool
right_test s = leb s.last 7 && all_seats s.seats

-- ---- whose turn it is

-- the first of the next so many seats after i that waits
unfoldable pub turn_from : ℕ → Seats → ℕ → Option ℕ
turn_from zero s i = none
turn_from (suc n) s i = cond (seat_at s ((i + 1) % 8)).waiting (some ((i + 1) % 8)) (turn_from n s ((i + 1) % 8))

unfoldable pub turn : Seats → Option ℕ
turn s = turn_from 8 s s.last

-- ---- seat, raise

pub data Done : Type 0 where
  done : Seats → Done
  refused : Refusal → Done

abbrev pub with_seat : Seats → ℕ → Seat → Seats
with_seat s i x = record { last = s.last; seats = set s.seats i x }

-- the seat has this reading from now on, also where it had another; its request stays as it was
unfoldable pub seat : Seats → ℕ → Plain → Done
seat s i r = cond (leb i 7 && right_test s) (done (with_seat s i (record { reading = some r; waiting = (seat_at s i).waiting }))) (refused SEAT)

-- the seat waits; a seat without a reading cannot
unfoldable pub raise : Seats → ℕ → Done
raise s i =
    cond (leb i 7 && (right_test s && taken (seat_at s i).reading)) (done (with_seat s i (record { reading = (seat_at s i).reading; waiting = true }))) (refused SEAT)

-- ---- dispatch

pub data Dispatch : Type 0 where
  served : ℕ → Answer → Seats → Dispatch
  nobody : Dispatch
  refused : Refusal → Dispatch

-- the seat served has the reading afterwards and waits no more, and the next turn begins after it
abbrev pub kept : Seats → ℕ → Plain → Seats
kept s i r = record { last = i; seats = set s.seats i (record { reading = some r; waiting = false }) }

-- a refusal changes nothing: the request and the turn stay
abbrev pub by_answer : Seats → ℕ → Plain → Answer → Dispatch
by_answer s i r (key k v) = served i (key k v) (kept s i r)
by_answer s i r end = served i end (kept s i r)
by_answer s i r (Answer.refused n) = Dispatch.refused n

abbrev pub after_step : Seats → ℕ → PlainStep → Dispatch
after_step s i w = by_answer s i w.reading w.answer

abbrev pub serve : List ℕ → Seats → ℕ → ℕ → Option Plain → Dispatch
serve file s space i (some r) = after_step s i (next_plain file r space)
serve file s space i none = Dispatch.refused SEAT

abbrev pub by_turn : List ℕ → Seats → ℕ → Option ℕ → Dispatch
by_turn file s space (some i) = serve file s space i (seat_at s i).reading
by_turn file s space none = nobody

-- SEAT first; with nobody waiting nothing else is judged
unfoldable pub dispatch : List ℕ → Seats → ℕ → Dispatch
unfolding turn turn_from all_seats
dispatch file s space = cond (right_test s) (by_turn file s space (turn s)) (Dispatch.refused SEAT)

-- ---- events

pub data Event : Type 0 where
  raises : ℕ → Event
  sits : ℕ → Plain → Event
  dispatches : List ℕ → ℕ → Event

abbrev pub or_kept : Seats → Done → Seats
or_kept s (done t) = t
or_kept s (Done.refused n) = s

abbrev pub dispatched : Seats → Dispatch → Seats
dispatched s (served i a t) = t
dispatched s nobody = s
dispatched s (Dispatch.refused n) = s

abbrev pub after_event : Seats → Event → Seats
after_event s (raises i) = or_kept s (raise s i)
after_event s (sits i r) = or_kept s (seat s i r)
after_event s (dispatches file space) = dispatched s (dispatch file s space)

abbrev pub after : Seats → List Event → Seats
after s [] = s
after s (e ∷ es) = after (after_event s e) es
