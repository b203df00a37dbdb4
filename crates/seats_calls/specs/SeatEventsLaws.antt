-- A waiting seat is served in time, of the code's own calls: `fair_code`. Each call's contract gives the definition's answer and seats, so a list of
-- calls is the definition's list of events.
--     seats_are, served_are     the seats after a list of calls, and its unrefused dispatches
-- Assumes nothing.
use Rattle.std.specs.Prelude.{◌≡◌, refl, true, List, [], ◌∷◌, ℕ, ◌≤◌, length, Ok, Err, Result}
use Rattle.std.proofs.Common.{sym, ap, ◌∙◌, subst}
use Rattle.std.proofs.Math.Option.{Option, some}
use Rattle.format.specs.declared.Refusal.{Refusal}
use Rattle.reading.specs.Reading as R
use Rattle.turns.specs.Turns as T
use Rattle.turns.specs.Turns.{after, after_event}
use Rattle.turns.specs.TurnsDemand.{SeatsRight, unrefused_then, unrefused_in, Fairness}
use Rattle.turns.proofs.TurnsLaws.{Ways, way_served, way_nobody, way_refused, dispatch_ways}
use Rattle.turns.proofs.FairLaws.{fairness}
use Rattle.seats_turn.specs.declared.Seats.{Seats}
use Rattle.seats_turn.specs.SeatViews.{seats_is}
use Rattle.seats.specs.declared.Served.{Served}
use Rattle.seats.specs.declared.Dispatched.{Dispatched}
use Rattle.stream.specs.Plains.{plain_is}
use Rattle.seats.specs.SeatCalls.{changed_is, served_as, seats_after}
use Rattle.seats_calls.specs.SeatEvents.{CodeEvent, raised, sat, dispatched, MadeOne, kept_of, dispatched_of, seats_of, Made, last_seats, event_is, events_is, served_then, code_unrefused, FairCode}

kept_is : (s : Seats) (w : T.Done) (r : Result Seats Refusal) → changed_is r ≡ w → seats_is (kept_of s r) ≡ T.or_kept (seats_is s) w
kept_is s w (Ok t) h = ap (T.or_kept (seats_is s)) h
kept_is s w (Err n) h = ap (T.or_kept (seats_is s)) h

dispatched_is : (s : Seats) (w : T.Dispatch) (r : Result Dispatched Refusal) → seats_after (seats_is s) r ≡ T.dispatched (seats_is s) w
    → seats_is (dispatched_of s r) ≡ T.dispatched (seats_is s) w
dispatched_is s w (Ok d) h = h
dispatched_is s w (Err n) h = h

one_is : (s : Seats) (e : CodeEvent) → MadeOne s e → seats_is (seats_of s e) ≡ after_event (seats_is s) (event_is e)
one_is s (raised i r) h = kept_is s (T.raise (seats_is s) i) r h
one_is s (sat i p r) h = kept_is s (T.seat (seats_is s) i (plain_is p)) r h
one_is s (dispatched file before after r) h = dispatched_is s (T.dispatch file (seats_is s) (length before)) r h.seats

pub seats_are : (s : Seats) (es : List CodeEvent) → Made s es → seats_is (last_seats s es) ≡ after (seats_is s) (events_is es)
seats_are s [] m = refl
seats_are s (e ∷ es) m = seats_are (seats_of s e) es m.1 ∙ ap (λ (t : T.Seats). after t (events_is es)) (one_is s e m.0)

-- no dispatch serves a seat with a refusal
told_then_lem : (file : List ℕ) (s : T.Seats) (space : ℕ) (d : T.Dispatch) → Ways file s space d → (more : List (Option ℕ)) → served_then (served_as d) more ≡ unrefused_then d more
told_then_lem file s space d (way_served i r (R.key k v) hr ht hs ha nr) more = refl
told_then_lem file s space d (way_served i r R.end hr ht hs ha nr) more = refl
told_then_lem file s space d (way_served i r (R.Answer.refused n) hr ht hs ha nr) more = absurd (nr n refl)
told_then_lem file s space d (way_nobody hr ht) more = refl
told_then_lem file s space d (way_refused n) more = refl

pub served_are : (s : Seats) (es : List CodeEvent) → Made s es → code_unrefused es ≡ unrefused_in (seats_is s) (events_is es)
served_are s [] m = refl
served_are s (raised i r ∷ es) m = served_are (kept_of s r) es m.1 ∙ ap (λ (t : T.Seats). unrefused_in t (events_is es)) (one_is s (raised i r) m.0)
served_are s (sat i p r ∷ es) m = served_are (kept_of s r) es m.1 ∙ ap (λ (t : T.Seats). unrefused_in t (events_is es)) (one_is s (sat i p r) m.0)
served_are s (dispatched file before after r ∷ es) m =
    ap (λ (x : Result Served Refusal). served_then x (code_unrefused es)) m.0.served
    ∙ ap (served_then (served_as (T.dispatch file (seats_is s) (length before))))
    (served_are (dispatched_of s r) es m.1 ∙ ap (λ (t : T.Seats). unrefused_in t (events_is es)) (one_is s (dispatched file before after r) m.0))
    ∙ told_then_lem file (seats_is s) (length before) (T.dispatch file (seats_is s) (length before)) (dispatch_ways file (seats_is s) (length before)) _

pub fair_code : (s : Seats) (w : ℕ) (es : List CodeEvent) → Made s es → SeatsRight (seats_is s) → w ≤ 7 → (T.seat_at (seats_is s) w).waiting ≡ true → FairCode s w es
fair_code s w es m right small waits =
    let f = fairness (seats_is s) w (events_is es) right small waits in
    let a = seats_are s es m in
    let b = served_are s es m in
    record { stays_right = rw a f.stays_right; fair = rw (a, b) f.fair; within_eight = rw b f.within_eight; waits = λ out. subst (λ (t : T.Seats). (T.seat_at t w).waiting ≡ true) (sym a) (f.waits (rw b at out)) }
