-- A waiting seat is served in time, of a C program's own calls: `dispatch_tells`. Each call's contract gives the definition's answer and seats, so a list
-- of calls is the definition's list of events; and no refusal has the number 0, so a program tells a refusal from a key.
--     CWays, c_ways           a dispatch serves a seat with a key or the end, finds nobody, or is refused with a positive number
--     arrays_are, told_are    the seats after a list of calls, and its unrefused dispatches
--     cleared_right           the arrays that fst_empty_seats leaves
-- Assumes nothing.
use Rattle.std.specs.Prelude.{◌≡◌, refl, Bool, true, false, cond, List, [], ◌∷◌, ℕ, zero, suc, ◌≤◌, ℤ, pos, length}
use Rattle.std.proofs.Common.{sym, ap, ◌∙◌, subst, arith}
use Rattle.std.proofs.Math.Option.{Option, none, some}
use Rattle.format.specs.declared.Refusal.{Refusal}
use Rattle.format.specs.Limits.{SEAT, number}
use Rattle.format.specs.Laws.RefusalLaws.{number_from}
use Rattle.reading.specs.Reading.{key, end}
use Rattle.plain.specs.Plain as P
use Rattle.plain.specs.Plain.{next_plain}
use Rattle.turns.specs.Turns as T
use Rattle.turns.specs.Turns.{Seats, seat_at, right_test, turn, served, nobody, after_step, serve, by_turn, after, after_event}
use Rattle.turns.specs.TurnsDemand.{SeatsRight, unrefused_then, unrefused_in}
use Rattle.turns.proofs.FairLaws.{fairness}
use Rattle.turns.proofs.AloneLaws.{new_right}
use Rattle.seats_arrays.specs.SeatArrays.{Rows, Flat, flat, flat_is}
use Rattle.baxhiso_readings.specs.ReadingsLaws.{NextTells, hands_out, comes_to_end, leaves, next_nonzero}
use Rattle.baxhiso_seats.specs.Seats.{EmptyLeaves, DispatchLeaves}
use Rattle.baxhiso_seats_calls.specs.SeatCCalls.{CDispatch, CEvent, raised, sat, dispatched, CMadeOne, arrays_of, CMade, last_arrays, event_is, events_is, told_then, told_by, DispatchTells}

-- ---- one dispatch

pub data CWays : T.Dispatch → Type 0 where
  c_key : (i : ℕ) (k : List ℕ) (v : ℕ) (t : Seats) → CWays (served i (key k v) t)
  c_end : (i : ℕ) (t : Seats) → CWays (served i end t)
  c_nobody : CWays nobody
  c_refused : (n : Refusal) → 1 ≤ number n → CWays (T.Dispatch.refused n)

by_step : (s : Seats) (i : ℕ) (r : P.Plain) (w : P.PlainStep) → NextTells r w → CWays (after_step s i w)
by_step s i r w (hands_out k v q) = c_key i k v _
by_step s i r w (comes_to_end q) = c_end i _
by_step s i r w (leaves n low) = c_refused n low

by_reading : (file : List ℕ) (s : Seats) (space i : ℕ) (o : Option P.Plain) → CWays (serve file s space i o)
by_reading file s space i (some r) = by_step s i r (next_plain file r space) (next_nonzero file r space)
by_reading file s space i none = c_refused SEAT (number_from SEAT)

by_turn_lem : (file : List ℕ) (s : Seats) (space : ℕ) (o : Option ℕ) → CWays (by_turn file s space o)
by_turn_lem file s space (some i) = by_reading file s space i (seat_at s i).reading
by_turn_lem file s space none = c_nobody

by_right : (file : List ℕ) (s : Seats) (space : ℕ) (b : Bool) → CWays (cond b (by_turn file s space (turn s)) (T.Dispatch.refused SEAT))
by_right file s space true = by_turn_lem file s space (turn s)
by_right file s space false = c_refused SEAT (number_from SEAT)

pub c_ways : (file : List ℕ) (s : Seats) (space : ℕ) → CWays (T.dispatch file s space)
unfolding T.dispatch
c_ways file s space = by_right file s space (right_test s)

told_no : (n : ℕ) → 1 ≤ n → (seat : ℕ) (more : List (Option ℕ)) → told_then (pos n) seat more ≡ more
told_no zero h seat more = absurd (omega arith)
told_no (suc n) h seat more = refl

told_one : (q : T.Dispatch) → CWays q → {a b : Flat} {k₀ k : List ℕ} {seat₀ seat len₀ len v₀ v : ℕ} {r : ℤ} → DispatchLeaves q a b k₀ k seat₀ seat len₀ len v₀ v r
    → (more : List (Option ℕ)) → told_then r seat more ≡ unrefused_then q more
told_one q (c_key i k v t) l more = rw (l.result, l.seat_is_lem) refl
told_one q (c_end i t) l more = rw (l.result, l.seat_is_lem) refl
told_one q c_nobody l more = rw l.result refl
told_one q (c_refused n low) l more = rw l.result (told_no (number n) low _ more)

-- ---- a list of calls

one_is : (a : Flat) (e : CEvent) → CMadeOne a e → flat_is (arrays_of e) ≡ after_event (flat_is a) (event_is e)
one_is a (raised i b r) h = h.seats
one_is a (sat i x n b r) h = h.seats
one_is a (dispatched c b r) h = h.seats

pub arrays_are : (a : Flat) (es : List CEvent) → CMade a es → flat_is (last_arrays a es) ≡ after (flat_is a) (events_is es)
arrays_are a [] m = refl
arrays_are a (e ∷ es) m = arrays_are (arrays_of e) es m.1 ∙ ap (λ (t : Seats). after t (events_is es)) (one_is a e m.0)

pub told_are : (a : Flat) (es : List CEvent) → CMade a es → told_by es ≡ unrefused_in (flat_is a) (events_is es)
told_are a [] m = refl
told_are a (raised i b r ∷ es) m = told_are b es m.1 ∙ ap (λ (t : Seats). unrefused_in t (events_is es)) m.0.seats
told_are a (sat i h n b r ∷ es) m = told_are b es m.1 ∙ ap (λ (t : Seats). unrefused_in t (events_is es)) m.0.seats
told_are a (dispatched c b r ∷ es) m =
    ap (told_then r c.seat) (told_are b es m.1 ∙ ap (λ (t : Seats). unrefused_in t (events_is es)) m.0.seats)
    ∙ told_one (T.dispatch c.file (flat_is a) (length c.before)) (c_ways c.file (flat_is a) (length c.before)) m.0 _

pub dispatch_tells : (a : Flat) (w : ℕ) (es : List CEvent) → CMade a es → SeatsRight (flat_is a) → w ≤ 7 → (seat_at (flat_is a) w).waiting ≡ true → DispatchTells a w es
dispatch_tells a w es m right small waits =
    let f = fairness (flat_is a) w (events_is es) right small waits in
    let s = arrays_are a es m in
    let t = told_are a es m in
    record {
      seats = s;
      stays_right = rw s f.stays_right;
      fair = rw (s, t) f.fair;
      within_eight = rw t f.within_eight;
      waits = λ out. subst (λ (x : Seats). (seat_at x w).waiting ≡ true) (sym s) (f.waits (rw t at out));
    }

-- ---- the first arrays

pub cleared_right : {last : ℕ} {t w : List ℕ} → EmptyLeaves last t w → (readings : Rows) → SeatsRight (flat_is (flat last t w readings))
cleared_right e readings = subst SeatsRight (sym (e.seats readings)) new_right
