-- The calls by cases, as the code goes through them.
--     seat_number, seat_wrong, seat_told                     seating: a number over 7, seats that are not right, and the rest
--     raise_number, raise_wrong, raise_empty, raise_told     raising, and a seat without a reading
--     told_wrong, told_nobody                                a dispatch with seats that are not right, and with nobody waiting
--     serve_key, serve_end, serve_refused                    the three answers of the reading served
-- Assumes nothing.
use mathlib.Core.Path.{◌≡◌, refl, sym, ap, ◌∙◌, subst}
use Rattle.std.specs.Prelude as Std
use Rattle.std.specs.Prelude.{Ok, Err, Some, None, Result}
use Rattle.std.specs.Option.{is_some}
use Rattle.format.specs.declared.Refusal.{Refusal}
use mathlib.Core.Bool.{Bool, true, false}
use mathlib.Core.Option.{Option, some, none}
use mathlib.Core.List.{List}
use Prim.Native.Nat.{ℕ, ◌≤◌, ◌<◌}
use native.Mathlib.Omega.{arith}
use borrow.Author.Tests.{lt-leb, le-leb}
use lib.ListN.{length, get_or}
use Rattle.format.specs.Limits.{SEAT}
use Rattle.reading.specs.Reading as R
use Rattle.reading.specs.Reading.{key, end, written}
use Rattle.plain.specs.Plain as P
use Rattle.plain.specs.Plain.{next_plain}
use Rattle.turns.specs.Turns as T
use Rattle.turns.specs.Turns.{seat_at, right_test, turn, done, by_answer}
use Rattle.turns.proofs.TurnsLaws.{turn_some, turn_le, turn_held, dispatch_wrong, dispatch_turn}
use Rattle.stream_step.specs.SteppedLaws.{step_key, step_end, step_refused}
use Rattle.stream.specs.declared.Plain.{Plain}
use Rattle.stream_step.specs.declared.Step.{Step}
use Rattle.stream.specs.Plains.{plain_is, PlainStepped}
use Rattle.stream.specs.PlainsLaws.{plain_told}
use Rattle.seats_turn.specs.declared.Seat.{Seat}
use Rattle.seats_turn.specs.declared.Seats.{Seats}
use Rattle.seats_turn.specs.SeatViews.{held_is, seat_is, seats_is, put_seat}
use Rattle.seats_turn.specs.SeatViewsLaws.{seat_at_lem}
use Rattle.seats.specs.declared.Served.TheVariants as S
use Rattle.seats.specs.declared.Dispatched.{Dispatched}
use Rattle.seats.specs.SeatCalls.{changed_is, DispatchTold}

-- ---- seat

module _ (s : T.Seats) (i : ℕ) (p : P.Plain) where
  pub seat_number : 7 < i → T.seat s i p ≡ T.Done.refused SEAT
  unfolding T.seat
  seat_number h = rw (lt-leb i 7 h)

  pub seat_wrong : i ≤ 7 → right_test s ≡ false → T.seat s i p ≡ T.Done.refused SEAT
  unfolding T.seat
  seat_wrong h e = rw (le-leb i 7 h, e)

  seat_done : i ≤ 7 → right_test s ≡ true → T.seat s i p ≡ done (T.with_seat s i (record { reading = some p; waiting = (seat_at s i).waiting }))
  unfolding T.seat
  seat_done h e = rw (le-leb i 7 h, e)

-- ---- raise

module _ (s : T.Seats) (i : ℕ) where
  pub raise_number : 7 < i → T.raise s i ≡ T.Done.refused SEAT
  unfolding T.raise
  raise_number h = rw (lt-leb i 7 h)

  pub raise_wrong : i ≤ 7 → right_test s ≡ false → T.raise s i ≡ T.Done.refused SEAT
  unfolding T.raise
  raise_wrong h e = rw (le-leb i 7 h, e)

  raise_none : i ≤ 7 → right_test s ≡ true → T.taken (seat_at s i).reading ≡ false → T.raise s i ≡ T.Done.refused SEAT
  unfolding T.raise
  raise_none h e n = rw (le-leb i 7 h, e, n)

  raise_done : i ≤ 7 → right_test s ≡ true → T.taken (seat_at s i).reading ≡ true
      → T.raise s i ≡ done (T.with_seat s i (record { reading = (seat_at s i).reading; waiting = true }))
  unfolding T.raise
  raise_done h e t = rw (le-leb i 7 h, e, t)

-- ---- of the code's seats

taken_is : (o : Std.Option Plain) (b : Bool) → is_some o ≡ b → T.taken (held_is o) ≡ b
taken_is (Some p) b e = e
taken_is None b e = e

module _ (s : Seats) (eight : length s.seats ≡ 8) (i : ℕ) (d : Seat) (small : i ≤ 7) where
  seat_is_lem : seat_at (seats_is s) i ≡ seat_is (get_or s.seats i d)
  seat_is_lem = seat_at_lem s.seats i d (omega arith)

  reading_is : (o : Std.Option Plain) → (get_or s.seats i d).reading ≡ o → (seat_at (seats_is s) i).reading ≡ held_is o
  reading_is o e = ap (λ (x : T.Seat). x.reading) seat_is_lem ∙ ap held_is e

  pub seat_told : (p : Plain) (r : Seats) → right_test (seats_is s) ≡ true
      → seats_is r ≡ put_seat (seats_is s) s.last i (seat_is (record { reading = Some p; waiting = (get_or s.seats i d).waiting }))
      → changed_is (Ok r) ≡ T.seat (seats_is s) i (plain_is p)
  seat_told p r right is =
      ap done (is ∙ ap (λ (x : T.Seat). T.with_seat (seats_is s) i (record { reading = some (plain_is p); waiting = x.waiting })) (sym seat_is_lem))
      ∙ sym (seat_done (seats_is s) i (plain_is p) small right)

  taken_here : (b : Bool) → is_some (get_or s.seats i d).reading ≡ b → T.taken (seat_at (seats_is s) i).reading ≡ b
  taken_here b e = ap T.taken (reading_is (get_or s.seats i d).reading refl) ∙ taken_is (get_or s.seats i d).reading b e

  pub raise_empty : right_test (seats_is s) ≡ true → is_some (get_or s.seats i d).reading ≡ false → T.raise (seats_is s) i ≡ T.Done.refused SEAT
  raise_empty right e = raise_none (seats_is s) i small right (taken_here false e)

  pub raise_told : (r : Seats) → right_test (seats_is s) ≡ true → is_some (get_or s.seats i d).reading ≡ true
      → seats_is r ≡ put_seat (seats_is s) s.last i (seat_is (record { reading = (get_or s.seats i d).reading; waiting = true }))
      → changed_is (Ok r) ≡ T.raise (seats_is s) i
  raise_told r right t is =
      ap done (is ∙ ap (λ (x : Option P.Plain). T.with_seat (seats_is s) i (record { reading = x; waiting = true })) (sym (reading_is (get_or s.seats i d).reading refl)))
      ∙ sym (raise_done (seats_is s) i small right (taken_here true t))

-- ---- dispatch

told_as : {w w' : T.Dispatch} {given : T.Seats} {buf₀ buf : List ℕ} {r : Result Dispatched Refusal} → w ≡ w' → DispatchTold w' given buf₀ buf r → DispatchTold w given buf₀ buf r
told_as {given = given} {buf₀ = buf₀} {buf = buf} {r = r} e h = subst (λ (x : T.Dispatch). DispatchTold x given buf₀ buf r) (sym e) h

nobody_is : (file : List ℕ) (s : T.Seats) (space : ℕ) → right_test s ≡ true → turn s ≡ none → T.dispatch file s space ≡ T.nobody
unfolding T.dispatch
nobody_is file s space e t = rw (e, t)

pub told_wrong : (file : List ℕ) (s : T.Seats) (buf : List ℕ) → right_test s ≡ false → DispatchTold (T.dispatch file s (length buf)) s buf buf (Err SEAT)
told_wrong file s buf e = told_as (dispatch_wrong file s (length buf) e) (record { served = refl; seats = refl; buffer = refl })

pub told_nobody : (file : List ℕ) (s : Seats) (buf : List ℕ) → right_test (seats_is s) ≡ true → turn (seats_is s) ≡ none
    → DispatchTold (T.dispatch file (seats_is s) (length buf)) (seats_is s) buf buf (Ok (record { served = S.Nobody; seats = s }))
told_nobody file s buf e t = told_as (nobody_is file (seats_is s) (length buf) e t) (record { served = refl; seats = refl; buffer = refl })

-- the number of the seat whose turn it is
pub turn_number : (s : T.Seats) (i : ℕ) → turn s ≡ some i → i ≤ 7
turn_number s i t = turn_le (turn_some s i t)

-- whose turn it is has a reading
pub turn_empty : (s : Seats) → length s.seats ≡ 8 → (i : ℕ) (d : Seat) → right_test (seats_is s) ≡ true → turn (seats_is s) ≡ some i → ¬ ((get_or s.seats i d).reading ≡ None)
turn_empty s eight i d right its e =
    let q = turn_held (seats_is s) i right its in
    let is = reading_is s eight i d (turn_number (seats_is s) i its) None e in
    let z : none ≡ some q.0 = sym is ∙ q.1 in
    let c : ◌≡◌ {A = ℕ} 0 1 = cc in
    omega arith

module _ (file : List ℕ) (s : Seats) (eight : length s.seats ≡ 8) (i : ℕ) (d : Seat) (right : right_test (seats_is s) ≡ true) (its : turn (seats_is s) ≡ some i) (p : Plain)
    (held : (get_or s.seats i d).reading ≡ Some p) (buf₀ buf : List ℕ) (o : Step Plain) (h : PlainStepped (next_plain file (plain_is p) (length buf₀)) buf₀ buf o) where
  abbrev given : P.PlainStep
  given = next_plain file (plain_is p) (length buf₀)

  served_is : (a : R.Answer) → given.answer ≡ a → T.dispatch file (seats_is s) (length buf₀) ≡ by_answer (seats_is s) i given.reading a
  served_is a e =
      dispatch_turn file (seats_is s) (length buf₀) i (plain_is p) right its (reading_is s eight i d (turn_number (seats_is s) i its) (Some p) held)
      ∙ ap (by_answer (seats_is s) i given.reading) e

  kept_is : (t : Seats) → seats_is t ≡ T.kept (seats_is s) i (plain_is o.reading) → seats_is t ≡ T.kept (seats_is s) i given.reading
  kept_is t e = e ∙ ap (T.kept (seats_is s) i) h.gave.plain

  wrote : (a : R.Answer) → given.answer ≡ a → buf ≡ written a buf₀
  wrote a e = h.buffer ∙ ap (λ (x : R.Answer). written x buf₀) e

  pub serve_key : (m u : ℕ) (r : Dispatched) → r.served ≡ S.Key i m u → o.answer ≡ Ok (Some (m, u)) → seats_is r.seats ≡ T.kept (seats_is s) i (plain_is o.reading)
      → DispatchTold (T.dispatch file (seats_is s) (length buf₀)) (seats_is s) buf₀ buf (Ok r)
  serve_key m u r is e seats =
      let q = step_key (plain_told h) m u e in
      told_as (served_is (key q.0 u) q.1)
      (record {
        served = ap Ok is ∙ ap (λ (l : ℕ). Ok (S.Key i l u)) (sym q.2);
        seats = kept_is r.seats seats;
        buffer = wrote (key q.0 u) q.1;
      })

  pub serve_end : (r : Dispatched) → o.answer ≡ Ok None → r.served ≡ S.End i → seats_is r.seats ≡ T.kept (seats_is s) i (plain_is o.reading)
      → DispatchTold (T.dispatch file (seats_is s) (length buf₀)) (seats_is s) buf₀ buf (Ok r)
  serve_end r e is seats =
      let q = step_end (plain_told h) e in
      told_as (served_is end q) (record { served = ap Ok is; seats = kept_is r.seats seats; buffer = wrote end q })

  pub serve_refused : (n : Refusal) → o.answer ≡ Err n → DispatchTold (T.dispatch file (seats_is s) (length buf₀)) (seats_is s) buf₀ buf (Err n)
  serve_refused n e =
      let q = step_refused (plain_told h) n e in
      told_as (served_is (R.Answer.refused n) q) (record { served = refl; seats = refl; buffer = wrote (R.Answer.refused n) q })
