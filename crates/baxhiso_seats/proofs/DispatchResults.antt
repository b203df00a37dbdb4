-- From what one call of a seat's reading did to what a dispatch for C leaves.
-- Assumes nothing.
use mathlib.Core.Path.{◌≡◌, refl, sym, ap, ◌∙◌, subst}
use Rattle.std.specs.Prelude.{Result, Option, is_err}
use Rattle.format.specs.declared.Refusal.{Refusal}
use mathlib.Core.Bool.{Bool, true, false}
use mathlib.Core.Option.{some, none}
use mathlib.Core.List.{List}
use Prim.Native.Nat.{ℕ, ◌<◌}
use native.Mathlib.Omega.{arith}
use lib.IntN.{ℤ}
use lib.ListN.{length, get_or, set}
use Rattle.format.specs.Limits.{SEAT}
use Rattle.reading.specs.Reading as R
use Rattle.reading.specs.Reading.{key, end}
use Rattle.plain.specs.Plain as P
use Rattle.plain.specs.Plain.{next_plain}
use Rattle.turns.specs.Turns as T
use Rattle.turns.specs.Turns.{seat_at, right_test, turn, by_answer}
use Rattle.turns.proofs.TurnsLaws.{turn_some, turn_le, turn_held, dispatch_wrong, dispatch_turn}
use Rattle.stream.specs.declared.Plain.{Plain}
use Rattle.stream_step.specs.declared.Step.{Step}
use Rattle.stream.specs.Plains.{plain_is, PlainStepped}
use Rattle.stream_arrays.specs.Arrays.{held_as}
use Rattle.seats_arrays.specs.SeatArrays.{flag, held_if, seat_of, Rows, rows_set, plain_of, plain_at, Flat, flat, flat_is}
use Rattle.seats_arrays.specs.SeatArraysLaws.{table_set, seat_in}
use Rattle.baxhiso.specs.Exports.{NONE, code}
use Rattle.baxhiso_readings.specs.Readings.{result_of, len_of, value_of, AnswerLeaves}
use Rattle.seats_keep.specs.Keeps.{KeptIn}
use Rattle.baxhiso_seats.specs.Seats.{Kept, ServeLeaves, DispatchLeaves}

-- ---- one call of a seat's reading

module _ (i last₀ : ℕ) (w₀ : List ℕ) (r₀ : Rows) (k₀ k : List ℕ) (seat₀ len₀ len v₀ v : ℕ) (z : ℤ) (o : Step Plain) (l : AnswerLeaves o.answer len₀ len v₀ v z) where
  refused_by : (a : R.Answer) (q : P.Plain) → PlainStepped (record { answer = a; reading = q }) k₀ k o → is_err o.answer ≡ true
      → ServeLeaves (record { answer = a; reading = q }) i last₀ w₀ r₀ last₀ w₀ r₀ k₀ k seat₀ seat₀ len₀ len v₀ v z
  refused_by (key x y) q h e = absurd (let a = sym (ap is_err h.gave.answer) ∙ e in let z : ◌≡◌ {A = ℕ} 0 1 = cc in omega arith)
  refused_by end q h e = absurd (let a = sym (ap is_err h.gave.answer) ∙ e in let z : ◌≡◌ {A = ℕ} 0 1 = cc in omega arith)
  refused_by (R.Answer.refused n) q h e =
      let a = h.gave.answer in
      record {
        result = l.result ∙ ap result_of a;
        kept = record { last_is = refl; waiting_are = refl; rows_are = refl; seat_is_lem = refl };
        buffer = h.buffer;
        len_is = l.len_is ∙ ap (λ (b : Result (Option (ℕ × ℕ)) Refusal). len_of b len₀) a;
        value_is = l.value_is ∙ ap (λ (b : Result (Option (ℕ × ℕ)) Refusal). value_of b v₀) a;
      }

  module _ (last : ℕ) (w : List ℕ) (r : Rows) (seat : ℕ) (kept : KeptIn o.reading i w₀ r₀ last w r seat) where
    kept_by : (a : R.Answer) (q : P.Plain) → PlainStepped (record { answer = a; reading = q }) k₀ k o → is_err o.answer ≡ false
        → ServeLeaves (record { answer = a; reading = q }) i last₀ w₀ r₀ last w r k₀ k seat₀ seat len₀ len v₀ v z
    kept_by (key x y) q h e =
        let a = h.gave.answer in
        record {
          result = l.result ∙ ap result_of a;
          kept = record { plain = o.reading; is = h.gave.plain; kept = kept };
          buffer = h.buffer;
          len_is = l.len_is ∙ ap (λ (b : Result (Option (ℕ × ℕ)) Refusal). len_of b len₀) a;
          value_is = l.value_is ∙ ap (λ (b : Result (Option (ℕ × ℕ)) Refusal). value_of b v₀) a;
        }
    kept_by end q h e =
        let a = h.gave.answer in
        record {
          result = l.result ∙ ap result_of a;
          kept = record { plain = o.reading; is = h.gave.plain; kept = kept };
          buffer = h.buffer;
          len_is = l.len_is ∙ ap (λ (b : Result (Option (ℕ × ℕ)) Refusal). len_of b len₀) a;
          value_is = l.value_is ∙ ap (λ (b : Result (Option (ℕ × ℕ)) Refusal). value_of b v₀) a;
        }
    kept_by (R.Answer.refused n) q h e = absurd (let a = sym (ap is_err h.gave.answer) ∙ e in let z : ◌≡◌ {A = ℕ} 0 1 = cc in omega arith)

-- the reading that is handed on is the one in the rows
module _ (file : List ℕ) (i : ℕ) (r₀ : Rows) (k₀ k : List ℕ) (p : Plain) (given : p ≡ plain_of r₀ i) (o : Step Plain)
    (h : PlainStepped (next_plain file (plain_is p) (length k₀)) k₀ k o) where
  abbrev called : P.PlainStep
  called = next_plain file (plain_at r₀ i) (length k₀)

  stepped : PlainStepped called k₀ k o
  stepped = subst (λ (x : Plain). PlainStepped (next_plain file (plain_is x) (length k₀)) k₀ k o) given h

  pub serve_refused : (last₀ : ℕ) (w₀ : List ℕ) (seat₀ len₀ len v₀ v : ℕ) (y z : ℤ) → y ≡ z → AnswerLeaves o.answer len₀ len v₀ v z → (b : Bool) → b ≡ is_err o.answer
      → b ≡ true → ServeLeaves called i last₀ w₀ r₀ last₀ w₀ r₀ k₀ k seat₀ seat₀ len₀ len v₀ v y
  serve_refused last₀ w₀ seat₀ len₀ len v₀ v y z same l b is e =
      rw same (refused_by i last₀ w₀ r₀ k₀ k seat₀ len₀ len v₀ v z o l called.answer called.reading stepped (sym is ∙ e))

  pub serve_kept : (last₀ : ℕ) (w₀ : List ℕ) (seat₀ len₀ len v₀ v : ℕ) (y z : ℤ) → y ≡ z → AnswerLeaves o.answer len₀ len v₀ v z → (b : Bool) → b ≡ is_err o.answer
      → b ≡ false → (last : ℕ) (w : List ℕ) (r : Rows) (seat : ℕ) → KeptIn o.reading i w₀ r₀ last w r seat
      → ServeLeaves called i last₀ w₀ r₀ last w r k₀ k seat₀ seat len₀ len v₀ v y
  serve_kept last₀ w₀ seat₀ len₀ len v₀ v y z same l b is e last w r seat kept =
      rw same (kept_by i last₀ w₀ r₀ k₀ k seat₀ len₀ len v₀ v z o l last w r seat kept called.answer called.reading stepped (sym is ∙ e))

-- ---- dispatch

nobody_is : (file : List ℕ) (s : T.Seats) (space : ℕ) → right_test s ≡ true → turn s ≡ none → T.dispatch file s space ≡ T.nobody
unfolding T.dispatch
nobody_is file s space e t = rw (e, t)

module _ (file : List ℕ) (last₀ : ℕ) (t w₀ : List ℕ) (r₀ : Rows) (k₀ : List ℕ) where
  abbrev before : Flat
  before = flat last₀ t w₀ r₀

  abbrev answered : T.Dispatch
  answered = T.dispatch file (flat_is before) (length k₀)

  pub dispatch_unright : (z : ℤ) (seat₀ len₀ v₀ : ℕ) → right_test (flat_is before) ≡ false → z ≡ code SEAT
      → DispatchLeaves answered before before k₀ k₀ seat₀ seat₀ len₀ len₀ v₀ v₀ z
  dispatch_unright z seat₀ len₀ v₀ e is =
      rw (dispatch_wrong file (flat_is before) (length k₀) e)
      (record { result = is; seats = refl; arrays = refl; buffer = refl; seat_is_lem = refl; len_is = refl; value_is = refl })

  pub dispatch_none : (seat₀ len₀ v₀ : ℕ) → right_test (flat_is before) ≡ true → turn (flat_is before) ≡ none
      → DispatchLeaves answered before before k₀ k₀ seat₀ seat₀ len₀ len₀ v₀ v₀ NONE
  dispatch_none seat₀ len₀ v₀ e n =
      rw (nobody_is file (flat_is before) (length k₀) e n)
      (record { result = refl; seats = refl; arrays = refl; buffer = refl; seat_is_lem = refl; len_is = refl; value_is = refl })

  -- the number of the seat whose turn it is
  pub turn_number : (i : ℕ) → turn (flat_is before) ≡ some i → i < 8
  turn_number i n = let le = turn_le (turn_some (flat_is before) i n) in omega arith

  module _ (i : ℕ) (right : right_test (flat_is before) ≡ true) (its : turn (flat_is before) ≡ some i) where
    abbrev called₂ : P.PlainStep
    called₂ = next_plain file (plain_at r₀ i) (length k₀)

    held_some : (b : Bool) (p q : P.Plain) → held_if b p ≡ some q → held_if b p ≡ some p
    held_some true p q e = refl
    held_some false p q e = absurd (let z : ◌≡◌ {A = ℕ} 0 1 = cc in omega arith)

    held_is_lem : (seat_at (flat_is before) i).reading ≡ some (plain_at r₀ i)
    held_is_lem =
        let q = turn_held (flat_is before) i right its in
        let is = ap (λ (x : T.Seat). x.reading) (seat_in last₀ t w₀ (plain_at r₀) i (turn_number i its)) in
        is ∙ held_some (flag (get_or t i 0)) (plain_at r₀ i) q.0 (sym is ∙ q.1)

    -- the seat served has its reading still
    has_reading : held_if (flag (get_or t i 0)) (plain_at r₀ i) ≡ some (plain_at r₀ i)
    has_reading = sym (ap (λ (x : T.Seat). x.reading) (seat_in last₀ t w₀ (plain_at r₀) i (turn_number i its))) ∙ held_is_lem

    is_taken : flag (get_or t i 0) ≡ true
    is_taken = by (flag (get_or t i 0)) has_reading
      where
        by : (b : Bool) → held_if b (plain_at r₀ i) ≡ some (plain_at r₀ i) → b ≡ true
        by true e = refl
        by false e = absurd (let z : ◌≡◌ {A = ℕ} 0 1 = cc in omega arith)

    answer_is_lem : (a : R.Answer) → called₂.answer ≡ a → answered ≡ by_answer (flat_is before) i called₂.reading a
    answer_is_lem a e = dispatch_turn file (flat_is before) (length k₀) i (plain_at r₀ i) right its held_is_lem ∙ ap (by_answer (flat_is before) i called₂.reading) e

    -- the arrays hold the seats with this one served
    kept_seats : (q : P.Plain) (last : ℕ) (w : List ℕ) (r : Rows) (seat : ℕ) → Kept q i w₀ r₀ last w r seat
        → flat_is (flat last t w r) ≡ T.kept (flat_is before) i q
    kept_seats q last w r seat x =
        let a = x.kept.last_is in
        rw a
        (ap (λ (l : List T.Seat). record { last = i; seats = l })
        (table_set 8 (seat_of t w₀ (plain_at r₀)) (seat_of t w (plain_at r)) i (record { reading = some q; waiting = false }) here others))
      where
        here : seat_of t w (plain_at r) i ≡ record { reading = some q; waiting = false }
        here =
            let a = x.kept.waits.here in
            let b = x.kept.row.here ∙ x.is in
            rw (a, b, is_taken) refl

        others : (j : ℕ) → ¬ (j ≡ i) → seat_of t w (plain_at r) j ≡ seat_of t w₀ (plain_at r₀) j
        others j ne =
            let a = x.kept.waits.others j ne in
            let b = x.kept.row.others j ne in
            rw (a, b) refl

    module _ (last : ℕ) (w : List ℕ) (r : Rows) (k : List ℕ) (seat₀ seat len₀ len v₀ v : ℕ) (z : ℤ) where
      arrays_kept : (q : P.Plain) → Kept q i w₀ r₀ last w r seat
          → (p : Plain) × (flat last t w r ≡ flat i t (set w₀ i 0) (rows_set r₀ i (held_as p.reading) p.keys))
      arrays_kept q x =
          let a = x.kept.last_is in
          let b = x.kept.waits.is in
          let c = x.kept.row.is in
          (x.plain, rw (a, b, c) refl)

      by_answer_lem : (a : R.Answer) (q : P.Plain) → ServeLeaves (record { answer = a; reading = q }) i last₀ w₀ r₀ last w r k₀ k seat₀ seat len₀ len v₀ v z
          → DispatchLeaves (by_answer (flat_is before) i q a) before (flat last t w r) k₀ k seat₀ seat len₀ len v₀ v z
      by_answer_lem (key x y) q s =
          record {
            result = s.result;
            seats = kept_seats q last w r seat s.kept;
            arrays = arrays_kept q s.kept;
            buffer = s.buffer;
            seat_is_lem = s.kept.kept.seat_is_lem;
            len_is = s.len_is;
            value_is = s.value_is;
          }
      by_answer_lem end q s =
          record {
            result = s.result;
            seats = kept_seats q last w r seat s.kept;
            arrays = arrays_kept q s.kept;
            buffer = s.buffer;
            seat_is_lem = s.kept.kept.seat_is_lem;
            len_is = s.len_is;
            value_is = s.value_is;
          }
      by_answer_lem (R.Answer.refused n) q s =
          let u = s.kept in
          let a = u.last_is in
          let b = u.waiting_are in
          let c = u.rows_are in
          let same : flat last t w r ≡ before = rw (a, b, c) refl in
          record {
            result = s.result;
            seats = ap flat_is same;
            arrays = same;
            buffer = s.buffer;
            seat_is_lem = u.seat_is_lem;
            len_is = s.len_is;
            value_is = s.value_is;
          }

      pub dispatch_serves : (y : ℤ) → y ≡ z → ServeLeaves called₂ i last₀ w₀ r₀ last w r k₀ k seat₀ seat len₀ len v₀ v z
          → DispatchLeaves answered before (flat last t w r) k₀ k seat₀ seat len₀ len v₀ v y
      dispatch_serves y same s =
          rw same
          (subst (λ (d : T.Dispatch). DispatchLeaves d before (flat last t w r) k₀ k seat₀ seat len₀ len v₀ v z) (sym (answer_is_lem called₂.answer refl))
          (by_answer_lem called₂.answer called₂.reading s))
