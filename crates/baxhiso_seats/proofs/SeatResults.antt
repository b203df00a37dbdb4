-- From what raising and seating did to the arrays to what the functions for C leave.
-- Assumes nothing.
use mathlib.Core.Path.{◌≡◌, refl, ap, ap₂, ◌∙◌}
use mathlib.Core.Bool.{Bool, true, false}
use mathlib.Core.Option.{some}
use mathlib.Core.List.{List}
use Prim.Native.Nat.{ℕ, ◌<◌, ◌≤◌}
use native.Mathlib.Omega.{arith}
use borrow.Author.Tests.{lt-leb, le-leb}
use lib.IntN.{ℤ}
use lib.ListN.{get_or, replicate}
use Rattle.format.specs.Limits.{SEAT}
use Rattle.plain.specs.Plain as P
use Rattle.turns.specs.Turns as T
use Rattle.turns.specs.Turns.{seat_at, right_test, done, taken}
use Rattle.stream_arrays.specs.Arrays.{Held, held_plain}
use Rattle.seats_arrays.specs.SeatArrays.{FlagPut, flag, held_if, seat_of, Rows, plain_at, RowSet, Flat, flat, flat_is}
use Rattle.seats_arrays.specs.SeatArraysLaws.{flag_yes, flag_no, table_set, seat_in}
use Rattle.baxhiso.specs.Exports.{OK, code}
use Rattle.baxhiso_seats.specs.Seats.{RaiseLeaves, SeatLeaves}

-- ---- the definitions, by cases

module _ (s : T.Seats) (i : ℕ) where
  over_raise : 7 < i → T.raise s i ≡ T.Done.refused SEAT
  unfolding T.raise
  over_raise h = rw (lt-leb i 7 h)

  wrong_raise : i ≤ 7 → right_test s ≡ false → T.raise s i ≡ T.Done.refused SEAT
  unfolding T.raise
  wrong_raise h e = rw (le-leb i 7 h, e)

  empty_raise : i ≤ 7 → right_test s ≡ true → taken (seat_at s i).reading ≡ false → T.raise s i ≡ T.Done.refused SEAT
  unfolding T.raise
  empty_raise h e n = rw (le-leb i 7 h, e, n)

  right_raise : i ≤ 7 → right_test s ≡ true → taken (seat_at s i).reading ≡ true
      → T.raise s i ≡ done (T.with_seat s i (record { reading = (seat_at s i).reading; waiting = true }))
  unfolding T.raise
  right_raise h e y = rw (le-leb i 7 h, e, y)

  module _ (p : P.Plain) where
    over_seat : 7 < i → T.seat s i p ≡ T.Done.refused SEAT
    unfolding T.seat
    over_seat h = rw (lt-leb i 7 h)

    wrong_seat : i ≤ 7 → right_test s ≡ false → T.seat s i p ≡ T.Done.refused SEAT
    unfolding T.seat
    wrong_seat h e = rw (le-leb i 7 h, e)

    right_seat : i ≤ 7 → right_test s ≡ true → T.seat s i p ≡ done (T.with_seat s i (record { reading = some p; waiting = (seat_at s i).waiting }))
    unfolding T.seat
    right_seat h e = rw (le-leb i 7 h, e)

held_taken : (b : Bool) (p : P.Plain) → taken (held_if b p) ≡ b
held_taken true p = refl
held_taken false p = refl

-- ---- raise

module _ (last : ℕ) (t w : List ℕ) (i : ℕ) (readings : Rows) where
  abbrev given : Flat
  given = flat last t w readings

  raise_refused : (z : ℤ) → T.raise (flat_is given) i ≡ T.Done.refused SEAT → z ≡ code SEAT → RaiseLeaves (T.raise (flat_is given) i) given i given z
  raise_refused z e is = rw e (record { result = is; seats = refl; arrays = refl })

  pub raise_number : (z : ℤ) → 7 < i → z ≡ code SEAT → RaiseLeaves (T.raise (flat_is given) i) given i given z
  raise_number z h is = raise_refused z (over_raise (flat_is given) i h) is

  pub raise_wrong : (z : ℤ) → i ≤ 7 → right_test (flat_is given) ≡ false → z ≡ code SEAT → RaiseLeaves (T.raise (flat_is given) i) given i given z
  raise_wrong z h e is = raise_refused z (wrong_raise (flat_is given) i h e) is

  taken_is : i ≤ 7 → (b : Bool) → flag (get_or t i 0) ≡ b → taken (seat_at (flat_is given) i).reading ≡ b
  taken_is h b e =
      ap (λ (x : T.Seat). taken x.reading) (seat_in last t w (plain_at readings) i (omega arith)) ∙ held_taken (flag (get_or t i 0)) (plain_at readings i) ∙ e

  pub raise_empty : (z : ℤ) → i ≤ 7 → right_test (flat_is given) ≡ true → get_or t i 0 ≡ 0 → z ≡ code SEAT
      → RaiseLeaves (T.raise (flat_is given) i) given i given z
  raise_empty z h e n is = raise_refused z (empty_raise (flat_is given) i h e (taken_is h false (flag_no (get_or t i 0) n))) is

  abbrev waits : T.Seat
  waits = record { reading = (seat_at (flat_is given) i).reading; waiting = true }

  pub raise_done : (w' : List ℕ) → FlagPut i 1 w w' → i ≤ 7 → right_test (flat_is given) ≡ true → ¬ (get_or t i 0 ≡ 0)
      → RaiseLeaves (T.raise (flat_is given) i) given i (flat last t w' readings) OK
  raise_done w' put h e n =
      rw (right_raise (flat_is given) i h e (taken_is h true (flag_yes (get_or t i 0) n)))
      (record { result = refl; seats = seats; arrays = ap (λ (l : List ℕ). flat last t l readings) put.is })
    where
      here : seat_of t w' (plain_at readings) i ≡ waits
      here =
          let a = put.here in
          let b = seat_in last t w (plain_at readings) i (omega arith) in
          rw (a, b) refl

      others : (j : ℕ) → ¬ (j ≡ i) → seat_of t w' (plain_at readings) j ≡ seat_of t w (plain_at readings) j
      others j ne = let a = put.others j ne in rw a refl

      seats : flat_is (flat last t w' readings) ≡ T.with_seat (flat_is given) i waits
      seats =
          ap (λ (l : List T.Seat). record { last = last; seats = l })
          (table_set 8 (seat_of t w (plain_at readings)) (seat_of t w' (plain_at readings)) i waits here others)

-- ---- seat

module _ (last : ℕ) (t w : List ℕ) (i : ℕ) (r₀ : Rows) (h : Held) (n : ℕ) where
  abbrev before : Flat
  before = flat last t w r₀

  abbrev placed : P.Plain
  placed = held_plain h (replicate 1 n)

  seat_refused : (z : ℤ) → T.seat (flat_is before) i placed ≡ T.Done.refused SEAT → z ≡ code SEAT → SeatLeaves (T.seat (flat_is before) i placed) before i h n before z
  seat_refused z e is = rw e (record { result = is; seats = refl; arrays = refl })

  pub seat_number : (z : ℤ) → 7 < i → z ≡ code SEAT → SeatLeaves (T.seat (flat_is before) i placed) before i h n before z
  seat_number z l is = seat_refused z (over_seat (flat_is before) i placed l) is

  pub seat_wrong : (z : ℤ) → i ≤ 7 → right_test (flat_is before) ≡ false → z ≡ code SEAT → SeatLeaves (T.seat (flat_is before) i placed) before i h n before z
  seat_wrong z l e is = seat_refused z (wrong_seat (flat_is before) i placed l e) is

  abbrev sits : T.Seat
  sits = record { reading = some placed; waiting = (seat_at (flat_is before) i).waiting }

  pub seat_done : (t' : List ℕ) → FlagPut i 1 t t' → i ≤ 7 → right_test (flat_is before) ≡ true → (r : Rows) → RowSet h n i r₀ r
      → SeatLeaves (T.seat (flat_is before) i placed) before i h n (flat last t' w r) OK
  seat_done t' put l e r row =
      rw (right_seat (flat_is before) i placed l e)
      (record { result = refl; seats = seats; arrays = ap₂ (λ (x : List ℕ) (y : Rows). flat last x w y) put.is row.is })
    where
      here : seat_of t' w (plain_at r) i ≡ sits
      here =
          let a = put.here in
          let b = seat_in last t w (plain_at r₀) i (omega arith) in
          let c = row.here in
          rw (a, b, c) refl

      others : (j : ℕ) → ¬ (j ≡ i) → seat_of t' w (plain_at r) j ≡ seat_of t w (plain_at r₀) j
      others j ne =
          let a = put.others j ne in
          let b = row.others j ne in
          rw (a, b) refl

      seats : flat_is (flat last t' w r) ≡ T.with_seat (flat_is before) i sits
      seats =
          ap (λ (x : List T.Seat). record { last = last; seats = x })
          (table_set 8 (seat_of t w (plain_at r₀)) (seat_of t' w (plain_at r)) i sits here others)
