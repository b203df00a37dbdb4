-- The two searches through the seats.
--     seat_passes                                          one seat
--     right_over, right_is                                 whether the seats are right
--     turn_begins, turn_here, turn_on, turn_none           whose turn it is
-- Assumes nothing.
use mathlib.Core.Path.{◌≡◌, refl, sym, ap, ap₂, ◌∙◌}
use mathlib.Core.Bool.{Bool, true, false, cond, ◌&&◌, ◌||◌, not}
use mathlib.Core.Option.{some, none}
use mathlib.Core.List.{List, []}
use Prim.Native.Nat.{ℕ, zero, suc, ◌+◌, ◌-◌, ◌%◌, ◌≤◌, ◌<◌}
use native.Mathlib.Omega.{arith}
use borrow.Author.Tests.{lt-leb, le-leb}
use lib.ListN.{length, get_or, drop, drop_of_length-le}
use lib.Seq.{drop-cons}
use Rattle.std.proofs.Math.Dec.{eqb, eqb-suc-zero}
use Rattle.std.specs.List.{list_all, zip}
use Rattle.plain.specs.Plain as P
use Rattle.turns.specs.Turns as T
use Rattle.turns.specs.Turns.{no_seat, seat_test, all_seats, right_test, turn_from, turn}
use Rattle.seats_arrays.specs.SeatArrays.{flag, held_if, seat_of, table, seats_of}
use Rattle.seats_arrays.specs.SeatArraysLaws.{flag_yes, flag_no, table_len, table_at, seat_in}

-- as the code judges the two numbers of a seat
abbrev pub seat_passes : ℕ × ℕ → Bool
seat_passes p = eqb p.1 0 || not (eqb p.0 0)

module _ (last : ℕ) (t w : List ℕ) (plains : ℕ → P.Plain) where
  abbrev pub all : T.Seats
  all = seats_of last t w plains

  abbrev pub views : List T.Seat
  views = table 8 (seat_of t w plains)

  -- a seat that does not wait, or has a reading
  passes_is : (has waits : ℕ) (p : P.Plain) → (eqb waits 0 || not (eqb has 0)) ≡ cond (flag waits) (T.taken (held_if (flag has) p)) true
  passes_is zero zero p = refl
  passes_is zero (suc m) p = rw (eqb-suc-zero m)
  passes_is (suc n) zero p = refl
  passes_is (suc n) (suc m) p = rw (eqb-suc-zero n, eqb-suc-zero m)

  -- ---- whether they are right

  -- the seats from place i on
  all_from : (i : ℕ) → i < 8 → all_seats (drop i views) ≡ (seat_test (seat_of t w plains i) && all_seats (drop (suc i) views))
  unfolding all_seats
  all_from i h =
      ap all_seats (drop-cons views i no_seat (omega (arith, table_len 8 (seat_of t w plains))))
      ∙ ap (λ (x : T.Seat). seat_test x && all_seats (drop (suc i) views)) (table_at 8 (seat_of t w plains) i no_seat h)

  pub right_over : 7 < last → false ≡ right_test all
  right_over h = rw (lt-leb last 7 h)

  passes_left : length t ≡ 8 → length w ≡ 8 → (n i : ℕ) → n + i ≡ 8 → list_all seat_passes (zip (drop i t) (drop i w)) ≡ all_seats (drop i views)
  unfolding all_seats
  passes_left a b zero i e =
      let none : drop i t ≡ [] = drop_of_length-le t {i = i} (omega arith) in
      let past : drop i views ≡ [] = drop_of_length-le views {i = i} (omega (arith, table_len 8 (seat_of t w plains))) in
      ap (λ (xs : List ℕ). list_all seat_passes (zip xs (drop i w))) none ∙ sym (ap all_seats past)
  passes_left a b (suc n) i e =
      ap₂ (λ (xs ys : List ℕ). list_all seat_passes (zip xs ys)) (drop-cons t i 0 (omega arith)) (drop-cons w i 0 (omega arith))
      ∙ ap₂ (λ (x y : Bool). x && y) (passes_is (get_or t i 0) (get_or w i 0) (plains i)) (passes_left a b n (suc i) (omega arith))
      ∙ sym (all_from i (omega arith))

  pub right_is : length t ≡ 8 → length w ≡ 8 → last ≤ 7 → list_all seat_passes (zip t w) ≡ right_test all
  right_is a b h = rw (le-leb last 7 h) (passes_left a b 8 0 refl)

  -- ---- whose turn it is

  -- one of the seats left to look at
  turn_from_lem : (n : ℕ) → n < 8
      → turn_from (8 - n) all ((last + n) % 8)
      ≡ cond (flag (get_or w ((last + 1 + n) % 8) 0)) (some ((last + 1 + n) % 8)) (turn_from (8 - (n + 1)) all ((last + (n + 1)) % 8))
  unfolding turn_from
  turn_from_lem n h =
      let more : 8 - n ≡ suc (8 - (n + 1)) = omega arith in
      let here : ((last + n) % 8 + 1) % 8 ≡ (last + 1 + n) % 8 = omega arith in
      let next : (last + (n + 1)) % 8 ≡ (last + 1 + n) % 8 = omega arith in
      rw (more, here, next)
      (ap (λ (x : T.Seat). cond x.waiting (some ((last + 1 + n) % 8)) (turn_from (8 - (n + 1)) all ((last + 1 + n) % 8)))
      (seat_in last t w plains ((last + 1 + n) % 8) (omega arith)))

  -- the turn is the first that waits of the seats left after n were looked at
  abbrev pub TurnLeft : ℕ → Type 0
  TurnLeft n = turn all ≡ turn_from (8 - n) all ((last + n) % 8)

  pub turn_begins : last ≤ 7 → TurnLeft 0
  unfolding turn
  turn_begins h = let same : (last + 0) % 8 ≡ last = omega arith in rw same

  pub turn_here : (n : ℕ) → n < 8 → TurnLeft n → ¬ (get_or w ((last + 1 + n) % 8) 0 ≡ 0) → some ((last + 1 + n) % 8) ≡ turn all
  turn_here n h e ww = let a = flag_yes (get_or w ((last + 1 + n) % 8) 0) ww in sym (e ∙ turn_from_lem n h ∙ rw a)

  pub turn_on : (n : ℕ) → n < 8 → TurnLeft n → get_or w ((last + 1 + n) % 8) 0 ≡ 0 → TurnLeft (n + 1)
  turn_on n h e ww = let a = flag_no (get_or w ((last + 1 + n) % 8) 0) ww in e ∙ turn_from_lem n h ∙ rw a

  pub turn_none : (n : ℕ) → 8 ≤ n → TurnLeft n → none ≡ turn all
  unfolding turn_from
  turn_none n h e = let no : 8 - n ≡ 0 = omega arith in sym (e ∙ rw no)
