-- The two searches through the seats.
--     seat_passes, right_is                       one seat; whether the seats are right
--     turn_begins, turn_here, turn_on, turn_none     whose turn it is
-- Assumes nothing.
use mathlib.Core.Path.{◌≡◌, refl, sym, ap, ap₂, ◌∙◌}
use mathlib.Core.Bool.{Bool, true, false, cond, ◌&&◌, ◌||◌, not}
use mathlib.Core.Option.{some, none}
use mathlib.Core.List.{List, [], ◌∷◌, map}
use Prim.Native.Nat.{ℕ, suc, ◌+◌, ◌-◌, ◌%◌, ◌≤◌, ◌<◌}
use native.Mathlib.Omega.{arith}
use borrow.Author.Tests.{le-leb}
use lib.ListN.{length, get_or}
use Rattle.std.specs.List.{list_all}
use Rattle.std.specs.Option.{is_some}
use Rattle.std.specs.Prelude.{Option, Some, None}
use Rattle.turns.specs.Turns as T
use Rattle.turns.specs.Turns.{no_seat, seat_at, seat_test, all_seats, right_test, turn_from, turn, taken}
use Rattle.stream.specs.declared.Plain.{Plain}
use Rattle.seats_turn.specs.declared.Seat.{Seat}
use Rattle.seats_turn.specs.declared.Seats.{Seats}
use Rattle.seats_turn.specs.SeatViews.{held_is, seat_is, seats_is}
use Rattle.seats_turn.specs.SeatViewsLaws.{seat_at_lem}

-- ---- whether they are right

-- as the code judges a seat
abbrev pub seat_passes : Seat → Bool
seat_passes x = is_some x.reading || not x.waiting

passes_is : (o : Option Plain) (w : Bool) → (is_some o || not w) ≡ cond w (taken (held_is o)) true
passes_is (Some p) true = refl
passes_is (Some p) false = refl
passes_is None true = refl
passes_is None false = refl

all_pass : (l : List Seat) → list_all seat_passes l ≡ all_seats (map seat_is l)
unfolding all_seats
all_pass [] = refl
all_pass (x ∷ l) = ap₂ (λ (a b : Bool). a && b) (passes_is x.reading x.waiting) (all_pass l)

pub right_is : (s : Seats) → s.last ≤ 7 → list_all seat_passes s.seats ≡ right_test (seats_is s)
right_is s h = rw (le-leb s.last 7 h) (all_pass s.seats)

module _ (s : Seats) (eight : length s.seats ≡ 8) where
  -- ---- whose turn it is

  -- one of the seats left to look at
  turn_from_lem : (n : ℕ) (d : Seat) → n < 8
      → turn_from (8 - n) (seats_is s) ((s.last + n) % 8)
      ≡ cond (get_or s.seats ((s.last + 1 + n) % 8) d).waiting (some ((s.last + 1 + n) % 8)) (turn_from (8 - (n + 1)) (seats_is s) ((s.last + (n + 1)) % 8))
  unfolding turn_from
  turn_from_lem n d h =
      let more : 8 - n ≡ suc (8 - (n + 1)) = omega arith in
      let here : ((s.last + n) % 8 + 1) % 8 ≡ (s.last + 1 + n) % 8 = omega arith in
      let next : (s.last + (n + 1)) % 8 ≡ (s.last + 1 + n) % 8 = omega arith in
      rw (more, here, next)
      (ap (λ (x : T.Seat). cond x.waiting (some ((s.last + 1 + n) % 8)) (turn_from (8 - (n + 1)) (seats_is s) ((s.last + 1 + n) % 8)))
      (seat_at_lem s.seats ((s.last + 1 + n) % 8) d (omega arith)))

  -- the turn is the first that waits of the seats left after n were looked at
  abbrev pub TurnLeft : ℕ → Type 0
  TurnLeft n = turn (seats_is s) ≡ turn_from (8 - n) (seats_is s) ((s.last + n) % 8)

  pub turn_begins : s.last ≤ 7 → TurnLeft 0
  unfolding turn
  turn_begins h = let same : (s.last + 0) % 8 ≡ s.last = omega arith in rw same

  pub turn_here : (n : ℕ) (d : Seat) → n < 8 → TurnLeft n → (get_or s.seats ((s.last + 1 + n) % 8) d).waiting ≡ true
      → some ((s.last + 1 + n) % 8) ≡ turn (seats_is s)
  turn_here n d h e w = sym (e ∙ turn_from_lem n d h ∙ rw w)

  pub turn_on : (n : ℕ) (d : Seat) → n < 8 → TurnLeft n → (get_or s.seats ((s.last + 1 + n) % 8) d).waiting ≡ false → TurnLeft (n + 1)
  turn_on n d h e w = e ∙ turn_from_lem n d h ∙ rw w

  pub turn_none : (n : ℕ) → 8 ≤ n → TurnLeft n → none ≡ turn (seats_is s)
  unfolding turn_from
  turn_none n h e = let no : 8 - n ≡ 0 = omega arith in sym (e ∙ rw no)
