-- The view of the seats, place by place.
--     length_mapped   an array of structs has as many elements as the list of what they hold
--     seat_at_lem         the view of one of the seats
--     seats_put       the view after one seat was put in its place
--     new_is          the view of the seats that no_seats gives
-- Assumes nothing.
use Rattle.std.specs.Prelude.{◌≡◌, refl, List, [], ◌∷◌, map, ℕ, zero, suc, ◌<◌, length, get_or, set}
use Rattle.std.proofs.Common.{sym, ap, ◌∙◌, arith}
use Rattle.std.proofs.lemmas.List.{length-map}
use Rattle.turns.specs.Turns as T
use Rattle.turns.specs.Turns.{no_seat}
use Rattle.seats_turn.specs.declared.Seat.{Seat}
use Rattle.seats_turn.specs.SeatViews.{seat_is, seats_is, no_seats}

-- of an array of structs the checker tells the length at the fields of its elements
pub length_mapped : (X Y : Type 0) (f : X → Y) (l : List X) (n : ℕ) → length (map f l) ≡ n → length l ≡ n
length_mapped X Y f l n e = sym (length-map l f) ∙ e

pub seat_at_lem : (l : List Seat) (i : ℕ) (d : Seat) → i < length l → get_or (map seat_is l) i no_seat ≡ seat_is (get_or l i d)
seat_at_lem [] i d h = absurd (omega arith)
seat_at_lem (x ∷ l) zero d h = refl
seat_at_lem (x ∷ l) (suc i) d h = seat_at_lem l i d (omega arith)

pub seats_put : (l : List Seat) (i : ℕ) (x : Seat) → map seat_is (set l i x) ≡ set (map seat_is l) i (seat_is x)
seats_put [] i x = refl
seats_put (y ∷ l) zero x = refl
seats_put (y ∷ l) (suc i) x = ap (λ (r : List T.Seat). seat_is y ∷ r) (seats_put l i x)

pub new_is : seats_is no_seats ≡ T.new
new_is = refl
