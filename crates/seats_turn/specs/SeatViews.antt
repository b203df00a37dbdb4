-- What the values of this crate stand for, against `Turns` (crate turns).
--     held_is               the reading of a seat, where it has one
--     seat_is, seats_is     a seat: its reading where it has one, and its request; the eight, and the seat served last
--     turn_is              whose turn it is
--     no_seats             the seats that no_seats gives
--     put_seat             one seat put in its place
-- Assumes nothing.
use Rattle.std.specs.Prelude.{false, map, ℕ, set, replicate}
use Rattle.std.specs.Prelude as Std
use Rattle.std.specs.Prelude.{Some, None}
use Rattle.std.proofs.Math.Option.{Option, none, some}
use Rattle.plain.specs.Plain as P
use Rattle.turns.specs.Turns as T
use Rattle.stream.specs.declared.Plain.{Plain}
use Rattle.stream.specs.Plains.{plain_is}
use Rattle.seats_turn.specs.declared.Seat.{Seat}
use Rattle.seats_turn.specs.declared.Seats.{Seats}

abbrev pub held_is : Std.Option Plain → Option P.Plain
held_is (Some p) = some (plain_is p)
held_is None = none

abbrev pub seat_is : Seat → T.Seat
seat_is x = record { reading = held_is x.reading; waiting = x.waiting }

abbrev pub seats_is : Seats → T.Seats
seats_is s = record { last = s.last; seats = map seat_is s.seats }

abbrev pub turn_is : Std.Option ℕ → Option ℕ
turn_is (Some i) = some i
turn_is None = none

abbrev pub empty_seat : Seat
empty_seat = record { reading = None; waiting = false }

abbrev pub no_seats : Seats
no_seats = record { last = 7; seats = replicate 8 empty_seat }

abbrev pub put_seat : T.Seats → ℕ → ℕ → T.Seat → T.Seats
put_seat s last i x = record { last = last; seats = set s.seats i x }
