-- Eight seats in arrays, as a caller in another language keeps them between calls, against `Turns` (crate turns).
--     flag n                      whether a number stands for yes: any but 0
--     table n f                   f 0, .., f (n - 1)
--     seats_of last t w plains     the eight seats: the one served last, who has a reading, who waits, and the readings
--     RightTold, TurnTold         whether the seats are right, and whose turn it is, for any readings
--     FlagPut                     a seat's number in one of these two lists is now n, and the others are as they were
--     Rows, row_of, plain_of        the arrays of eight readings, a row for each seat; a seat's arrays, and the reading that they hold
--     Within i r                  there is a row for seat i
--     Flat, flat_is                all arrays, and the seats that they hold
--     RowSet h n i r₀ r           the row of seat i is now these arrays and this number of keys to come, and the other rows are as they were
--     RowPut p i r₀ r             the same with the arrays of a reading
-- A name with ₀ is what was there before. Assumes nothing.
use Rattle.std.specs.Prelude.{◌≡◌, Bool, true, false, List, [], ◌∷◌, ℕ, zero, suc, ◌<◌, length, get_or, set, replicate}
use Rattle.std.specs.Prelude as Std
use Rattle.std.proofs.Math.Option.{Option, none, some}
use Rattle.plain.specs.Plain as P
use Rattle.turns.specs.Turns as T
use Rattle.seats_turn.specs.SeatViews.{turn_is}
use Rattle.stream.specs.declared.Plain.{Plain}
use Rattle.stream.specs.Plains.{plain_is}
use Rattle.stream_arrays.specs.Arrays.{Held, held, held_is, held_as, held_plain}

-- ---- who has a reading, and who waits

abbrev pub flag : ℕ → Bool
flag zero = false
flag (suc n) = true

abbrev pub held_if : Bool → P.Plain → Option P.Plain
held_if true p = some p
held_if false p = none

abbrev pub seat_of : List ℕ → List ℕ → (ℕ → P.Plain) → ℕ → T.Seat
seat_of t w plains i = record { reading = held_if (flag (get_or t i 0)) (plains i); waiting = flag (get_or w i 0) }

abbrev pub table : ℕ → (ℕ → T.Seat) → List T.Seat
table zero f = []
table (suc n) f = f 0 ∷ table n (λ i. f (suc i))

abbrev pub seats_of : ℕ → List ℕ → List ℕ → (ℕ → P.Plain) → T.Seats
seats_of last t w plains = record { last = last; seats = table 8 (seat_of t w plains) }

-- whatever the readings are
abbrev pub RightTold : ℕ → List ℕ → List ℕ → Bool → Type 0
RightTold last t w r = (plains : ℕ → P.Plain) → r ≡ T.right_test (seats_of last t w plains)

abbrev pub TurnTold : ℕ → List ℕ → Std.Option ℕ → Type 0
TurnTold last w r = (t : List ℕ) (plains : ℕ → P.Plain) → turn_is r ≡ T.turn (seats_of last t w plains)

pub record FlagPut (i n : ℕ) (l₀ l : List ℕ) : Type 0 where
  pub is : l ≡ set l₀ i n
  pub here : get_or l i 0 ≡ n
  pub others : (j : ℕ) → ¬ (j ≡ i) → get_or l j 0 ≡ get_or l₀ j 0

-- ---- eight readings

pub record Rows : Type 0 where
  pub heads : List (List ℕ)
  pub bounds : List (List ℕ)
  pub addrs : List (List ℕ)
  pub inps : List (List ℕ)
  pub trans : List (List ℕ)
  pub outs : List (List ℕ)
  pub keys : List ℕ

abbrev pub rows : List (List ℕ) → List (List ℕ) → List (List ℕ) → List (List ℕ) → List (List ℕ) → List (List ℕ) → List ℕ → Rows
rows h b a i t o k = record { heads = h; bounds = b; addrs = a; inps = i; trans = t; outs = o; keys = k }

abbrev pub row_of : Rows → ℕ → Held
row_of r i =
    held (get_or r.heads i []) (get_or r.bounds i []) (get_or r.addrs i []) (get_or r.inps i []) (get_or r.trans i []) (get_or r.outs i [])

-- each array has a row for seat i
pub record Within (i : ℕ) (r : Rows) : Type 0 where
  pub heads : i < length r.heads
  pub bounds : i < length r.bounds
  pub addrs : i < length r.addrs
  pub inps : i < length r.inps
  pub trans : i < length r.trans
  pub outs : i < length r.outs
  pub keys : i < length r.keys

-- of the code, and what it says
abbrev pub plain_of : Rows → ℕ → Plain
plain_of r i = record { reading = held_is (row_of r i); keys = get_or r.keys i 0 }

abbrev pub plain_at : Rows → ℕ → P.Plain
plain_at r i = plain_is (plain_of r i)

abbrev pub rows_set : Rows → ℕ → Held → ℕ → Rows
rows_set r i h n =
    rows (set r.heads i h.head) (set r.bounds i h.bound) (set r.addrs i h.addrs) (set r.inps i h.inps) (set r.trans i h.trans)
    (set r.outs i h.outs) (set r.keys i n)

pub record RowSet (h : Held) (n i : ℕ) (r₀ r : Rows) : Type 0 where
  pub is : r ≡ rows_set r₀ i h n
  pub here : plain_at r i ≡ held_plain h (replicate 1 n)
  pub others : (j : ℕ) → ¬ (j ≡ i) → plain_at r j ≡ plain_at r₀ j

pub record RowPut (p : Plain) (i : ℕ) (r₀ r : Rows) : Type 0 where
  pub is : r ≡ rows_set r₀ i (held_as p.reading) p.keys
  pub here : plain_at r i ≡ plain_is p
  pub others : (j : ℕ) → ¬ (j ≡ i) → plain_at r j ≡ plain_at r₀ j

-- ---- all of it

pub record Flat : Type 0 where
  pub last : ℕ
  pub taken : List ℕ
  pub waiting : List ℕ
  pub readings : Rows

abbrev pub flat : ℕ → List ℕ → List ℕ → Rows → Flat
flat last t w r = record { last = last; taken = t; waiting = w; readings = r }

abbrev pub flat_is : Flat → T.Seats
flat_is a = seats_of a.last a.taken a.waiting (plain_at a.readings)
