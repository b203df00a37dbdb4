-- What is kept of a seat that was served.
--     KeptIn p i ..        the arrays after seat i was served with a call that gave back the reading p
-- A name with ₀ is what the caller handed in. Assumes nothing.
use Rattle.std.specs.Prelude.{◌≡◌, List, ℕ}
use Rattle.stream.specs.declared.Plain.{Plain}
use Rattle.seats_arrays.specs.SeatArrays.{FlagPut, Rows, RowPut}

-- seat i holds the reading p and waits no more, and the next turn begins after it
pub record KeptIn (p : Plain) (i : ℕ) (w₀ : List ℕ) (r₀ : Rows) (last : ℕ) (w : List ℕ) (r : Rows) (seat : ℕ) : Type 0 where
  pub last_is : last ≡ i
  pub waits : FlagPut i 0 w₀ w
  pub row : RowPut p i r₀ r
  pub seat_is_lem : seat ≡ i
