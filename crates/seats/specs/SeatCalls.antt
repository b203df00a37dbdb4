-- What the calls of this crate tell, against `Turns` (crate turns).
--     changed_is r              what seating and raising answered
--     served_of, served_as, seats_after, buffer_after     the parts of what a dispatch answers
--     DispatchTold w given ..   what a dispatch answers, where the definition answers w, and the buffer before and after
-- Assumes nothing.
use Rattle.std.specs.Prelude.{◌≡◌, List, ℕ, length, Ok, Err, Result}
use Rattle.format.specs.declared.Refusal.{Refusal}
use Rattle.reading.specs.Reading as R
use Rattle.reading.specs.Reading.{written}
use Rattle.turns.specs.Turns as T
use Rattle.seats_turn.specs.SeatViews.{seats_is}
use Rattle.seats_turn.specs.declared.Seats.{Seats}
use Rattle.seats.specs.declared.Served.{Served}
use Rattle.seats.specs.declared.Served.TheVariants.{Key, End, Nobody}
use Rattle.seats.specs.declared.Dispatched.{Dispatched}

abbrev pub changed_is : Result Seats Refusal → T.Done
changed_is (Ok s) = T.done (seats_is s)
changed_is (Err n) = T.Done.refused n

abbrev pub served_by : ℕ → R.Answer → Result Served Refusal
served_by i (R.key k v) = Ok (Key i (length k) v)
served_by i R.end = Ok (End i)
served_by i (R.Answer.refused n) = Err n

abbrev pub served_as : T.Dispatch → Result Served Refusal
served_as (T.served i a t) = served_by i a
served_as T.nobody = Ok Nobody
served_as (T.Dispatch.refused n) = Err n

abbrev pub buffer_after : T.Dispatch → List ℕ → List ℕ
buffer_after (T.served i a t) buf = written a buf
buffer_after T.nobody buf = buf
buffer_after (T.Dispatch.refused n) buf = buf

abbrev pub served_of : Result Dispatched Refusal → Result Served Refusal
served_of (Ok d) = Ok d.served
served_of (Err n) = Err n

-- the given ones, after a refusal
abbrev pub seats_after : T.Seats → Result Dispatched Refusal → T.Seats
seats_after given (Ok d) = seats_is d.seats
seats_after given (Err n) = given

pub record DispatchTold (w : T.Dispatch) (given : T.Seats) (buf₀ buf : List ℕ) (r : Result Dispatched Refusal) : Type 0 where
  pub served : served_of r ≡ served_as w
  pub seats : seats_after given r ≡ T.dispatched given w
  pub buffer : buf ≡ buffer_after w buf₀
