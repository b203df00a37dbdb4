-- What the functions of seats for C answer, and what they leave in each array and number, in every case (include/baxhiso.h). `Flat` of `seats_arrays` has
-- the arrays, and `flat_is` the seats that they hold.
--     EmptyLeaves ..         the arrays of no readings
--     RaiseLeaves q ..       raising that answers q: the result and the arrays; RaiseTold of any readings
--     SeatLeaves q ..        seating that answers q
--     ServeLeaves            one call of a seat's reading
--     DispatchLeaves q ..    a dispatch that answers q: the result, the arrays, the key buffer, the seat, the key's length and its value
-- A name with ₀ is what the caller handed in. Assumes nothing.
use Rattle.std.specs.Prelude.{◌≡◌, List, ℕ, ℤ, set, replicate}
use Rattle.reading.specs.Reading as R
use Rattle.reading.specs.Reading.{key, end, written}
use Rattle.plain.specs.Plain as P
use Rattle.turns.specs.Turns as T
use Rattle.stream.specs.declared.Plain.{Plain}
use Rattle.stream.specs.Plains.{plain_is}
use Rattle.stream_arrays.specs.Arrays.{Held, held_as}
use Rattle.seats_arrays.specs.SeatArrays.{Rows, rows_set, Flat, flat, flat_is}
use Rattle.seats_keep.specs.Keeps.{KeptIn}
use Rattle.seats.specs.SeatCalls.{buffer_after}
use Rattle.baxhiso.specs.Exports.{OK, NONE, code}
use Rattle.baxhiso_readings.specs.Readings.{next_result, next_len, next_value}

-- ---- no readings

pub record EmptyLeaves (last : ℕ) (t w : List ℕ) : Type 0 where
  pub last_is : last ≡ 7
  pub taken_are : t ≡ replicate 8 0
  pub waiting_are : w ≡ replicate 8 0
  -- whatever the rows of the readings hold
  pub seats : (readings : Rows) → flat_is (flat last t w readings) ≡ T.new

-- ---- raise, seat

abbrev pub done_result : T.Done → ℤ
done_result (T.done t) = OK
done_result (T.Done.refused n) = code n

abbrev pub after_raise : T.Done → Flat → ℕ → Flat
after_raise (T.done t) a i = flat a.last a.taken (set a.waiting i 1) a.readings
after_raise (T.Done.refused n) a i = a

pub record RaiseLeaves (q : T.Done) (a₀ : Flat) (i : ℕ) (a : Flat) (r : ℤ) : Type 0 where
  pub result : r ≡ done_result q
  pub seats : flat_is a ≡ T.or_kept (flat_is a₀) q
  -- every entry
  pub arrays : a ≡ after_raise q a₀ i

-- whatever the rows of the readings hold
abbrev pub RaiseTold : ℕ → List ℕ → List ℕ → ℕ → List ℕ → ℤ → Type 0
RaiseTold last t w₀ i w r = (readings : Rows) → RaiseLeaves (T.raise (flat_is (flat last t w₀ readings)) i) (flat last t w₀ readings) i (flat last t w readings) r

abbrev pub after_seat : T.Done → Flat → ℕ → Held → ℕ → Flat
after_seat (T.done t) a i h n = flat a.last (set a.taken i 1) a.waiting (rows_set a.readings i h n)
after_seat (T.Done.refused m) a i h n = a

-- h and n are the arrays of the reading that is seated, and its number of keys to come
pub record SeatLeaves (q : T.Done) (a₀ : Flat) (i : ℕ) (h : Held) (n : ℕ) (a : Flat) (r : ℤ) : Type 0 where
  pub result : r ≡ done_result q
  pub seats : flat_is a ≡ T.or_kept (flat_is a₀) q
  pub arrays : a ≡ after_seat q a₀ i h n

-- ---- one call of a seat's reading

pub record Kept (q : P.Plain) (i : ℕ) (w₀ : List ℕ) (r₀ : Rows) (last : ℕ) (w : List ℕ) (r : Rows) (seat : ℕ) : Type 0 where
  pub plain : Plain
  pub is : plain_is plain ≡ q
  pub kept : KeptIn plain i w₀ r₀ last w r seat

pub record Unchanged (last₀ : ℕ) (w₀ : List ℕ) (r₀ : Rows) (seat₀ last : ℕ) (w : List ℕ) (r : Rows) (seat : ℕ) : Type 0 where
  pub last_is : last ≡ last₀
  pub waiting_are : w ≡ w₀
  pub rows_are : r ≡ r₀
  pub seat_is_lem : seat ≡ seat₀

-- by the answer of the call
abbrev pub KeptBy : R.Answer → P.Plain → ℕ → ℕ → List ℕ → Rows → ℕ → ℕ → List ℕ → Rows → ℕ → Type 0
KeptBy (key k v) q i last₀ w₀ r₀ seat₀ last w r seat = Kept q i w₀ r₀ last w r seat
KeptBy end q i last₀ w₀ r₀ seat₀ last w r seat = Kept q i w₀ r₀ last w r seat
KeptBy (R.Answer.refused n) q i last₀ w₀ r₀ seat₀ last w r seat = Unchanged last₀ w₀ r₀ seat₀ last w r seat

pub record ServeLeaves (q : P.PlainStep) (i last₀ : ℕ) (w₀ : List ℕ) (r₀ : Rows) (last : ℕ) (w : List ℕ) (r : Rows) (k₀ k : List ℕ)
    (seat₀ seat len₀ len v₀ v : ℕ) (z : ℤ) : Type 0 where
  pub result : z ≡ next_result q.answer
  pub kept : KeptBy q.answer q.reading i last₀ w₀ r₀ seat₀ last w r seat
  pub buffer : k ≡ written q.answer k₀
  pub len_is : len ≡ next_len q.answer len₀
  pub value_is : v ≡ next_value q.answer v₀

-- ---- dispatch

abbrev pub dispatch_result : T.Dispatch → ℤ
dispatch_result (T.served i a t) = next_result a
dispatch_result T.nobody = NONE
dispatch_result (T.Dispatch.refused n) = code n

abbrev pub served_seat : T.Dispatch → ℕ → ℕ
served_seat (T.served i a t) seat₀ = i
served_seat T.nobody seat₀ = seat₀
served_seat (T.Dispatch.refused n) seat₀ = seat₀

abbrev pub served_len : T.Dispatch → ℕ → ℕ
served_len (T.served i a t) len₀ = next_len a len₀
served_len T.nobody len₀ = len₀
served_len (T.Dispatch.refused n) len₀ = len₀

abbrev pub served_value : T.Dispatch → ℕ → ℕ
served_value (T.served i a t) v₀ = next_value a v₀
served_value T.nobody v₀ = v₀
served_value (T.Dispatch.refused n) v₀ = v₀

-- every entry: only what belongs to the seat served is written, with a reading of the code; `seats` of DispatchLeaves says which reading
abbrev pub ArraysAfter : T.Dispatch → Flat → Flat → Type 0
ArraysAfter (T.served i a t) a₀ a' =
    (p : Plain) × (a' ≡ flat i a₀.taken (set a₀.waiting i 0) (rows_set a₀.readings i (held_as p.reading) p.keys))
ArraysAfter T.nobody a₀ a = a ≡ a₀
ArraysAfter (T.Dispatch.refused n) a₀ a = a ≡ a₀

pub record DispatchLeaves (q : T.Dispatch) (a₀ a : Flat) (k₀ k : List ℕ) (seat₀ seat len₀ len v₀ v : ℕ) (r : ℤ) : Type 0 where
  pub result : r ≡ dispatch_result q
  -- those given, after a refusal and with nobody waiting
  pub seats : flat_is a ≡ T.dispatched (flat_is a₀) q
  pub arrays : ArraysAfter q a₀ a
  pub buffer : k ≡ buffer_after q k₀
  pub seat_is_lem : seat ≡ served_seat q seat₀
  pub len_is : len ≡ served_len q len₀
  pub value_is : v ≡ served_value q v₀
