-- What is promised of eight seats on one file (document 02, N13), over the calls of `Turns`.
--
--     A waiting seat is served within eight unrefused dispatches            `Fairness`, for every list of events: raising or seating anywhere, and
--     whatever others raise,                                                dispatches with any file and buffer, refused or not (FairLaws, `fairness`)
--     Each dispatch serves one waiting seat with one call of its            `OneServed`, `Serves` (TurnsLaws, `one_served`, `serves`)
--     reading, in turn after the seat served last, and clears its request.
--     Serving one seat changes no other seat's answers.                     `Alone` (AloneLaws, `alone`, `alone_same`); `SeatDemand`: demand 3 for a
--                                                                           seat by itself (`seat_demand_3`)
--     One dispatch follows no more transitions than the longest             `FollowsAtMost` (DispatchLimitLaws, `dispatch_limit`,
--     held key has bytes.                                                   `dispatch_limit_after`)
--     With nobody waiting, only SEAT is judged, it says so and              TurnsLaws, `dispatch_nobody`: any file and any buffer; the seats are not
--     nothing changes.                                                      in the answer
--
--     SeatsRight                  eight seats, `last` at most 7, and every waiting seat has a reading
--     unrefused_in, ahead          the unrefused dispatches of a list of events; the seats whose turn comes before w's
--     Past, past_after             a seat's past: the reading seated there last, and the calls that served it since
--     dispatch_follows, CameFrom   the transitions of a dispatch, and the readings of the claim about them
-- Assumes nothing.
use Prim.{Unit}
use Rattle.std.specs.Prelude.{◌≡◌, ◌⊎◌, true, false, cond, ℕ, ◌+◌, ◌-◌, ◌%◌, ◌≤◌, eqb, length, take}
use Rattle.std.proofs.Math.Option.{Option, none, some}
use Rattle.format.specs.declared.Refusal.{Refusal}
use mathlib.Core.List.{List, [], ◌∷◌, ◌++◌, map, Memᴰ}
use Rattle.format.specs.Paths.{fst_of}
use Rattle.format.specs.Admitted.{Admitted}
use Rattle.format.specs.Strings.{Bound}
use Rattle.reading.specs.Reading.{Answer, next}
use Rattle.reading.specs.Demand.{Call, at_zero}
use Rattle.plain.specs.Numbers.{TableFits}
use Rattle.plain.specs.Plain.{Plain, begun, start_plain, next_plain, plain_after, answers_plain}
use Rattle.plain.specs.PlainDemand.{DemandPlain}
use Rattle.turns.specs.Turns.{Seats, seat_at, taken, right_test, turn, Done, done, seat, Dispatch, served, nobody, dispatch, Event, raises, sits, dispatches, after_event, after, new}

-- ---- right seats

-- right_test decides it of eight seats (TurnsLaws, `right_test_lem`, `test_right`)
pub record SeatsRight (s : Seats) : Type 0 where
  pub eight : length s.seats ≡ 8
  pub last_within : s.last ≤ 7
  pub waiting_taken : (i : ℕ) → (seat_at s i).waiting ≡ true → taken (seat_at s i).reading ≡ true

-- ---- a waiting seat

-- the unrefused dispatches: the seat that each served, or none where nobody waited
abbrev pub unrefused_then : Dispatch → List (Option ℕ) → List (Option ℕ)
unrefused_then (served i a t) more = some i ∷ more
unrefused_then nobody more = none ∷ more
unrefused_then (Dispatch.refused n) more = more

abbrev pub unrefused_in : Seats → List Event → List (Option ℕ)
unrefused_in s [] = []
unrefused_in s (raises i ∷ es) = unrefused_in (after_event s (raises i)) es
unrefused_in s (sits i r ∷ es) = unrefused_in (after_event s (sits i r)) es
unrefused_in s (dispatches file space ∷ es) = unrefused_then (dispatch file s space) (unrefused_in (after_event s (dispatches file space)) es)

-- the seats whose turn comes before w's: (w - last - 1) mod 8
abbrev pub ahead : ℕ → ℕ → ℕ
ahead last w = (w + 7 - last) % 8

-- each served a seat other than w, and none found nobody waiting
abbrev pub Others : ℕ → List (Option ℕ) → Type 0
Others w [] = Unit {0}
Others w (some i ∷ more) = ¬ (i ≡ w) × Others w more
Others w (none ∷ more) = ⊥

-- of these unrefused dispatches one serves w after at most d others; or there were no more than d, and w waits still in t
pub data Fair (w d : ℕ) (unrefused : List (Option ℕ)) (t : Seats) : Type 0 where
  in_time : (before more : List (Option ℕ)) → unrefused ≡ before ++ (some w ∷ more) → length before ≤ d → Others w before → Fair w d unrefused t
  waits_still : length unrefused ≤ d → Others w unrefused → (seat_at t w).waiting ≡ true → Fair w d unrefused t

-- whatever the others raise, in any list of events
pub record Fairness (s : Seats) (w : ℕ) (es : List Event) : Type 0 where
  -- no event makes the state wrong
  pub stays_right : SeatsRight (after s es)
  pub fair : Fair w (ahead s.last w) (unrefused_in s es) (after s es)
  -- among the first eight unrefused dispatches one serves w
  pub within_eight : 8 ≤ length (unrefused_in s es) → Memᴰ (some w) (take 8 (unrefused_in s es))
  -- as long as w has not been served it waits
  pub waits : ¬ Memᴰ (some w) (unrefused_in s es) → (seat_at (after s es) w).waiting ≡ true

-- ---- one dispatch

-- exactly one seat changes: it had waited, it has the reading afterwards and waits no more, and it is the one served last
pub record OneServed (file : List ℕ) (s : Seats) (space i : ℕ) (a : Answer) (t : Seats) : Type 0 where
  pub is_turn : turn s ≡ some i
  pub number : i ≤ 7
  pub waited : (seat_at s i).waiting ≡ true
  pub reading : Plain
  pub held : (seat_at s i).reading ≡ some reading
  pub answered : (next_plain file reading space).answer ≡ a
  pub unrefused : (n : Refusal) → ¬ (a ≡ Answer.refused n)
  pub now : seat_at t i ≡ record { reading = some (next_plain file reading space).reading; waiting = false }
  pub others : (j : ℕ) → ¬ (j ≡ i) → seat_at t j ≡ seat_at s j
  pub last_is : t.last ≡ i

-- an unrefused dispatch with somebody waiting
pub record Serves (file : List ℕ) (s : Seats) (space : ℕ) : Type 0 where
  pub seat : ℕ
  pub answer : Answer
  pub seats : Seats
  pub is : dispatch file s space ≡ served seat answer seats
  pub one : OneServed file s space seat answer seats

-- ---- a seat by itself

pub record Asked : Type 0 where
  pub file : List ℕ
  pub space : ℕ

abbrev pub asked : List ℕ → ℕ → Asked
asked file space = record { file = file; space = space }

-- a reading alone: each call gets the reading that the one before returned
abbrev pub read_after : Plain → List Asked → Plain
read_after r [] = r
read_after r (c ∷ cs) = read_after (next_plain c.file r c.space).reading cs

abbrev pub answers_to : Plain → List Asked → List Answer
answers_to r [] = []
answers_to r (c ∷ cs) = (next_plain c.file r c.space).answer ∷ answers_to (next_plain c.file r c.space).reading cs

-- a seat's past: nobody sat there, or the reading seated last, the calls of the dispatches that served the seat since, and the answers
-- that named it
pub data Past : Type 0 where
  empty : Past
  since : Plain → List Asked → List Answer → Past

abbrev pub heard : Asked → Answer → Past → Past
heard c a empty = empty
heard c a (since r cs l) = since r (cs ++ (c ∷ [])) (l ++ (a ∷ []))

abbrev pub past_sits : ℕ → ℕ → Plain → Done → Past → Past
past_sits i j r (done t) p = cond (eqb j i) (since r [] []) p
past_sits i j r (Done.refused n) p = p

abbrev pub past_served : ℕ → Asked → Dispatch → Past → Past
past_served i c (served j a t) p = cond (eqb j i) (heard c a p) p
past_served i c nobody p = p
past_served i c (Dispatch.refused n) p = p

-- the past of seat i after a list of events from s, where it was p
abbrev pub past_after : ℕ → Seats → Past → List Event → Past
past_after i s p [] = p
past_after i s p (raises j ∷ es) = past_after i (after_event s (raises j)) p es
past_after i s p (sits j r ∷ es) = past_after i (after_event s (sits j r)) (past_sits i j r (seat s j r) p) es
past_after i s p (dispatches file space ∷ es) =
    past_after i (after_event s (dispatches file space)) (past_served i (asked file space) (dispatch file s space) p) es

-- what seat i holds, and the answers that named it, are those of the reading seated there last, alone
pub data Alone (held : Option Plain) : Past → Type 0 where
  nobody_sat : held ≡ none → Alone held empty
  as_alone : (r : Plain) (cs : List Asked) → held ≡ some (read_after r cs) → Alone held (since r cs (answers_to r cs))

-- ---- the transitions that a dispatch follows: those of the call that serves the seat

abbrev pub followed_at : List ℕ → ℕ → Option Plain → ℕ
followed_at file space (some p) = (next file (at_zero p.view) space).reading.total
followed_at file space none = 0

abbrev pub followed_by : List ℕ → Seats → ℕ → Option ℕ → ℕ
followed_by file s space (some i) = followed_at file space (seat_at s i).reading
followed_by file s space none = 0

abbrev pub dispatch_follows : List ℕ → Seats → ℕ → ℕ
dispatch_follows file s space = cond (right_test s) (followed_by file s space (turn s)) 0

-- the reading came from a start on the file with a table that fits, by calls with the file or one of another length
pub record CameFrom {file : List ℕ} (A : Admitted file) (p : Plain) : Type 0 where
  pub lo : Bound
  pub hi : Bound
  pub table : List ℕ
  pub fits : TableFits (fst_of file A.meta) lo hi table
  pub first : Plain
  pub starts : start_plain file lo hi table ≡ begun first
  pub calls : List (Call file)
  pub after_calls : p ≡ plain_after first calls

abbrev pub AllCame : {file : List ℕ} → Admitted file → Seats → Type 0
AllCame A s = (i : ℕ) (p : Plain) → (seat_at s i).reading ≡ some p → CameFrom A p

-- what is seated came from a start on the file
abbrev pub SeatsFrom : {file : List ℕ} → Admitted file → List Event → Type 0
SeatsFrom A [] = Unit {0}
SeatsFrom A (raises i ∷ es) = SeatsFrom A es
SeatsFrom A (sits i r ∷ es) = CameFrom A r × SeatsFrom A es
SeatsFrom A (dispatches given space ∷ es) = SeatsFrom A es

-- each dispatch is handed the file or one of another length
abbrev pub HandsOn : List ℕ → List Event → Type 0
HandsOn file [] = Unit {0}
HandsOn file (raises i ∷ es) = HandsOn file es
HandsOn file (sits i r ∷ es) = HandsOn file es
HandsOn file (dispatches given space ∷ es) = ((given ≡ file) ⊎ (¬ (length given ≡ length file))) × HandsOn file es

-- no dispatch with the file follows more than n transitions, whatever the buffer
abbrev pub FollowsAtMost : List ℕ → Seats → ℕ → Type 0
FollowsAtMost file s n = (space : ℕ) → dispatch_follows file s space ≤ n

-- ---- demand 3 for a seat by itself

abbrev pub asked_of : {file : List ℕ} → Call file → Asked
asked_of c = asked c.file c.space

-- seat i after a list of events from new: r was seated there last, and these calls served it since
pub record SeatDemand {file : List ℕ} (A : Admitted file) (lo hi : Bound) (table : List ℕ) (i : ℕ) (es : List Event) (r : Plain) (calls : List (Call file)) : Type 0 where
  pub demand : DemandPlain A lo hi table calls
  pub seated : demand.reading ≡ r
  pub holds : (seat_at (after new es) i).reading ≡ some (plain_after r calls)
  pub past : past_after i new empty es ≡ since r (map asked_of calls) (answers_plain r calls)
