-- Rows of eight seats (document 02, N13) on the file D of document 01's listing, each by computation.
--     says s es     what the calls of a list of events answer, raising and seating that are not refused left out
--     r             the whole reading of D, started and not yet called
-- Assumes nothing.
use Rattle.std.specs.Prelude.{◌≡◌, refl, true, false, List, [], ◌∷◌, ◌++◌, ℕ, replicate}
use Rattle.std.proofs.Math.Option.{Option, none, some}
use Rattle.format.specs.declared.Refusal.{Refusal}
use Rattle.format.specs.Limits.{SPACE, STATE, SEAT}
use Rattle.format.specs.Bytes.{le, bytes_of}
use Rattle.format.specs.CommonInputs.{common_inputs_inv}
use Rattle.format.specs.Node.{head_len, input_of, ntrans_of, sizes_byte, index_len, size_of, down_from, bytes_down, numbers_down, transitions_of, node_of, sound_test, node_at, find_from, first_above}
use Rattle.format.specs.Opening.{meta_of, root_test, opening}
use Rattle.format.specs.Strings.{unbounded, before_test}
use Rattle.format.specs.Tables.{sum_of}
use Rattle.reading.specs.Reading.{path_of, seek, start, pop, descend, next, level_with, Answer, key, end}
use Rattle.plain.specs.Numbers.{up_to, within, below_lower, number}
use Rattle.plain.specs.Plain.{Plain, plain_with, begun, start_plain}
use Rattle.turns.specs.Turns.{Seats, Seat, no_seat, seat_at, all_seats, turn_from, turn, seat, raise, Done, done, dispatch, Dispatch, served, nobody, Event, raises, sits, dispatches, after_event, after, new}
use Rattle.bench_table.specs.BenchTable.{D}

-- ---- what is answered

pub data Said : Type 0 where
  keys : ℕ → List ℕ → ℕ → Said
  ends : ℕ → Said
  idle : Said
  no : Refusal → Said

abbrev pub said_of : Dispatch → List Said → List Said
said_of (served i (key k v) t) more = keys i k v ∷ more
said_of (served i end t) more = ends i ∷ more
said_of (served i (Answer.refused n) t) more = no n ∷ more
said_of nobody more = idle ∷ more
said_of (Dispatch.refused n) more = no n ∷ more

abbrev pub done_of : Done → List Said → List Said
done_of (done t) more = more
done_of (Done.refused n) more = no n ∷ more

abbrev pub says : Seats → List Event → List Said
says s [] = []
says s (raises i ∷ es) = done_of (raise s i) (says (after_event s (raises i)) es)
says s (sits i r ∷ es) = done_of (seat s i r) (says (after_event s (sits i r)) es)
says s (dispatches file space ∷ es) = said_of (dispatch file s space) (says (after_event s (dispatches file space)) es)

-- ---- the rows

abbrev pub r : Plain
r = plain_with (record { len = 50; bound = unbounded; bound_len = 0; empty = none; total = 0; levels = level_with 29 0 0 0 ∷ [] }) 3

-- of a file of 51 bytes
abbrev pub other : Plain
other = plain_with (record { len = 51; bound = unbounded; bound_len = 0; empty = none; total = 0; levels = level_with 29 0 0 0 ∷ [] }) 3

-- D's table of keys: 2 from the node at 21, 3 from the root at 29
abbrev pub keys_d : List ℕ
keys_d = replicate 21 0 ++ (2 ∷ replicate 7 0 ++ (3 ∷ replicate 20 0))

abbrev pub all : ℕ → Seats
all last = record { last = last; seats = replicate 8 (record { reading = some r; waiting = false }) }

abbrev pub go : Event
go = dispatches D 255

abbrev pub a : ℕ → Said
a i = keys i (97 ∷ []) 1

abbrev pub t : ℕ → Said
t i = keys i (97 ∷ 116 ∷ []) 3

abbrev pub e : ℕ → Said
e i = keys i (101 ∷ []) 4

abbrev pub each_sits : List Event
each_sits = sits 0 r ∷ sits 1 r ∷ sits 2 r ∷ sits 3 r ∷ sits 4 r ∷ sits 5 r ∷ sits 6 r ∷ sits 7 r ∷ []

abbrev pub each_raises : List Event
each_raises = raises 0 ∷ raises 1 ∷ raises 2 ∷ raises 3 ∷ raises 4 ∷ raises 5 ∷ raises 6 ∷ raises 7 ∷ []

abbrev pub interleaving : List Event
interleaving =
    raises 0 ∷ raises 1 ∷ go ∷ raises 0 ∷ go ∷ go ∷ raises 0 ∷ go ∷ raises 1 ∷ go ∷ raises 1 ∷ go ∷ raises 0 ∷ raises 1 ∷ go ∷ go ∷ []

abbrev pub total_of : Option Plain → ℕ
total_of none = 0
total_of (some p) = p.view.total

abbrev pub total_at : Seats → ℕ → ℕ
total_at s i = total_of (seat_at s i).reading

pub record SeatsTable : Type 0 where
  pub whole : start_plain D unbounded unbounded keys_d ≡ begun r
  pub nobody_waits : says new (dispatches [] 0 ∷ []) ≡ idle ∷ []
  -- nine dispatches: each seat once, from seat 0, then nobody
  pub each_once : says new (each_sits ++ each_raises ++ replicate 9 go) ≡ a 0 ∷ a 1 ∷ a 2 ∷ a 3 ∷ a 4 ∷ a 5 ∷ a 6 ∷ a 7 ∷ idle ∷ []
  -- seat 3 asks again after every dispatch, seat 2 once
  pub busy_seat : says (all 2) (raises 3 ∷ raises 2 ∷ go ∷ raises 3 ∷ go ∷ raises 3 ∷ go ∷ []) ≡ a 3 ∷ a 2 ∷ t 3 ∷ []
  -- seats 6 and 1 wait, 6 was served last
  pub around : says (all 6) (raises 6 ∷ raises 1 ∷ go ∷ go ∷ []) ≡ a 1 ∷ a 6 ∷ []
  -- a short buffer leaves the turn where it was
  pub short_buffer : says (all 7) (raises 2 ∷ raises 5 ∷ dispatches D 254 ∷ go ∷ []) ≡ no SPACE ∷ a 2 ∷ []
  -- a reading of another file holds the turn, until another is seated there
  pub blocked : says (all 4) (sits 5 other ∷ raises 5 ∷ raises 6 ∷ go ∷ go ∷ sits 5 r ∷ go ∷ go ∷ []) ≡ no STATE ∷ no STATE ∷ a 5 ∷ a 6 ∷ []
  -- to the end, and after it
  pub to_end : says (all 7) (raises 0 ∷ go ∷ raises 0 ∷ go ∷ raises 0 ∷ go ∷ raises 0 ∷ go ∷ raises 0 ∷ go ∷ []) ≡ a 0 ∷ t 0 ∷ e 0 ∷ ends 0 ∷ ends 0 ∷ []
  -- two seats on the same range: each has the keys, "end" and the total of a reading alone
  pub interleaved : says (all 7) interleaving ≡ a 0 ∷ a 1 ∷ t 0 ∷ e 0 ∷ t 1 ∷ e 1 ∷ ends 0 ∷ ends 1 ∷ []
  pub totals : (total_at (after (all 7) interleaving) 0 ≡ 3) × (total_at (after (all 7) interleaving) 1 ≡ 3)
  -- SEAT
  pub number_over : says (all 7) (raises 8 ∷ sits 8 r ∷ []) ≡ no SEAT ∷ no SEAT ∷ []
  pub empty_raised : says new (raises 0 ∷ []) ≡ no SEAT ∷ []
  pub held_last : says (all 8) (go ∷ raises 0 ∷ sits 0 r ∷ []) ≡ no SEAT ∷ no SEAT ∷ no SEAT ∷ []
  pub waits_empty : says (record { last = 7; seats = record { reading = some r; waiting = true } ∷ record { reading = none; waiting = true } ∷ replicate 6 no_seat })
      (go ∷ dispatches [] 0 ∷ []) ≡ no SEAT ∷ no SEAT ∷ []

pub seats_table : SeatsTable
unfolding bytes_of common_inputs_inv le head_len input_of ntrans_of sizes_byte index_len size_of down_from bytes_down numbers_down transitions_of node_of sound_test node_at find_from first_above meta_of root_test opening before_test sum_of path_of seek start pop descend next up_to within below_lower number start_plain all_seats turn_from turn seat raise dispatch
seats_table = record {
  whole = refl;
  nobody_waits = refl;
  each_once = refl;
  busy_seat = refl;
  around = refl;
  short_buffer = refl;
  blocked = refl;
  to_end = refl;
  interleaved = refl;
  totals = (refl, refl);
  number_over = refl;
  empty_raised = refl;
  held_last = refl;
  waits_empty = refl;
}
