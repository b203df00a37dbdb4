-- A range in one call: up to `most` keys between two bounds, the least first, each with its value (docs/FORMAT.md, "Ranges"). By definition, for
-- every file, two bounds and buffers of any size.
--     Stop, Page               why a call stopped, beside the keys that it handed out
--     fold s r n               next called up to n times from the reading r, with room for a key of 255 bytes
--     room_test most a b        rows of a bytes and values of b numbers have room for `most` keys
--     range s lo hi most a b   the page that a call answers
--     rows_after, values_after   the two buffers afterwards
-- `more` says that the fold stopped since `most` keys were handed out, and nothing of the key after them: that one may be there or not, and may be refused.
-- Assumes nothing.
use Rattle.std.specs.Prelude.{Bool, cond, ◌&&◌, List, [], ◌∷◌, ◌++◌, map, ℕ, zero, suc, ◌+◌, ◌*◌, leb, length, drop}
use Rattle.format.specs.declared.Refusal.{Refusal}
use Rattle.buffers.specs.Put.{put}
use Rattle.format.specs.Limits.{max_path, SPACE, BOUND}
use Rattle.format.specs.Opening.{opening}
use Rattle.format.specs.Strings.{Bound}
use Rattle.reading.specs.Reading.{View, on_opened, bounds_test, Started, started, start, Answer, key, end, next}
use Rattle.reading.specs.Demand.{Entry, entry}

-- next answered "end"; `most` keys were handed out; or a refusal
pub data Stop : Type 0 where
  ended : Stop
  more : Stop
  refused : Refusal → Stop

pub record Page : Type 0 where
  pub entries : List Entry
  pub stop : Stop

abbrev pub page : List Entry → Stop → Page
page es why = record { entries = es; stop = why }

abbrev pub refused_page : Refusal → Page
refused_page n = page [] (Stop.refused n)

-- what an answer of next makes of the page of the calls after it: a refusal stands beside the keys before it
abbrev pub answered : Answer → Page → Page
answered (key k v) rest = page (entry k v ∷ rest.entries) rest.stop
answered end rest = page [] ended
answered (Answer.refused n) rest = refused_page n

unfoldable pub fold : List ℕ → View → ℕ → Page
fold s r zero = page [] more
fold s r (suc n) = answered (next s r max_path).answer (fold s (next s r max_path).reading n)

-- a row takes 256 bytes
abbrev pub row_len : ℕ
row_len = 256

abbrev pub room_test : ℕ → ℕ → ℕ → Bool
room_test most a b = leb (row_len * most) a && leb most b

abbrev pub page_from : List ℕ → ℕ → Started → Page
page_from s most (started r) = fold s r most
page_from s most (Started.refused n) = refused_page n

-- opening's refusals, BOUND, SPACE, then the walk: the start's other refusals and next, folded
unfoldable pub range : List ℕ → Bound → Bound → ℕ → ℕ → ℕ → Page
unfolding fold
range s lo hi most a b =
    on_opened (opening s)
    (λ m. cond (bounds_test lo hi) (cond (room_test most a b) (page_from s most (start s lo hi)) (refused_page SPACE)) (refused_page BOUND))
    (λ n. refused_page n)

-- ---- the buffers afterwards

-- a key's length, and its bytes
abbrev pub row_of : Entry → List ℕ
row_of e = length e.key ∷ e.key

-- from row i on: each row from its first byte, and every other byte as given
unfoldable pub rows_from : ℕ → List Entry → List ℕ → List ℕ
rows_from i [] rows = rows
rows_from i (e ∷ es) rows = rows_from (i + 1) es (put rows (row_len * i) (row_of e))

abbrev pub rows_after : List Entry → List ℕ → List ℕ
rows_after es rows = rows_from 0 es rows

-- the values in order, and the others as given
abbrev pub values_after : List Entry → List ℕ → List ℕ
values_after es values = map (λ (e : Entry). e.value) es ++ drop (length es) values
