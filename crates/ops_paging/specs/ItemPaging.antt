-- A page of items in one call (document 02, N5): up to `most` items of an operation over one to eight files, the least key first, between two bounds that
-- all files share. By definition, for all files, bounds and buffers of any size.
--     start_all lo hi fs        a card for each file, still to be stepped, or the first refusal of a start in file order
--     ItemPage                 the items of a call, and why it stopped
--     fold op cs n             `next_item` called up to n times, with room for a key of 255 bytes
--     room_test most r c f v    rows of r bytes, c counts, f file numbers and v values have room for `most` items
--     items op n fs ..         the page that a call answers, over the first n files
--     lines_of, eights_after     the four buffers afterwards
-- A reading starts with 2^64 - 1 as its number of keys to come, as no table of keys is lent: more than that no reading can hand out in one page of an
-- admitted file whose keys can be counted. `more` says that `most` items were handed out, and nothing of the item after them.
-- Assumes nothing.
use Rattle.std.specs.Prelude.{Bool, cond, ◌&&◌, List, [], ◌∷◌, map, ℕ, zero, suc, ◌+◌, ◌*◌, ltb, leb, length, take}
use Rattle.format.specs.declared.Refusal.{Refusal}
use Rattle.buffers.specs.Put.{put}
use Rattle.format.specs.Limits.{max_path, max_sum, SPACE, CARDS}
use Rattle.format.specs.Strings.{Bound}
use Rattle.reading.specs.Reading.{View, Started, started, start}
use Rattle.reading.specs.Demand.{Entry, entry}
use Rattle.plain.specs.Plain.{plain_with}
use Rattle.paging.specs.Paging.{Stop, ended, more, row_len}
use Rattle.ops_spec.specs.Ops.{Op, used, Card, card_is, Indexed, Merged, item, ending, next_item}
use Rattle.ops_spec.specs.OpsLists.{Item, item_is}
use Rattle.ops_pairs.specs.Pairs.{padded}

-- ---- the starts

pub data Starts : Type 0 where
  cards : List Card → Starts
  refused : Refusal → Starts

-- a reading without a table of keys: as many keys may come as a number can say
abbrev pub wide_card : List ℕ → View → Card
wide_card s r = card_is s (plain_with r max_sum) used

abbrev pub with_start : List ℕ → Started → Starts → Starts
with_start s (started r) (cards cs) = cards (wide_card s r ∷ cs)
with_start s (started r) (refused n) = refused n
with_start s (Started.refused n) others = refused n

-- in file order, the first refusal first
unfoldable pub start_all : Bound → Bound → List (List ℕ) → Starts
start_all lo hi [] = cards []
start_all lo hi (s ∷ fs) = with_start s (start s lo hi) (start_all lo hi fs)

-- ---- a page

pub record ItemPage : Type 0 where
  pub items : List Item
  pub stop : Stop

abbrev pub item_page : List Item → Stop → ItemPage
item_page is why = record { items = is; stop = why }

abbrev pub refused_items : Refusal → ItemPage
refused_items n = item_page [] (Stop.refused n)

-- what a call's answer makes of the page of the calls after it: a refusal stands beside the items before it
abbrev pub answered : Merged → (List Card → ItemPage) → ItemPage
answered (item k ps ds) rest = item_page (item_is k ps ∷ (rest ds).items) (rest ds).stop
answered (ending ds) rest = item_page [] ended
answered (Merged.refused n) rest = refused_items n

unfoldable pub fold : Op → List Card → ℕ → ItemPage
fold op cs zero = item_page [] more
fold op cs (suc n) = answered (next_item op cs max_path) (λ ds. fold op ds n)

-- an item has a row of 256 bytes, a count, and eight places for file numbers and for values
abbrev pub room_test : ℕ → ℕ → ℕ → ℕ → ℕ → Bool
room_test most r c f v = leb (row_len * most) r && (leb most c && (leb (8 * most) f && leb (8 * most) v))

abbrev pub page_from : Op → ℕ → Starts → ItemPage
page_from op most (cards cs) = fold op cs most
page_from op most (Starts.refused n) = refused_items n

abbrev pub count_test : ℕ → Bool
count_test n = ltb 0 n && leb n 8

-- CARDS, SPACE, then the starts in file order, and `next_item`, folded; files from n on are not looked at
unfoldable pub items : Op → ℕ → List (List ℕ) → Bound → Bound → ℕ → ℕ → ℕ → ℕ → ℕ → ItemPage
unfolding start_all fold
items op n fs lo hi most r c f v =
    cond (count_test n) (cond (room_test most r c f v) (page_from op most (start_all lo hi (take n fs))) (refused_items SPACE)) (refused_items CARDS)

-- ---- the buffers afterwards

-- an item's key, and how many files hold it: the rows and the counts are `rows_after` and `values_after` of these
abbrev pub lines_of : List Item → List Entry
lines_of is = map (λ (x : Item). entry x.key (length x.pairs)) is

-- an item's eight places: what f says of each of its pairs, then 0
abbrev pub eight_of : (Indexed → ℕ) → Item → List ℕ
eight_of f x = map f (padded x.pairs)

-- from item i on: each eight from its first place, and every other place as given
unfoldable pub eights_from : (Indexed → ℕ) → ℕ → List Item → List ℕ → List ℕ
eights_from f i [] out = out
eights_from f i (x ∷ is) out = eights_from f (i + 1) is (put out (8 * i) (eight_of f x))

abbrev pub eights_after : (Indexed → ℕ) → List Item → List ℕ → List ℕ
eights_after f is out = eights_from f 0 is out

abbrev pub index_of : Indexed → ℕ
index_of x = x.index

abbrev pub value_of : Indexed → ℕ
value_of x = x.value
