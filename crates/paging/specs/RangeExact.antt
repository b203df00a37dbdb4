-- What a range of an admitted file is, over held keys, their order and the bounds. RangeLaws and PagesLaws prove both claims (`range_exact`, `pages`).
--     RangeExact A lo hi most p     the page p is the first keys between the bounds, up to `most`
--     PageCall                      a call with room for at least one key
--     Pages s hi calls i lo es      page after page from the lower bound lo, by the calls from place i on, es is handed out
--     PagesExact A lo hi calls      what page after page hands out
-- Assumes nothing.
use Rattle.std.specs.Prelude.{◌≡◌, ℕ, zero, suc, ◌*◌, ◌≤◌, ◌<◌, length}
use Rattle.format.specs.declared.Refusal.{Refusal}
use mathlib.Core.List.{List, [], ◌∷◌, ◌++◌, map, Memᴰ}
use Rattle.format.specs.Paths.{fst_of, Held}
use Rattle.format.specs.Admitted.{Admitted}
use Rattle.format.specs.Strings.{Before, Bound, excluded, Between, Rising}
use Rattle.reading.specs.Demand.{Entry, entry, NoneLeft}
use Rattle.paging.specs.Paging.{Stop, ended, more, Page, page, row_len, range}

pub record RangeExact {s : List ℕ} (A : Admitted s) (lo hi : Bound) (most : ℕ) (p : Page) : Type 0 where
  -- held keys between the bounds, each with its value
  pub held : (e : Entry) → Memᴰ e p.entries → Held (fst_of s A.meta) e.key e.value × Between lo hi e.key
  pub ascending : Rising (map (λ (e : Entry). e.key) p.entries)
  -- the first of them: none between the bounds and not greater is missing
  pub none_left_out : (k : List ℕ) (v : ℕ) → Held (fst_of s A.meta) k v → Between lo hi k → (e : Entry) → Memᴰ e p.entries → ¬ Before e.key k
      → Memᴰ (entry k v) p.entries
  -- up to `most`
  pub at_most : length p.entries ≤ most
  pub not_refused : (n : Refusal) → ¬ (p.stop ≡ Stop.refused n)
  -- "ended" exactly where fewer were left than asked for, and then none is left
  pub ended_fewer : p.stop ≡ ended → length p.entries < most
  pub fewer_ended : length p.entries < most → p.stop ≡ ended
  pub ended_none_left : p.stop ≡ ended → NoneLeft (fst_of s A.meta) lo hi p.entries
  -- "more" exactly where as many were handed out as asked for
  pub more_all : p.stop ≡ more → length p.entries ≡ most
  pub all_more : length p.entries ≡ most → p.stop ≡ more

-- ---- page after page

pub record PageCall : Type 0 where
  pub most : ℕ
  pub rows : ℕ
  pub values : ℕ
  pub some : 0 < most
  pub row_room : row_len * most ≤ rows
  pub value_room : most ≤ values

abbrev pub asked : List ℕ → Bound → Bound → PageCall → Page
asked s lo hi c = range s lo hi c.most c.rows c.values

-- the last key of a page is the excluded lower bound of the next, up to a page that ended
pub data Pages (s : List ℕ) (hi : Bound) (calls : ℕ → PageCall) : ℕ → Bound → List Entry → Type 0 where
  last_page : {i : ℕ} {lo : Bound} {es : List Entry} → asked s lo hi (calls i) ≡ page es ended → Pages s hi calls i lo es
  page_then : {i : ℕ} {lo : Bound} {rest : List Entry} (es : List Entry) (e : Entry) → asked s lo hi (calls i) ≡ page (es ++ (e ∷ [])) more
      → Pages s hi calls (suc i) (excluded e.key) rest → Pages s hi calls i lo ((es ++ (e ∷ [])) ++ rest)

-- exactly the held keys between the bounds, ascending, so once each
pub record PagesExact {s : List ℕ} (A : Admitted s) (lo hi : Bound) (calls : ℕ → PageCall) : Type 0 where
  pub entries : List Entry
  pub paged : Pages s hi calls 0 lo entries
  -- there is no other way
  pub only : (es : List Entry) → Pages s hi calls 0 lo es → es ≡ entries
  pub ascending : Rising (map (λ (e : Entry). e.key) entries)
  pub held : (e : Entry) → Memᴰ e entries → Held (fst_of s A.meta) e.key e.value × Between lo hi e.key
  pub none_left : NoneLeft (fst_of s A.meta) lo hi entries
