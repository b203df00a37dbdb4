-- What a page by pattern of an admitted file is, over held keys, their order, the bounds and `Fits`. FindLaws and FindPagesLaws prove both claims
-- (`find_exact`, `find_pages`).
--     FindExact A p lo hi most w        the page w is the first keys between the bounds that fit, up to `most`
--     PagesBy s p hi calls i lo es      page after page from the lower bound lo, by the calls from place i on, es is handed out
--     FindPages A p lo hi calls         what page after page hands out
-- Assumes nothing.
use Rattle.std.specs.Prelude.{◌≡◌, ℕ, suc, ◌≤◌, ◌<◌, length}
use Rattle.format.specs.declared.Refusal.{Refusal}
use mathlib.Core.List.{List, [], ◌∷◌, ◌++◌, map, Memᴰ}
use Rattle.format.specs.Paths.{fst_of}
use Rattle.format.specs.Admitted.{Admitted}
use Rattle.format.specs.Strings.{Before, Bound, excluded, Rising}
use Rattle.reading.specs.Demand.{Entry, entry}
use Rattle.pattern.specs.Pattern.{Pattern}
use Rattle.pattern.specs.PatternDemand.{Wanted, NoneLeftBy}
use Rattle.paging.specs.Paging.{Stop, ended, more, Page, page}
use Rattle.paging.specs.RangeExact.{PageCall}
use Rattle.finding.specs.Finding.{find}

pub record FindExact {s : List ℕ} (A : Admitted s) (p : Pattern) (lo hi : Bound) (most : ℕ) (w : Page) : Type 0 where
  -- held keys between the bounds that fit, each with its value
  pub wanted : (e : Entry) → Memᴰ e w.entries → Wanted (fst_of s A.meta) p lo hi e.key e.value
  pub ascending : Rising (map (λ (e : Entry). e.key) w.entries)
  -- the first of them: no such key that is not greater is missing
  pub none_left_out : (k : List ℕ) (v : ℕ) → Wanted (fst_of s A.meta) p lo hi k v → (e : Entry) → Memᴰ e w.entries → ¬ Before e.key k
      → Memᴰ (entry k v) w.entries
  -- up to `most`
  pub at_most : length w.entries ≤ most
  pub not_refused : (n : Refusal) → ¬ (w.stop ≡ Stop.refused n)
  -- "ended" exactly where fewer were left than asked for, and then none is left
  pub ended_fewer : w.stop ≡ ended → length w.entries < most
  pub fewer_ended : length w.entries < most → w.stop ≡ ended
  pub ended_none_left : w.stop ≡ ended → NoneLeftBy (fst_of s A.meta) p lo hi w.entries
  -- "more" exactly where as many were handed out as asked for
  pub more_all : w.stop ≡ more → length w.entries ≡ most
  pub all_more : length w.entries ≡ most → w.stop ≡ more

-- ---- page after page

abbrev pub asked_by : List ℕ → Pattern → Bound → Bound → PageCall → Page
asked_by s p lo hi c = find s p lo hi c.most c.rows c.values

-- the last key of a page is the excluded lower bound of the next, up to a page that ended
pub data PagesBy (s : List ℕ) (p : Pattern) (hi : Bound) (calls : ℕ → PageCall) : ℕ → Bound → List Entry → Type 0 where
  last_page : {i : ℕ} {lo : Bound} {es : List Entry} → asked_by s p lo hi (calls i) ≡ page es ended → PagesBy s p hi calls i lo es
  page_then : {i : ℕ} {lo : Bound} {rest : List Entry} (es : List Entry) (e : Entry) → asked_by s p lo hi (calls i) ≡ page (es ++ (e ∷ [])) more
      → PagesBy s p hi calls (suc i) (excluded e.key) rest → PagesBy s p hi calls i lo ((es ++ (e ∷ [])) ++ rest)

-- exactly the held keys between the bounds that fit, ascending, so once each
pub record FindPages {s : List ℕ} (A : Admitted s) (p : Pattern) (lo hi : Bound) (calls : ℕ → PageCall) : Type 0 where
  pub entries : List Entry
  pub paged : PagesBy s p hi calls 0 lo entries
  -- there is no other way
  pub only : (es : List Entry) → PagesBy s p hi calls 0 lo es → es ≡ entries
  pub ascending : Rising (map (λ (e : Entry). e.key) entries)
  pub wanted : (e : Entry) → Memᴰ e entries → Wanted (fst_of s A.meta) p lo hi e.key e.value
  pub none_left : NoneLeftBy (fst_of s A.meta) p lo hi entries
