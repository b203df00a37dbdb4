-- Page after page of an admitted file: `pages`.
--     page_cut             the keys after a page are those of the range from its last key, excluded
--     pages_all            page after page hands out the keys between the bounds, whatever the calls are
--     pages_come           and comes to an end
-- Assumes nothing.
use Rattle.std.specs.Prelude.{◌≡◌, refl, ◌⊎◌, ℕ, zero, suc, ◌+◌, ◌-◌, ◌*◌, ◌≤◌, ◌<◌, length, take, drop}
use Rattle.std.proofs.Common.{sym, ◌∙◌, ap, subst, ⊎_elim, inl, inr, arith, length-append, take-append-drop, length-take-le, take_all}
use mathlib.Core.List.Memᴰ
use mathlib.Core.List.{List, [], ◌∷◌, ◌++◌, map, Memᴰ}
use Rattle.buffers.specs.DecideLaws.{true_of}
use Rattle.format.specs.Limits.{max_path}
use Rattle.format.specs.Paths.{fst_of}
use Rattle.format.specs.Admitted.{Admitted}
use Rattle.format.specs.Strings.{Before, Bound, excluded, MeetsLower, beyond, Between, Rising}
use Rattle.format.specs.Laws.StringLaws.{before_irrefl, before_asym}
use Rattle.reading.specs.Reading.{bound_bytes}
use Rattle.reading.proofs.RunLaws.{lt_or}
use Rattle.reading.proofs.BoundLaws.{decides_meets, meets_up}
use Rattle.reading.specs.Demand.{Entry, entry}
use Rattle.reading.specs.WholeRun.{Whole}
use Rattle.reading.proofs.CutLaws.{keys_out, rising_last, snoc_mem}
use Rattle.sittings.proofs.RisingLaws.{rising_unique}
use Rattle.paging.specs.Paging.{Stop, ended, more, Page, page, range}
use Rattle.paging.specs.RangeExact.{PageCall, asked, Pages, last_page, page_then, PagesExact}
use Rattle.paging.proofs.RangeLaws.{FoldIs, held_short, all_of, range_is, rising_front, rising_parts, rising_back}

above_excluded : {c x : List ℕ} → MeetsLower (excluded c) x → Before c x
above_excluded (beyond h) = h

-- ---- two ranges of which one goes on where a page of the other stopped

module _ {s : List ℕ} (A : Admitted s) (lo hi : Bound) (short_hi : length (bound_bytes hi) ≤ max_path) where
  abbrev pub All : (b : Bound) → length (bound_bytes b) ≤ max_path → Whole A b hi max_path
  All b short = all_of A b hi short short_hi

  module _ (short_lo : length (bound_bytes lo) ≤ max_path) (es rest : List Entry) (e : Entry)
      (parts : (es ++ (e ∷ [])) ++ rest ≡ (All lo short_lo).entries) (short_e : length e.key ≤ max_path) where
    abbrev below : List Entry
    below = es ++ (e ∷ [])

    rising_all : Rising (keys_out (below ++ rest))
    rising_all = subst (λ (l : List Entry). Rising (keys_out l)) (sym parts) (All lo short_lo).ascending

    meets_last : MeetsLower lo e.key
    meets_last = ((All lo short_lo).held e (subst (Memᴰ e) parts (Memᴰ.append_left rest (snoc_mem es e)))).1.meets

    -- a key after the last one lies between the bounds too
    to : (z : Entry) → Memᴰ z rest → Memᴰ z (All (excluded e.key) short_e).entries
    to z on =
        let w = (All lo short_lo).held z (subst (Memᴰ z) parts (Memᴰ.append_right below on)) in
        let after = rising_parts below rest rising_all e z (snoc_mem es e) on in
        (All (excluded e.key) short_e).none_left z.key z.value w.0 (record { meets = beyond after; within = w.1.within })

    not_after : (z : Entry) → Memᴰ z below → ¬ Before e.key z.key
    not_after z on after =
        ⊎_elim
        (λ (h : Memᴰ z es). before_asym (rising_last es e z (rising_front below rest rising_all) h) after)
        (λ (h : Memᴰ z (e ∷ [])). before_irrefl e.key (subst (λ (x : Entry). Before e.key x.key) (Memᴰ.eq_of_singleton h) after))
        (Memᴰ.append_cases es on)

    from : (z : Entry) → Memᴰ z (All (excluded e.key) short_e).entries → Memᴰ z rest
    from z on =
        let w = (All (excluded e.key) short_e).held z on in
        let after = above_excluded w.1.meets in
        let meets = (decides_meets lo z.key).yes (meets_up lo e.key z.key after (true_of _ (decides_meets lo e.key) meets_last)) in
        let in_all = (All lo short_lo).none_left z.key z.value w.0 (record { meets = meets; within = w.1.within }) in
        ⊎_elim
        (λ (h : Memᴰ z below). absurd (not_after z h after))
        (λ (h : Memᴰ z rest). h)
        (Memᴰ.append_cases below (subst (Memᴰ z) (sym parts) in_all))

    pub page_cut : rest ≡ (All (excluded e.key) short_e).entries
    page_cut =
        rising_unique (λ (x : Entry). x.key) rest (All (excluded e.key) short_e).entries (rising_back below rest rising_all)
        (All (excluded e.key) short_e).ascending to from

    -- the keys after a page are fewer
    pub page_fewer : length (All (excluded e.key) short_e).entries < length (All lo short_lo).entries
    page_fewer = omega (arith, ap length page_cut, ap length parts, length-append below rest, length-append es (e ∷ []))

-- ---- the last of a page

record Snoc (l : List Entry) : Type 0 where
  init : List Entry
  last : Entry
  is : l ≡ init ++ (last ∷ [])

snoc_of : (l : List Entry) → 0 < length l → Snoc l
snoc_of [] h = absurd (omega arith)
snoc_of (x ∷ []) h = record { init = []; last = x; is = refl }
snoc_of (x ∷ y ∷ l) h =
    let w = snoc_of (y ∷ l) (omega arith) in
    record { init = x ∷ w.init; last = w.last; is = ap (λ (q : List Entry). x ∷ q) w.is }

module _ {s : List ℕ} (A : Admitted s) (hi : Bound) (short_hi : length (bound_bytes hi) ≤ max_path) (calls : ℕ → PageCall) where
  abbrev all : (lo : Bound) → length (bound_bytes lo) ≤ max_path → List Entry
  all lo short = (All A lo hi short_hi lo short).entries

  asked_is : (i : ℕ) (lo : Bound) (short : length (bound_bytes lo) ≤ max_path) → FoldIs (all lo short) (calls i).most (asked s lo hi (calls i))
  asked_is i lo short =
      range_is A lo hi (calls i).most (calls i).rows (calls i).values short short_hi (calls i).row_room (calls i).value_room

  -- a page that goes on, and what is left after it
  page_parts : (i : ℕ) (lo : Bound) (short : length (bound_bytes lo) ≤ max_path) (es : List Entry) (e : Entry)
      → (asked s lo hi (calls i)).entries ≡ es ++ (e ∷ []) → (es ++ (e ∷ [])) ++ drop (calls i).most (all lo short) ≡ all lo short
  page_parts i lo short es e is =
      ap (λ (l : List Entry). l ++ drop (calls i).most (all lo short)) (sym is ∙ (asked_is i lo short).entries)
      ∙ take-append-drop (calls i).most (all lo short)

  last_short : (lo : Bound) (short : length (bound_bytes lo) ≤ max_path) (es rest : List Entry) (e : Entry) → (es ++ (e ∷ [])) ++ rest ≡ all lo short
      → length e.key ≤ max_path
  last_short lo short es rest e parts =
      held_short A ((All A lo hi short_hi lo short).held e (subst (Memᴰ e) parts (Memᴰ.append_left rest (snoc_mem es e)))).0

  -- a page that ended has all that was left
  ended_all : (i : ℕ) (lo : Bound) (short : length (bound_bytes lo) ≤ max_path) (es : List Entry) → asked s lo hi (calls i) ≡ page es ended → es ≡ all lo short
  ended_all i lo short es is =
      let f = asked_is i lo short in
      ⊎_elim
      (λ (h : length (all lo short) < (calls i).most).
      sym (ap (λ (p : Page). p.entries) is) ∙ f.entries ∙ take_all (calls i).most (all lo short) (omega arith))
      (λ (h : (calls i).most ≤ length (all lo short)).
      let q : more ≡ ended = sym (f.goes_on h) ∙ ap (λ (p : Page). p.stop) is in
      let z : ◌≡◌ {A = ℕ} 0 1 = cc in
      absurd (omega arith))
      (lt_or (length (all lo short)) (calls i).most)

  pub pages_all : {i : ℕ} {lo : Bound} {es : List Entry} (short : length (bound_bytes lo) ≤ max_path) → Pages s hi calls i lo es → es ≡ all lo short
  pages_all {i} {lo} {es} short (last_page is) = ended_all i lo short es is
  pages_all {i} {lo} short (page_then es e is more_pages) =
      let parts = page_parts i lo short es e (ap (λ (p : Page). p.entries) is) in
      let short_e = last_short lo short es (drop (calls i).most (all lo short)) e parts in
      ap (λ (l : List Entry). (es ++ (e ∷ [])) ++ l)
      (pages_all short_e more_pages ∙ sym (page_cut A lo hi short_hi short es (drop (calls i).most (all lo short)) e parts short_e))
      ∙ parts

  record Come (i : ℕ) (lo : Bound) : Type 0 where
    entries : List Entry
    paged : Pages s hi calls i lo entries

  come_by_lem : (i : ℕ) (lo : Bound) (short : length (bound_bytes lo) ≤ max_path)
      → ((e : Entry) (short_e : length e.key ≤ max_path) → length (all (excluded e.key) short_e) < length (all lo short) → Come (suc i) (excluded e.key))
      → Come i lo
  come_by_lem i lo short later =
      ⊎_elim
      (λ (h : length (all lo short) < (calls i).most).
      record { entries = (asked s lo hi (calls i)).entries; paged = last_page (ap (page (asked s lo hi (calls i)).entries) (f.stops h)) })
      (λ (h : (calls i).most ≤ length (all lo short)).
      let n_is : length (asked s lo hi (calls i)).entries ≡ (calls i).most = ap length f.entries ∙ length-take-le (calls i).most (all lo short) h in
      goes_on (f.goes_on h) (snoc_of (asked s lo hi (calls i)).entries (omega (arith, (calls i).some))))
      (lt_or (length (all lo short)) (calls i).most)
    where
      f : FoldIs (all lo short) (calls i).most (asked s lo hi (calls i))
      f = asked_is i lo short

      goes_on : (asked s lo hi (calls i)).stop ≡ more → Snoc (asked s lo hi (calls i)).entries → Come i lo
      goes_on why w =
          let parts = page_parts i lo short w.init w.last w.is in
          let short_e = last_short lo short w.init (drop (calls i).most (all lo short)) w.last parts in
          let rest = later w.last short_e (page_fewer A lo hi short_hi short w.init (drop (calls i).most (all lo short)) w.last parts short_e) in
          record {
            entries = (w.init ++ (w.last ∷ [])) ++ rest.entries;
            paged =
                page_then w.init w.last
                (ap (λ (l : List Entry). page l (asked s lo hi (calls i)).stop) w.is ∙ ap (page (w.init ++ (w.last ∷ []))) why)
                rest.paged;
          }

  -- each page leaves fewer keys
  pages_come : (n i : ℕ) (lo : Bound) (short : length (bound_bytes lo) ≤ max_path) → length (all lo short) ≤ n → Come i lo
  pages_come zero i lo short le = come_by_lem i lo short (λ e short_e less. absurd (omega arith))
  pages_come (suc n) i lo short le = come_by_lem i lo short (λ e short_e less. pages_come n (suc i) (excluded e.key) short_e (omega arith))

  pub pages : (lo : Bound) → length (bound_bytes lo) ≤ max_path → PagesExact A lo hi calls
  pages lo short =
      let w = pages_come (length (all lo short)) 0 lo short (omega arith) in
      let is : w.entries ≡ all lo short = pages_all short w.paged in
      let W = All A lo hi short_hi lo short in
      record {
        entries = all lo short;
        paged = subst (Pages s hi calls 0 lo) is w.paged;
        only = λ es p. pages_all short p;
        ascending = W.ascending;
        held = W.held;
        none_left = W.none_left;
      }
