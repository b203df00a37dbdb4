-- Page after page by pattern of an admitted file: `find_pages`.
--     pages_right          page after page hands out the held keys between the bounds that fit, whatever the calls are
--     pages_come           and comes to an end
-- Assumes nothing.
use Rattle.std.specs.Prelude.{◌≡◌, refl, ◌⊎◌, ℕ, zero, suc, ◌+◌, ◌*◌, ◌≤◌, ◌<◌, length}
use Rattle.std.proofs.Common.{sym, ◌∙◌, ap, subst, ⊎_elim, inl, inr, le_refl, arith}
use mathlib.Core.List.{List, [], ◌∷◌, ◌++◌, map, Memᴰ}
use Rattle.buffers.specs.DecideLaws.{true_of}
use Rattle.format.specs.Limits.{max_path}
use Rattle.format.specs.Paths.{fst_of}
use Rattle.format.specs.Admitted.{Admitted}
use Rattle.format.specs.Strings.{Before, Bound, excluded, MeetsLower, beyond, Between, Rising}
use Rattle.format.specs.Laws.StringLaws.{before_irrefl, before_asym, before_trans, before_total}
use Rattle.reading.specs.Reading.{bound_bytes}
use Rattle.reading.proofs.RunLaws.{lt_or}
use Rattle.reading.proofs.BoundLaws.{decides_meets, meets_up}
use Rattle.reading.specs.Demand.{Entry, entry}
use Rattle.reading.specs.WholeRun.{Whole}
use Rattle.reading.proofs.CutLaws.{keys_out, rising_last, snoc_mem}
use Rattle.sittings.proofs.RisingLaws.{rising_append, rising_unique}
use Rattle.pattern.specs.Pattern.{Pattern}
use Rattle.pattern.specs.PatternDemand.{Wanted, NoneLeftBy}
use Rattle.paging.specs.Paging.{Stop, ended, more, Page, page}
use Rattle.paging.specs.RangeExact.{PageCall}
use Rattle.paging.proofs.RangeLaws.{held_short, all_of}
use Rattle.paging.proofs.PagesLaws.{page_fewer}
use Rattle.finding.specs.FindExact.{FindExact, asked_by, PagesBy, last_page, page_then, FindPages}
use Rattle.finding.proofs.FindLaws.{find_exact}

above_excluded : {c x : List ℕ} → MeetsLower (excluded c) x → Before c x
above_excluded (beyond h) = h

-- ---- a list cut at its last, and at a member

record Snoc (l : List Entry) : Type 0 where
  init : List Entry
  last : Entry
  is : l ≡ init ++ (last ∷ [])

snoc_of : (l : List Entry) → 0 < length l → Snoc l
snoc_of [] h = absurd (omega arith)
snoc_of (x ∷ []) h = record { init = []; last = x; is = refl }
snoc_of (x ∷ y ∷ l) h =
    let w = snoc_of (y ∷ l) (omega arith) in
    record { init = x ∷ w.init; last = w.last; is = ap (λ (q : List Entry). x ∷ q) w.is }

record CutAt (e : Entry) (l : List Entry) : Type 0 where
  front : List Entry
  back : List Entry
  is : (front ++ (e ∷ [])) ++ back ≡ l

cut_at : (e : Entry) (l : List Entry) → Memᴰ e l → CutAt e l
cut_at e [] on = absurd (mathlib.Core.List.Memᴰ.not-nil on)
cut_at e (x ∷ l) on =
    ⊎_elim
    (λ (q : e ≡ x). record { front = []; back = l; is = ap (λ (y : Entry). y ∷ l) q })
    (λ (h : Memᴰ e l). let w = cut_at e l h in record { front = x ∷ w.front; back = w.back; is = ap (λ (q : List Entry). x ∷ q) w.is })
    (mathlib.Core.List.Memᴰ.cases_cons on)

module _ {s : List ℕ} (A : Admitted s) (p : Pattern) (few : length p.positions ≤ max_path) (hi : Bound) (short_hi : length (bound_bytes hi) ≤ max_path)
    (calls : ℕ → PageCall) where
  abbrev Wants : Bound → List ℕ → ℕ → Type 0
  Wants lo k v = Wanted (fst_of s A.meta) p lo hi k v

  asked_exact : (i : ℕ) (lo : Bound) → length (bound_bytes lo) ≤ max_path → FindExact A p lo hi (calls i).most (asked_by s p lo hi (calls i))
  asked_exact i lo short =
      find_exact A p lo hi (calls i).most (calls i).rows (calls i).values few short short_hi (calls i).row_room (calls i).value_room

  -- all that is wanted from the lower bound on
  record Right (lo : Bound) (es : List Entry) : Type 0 where
    ascending : Rising (keys_out es)
    wanted : (e : Entry) → Memᴰ e es → Wants lo e.key e.value
    none_left : NoneLeftBy (fst_of s A.meta) p lo hi es

  ended_right : (lo : Bound) (most : ℕ) (w : Page) (es : List Entry) → w ≡ page es ended → FindExact A p lo hi most w → Right lo es
  ended_right lo most w es is f =
      let g : FindExact A p lo hi most (page es ended) = subst (FindExact A p lo hi most) is f in
      record { ascending = g.ascending; wanted = g.wanted; none_left = g.ended_none_left refl }

  -- a page, and all that is wanted after its last key
  module _ (lo : Bound) (most : ℕ) (es rest : List Entry) (e : Entry) (f : FindExact A p lo hi most (page (es ++ (e ∷ [])) more))
      (later : Right (excluded e.key) rest) where
    meets_last : MeetsLower lo e.key
    meets_last = (f.wanted e (snoc_mem es e)).between.meets

    after_last : (z : Entry) → Memᴰ z rest → Before e.key z.key
    after_last z on = above_excluded (later.wanted z on).between.meets

    apart : (x y : Entry) → Memᴰ x (es ++ (e ∷ [])) → Memᴰ y rest → Before x.key y.key
    apart x y mx my =
        ⊎_elim
        (λ (h : Memᴰ x es). before_trans (rising_last es e x f.ascending h) (after_last y my))
        (λ (h : Memᴰ x (e ∷ [])). subst (λ (z : Entry). Before z.key y.key) (sym (mathlib.Core.List.Memᴰ.eq_of_singleton h)) (after_last y my))
        (mathlib.Core.List.Memᴰ.append_cases es mx)

    wanted_rest : (z : Entry) → Memᴰ z rest → Wants lo z.key z.value
    wanted_rest z on =
        let w = later.wanted z on in
        let meets = (decides_meets lo z.key).yes (meets_up lo e.key z.key (after_last z on) (true_of _ (decides_meets lo e.key) meets_last)) in
        record { held = w.held; between = record { meets = meets; within = w.between.within }; fits = w.fits }

    none_left_then : (k : List ℕ) (v : ℕ) → Wants lo k v → Memᴰ (entry k v) ((es ++ (e ∷ [])) ++ rest)
    none_left_then k v w =
        ⊎_elim
        (λ (q : e.key ≡ k). here (λ b. before_irrefl k (subst (λ (x : List ℕ). Before x k) q b)))
        (λ o.
        ⊎_elim
        (λ (b : Before e.key k).
        mathlib.Core.List.Memᴰ.append_right (es ++ (e ∷ []))
        (later.none_left k v (record { held = w.held; between = record { meets = beyond b; within = w.between.within }; fits = w.fits })))
        (λ (b : Before k e.key). here (before_asym b))
        o)
        (before_total e.key k)
      where
        here : ¬ Before e.key k → Memᴰ (entry k v) ((es ++ (e ∷ [])) ++ rest)
        here low = mathlib.Core.List.Memᴰ.append_left rest (f.none_left_out k v w e (snoc_mem es e) low)

    right_then : Right lo ((es ++ (e ∷ [])) ++ rest)
    right_then =
        record {
          ascending = rising_append (λ (x : Entry). x.key) (es ++ (e ∷ [])) rest f.ascending later.ascending apart;
          wanted = λ z on.
              ⊎_elim
              (λ (h : Memᴰ z (es ++ (e ∷ []))). f.wanted z h)
              (λ (h : Memᴰ z rest). wanted_rest z h)
              (mathlib.Core.List.Memᴰ.append_cases (es ++ (e ∷ [])) on);
          none_left = none_left_then;
        }

  last_short : (lo : Bound) (most : ℕ) (es : List Entry) (e : Entry) → FindExact A p lo hi most (page (es ++ (e ∷ [])) more) → length e.key ≤ max_path
  last_short lo most es e f = held_short A (f.wanted e (snoc_mem es e)).held

  pages_right : {i : ℕ} {lo : Bound} {es : List Entry} → length (bound_bytes lo) ≤ max_path → PagesBy s p hi calls i lo es → Right lo es
  pages_right {i} {lo} {es} short (last_page is) = ended_right lo (calls i).most (asked_by s p lo hi (calls i)) es is (asked_exact i lo short)
  pages_right {i} {lo} short (page_then {rest = rest} es e is more_pages) =
      let f = subst (FindExact A p lo hi (calls i).most) is (asked_exact i lo short) in
      right_then lo (calls i).most es rest e f (pages_right (last_short lo (calls i).most es e f) more_pages)

  -- ---- the pages come to an end: the keys between the bounds, fitting or not, get fewer

  abbrev all : (lo : Bound) → length (bound_bytes lo) ≤ max_path → List Entry
  all lo short = (all_of A lo hi short short_hi).entries

  fewer : (lo : Bound) (short : length (bound_bytes lo) ≤ max_path) (e : Entry) (short_e : length e.key ≤ max_path) → Wants lo e.key e.value
      → length (all (excluded e.key) short_e) < length (all lo short)
  fewer lo short e short_e w =
      let c = cut_at e (all lo short) ((all_of A lo hi short short_hi).none_left e.key e.value w.held w.between) in
      page_fewer A lo hi short_hi short c.front c.back e c.is short_e

  record Come (i : ℕ) (lo : Bound) : Type 0 where
    entries : List Entry
    paged : PagesBy s p hi calls i lo entries

  come_by_lem : (i : ℕ) (lo : Bound) (short : length (bound_bytes lo) ≤ max_path)
      → ((e : Entry) (short_e : length e.key ≤ max_path) → length (all (excluded e.key) short_e) < length (all lo short) → Come (suc i) (excluded e.key))
      → Come i lo
  come_by_lem i lo short later =
      ⊎_elim
      (λ (h : length w.entries < (calls i).most). record { entries = w.entries; paged = last_page (ap (page w.entries) (f.fewer_ended h)) })
      (λ (h : (calls i).most ≤ length w.entries).
      let n_is : length w.entries ≡ (calls i).most = omega (arith, f.at_most) in
      goes_on (f.all_more n_is) (snoc_of w.entries (omega (arith, (calls i).some))))
      (lt_or (length w.entries) (calls i).most)
    where
      w : Page
      w = asked_by s p lo hi (calls i)

      f : FindExact A p lo hi (calls i).most w
      f = asked_exact i lo short

      goes_on : w.stop ≡ more → Snoc w.entries → Come i lo
      goes_on why c =
          let is : w ≡ page (c.init ++ (c.last ∷ [])) more =
          ap (λ (l : List Entry). page l w.stop) c.is ∙ ap (page (c.init ++ (c.last ∷ []))) why in
          let g : FindExact A p lo hi (calls i).most (page (c.init ++ (c.last ∷ [])) more) = subst (FindExact A p lo hi (calls i).most) is f in
          let short_e = last_short lo (calls i).most c.init c.last g in
          let rest = later c.last short_e (fewer lo short c.last short_e (g.wanted c.last (snoc_mem c.init c.last))) in
          record { entries = (c.init ++ (c.last ∷ [])) ++ rest.entries; paged = page_then c.init c.last is rest.paged }

  pages_come : (n i : ℕ) (lo : Bound) (short : length (bound_bytes lo) ≤ max_path) → length (all lo short) ≤ n → Come i lo
  pages_come zero i lo short le = come_by_lem i lo short (λ e short_e less. absurd (omega arith))
  pages_come (suc n) i lo short le = come_by_lem i lo short (λ e short_e less. pages_come n (suc i) (excluded e.key) short_e (omega arith))

  same_right : {lo : Bound} {es ds : List Entry} → Right lo es → Right lo ds → es ≡ ds
  same_right {lo} {es} {ds} a b =
      rising_unique (λ (x : Entry). x.key) es ds a.ascending b.ascending
      (λ z on. b.none_left z.key z.value (a.wanted z on))
      (λ z on. a.none_left z.key z.value (b.wanted z on))

  pub find_pages : (lo : Bound) → length (bound_bytes lo) ≤ max_path → FindPages A p lo hi calls
  find_pages lo short =
      let w = pages_come (length (all lo short)) 0 lo short (le_refl (length (all lo short))) in
      let r = pages_right short w.paged in
      record {
        entries = w.entries;
        paged = w.paged;
        only = λ es more_pages. same_right (pages_right short more_pages) r;
        ascending = r.ascending;
        wanted = r.wanted;
        none_left = r.none_left;
      }
