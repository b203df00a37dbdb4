-- Page after page for a C program: `pages_tell`.
--     read_rows_lem        what is read out of the rows of a page is the page
--     pages_of         the calls of a C program are pages of the definition
--     pages_tell       on an admitted file they hand out the held keys between the bounds, once each, whatever each call asked for
-- Assumes nothing.
use Rattle.std.specs.Prelude.{◌≡◌, refl, ℕ, zero, suc, ◌+◌, ◌-◌, ◌*◌, ◌≤◌, ◌<◌, length, get_or, drop}
use Rattle.std.proofs.Common.{sym, ap, subst, ◌∙◌, zero-add, add-zero, arith, length-append, ext_get_or}
use mathlib.Core.List.{List, [], ◌∷◌, ◌++◌, map, Memᴰ}
use Rattle.std.proofs.Math.ListN.{get_or-append, get_or-map}
use Rattle.std.proofs.Math.Seq.{get_or-append_seam}
use Rattle.format.specs.Limits.{max_path}
use Rattle.format.specs.Admitted.{Admitted}
use Rattle.format.specs.Strings.{Bound, excluded}
use Rattle.reading.specs.Reading.{bound_bytes}
use Rattle.reading.proofs.CutLaws.{snoc_mem}
use Rattle.reading.specs.Demand.{Entry, entry}
use Rattle.paging.specs.Paging.{Page, page, ended, more, row_len, values_after, range}
use Rattle.paging.proofs.RowLaws.{key_at, RowsHold}
use Rattle.paging.specs.RangeExact.{PageCall, asked, Pages, last_page, page_then}
use Rattle.paging.proofs.RangeLaws.{held_short}
use Rattle.paging.proofs.PagesLaws.{pages}
use Rattle.baxhiso_readings.specs.Readings.{END, MORE}
use Rattle.baxhiso_readings.specs.ReadingsLaws.{RangeTells, range_tells}
use Rattle.baxhiso_pages.specs.CPages.{bytes_from, row_key, read_rows, PageMade, read_of, CPages, ends, goes_on, PagesTell}

-- ---- the rows

length_bytes : (b : List ℕ) (p n : ℕ) → length (bytes_from b p n) ≡ n
unfolding bytes_from
length_bytes b p zero = refl
length_bytes b p (suc n) = ap suc (length_bytes b (suc p) n)

get_d_bytes : (b : List ℕ) (p n j : ℕ) → j < n → get_or (bytes_from b p n) j 0 ≡ get_or b (p + j) 0
unfolding bytes_from
get_d_bytes b p zero j h = absurd (omega arith)
get_d_bytes b p (suc n) zero h = let e : p ≡ p + 0 = omega arith in ap (λ (q : ℕ). get_or b q 0) e
get_d_bytes b p (suc n) (suc j) h =
    let e : suc p + j ≡ p + suc j = omega arith in
    get_d_bytes b (suc p) n j (omega arith) ∙ ap (λ (q : ℕ). get_or b q 0) e

length_read : (rows values : List ℕ) (i n : ℕ) → length (read_rows rows values i n) ≡ n
unfolding read_rows
length_read rows values i zero = refl
length_read rows values i (suc n) = ap suc (length_read rows values (suc i) n)

get_d_read : (rows values : List ℕ) (i n j : ℕ) → j < n → get_or (read_rows rows values i n) j (entry [] 0) ≡ entry (row_key rows (i + j)) (get_or values (i + j) 0)
unfolding read_rows
get_d_read rows values i zero j h = absurd (omega arith)
get_d_read rows values i (suc n) zero h = let e : i ≡ i + 0 = omega arith in ap (λ (q : ℕ). entry (row_key rows q) (get_or values q 0)) e
get_d_read rows values i (suc n) (suc j) h =
    let e : suc i + j ≡ i + suc j = omega arith in
    get_d_read rows values (suc i) n j (omega arith) ∙ ap (λ (q : ℕ). entry (row_key rows q) (get_or values q 0)) e

module _ (es : List Entry) (rows₀ rows values₀ values : List ℕ) (holds : RowsHold es rows₀ rows) (are : values ≡ values_after es values₀) where
  row_key_lem : (i : ℕ) → i < length es → row_key rows i ≡ key_at es i
  row_key_lem i h =
      let n = get_or rows (row_len * i) 0 in
      let n_is : n ≡ length (key_at es i) = holds.lengths i h in
      ext_get_or 0 (row_key rows i) (key_at es i) (length_bytes rows (row_len * i + 1) n ∙ n_is)
      (λ j less.
      let below : j < n = subst (λ (m : ℕ). j < m) (length_bytes rows (row_len * i + 1) n) less in
      get_d_bytes rows (row_len * i + 1) n j below ∙ holds.bytes i j h (subst (λ (m : ℕ). j < m) n_is below))

  value_at_lem : (i : ℕ) → i < length es → get_or values i 0 ≡ (get_or es i (entry [] 0)).value
  value_at_lem i h =
      let long : length (map (λ (e : Entry). e.value) es) ≡ length es = length_values es in
      ap (λ (l : List ℕ). get_or l i 0) are
      ∙ get_or-append (map (λ (e : Entry). e.value) es) (drop (length es) values₀) 0 i (omega (arith, long))
      ∙ get_or-map (λ (e : Entry). e.value) es i (entry [] 0)
    where
      length_values : (l : List Entry) → length (map (λ (e : Entry). e.value) l) ≡ length l
      length_values [] = refl
      length_values (x ∷ l) = ap suc (length_values l)

  pub read_rows_lem : (n : ℕ) → n ≡ length es → read_rows rows values 0 n ≡ es
  read_rows_lem n is =
      ext_get_or (entry [] 0) (read_rows rows values 0 n) es (length_read rows values 0 n ∙ is)
      (λ j less.
      let below : j < n = subst (λ (m : ℕ). j < m) (length_read rows values 0 n) less in
      let on : j < length es = subst (λ (m : ℕ). j < m) is below in
      get_d_read rows values 0 n j below
      ∙ ap (λ (q : ℕ). entry (row_key rows q) (get_or values q 0)) (zero-add j)
      ∙ ap (λ (k : List ℕ). entry k (get_or values j 0)) (row_key_lem j on)
      ∙ ap (entry (key_at es j)) (value_at_lem j on))

-- ---- a call

record Last (l : List Entry) : Type 0 where
  init : List Entry
  last : Entry
  is : l ≡ init ++ (last ∷ [])
  place : length init ≡ length l - 1

last_of : (l : List Entry) → 0 < length l → Last l
last_of [] h = absurd (omega arith)
last_of (x ∷ []) h = record { init = []; last = x; is = refl; place = refl }
last_of (x ∷ y ∷ l) h =
    let w = last_of (y ∷ l) (omega arith) in
    record { init = x ∷ w.init; last = w.last; is = ap (λ (q : List Entry). x ∷ q) w.is; place = omega (arith, w.place) }

module _ {s : List ℕ} (A : Admitted s) (hi : Bound) (short_hi : length (bound_bytes hi) ≤ max_path) where
  abbrev call_of : {lo : Bound} → PageMade s lo hi → PageCall
  call_of c = record { most = c.most; rows = length c.rows₀; values = length c.values₀; some = c.some; row_room = c.row_room; value_room = c.value_room }

  abbrev page_of : {lo : Bound} → PageMade s lo hi → Page
  page_of {lo} c = asked s lo hi (call_of c)

  module _ {lo : Bound} (short : length (bound_bytes lo) ≤ max_path) (c : PageMade s lo hi) where
    tells : RangeTells A lo hi c.most (page_of c) c.rows₀ c.rows c.values₀ c.values c.count c.result
    tells = range_tells A lo hi c.most c.rows₀ c.rows c.values₀ c.values c.count c.result c.row_room short short_hi c.value_room c.leaves

    read_is : read_of c ≡ (page_of c).entries
    read_is = read_rows_lem (page_of c).entries c.rows₀ c.rows c.values₀ c.values tells.rows_are tells.values_are c.count tells.count_is

    -- a page that stopped for its number of keys has a last one, which stands in the last row
    record Full : Type 0 where
      init : List Entry
      last : Entry
      page_is : page_of c ≡ page (init ++ (last ∷ [])) more
      key_is_lem : row_key c.rows (c.count - 1) ≡ last.key
      short_last : length last.key ≤ max_path

    full : c.result ≡ MORE → Full
    full r =
        let stop : (page_of c).stop ≡ more = tells.more_more r in
        let long : length (page_of c).entries ≡ c.most = tells.exact.more_all stop in
        let w = last_of (page_of c).entries (omega (arith, long, c.some)) in
        let at : get_or (page_of c).entries (c.count - 1) (entry [] 0) ≡ w.last =
        ap (λ (l : List Entry). get_or l (c.count - 1) (entry [] 0)) w.is
        ∙ ap (λ (q : ℕ). get_or (w.init ++ (w.last ∷ [])) q (entry [] 0)) (omega (arith, tells.count_is, w.place))
        ∙ get_or-append_seam w.init w.last [] (entry [] 0) in
        record {
          init = w.init;
          last = w.last;
          page_is = ap (λ (l : List Entry). page l (page_of c).stop) w.is ∙ ap (page (w.init ++ (w.last ∷ []))) stop;
          key_is_lem =
              row_key_lem (page_of c).entries c.rows₀ c.rows c.values₀ c.values tells.rows_are tells.values_are (c.count - 1)
              (omega (arith, tells.count_is, long, c.some))
              ∙ ap (λ (e : Entry). e.key) at;
          short_last = held_short A (tells.exact.held w.last (subst (Memᴰ w.last) (sym w.is) (snoc_mem w.init w.last))).0;
        }

  -- ---- page after page

  record PagesOf (lo : Bound) (es : List Entry) : Type 0 where
    calls : ℕ → PageCall
    paged : (f : ℕ → PageCall) (i : ℕ) → ((j : ℕ) → f (i + j) ≡ calls j) → Pages s hi f i lo es

  abbrev then : PageCall → (ℕ → PageCall) → ℕ → PageCall
  then c f zero = c
  then c f (suc j) = f j

  pages_of : {lo : Bound} {es : List Entry} → length (bound_bytes lo) ≤ max_path → CPages s hi lo es → PagesOf lo es
  pages_of {lo} short (ends c r) =
      record {
        calls = λ j. call_of c;
        paged =
            λ f i same.
            last_page
            (ap (asked s lo hi) (ap f (sym (add-zero i)) ∙ same 0)
            ∙ ap (page (page_of c).entries) ((tells short c).end_ended r)
            ∙ ap (λ (l : List Entry). page l ended) (sym (read_is short c)));
      }
  pages_of {lo} short (goes_on {rest = rest} c r more_pages) =
      let w = full short c r in
      let lower : excluded (row_key c.rows (c.count - 1)) ≡ excluded w.last.key = ap excluded w.key_is_lem in
      let short_key = subst (λ (k : List ℕ). length k ≤ max_path) (sym w.key_is_lem) w.short_last in
      let next = subst (λ (b : Bound). PagesOf b rest) lower (pages_of short_key more_pages) in
      let front : w.init ++ (w.last ∷ []) ≡ read_of c = sym (read_is short c ∙ ap (λ (p : Page). p.entries) w.page_is) in
      record {
        calls = then (call_of c) next.calls;
        paged =
            λ f i same.
            subst (λ (l : List Entry). Pages s hi f i lo (l ++ rest)) front
            (page_then w.init w.last (ap (asked s lo hi) (ap f (sym (add-zero i)) ∙ same 0) ∙ w.page_is)
            (next.paged f (suc i) (λ j. let e : suc i + j ≡ i + suc j = omega arith in ap f e ∙ same (suc j))));
      }

  pub pages_tell : (lo : Bound) (es : List Entry) → length (bound_bytes lo) ≤ max_path → CPages s hi lo es → PagesTell A lo hi es
  pages_tell lo es short made =
      let w = pages_of short made in
      let all = pages A hi short_hi w.calls lo short in
      let is : all.entries ≡ es = sym (all.only es (w.paged w.calls 0 (λ j. ap w.calls (zero-add j)))) in
      subst (PagesTell A lo hi) is (record { ascending = all.ascending; held = all.held; none_left = all.none_left })
