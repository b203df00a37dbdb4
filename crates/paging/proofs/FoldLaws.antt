-- Laws of a page's fold of next, one for each answer, and of the buffers, a row at a time: what a loop over next leans on.
--     fold_none, fold_key, fold_end, fold_refused     no call is left; what the next call answers
--     Folded w es n s r                               after the entries es the page w goes on as n calls from the reading r
--     folded_none, folded_key, folded_more, folded_end, folded_refused     before the first call, after a key, and at each stop
--     rows_snoc, values_snoc                          the buffers with one entry more
-- Assumes nothing.
use Rattle.std.specs.Prelude.{◌≡◌, refl, List, [], ◌∷◌, ◌++◌, map, ℕ, zero, suc, ◌+◌, ◌-◌, ◌*◌, ◌≤◌, ◌<◌, length, drop, set}
use Rattle.std.proofs.Common.{sym, ap, ap₂, ◌∙◌, append_assoc, append-nil, add-zero, add-one, arith, length-append, drop-cons}
use Rattle.std.proofs.lemmas.List.{length-map, set_at}
use Rattle.format.specs.declared.Refusal.{Refusal}
use Rattle.buffers.specs.Put.{put}
use Rattle.format.specs.Limits.{max_path}
use Rattle.reading.specs.Reading.{View, Answer, key, end, next}
use Rattle.reading.specs.Demand.{Entry, entry}
use Rattle.paging.specs.Paging.{Stop, ended, more, Page, page, refused_page, answered, fold, row_len, row_of, rows_from, rows_after, values_after}

pub fold_none : (s : List ℕ) (r : View) → fold s r 0 ≡ page [] more
unfolding fold
fold_none s r = refl

pub fold_by_lem : (s : List ℕ) (r : View) (n : ℕ) → fold s r (suc n) ≡ answered (next s r max_path).answer (fold s (next s r max_path).reading n)
unfolding fold
fold_by_lem s r n = refl

module _ (s : List ℕ) (r : View) (n : ℕ) where
  pub fold_key : (k : List ℕ) (v : ℕ) (r' : View) → (next s r max_path).answer ≡ key k v → (next s r max_path).reading ≡ r'
      → fold s r (suc n) ≡ page (entry k v ∷ (fold s r' n).entries) (fold s r' n).stop
  fold_key k v r' is on = fold_by_lem s r n ∙ ap₂ (λ (a : Answer) (q : View). answered a (fold s q n)) is on

  pub fold_end : (next s r max_path).answer ≡ end → fold s r (suc n) ≡ page [] ended
  fold_end is = fold_by_lem s r n ∙ ap (λ (a : Answer). answered a (fold s (next s r max_path).reading n)) is

  pub fold_refused : (c : Refusal) → (next s r max_path).answer ≡ Answer.refused c → fold s r (suc n) ≡ refused_page c
  fold_refused c is = fold_by_lem s r n ∙ ap (λ (a : Answer). answered a (fold s (next s r max_path).reading n)) is

-- ---- a loop of calls

pub record Folded (w : Page) (es : List Entry) (n : ℕ) (s : List ℕ) (r : View) : Type 0 where
  pub entries : w.entries ≡ es ++ (fold s r n).entries
  pub stop : w.stop ≡ (fold s r n).stop

pub folded_none : (s : List ℕ) (r : View) (n : ℕ) → Folded (fold s r n) [] n s r
folded_none s r n = record { entries = refl; stop = refl }

page_same : {w : Page} {es : List Entry} {why : Stop} → w.entries ≡ es → w.stop ≡ why → w ≡ page es why
page_same e f = ap₂ page e f

module _ {w : Page} {es : List Entry} {n : ℕ} {s : List ℕ} {r : View} (h : Folded w es n s r) where
  pub folded_key : (k : List ℕ) (v : ℕ) (r' : View) (m : ℕ) → n ≡ m + 1 → (next s r max_path).answer ≡ key k v → (next s r max_path).reading ≡ r'
      → Folded w (es ++ (entry k v ∷ [])) m s r'
  folded_key k v r' m at is on =
      let q : fold s r n ≡ page (entry k v ∷ (fold s r' m).entries) (fold s r' m).stop = ap (fold s r) (at ∙ add-one m) ∙ fold_key s r m k v r' is on in
      record {
        entries = h.entries ∙ ap (λ (p : Page). es ++ p.entries) q ∙ sym (append_assoc es (entry k v ∷ []) (fold s r' m).entries);
        stop = h.stop ∙ ap (λ (p : Page). p.stop) q;
      }

  -- the page stops here
  stops : (why : Stop) → fold s r n ≡ page [] why → w ≡ page es why
  stops why q =
      page_same (h.entries ∙ ap (λ (p : Page). es ++ p.entries) q ∙ append-nil es) (h.stop ∙ ap (λ (p : Page). p.stop) q)

  pub folded_more : n ≡ 0 → w ≡ page es more
  folded_more at = stops more (ap (fold s r) at ∙ fold_none s r)

  pub folded_end : 0 < n → (next s r max_path).answer ≡ end → w ≡ page es ended
  folded_end some is =
      let at : n ≡ suc (n - 1) = omega arith in
      stops ended (ap (fold s r) at ∙ fold_end s r (n - 1) is)

  pub folded_refused : 0 < n → (c : Refusal) → (next s r max_path).answer ≡ Answer.refused c → w ≡ page es (Stop.refused c)
  folded_refused some c is =
      let at : n ≡ suc (n - 1) = omega arith in
      stops (Stop.refused c) (ap (fold s r) at ∙ fold_refused s r (n - 1) c is)

-- ---- the buffers, with one entry more

rows_from_snoc : (i : ℕ) (es : List Entry) (e : Entry) (rows : List ℕ)
    → rows_from i (es ++ (e ∷ [])) rows ≡ put (rows_from i es rows) (row_len * (i + length es)) (row_of e)
unfolding rows_from
rows_from_snoc i [] e rows = ap (λ (j : ℕ). put rows (row_len * j) (row_of e)) (sym (add-zero i))
rows_from_snoc i (d ∷ es) e rows =
    rows_from_snoc (i + 1) es e (put rows (row_len * i) (row_of d))
    ∙ ap (λ (j : ℕ). put (rows_from (i + 1) es (put rows (row_len * i) (row_of d))) (row_len * j) (row_of e)) (omega arith)

pub rows_none : (rows : List ℕ) → rows_after [] rows ≡ rows
unfolding rows_from
rows_none rows = refl

pub rows_snoc : (es : List Entry) (e : Entry) (rows : List ℕ) → rows_after (es ++ (e ∷ [])) rows ≡ put (rows_after es rows) (row_len * length es) (row_of e)
rows_snoc es e rows = rows_from_snoc 0 es e rows ∙ ap (λ (j : ℕ). put (rows_after es rows) (row_len * j) (row_of e)) (omega arith)

values_of_snoc : (es : List Entry) (e : Entry) → map (λ (d : Entry). d.value) (es ++ (e ∷ [])) ≡ map (λ (d : Entry). d.value) es ++ (e.value ∷ [])
values_of_snoc [] e = refl
values_of_snoc (d ∷ es) e = ap (λ (l : List ℕ). d.value ∷ l) (values_of_snoc es e)

pub values_none : (values : List ℕ) → values_after [] values ≡ values
values_none values = refl

pub values_snoc : (es : List Entry) (e : Entry) (values : List ℕ) → length es < length values
    → values_after (es ++ (e ∷ [])) values ≡ set (values_after es values) (length es) e.value
values_snoc es e values room =
    let vs : List ℕ = map (λ (d : Entry). d.value) es in
    let n_is : length vs ≡ length es = length-map es (λ (d : Entry). d.value) in
    let l : length (es ++ (e ∷ [])) ≡ suc (length es) = length-append es (e ∷ []) ∙ add-one (length es) in
    let cut = drop-cons values (length es) 0 room in
    ap₂ ◌++◌ (values_of_snoc es e) (ap (λ (j : ℕ). drop j values) l)
    ∙ append_assoc vs (e.value ∷ []) (drop (suc (length es)) values)
    ∙ sym (ap (λ (q : List ℕ). set (vs ++ q) (length es) e.value) cut ∙ set_at vs _ (drop (suc (length es)) values) e.value (length es) n_is)
