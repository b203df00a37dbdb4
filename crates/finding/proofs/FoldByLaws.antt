-- Laws of the fold of next_by, one for each answer: what a loop over next leans on.
--     FoldedBy w es n s p r     after the entries es the page w goes on as n calls from the reading r
--     by_none, by_key, by_more, by_end, by_refused     before the first call, after a key, and at each stop
-- Assumes nothing.
use Rattle.std.specs.Prelude.{◌≡◌, refl, List, [], ◌∷◌, ◌++◌, ℕ, zero, suc, ◌+◌, ◌-◌, ◌<◌}
use Rattle.std.proofs.Common.{sym, ap, ap₂, ◌∙◌, append_assoc, append-nil, add-one, arith}
use Rattle.format.specs.declared.Refusal.{Refusal}
use Rattle.format.specs.Limits.{max_path}
use Rattle.reading.specs.Reading.{View, Answer, key, end}
use Rattle.reading.specs.Demand.{Entry, entry}
use Rattle.pattern.specs.Pattern.{Pattern, next_by}
use Rattle.paging.specs.Paging.{Stop, ended, more, Page, page, answered}
use Rattle.finding.specs.Finding.{fold_by}

abbrev asked : List ℕ → Pattern → View → ℕ → Answer → View → Page
asked s p r n a r' = answered a (fold_by s p r' n)

fold_by_lem : (s : List ℕ) (p : Pattern) (r : View) (n : ℕ) → fold_by s p r (suc n) ≡ asked s p r n (next_by s p r max_path).answer (next_by s p r max_path).reading
unfolding fold_by
fold_by_lem s p r n = refl

fold_none : (s : List ℕ) (p : Pattern) (r : View) → fold_by s p r 0 ≡ page [] more
unfolding fold_by
fold_none s p r = refl

pub record FoldedBy (w : Page) (es : List Entry) (n : ℕ) (s : List ℕ) (p : Pattern) (r : View) : Type 0 where
  pub is : w ≡ page (es ++ (fold_by s p r n).entries) (fold_by s p r n).stop

pub by_none : (s : List ℕ) (p : Pattern) (r : View) (n : ℕ) → FoldedBy (fold_by s p r n) [] n s p r
by_none s p r n = record { is = refl }

module _ {w : Page} {es : List Entry} {n : ℕ} {s : List ℕ} {p : Pattern} {r : View} (h : FoldedBy w es n s p r) where
  -- the page goes on as the page q
  goes : (q : Page) → fold_by s p r n ≡ q → w ≡ page (es ++ q.entries) q.stop
  goes q e = h.is ∙ ap (λ (x : Page). page (es ++ x.entries) x.stop) e

  pub by_key : (k : List ℕ) (v : ℕ) (r' : View) (m : ℕ) → n ≡ m + 1 → (next_by s p r max_path).answer ≡ key k v → (next_by s p r max_path).reading ≡ r'
      → FoldedBy w (es ++ (entry k v ∷ [])) m s p r'
  by_key k v r' m at is on =
      let q = fold_by s p r' m in
      record {
        is =
            goes (page (entry k v ∷ q.entries) q.stop) (ap (fold_by s p r) (at ∙ add-one m) ∙ fold_by_lem s p r m ∙ ap₂ (asked s p r m) is on)
            ∙ ap (λ (l : List Entry). page l q.stop) (sym (append_assoc es (entry k v ∷ []) q.entries));
      }

  -- the page stops here
  stops : (why : Stop) → fold_by s p r n ≡ page [] why → w ≡ page es why
  stops why e = goes (page [] why) e ∙ ap (λ (l : List Entry). page l why) (append-nil es)

  pub by_more : n ≡ 0 → w ≡ page es more
  by_more at = stops more (ap (fold_by s p r) at ∙ fold_none s p r)

  stopped : (a : Answer) → 0 < n → (next_by s p r max_path).answer ≡ a → fold_by s p r n ≡ asked s p r (n - 1) a (next_by s p r max_path).reading
  stopped a some is =
      let at : n ≡ suc (n - 1) = omega arith in
      ap (fold_by s p r) at ∙ fold_by_lem s p r (n - 1) ∙ ap (λ (x : Answer). asked s p r (n - 1) x (next_by s p r max_path).reading) is

  pub by_end : 0 < n → (next_by s p r max_path).answer ≡ end → w ≡ page es ended
  by_end some is = stops ended (stopped end some is)

  pub by_refused : 0 < n → (c : Refusal) → (next_by s p r max_path).answer ≡ Answer.refused c → w ≡ page es (Stop.refused c)
  by_refused some c is = stops (Stop.refused c) (stopped (Answer.refused c) some is)
