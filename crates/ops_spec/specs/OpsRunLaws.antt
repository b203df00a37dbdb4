-- Calls on ascending lanes: each hands out the least key that belongs, and what is left are the entries after it.
--     call_right      a call's answer
--     run_exact       the items of call after call: ascending, all keys that belong, none else
-- Assumes nothing.
use Prim.{Unit, tt}
use Rattle.std.specs.Prelude.{◌≡◌, refl, Bool, true, false, ◌⊎◌, ℕ, zero, suc, ◌+◌, ◌<◌, ◌≤◌, length}
use Rattle.std.proofs.Common.{sym, ◌∙◌, ap, ap₂, subst, ⊎_elim, inl, inr, arith}
use mathlib.Core.List.Memᴰ
use mathlib.Core.List.{List, [], ◌∷◌, map, Memᴰ}
use Rattle.format.specs.Strings.{Before, before_test, AllAfter, Rising}
use Rattle.buffers.specs.Decide.{Decides}
use Rattle.format.specs.Laws.StringLaws.{before_total, decides_before}
use Rattle.ops_spec.specs.Ops.{Op, Indexed}
use Rattle.ops_spec.specs.OpsDemand.{Takes}
use Rattle.ops_spec.specs.OpsLists.{Lanes, AllRising, pairs_in, Belongs, past_all, total, Judged, this, no_more, another, judge, Keeps, Least, NoneBelongs, RoundIs, Outcome, item, ending, by_judged, call_to, Answered, Item, item_is, items_then, items_to, Exact}
use Rattle.ops_spec.specs.OpsListsLaws.{past_all_rising, past_all_length, pairs_past, pairs_past_none}
use Rattle.ops_spec.specs.OpsRoundLaws.{takes_nil, round}

-- an answer about lanes to which the same keys belong
answered_from : (op : Op) (L M : Lanes) → Keeps op L M → total M < total L → length M ≡ length L → (o : Outcome) → Answered op M o → Answered op L o
answered_from op L M keeps less len (item k ps N) h = (
  record {
    belongs = keeps.from k ps h.0.belongs;
    none_before = λ l qs b c. h.0.none_before l qs b (keeps.to l qs c);
  },
  h.1 ∙ keeps.rest k ps h.0.belongs,
  omega (arith, h.2),
)
answered_from op L M keeps less len (ending N) h = ((λ k ps b. h.0 k ps (keeps.to k ps b)), h.1, h.2, h.3 ∙ len)

pub call_right : (n : ℕ) (op : Op) (L : Lanes) → total L < n → AllRising L → 0 < length L → Answered op L (call_to n op L)
call_right zero op L h rising some_lane = absurd (omega arith)
call_right (suc n) op L h rising some_lane = by (judge op L) (round op L rising some_lane) (λ M less up here. call_right n op M (omega arith) up here)
  where
    by : (j : Judged) → RoundIs op L j → ((M : Lanes) → total M < total L → AllRising M → 0 < length M → Answered op M (call_to n op M)) → Answered op L (by_judged L (call_to n op) j)
    by (this k ps M) r more = r
    by no_more r more = (r, r, rising, refl)
    by (another M) r more =
        let len : length M ≡ length L = r.2 in
        answered_from op L M r.0 r.3 len (call_to n op M) (more M r.3 r.1 (omega arith))

-- ---- after an item

-- the keys that belong to what is left are those after it
past_belongs : (op : Op) (L : Lanes) (k l : List ℕ) (ps : List Indexed) → Before k l → Belongs op L l ps → Belongs op (past_all k L) l ps
past_belongs op L k l ps b h = record { pairs = pairs_past 0 k l L b ∙ h.pairs; takes = subst (λ (n : ℕ). Takes op n ps) (sym (past_all_length k L)) h.takes }

belongs_past : (op : Op) (L : Lanes) (k l : List ℕ) (ps : List Indexed) → Before k l → Belongs op (past_all k L) l ps → Belongs op L l ps
belongs_past op L k l ps b h = record { pairs = sym (pairs_past 0 k l L b) ∙ h.pairs; takes = subst (λ (n : ℕ). Takes op n ps) (past_all_length k L) h.takes }

past_later : (op : Op) (L : Lanes) (k l : List ℕ) (ps : List Indexed) → AllRising L → 0 < length L → Belongs op (past_all k L) l ps → Before k l
past_later op L k l ps rising some_lane h = by (before_test k l) refl
  where
    by : (t : Bool) → before_test k l ≡ t → Before k l
    by true q = (decides_before k l).yes q
    by false q =
        let e : length (past_all k L) ≡ length L = past_all_length k L in
        let z : ps ≡ [] = sym h.pairs ∙ pairs_past_none 0 k l L rising ((decides_before k l).no q) in
        absurd (takes_nil op (length (past_all k L)) (omega arith) (subst (λ (qs : List Indexed). Takes op (length (past_all k L)) qs) z h.takes))

-- ---- the items of call after call

after_all_lem : (k : List ℕ) (is : List Item) → ((x : Item) → Memᴰ x is → Before k x.key) → AllAfter k (map (λ (x : Item). x.key) is)
after_all_lem k [] h = tt
after_all_lem k (x ∷ is) h = (h x (Memᴰ.head refl), after_all_lem k is (λ y m. h y (Memᴰ.tail m)))

pub exact_item : (op : Op) (L : Lanes) → AllRising L → 0 < length L → (k : List ℕ) (ps : List Indexed) → Least op L k ps → (is : List Item) → Exact op (past_all k L) is
    → Exact op L (item_is k ps ∷ is)
exact_item op L rising some_lane k ps least is more =
    record {
      ascending = (after_all_lem k is (λ x m. past_later op L k x.key x.pairs rising some_lane (more.such x m)), more.ascending);
      such = λ x m.
          ⊎_elim
          (λ (e : x ≡ item_is k ps). subst (λ (y : Item). Belongs op L y.key y.pairs) (sym e) least.belongs)
          (λ (n : Memᴰ x is). belongs_past op L k x.key x.pairs (past_later op L k x.key x.pairs rising some_lane (more.such x n)) (more.such x n))
          (Memᴰ.cases_cons m);
      all = λ l qs b.
          ⊎_elim
          (λ (e : k ≡ l).
          let same : ps ≡ qs = sym least.belongs.pairs ∙ ap (λ (x : List ℕ). pairs_in 0 x L) e ∙ b.pairs in
          subst (λ (x : Item). Memᴰ x (item_is k ps ∷ is)) (ap₂ item_is e same) (Memᴰ.head refl))
          (λ h. ⊎_elim (λ c. Memᴰ.tail (more.all l qs (past_belongs op L k l qs c b))) (λ c. absurd (least.none_before l qs c b)) h)
          (before_total k l);
    }

pub run_exact : (n : ℕ) (op : Op) (L : Lanes) → total L < n → AllRising L → 0 < length L → Exact op L (items_to n op L)
run_exact zero op L h rising some_lane = absurd (omega arith)
run_exact (suc n) op L h rising some_lane =
    by (call_to (suc (total L)) op L) (call_right (suc (total L)) op L (omega arith) rising some_lane) (λ M less up here. run_exact n op M (omega arith) up here)
  where
    by : (o : Outcome) → Answered op L o → ((M : Lanes) → total M < total L → AllRising M → 0 < length M → Exact op M (items_to n op M)) → Exact op L (items_then (items_to n op) o)
    by (item k ps M) r more =
        let len : length (past_all k L) ≡ length L = past_all_length k L in
        let up : AllRising M = subst AllRising (sym r.1) (past_all_rising k L rising) in
        let here : 0 < length M = subst (λ (N : Lanes). 0 < length N) (sym r.1) (omega arith) in
        exact_item op L rising some_lane k ps r.0 (items_to n op M) (subst (λ (N : Lanes). Exact op N (items_to n op M)) r.1 (more M r.2 up here))
    by (ending M) r more = record { ascending = tt; such = λ x m. absurd (Memᴰ.not-nil m); all = λ k ps b. absurd (r.0 k ps b) }
