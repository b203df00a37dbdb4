-- Laws of `OpsLists`: what is left after a key, and lanes none of whose first keys is before a key.
--     HeadsFrom k L                  no first key comes before k
--     pairs_past, pairs_past_none    the values of a key in what is left after another
--     heads_past, heads_pairs        at the least first key: what is left, and its values
--     heads_early                    no lane has an earlier key
-- Assumes nothing.
use Prim.{Unit, tt}
use Rattle.std.specs.Prelude.{◌≡◌, refl, Bool, true, false, cond, not, ◌&&◌, ◌||◌, ◌⊎◌, ℕ, zero, suc, ◌+◌, ◌<◌, ◌≤◌, ◌%◌, ltb, leb, eqb, length}
use Rattle.std.proofs.Common.{sym, ◌∙◌, ap, ap₂, subst, true≢false, ⊎_elim, inl, inr, arith, ltb-true, ltb-false, eqb-true, eq-eqb, ne_eqb}
use Rattle.std.proofs.lemmas.Bool.{false≢true, eqb-false}
use Rattle.std.proofs.Math.Option.{Option, none, some}
use mathlib.Core.List.{List, [], ◌∷◌, map, Memᴰ}
use Rattle.buffers.specs.Decide.{Decides}
use Rattle.buffers.specs.DecideLaws.{true_of, false_of, decides_and, decides_not, decides_iff, decides_true, decides_false, decides_eq}
use Rattle.format.specs.Strings.{Before, before_test, AllAfter, Rising}
use Rattle.format.specs.Laws.StringLaws.{before_irrefl, before_trans, before_asym, before_total, decides_before}
use Rattle.reading.specs.Demand.{Entry, entry}
use Rattle.ops_spec.specs.Ops.{Op, union, intersection, difference, symmetric, Indexed, indexed, lesser, same_test, insert, sooner, only_first, takes_test}
use Rattle.ops_spec.specs.OpsDemand.{Takes}
use Rattle.ops_spec.specs.OpsLists.{Lanes, lane_keys, AllRising, value_in, put, pairs_in, Belongs, past, past_all, least_in, head_pairs, drop_head, drop_heads, Judged, this, no_more, another, judge_at, judge_least, judge_first, judge, Keeps, Least, NoneBelongs}

-- ---- the tests of the order

pub test_true : (k l : List ℕ) → Before k l → before_test k l ≡ true
test_true k l h = true_of (before_test k l) (decides_before k l) h

pub test_false : (k l : List ℕ) → ¬ Before k l → before_test k l ≡ false
test_false k l h = false_of (before_test k l) (decides_before k l) h

pub decides_same_key : (k l : List ℕ) → Decides (same_test k l) (k ≡ l)
decides_same_key k l =
    decides_iff (λ q. ⊎_elim (λ e. e) (λ h. ⊎_elim (λ b. absurd (q.0 b)) (λ b. absurd (q.1 b)) h) (before_total k l))
    (λ (e : k ≡ l). ((λ b. before_irrefl l (subst (λ (x : List ℕ). Before x l) e b)), (λ b. before_irrefl l (subst (λ (x : List ℕ). Before l x) e b))))
    (decides_and (not (before_test k l)) (not (before_test l k)) (decides_not (before_test k l) (decides_before k l)) (decides_not (before_test l k) (decides_before l k)))

pub same_true : (k l : List ℕ) → k ≡ l → same_test k l ≡ true
same_true k l e = true_of (same_test k l) (decides_same_key k l) e

pub same_false : (k l : List ℕ) → ¬ (k ≡ l) → same_test k l ≡ false
same_false k l ne = false_of (same_test k l) (decides_same_key k l) ne

before_not_same : (k l : List ℕ) → Before k l → ¬ (k ≡ l)
before_not_same k l b e = before_irrefl l (subst (λ (x : List ℕ). Before x l) e b)

before_not_same_back : (k l : List ℕ) → Before k l → ¬ (l ≡ k)
before_not_same_back k l b e = before_irrefl k (subst (λ (x : List ℕ). Before k x) e b)

-- what is not before l and before which l is not
pub not_before_on : (k l m : List ℕ) → ¬ Before k l → Before k m → Before l m
not_before_on k l m nb b =
    ⊎_elim (λ (e : k ≡ l). subst (λ (x : List ℕ). Before x m) e b) (λ h. ⊎_elim (λ c. absurd (nb c)) (λ c. before_trans c b) h) (before_total k l)

-- ---- one lane

pub after_trans : (k l : List ℕ) (ks : List (List ℕ)) → Before k l → AllAfter l ks → AllAfter k ks
after_trans k l [] b h = tt
after_trans k l (x ∷ ks) b h = (before_trans b h.0, after_trans k l ks b h.1)

-- a key before all is not there
pub value_none : (k : List ℕ) (es : List Entry) → AllAfter k (lane_keys es) → value_in k es ≡ none
value_none k [] h = refl
value_none k (e ∷ es) h =
    let d = same_false e.key k (before_not_same_back k e.key h.0) in
    rw d (value_none k es h.1)

past_all_lem : (k : List ℕ) (es : List Entry) → AllAfter k (lane_keys es) → past k es ≡ es
past_all_lem k [] h = refl
past_all_lem k (e ∷ es) h = rw (test_true k e.key h.0)

-- what is left after k are keys after k
past_after : (k : List ℕ) (es : List Entry) → Rising (lane_keys es) → AllAfter k (lane_keys (past k es))
past_after k [] h = tt
past_after k (e ∷ es) h = by (past_after k es h.1) (before_test k e.key) refl
  where
    by : AllAfter k (lane_keys (past k es)) → (b : Bool) → before_test k e.key ≡ b → AllAfter k (lane_keys (cond b (e ∷ es) (past k es)))
    by more true q = let l = (decides_before k e.key).yes q in (l, after_trans k e.key (lane_keys es) l h.0)
    by more false q = more

pub past_rising : (k : List ℕ) (es : List Entry) → Rising (lane_keys es) → Rising (lane_keys (past k es))
past_rising k [] h = tt
past_rising k (e ∷ es) h = by (past_rising k es h.1) (before_test k e.key)
  where
    by : Rising (lane_keys (past k es)) → (b : Bool) → Rising (lane_keys (cond b (e ∷ es) (past k es)))
    by more true = h
    by more false = more

-- a later key has the same value in what is left
past_value : (k l : List ℕ) (es : List Entry) → Before k l → value_in l (past k es) ≡ value_in l es
past_value k l [] b = refl
past_value k l (e ∷ es) b = by (past_value k l es b) (before_test k e.key) refl
  where
    by : value_in l (past k es) ≡ value_in l es → (t : Bool) → before_test k e.key ≡ t → value_in l (cond t (e ∷ es) (past k es)) ≡ value_in l (e ∷ es)
    by more true q = refl
    by more false q =
        let d = same_false e.key l (λ (x : e.key ≡ l). (decides_before k e.key).no q (subst (λ (y : List ℕ). Before k y) (sym x) b)) in
        rw d more

past_value_none : (k l : List ℕ) (es : List Entry) → Rising (lane_keys es) → ¬ Before k l → value_in l (past k es) ≡ none
past_value_none k l es h nb =
    value_none_by (past k es) (past_after k es h)
  where
    value_none_by : (xs : List Entry) → AllAfter k (lane_keys xs) → value_in l xs ≡ none
    value_none_by [] a = refl
    value_none_by (x ∷ xs) a =
        let d = same_false x.key l (λ (q : x.key ≡ l). nb (subst (λ (y : List ℕ). Before k y) q a.0)) in
        rw d (value_none_by xs a.1)

-- what is left after a later key
past_past : (k l : List ℕ) (es : List Entry) → Before k l → past l (past k es) ≡ past l es
past_past k l [] b = refl
past_past k l (e ∷ es) b = by (past_past k l es b) (before_test k e.key) refl
  where
    by : past l (past k es) ≡ past l es → (t : Bool) → before_test k e.key ≡ t → past l (cond t (e ∷ es) (past k es)) ≡ past l (e ∷ es)
    by more true q = refl
    by more false q =
        let d = test_false l e.key (λ c. (decides_before k e.key).no q (before_trans b c)) in
        rw d more

-- ---- one lane whose first key is not before k

abbrev pub HeadFrom : List ℕ → List Entry → Type 0
HeadFrom k [] = Unit {0}
HeadFrom k (e ∷ es) = ¬ Before e.key k

head_same : (k : List ℕ) (e : Entry) → ¬ Before e.key k → same_test e.key k ≡ false → Before k e.key
head_same k e nb q =
    ⊎_elim (λ (x : e.key ≡ k). absurd ((decides_same_key e.key k).no q x)) (λ h. ⊎_elim (λ b. absurd (nb b)) (λ b. b) h) (before_total e.key k)

head_past : (k : List ℕ) (es : List Entry) → Rising (lane_keys es) → HeadFrom k es → drop_head (λ l. same_test l k) es ≡ past k es
head_past k [] h f = refl
head_past k (e ∷ es) h f = by (same_test e.key k) refl
  where
    by : (t : Bool) → same_test e.key k ≡ t → cond t es (e ∷ es) ≡ past k (e ∷ es)
    by true q =
        let x : e.key ≡ k = (decides_same_key e.key k).yes q in
        let d = test_false k e.key (λ b. before_irrefl k (subst (λ (y : List ℕ). Before k y) x b)) in
        let a : AllAfter k (lane_keys es) = subst (λ (y : List ℕ). AllAfter y (lane_keys es)) x h.0 in
        rw d (sym (past_all_lem k es a))
    by false q = sym (rw (test_true k e.key (head_same k e f q)))

-- the value of k there is the first entry's, if any
head_value : (k : List ℕ) (e : Entry) (es : List Entry) → Rising (lane_keys (e ∷ es)) → ¬ Before e.key k → same_test e.key k ≡ false → value_in k es ≡ none
head_value k e es h f q = value_none k es (after_trans k e.key (lane_keys es) (head_same k e f q) h.0)

-- an earlier key is not there
early_none : (l k : List ℕ) (es : List Entry) → Rising (lane_keys es) → HeadFrom k es → Before l k → value_in l es ≡ none
early_none l k [] h f b = refl
early_none l k (e ∷ es) h f b =
    let a : Before l e.key = ⊎_elim (λ (x : e.key ≡ k). subst (λ (y : List ℕ). Before l y) (sym x) b) (λ c. ⊎_elim (λ d. absurd (f d)) (λ d. before_trans b d) c) (before_total e.key k) in
    value_none l (e ∷ es) (a, after_trans l e.key (lane_keys es) a h.0)

-- ---- all lanes

abbrev pub HeadsFrom : List ℕ → Lanes → Type 0
HeadsFrom k [] = Unit {0}
HeadsFrom k (es ∷ L) = HeadFrom k es × HeadsFrom k L

pub past_all_rising : (k : List ℕ) (L : Lanes) → AllRising L → AllRising (past_all k L)
past_all_rising k [] h = tt
past_all_rising k (es ∷ L) h = (past_rising k es h.0, past_all_rising k L h.1)

pub past_all_length : (k : List ℕ) (L : Lanes) → length (past_all k L) ≡ length L
past_all_length k [] = refl
past_all_length k (es ∷ L) = ap suc (past_all_length k L)

pub pairs_past : (i : ℕ) (k l : List ℕ) (L : Lanes) → Before k l → pairs_in i l (past_all k L) ≡ pairs_in i l L
pairs_past i k l [] b = refl
pairs_past i k l (es ∷ L) b = ap₂ (put i) (past_value k l es b) (pairs_past (i + 1) k l L b)

pub pairs_past_none : (i : ℕ) (k l : List ℕ) (L : Lanes) → AllRising L → ¬ Before k l → pairs_in i l (past_all k L) ≡ []
pairs_past_none i k l [] h nb = refl
pairs_past_none i k l (es ∷ L) h nb = ap₂ (put i) (past_value_none k l es h.0 nb) (pairs_past_none (i + 1) k l L h.1 nb)

pub past_all_past : (k l : List ℕ) (L : Lanes) → Before k l → past_all l (past_all k L) ≡ past_all l L
past_all_past k l [] b = refl
past_all_past k l (es ∷ L) b = ap₂ ◌∷◌ (past_past k l es b) (past_all_past k l L b)

pub heads_past : (k : List ℕ) (L : Lanes) → AllRising L → HeadsFrom k L → drop_heads (λ l. same_test l k) L ≡ past_all k L
heads_past k [] h f = refl
heads_past k (es ∷ L) h f = ap₂ ◌∷◌ (head_past k es h.0 f.0) (heads_past k L h.1 f.1)

pub heads_pairs : (i : ℕ) (k : List ℕ) (L : Lanes) → AllRising L → HeadsFrom k L → head_pairs i k L ≡ pairs_in i k L
heads_pairs i k [] h f = refl
heads_pairs i k ([] ∷ L) h f = heads_pairs (i + 1) k L h.1 f.1
heads_pairs i k ((e ∷ es) ∷ L) h f = by (heads_pairs (i + 1) k L h.1 f.1) (same_test e.key k) refl
  where
    by : head_pairs (i + 1) k L ≡ pairs_in (i + 1) k L → (t : Bool) → same_test e.key k ≡ t
        → cond t (insert (indexed e.value i) (head_pairs (i + 1) k L)) (head_pairs (i + 1) k L) ≡ put i (cond t (some e.value) (value_in k es)) (pairs_in (i + 1) k L)
    by more true q = ap (insert (indexed e.value i)) more
    by more false q = more ∙ ap (λ (o : Option ℕ). put i o (pairs_in (i + 1) k L)) (sym (head_value k e es h.0 f.0 q))

pub heads_early : (i : ℕ) (l k : List ℕ) (L : Lanes) → AllRising L → HeadsFrom k L → Before l k → pairs_in i l L ≡ []
heads_early i l k [] h f b = refl
heads_early i l k (es ∷ L) h f b = ap₂ (put i) (early_none l k es h.0 f.0 b) (heads_early (i + 1) l k L h.1 f.1 b)
