-- One round of an operation on ascending lanes answers the least key that belongs, or that there is none, or lanes to which the same keys belong.
--     takes_decides     the test of an operation, where the key is held
--     round             what a round answers
-- Assumes nothing.
use Prim.{Unit, tt}
use Rattle.std.specs.Prelude.{◌≡◌, refl, Bool, true, false, cond, not, ◌&&◌, ◌||◌, ◌⊎◌, List, [], ◌∷◌, map, ℕ, zero, suc, ◌+◌, ◌<◌, ◌≤◌, ◌%◌, ltb, leb, eqb, length}
use Rattle.std.proofs.Common.{sym, ◌∙◌, ap, ap₂, subst, true≢false, ⊎_elim, inl, inr, arith}
use Rattle.std.proofs.lemmas.Bool.{false≢true}
use Rattle.std.proofs.Math.Option.{Option, none, some}
use Rattle.buffers.specs.Decide.{Decides}
use Rattle.buffers.specs.DecideLaws.{true_of, false_of, decides_iff, decides_true, decides_false, decides_eq}
use Rattle.format.specs.Strings.{Before, before_test, AllAfter, Rising}
use Rattle.format.specs.Laws.StringLaws.{before_irrefl, before_trans, before_asym, before_total, decides_before}
use Rattle.reading.specs.Demand.{Entry, entry}
use Rattle.ops_spec.specs.Ops.{Op, union, intersection, difference, symmetric, Indexed, indexed, lesser, same_test, insert, sooner, only_first, takes_test}
use Rattle.ops_spec.specs.OpsDemand.{Takes}
use Rattle.ops_spec.specs.OpsLists.{Lanes, lane_keys, AllRising, value_in, put, pairs_in, Belongs, past, past_all, least_in, head_pairs, drop_head, drop_heads, total, Judged, this, no_more, another, judge_at, judge_least, judge_first, judge, Keeps, Least, NoneBelongs, RoundIs}
use Rattle.ops_spec.specs.OpsListsLaws.{test_true, test_false, decides_same_key, same_true, same_false, not_before_on, after_trans, value_none, HeadFrom, HeadsFrom, past_all_rising, past_all_length, pairs_past, pairs_past_none, past_all_past, heads_past, heads_pairs, heads_early}

-- no number below i
abbrev pub FromOn : ℕ → List Indexed → Type 0
FromOn i [] = Unit {0}
FromOn i (x ∷ ps) = (i ≤ x.index) × FromOn i ps

-- ---- the tests

pub insert_not_nil : (x : Indexed) (ps : List Indexed) → ¬ (insert x ps ≡ [])
unfolding insert
insert_not_nil x [] e = let z : ◌≡◌ {A = ℕ} 0 1 = cc in omega arith
insert_not_nil x (y ∷ ys) e = by (sooner x y) e
  where
    by : (b : Bool) → ¬ (cond b (x ∷ y ∷ ys) (y ∷ insert x ys) ≡ [])
    by true q = let z : ◌≡◌ {A = ℕ} 0 1 = cc in omega arith
    by false q = let z : ◌≡◌ {A = ℕ} 0 1 = cc in omega arith

-- a key that no file has belongs to no operation
pub takes_nil : (op : Op) (n : ℕ) → 0 < n → ¬ Takes op n []
takes_nil union n h t = t refl
takes_nil intersection n h t = omega arith
takes_nil difference n h t = let e = t.1 in let z : ◌≡◌ {A = ℕ} 0 1 = cc in omega arith
takes_nil symmetric n h t = omega arith

abbrev index_of : List Indexed → ℕ
index_of [] = 0
index_of (x ∷ xs) = x.index

pub takes_decides : (op : Op) (n : ℕ) (ps : List Indexed) → ¬ (ps ≡ []) → Decides (takes_test op n ps) (Takes op n ps)
takes_decides union n ps h = decides_true h
takes_decides intersection n ps h = decides_eq (length ps) n
takes_decides difference n [] h = absurd (h refl)
takes_decides difference n (x ∷ []) h =
    decides_iff (λ (e : x.index ≡ 0). (x.value, ap (λ (i : ℕ). indexed x.value i ∷ []) e)) (λ q. ap index_of q.1) (decides_eq x.index 0)
takes_decides difference n (x ∷ y ∷ ys) h = decides_false (λ q. let e = ap (λ (ps : List Indexed). length ps) q.1 in omega arith)
takes_decides symmetric n ps h = decides_eq (length ps % 2) 1

-- ---- the least first key

pub data Headed (k : List ℕ) : Lanes → Type 0 where
  head_here : {e : Entry} {es : List Entry} {L : Lanes} → e.key ≡ k → Headed k ((e ∷ es) ∷ L)
  head_on : {es : List Entry} {L : Lanes} → Headed k L → Headed k (es ∷ L)

heads_up : (m k : List ℕ) (L : Lanes) → HeadsFrom m L → ¬ Before m k → HeadsFrom k L
heads_up m k [] f nb = tt
heads_up m k ([] ∷ L) f nb = (tt, heads_up m k L f.1 nb)
heads_up m k ((e ∷ es) ∷ L) f nb = ((λ b. nb (not_before_on e.key m k f.0 b)), heads_up m k L f.1 nb)

lesser_some : (k : List ℕ) (o : Option (List ℕ)) → ¬ (lesser k o ≡ none)
lesser_some k none e = let z : ◌≡◌ {A = ℕ} 0 1 = cc in omega arith
lesser_some k (some l) e = by (before_test l k) e
  where
    by : (b : Bool) → ¬ (cond b (some l) (some k) ≡ none)
    by true q = let z : ◌≡◌ {A = ℕ} 0 1 = cc in omega arith
    by false q = let z : ◌≡◌ {A = ℕ} 0 1 = cc in omega arith

none_heads : (k : List ℕ) (L : Lanes) → least_in L ≡ none → HeadsFrom k L
none_heads k [] h = tt
none_heads k ([] ∷ L) h = (tt, none_heads k L h)
none_heads k ((e ∷ es) ∷ L) h = absurd (lesser_some e.key (least_in L) h)

pub none_pairs : (i : ℕ) (k : List ℕ) (L : Lanes) → least_in L ≡ none → pairs_in i k L ≡ []
none_pairs i k [] h = refl
none_pairs i k ([] ∷ L) h = none_pairs (i + 1) k L h
none_pairs i k ((e ∷ es) ∷ L) h = absurd (lesser_some e.key (least_in L) h)

pub record LeastIs (k : List ℕ) (L : Lanes) : Type 0 where
  pub from : HeadsFrom k L
  pub headed : Headed k L

pub least_is_lem : (L : Lanes) (k : List ℕ) → least_in L ≡ some k → LeastIs k L
least_is_lem [] k h = let z : ◌≡◌ {A = ℕ} 0 1 = cc in absurd (omega arith)
least_is_lem ([] ∷ L) k h = let w = least_is_lem L k h in record { from = (tt, w.from); headed = head_on w.headed }
least_is_lem ((e ∷ es) ∷ L) k h = by (least_in L) refl h (λ m q. least_is_lem L m q)
  where
    itself : (x : List ℕ) → HeadsFrom x L → x ≡ e.key → LeastIs x ((e ∷ es) ∷ L)
    itself x f q = record { from = ((λ b. before_irrefl x (subst (λ (y : List ℕ). Before y x) (sym q) b)), f); headed = head_here (sym q) }

    two : (m : List ℕ) → LeastIs m L → (b : Bool) → before_test m e.key ≡ b → cond b (some m) (some e.key) ≡ some k → LeastIs k ((e ∷ es) ∷ L)
    two m w true q c =
        let x : m ≡ k = cc in
        subst (λ (y : List ℕ). LeastIs y ((e ∷ es) ∷ L)) x
        (record { from = ((λ b. before_asym b ((decides_before m e.key).yes q)), w.from); headed = head_on w.headed })
    two m w false q c =
        let x : e.key ≡ k = cc in
        itself k (heads_up m k L w.from (λ b. (decides_before m e.key).no q (subst (λ (y : List ℕ). Before m y) (sym x) b))) (sym x)

    by : (o : Option (List ℕ)) → least_in L ≡ o → lesser e.key o ≡ some k → ((m : List ℕ) → least_in L ≡ some m → LeastIs m L) → LeastIs k ((e ∷ es) ∷ L)
    by none q c more = let x : e.key ≡ k = cc in itself k (none_heads k L q) (sym x)
    by (some m) q c more = two m (more m q) (before_test m e.key) refl c

drop_head_le : (P : List ℕ → Bool) (es : List Entry) → length (drop_head P es) ≤ length es
drop_head_le P [] = omega arith
drop_head_le P (e ∷ es) = by (P e.key)
  where
    by : (b : Bool) → length (cond b es (e ∷ es)) ≤ length (e ∷ es)
    by true = omega arith
    by false = omega arith

drop_le : (P : List ℕ → Bool) (L : Lanes) → total (drop_heads P L) ≤ total L
drop_le P [] = omega arith
drop_le P (es ∷ L) = omega (arith, drop_head_le P es, drop_le P L)

drop_less : (P : List ℕ → Bool) (k : List ℕ) (L : Lanes) → Headed k L → P k ≡ true → total (drop_heads P L) < total L
drop_less P k _ (head_here {e} {es} {L} q) h =
    let t : P e.key ≡ true = ap P q ∙ h in
    let d : length (drop_head P (e ∷ es)) ≡ length es = rw t in
    omega (arith, drop_le P L, d)
drop_less P k _ (head_on {es} {L} w) h = omega (arith, drop_head_le P es, drop_less P k L w h)

on_pairs : (i : ℕ) (k : List ℕ) (es : List Entry) (L : Lanes) → ¬ (head_pairs (i + 1) k L ≡ []) → ¬ (head_pairs i k (es ∷ L) ≡ [])
on_pairs i k [] L more h = more h
on_pairs i k (e ∷ es) L more h = by (same_test e.key k) h
  where
    by : (b : Bool) → ¬ (cond b (insert (indexed e.value i) (head_pairs (i + 1) k L)) (head_pairs (i + 1) k L) ≡ [])
    by true q = insert_not_nil (indexed e.value i) (head_pairs (i + 1) k L) q
    by false q = more q

headed_pairs : (k : List ℕ) (i : ℕ) (L : Lanes) → Headed k L → ¬ (head_pairs i k L ≡ [])
headed_pairs k i _ (head_here {e} {es} {L} q) h =
    let t = same_true e.key k q in
    insert_not_nil (indexed e.value i) (head_pairs (i + 1) k L) (sym (rw t) ∙ h)
headed_pairs k i _ (head_on {es} {L} w) h = on_pairs i k es L (headed_pairs k (i + 1) L w) h

pub drop_heads_length : (P : List ℕ → Bool) (L : Lanes) → length (drop_heads P L) ≡ length L
drop_heads_length P [] = refl
drop_heads_length P (es ∷ L) = ap suc (drop_heads_length P L)

pub drop_heads_rising : (P : List ℕ → Bool) (L : Lanes) → AllRising L → AllRising (drop_heads P L)
drop_heads_rising P [] h = tt
drop_heads_rising P ([] ∷ L) h = (tt, drop_heads_rising P L h.1)
drop_heads_rising P ((e ∷ es) ∷ L) h = (by (P e.key), drop_heads_rising P L h.1)
  where
    by : (b : Bool) → Rising (lane_keys (cond b es (e ∷ es)))
    by true = h.0.1
    by false = h.0

-- ---- at the least key

belongs_not_nil : (op : Op) (L : Lanes) (k : List ℕ) (ps : List Indexed) → 0 < length L → Belongs op L k ps → ¬ (pairs_in 0 k L ≡ [])
belongs_not_nil op L k ps h b e = takes_nil op (length L) h (subst (λ (qs : List Indexed). Takes op (length L) qs) (sym b.pairs ∙ e) b.takes)

module _ (op : Op) (L : Lanes) (rising : AllRising L) (some_lane : 0 < length L) (k : List ℕ) (w : LeastIs k L) where
  here_pairs : head_pairs 0 k L ≡ pairs_in 0 k L
  here_pairs = heads_pairs 0 k L rising w.from

  here_past : drop_heads (λ l. same_test l k) L ≡ past_all k L
  here_past = heads_past k L rising w.from

  not_early : (l : List ℕ) (qs : List Indexed) → Before l k → ¬ Belongs op L l qs
  not_early l qs b q = belongs_not_nil op L l qs some_lane q (heads_early 0 l k L rising w.from b)

  past_keeps : ¬ Takes op (length L) (pairs_in 0 k L) → Keeps op L (past_all k L)
  past_keeps not_k =
      record {
        to = λ l ps b.
            let after : Before k l =
            ⊎_elim
            (λ (e : k ≡ l). absurd (not_k (subst (λ (qs : List Indexed). Takes op (length L) qs) (sym (ap (λ (x : List ℕ). pairs_in 0 x L) e ∙ b.pairs)) b.takes)))
            (λ h. ⊎_elim (λ c. c) (λ c. absurd (not_early l ps c b)) h) (before_total k l) in
            record { pairs = pairs_past 0 k l L after ∙ b.pairs; takes = subst (λ (n : ℕ). Takes op n ps) (sym (past_all_length k L)) b.takes };
        from = λ l ps b. record { pairs = sym (pairs_past 0 k l L (later l ps b)) ∙ b.pairs; takes = subst (λ (n : ℕ). Takes op n ps) (past_all_length k L) b.takes };
        rest = λ l ps b. past_all_past k l L (later l ps b);
      }
    where
      later : (l : List ℕ) (ps : List Indexed) → Belongs op (past_all k L) l ps → Before k l
      later l ps b = by (before_test k l) refl
        where
          by : (t : Bool) → before_test k l ≡ t → Before k l
          by true q = (decides_before k l).yes q
          by false q =
              let e : length (past_all k L) ≡ length L = past_all_length k L in
              absurd (belongs_not_nil op (past_all k L) l ps (omega arith) b (pairs_past_none 0 k l L rising ((decides_before k l).no q)))

  at_least_lem : RoundIs op L (judge_at op k L)
  at_least_lem = by (takes_test op (length L) (head_pairs 0 k L)) (takes_decides op (length L) (head_pairs 0 k L) (headed_pairs k 0 L w.headed))
    where
      less : total (drop_heads (λ l. same_test l k) L) < total L
      less = drop_less (λ l. same_test l k) k L w.headed (same_true k k refl)

      by : (b : Bool) → Decides b (Takes op (length L) (head_pairs 0 k L))
          → RoundIs op L (cond b (this k (head_pairs 0 k L) (drop_heads (λ l. same_test l k) L)) (another (drop_heads (λ l. same_test l k) L)))
      by true d = (record { belongs = record { pairs = sym here_pairs; takes = d.yes refl }; none_before = not_early }, here_past, less)
      by false d = (
        subst (λ (M : Lanes). Keeps op L M) (sym here_past) (past_keeps (λ t. d.no refl (subst (λ (qs : List Indexed). Takes op (length L) qs) (sym here_pairs) t))),
        drop_heads_rising (λ l. same_test l k) L rising,
        drop_heads_length (λ l. same_test l k) L,
        less,
      )

none_belongs : (op : Op) (L : Lanes) → 0 < length L → least_in L ≡ none → NoneBelongs op L
none_belongs op L h e k ps b = belongs_not_nil op L k ps h b (none_pairs 0 k L e)

pub round_least : (op : Op) (L : Lanes) → AllRising L → 0 < length L → RoundIs op L (judge_least op (least_in L) L)
round_least op L rising h = by (least_in L) refl
  where
    by : (o : Option (List ℕ)) → least_in L ≡ o → RoundIs op L (judge_least op o L)
    by none e = none_belongs op L h e
    by (some k) e = at_least_lem op L rising h k (least_is_lem L k e)

-- ---- difference: the first keys before the first lane's

index_le : (i j : ℕ) (ps : List Indexed) → i ≤ j → FromOn j ps → FromOn i ps
index_le i j [] h f = tt
index_le i j (x ∷ ps) h f = (omega (arith, f.0), index_le i j ps h f.1)

pub insert_index : (i : ℕ) (x : Indexed) (ps : List Indexed) → i ≤ x.index → FromOn i ps → FromOn i (insert x ps)
unfolding insert
insert_index i x [] h f = (h, tt)
insert_index i x (y ∷ ys) h f = by (insert_index i x ys h f.1) (sooner x y)
  where
    by : FromOn i (insert x ys) → (b : Bool) → FromOn i (cond b (x ∷ y ∷ ys) (y ∷ insert x ys))
    by more true = (h, f)
    by more false = (f.0, more)

pub pairs_index : (i : ℕ) (k : List ℕ) (L : Lanes) → FromOn i (pairs_in i k L)
pairs_index i k [] = tt
pairs_index i k (es ∷ L) = by (index_le i (i + 1) (pairs_in (i + 1) k L) (omega arith) (pairs_index (i + 1) k L)) (value_in k es)
  where
    by : FromOn i (pairs_in (i + 1) k L) → (o : Option ℕ) → FromOn i (put i o (pairs_in (i + 1) k L))
    by more none = more
    by more (some v) = insert_index i (indexed v i) (pairs_in (i + 1) k L) (omega arith) more

-- a key of a difference is in the first lane
first_has : (es : List Entry) (L : Lanes) (k : List ℕ) (ps : List Indexed) → Belongs difference (es ∷ L) k ps → ¬ (value_in k es ≡ none)
first_has es L k ps b h =
    let e : pairs_in 1 k L ≡ indexed b.takes.0 0 ∷ [] = ap (λ (o : Option ℕ). put 0 o (pairs_in 1 k L)) (sym h) ∙ b.pairs ∙ b.takes.1 in
    let f : FromOn 1 (indexed b.takes.0 0 ∷ []) = subst (FromOn 1) e (pairs_index 1 k L) in
    omega (arith, f.0)

module _ (k l : List ℕ) (nb : ¬ Before l k) where
  drop_value : (es : List Entry) → value_in l (drop_head (λ x. before_test x k) es) ≡ value_in l es
  drop_value [] = refl
  drop_value (e ∷ es) = by (before_test e.key k) refl
    where
      by : (t : Bool) → before_test e.key k ≡ t → value_in l (cond t es (e ∷ es)) ≡ value_in l (e ∷ es)
      by true q =
          let d = same_false e.key l (λ (x : e.key ≡ l). nb (subst (λ (y : List ℕ). Before y k) x ((decides_before e.key k).yes q))) in
          sym (rw d)
      by false q = refl

  drop_past : (es : List Entry) → past l (drop_head (λ x. before_test x k) es) ≡ past l es
  drop_past [] = refl
  drop_past (e ∷ es) = by (before_test e.key k) refl
    where
      by : (t : Bool) → before_test e.key k ≡ t → past l (cond t es (e ∷ es)) ≡ past l (e ∷ es)
      by true q = let d = test_false l e.key (λ b. nb (before_trans b ((decides_before e.key k).yes q))) in sym (rw d)
      by false q = refl

  drop_pairs : (i : ℕ) (L : Lanes) → pairs_in i l (drop_heads (λ x. before_test x k) L) ≡ pairs_in i l L
  drop_pairs i [] = refl
  drop_pairs i (es ∷ L) = ap₂ (put i) (drop_value es) (drop_pairs (i + 1) L)

  drop_past_all : (L : Lanes) → past_all l (drop_heads (λ x. before_test x k) L) ≡ past_all l L
  drop_past_all [] = refl
  drop_past_all (es ∷ L) = ap₂ ◌∷◌ (drop_past es) (drop_past_all L)

module _ (e : Entry) (es : List Entry) (R : Lanes) (rising : AllRising ((e ∷ es) ∷ R)) where
  abbrev L : Lanes
  L = (e ∷ es) ∷ R

  abbrev M : Lanes
  M = drop_heads (λ x. before_test x e.key) L

  -- no key of the difference comes before the first lane's first
  first_from : (S : Lanes) (k : List ℕ) (ps : List Indexed) → Belongs difference ((e ∷ es) ∷ S) k ps → ¬ Before k e.key
  first_from S k ps b c = first_has (e ∷ es) S k ps b (value_none k (e ∷ es) (c, after_trans k e.key (lane_keys es) c rising.0.0))

  kept_first : M ≡ (e ∷ es) ∷ drop_heads (λ x. before_test x e.key) R
  kept_first = let d = test_false e.key e.key (before_irrefl e.key) in rw d

  from_kept : (k : List ℕ) (ps : List Indexed) → Belongs difference M k ps → ¬ Before k e.key
  from_kept k ps b = first_from (drop_heads (λ x. before_test x e.key) R) k ps (subst (λ (N : Lanes). Belongs difference N k ps) kept_first b)

  pub drop_keeps : Keeps difference L M
  drop_keeps =
      record {
        to = λ k ps b. record { pairs = drop_pairs e.key k (first_from R k ps b) 0 L ∙ b.pairs; takes = b.takes };
        from = λ k ps b. record { pairs = sym (drop_pairs e.key k (from_kept k ps b) 0 L) ∙ b.pairs; takes = b.takes };
        rest = λ k ps b. drop_past_all e.key k (from_kept k ps b) L;
      }

  round_first : RoundIs difference L (judge_first e.key (least_in L) L)
  round_first = by (least_in L) refl
    where
      some_lane : 0 < length L
      some_lane = omega arith

      two : (l : List ℕ) → LeastIs l L → (b : Bool) → before_test l e.key ≡ b → RoundIs difference L (cond b (another M) (judge_at difference e.key L))
      two l w true q = (drop_keeps, drop_heads_rising (λ x. before_test x e.key) L rising, drop_heads_length (λ x. before_test x e.key) L, drop_less (λ x. before_test x e.key) l L w.headed q)
      two l w false q =
          let same : l ≡ e.key = ⊎_elim (λ x. x) (λ h. ⊎_elim (λ c. absurd ((decides_before l e.key).no q c)) (λ c. absurd (w.from.0 c)) h) (before_total l e.key) in
          at_least_lem difference L rising some_lane e.key (subst (λ (x : List ℕ). LeastIs x L) same w)

      by : (o : Option (List ℕ)) → least_in L ≡ o → RoundIs difference L (judge_first e.key o L)
      by none q = none_belongs difference L some_lane q
      by (some l) q = two l (least_is_lem L l q) (before_test l e.key) refl

pub round : (op : Op) (L : Lanes) → AllRising L → 0 < length L → RoundIs op L (judge op L)
round union L rising h = round_least union L rising h
round intersection L rising h = round_least intersection L rising h
round symmetric L rising h = round_least symmetric L rising h
round difference [] rising h = absurd (omega arith)
round difference ([] ∷ L) rising h = λ k ps b. first_has [] L k ps b refl
round difference ((e ∷ es) ∷ L) rising h = round_first e es L rising
