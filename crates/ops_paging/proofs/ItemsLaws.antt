-- A page of items of admitted files: `items_exact`, and its refusals.
--     fold_run           the fold over calls that run to their end
--     whole_of            all the items, from the starts of a page
--     items_exact        the claim (`ItemsExact`)
--     items_no_cards, items_no_room     the only refusals of admitted files whose bounds have at most 255 bytes
-- Assumes nothing.
use Prim.{tt}
use Rattle.std.specs.Prelude.{◌≡◌, refl, Bool, true, false, cond, ◌&&◌, ◌⊎◌, ℕ, zero, suc, ◌+◌, ◌*◌, ◌≤◌, ◌<◌, ltb, leb, length, take, drop}
use Rattle.std.proofs.Common.{sym, ◌∙◌, ap, ap₂, subst, ⊎_elim, inl, inr, arith, le-leb, lt-ltb, le-ltb, take-append-drop, length-take-le, take_all}
use mathlib.Core.List.Memᴰ
use mathlib.Core.List.{List, [], ◌∷◌, ◌++◌, map, Memᴰ}
use Rattle.std.proofs.lemmas.Bool.{lt-leb}
use Rattle.std.proofs.Math.Seq.{take-append_seam}
use Rattle.format.specs.declared.Refusal.{Refusal}
use Rattle.format.specs.Limits.{max_path, CARDS, SPACE}
use Rattle.format.specs.Strings.{Before, Bound, AllAfter, Rising}
use Rattle.reading.proofs.RunLaws.{lt_or}
use Rattle.paging.specs.Paging.{Stop, ended, more, row_len}
use Rattle.ops_spec.specs.Ops.{Op, Card, Indexed, item, ending}
use Rattle.ops_spec.specs.OpsDemand as D
use Rattle.ops_spec.specs.OpsDemand.{Source, AllPairs, Takes}
use Rattle.ops_spec.specs.OpsLists.{Lanes, AllRising, pairs_in, Item, item_is}
use Rattle.ops_spec.specs.OpsWholeLaws.{ItemRuns, runs_end, runs_item, whole_items, ahead_of, lanes_of, all_pairs, all_pairs_unique}
use Rattle.ops_paging.specs.ItemPaging.{Starts, cards, ItemPage, item_page, refused_items, start_all, fold, room_test, page_from, count_test, items}
use Rattle.ops_paging.specs.ItemsExact.{SameBounds, files_of, ItemsExact}
use Rattle.ops_paging.proofs.ItemFoldLaws.{fold_none, fold_as}
use Rattle.ops_paging.proofs.WideLaws.{wide_cards, starts_are, wide_stand}

abbrev keys_of : List Item → List (List ℕ)
keys_of is = map (λ (x : Item). x.key) is

-- ---- ascending items, in two parts

after_front : (k : List ℕ) (xs ys : List Item) → AllAfter k (keys_of (xs ++ ys)) → AllAfter k (keys_of xs)
after_front k [] ys h = tt
after_front k (x ∷ xs) ys h = (h.0, after_front k xs ys h.1)

pub rising_front : (xs ys : List Item) → Rising (keys_of (xs ++ ys)) → Rising (keys_of xs)
rising_front [] ys h = tt
rising_front (x ∷ xs) ys h = (after_front x.key xs ys h.0, rising_front xs ys h.1)

after_back_lem : (k : List ℕ) (xs ys : List Item) → AllAfter k (keys_of (xs ++ ys)) → (y : Item) → Memᴰ y ys → Before k y.key
after_back_lem k [] [] h y on = absurd (Memᴰ.not-nil on)
after_back_lem k [] (z ∷ ys) h y on =
    ⊎_elim (λ (q : y ≡ z). rw q h.0) (λ (g : Memᴰ y ys). after_back_lem k [] ys h.1 y g) (Memᴰ.cases_cons on)
after_back_lem k (x ∷ xs) ys h y on = after_back_lem k xs ys h.1 y on

-- each of the first part comes before each of the second
pub rising_parts : (xs ys : List Item) → Rising (keys_of (xs ++ ys)) → (x y : Item) → Memᴰ x xs → Memᴰ y ys → Before x.key y.key
rising_parts [] ys h x y mx my = absurd (Memᴰ.not-nil mx)
rising_parts (z ∷ xs) ys h x y mx my =
    ⊎_elim
    (λ (q : x ≡ z). rw q (after_back_lem z.key xs ys h.0 y my))
    (λ (g : Memᴰ x xs). rising_parts xs ys h.1 x y g my)
    (Memᴰ.cases_cons mx)

-- ---- the fold over calls that run to their end

pub record FoldIs (is : List Item) (n : ℕ) (p : ItemPage) : Type 0 where
  pub items : p.items ≡ take n is
  pub stops : length is < n → p.stop ≡ ended
  pub goes_on : n ≤ length is → p.stop ≡ more

fold_is : {is : List Item} {n : ℕ} {p q : ItemPage} → p ≡ q → FoldIs is n q → FoldIs is n p
fold_is {is} {n} e h = subst (FoldIs is n) (sym e) h

pub fold_run : {op : Op} {cs ds : List Card} {is : List Item} → ItemRuns op max_path cs is ds → (n : ℕ) → FoldIs is n (fold op cs n)
fold_run {op} {cs} runs zero = fold_is (fold_none op cs) (record { items = refl; stops = λ h. absurd (omega arith); goes_on = λ h. refl })
fold_run {op} {cs} (runs_end {ds = ds} e) (suc n) =
    fold_is (fold_as op cs n (ending ds) e) (record { items = refl; stops = λ h. refl; goes_on = λ h. absurd (omega arith) })
fold_run {op} {cs} (runs_item {cs₁ = cs₁} x e rest) (suc n) =
    let w = fold_run rest n in
    fold_is (fold_as op cs n (item x.key x.pairs cs₁) e)
    (record { items = ap (λ (l : List Item). x ∷ l) w.items; stops = λ h. w.stops (omega arith); goes_on = λ h. w.goes_on (omega arith) })

-- ---- all the items, from the starts of a page

pub all_rising : (cs : List Source) → AllRising (lanes_of cs)
all_rising [] = tt
all_rising (c ∷ cs) = ((ahead_of c).ascending, all_rising cs)

pub lanes_length : (cs : List Source) → length (lanes_of cs) ≡ length cs
lanes_length [] = refl
lanes_length (c ∷ cs) = ap suc (lanes_length cs)

pub files_length : (cs : List Source) → length (files_of cs) ≡ length cs
files_length [] = refl
files_length (c ∷ cs) = ap suc (files_length cs)

pub record AllItems (op : Op) (cs : List Source) : Type 0 where
  pub items : List Item
  pub last : List Card
  pub runs : ItemRuns op max_path (wide_cards cs) items last
  pub ascending : Rising (keys_of items)
  pub such : (x : Item) → Memᴰ x items → D.Belongs op cs x.key x.pairs
  pub all : (k : List ℕ) (ps : List Indexed) → D.Belongs op cs k ps → Memᴰ (item_is k ps) items

pub whole_of : (op : Op) (cs : List Source) → 0 < length cs → length cs ≤ 8 → AllItems op cs
whole_of op cs some_file few =
    let len : length (lanes_of cs) ≡ length cs = lanes_length cs in
    let w = whole_items op max_path (omega arith) (wide_cards cs) (lanes_of cs) (wide_stand cs) (all_rising cs) (omega arith) (omega arith) in
    record {
      items = w.items;
      last = w.last;
      runs = w.runs;
      ascending = w.exact.ascending;
      such = λ x m.
          let b = w.exact.such x m in
          record {
            pairs = subst (λ (ps : List Indexed). AllPairs cs x.key ps) b.pairs (all_pairs cs x.key);
            takes = subst (λ (n : ℕ). Takes op n x.pairs) len b.takes;
          };
      all = λ k ps b.
          w.exact.all k ps
          (record { pairs = all_pairs_unique cs k (pairs_in 0 k (lanes_of cs)) ps (all_pairs cs k) b.pairs; takes = subst (λ (n : ℕ). Takes op n ps) (sym len) b.takes });
    }

-- ---- the claim

both_false : (a : Bool) → (a && false) ≡ false
both_false true = refl
both_false false = refl

pub items_no_cards : (op : Op) (n : ℕ) (fs : List (List ℕ)) (lo hi : Bound) (most r c f v : ℕ) → (n ≡ 0) ⊎ (8 < n) → items op n fs lo hi most r c f v ≡ refused_items CARDS
unfolding items
items_no_cards op n fs lo hi most r c f v (inl e) =
    ap (λ (k : ℕ). cond (count_test k) (cond (room_test most r c f v) (page_from op most (start_all lo hi (take n fs))) (refused_items SPACE)) (refused_items CARDS)) e
items_no_cards op n fs lo hi most r c f v (inr h) =
    let x : leb n 8 ≡ false = lt-leb n 8 h in
    rw (x, both_false (ltb 0 n))

pub count_few : (n : ℕ) → 0 < n → n ≤ 8 → count_test n ≡ true
count_few n a b = ap₂ ◌&&◌ (lt-ltb 0 n a) (le-leb n 8 b)

module _ (op : Op) (n : ℕ) (fs : List (List ℕ)) (lo hi : Bound) (most r c f v : ℕ) (some : 0 < n) (few : n ≤ 8) where
  -- a buffer is too short
  pub items_no_room : room_test most r c f v ≡ false → items op n fs lo hi most r c f v ≡ refused_items SPACE
  unfolding items
  items_no_room e = rw (count_few n some few, e)

  pub items_from : room_test most r c f v ≡ true → items op n fs lo hi most r c f v ≡ page_from op most (start_all lo hi (take n fs))
  unfolding items
  items_from e = rw (count_few n some few, e)

module _ (op : Op) (lo hi : Bound) (cs : List Source) (same : SameBounds lo hi cs) (some : 0 < length cs) (few : length cs ≤ 8) (others : List (List ℕ))
    (most r c f v : ℕ) (room : room_test most r c f v ≡ true) where
  abbrev W : AllItems op cs
  W = whole_of op cs some few

  abbrev given : ItemPage
  given = items op (length cs) (files_of cs ++ others) lo hi most r c f v

  -- the first of all the items
  pub items_are : FoldIs W.items most given
  items_are =
      let front : take (length cs) (files_of cs ++ others) ≡ files_of cs =
      ap (λ (k : ℕ). take k (files_of cs ++ others)) (sym (files_length cs)) ∙ take-append_seam (files_of cs) others in
      let to : given ≡ fold op (wide_cards cs) most =
      items_from op (length cs) (files_of cs ++ others) lo hi most r c f v some few room
      ∙ ap (λ (gs : List (List ℕ)). page_from op most (start_all lo hi gs)) front
      ∙ ap (page_from op most) (starts_are lo hi cs same) in
      subst (FoldIs W.items most) (sym to) (fold_run W.runs most)

  abbrev parts : take most W.items ++ drop most W.items ≡ W.items
  parts = take-append-drop most W.items

  rising_cut : Rising (keys_of (take most W.items ++ drop most W.items))
  rising_cut = subst (λ (l : List Item). Rising (keys_of l)) (sym parts) W.ascending

  cut_in : (x : Item) → Memᴰ x (take most W.items) → Memᴰ x W.items
  cut_in x on = subst (Memᴰ x) parts (Memᴰ.append_left (drop most W.items) on)

  in_cut : (y : Item) → Memᴰ y W.items → (x : Item) → Memᴰ x (take most W.items) → ¬ Before x.key y.key → Memᴰ y (take most W.items)
  in_cut y on x in_front low =
      ⊎_elim
      (λ (h : Memᴰ y (take most W.items)). h)
      (λ (h : Memᴰ y (drop most W.items)). absurd (low (rising_parts (take most W.items) (drop most W.items) rising_cut x y in_front h)))
      (Memᴰ.append_cases (take most W.items) (subst (Memᴰ y) (sym parts) on))

  exact_by : (p : ItemPage) → FoldIs W.items most p → ItemsExact op cs most p
  exact_by p g =
      ⊎_elim (λ (h : length W.items < most). by_ended h) (λ (h : most ≤ length W.items). by_more h) (lt_or (length W.items) most)
    where
      front : (x : Item) → Memᴰ x p.items → Memᴰ x (take most W.items)
      front x on = subst (Memᴰ x) g.items on

      no_refusal : {why : Stop} → p.stop ≡ why → ((n : Refusal) → ¬ (why ≡ Stop.refused n)) → (n : Refusal) → ¬ (p.stop ≡ Stop.refused n)
      no_refusal is not_it n e = not_it n (sym is ∙ e)

      such_front : (x : Item) → Memᴰ x p.items → D.Belongs op cs x.key x.pairs
      such_front x on = W.such x (cut_in x (front x on))

      rising_of : Rising (keys_of p.items)
      rising_of = subst (λ (l : List Item). Rising (keys_of l)) (sym g.items) (rising_front (take most W.items) (drop most W.items) rising_cut)

      left_out : (k : List ℕ) (ps : List Indexed) → D.Belongs op cs k ps → (x : Item) → Memᴰ x p.items → ¬ Before x.key k
          → Memᴰ (item_is k ps) p.items
      left_out k ps b x on low = subst (Memᴰ (item_is k ps)) (sym g.items) (in_cut (item_is k ps) (W.all k ps b) x (front x on) low)

      by_ended : length W.items < most → ItemsExact op cs most p
      by_ended h =
          let all : p.items ≡ W.items = g.items ∙ take_all most W.items (omega arith) in
          let n_is : length p.items ≡ length W.items = ap length all in
          let why : p.stop ≡ ended = g.stops h in
          record {
            such = such_front;
            ascending = rising_of;
            none_left_out = left_out;
            at_most = omega arith;
            not_refused = no_refusal why (λ n e. let z : ◌≡◌ {A = ℕ} 0 1 = cc in omega arith);
            ended_fewer = λ e. omega arith;
            fewer_ended = λ l. why;
            ended_none_left = λ e k ps b. subst (Memᴰ (item_is k ps)) (sym all) (W.all k ps b);
            more_all = λ e. let z : ◌≡◌ {A = ℕ} 0 1 = cc in absurd (omega arith);
            all_more = λ l. absurd (omega arith);
          }

      by_more : most ≤ length W.items → ItemsExact op cs most p
      by_more h =
          let n_is : length p.items ≡ most = ap length g.items ∙ length-take-le most W.items h in
          let why : p.stop ≡ more = g.goes_on h in
          record {
            such = such_front;
            ascending = rising_of;
            none_left_out = left_out;
            at_most = omega arith;
            not_refused = no_refusal why (λ n e. let z : ◌≡◌ {A = ℕ} 0 1 = cc in omega arith);
            ended_fewer = λ e. let z : ◌≡◌ {A = ℕ} 0 1 = cc in absurd (omega arith);
            fewer_ended = λ l. absurd (omega arith);
            ended_none_left = λ e. let z : ◌≡◌ {A = ℕ} 0 1 = cc in absurd (omega arith);
            more_all = λ e. n_is;
            all_more = λ l. why;
          }

  pub items_exact : ItemsExact op cs most given
  items_exact = exact_by given items_are
