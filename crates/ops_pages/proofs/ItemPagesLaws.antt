-- What is left after a page.
--     Cut op cs .. k more front     all items are front, and then all items of the operation from behind k on
--     pages_cut                     of the items up to any one of them
--     page_then                     of a page and its last key: so page after page, each item is handed out once, and none is left out
-- Assumes nothing.
use Prim.{Unit, tt}
use Rattle.std.specs.Prelude.{◌≡◌, refl, ◌⊎◌, ℕ, zero, suc, ◌<◌, ◌≤◌, true, length, drop}
use Rattle.std.proofs.Common.{sym, ◌∙◌, ap, subst, ⊎_elim, inl, inr, arith, take-append-drop}
use mathlib.Core.List.{List, [], ◌∷◌, ◌++◌, map, Memᴰ}
use Rattle.buffers.specs.DecideLaws.{true_of}
use Rattle.format.specs.Strings.{Before, Bound, excluded, MeetsLower, beyond, Rising}
use Rattle.format.specs.Laws.StringLaws.{before_irrefl, before_asym}
use Rattle.reading.proofs.BoundLaws.{decides_meets, meets_up}
use Rattle.sittings.proofs.RisingLaws.{rising_unique}
use Rattle.ops_spec.specs.Ops.{Op, Indexed}
use Rattle.ops_spec.specs.OpsDemand.{Source, Has, HasAt, first, further, Takes, Belongs}
use Rattle.ops_spec.specs.OpsLists.{Item}
use Rattle.ops_spec.specs.OpsRoundLaws.{takes_nil}
use Rattle.ops_paging.specs.ItemPaging.{room_test, items}
use Rattle.ops_paging.specs.ItemsExact.{SameBounds, files_of}
use Rattle.ops_paging.proofs.ItemsLaws.{whole_of, items_are, rising_front, rising_parts}
use Rattle.ops_pages.specs.ItemPages.{After, after_one, AllAfter, no_source, one_source, after_all}

above_excluded : {c x : List ℕ} → MeetsLower (excluded c) x → Before c x
above_excluded (beyond h) = h

rising_back : (xs ys : List Item) → Rising (map (λ (y : Item). y.key) (xs ++ ys)) → Rising (map (λ (y : Item). y.key) ys)
rising_back [] ys h = h
rising_back (x ∷ xs) ys h = rising_back xs ys h.1

-- ---- which file has a key

none_has : {cs : List Source} {i : ℕ} {l : List ℕ} {v : ℕ} → HasAt cs i l v → ¬ (cs ≡ [])
none_has (first h) e = let z : ◌≡◌ {A = ℕ} 0 1 = cc in omega arith
none_has (further h) e = let z : ◌≡◌ {A = ℕ} 0 1 = cc in omega arith

at_cases : {c : Source} {cs : List Source} {i : ℕ} {l : List ℕ} {v : ℕ} → HasAt (c ∷ cs) i l v → ((i ≡ 0) × Has c l v) ⊎ ((j : ℕ) × (i ≡ suc j) × HasAt cs j l v)
at_cases (first h) = inl (refl, h)
at_cases (further {i = j} h) = inr (j, refl, h)

module _ (k : List ℕ) where
  -- ---- one file

  has_after : (c : Source) (a : After k c) (l : List ℕ) (v : ℕ) → Before k l → Has c l v → Has (after_one k c a) l v
  has_after c a l v b h = record { held = h.held; between = record { meets = beyond b; within = h.between.within } }

  has_before : (c : Source) (a : After k c) (l : List ℕ) (v : ℕ) → MeetsLower c.lower k → Has (after_one k c a) l v → Has c l v
  has_before c a l v m h =
      let b = above_excluded h.between.meets in
      record {
        held = h.held;
        between = record {
          meets = (decides_meets c.lower l).yes (meets_up c.lower k l b (true_of _ (decides_meets c.lower k) m));
          within = h.between.within;
        };
      }

  -- ---- all files

  at_after : (cs : List Source) (more : AllAfter k cs) (i : ℕ) (l : List ℕ) (v : ℕ) → Before k l → HasAt cs i l v → HasAt (after_all k cs more) i l v
  at_after _ no_source i l v b x4 = elim x4 [ ]
  at_after _ (one_source {c} {cs} a more) _ l v b (first h) = first (has_after c a l v b h)
  at_after _ (one_source {c} {cs} a more) _ l v b (further {i = i} h) = further (at_after cs more i l v b h)

  after_length : (cs : List Source) (more : AllAfter k cs) → length (after_all k cs more) ≡ length cs
  after_length _ no_source = refl
  after_length _ (one_source {c} {cs} a more) = ap suc (after_length cs more)

  abbrev MeetAll : List Source → Type 0
  MeetAll [] = Unit {0}
  MeetAll (c ∷ cs) = MeetsLower c.lower k × MeetAll cs

  at_before : (cs : List Source) (more : AllAfter k cs) → MeetAll cs → (i : ℕ) (l : List ℕ) (v : ℕ) → HasAt (after_all k cs more) i l v → HasAt cs i l v
  at_before _ no_source m i l v h = absurd (none_has h refl)
  at_before _ (one_source {c} {cs} a more) m i l v h =
      ⊎_elim
      (λ w. subst (λ (j : ℕ). HasAt (c ∷ cs) j l v) (sym w.0) (first (has_before c a l v m.0 w.1)))
      (λ w. subst (λ (j : ℕ). HasAt (c ∷ cs) j l v) (sym w.1) (further (at_before cs more m.1 w.0 l v w.2)))
      (at_cases h)

  -- a key that some file of the next page has comes after k
  at_later : (cs : List Source) (more : AllAfter k cs) (i : ℕ) (l : List ℕ) (v : ℕ) → HasAt (after_all k cs more) i l v → Before k l
  at_later _ no_source i l v h = absurd (none_has h refl)
  at_later _ (one_source {c} {cs} a more) i l v h =
      ⊎_elim (λ w. above_excluded w.1.between.meets) (λ w. at_later cs more w.0 l v w.2) (at_cases h)

  module _ (op : Op) (cs : List Source) (more : AllAfter k cs) (meet : MeetAll cs) where
    belongs_after : (l : List ℕ) (ps : List Indexed) → Before k l → Belongs op cs l ps → Belongs op (after_all k cs more) l ps
    belongs_after l ps b h =
        record {
          pairs = record {
            in_order = h.pairs.in_order;
            such = λ x on. at_after cs more x.index l x.value b (h.pairs.such x on);
            all = λ i v at. h.pairs.all i v (at_before cs more meet i l v at);
          };
          takes = subst (λ (n : ℕ). Takes op n ps) (sym (after_length cs more)) h.takes;
        }

    belongs_before : (l : List ℕ) (ps : List Indexed) → Before k l → Belongs op (after_all k cs more) l ps → Belongs op cs l ps
    belongs_before l ps b h =
        record {
          pairs = record {
            in_order = h.pairs.in_order;
            such = λ x on. at_before cs more meet x.index l x.value (h.pairs.such x on);
            all = λ i v at. h.pairs.all i v (at_after cs more i l v b at);
          };
          takes = subst (λ (n : ℕ). Takes op n ps) (after_length cs more) h.takes;
        }

    belongs_later : 0 < length cs → (l : List ℕ) (ps : List Indexed) → Belongs op (after_all k cs more) l ps → Before k l
    belongs_later some l [] h =
        absurd (takes_nil op (length (after_all k cs more)) (omega (arith, after_length cs more)) h.takes)
    belongs_later some l (x ∷ ps) h = at_later cs more x.index l x.value (h.pairs.such x (mathlib.Core.List.Memᴰ.head refl))

-- ---- the items up to one of them, and those of the next page

pub record Cut (op : Op) (cs : List Source) (some_file : 0 < length cs) (few : length cs ≤ 8) (k : List ℕ) (more : AllAfter k cs) (front : List Item) : Type 0 where
  pub some_left : 0 < length (after_all k cs more)
  pub few_left : length (after_all k cs more) ≤ 8
  pub is : front ++ (whole_of op (after_all k cs more) some_left few_left).items ≡ (whole_of op cs some_file few).items

module _ (op : Op) (cs : List Source) (some_file : 0 < length cs) (few : length cs ≤ 8) (before : List Item) (x : Item) (rest : List Item)
    (parts : (before ++ (x ∷ [])) ++ rest ≡ (whole_of op cs some_file few).items) (more : AllAfter x.key cs) (meet : MeetAll x.key cs) where
  abbrev front : List Item
  front = before ++ (x ∷ [])

  some_left : 0 < length (after_all x.key cs more)
  some_left = omega (arith, after_length x.key cs more)

  few_left : length (after_all x.key cs more) ≤ 8
  few_left = omega (arith, after_length x.key cs more)

  abbrev left : List Item
  left = (whole_of op (after_all x.key cs more) some_left few_left).items

  rising_all : Rising (map (λ (y : Item). y.key) (front ++ rest))
  rising_all = subst (λ (l : List Item). Rising (map (λ (y : Item). y.key) l)) (sym parts) (whole_of op cs some_file few).ascending

  last_in : Memᴰ x front
  last_in = mathlib.Core.List.Memᴰ.append_right before (mathlib.Core.List.Memᴰ.head refl)

  to : (z : Item) → Memᴰ z rest → Memᴰ z left
  to z on =
      let b = rising_parts front rest rising_all x z last_in on in
      (whole_of op (after_all x.key cs more) some_left few_left).all z.key z.pairs
      (belongs_after x.key op cs more meet z.key z.pairs b
      ((whole_of op cs some_file few).such z (subst (Memᴰ z) parts (mathlib.Core.List.Memᴰ.append_right front on))))

  not_after : (z : Item) → Memᴰ z front → ¬ Before x.key z.key
  not_after z on after =
      ⊎_elim
      (λ (h : Memᴰ z before). before_asym (rising_parts before (x ∷ []) (rising_front front rest rising_all) z x h (mathlib.Core.List.Memᴰ.head refl)) after)
      (λ (h : Memᴰ z (x ∷ [])). before_irrefl x.key (subst (λ (y : Item). Before x.key y.key) (mathlib.Core.List.Memᴰ.eq_of_singleton h) after))
      (mathlib.Core.List.Memᴰ.append_cases before on)

  from : (z : Item) → Memᴰ z left → Memᴰ z rest
  from z on =
      let h = (whole_of op (after_all x.key cs more) some_left few_left).such z on in
      let b = belongs_later x.key op cs more meet some_file z.key z.pairs h in
      ⊎_elim
      (λ (g : Memᴰ z front). absurd (not_after z g b))
      (λ (g : Memᴰ z rest). g)
      (mathlib.Core.List.Memᴰ.append_cases front
      (subst (Memᴰ z) (sym parts)
      ((whole_of op cs some_file few).all z.key z.pairs (belongs_before x.key op cs more meet z.key z.pairs b h))))

  pub pages_cut : Cut op cs some_file few x.key more front
  pages_cut =
      record {
        some_left = some_left;
        few_left = few_left;
        is = ap (λ (l : List Item). front ++ l)
            (sym (rising_unique (λ (y : Item). y.key) rest left (rising_back front rest rising_all) (whole_of op (after_all x.key cs more) some_left few_left).ascending to from))
            ∙ parts;
      }

-- ---- of a page

meet_all : (k : List ℕ) (lo hi : Bound) (cs : List Source) → SameBounds lo hi cs → MeetsLower lo k → MeetAll k cs
meet_all k lo hi [] same m = tt
meet_all k lo hi (c ∷ cs) same m = (subst (λ (b : Bound). MeetsLower b k) (sym same.0) m, meet_all k lo hi cs same.2 m)

at_meets : (lo hi : Bound) (cs : List Source) → SameBounds lo hi cs → (i : ℕ) (l : List ℕ) (v : ℕ) → HasAt cs i l v → MeetsLower lo l
at_meets lo hi [] same i l v h = absurd (none_has h refl)
at_meets lo hi (c ∷ cs) same i l v h =
    ⊎_elim (λ w. subst (λ (b : Bound). MeetsLower b l) same.0 w.1.between.meets) (λ w. at_meets lo hi cs same.2 w.0 l v w.2) (at_cases h)

item_meets : (op : Op) (lo hi : Bound) (cs : List Source) → SameBounds lo hi cs → 0 < length cs → (l : List ℕ) (ps : List Indexed) → Belongs op cs l ps → MeetsLower lo l
item_meets op lo hi cs same some l [] h = absurd (takes_nil op (length cs) some h.takes)
item_meets op lo hi cs same some l (y ∷ ps) h = at_meets lo hi cs same y.index l y.value (h.pairs.such y (mathlib.Core.List.Memᴰ.head refl))

-- all items are those of a page with a last item x, and then all those of the operation from behind x on
pub page_then : (op : Op) (lo hi : Bound) (cs : List Source) (same : SameBounds lo hi cs) (some_file : 0 < length cs) (few : length cs ≤ 8) (others : List (List ℕ))
    (most r c f v : ℕ) → room_test most r c f v ≡ true → (before : List Item) (x : Item)
    → (items op (length cs) (files_of cs ++ others) lo hi most r c f v).items ≡ before ++ (x ∷ []) → (more : AllAfter x.key cs)
    → Cut op cs some_file few x.key more (before ++ (x ∷ []))
page_then op lo hi cs same some_file few others most r c f v room before x is more =
    let W = whole_of op cs some_file few in
    let parts : (before ++ (x ∷ [])) ++ drop most W.items ≡ W.items =
    ap (λ (l : List Item). l ++ drop most W.items) (sym is ∙ (items_are op lo hi cs same some_file few others most r c f v room).items)
    ∙ take-append-drop most W.items in
    let on : Memᴰ x W.items =
    subst (Memᴰ x) parts (mathlib.Core.List.Memᴰ.append_left (drop most W.items) (mathlib.Core.List.Memᴰ.append_right before (mathlib.Core.List.Memᴰ.head refl))) in
    pages_cut op cs some_file few before x (drop most W.items) parts more
    (meet_all x.key lo hi cs same (item_meets op lo hi cs same some_file x.key x.pairs (W.such x on)))
