-- The cards looked up one by one.
--     Leasting, Using, Collecting      what is done of a loop
--     leasting-.., using-.., collecting-..    at its start, after a card, and at its end
-- Assumes nothing.
use mathlib.Core.Path.{◌≡◌, refl, sym, ap, ◌∙◌, subst}
use mathlib.Core.Bool.{cond}
use mathlib.Core.Option.{Option}
use mathlib.Core.Logic.{⊎_elim}
use Rattle.std.specs.Prelude as S
use Rattle.std.specs.Prelude.{IfSome}
use Rattle.std.specs.declared.cmp.Ordering.{Ordering}
use borrow.Author.Rules.{rules}
use mathlib.Core.List.{List, [], ◌∷◌}
use Prim.Native.Nat.{ℕ, zero, suc, ◌+◌, ◌-◌, ◌<◌, ◌≤◌}
use native.Mathlib.Omega.{arith}
use lib.ListN.{length, drop, get_or, set, length-set, length-drop, drop_of_length-le}
use lib.Seq.{get_or-set_same, get_or-set_other}
use Rattle.ops_spec.specs.Ops as O
use Rattle.ops_spec.specs.Ops.{Indexed, indexed, card_key, if_holds, least_key, same_test, insert, pairs_from}
use Rattle.ops_spec.specs.OpsPairsLaws.{pairs_most}
use Rattle.ops_keys.specs.declared.Place.{Place}
use Rattle.ops_keys.specs.Heads.{place_key, Within}
use Rattle.ops_pairs.specs.declared.Pairs.{Pairs}
use Rattle.ops_pairs.specs.Pairs.{PairsAre}
use Rattle.reading.proofs.RunLaws.{lt_or}
use Rattle.ops_seen.specs.declared.Seen.{Seen}
use Rattle.ops_seen.specs.Sights.{Shows, Sees, Few, Ready}
use Rattle.ops_seen.specs.SightsLaws.{Front, front_is, used1, used_count, used_at}
use Rattle.ops_item.specs.Items.{least_is, LesserBy, LeastBy, key_test, UsedBy, AllUsed, GatheredBy, CollectedBy}

-- no card is left behind the last
none_behind : (ks : List ℕ) (n : ℕ) (cs : List Seen) (X : List O.Card) → Sees ks n cs X → drop n X ≡ []
none_behind ks n cs X S = let len = S.count in drop_of_length-le X {i = n} (omega arith)

-- the card at place i - 1, and those behind it
pub record Back (ks : List ℕ) (n : ℕ) (cs : List Seen) (X : List O.Card) (i : ℕ) (d : Seen) : Type 0 where
  pub card : O.Card
  pub is : drop (i - 1) X ≡ card ∷ drop i X
  pub shows : Shows ks (get_or cs (i - 1) d) card

cons_before : (ks : List ℕ) (n : ℕ) (cs : List Seen) (X : List O.Card) (i : ℕ) (d : Seen) → Sees ks n cs X → 0 < i → i ≤ n → Back ks n cs X i d
cons_before ks n cs X i d S some within =
    let len = S.count in
    let back : i - 1 + 1 ≡ i = omega arith in
    let F : Front X (i - 1) = front_is X (i - 1) (omega arith) in
    record {
      card = get_or X (i - 1) F.other;
      is = F.is ∙ ap (λ (j : ℕ). get_or X (i - 1) F.other ∷ drop j X) back;
      shows = S.at (i - 1) d F.other (omega arith);
    }

-- ---- the least key

pub record Leasting (ks : List ℕ) (n : ℕ) (cs : List Seen) (l : S.Option Place) (i : ℕ) : Type 0 where
  pub within : i ≤ n
  pub few : IfSome l Within
  pub is : (X : List O.Card) → Sees ks n cs X → least_key (drop i X) ≡ least_is ks l

pub leasting_none : (ks : List ℕ) (n : ℕ) (cs : List Seen) → Leasting ks n cs S.None n
unfolding least_key
leasting_none ks n cs = record { within = omega arith; few = search rules; is = λ X S. ap least_key (none_behind ks n cs X S) }

pub leasting_on : (ks : List ℕ) (n : ℕ) (cs : List Seen) (l : S.Option Place) (i : ℕ) (d : Seen) (r : S.Option Place) → 0 < i → Leasting ks n cs l i → LesserBy ks l (get_or cs (i - 1) d) r → Leasting ks n cs r (i - 1)
unfolding least_key
leasting_on ks n cs l i d r some L by =
    let within = L.within in
    record {
      within = omega arith;
      few = by.few;
      is = λ X S.
          let B : Back ks n cs X i d = cons_before ks n cs X i d S some L.within in
          let c : O.Card = B.card in
          ap least_key B.is
          ∙ ap (λ (o : Option (List ℕ)). if_holds c.slot (λ v. O.lesser (card_key c) o) o) (L.is X S)
          ∙ by.is c B.shows;
    }

pub leasting_all : (ks : List ℕ) (n : ℕ) (cs : List Seen) (l : S.Option Place) (i : ℕ) → i ≡ 0 → Leasting ks n cs l i → LeastBy ks n cs l
leasting_all ks n cs l i z L = record { is = λ X S. ap (λ (j : ℕ). least_key (drop j X)) (sym z) ∙ L.is X S; few = L.few }

-- ---- keys used up

pub record Using (ks : List ℕ) (cs : List Seen) (k : Place) (meant : Ordering) (all : List Seen) (i : ℕ) : Type 0 where
  pub within : i ≤ length cs
  pub long : length all ≡ length cs
  pub few : (j : ℕ) (d : Seen) → j < length cs → Few (get_or all j d)
  pub done : (j : ℕ) (d : Seen) → j < i → (x : O.Card) → Shows ks (get_or cs j d) x → Shows ks (get_or all j d) (used1 (key_test meant (place_key ks k)) x)
  pub rest : (j : ℕ) (d : Seen) → i ≤ j → get_or all j d ≡ get_or cs j d
  pub keys : (j : ℕ) (d : Seen) → j < length cs → (get_or all j d).key ≡ (get_or cs j d).key

pub using_none : (ks : List ℕ) (cs : List Seen) (k : Place) (meant : Ordering) → Ready ks (length cs) cs → Using ks cs k meant cs 0
using_none ks cs k meant ready =
    record { within = omega arith; long = refl; few = ready.few; done = λ j d h. absurd (omega arith); rest = λ j d h. refl; keys = λ j d h. refl }

-- a place within a list has the same element whatever else is named
default_any : (l : List Seen) (i : ℕ) (a b : Seen) → i < length l → get_or l i a ≡ get_or l i b
default_any [] i a b h = absurd (omega arith)
default_any (x ∷ l) zero a b h = refl
default_any (x ∷ l) (suc i) a b h = default_any l i a b (omega arith)

module _ (ks : List ℕ) (cs : List Seen) (k : Place) (meant : Ordering) (all : List Seen) (i : ℕ) (U : Using ks cs k meant all i) where
  pub using_on : (d r : Seen) → i < length cs → UsedBy ks (get_or all i d) k meant r → Using ks cs k meant (set all i r) (i + 1)
  using_on b r h by =
      let long = U.long in
      record {
        within = omega arith;
        long = length-set all i r ∙ long;
        few = λ j d l. ⊎_elim (λ (z : j < i). few_at j d l (λ q. omega arith)) (λ (g : i ≤ j). ⊎_elim (λ (z : i < j). few_at j d l (λ q. omega arith)) (λ (z : j ≤ i). few_here j d (omega arith)) (lt_or i j)) (lt_or j i);
        done = λ j d l. ⊎_elim (λ (z : j < i). earlier j d z) (λ (z : i ≤ j). here j d (omega arith)) (lt_or j i);
        rest = λ j d l. get_or-set_other all i j r d (λ z. omega arith) ∙ U.rest j d (omega arith);
        keys = λ j d l. ⊎_elim (λ (z : j < i). key_at_lem j d l (λ q. omega arith)) (λ (g : i ≤ j). ⊎_elim (λ (z : i < j). key_at_lem j d l (λ q. omega arith)) (λ (z : j ≤ i). key_here j d l (omega arith)) (lt_or i j)) (lt_or j i);
      }
    where
      few_at : (j : ℕ) (d : Seen) → j < length cs → ¬ (j ≡ i) → Few (get_or (set all i r) j d)
      few_at j d l ne = subst Few (sym (get_or-set_other all i j r d ne)) (U.few j d l)

      few_here : (j : ℕ) (d : Seen) → j ≡ i → Few (get_or (set all i r) j d)
      few_here j d z =
          let long = U.long in
          subst (λ (m : ℕ). Few (get_or (set all i r) m d)) (sym z) (subst Few (sym (get_or-set_same all i r d (omega arith))) by.few)

      key_at_lem : (j : ℕ) (d : Seen) → j < length cs → ¬ (j ≡ i) → (get_or (set all i r) j d).key ≡ (get_or cs j d).key
      key_at_lem j d l ne = ap (λ (c : Seen). c.key) (get_or-set_other all i j r d ne) ∙ U.keys j d l

      key_here : (j : ℕ) (d : Seen) → j < length cs → j ≡ i → (get_or (set all i r) j d).key ≡ (get_or cs j d).key
      key_here j d l z =
          let long = U.long in
          ap (λ (m : ℕ). (get_or (set all i r) m d).key) z
          ∙ ap (λ (c : Seen). c.key) (get_or-set_same all i r d (omega arith))
          ∙ by.key
          ∙ ap (λ (c : Seen). c.key) (default_any all i b d (omega arith))
          ∙ U.keys i d h
          ∙ ap (λ (m : ℕ). (get_or cs m d).key) (sym z)

      earlier : (j : ℕ) (d : Seen) → j < i → (x : O.Card) → Shows ks (get_or cs j d) x → Shows ks (get_or (set all i r) j d) (used1 (key_test meant (place_key ks k)) x)
      earlier j d z x s =
          subst (λ (c : Seen). Shows ks c (used1 (key_test meant (place_key ks k)) x)) (sym (get_or-set_other all i j r d (λ q. omega arith))) (U.done j d z x s)

      here_at : (d : Seen) (x : O.Card) → Shows ks (get_or cs i d) x → Shows ks (get_or (set all i r) i d) (used1 (key_test meant (place_key ks k)) x)
      here_at d x s =
          let long = U.long in
          subst (λ (c : Seen). Shows ks c (used1 (key_test meant (place_key ks k)) x)) (sym (get_or-set_same all i r d (omega arith)))
          (by.is x (subst (λ (c : Seen). Shows ks c x) (sym (U.rest i d (omega arith)) ∙ default_any all i d b (omega arith)) s))

      here : (j : ℕ) (d : Seen) → j ≡ i → (x : O.Card) → Shows ks (get_or cs j d) x → Shows ks (get_or (set all i r) j d) (used1 (key_test meant (place_key ks k)) x)
      here j d z =
          subst (λ (m : ℕ). (x : O.Card) → Shows ks (get_or cs m d) x → Shows ks (get_or (set all i r) m d) (used1 (key_test meant (place_key ks k)) x)) (sym z) (here_at d)

  pub using_all : length cs ≤ i → AllUsed ks cs k meant all
  using_all h =
      let within = U.within in
      record {
        is = λ X S.
            record {
              count = used_count (key_test meant (place_key ks k)) X ∙ S.count;
              at = λ j d e l.
                  let len = S.count in
                  subst (Shows ks (get_or all j d)) (sym (used_at (key_test meant (place_key ks k)) X j e (omega arith)))
                  (U.done j d (omega arith) (get_or X j e) (S.at j d e l));
            };
        long = U.long;
        keys = record { at = U.keys };
      }

-- ---- the values of a key

pub record Collecting (ks : List ℕ) (n : ℕ) (cs : List Seen) (k : Place) (p : Pairs) (i : ℕ) : Type 0 where
  pub within : i ≤ n
  pub is : (X : List O.Card) → Sees ks n cs X → PairsAre (pairs_from i (place_key ks k) (drop i X)) p

pub collecting_none : (ks : List ℕ) (n : ℕ) (cs : List Seen) (k : Place) (p : Pairs) → PairsAre [] p → Collecting ks n cs k p n
unfolding pairs_from
collecting_none ks n cs k p are =
    record { within = omega arith; is = λ X S. subst (λ (l : List O.Card). PairsAre (pairs_from n (place_key ks k) l) p) (sym (none_behind ks n cs X S)) are }

-- there is room for one more
pub collecting_room : (ks : List ℕ) (n : ℕ) (cs : List Seen) (k : Place) (p : Pairs) (i : ℕ) → Ready ks n cs → n ≤ 8 → 0 < i → Collecting ks n cs k p i → p.count < 8
collecting_room ks n cs k p i ready small some C =
    let within = C.within in
    let X = ready.cards in
    let len = ready.sees.count in
    let drops = length-drop i X in
    let most = pairs_most i (place_key ks k) (drop i X) in
    let count = (C.is X ready.sees).count in
    omega arith

pub collecting_on : (ks : List ℕ) (n : ℕ) (cs : List Seen) (k : Place) (p : Pairs) (i : ℕ) (d : Seen) (r : Pairs) → 0 < i → Collecting ks n cs k p i → GatheredBy ks p (get_or cs (i - 1) d) k (i - 1) r
    → Collecting ks n cs k r (i - 1)
unfolding pairs_from
collecting_on ks n cs k p i d r some C by =
    let within = C.within in
    record {
      within = omega arith;
      is = λ X S.
          let B : Back ks n cs X i d = cons_before ks n cs X i d S some C.within in
          let c : O.Card = B.card in
          let back : i - 1 + 1 ≡ i = omega arith in
          let ps : List Indexed = pairs_from i (place_key ks k) (drop i X) in
          let turn : pairs_from (i - 1) (place_key ks k) (drop (i - 1) X)
          ≡ if_holds c.slot (λ v. cond (same_test (card_key c) (place_key ks k)) (insert (indexed v (i - 1)) ps) ps) ps =
          ap (pairs_from (i - 1) (place_key ks k)) B.is
          ∙ ap
          (λ (j : ℕ).
          if_holds c.slot
          (λ v. cond (same_test (card_key c) (place_key ks k)) (insert (indexed v (i - 1)) (pairs_from j (place_key ks k) (drop i X))) (pairs_from j (place_key ks k) (drop i X)))
          (pairs_from j (place_key ks k) (drop i X)))
          back in
          subst (λ (qs : List Indexed). PairsAre qs r) (sym turn) (by.is c B.shows ps (C.is X S));
    }

pub collecting_all : (ks : List ℕ) (n : ℕ) (cs : List Seen) (k : Place) (p : Pairs) (i : ℕ) → i ≡ 0 → Collecting ks n cs k p i → CollectedBy ks n cs k p
collecting_all ks n cs k p i z C =
    record { is = λ X S. subst (λ (j : ℕ). PairsAre (pairs_from j (place_key ks k) (drop j X)) p) z (C.is X S) }
