-- What a round comes to: a law for each case that the check does not find.
--     takes_one                 whether a key belongs to a difference
--     key_this, key_another     at a key
--     first_less                by the first card's key, where a card holds a lesser one
--     difference_held           by the first card
-- Assumes nothing.
use mathlib.Core.Path.{◌≡◌, refl, sym, ap, ◌∙◌, subst}
use mathlib.Core.Bool.{Bool, true, false, cond}
use mathlib.Core.Option.{Option}
use Rattle.std.specs.Prelude as L
use Rattle.std.proofs.Common.{Ordering}
use Rattle.std.specs.declared.cmp.Ordering.TheVariants.{Less, Equal}
use Rattle.std.specs.Ordering.{is_lt}
use mathlib.Core.List.{List, [], ◌∷◌, map}
use Prim.Native.Nat.{ℕ, ◌+◌, ◌<◌}
use native.Mathlib.Omega.{arith}
use lib.Dec.{eqb}
use lib.ListN.{length, drop, get_or}
use Rattle.format.specs.Strings.{before_test}
use Rattle.ops_spec.specs.Ops as O
use Rattle.ops_spec.specs.Ops.{Indexed, card_key, if_holds, least_key, same_test, pairs_from, use_up, only_first, takes_test, at_key, at_first}
use Rattle.ops_keys.specs.declared.Place.{Place}
use Rattle.ops_keys.specs.Heads.{place_key, Within, Compared}
use Rattle.ops_pairs.specs.declared.Pairs.{Pairs}
use Rattle.ops_pairs.specs.Pairs.{padded, PairsAre}
use Rattle.ops_pairs.specs.PairsLaws.{the_files}
use Rattle.ops_round.specs.declared.Slot.{Slot}
use Rattle.ops_round.specs.declared.Slot.TheVariants.{Holds}
use Rattle.ops_round.specs.Cards.{slot_is}
use Rattle.ops_seen.specs.declared.Seen.{Seen}
use Rattle.ops_seen.specs.Sights.{Shows, Sees}
use Rattle.ops_seen.specs.SightsLaws.{Front, front_is, used_kept}
use Rattle.ops_item.specs.Items.{least_is, LeastBy, key_test, AllUsed, CollectedBy}
use Rattle.ops_decide.specs.declared.Op.{Op}
use Rattle.ops_decide.specs.declared.Op.TheVariants.{Difference}
use Rattle.ops_decide.specs.declared.Verdict.{Verdict}
use Rattle.ops_decide.specs.declared.Verdict.TheVariants.{This, Another}
use Rattle.ops_decide.specs.Verdicts.{op_is, DecidedBy}

-- ---- whether a key belongs

module _ (op : Op) (n : ℕ) (p : Pairs) (ps : List Indexed) (are : PairsAre ps p) where
  by_op : (o : Op) → op ≡ o → takes_test (op_is o) n ps ≡ takes_test (op_is op) n ps
  by_op o e = ap (λ (x : Op). takes_test (op_is x) n ps) (sym e)

  pub takes_one : op ≡ Difference → p.count ≡ 1 → eqb (get_or p.files 0 0) 0 ≡ takes_test (op_is op) n ps
  takes_one e one =
      ap (λ (fs : List ℕ). eqb (get_or fs 0 0) 0) (the_files are) ∙ by ps (sym are.count ∙ one) ∙ by_op Difference e
    where
      by : (qs : List Indexed) → length qs ≡ 1 → eqb (get_or (map (λ (x : Indexed). x.index) (padded qs)) 0 0) 0 ≡ only_first qs
      by [] z = absurd (omega arith)
      by (x ∷ []) z = refl
      by (x ∷ y ∷ qs) z = absurd (omega arith)

-- ---- at a key

module _ (ks : List ℕ) (op : Op) (cs : List Seen) (k : Place) (p : Pairs) (after : List Seen) (taken : Bool)
    (collected : CollectedBy ks (length cs) cs k p) (used : AllUsed ks cs k Equal after) (takes : (ps : List Indexed) → PairsAre ps p → taken ≡ takes_test (op_is op) (length cs) ps)
    (X : List O.Card) (S : Sees ks (length cs) cs X) where
  key_test_lem : takes_test (op_is op) (length X) (pairs_from 0 (place_key ks k) X) ≡ taken
  key_test_lem =
      ap (λ (m : ℕ). takes_test (op_is op) m (pairs_from 0 (place_key ks k) X)) S.count ∙ sym (takes (pairs_from 0 (place_key ks k) X) (collected.is X S))

  by_taken : (r : Verdict) (b : Bool) → taken ≡ b
      → DecidedBy ks cs X
      (cond b (O.this (place_key ks k) (pairs_from 0 (place_key ks k) X) (use_up (λ l. same_test l (place_key ks k)) X)) (O.another (use_up (λ l. same_test l (place_key ks k)) X))) after r
      → DecidedBy ks cs X (at_key (op_is op) (place_key ks k) X) after r
  by_taken r b e h =
      subst
      (λ (t : Bool).
      DecidedBy ks cs X
      (cond t (O.this (place_key ks k) (pairs_from 0 (place_key ks k) X) (use_up (λ l. same_test l (place_key ks k)) X)) (O.another (use_up (λ l. same_test l (place_key ks k)) X))) after r)
      (sym (key_test_lem ∙ e)) h

  pub key_this : taken ≡ true → Within k → DecidedBy ks cs X (at_key (op_is op) (place_key ks k) X) after (This k p)
  key_this e few =
      by_taken (This k p) true e
      (record {
        key = refl;
        few = few;
        pairs = collected.is X S;
        sees = used.is X S;
        kept = used_kept (key_test Equal (place_key ks k)) X;
        long = used.long;
        keys = used.keys;
      })

  pub key_another : taken ≡ false → DecidedBy ks cs X (at_key (op_is op) (place_key ks k) X) after Another
  key_another e =
      by_taken Another false e (record { sees = used.is X S; kept = used_kept (key_test Equal (place_key ks k)) X; long = used.long; keys = used.keys })

-- ---- by the least key

module _ (ks : List ℕ) (cs : List Seen) (l : L.Option Place) (least : LeastBy ks (length cs) cs l) (X : List O.Card) (S : Sees ks (length cs) cs X) where
  found_is : (m : L.Option Place) → l ≡ m → least_key X ≡ least_is ks m
  found_is m e = least.is X S ∙ ap (least_is ks) e

  module _ (k : Place) where
    module _ (m : Place) (found : l ≡ L.Some m) (o : Ordering) (by : Compared (place_key ks m) (place_key ks k) o) (after : List Seen) (r : Verdict) where
      by_less : (b : Bool) → is_lt o ≡ b
          → DecidedBy ks cs X (cond b (O.another (use_up (λ x. before_test x (place_key ks k)) X)) (at_key O.difference (place_key ks k) X)) after r
          → DecidedBy ks cs X (at_first (place_key ks k) (least_key X) X) after r
      by_less b e h =
          subst (λ (x : Option (List ℕ)). DecidedBy ks cs X (at_first (place_key ks k) x X) after r) (sym (found_is (L.Some m) found))
          (subst (λ (t : Bool). DecidedBy ks cs X (cond t (O.another (use_up (λ x. before_test x (place_key ks k)) X)) (at_key O.difference (place_key ks k) X)) after r)
          (sym (by.less ∙ e)) h)

    pub first_less : (m : Place) → l ≡ L.Some m → (o : Ordering) → Compared (place_key ks m) (place_key ks k) o → (after : List Seen) → is_lt o ≡ true
        → AllUsed ks cs k Less after → DecidedBy ks cs X (at_first (place_key ks k) (least_key X) X) after Another
    first_less m found o by after e used =
        by_less m found o by after Another true e
        (record { sees = used.is X S; kept = used_kept (key_test Less (place_key ks k)) X; long = used.long; keys = used.keys })

-- ---- by the first card

first_is : (X : List O.Card) (c : O.Card) (rest : List O.Card) → X ≡ c ∷ rest
    → O.decide O.difference X ≡ if_holds c.slot (λ v. at_first (card_key c) (least_key X) X) O.no_more
first_is X c rest e =
    subst (λ (Y : List O.Card). O.decide O.difference Y ≡ if_holds c.slot (λ v. at_first (card_key c) (least_key Y) Y) O.no_more) (sym e) refl

module _ (ks : List ℕ) (cs : List Seen) (d : Seen) (some_card : 0 < length cs) (X : List O.Card) (S : Sees ks (length cs) cs X) (after : List Seen) (r : Verdict) where
  front : Front X 0
  front = let len = S.count in front_is X 0 (omega arith)

  abbrev first : O.Card
  first = get_or X 0 front.other

  shows : Shows ks (get_or cs 0 d) first
  shows = S.at 0 d front.other some_card

  by_slot : (y : Slot) → (get_or cs 0 d).slot ≡ y
      → DecidedBy ks cs X (if_holds (slot_is y) (λ v. at_first (card_key first) (least_key X) X) O.no_more) after r → DecidedBy ks cs X (O.decide O.difference X) after r
  by_slot y e h =
      subst (λ (v : O.Verdict). DecidedBy ks cs X v after r) (sym (first_is X first (drop (0 + 1) X) front.is))
      (subst (λ (z : O.Slot). DecidedBy ks cs X (if_holds z (λ v. at_first (card_key first) (least_key X) X) O.no_more) after r)
      (sym (shows.slot ∙ ap slot_is e)) h)

  pub difference_held : (v : ℕ) → (get_or cs 0 d).slot ≡ Holds v → DecidedBy ks cs X (at_first (place_key ks (get_or cs 0 d).key) (least_key X) X) after r
      → DecidedBy ks cs X (O.decide O.difference X) after r
  difference_held v e h = by_slot (Holds v) e (subst (λ (k : List ℕ). DecidedBy ks cs X (at_first k (least_key X) X) after r) (sym (shows.key v e)) h)
