-- What a round looks up in what is seen of the cards, against `least_key`, `use_up` and `pairs_from` (crate ops_spec).
--     least_is l                        a key, if one was found
--     key_test o k x                    whether the key x stands so to k
--     LesserBy, LeastBy                the lesser of a key and a card's; the least of all
--     UsedBy, AllUsed                  a card, and the cards, with those keys used up
--     GatheredBy, CollectedBy          the values of a key, with one card's; of all
-- Assumes nothing.
use Rattle.std.specs.Prelude.{◌≡◌, Bool, cond, List, ℕ, length, Option, None, Some, IfSome}
use Rattle.std.specs.declared.cmp.Ordering.{Ordering}
use Rattle.std.specs.declared.cmp.Ordering.TheVariants.{Less, Equal, Greater}
use Rattle.std.proofs.Math.Option as M
use Rattle.format.specs.Strings.{before_test}
use Rattle.ops_spec.specs.Ops as O
use Rattle.ops_spec.specs.Ops.{Indexed, indexed, card_key, if_holds, least_key, same_test, insert, pairs_from, use_up}
use Rattle.ops_keys.specs.declared.Place.{Place}
use Rattle.ops_keys.specs.Heads.{place_key, Within}
use Rattle.ops_pairs.specs.declared.Pairs.{Pairs}
use Rattle.ops_pairs.specs.Pairs.{PairsAre}
use Rattle.ops_seen.specs.declared.Seen.{Seen}
use Rattle.ops_seen.specs.Sights.{Shows, Sees, Few, SameKeys}
use Rattle.ops_seen.specs.SightsLaws.{used1}

-- ---- the least key

abbrev pub least_is : List ℕ → Option Place → M.Option (List ℕ)
least_is ks (Some k) = M.some (place_key ks k)
least_is ks None = M.none

pub record LesserBy (ks : List ℕ) (l : Option Place) (c : Seen) (r : Option Place) : Type 0 where
  pub is : (x : O.Card) → Shows ks c x → if_holds x.slot (λ v. O.lesser (card_key x) (least_is ks l)) (least_is ks l) ≡ least_is ks r
  pub few : IfSome r Within

pub record LeastBy (ks : List ℕ) (n : ℕ) (cs : List Seen) (r : Option Place) : Type 0 where
  pub is : (X : List O.Card) → Sees ks n cs X → least_key X ≡ least_is ks r
  pub few : IfSome r Within

-- ---- keys used up

abbrev pub key_test : Ordering → List ℕ → List ℕ → Bool
key_test Less k x = before_test x k
key_test Equal k x = same_test x k
key_test Greater k x = before_test k x

pub record UsedBy (ks : List ℕ) (c : Seen) (k : Place) (meant : Ordering) (r : Seen) : Type 0 where
  pub is : (x : O.Card) → Shows ks c x → Shows ks r (used1 (key_test meant (place_key ks k)) x)
  pub few : Few r
  pub key : r.key ≡ c.key

pub record AllUsed (ks : List ℕ) (cs : List Seen) (k : Place) (meant : Ordering) (r : List Seen) : Type 0 where
  pub is : (X : List O.Card) → Sees ks (length cs) cs X → Sees ks (length cs) r (use_up (key_test meant (place_key ks k)) X)
  pub long : length r ≡ length cs
  pub keys : SameKeys (length cs) cs r

-- ---- the values of a key

pub record GatheredBy (ks : List ℕ) (p : Pairs) (c : Seen) (k : Place) (file : ℕ) (r : Pairs) : Type 0 where
  pub is : (x : O.Card) → Shows ks c x → (ps : List Indexed) → PairsAre ps p
      → PairsAre (if_holds x.slot (λ v. cond (same_test (card_key x) (place_key ks k)) (insert (indexed v file) ps) ps) ps) r

pub record CollectedBy (ks : List ℕ) (n : ℕ) (cs : List Seen) (k : Place) (r : Pairs) : Type 0 where
  pub is : (X : List O.Card) → Sees ks n cs X → PairsAre (pairs_from 0 (place_key ks k) X) r
