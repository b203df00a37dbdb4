-- What a round comes to, by the verdict that the code gives, where the first n of what is seen are lent, and w is what stands there afterwards.
--     lent_length               so many are lent
--     lent_ready, lent_sees     they are ready, and are seen, as the first n of all are
--     ThisOf, this_by           an item, with its pairs and all that is seen afterwards
--     over_by                   the end: all that is seen stays
--     AnotherOf, another_by     another round, with all that is seen afterwards
-- Assumes nothing.
use Rattle.std.specs.Prelude.{◌≡◌, refl, List, ◌++◌, ℕ, ◌+◌, ◌-◌, ◌≤◌, ◌<◌, length, take, drop, get_or}
use Rattle.std.proofs.Common.{sym, ap, ◌∙◌, subst, arith, get_or-take, take-append-drop, length-append, length-drop}
use Rattle.std.proofs.Math.ListN.{get_or-append}
use Rattle.std.proofs.Math.Seq.{length-take-le}
use Rattle.ops_spec.specs.Ops as O
use Rattle.ops_spec.specs.Ops.{Indexed}
use Rattle.ops_keys.specs.declared.Place.{Place}
use Rattle.ops_keys.specs.Heads.{place_key, Within}
use Rattle.ops_pairs.specs.declared.Pairs.{Pairs}
use Rattle.ops_pairs.specs.Pairs.{PairsAre}
use Rattle.ops_seen.specs.declared.Seen.{Seen}
use Rattle.ops_seen.specs.Sights.{Few, Shows, Sees, SameKeys, Ready, Kept}
use Rattle.ops_decide.specs.declared.Verdict.{Verdict}
use Rattle.ops_decide.specs.declared.Verdict.TheVariants.{This, NoMore, Another}
use Rattle.ops_decide.specs.Verdicts.{DecidedBy}

pub record ThisOf (ks : List ℕ) (ss : List Seen) (Y : List O.Card) (n : ℕ) (q : O.Verdict) (m : List Seen) (place : Place) (its : Pairs) : Type 0 where
  pub pairs : List Indexed
  pub cards : List O.Card
  pub are : PairsAre pairs its
  pub few : Within place
  pub is : q ≡ O.this (place_key ks place) pairs cards
  pub sees : Sees ks n m cards
  pub kept : Kept Y cards
  pub long : length m ≡ length ss
  pub keys : SameKeys n ss m

pub record AnotherOf (ks : List ℕ) (ss : List Seen) (Y : List O.Card) (n : ℕ) (q : O.Verdict) (m : List Seen) : Type 0 where
  pub cards : List O.Card
  pub is : q ≡ O.another cards
  pub sees : Sees ks n m cards
  pub kept : Kept Y cards
  pub long : length m ≡ length ss
  pub keys : SameKeys n ss m

module _ (ks : List ℕ) (ss : List Seen) (n : ℕ) (small : n ≤ length ss) where
  pub lent_length : length (take n ss) ≡ n
  lent_length = length-take-le n ss small

  -- ---- before

  pub lent_sees : (X : List O.Card) → Sees ks n ss X → Sees ks (length (take n ss)) (take n ss) X
  lent_sees X S =
      let len = lent_length in
      record {
        count = S.count ∙ sym len;
        at = λ i d e h. subst (λ (s : Seen). Shows ks s (get_or X i e)) (sym (get_or-take n ss i d (omega arith))) (S.at i d e (omega arith));
      }

  pub lent_ready : Ready ks n ss → Ready ks (length (take n ss)) (take n ss)
  lent_ready R =
      let len = lent_length in
      record { few = λ i d h. subst Few (sym (get_or-take n ss i d (omega arith))) (R.few i d (omega arith)); cards = R.cards; sees = lent_sees R.cards R.sees }

  -- ---- afterwards

  module _ (w : List Seen) where
    module _ (same : length w ≡ length (take n ss)) where
      after_at : (i : ℕ) (d : Seen) → i < n → get_or (w ++ drop n ss) i d ≡ get_or w i d
      after_at i d h = let len = lent_length in get_or-append w (drop n ss) d i (omega arith)

      after_length : length (w ++ drop n ss) ≡ length ss
      after_length =
          let len = lent_length in
          let a = length-append w (drop n ss) in
          let b = length-drop n ss in
          omega arith

      after_sees : (X : List O.Card) → Sees ks (length (take n ss)) w X → Sees ks n (w ++ drop n ss) X
      after_sees X S =
          let len = lent_length in
          record {
            count = S.count ∙ len;
            at = λ i d e h. subst (λ (s : Seen). Shows ks s (get_or X i e)) (sym (after_at i d h)) (S.at i d e (omega arith));
          }

      after_keys : SameKeys (length (take n ss)) (take n ss) w → SameKeys n ss (w ++ drop n ss)
      after_keys K =
          let len = lent_length in
          record {
            at = λ i d h. ap (λ (s : Seen). s.key) (after_at i d h) ∙ K.at i d (omega arith) ∙ ap (λ (s : Seen). s.key) (get_or-take n ss i d h);
          }

    -- ---- by the verdict

    module _ (Y : List O.Card) where
      pub this_by : (place : Place) (its : Pairs) (q : O.Verdict) → DecidedBy ks (take n ss) Y q w (This place its) → ThisOf ks ss Y n q (w ++ drop n ss) place its
      this_by place its (O.this k ps ds) h =
          record {
            pairs = ps;
            cards = ds;
            are = h.pairs;
            few = h.few;
            is = ap (λ (a : List ℕ). O.this a ps ds) (sym h.key);
            sees = after_sees h.long ds h.sees;
            kept = h.kept;
            long = after_length h.long;
            keys = after_keys h.long h.keys;
          }
      this_by place its O.no_more h = absurd h
      this_by place its (O.another ds) h = absurd h

      pub over_by : (q : O.Verdict) → DecidedBy ks (take n ss) Y q w NoMore → (q ≡ O.no_more) × ((w ++ drop n ss) ≡ ss)
      over_by (O.this k ps ds) h = absurd h
      over_by O.no_more h = (refl, ap (λ (l : List Seen). l ++ drop n ss) h ∙ take-append-drop n ss)
      over_by (O.another ds) h = absurd h

      pub another_by : (q : O.Verdict) → DecidedBy ks (take n ss) Y q w Another → AnotherOf ks ss Y n q (w ++ drop n ss)
      another_by (O.this k ps ds) h = absurd h
      another_by O.no_more h = absurd h
      another_by (O.another ds) h =
          record {
            cards = ds;
            is = refl;
            sees = after_sees h.long ds h.sees;
            kept = h.kept;
            long = after_length h.long;
            keys = after_keys h.long h.keys;
          }
