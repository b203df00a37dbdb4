-- A turn of a page on its readings: `Filling` of the cards that they stand for.
--     LiveFilling ..                   `done` items are written, whatever cards the readings stood for at their starts
--     live_none                        before the first item
--     live_refused, live_on            the steps of a round are refused, or made
--     live_ready, live_place, live_pairs, live_room     what the rest of a turn asks for
--     live_end, live_again, live_item  what a round comes to
--     live_more                        as many items as asked for
--     steps_fall, again_falls, item_falls     the measure
-- Assumes nothing.
use Rattle.std.specs.Prelude.{◌≡◌, Bool, List, ◌++◌, ℕ, ◌+◌, ◌≤◌, ◌<◌, length, take, drop, Ok, Err, Result}
use Rattle.std.proofs.Common.{subst, arith}
use Rattle.format.specs.declared.Refusal.{Refusal}
use Rattle.format.specs.Strings as S
use Rattle.ops_spec.specs.Ops as O
use Rattle.ops_spec.specs.Ops.{decide}
use Rattle.ops_paging.specs.ItemPaging.{ItemPage, fold}
use Rattle.ops_keys.specs.declared.Head.{Head}
use Rattle.ops_keys.specs.declared.Place.{Place}
use Rattle.ops_keys.specs.Heads.{head_key, place_key, Within}
use Rattle.ops_pairs.specs.declared.Pairs.{Pairs}
use Rattle.ops_round.specs.declared.Card.{Card}
use Rattle.ops_round.specs.Cards.{cards_is}
use Rattle.ops_seen.specs.declared.Seen.{Seen}
use Rattle.ops_seen.specs.Sights.{Sees, Ready}
use Rattle.ops_turn.specs.Parts.{to_do}
use Rattle.ops_decide.specs.declared.Verdict.TheVariants.{This, NoMore, Another}
use Rattle.ops_decide.specs.declared.Verdict.{Verdict}
use Rattle.ops_decide.specs.Verdicts.{DecidedBy}
use Rattle.ops_put.specs.ItemPut.{HasPlace, ItemPut}
use Rattle.range_fill.specs.declared.Stop.TheVariants.{End, More}
use Rattle.ops_live.specs.declared.Live.{Live}
use Rattle.ops_live.specs.Lives.{AllStand}
use Rattle.ops_starts.specs.StartedCards.{Begun}
use Rattle.ops_lives.specs.LiveRounds.{StandOn, LivesStepped, cards_from, to_do_of}
use Rattle.ops_lives.specs.LiveLoads.{to_do_as}
use Rattle.ops_page.specs.PagedItems.{HasRoom, PagedBy}
use Rattle.ops_page.specs.PageLaws.{Filling, filling_none, filling_on, filling_item, filling_again, steps_less, item_less, round_less, page_ready, has_place, item_fits, pairs_fit, filled_more, filled_end, filled_refused}
use Rattle.ops_page.specs.LivePages.{Beginning}

pub record OnCards (w : ItemPage) (fs : List (List ℕ)) (op : O.Op) (n : ℕ) (hi : S.Bound) (ls : List Live) (ks : List ℕ) (ss : List Seen) (i most : ℕ)
    (rows₀ rows counts₀ counts numbers₀ numbers values₀ values : List ℕ) (done : ℕ) : Type 0 where
  pub all : List Card
  pub stand : AllStand fs n hi ls all
  pub filling : Filling w fs op n all ks ss i most rows₀ rows counts₀ counts numbers₀ numbers values₀ values done

pub record LiveFilling (fs : List (List ℕ)) (op : O.Op) (n : ℕ) (hi : S.Bound) (ls₀ : List Live) (ks₀ : List ℕ) (ss₀ : List Seen) (ls : List Live) (ks : List ℕ) (ss : List Seen) (i most : ℕ)
    (rows₀ rows counts₀ counts numbers₀ numbers values₀ values : List ℕ) (done : ℕ) : Type 0 where
  pub from : (cs : List Card) → Begun fs n hi ls₀ ks₀ ss₀ cs
      → OnCards (fold op (cards_is fs n cs) most) fs op n hi ls ks ss i most rows₀ rows counts₀ counts numbers₀ numbers values₀ values done

pub live_none : (fs : List (List ℕ)) (op : O.Op) (n : ℕ) (hi : S.Bound) (ls : List Live) (ks : List ℕ) (ss : List Seen) (most : ℕ) (rows counts numbers values : List ℕ) → n ≤ 8
    → LiveFilling fs op n hi ls ks ss ls ks ss 0 most rows rows counts counts numbers numbers values values 0
live_none fs op n hi ls ks ss most rows counts numbers values small =
    record { from = λ cs b. record { all = cs; stand = b.stands; filling = filling_none fs op n cs ks ss most rows counts numbers values small b.seen } }

module _ {fs : List (List ℕ)} {op : O.Op} {n : ℕ} {hi : S.Bound} {ls₀ : List Live} {ks₀ : List ℕ} {ss₀ : List Seen} {ls : List Live} {ks : List ℕ} {ss : List Seen} {i most : ℕ}
    {rows₀ rows counts₀ counts numbers₀ numbers values₀ values : List ℕ} {done : ℕ}
    (I : LiveFilling fs op n hi ls₀ ks₀ ss₀ ls ks ss i most rows₀ rows counts₀ counts numbers₀ numbers values₀ values done) where
  pub live_room : Beginning fs n hi ls₀ ks₀ ss₀ → HasRoom most rows₀ counts₀ numbers₀ values₀ → done < most → HasPlace done rows counts numbers values
  live_room B room left = has_place (I.from B.cards B.begun).filling room left

  pub live_more : most ≤ done → (cs : List Card) → Begun fs n hi ls₀ ks₀ ss₀ cs
      → PagedBy (fold op (cards_is fs n cs) most) rows₀ rows counts₀ counts numbers₀ numbers values₀ values (record { count = done; stop = Ok More })
  live_more full cs b = filled_more (I.from cs b).filling full

  module _ (some : 0 < n) (few : n ≤ 8) where
    -- ---- the steps of a round

    module _ (first : i ≡ 0) {ls' : List Live} {ks' : List ℕ} {ss' : List Seen} {r : Result Bool Refusal} (by : LivesStepped fs n hi ls ks ss ls' ks' ss' r) where
      pub live_refused : done < most → (why : Refusal) → r ≡ Err why → (cs : List Card) → Begun fs n hi ls₀ ks₀ ss₀ cs
          → PagedBy (fold op (cards_is fs n cs) most) rows₀ rows counts₀ counts numbers₀ numbers values₀ values (record { count = done; stop = Err why })
      live_refused left why t cs b =
          let F = I.from cs b in
          filled_refused F.filling some few first (by.is F.all F.stand).stepped left why t

      module _ (m : Bool) (t : r ≡ Ok m) where
        pub live_on : LiveFilling fs op n hi ls₀ ks₀ ss₀ ls' ks' ss' n most rows₀ rows counts₀ counts numbers₀ numbers values₀ values done
        live_on =
            record {
              from = λ cs b.
                  let F = I.from cs b in
                  let C = by.is F.all F.stand in
                  record {
                    all = C.all;
                    stand = subst (StandOn fs n hi ls' C.all) t C.stand;
                    filling = filling_on F.filling some few first C.stepped m t;
                  };
            }

        pub steps_fall : Beginning fs n hi ls₀ ks₀ ss₀ → to_do fs n (cards_from fs hi ls') ss' n ≤ to_do_of fs n hi ls ss
        unfolding live_on
        steps_fall B =
            let F = I.from B.cards B.begun in
            let C = by.is F.all F.stand in
            let G = live_on.from B.cards B.begun in
            let less : to_do fs n G.all ss' n ≤ to_do fs n F.all ss 0 = steps_less F.filling some few first C.stepped m t in
            let old = to_do_as F.stand ss few F.filling.turning.seen_len 0 in
            let new = to_do_as G.stand ss' few G.filling.turning.seen_len n in
            omega arith

    -- ---- what the round comes to

    module _ (full : n ≤ i) where
      pub live_ready : Beginning fs n hi ls₀ ks₀ ss₀ → (0 < length (take n ss)) × (length (take n ss) ≤ 8) × Ready ks (length (take n ss)) (take n ss)
      live_ready B = page_ready (I.from B.cards B.begun).filling some few full

      module _ (z : List Seen) (v : Verdict)
          (by : (X : List O.Card) → Sees ks (length (take n ss)) (take n ss) X → DecidedBy ks (take n ss) X (decide op X) z v) where
        abbrev m : List Seen
        m = z ++ drop n ss

        pub live_end : done < most → v ≡ NoMore → (cs : List Card) → Begun fs n hi ls₀ ks₀ ss₀ cs
            → PagedBy (fold op (cards_is fs n cs) most) rows₀ rows counts₀ counts numbers₀ numbers values₀ values (record { count = done; stop = Ok End })
        live_end left e cs b = filled_end (I.from cs b).filling some few full z v by left e

        pub live_again : v ≡ Another → LiveFilling fs op n hi ls₀ ks₀ ss₀ ls ks m 0 most rows₀ rows counts₀ counts numbers₀ numbers values₀ values done
        live_again e =
            record { from = λ cs b. let F = I.from cs b in record { all = F.all; stand = F.stand; filling = filling_again F.filling some few full z v by e } }

        pub again_falls : Beginning fs n hi ls₀ ks₀ ss₀ → v ≡ Another → to_do_of fs n hi ls m < to_do fs n (cards_from fs hi ls) ss i
        again_falls B e =
            let F = I.from B.cards B.begun in
            let G = (live_again e).from B.cards B.begun in
            let less = round_less F.filling some few full z v by e in
            let old = to_do_as F.stand ss few F.filling.turning.seen_len i in
            let new = to_do_as F.stand m few G.filling.turning.seen_len 0 in
            omega arith

        module _ (place : Place) (its : Pairs) (e : v ≡ This place its) where
          pub live_place : Beginning fs n hi ls₀ ks₀ ss₀ → Within place
          live_place B = item_fits (I.from B.cards B.begun).filling some few full z v by place its e

          pub live_pairs : Beginning fs n hi ls₀ ks₀ ss₀ → its.count ≤ 8
          live_pairs B = pairs_fit (I.from B.cards B.begun).filling some few full z v by place its e

          pub live_item : done < most → HasRoom most rows₀ counts₀ numbers₀ values₀ → (hd : Head) → hd.levels ≡ place.levels
              → head_key hd ≡ place_key ks place → {rows' counts' numbers' values' : List ℕ}
              → ItemPut hd its done rows rows' counts counts' numbers numbers' values values'
              → LiveFilling fs op n hi ls₀ ks₀ ss₀ ls ks m 0 most rows₀ rows' counts₀ counts' numbers₀ numbers' values₀ values' (done + 1)
          live_item left room hd same_levels same_key put_is =
              record {
                from = λ cs b.
                    let F = I.from cs b in
                    record { all = F.all; stand = F.stand; filling = filling_item F.filling some few full z v by place its e left room hd same_levels same_key put_is };
              }

          pub item_falls : Beginning fs n hi ls₀ ks₀ ss₀ → length m ≡ 8 → to_do_of fs n hi ls m < to_do fs n (cards_from fs hi ls) ss i
          item_falls B len =
              let F = I.from B.cards B.begun in
              let less = item_less F.filling some few full z v by place its e in
              let old = to_do_as F.stand ss few F.filling.turning.seen_len i in
              let new = to_do_as F.stand m few len 0 in
              omega arith
