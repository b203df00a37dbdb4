-- Items written one after the other: what a turn of the loop over calls knows, and what each way out of it gives back.
--     Filling w fs op n all ks ss i most .. done `done` items are written, the page w goes on by a call that is on its way
--     filling_none, filling_on                before the first item, after the steps of a round
--     filling_item, filling_again             after an item, after a round without one
--     steps_less, item_less, round_less       the steps leave no more to do, and the measure falls
--     filled_more, filled_end, filled_refused the ways out
--     paged_as, refused_by                    by an equation between pages; a refusal before any item
--     room_of                                 what has_room shows
-- Assumes nothing.
use Rattle.std.specs.Prelude.{◌≡◌, refl, Bool, true, false, cond, ◌&&◌, ◌||◌, List, [], ◌∷◌, ◌++◌, ℕ, ◌+◌, ◌-◌, ◌*◌, min, ◌≤◌, ◌<◌, ltb, leb, length, take, drop, set, replicate, Ok, Err, Result}
use Rattle.std.proofs.Common.{sym, ap, ap₂, subst, ◌∙◌, arith, length-take, length-append, length-set, lt-ltb, le-leb}
use Rattle.std.proofs.lemmas.List.{length-map, length-replicate}
use Rattle.format.specs.declared.Refusal.{Refusal}
use Rattle.buffers.specs.DecideLaws.{decides_and, decides_le}
use Rattle.buffers.specs.Put.{put}
use Rattle.buffers.specs.PutLaws.{length_put}
use Rattle.format.specs.Limits.{max_path, CARDS}
use Rattle.reading.specs.Demand.{Entry, entry}
use Rattle.paging.specs.Paging as G
use Rattle.paging.specs.Paging.{ended, more, row_len, row_of, rows_after, values_after}
use Rattle.paging.proofs.FoldLaws.{rows_none, rows_snoc, values_none, values_snoc}
use Rattle.ops_spec.specs.Ops as O
use Rattle.ops_spec.specs.Ops.{Indexed, indexed, next_item, after_steps, step_all, by_verdict, decide}
use Rattle.ops_spec.specs.OpsLists.{Item, item_is}
use Rattle.ops_spec.specs.OpsFuelLaws.{rounds_by, rounds_by_lem, next_item_by}
use Rattle.ops_paging.specs.ItemPaging.{ItemPage, item_page, refused_items, fold, room_test, lines_of, eight_of, eights_after, index_of, value_of}
use Rattle.ops_paging.proofs.ItemFoldLaws.{Folded, folded_none, folded_item, folded_more, folded_end, folded_refused, lines_snoc, eights_none, eights_snoc}
use Rattle.ops_keys.specs.declared.Head.{Head}
use Rattle.ops_keys.specs.declared.Place.{Place}
use Rattle.ops_keys.specs.Heads.{head_key, place_key, Within}
use Rattle.ops_pairs.specs.declared.Pairs.{Pairs}
use Rattle.ops_pairs.specs.Pairs.{padded, pairs_in, PairsAre}
use Rattle.ops_pairs.specs.PairsLaws.{in_length, the_values, the_files}
use Rattle.ops_round.specs.declared.Card.{Card}
use Rattle.ops_round.specs.Cards.{cards_is}
use Rattle.ops_round.specs.CardsLaws.{cards_length}
use Rattle.ops_seen.specs.declared.Seen.{Seen}
use Rattle.ops_seen.specs.Sights.{AllSeen, Sees, Ready}
use Rattle.ops_turn.specs.Parts.{dealt_all, Turning, to_do, Went, CardsStepped}
use Rattle.ops_turn.specs.LoadLaws.{Lighter, decide_lighter}
use Rattle.ops_turn.specs.PartsLaws.{turning_none, turn_sees, turn_ready, turn_judged, turning_item, turning_again, again_less}
use Rattle.ops_decide.specs.declared.Verdict.TheVariants.{This, NoMore, Another}
use Rattle.ops_decide.specs.declared.Verdict.{Verdict}
use Rattle.ops_decide.specs.Verdicts.{DecidedBy}
use Rattle.ops_decide.specs.VerdictsLaws.{lent_length, lent_sees, lent_ready, ThisOf, AnotherOf, this_by, over_by, another_by}
use Rattle.ops_put.specs.ItemPut.{HasPlace, ItemPut}
use Rattle.range_fill.specs.declared.Stop.TheVariants.{End, More}
use Rattle.range_fill.specs.declared.Ranged.{Ranged}
use Rattle.range_fill.specs.RangedRows.{refused_range}
use Rattle.ops_page.specs.PagedItems.{stop_as, HasRoom, PagedBy}

-- ---- an item's pairs

padded_length : (ps : List Indexed) → length (padded ps) ≡ length ps + (8 - length ps)
padded_length ps =
    length-append ps (replicate (8 - length ps) (indexed 0 0)) ∙ ap (λ (n : ℕ). length ps + n) (length-replicate (8 - length ps) (indexed 0 0))

pub pairs_few : (ps : List Indexed) (p : Pairs) → PairsAre ps p → length ps ≤ 8
pairs_few ps p h =
    let a : length (pairs_in p.values p.files) ≡ 8 = in_length p.values p.files (h.values_len ∙ sym h.files_len) ∙ h.values_len in
    let b : length (pairs_in p.values p.files) ≡ length ps + (8 - length ps) = ap length h.pairs ∙ padded_length ps in
    omega arith

-- ---- an item's key

key_short : (h : Head) → h.levels ≤ 256 → length (head_key h) ≤ 255
key_short h few = let t : length (head_key h) ≡ min (h.levels - 1) (length (drop 1 h.inps)) = length-take (h.levels - 1) (drop 1 h.inps) in omega arith

-- ---- a turn

pub record Filling (w : ItemPage) (fs : List (List ℕ)) (op : O.Op) (n : ℕ) (all : List Card) (ks : List ℕ) (ss : List Seen) (i most : ℕ)
    (rows₀ rows counts₀ counts numbers₀ numbers values₀ values : List ℕ) (done : ℕ) : Type 0 where
  pub items : List Item
  pub done_is : done ≡ length items
  pub within : done ≤ most
  -- the cards of this call
  pub cards : List O.Card
  pub count : length cards ≡ n
  pub folded : Folded w items (most - done) op cards
  pub stepped : Bool
  pub turning : Turning max_path fs op n cards all ks ss i stepped
  pub rows_are : rows ≡ rows_after (lines_of items) rows₀
  pub counts_are : counts ≡ values_after (lines_of items) counts₀
  pub numbers_are : numbers ≡ eights_after index_of items numbers₀
  pub values_are : values ≡ eights_after value_of items values₀
  pub rows_len : length rows ≡ length rows₀
  pub counts_len : length counts ≡ length counts₀
  pub numbers_len : length numbers ≡ length numbers₀
  pub values_len : length values ≡ length values₀

pub filling_none : (fs : List (List ℕ)) (op : O.Op) (n : ℕ) (all : List Card) (ks : List ℕ) (ss : List Seen) (most : ℕ) (rows counts numbers values : List ℕ) → n ≤ 8
    → AllSeen n all ks ss → Filling (fold op (cards_is fs n all) most) fs op n all ks ss 0 most rows rows counts counts numbers numbers values values 0
filling_none fs op n all ks ss most rows counts numbers values small seen =
    let given = seen.given in
    record {
      items = [];
      done_is = refl;
      within = omega arith;
      cards = cards_is fs n all;
      count = cards_length fs n all (omega arith);
      folded = subst (λ (m : ℕ). Folded (fold op (cards_is fs n all) most) [] m op (cards_is fs n all)) (omega arith) (folded_none op (cards_is fs n all) most);
      stepped = false;
      turning = turning_none max_path fs op n all ks ss small seen;
      rows_are = sym (rows_none rows);
      counts_are = sym (values_none counts);
      numbers_are = sym (eights_none index_of numbers);
      values_are = sym (eights_none value_of values);
      rows_len = refl;
      counts_len = refl;
      numbers_len = refl;
      values_len = refl;
    }

-- ---- what a round comes to

module _ {w : ItemPage} {fs : List (List ℕ)} {op : O.Op} {n : ℕ} {all : List Card} {ks : List ℕ} {ss : List Seen} {i most : ℕ}
    {rows₀ rows counts₀ counts numbers₀ numbers values₀ values : List ℕ} {done : ℕ}
    (f : Filling w fs op n all ks ss i most rows₀ rows counts₀ counts numbers₀ numbers values₀ values done) where
  -- the page stops with the items that are written
  stops : (why : G.Stop) → w ≡ item_page f.items why
      → PagedBy w rows₀ rows counts₀ counts numbers₀ numbers values₀ values (record { count = done; stop = stop_as why })
  stops why is =
      subst (λ (q : ItemPage). PagedBy q rows₀ rows counts₀ counts numbers₀ numbers values₀ values (record { count = done; stop = stop_as why })) (sym is)
      (record {
        count = f.done_is;
        stop = refl;
        rows_are = f.rows_are;
        counts_are = f.counts_are;
        numbers_are = f.numbers_are;
        values_are = f.values_are;
      })

  pub filled_more : most ≤ done → PagedBy w rows₀ rows counts₀ counts numbers₀ numbers values₀ values (record { count = done; stop = Ok More })
  filled_more full = stops more (folded_more f.folded (omega arith))

  -- the next item's places lie within the buffers
  pub has_place : HasRoom most rows₀ counts₀ numbers₀ values₀ → done < most → HasPlace done rows counts numbers values
  has_place room left =
      record {
        row = omega (arith, room.row, f.rows_len);
        count = omega (arith, room.count, f.counts_len);
        number = omega (arith, room.number, f.numbers_len);
        value = omega (arith, room.value, f.values_len);
      }

  -- the page goes on by another state of its call
  goes_on : {all' : List Card} {ks' : List ℕ} {ss' : List Seen} {i' : ℕ} (t : Bool) → Turning max_path fs op n f.cards all' ks' ss' i' t
      → Filling w fs op n all' ks' ss' i' most rows₀ rows counts₀ counts numbers₀ numbers values₀ values done
  goes_on t T =
      record {
        items = f.items;
        done_is = f.done_is;
        within = f.within;
        cards = f.cards;
        count = f.count;
        folded = f.folded;
        stepped = t;
        turning = T;
        rows_are = f.rows_are;
        counts_are = f.counts_are;
        numbers_are = f.numbers_are;
        values_are = f.values_are;
        rows_len = f.rows_len;
        counts_len = f.counts_len;
        numbers_len = f.numbers_len;
        values_len = f.values_len;
      }

  module _ (some : 0 < n) (few : n ≤ 8) where
    called_is : next_item op f.cards max_path ≡ rounds_by op max_path false f.cards
    called_is =
        let X : List O.Card = f.cards in
        let len = f.count in
        let t : (ltb 0 (length X) && leb (length X) 8) ≡ true = ap₂ ◌&&◌ (lt-ltb 0 (length X) (omega arith)) (le-leb (length X) 8 (omega arith)) in
        next_item_by op X max_path
        ∙ ap (λ (b : Bool). cond b (after_steps op max_path false (rounds_by op max_path true) (step_all max_path X)) (O.Merged.refused CARDS)) t
        ∙ sym (rounds_by_lem op max_path false X)

    -- ---- the steps of a round

    module _ (first : i ≡ 0) {all' : List Card} {ks' : List ℕ} {ss' : List Seen} {r : Result Bool Refusal}
        (by : CardsStepped fs max_path n all ks ss all' ks' ss' r) where
      began : Turning max_path fs op n f.cards all ks ss 0 f.stepped
      began = subst (λ (j : ℕ). Turning max_path fs op n f.cards all ks ss j f.stepped) first f.turning

      pub filled_refused : done < most → (why : Refusal) → r ≡ Err why → PagedBy w rows₀ rows counts₀ counts numbers₀ numbers values₀ values (record { count = done; stop = Err why })
      filled_refused left why t =
          stops (G.Stop.refused why)
          (folded_refused f.folded (omega arith) why (called_is ∙ (subst (CardsStepped fs max_path n all ks ss all' ks' ss') t by).is op f.cards f.stepped began))

      module _ (m : Bool) (t : r ≡ Ok m) where
        went : Went max_path fs op n f.cards all ss all' ks' ss' n (f.stepped || m)
        went = (subst (CardsStepped fs max_path n all ks ss all' ks' ss') t by).is op f.cards f.stepped began

        pub filling_on : Filling w fs op n all' ks' ss' n most rows₀ rows counts₀ counts numbers₀ numbers values₀ values done
        filling_on = goes_on (f.stepped || m) went.turning

        pub steps_less : to_do fs n all' ss' n ≤ to_do fs n all ss 0
        steps_less = went.less

    -- ---- what the round comes to

    module _ (full : n ≤ i) where
      abbrev Y : List O.Card
      Y = cards_is fs n (dealt_all all ss)

      or_room : (x : Bool) → (x || leb max_path max_path) ≡ true
      or_room true = refl
      or_room false = le-leb max_path max_path (omega arith)

      room_told : (f.stepped || leb max_path max_path) ≡ true
      room_told = or_room f.stepped

      long : n ≤ length ss
      long = let e = f.turning.seen_len in omega arith

      pub page_ready : (0 < length (take n ss)) × (length (take n ss) ≤ 8) × Ready ks (length (take n ss)) (take n ss)
      page_ready =
          let len = lent_length ks ss n long in
          (omega arith, omega arith, lent_ready ks ss n long (turn_ready f.turning few some full))

      module _ (z : List Seen) (v : Verdict)
          (by : (X : List O.Card) → Sees ks (length (take n ss)) (take n ss) X → DecidedBy ks (take n ss) X (decide op X) z v) where
        abbrev m : List Seen
        m = z ++ drop n ss

        here : DecidedBy ks (take n ss) Y (decide op Y) z v
        here = by Y (lent_sees ks ss n long Y (turn_sees f.turning few some full))

        here_as : (u : Verdict) → v ≡ u → DecidedBy ks (take n ss) Y (decide op Y) z u
        here_as u e = subst (DecidedBy ks (take n ss) Y (decide op Y) z) e here

        judged : (q : O.Verdict) → decide op Y ≡ q → next_item op f.cards max_path ≡ by_verdict Y (rounds_by op max_path true) q
        judged q e = called_is ∙ turn_judged f.turning few some full room_told ∙ ap (by_verdict Y (rounds_by op max_path true)) e

        pub filled_end : done < most → v ≡ NoMore → PagedBy w rows₀ rows counts₀ counts numbers₀ numbers values₀ values (record { count = done; stop = Ok End })
        filled_end left e =
            stops ended (folded_end f.folded (omega arith) Y (judged O.no_more (over_by ks ss n long z Y (decide op Y) (here_as NoMore e)).0))

        another_of : v ≡ Another → AnotherOf ks ss Y n (decide op Y) m
        another_of e = another_by ks ss n long z Y (decide op Y) (here_as Another e)

        pub filling_again : v ≡ Another → Filling w fs op n all ks m 0 most rows₀ rows counts₀ counts numbers₀ numbers values₀ values done
        filling_again e =
            let a = another_of e in
            goes_on true (turning_again f.turning few some full m (a.long ∙ f.turning.seen_len) a.cards a.sees a.kept a.keys room_told a.is)

        pub round_less : v ≡ Another → to_do fs n all m 0 < to_do fs n all ss i
        round_less e =
            let a = another_of e in
            again_less f.turning few some full m (a.long ∙ f.turning.seen_len) a.cards a.sees a.kept (subst (Lighter Y) a.is (decide_lighter op Y))

        module _ (place : Place) (its : Pairs) (e : v ≡ This place its) where
          item_of : ThisOf ks ss Y n (decide op Y) m place its
          item_of = this_by ks ss n long z Y place its (decide op Y) (here_as (This place its) e)

          pub item_fits : Within place
          item_fits = item_of.few

          pub pairs_fit : its.count ≤ 8
          pairs_fit = omega (arith, item_of.are.count, pairs_few item_of.pairs its item_of.are)

          pub item_less : to_do fs n all m 0 < to_do fs n all ss i
          item_less =
              let a = item_of in
              again_less f.turning few some full m (a.long ∙ f.turning.seen_len) a.cards a.sees a.kept (subst (Lighter Y) a.is (decide_lighter op Y))

          pub filling_item : done < most → HasRoom most rows₀ counts₀ numbers₀ values₀ → (hd : Head) → hd.levels ≡ place.levels
              → head_key hd ≡ place_key ks place → {rows' counts' numbers' values' : List ℕ}
              → ItemPut hd its done rows rows' counts counts' numbers numbers' values values'
              → Filling w fs op n all ks m 0 most rows₀ rows' counts₀ counts' numbers₀ numbers' values₀ values' (done + 1)
          filling_item left room hd same_levels same_key {rows'} {counts'} {numbers'} {values'} put_is =
              let a = item_of in
              let k : List ℕ = head_key hd in
              let fits = item_fits.few in
              let is : decide op Y ≡ O.this k a.pairs a.cards = a.is ∙ ap (λ (x : List ℕ). O.this x a.pairs a.cards) (sym same_key) in
              let x : Item = item_is k a.pairs in
              let line : Entry = entry k (length a.pairs) in
              let done_is = f.done_is in
              let lines_len : length (lines_of f.items) ≡ length f.items = length-map f.items (λ (y : Item). entry y.key (length y.pairs)) in
              let row_at : done * 256 ≡ row_len * length (lines_of f.items) = omega arith in
              let count_at : done ≡ length (lines_of f.items) = omega arith in
              let eight_at : done * 8 ≡ 8 * length f.items = omega arith in
              let more_len : length (f.items ++ (x ∷ [])) ≡ length f.items + 1 = length-append f.items (x ∷ []) in
              let in_counts : length (lines_of f.items) < length counts₀ = omega (arith, room.count) in
              let short : length k ≤ 255 = key_short hd (omega arith) in
              let eight : length its.files ≡ 8 = a.are.files_len in
              let held : length its.values ≡ 8 = a.are.values_len in
              record {
                items = f.items ++ (x ∷ []);
                done_is = omega arith;
                within = omega arith;
                cards = a.cards;
                count = a.sees.count;
                folded = folded_item f.folded k a.pairs a.cards (most - (done + 1)) (omega arith) (judged (O.this k a.pairs a.cards) is);
                stepped = false;
                turning = turning_item f.turning few some full m (a.long ∙ f.turning.seen_len) a.cards a.sees a.kept a.keys;
                rows_are = put_is.row
                    ∙ ap₂ (λ (l : List ℕ) (j : ℕ). put l j (row_of line)) f.rows_are row_at
                    ∙ sym (ap (λ (l : List Entry). rows_after l rows₀) (lines_snoc f.items x) ∙ rows_snoc (lines_of f.items) line rows₀);
                counts_are = put_is.count
                    ∙ ap (set counts done) a.are.count
                    ∙ ap₂ (λ (l : List ℕ) (j : ℕ). set l j (length a.pairs)) f.counts_are count_at
                    ∙ sym (ap (λ (l : List Entry). values_after l counts₀) (lines_snoc f.items x) ∙ values_snoc (lines_of f.items) line counts₀ in_counts);
                numbers_are = put_is.number
                    ∙ ap (put numbers (done * 8)) (the_files a.are)
                    ∙ ap₂ (λ (l : List ℕ) (j : ℕ). put l j (eight_of index_of x)) f.numbers_are eight_at
                    ∙ sym (eights_snoc index_of f.items x numbers₀);
                values_are = put_is.value
                    ∙ ap (put values (done * 8)) (the_values a.are)
                    ∙ ap₂ (λ (l : List ℕ) (j : ℕ). put l j (eight_of value_of x)) f.values_are eight_at
                    ∙ sym (eights_snoc value_of f.items x values₀);
                rows_len = ap length put_is.row ∙ length_put rows (done * 256) (row_of line) (omega (arith, f.rows_len, room.row)) ∙ f.rows_len;
                counts_len = ap length put_is.count ∙ length-set counts done its.count ∙ f.counts_len;
                numbers_len = ap length put_is.number ∙ length_put numbers (done * 8) its.files (omega (arith, f.numbers_len, room.number)) ∙ f.numbers_len;
                values_len = ap length put_is.value ∙ length_put values (done * 8) its.values (omega (arith, f.values_len, room.value)) ∙ f.values_len;
              }

-- by an equation between pages
pub paged_as : {v w : ItemPage} {rows₀ rows counts₀ counts numbers₀ numbers values₀ values : List ℕ} {r : Ranged} → v ≡ w
    → PagedBy v rows₀ rows counts₀ counts numbers₀ numbers values₀ values r → PagedBy w rows₀ rows counts₀ counts numbers₀ numbers values₀ values r
paged_as {v} {w} {rows₀} {rows} {counts₀} {counts} {numbers₀} {numbers} {values₀} {values} {r} e h =
    subst (λ (q : ItemPage). PagedBy q rows₀ rows counts₀ counts numbers₀ numbers values₀ values r) e h

pub refused_by : {w : ItemPage} (n : Refusal) (rows counts numbers values : List ℕ) → w ≡ refused_items n → {r : Ranged} → r ≡ refused_range n
    → PagedBy w rows rows counts counts numbers numbers values values r
refused_by n rows counts numbers values is {r} e =
    paged_as (sym is)
    (subst (PagedBy (refused_items n) rows rows counts counts numbers numbers values values) (sym e)
    (record {
      count = refl;
      stop = refl;
      rows_are = sym (rows_none rows);
      counts_are = sym (values_none counts);
      numbers_are = sym (eights_none index_of numbers);
      values_are = sym (eights_none value_of values);
    }))

pub room_of : (most : ℕ) (rows counts numbers values : List ℕ) → room_test most (length rows) (length counts) (length numbers) (length values) ≡ true
    → HasRoom most rows counts numbers values
room_of most rows counts numbers values e =
    let d =
    (decides_and (leb (row_len * most) (length rows)) (leb most (length counts) && (leb (8 * most) (length numbers) && leb (8 * most) (length values)))
    (decides_le (row_len * most) (length rows))
    (decides_and (leb most (length counts)) (leb (8 * most) (length numbers) && leb (8 * most) (length values)) (decides_le most (length counts))
    (decides_and (leb (8 * most) (length numbers)) (leb (8 * most) (length values)) (decides_le (8 * most) (length numbers)) (decides_le (8 * most) (length values))))
    ).yes e in
    record { row = d.0; count = d.1.0; number = d.1.1.0; value = d.1.1.1 }
