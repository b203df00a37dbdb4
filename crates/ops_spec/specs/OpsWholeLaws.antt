-- An operation over admitted files, call after call to the end: the keys that belong, ascending, each with all its values, none left out.
--     item_alike          a call on cards and a call on lanes answer alike, and the cards stand for what is left
--     ItemRuns            calls with a buffer of space bytes hand out items, and then answer "end"
--     whole_items         from cards that stand for ascending lanes
--     end_on              where none belongs: the end, and again
--     whole_ops           from the starts of one to eight admitted files, over held keys and bounds
-- Assumes nothing.
use Prim.{Unit, tt}
use Rattle.std.specs.Prelude.{◌≡◌, refl, Bool, true, false, cond, ◌&&◌, ◌||◌, ◌⊎◌, ℕ, zero, suc, ◌+◌, ◌<◌, ◌≤◌, ltb, leb, length}
use Rattle.std.proofs.Common.{sym, ◌∙◌, ap, ap₂, subst, ⊎_elim, inl, inr, arith, le-leb, lt-ltb}
use mathlib.Core.List.Memᴰ
use mathlib.Core.List.{List, [], ◌∷◌, map, Memᴰ}
use Rattle.format.specs.Limits.{max_path, SPACE, CARDS}
use Rattle.format.specs.Paths.{fst_of, Held}
use Rattle.format.specs.Admitted.{Admitted}
use Rattle.format.specs.Strings.{Between, Rising}
use Rattle.reading.specs.Reading.{bound_bytes}
use Rattle.reading.proofs.RunLaws.{lt_or}
use Rattle.plain.proofs.PlainLaws.{plain_long_bound, plain_short}
use Rattle.reading.specs.Demand.{Entry, entry}
use Rattle.ops_spec.specs.Ops.{Op, used, Card, card_is, Stepped, cards, step_all, Indexed, indexed, Verdict, decide, Merged, by_verdict, after_steps, next_item}
use Rattle.ops_spec.specs.OpsDemand as D
use Rattle.ops_spec.specs.OpsDemand.{Source, Has, HasAt, Sooner, SoonerThanAll, InOrder, AllPairs, Takes}
use Rattle.ops_spec.specs.OpsLists.{Lanes, AllRising, pairs_in, Belongs, past_all, total, Judged, judge, RoundIs, NoneBelongs, Outcome, by_judged, call_to, Answered, Item, item_is, Exact}
use Rattle.ops_spec.specs.OpsListsLaws.{past_all_rising, past_all_length}
use Rattle.ops_spec.specs.OpsRoundLaws.{round}
use Rattle.ops_spec.specs.OpsRunLaws.{call_right, exact_item}
use Rattle.ops_spec.specs.OpsPairsLaws.{HasIn, LanePairs, sooner_trans, pairs_right}
use Rattle.ops_spec.specs.OpsPairsLaws as P
use Rattle.ops_spec.specs.OpsFuelLaws.{rounds_by, rounds_by_lem, next_item_by}
use Rattle.ops_spec.specs.OpsAheadLaws.{Ahead, AheadOf, start_ahead}
use Rattle.ops_spec.specs.OpsCardsLaws.{Stands, to_step, AllStand, no_card, card, AllHold, hold_stand, SteppedTo, steps_stand, Alike, both_this, both_end, both_another, decide_alike}

pub data SameAnswer : Merged → Outcome → Type 0 where
  both_item : {k : List ℕ} {ps : List Indexed} {ds : List Card} {M : Lanes} → AllStand ds M → SameAnswer (Merged.item k ps ds) (Outcome.item k ps M)
  both_ending : {ds : List Card} {M : Lanes} → AllStand ds M → SameAnswer (Merged.ending ds) (Outcome.ending M)

stand_length : (cs : List Card) (L : Lanes) → AllStand cs L → length cs ≡ length L
stand_length _ _ no_card = refl
stand_length _ _ (card {c} {cs} {es} {L} h more) = ap suc (stand_length cs L more)

or_true : (a b : Bool) → (a || (b || true)) ≡ true
or_true true b = refl
or_true false true = refl
or_true false false = refl

module _ (op : Op) (space : ℕ) (room : max_path ≤ space) where
  rounds_alike : (n : ℕ) (before : Bool) (cs : List Card) (L : Lanes) → AllStand cs L → AllRising L → 0 < length L → total L < n
      → SameAnswer (rounds_by op space before cs) (call_to n op L)
  rounds_alike zero before cs L st rising some_lane less = absurd (omega arith)
  rounds_alike (suc n) before cs L st rising some_lane less =
      let w = steps_stand space room cs L st in
      subst (λ (m : Merged). SameAnswer m (call_to (suc n) op L)) (sym (rounds_by_lem op space before cs))
      (subst (λ (o : Stepped). SameAnswer (after_steps op space before (rounds_by op space true) o) (call_to (suc n) op L)) (sym w.is)
      (subst (λ (b : Bool). SameAnswer (cond b (by_verdict w.after (rounds_by op space true) (decide op w.after)) (Merged.refused SPACE)) (call_to (suc n) op L)) (sym (open_way w.now))
      (by w.after w.hold (decide op w.after) (judge op L) (decide_alike op w.after L w.hold) (round op L rising some_lane)
      (λ ds M more up here fewer. rounds_alike n true ds M more up here (omega arith)))))
    where
      open_way : (now : Bool) → (before || (now || leb max_path space)) ≡ true
      open_way now = ap (λ (b : Bool). before || (now || b)) (le-leb max_path space room) ∙ or_true before now

      by : (ds : List Card) → AllHold ds L → (v : Verdict) (j : Judged) → Alike v j → RoundIs op L j
          → ((es : List Card) (M : Lanes) → AllStand es M → AllRising M → 0 < length M → total M < total L → SameAnswer (rounds_by op space true es) (call_to n op M))
          → SameAnswer (by_verdict ds (rounds_by op space true) v) (by_judged L (call_to n op) j)
      by ds h _ _ (both_this more) r again = both_item more
      by ds h _ _ both_end r again = both_ending (hold_stand ds L h)
      by ds h _ _ (both_another {ds = es} {M = M} more) r again =
          let len : length M ≡ length L = r.2 in
          again es M more r.1 (omega arith) r.3

  pub item_alike : (cs : List Card) (L : Lanes) → AllStand cs L → AllRising L → 0 < length L → length L ≤ 8 → SameAnswer (next_item op cs space) (call_to (suc (total L)) op L)
  item_alike cs L st rising some_lane few =
      let len = stand_length cs L st in
      let a = lt-ltb 0 (length cs) (omega arith) in
      let b = le-leb (length cs) 8 (omega arith) in
      let both : (ltb 0 (length cs) && leb (length cs) 8) ≡ true = ap₂ ◌&&◌ a b in
      let is : next_item op cs space ≡ rounds_by op space false cs =
      next_item_by op cs space
      ∙ ap (λ (x : Bool). cond x (after_steps op space false (rounds_by op space true) (step_all space cs)) (Merged.refused CARDS)) both
      ∙ sym (rounds_by_lem op space false cs) in
      subst (λ (m : Merged). SameAnswer m (call_to (suc (total L)) op L)) (sym is) (rounds_alike (suc (total L)) false cs L st rising some_lane (omega arith))

-- ---- to the end

pub data ItemRuns (op : Op) (space : ℕ) : List Card → List Item → List Card → Type 0 where
  runs_end : {cs ds : List Card} → next_item op cs space ≡ Merged.ending ds → ItemRuns op space cs [] ds
  runs_item : {cs cs₁ ds : List Card} {is : List Item} (x : Item) → next_item op cs space ≡ Merged.item x.key x.pairs cs₁ → ItemRuns op space cs₁ is ds
      → ItemRuns op space cs (x ∷ is) ds

pub record WholeItems (op : Op) (space : ℕ) (cs : List Card) (L : Lanes) : Type 0 where
  pub items : List Item
  pub last : List Card
  pub runs : ItemRuns op space cs items last
  pub exact : Exact op L items

module _ (op : Op) (space : ℕ) (room : max_path ≤ space) where
  run_cards : (n : ℕ) (cs : List Card) (L : Lanes) → total L < n → AllStand cs L → AllRising L → 0 < length L → length L ≤ 8 → WholeItems op space cs L
  run_cards zero cs L less st rising some_lane few = absurd (omega arith)
  run_cards (suc n) cs L less st rising some_lane few =
      by (next_item op cs space) refl (call_to (suc (total L)) op L) (item_alike op space room cs L st rising some_lane few) (call_right (suc (total L)) op L (omega arith) rising some_lane)
      (λ ds M fewer more up here small. run_cards n ds M (omega arith) more up here small)
    where
      by : (a : Merged) → next_item op cs space ≡ a → (o : Outcome) → SameAnswer a o → Answered op L o
          → ((ds : List Card) (M : Lanes) → total M < total L → AllStand ds M → AllRising M → 0 < length M → length M ≤ 8 → WholeItems op space ds M)
          → WholeItems op space cs L
      by _ e _ (both_item {k} {ps} {ds} {M} more) r again =
          let len : length M ≡ length L = ap (λ (N : Lanes). length N) r.1 ∙ past_all_length k L in
          let up : AllRising M = subst AllRising (sym r.1) (past_all_rising k L rising) in
          let w = again ds M r.2 more up (omega arith) (omega arith) in
          record {
            items = item_is k ps ∷ w.items;
            last = w.last;
            runs = runs_item (item_is k ps) e w.runs;
            exact = exact_item op L rising some_lane k ps r.0 w.items (subst (λ (N : Lanes). Exact op N w.items) r.1 w.exact);
          }
      by _ e _ (both_ending {ds} more) r again =
          record { items = []; last = ds; runs = runs_end e; exact = record { ascending = tt; such = λ x m. absurd (Memᴰ.not-nil m); all = λ k ps b. absurd (r.0 k ps b) } }

  pub whole_items : (cs : List Card) (L : Lanes) → AllStand cs L → AllRising L → 0 < length L → length L ≤ 8 → WholeItems op space cs L
  whole_items cs L st rising some_lane few = run_cards (suc (total L)) cs L (omega arith) st rising some_lane few

-- where none belongs a call answers the end, and so does the next
pub record EndsOn (op : Op) (space : ℕ) (cs : List Card) (L : Lanes) : Type 0 where
  pub after : List Card
  pub lanes : Lanes
  pub is : next_item op cs space ≡ Merged.ending after
  pub stand : AllStand after lanes
  pub rising : AllRising lanes
  pub same_length : length lanes ≡ length L
  pub none_belongs : NoneBelongs op lanes

pub end_on : (op : Op) (space : ℕ) → max_path ≤ space → (cs : List Card) (L : Lanes) → AllStand cs L → AllRising L → 0 < length L → length L ≤ 8 → NoneBelongs op L → EndsOn op space cs L
end_on op space room cs L st rising some_lane few none =
    by (next_item op cs space) refl (call_to (suc (total L)) op L) (item_alike op space room cs L st rising some_lane few) (call_right (suc (total L)) op L (omega arith) rising some_lane)
  where
    by : (a : Merged) → next_item op cs space ≡ a → (o : Outcome) → SameAnswer a o → Answered op L o → EndsOn op space cs L
    by _ e _ (both_item {k = k} {ps = ps} more) r = absurd (none k ps r.0.belongs)
    by _ e _ (both_ending {ds} {M} more) r = record { after = ds; lanes = M; is = e; stand = more; rising = r.2; same_length = r.3; none_belongs = r.1 }

-- ---- values in order are determined

sooner_irrefl : (x : Indexed) → ¬ Sooner x x
sooner_irrefl x (inl a) = omega arith
sooner_irrefl x (inr a) = omega (arith, a.1)

sooner_mem : (x z : Indexed) (ps : List Indexed) → SoonerThanAll x ps → Memᴰ z ps → Sooner x z
sooner_mem x z [] a m = absurd (Memᴰ.not-nil m)
sooner_mem x z (y ∷ ps) a m = ⊎_elim (λ (e : z ≡ y). subst (Sooner x) (sym e) a.0) (λ n. sooner_mem x z ps a.1 n) (Memᴰ.cases_cons m)

-- a later one of x ∷ ps that stands in x ∷ qs stands in qs
mem_later : (x z : Indexed) (ps qs : List Indexed) → SoonerThanAll x ps → Memᴰ z ps → Memᴰ z (x ∷ qs) → Memᴰ z qs
mem_later x z ps qs a m n = ⊎_elim (λ (e : z ≡ x). absurd (sooner_irrefl x (subst (Sooner x) e (sooner_mem x z ps a m)))) (λ q. q) (Memᴰ.cases_cons n)

pub in_order_unique : (ps qs : List Indexed) → InOrder ps → InOrder qs → ((z : Indexed) → Memᴰ z ps → Memᴰ z qs)
    → ((z : Indexed) → Memᴰ z qs → Memᴰ z ps) → ps ≡ qs
in_order_unique [] [] a b to from = refl
in_order_unique [] (y ∷ qs) a b to from = absurd (Memᴰ.not-nil (from y (Memᴰ.head refl)))
in_order_unique (x ∷ ps) [] a b to from = absurd (Memᴰ.not-nil (to x (Memᴰ.head refl)))
in_order_unique (x ∷ ps) (y ∷ qs) a b to from =
    let same : x ≡ y =
    ⊎_elim (λ (e : x ≡ y). e)
    (λ m. ⊎_elim (λ (e : y ≡ x). sym e) (λ n. absurd (sooner_irrefl x (sooner_trans x y x (sooner_mem x y ps a.0 n) (sooner_mem y x qs b.0 m)))) (Memᴰ.cases_cons (from y (Memᴰ.head refl))))
    (Memᴰ.cases_cons (to x (Memᴰ.head refl))) in
    ap₂ ◌∷◌ same
    (in_order_unique ps qs a.1 b.1
    (λ z m. mem_later x z ps qs a.0 m (subst (λ (w : Indexed). Memᴰ z (w ∷ qs)) (sym same) (to z (Memᴰ.tail m))))
    (λ z m. mem_later y z qs ps b.0 m (subst (λ (w : Indexed). Memᴰ z (w ∷ ps)) same (from z (Memᴰ.tail m)))))

-- ---- the files of an operation

not_long : (c : Source) → ¬ ((max_path < length (bound_bytes c.lower)) ⊎ (max_path < length (bound_bytes c.upper)))
not_long c h =
    let a = plain_long_bound c.admitted c.lower c.upper c.table h in
    let b = c.starts in
    let z : ◌≡◌ {A = ℕ} 0 1 = cc in
    omega arith

lower_short : (c : Source) → length (bound_bytes c.lower) ≤ max_path
lower_short c = ⊎_elim (λ (h : max_path < length (bound_bytes c.lower)). absurd (not_long c (inl h))) (λ h. h) (lt_or max_path (length (bound_bytes c.lower)))

upper_short : (c : Source) → length (bound_bytes c.upper) ≤ max_path
upper_short c = ⊎_elim (λ (h : max_path < length (bound_bytes c.upper)). absurd (not_long c (inr h))) (λ h. h) (lt_or max_path (length (bound_bytes c.upper)))

table_long : (c : Source) → length c.file ≤ length c.table
table_long c = ⊎_elim (λ (h : length c.table < length c.file). absurd (not_short h)) (λ h. h) (lt_or (length c.table) (length c.file))
  where
    not_short : ¬ (length c.table < length c.file)
    not_short h =
        let a = plain_short c.admitted c.lower c.upper (lower_short c) (upper_short c) c.table h in
        let b = c.starts in
        let z : ◌≡◌ {A = ℕ} 0 1 = cc in
        omega arith

pub ahead_of : (c : Source) → AheadOf c.admitted c.lower c.upper c.reading
ahead_of c =
    start_ahead c.admitted c.lower c.upper (lower_short c) (upper_short c) c.table (table_long c) c.fits c.reading c.starts

-- what begin makes
abbrev pub cards_of : List Source → List Card
cards_of [] = []
cards_of (c ∷ cs) = card_is c.file c.reading used ∷ cards_of cs

abbrev pub lanes_of : List Source → Lanes
lanes_of [] = []
lanes_of (c ∷ cs) = (ahead_of c).entries ∷ lanes_of cs

all_stand : (cs : List Source) → AllStand (cards_of cs) (lanes_of cs)
all_stand [] = no_card
all_stand (c ∷ cs) = card (to_step refl (ahead_of c).ahead) (all_stand cs)

all_rising : (cs : List Source) → AllRising (lanes_of cs)
all_rising [] = tt
all_rising (c ∷ cs) = ((ahead_of c).ascending, all_rising cs)

lanes_length : (cs : List Source) → length (lanes_of cs) ≡ length cs
lanes_length [] = refl
lanes_length (c ∷ cs) = ap suc (lanes_length cs)

has_in : (cs : List Source) (i : ℕ) (k : List ℕ) (v : ℕ) → HasAt cs i k v → HasIn (lanes_of cs) i k v
has_in _ _ k v (D.first {c} h) = P.first ((ahead_of c).none_left k v h.held h.between)
has_in _ _ k v (D.further {c} {cs} {i = i} h) = P.further (has_in cs i k v h)

no_lane : {L : Lanes} {i : ℕ} {k : List ℕ} {v : ℕ} → HasIn L i k v → ¬ (L ≡ [])
no_lane (P.first m) e = let z : ◌≡◌ {A = ℕ} 0 1 = cc in omega arith
no_lane (P.further h) e = let z : ◌≡◌ {A = ℕ} 0 1 = cc in omega arith

has_cases : {es : List Entry} {L : Lanes} {i : ℕ} {k : List ℕ} {v : ℕ} → HasIn (es ∷ L) i k v
    → ((i ≡ 0) × Memᴰ (entry k v) es) ⊎ ((j : ℕ) × (i ≡ suc j) × HasIn L j k v)
has_cases (P.first m) = inl (refl, m)
has_cases (P.further {i = j} h) = inr (j, refl, h)

in_has : (cs : List Source) (i : ℕ) (k : List ℕ) (v : ℕ) → HasIn (lanes_of cs) i k v → HasAt cs i k v
in_has [] i k v h = absurd (no_lane h refl)
in_has (c ∷ cs) i k v h =
    ⊎_elim
    (λ w.
    let q = (ahead_of c).held (entry k v) w.1 in
    subst (λ (j : ℕ). HasAt (c ∷ cs) j k v) (sym w.0) (D.first (record { held = q.0; between = q.1 })))
    (λ w. subst (λ (j : ℕ). HasAt (c ∷ cs) j k v) (sym w.1) (D.further (in_has cs w.0 k v w.2)))
    (has_cases h)

pub all_pairs : (cs : List Source) (k : List ℕ) → AllPairs cs k (pairs_in 0 k (lanes_of cs))
all_pairs cs k =
    let w = pairs_right k (lanes_of cs) (all_rising cs) in
    record { in_order = w.in_order; such = λ x m. in_has cs x.index k x.value (w.such x m); all = λ i v h. w.all i v (has_in cs i k v h) }

pub all_pairs_unique : (cs : List Source) (k : List ℕ) (ps qs : List Indexed) → AllPairs cs k ps → AllPairs cs k qs → ps ≡ qs
all_pairs_unique cs k ps qs a b =
    in_order_unique ps qs a.in_order b.in_order (λ z m. b.all z.index z.value (a.such z m)) (λ z m. a.all z.index z.value (b.such z m))

pub record WholeOps (op : Op) (cs : List Source) (space : ℕ) : Type 0 where
  pub items : List Item
  pub last : List Card
  pub runs : ItemRuns op space (cards_of cs) items last
  pub ascending : Rising (map (λ (x : Item). x.key) items)
  pub such : (x : Item) → Memᴰ x items → D.Belongs op cs x.key x.pairs
  pub all : (k : List ℕ) (ps : List Indexed) → D.Belongs op cs k ps → Memᴰ (item_is k ps) items

pub whole_ops : (op : Op) (cs : List Source) (space : ℕ) → max_path ≤ space → 0 < length cs → length cs ≤ 8 → WholeOps op cs space
whole_ops op cs space room some_file few =
    let len : length (lanes_of cs) ≡ length cs = lanes_length cs in
    let w = whole_items op space room (cards_of cs) (lanes_of cs) (all_stand cs) (all_rising cs) (omega arith) (omega arith) in
    record {
      items = w.items;
      last = w.last;
      runs = w.runs;
      ascending = w.exact.ascending;
      such = λ x m.
          let b = w.exact.such x m in
          record {
            pairs = subst (λ (ps : List Indexed). AllPairs cs x.key ps) b.pairs (all_pairs cs x.key);
            takes = subst (λ (n : ℕ). Takes op n x.pairs) len b.takes;
          };
      all = λ k ps b.
          w.exact.all k ps
          (record { pairs = all_pairs_unique cs k (pairs_in 0 k (lanes_of cs)) ps (all_pairs cs k) b.pairs; takes = subst (λ (n : ℕ). Takes op n ps) (sym len) b.takes });
    }
