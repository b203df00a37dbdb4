-- A reading that starts with 2^64 - 1 as its number of keys to come, against the one that a table of keys gave: it hands out the same keys.
--     ahead_wide       a larger number of keys to come changes no key that is handed out
--     number_fits      the number that a start works out is at most 2^64 - 1
--     wide_cards cs     the cards of the sources' readings with that number
--     starts_are       they are what `start_all` gives
--     wide_stand       they stand for the same lanes
-- Assumes nothing.
use Prim.{tt}
use Rattle.std.specs.Prelude.{◌≡◌, refl, Bool, true, false, cond, ◌&&◌, List, [], ◌∷◌, ℕ, suc, ◌-◌, ◌≤◌, ◌<◌, leb, eqb, length}
use Rattle.std.proofs.Common.{sym, ap, ap₂, ◌∙◌, subst, arith, leb-true, ne_eqb, eqb-true}
use Rattle.format.specs.declared.Refusal.{Refusal}
use Rattle.format.specs.Limits.{max_path, max_sum, SPACE, BOUND, COUNT, STATE}
use Rattle.format.specs.Opening.{Meta, Opening, opened, opening}
use Rattle.format.specs.Opening as Opening
use Rattle.format.specs.Paths.{fst_of}
use Rattle.format.specs.Strings.{Bound}
use Rattle.reading.specs.Reading.{on_opened, bounds_test, View, Started, started, start, Answer, key, end, next}
use Rattle.reading.specs.Demand.{Entry, hand_out}
use Rattle.plain.specs.Numbers.{Tally, comes_to, less, none_read, within, below_lower, number}
use Rattle.plain.specs.Numbers as Numbers
use Rattle.plain.specs.Plain.{Plain, plain_with, Begun, begun, then_number, start_plain, PlainStep, counting, next_plain}
use Rattle.plain.proofs.PlainRunLaws.{plain_started}
use Rattle.ops_spec.specs.Ops.{Card}
use Rattle.ops_spec.specs.OpsDemand.{Source}
use Rattle.ops_spec.specs.OpsAheadLaws.{Ahead, ahead_end, ahead_key}
use Rattle.ops_spec.specs.OpsCardsLaws.{to_step, AllStand, no_card, card}
use Rattle.ops_spec.specs.OpsWholeLaws.{ahead_of, lanes_of}
use Rattle.ops_paging.specs.ItemPaging.{Starts, cards, wide_card, with_start, start_all}
use Rattle.ops_paging.specs.ItemsExact.{SameBounds, files_of}

-- ---- one call

abbrev step_is : Answer → Plain → PlainStep
step_is a p = record { answer = a; reading = p }

record WideKey (n : ℕ) (p p' : Plain) (r : View) (a : Answer) (e : Entry) : Type 0 where
  step : counting (plain_with p.view n) r a ≡ step_is (hand_out e) (plain_with p'.view (n - 1))
  fewer : p'.keys ≤ n - 1

wide_key : (n : ℕ) (p p' : Plain) (r : View) (a : Answer) (e : Entry) → p.keys ≤ n → counting p r a ≡ step_is (hand_out e) p' → WideKey n p p' r a e
wide_key n p p' r (key k v) e fits is = by (eqb p.keys 0) refl
  where
    by : (b : Bool) → eqb p.keys 0 ≡ b → WideKey n p p' r (key k v) e
    by true z =
        let q : step_is (Answer.refused STATE) p ≡ step_is (hand_out e) p' = rw z at is in
        let w : Answer.refused STATE ≡ hand_out e = ap (λ (o : PlainStep). o.answer) q in
        let zero_one : ◌≡◌ {A = ℕ} 0 1 = cc in
        absurd (omega arith)
    by false z =
        let q : step_is (key k v) (plain_with r (p.keys - 1)) ≡ step_is (hand_out e) p' = rw z at is in
        let same : plain_with r (p.keys - 1) ≡ p' = ap (λ (o : PlainStep). o.reading) q in
        let some : ¬ (n ≡ 0) =
        λ h.
        let none : p.keys ≡ 0 = omega arith in
        let y : eqb p.keys 0 ≡ true = ap (λ (m : ℕ). eqb m 0) none in
        let zero_one : ◌≡◌ {A = ℕ} 0 1 = cc in
        omega arith in
        record {
          step =
              ap (λ (b : Bool). cond b (step_is (Answer.refused STATE) (plain_with p.view n)) (step_is (key k v) (plain_with r (n - 1)))) (ne_eqb n 0 some)
              ∙ ap₂ (λ (b : Answer) (x : View). step_is b (plain_with x (n - 1))) (ap (λ (o : PlainStep). o.answer) q) (ap (λ (x : Plain). x.view) same);
          fewer = let m : p.keys - 1 ≡ p'.keys = ap (λ (x : Plain). x.keys) same in omega arith;
        }
wide_key n p p' r end e fits is =
    let w : end ≡ hand_out e = ap (λ (o : PlainStep). o.answer) is in
    let zero_one : ◌≡◌ {A = ℕ} 0 1 = cc in
    absurd (omega arith)
wide_key n p p' r (Answer.refused c) e fits is =
    let w : Answer.refused c ≡ hand_out e = ap (λ (o : PlainStep). o.answer) is in
    let zero_one : ◌≡◌ {A = ℕ} 0 1 = cc in
    absurd (omega arith)

wide_end : (n : ℕ) (p p' : Plain) (r : View) (a : Answer) → counting p r a ≡ step_is end p' → counting (plain_with p.view n) r a ≡ step_is end (plain_with r n)
wide_end n p p' r (key k v) is = by (eqb p.keys 0) refl
  where
    by : (b : Bool) → eqb p.keys 0 ≡ b → counting (plain_with p.view n) r (key k v) ≡ step_is end (plain_with r n)
    by true z =
        let q : step_is (Answer.refused STATE) p ≡ step_is end p' = rw z at is in
        let w : Answer.refused STATE ≡ end = ap (λ (o : PlainStep). o.answer) q in
        let zero_one : ◌≡◌ {A = ℕ} 0 1 = cc in
        absurd (omega arith)
    by false z =
        let q : step_is (key k v) (plain_with r (p.keys - 1)) ≡ step_is end p' = rw z at is in
        let w : key k v ≡ end = ap (λ (o : PlainStep). o.answer) q in
        let zero_one : ◌≡◌ {A = ℕ} 0 1 = cc in
        absurd (omega arith)
wide_end n p p' r end is = refl
wide_end n p p' r (Answer.refused c) is =
    let w : Answer.refused c ≡ end = ap (λ (o : PlainStep). o.answer) is in
    let zero_one : ◌≡◌ {A = ℕ} 0 1 = cc in
    absurd (omega arith)

-- ---- a run of calls

pub ahead_wide : (s : List ℕ) (p : Plain) (es : List Entry) (n : ℕ) → p.keys ≤ n → Ahead s p es → Ahead s (plain_with p.view n) es
ahead_wide s p _ n fits (ahead_end p' is) =
    ahead_end (plain_with (next s p.view max_path).reading n) (wide_end n p p' (next s p.view max_path).reading (next s p.view max_path).answer is)
ahead_wide s p _ n fits (ahead_key {es = es} e p' is right few rest) =
    let w = wide_key n p p' (next s p.view max_path).reading (next s p.view max_path).answer e fits is in
    ahead_key e (plain_with p'.view (n - 1)) w.step right few (ahead_wide s p' es (n - 1) w.fewer rest)

-- ---- the number that a start works out

abbrev Fits : Tally → Type 0
Fits (comes_to n) = n ≤ max_sum
Fits (Numbers.refused n) = ℕ

less_fits : (a b : Tally) → Fits (less a b)
less_fits (Numbers.refused n) b = 0
less_fits (comes_to w) (Numbers.refused n) = 0
less_fits (comes_to w) (comes_to b) = by (leb w max_sum) refl (leb b max_sum && leb b w)
  where
    by : (x : Bool) → leb w max_sum ≡ x → (y : Bool) → Fits (cond (x && y) (comes_to (w - b)) (Numbers.refused COUNT))
    by true e true = let h : w ≤ max_sum = leb-true w max_sum e in omega arith
    by true e false = 0
    by false e y = 0

number_tally : (f : _) (c : List ℕ) (lo hi : Bound) → Fits (number f c lo hi)
unfolding number
number_tally f c lo hi = by (none_read f lo hi)
  where
    by : (b : Bool) → Fits (cond b (comes_to 0) (less (within f c hi) (below_lower f c lo)))
    by true = omega arith
    by false = less_fits (within f c hi) (below_lower f c lo)

pub number_fits : (s : List ℕ) (lo hi : Bound) (c : List ℕ) (p : Plain) → start_plain s lo hi c ≡ begun p → p.keys ≤ max_sum
unfolding start_plain
number_fits s lo hi c p e = opens (opening s) e
  where
    refused_not_begun : {n : Refusal} {q : Plain} → ¬ (Begun.refused n ≡ begun q)
    refused_not_begun e = let z : ◌≡◌ {A = ℕ} 0 1 = cc in omega arith

    numbered : (w : Started) (t : Tally) → Fits t → then_number w t ≡ begun p → p.keys ≤ max_sum
    numbered (started r) (comes_to n) fits q = let same : n ≡ p.keys = cc in omega arith
    numbered (started r) (Numbers.refused n) fits q = absurd (refused_not_begun q)
    numbered (Started.refused n) t fits q = absurd (refused_not_begun q)

    tests : (b d : Bool) (w : Begun) → cond b (cond d w (Begun.refused SPACE)) (Begun.refused BOUND) ≡ begun p → w ≡ begun p
    tests true true w q = q
    tests true false w q = absurd (refused_not_begun q)
    tests false d w q = absurd (refused_not_begun q)

    opens : (o : Opening)
        → on_opened o
        (λ m. cond (bounds_test lo hi) (cond (leb (length s) (length c)) (then_number (start s lo hi) (number (fst_of s m) c lo hi)) (Begun.refused SPACE)) (Begun.refused BOUND))
        (λ n. Begun.refused n)
        ≡ begun p
        → p.keys ≤ max_sum
    opens (opened m) q =
        numbered (start s lo hi) (number (fst_of s m) c lo hi) (number_tally (fst_of s m) c lo hi)
        (tests (bounds_test lo hi) (leb (length s) (length c)) (then_number (start s lo hi) (number (fst_of s m) c lo hi)) q)
    opens (Opening.refused n) q = absurd (refused_not_begun q)

-- ---- the cards

abbrev pub wide_cards : List Source → List Card
wide_cards [] = []
wide_cards (c ∷ cs) = wide_card c.file c.reading.view ∷ wide_cards cs

pub starts_are : (lo hi : Bound) (cs : List Source) → SameBounds lo hi cs → start_all lo hi (files_of cs) ≡ cards (wide_cards cs)
unfolding start_all
starts_are lo hi [] same = refl
starts_are lo hi (c ∷ cs) same =
    let one : start c.file lo hi ≡ started c.reading.view =
    ap₂ (start c.file) (sym same.0) (sym same.1) ∙ plain_started c.file c.lower c.upper c.table c.reading c.starts in
    ap₂ (with_start c.file) one (starts_are lo hi cs same.2)

pub wide_stand : (cs : List Source) → AllStand (wide_cards cs) (lanes_of cs)
wide_stand [] = no_card
wide_stand (c ∷ cs) =
    card
    (to_step refl
    (ahead_wide c.file c.reading (ahead_of c).entries max_sum (number_fits c.file c.lower c.upper c.table c.reading c.starts) (ahead_of c).ahead))
    (wide_stand cs)
