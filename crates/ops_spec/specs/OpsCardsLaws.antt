-- A round of an operation on cards is a round on lanes: each card stands for the list of what its reading has still to hand out.
--     Stands c es, AllStand cs L     the card c stands for es; the cards stand for the lanes, one by one
--     steps_stand                    after the steps every card holds its lane's first entry, or has ended with an empty lane
--     decide_alike                   what a round says of the cards is what it says of the lanes
-- Assumes nothing.
use Prim.{Unit, tt}
use Rattle.std.specs.Prelude.{◌≡◌, refl, Bool, true, false, cond, ◌&&◌, ◌||◌, ◌⊎◌, List, [], ◌∷◌, ℕ, zero, suc, ◌+◌, ◌<◌, ◌≤◌, ltb, leb, length}
use Rattle.std.proofs.Common.{sym, ◌∙◌, ap, ap₂, subst, ⊎_elim, inl, inr, arith, le-leb, lt-ltb}
use Rattle.std.proofs.Math.Option.{Option, none, some}
use Rattle.format.specs.Limits.{max_path, SPACE, STATE, max_levels, CARDS}
use Rattle.format.specs.Strings.{before_test, Rising}
use Rattle.reading.specs.Reading.{key_of, end}
use Rattle.plain.specs.Plain.{PlainStep, next_plain}
use Rattle.reading.specs.Demand.{Entry, entry, hand_out}
use Rattle.ops_spec.specs.Ops.{Op, union, intersection, difference, symmetric, Slot, used, holds, ended, Card, card_is, card_key, Stepped, cards, halted, with_card, by_answer, step_one, step_all, Indexed, indexed, insert, if_holds, lesser, least_key, same_test, pairs_from, use_up, takes_test, Verdict, at_key, at_least, at_first, decide, Merged, by_verdict, after_steps, next_item}
use Rattle.ops_spec.specs.OpsLists.{Lanes, AllRising, least_in, head_pairs, drop_head, drop_heads, total, Judged, judge_at, judge_least, judge_first, judge, RoundIs, Outcome, by_judged, call_to, Answered}
use Rattle.ops_spec.specs.OpsRoundLaws.{round}
use Rattle.ops_spec.specs.OpsRunLaws.{call_right}
use Rattle.ops_spec.specs.OpsFuelLaws.{rounds_by, rounds_by_lem, next_item_by}
use Rattle.ops_spec.specs.OpsAheadLaws.{Ahead, ahead_end, ahead_key, plain_room}

-- a card after the steps
pub data Holding (c : Card) : List Entry → Type 0 where
  holding : {es : List Entry} (v : ℕ) → c.slot ≡ holds v → length c.reading.view.levels ≤ max_levels → Ahead c.file c.reading es → Holding c (entry (card_key c) v ∷ es)
  over : c.slot ≡ ended → Holding c []

pub data Stands (c : Card) (es : List Entry) : Type 0 where
  to_step : c.slot ≡ used → Ahead c.file c.reading es → Stands c es
  stepped : Holding c es → Stands c es

pub data AllStand : List Card → Lanes → Type 0 where
  no_card : AllStand [] []
  card : {c : Card} {cs : List Card} {es : List Entry} {L : Lanes} → Stands c es → AllStand cs L → AllStand (c ∷ cs) (es ∷ L)

pub data AllHold : List Card → Lanes → Type 0 where
  no_held : AllHold [] []
  held : {c : Card} {cs : List Card} {es : List Entry} {L : Lanes} → Holding c es → AllHold cs L → AllHold (c ∷ cs) (es ∷ L)

pub hold_stand : (cs : List Card) (L : Lanes) → AllHold cs L → AllStand cs L
hold_stand _ _ no_held = no_card
hold_stand _ _ (held {c} {cs} {es} {L} h more) = card (stepped h) (hold_stand cs L more)

pub hold_length : (cs : List Card) (L : Lanes) → AllHold cs L → length cs ≡ length L
hold_length _ _ no_held = refl
hold_length _ _ (held {c} {cs} {es} {L} h more) = ap suc (hold_length cs L more)

-- ---- the steps

pub record SteppedTo (o : Stepped) (L : Lanes) : Type 0 where
  pub after : List Card
  pub now : Bool
  pub is : o ≡ cards after now
  pub hold : AllHold after L

with_card_lem : (c : Card) (es : List Entry) (b : Bool) (o : Stepped) (L : Lanes) → Holding c es → SteppedTo o L → SteppedTo (with_card c b o) (es ∷ L)
with_card_lem c es b o L h w = record { after = c ∷ w.after; now = b || w.now; is = ap (with_card c b) w.is; hold = held h w.hold }

module _ (space : ℕ) (room : max_path ≤ space) where
  step_used : (c : Card) (es : List Entry) (o : Stepped) (L : Lanes) → Ahead c.file c.reading es → SteppedTo o L → SteppedTo (step_one space c used o) (es ∷ L)
  step_used c _ o L (ahead_end r' e) w =
      let q : next_plain c.file c.reading space ≡ record { answer = end; reading = r' } = plain_room c.file c.reading space room ∙ e in
      subst (λ (x : PlainStep). SteppedTo (by_answer c.file x.reading x.answer o) ([] ∷ L)) (sym q) (with_card_lem (card_is c.file r' ended) [] true o L (over refl) w)
  step_used c _ o L (ahead_key {es = es} x r' e k len more) w =
      let q : next_plain c.file c.reading space ≡ record { answer = hand_out x; reading = r' } = plain_room c.file c.reading space room ∙ e in
      let d : Card = card_is c.file r' (holds x.value) in
      let h : Holding d (entry (key_of r'.view.levels) x.value ∷ es) = holding x.value refl len more in
      let g : Holding d (x ∷ es) = subst (λ (y : List ℕ). Holding d (entry y x.value ∷ es)) k h in
      subst (λ (y : PlainStep). SteppedTo (by_answer c.file y.reading y.answer o) ((x ∷ es) ∷ L)) (sym q) (with_card_lem d (x ∷ es) true o L g w)

  step_held : (c : Card) (es : List Entry) (o : Stepped) (L : Lanes) → Holding c es → SteppedTo o L → SteppedTo (step_one space c c.slot o) (es ∷ L)
  step_held c _ o L (holding {es} v s len more) w =
      let a = le-leb (length c.reading.view.levels) max_levels len in
      let g = with_card_lem c (entry (card_key c) v ∷ es) false o L (holding v s len more) w in
      subst (λ (x : Slot). SteppedTo (step_one space c x o) ((entry (card_key c) v ∷ es) ∷ L)) (sym s)
      (subst (λ (b : Bool). SteppedTo (cond b (with_card c false o) (halted STATE)) ((entry (card_key c) v ∷ es) ∷ L)) (sym a) g)
  step_held c _ o L (over s) w =
      subst (λ (x : Slot). SteppedTo (step_one space c x o) ([] ∷ L)) (sym s) (with_card_lem c [] false o L (over s) w)

  step_one_lem : (c : Card) (es : List Entry) (o : Stepped) (L : Lanes) → Stands c es → SteppedTo o L → SteppedTo (step_one space c c.slot o) (es ∷ L)
  step_one_lem c es o L (to_step s a) w = subst (λ (x : Slot). SteppedTo (step_one space c x o) (es ∷ L)) (sym s) (step_used c es o L a w)
  step_one_lem c es o L (stepped h) w = step_held c es o L h w

  pub steps_stand : (cs : List Card) (L : Lanes) → AllStand cs L → SteppedTo (step_all space cs) L
  unfolding step_all
  steps_stand _ _ no_card = record { after = []; now = false; is = refl; hold = no_held }
  steps_stand _ _ (card {c} {cs} {es} {L} h more) = step_one_lem c es (step_all space cs) L h (steps_stand cs L more)

-- ---- what a round says

least_alike : (cs : List Card) (L : Lanes) → AllHold cs L → least_key cs ≡ least_in L
unfolding least_key
least_alike _ _ no_held = refl
least_alike _ _ (held {c} {cs} {L = L} (holding v s len a) more) = rw s (ap (lesser (card_key c)) (least_alike cs L more))
least_alike _ _ (held {c} {cs} {L = L} (over s) more) = rw s (least_alike cs L more)

pairs_alike : (i : ℕ) (k : List ℕ) (cs : List Card) (L : Lanes) → AllHold cs L → pairs_from i k cs ≡ head_pairs i k L
unfolding pairs_from
pairs_alike i k _ _ no_held = refl
pairs_alike i k _ _ (held {c} {cs} {L = L} (holding v s len a) more) =
    rw s (ap (λ (ps : List Indexed). cond (same_test (card_key c) k) (insert (indexed v i) ps) ps) (pairs_alike (i + 1) k cs L more))
pairs_alike i k _ _ (held {c} {cs} {L = L} (over s) more) = rw s (pairs_alike (i + 1) k cs L more)

use_stand : (P : List ℕ → Bool) (cs : List Card) (L : Lanes) → AllHold cs L → AllStand (use_up P cs) (drop_heads P L)
unfolding use_up
use_stand P _ _ no_held = no_card
use_stand P _ _ (held {c} {cs} {L = L} (holding {es} v s len a) more) = card (subst (λ (x : Slot). Stands (if_holds x (λ v. cond (P (card_key c)) (card_is c.file c.reading used) c) c) (drop_head P (entry (card_key c) v ∷ es))) (sym s) (by (P (card_key c)))) (use_stand P cs L more)
  where
    by : (b : Bool) → Stands (cond b (card_is c.file c.reading used) c) (cond b es (entry (card_key c) v ∷ es))
    by true = to_step refl a
    by false = stepped (holding v s len a)
use_stand P _ _ (held {c} {cs} {L = L} (over s) more) =
    card (subst (λ (x : Slot). Stands (if_holds x (λ v. cond (P (card_key c)) (card_is c.file c.reading used) c) c) []) (sym s) (stepped (over s))) (use_stand P cs L more)

pub data Alike : Verdict → Judged → Type 0 where
  both_this : {k : List ℕ} {ps : List Indexed} {ds : List Card} {M : Lanes} → AllStand ds M → Alike (Verdict.this k ps ds) (Judged.this k ps M)
  both_end : Alike Verdict.no_more Judged.no_more
  both_another : {ds : List Card} {M : Lanes} → AllStand ds M → Alike (Verdict.another ds) (Judged.another M)

module _ (cs : List Card) (L : Lanes) (h : AllHold cs L) where
  at_alike : (op : Op) (k : List ℕ) → Alike (at_key op k cs) (judge_at op k L)
  at_alike op k =
      subst (λ (ps : List Indexed). Alike (cond (takes_test op (length cs) ps) (Verdict.this k ps U) (Verdict.another U)) (judge_at op k L)) (sym (pairs_alike 0 k cs L h))
      (subst (λ (n : ℕ). Alike (cond (takes_test op n (head_pairs 0 k L)) (Verdict.this k (head_pairs 0 k L) U) (Verdict.another U)) (judge_at op k L)) (sym (hold_length cs L h))
      (by (takes_test op (length L) (head_pairs 0 k L))))
    where
      U : List Card
      U = use_up (λ l. same_test l k) cs

      by : (b : Bool)
          → Alike (cond b (Verdict.this k (head_pairs 0 k L) (use_up (λ l. same_test l k) cs)) (Verdict.another (use_up (λ l. same_test l k) cs)))
          (cond b (Judged.this k (head_pairs 0 k L) (drop_heads (λ l. same_test l k) L)) (Judged.another (drop_heads (λ l. same_test l k) L)))
      by true = both_this (use_stand (λ l. same_test l k) cs L h)
      by false = both_another (use_stand (λ l. same_test l k) cs L h)

  least_judged : (op : Op) → Alike (at_least op (least_key cs) cs) (judge_least op (least_in L) L)
  least_judged op = subst (λ (o : Option (List ℕ)). Alike (at_least op o cs) (judge_least op (least_in L) L)) (sym (least_alike cs L h)) (by (least_in L))
    where
      by : (o : Option (List ℕ)) → Alike (at_least op o cs) (judge_least op o L)
      by none = both_end
      by (some k) = at_alike op k

  first_judged : (k : List ℕ) → Alike (at_first k (least_key cs) cs) (judge_first k (least_in L) L)
  first_judged k = subst (λ (o : Option (List ℕ)). Alike (at_first k o cs) (judge_first k (least_in L) L)) (sym (least_alike cs L h)) (by (least_in L))
    where
      two : (b : Bool) → Alike (cond b (Verdict.another (use_up (λ x. before_test x k) cs)) (at_key difference k cs)) (cond b (Judged.another (drop_heads (λ x. before_test x k) L)) (judge_at difference k L))
      two true = both_another (use_stand (λ x. before_test x k) cs L h)
      two false = at_alike difference k

      by : (o : Option (List ℕ)) → Alike (at_first k o cs) (judge_first k o L)
      by none = both_end
      by (some l) = two (before_test l k)

decide_first : (cs : List Card) (L : Lanes) → AllHold cs L → Alike (decide difference cs) (judge difference L)
decide_first _ _ no_held = both_end
decide_first _ _ (held {c} {cs} {L = L} (holding {es} v s len a) more) =
    subst (λ (x : Slot). Alike (if_holds x (λ v. at_first (card_key c) (least_key (c ∷ cs)) (c ∷ cs)) Verdict.no_more) (judge difference ((entry (card_key c) v ∷ es) ∷ L))) (sym s)
    (first_judged (c ∷ cs) ((entry (card_key c) v ∷ es) ∷ L) (held (holding v s len a) more) (card_key c))
decide_first _ _ (held {c} {cs} {L = L} (over s) more) =
    subst (λ (x : Slot). Alike (if_holds x (λ v. at_first (card_key c) (least_key (c ∷ cs)) (c ∷ cs)) Verdict.no_more) (judge difference ([] ∷ L))) (sym s) both_end

pub decide_alike : (op : Op) (cs : List Card) (L : Lanes) → AllHold cs L → Alike (decide op cs) (judge op L)
decide_alike union cs L h = least_judged cs L h union
decide_alike intersection cs L h = least_judged cs L h intersection
decide_alike symmetric cs L h = least_judged cs L h symmetric
decide_alike difference cs L h = decide_first cs L h
