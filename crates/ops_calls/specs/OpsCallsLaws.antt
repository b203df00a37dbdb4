-- `ops_exact`: an operation over one to eight admitted files, for every list of calls.
--     lend_like, like_same     the cards of a call; with the right files they are the right cards
--     CallsRun, run            a list of calls from cards that stand for ascending lanes
--     ops_exact                from the starts of one to eight admitted files, over held keys and bounds
-- Assumes nothing.
use Prim.{tt}
use Rattle.std.specs.Prelude.{◌≡◌, refl, ◌⊎◌, ℕ, zero, suc, ◌+◌, ◌<◌, ◌≤◌, length, take, replicate}
use Rattle.std.proofs.Common.{sym, ap, ap₂, ◌∙◌, subst, ⊎_elim, inl, inr, arith}
use mathlib.Core.List.Memᴰ
use mathlib.Core.List.{List, [], ◌∷◌, ◌++◌, map, Memᴰ}
use Rattle.std.proofs.Math.Seq.{take-nil}
use Rattle.format.specs.declared.Refusal.{Refusal}
use Rattle.format.specs.Limits.{max_path}
use Rattle.reading.specs.Reading.{Answer, key, end}
use Rattle.reading.proofs.RunLaws.{lt_or}
use Rattle.reading.specs.Demand.{Entry, hand_out}
use Rattle.plain.specs.Plain.{Plain, PlainStep, next_plain}
use Rattle.ops_spec.specs.Ops as O
use Rattle.ops_spec.specs.Ops.{Op, used, Card, card_is, Indexed, Merged, next_item}
use Rattle.ops_spec.specs.OpsDemand as D
use Rattle.ops_spec.specs.OpsDemand.{Source, AllPairs, Takes}
use Rattle.ops_spec.specs.OpsLists.{Lanes, AllRising, pairs_in, past_all, total, NoneBelongs, Outcome, call_to, Answered, Item, item_is, Exact}
use Rattle.ops_spec.specs.OpsListsLaws.{past_all_rising, past_all_length}
use Rattle.ops_spec.specs.OpsRunLaws.{call_right, exact_item}
use Rattle.ops_spec.specs.OpsAheadLaws.{Ahead, ahead_end, ahead_key}
use Rattle.ops_spec.specs.OpsCardsLaws as A
use Rattle.ops_spec.specs.OpsCardsLaws.{AllStand, to_step}
use Rattle.ops_spec.specs.OpsWholeLaws.{SameAnswer, both_item, both_ending, item_alike, whole_items, cards_of, lanes_of, ahead_of, all_pairs, all_pairs_unique}
use Rattle.ops_spec.specs.OpsShortLaws.{item_short}
use Rattle.ops_calls.specs.OpsCalls as C
use Rattle.ops_calls.specs.OpsCalls.{Lent, no_file, one_file, OpsCall, files_of, AllowedCall, lend, Told, step_by, call_item, cards_after, answers_of, unrefused_first, unrefused_of, told_item, OpsExact}
use Rattle.ops_calls.specs.OpsLikeLaws.{other_refused, Like, no_card, card, SameOr, or_refused, same_item, same_ending, item_like}

-- ---- the cards of a call

pub lend_like : (S : List Source) (cs ds : List Card) (fs : List (List ℕ)) → Like (files_of S) cs ds → Lent S fs → Like (files_of S) cs (lend fs ds)
lend_like [] _ _ _ no_card no_file = no_card
lend_like (o ∷ S) _ _ _ (card {c = c} {d = d} {cs = cs} {ds = ds} at fit r s f more) (one_file {f = g} {fs = fs} which lent) =
    card at fit r s
    (⊎_elim (λ (e : g ≡ o.file). inl (e ∙ sym at)) (λ (ne : ¬ (length g ≡ length o.file)). inr (λ z. ne (z ∙ ap (λ (x : List ℕ). length x) at))) which)
    (lend_like S cs ds fs more lent)

pub like_same : (S : List Source) (cs ds : List Card) → Like (files_of S) cs ds → lend (files_of S) ds ≡ cs
like_same [] _ _ no_card = refl
like_same (o ∷ S) _ _ (card {c = c} {d = d} {cs = cs} {ds = ds} at fit r s f more) =
    let one : card_is o.file d.reading d.slot ≡ c = ap₂ (λ (p : Plain) (x : O.Slot). card_is o.file p x) (sym r) (sym s) ∙ ap (λ (g : List ℕ). card_is g c.reading c.slot) (sym at) in
    ap₂ ◌∷◌ one (like_same S cs ds more)

-- ---- a list of calls

pub record CallsRun (op : Op) (S : List Source) (ds : List Card) (L : Lanes) (calls : List (OpsCall S)) : Type 0 where
  pub items : List Item
  pub exact : Exact op L items
  pub handed : ℕ
  pub ends : ℕ
  pub within : handed ≤ length items
  pub one_a_call : unrefused_of (answers_of op ds calls) ≡ map told_item (take handed items) ++ replicate ends C.end
  pub end_exactly : 0 < ends → handed ≡ length items
  -- the cards with the right files, and what they stand for
  pub right : List Card
  pub lanes : Lanes
  pub like : Like (files_of S) right (cards_after op ds calls)
  pub stand : AllStand right lanes
  pub rising : AllRising lanes
  pub same_length : length lanes ≡ length L

none_items : (op : Op) (M : Lanes) (is : List Item) → NoneBelongs op M → Exact op M is → is ≡ []
none_items op M [] none e = refl
none_items op M (x ∷ is) none e = absurd (none x.key x.pairs (e.such x (Memᴰ.head refl)))

module _ (op : Op) (S : List Source) where
  -- one call more
  step : (ds cs : List Card) (L : Lanes) (c : OpsCall S) (calls : List (OpsCall S)) → Like (files_of S) cs ds → AllStand cs L → AllRising L → 0 < length L → length L ≤ 8
      → (m : Merged) → next_item op (lend c.files ds) c.space ≡ m → (a : Merged) (o : Outcome) → SameOr (files_of S) a m → SameAnswer a o → Answered op L o
      → ((es fs : List Card) (M : Lanes) → Like (files_of S) fs es → AllStand fs M → AllRising M → 0 < length M → length M ≤ 8 → CallsRun op S es M calls)
      → CallsRun op S ds L (c ∷ calls)
  step ds cs L c calls like stand rising some few _ e a o (or_refused n) alike r again =
      let w = again ds cs L like stand rising some few in
      record {
        items = w.items;
        exact = w.exact;
        handed = w.handed;
        ends = w.ends;
        within = w.within;
        one_a_call = ap (λ (x : Merged). unrefused_first (step_by ds x).answer (unrefused_of (answers_of op (step_by ds x).cards calls))) e ∙ w.one_a_call;
        end_exactly = w.end_exactly;
        right = w.right;
        lanes = w.lanes;
        like = subst (λ (x : Merged). Like (files_of S) w.right (cards_after op (step_by ds x).cards calls)) (sym e) w.like;
        stand = w.stand;
        rising = w.rising;
        same_length = w.same_length;
      }
  step ds cs L c calls like stand rising some few _ e _ _ (same_item {k = k} {ps = ps} {cs = fs} {ds = es} l) (both_item {M = M} st) r again =
      let len : length M ≡ length L = ap (λ (N : Lanes). length N) r.1 ∙ past_all_length k L in
      let up : AllRising M = subst AllRising (sym r.1) (past_all_rising k L rising) in
      let w = again es fs M l st up (omega arith) (omega arith) in
      record {
        items = item_is k ps ∷ w.items;
        exact = exact_item op L rising some k ps r.0 w.items (subst (λ (N : Lanes). Exact op N w.items) r.1 w.exact);
        handed = suc w.handed;
        ends = w.ends;
        within = omega (arith, w.within);
        one_a_call =
            ap (λ (x : Merged). unrefused_first (step_by ds x).answer (unrefused_of (answers_of op (step_by ds x).cards calls))) e
            ∙ ap (λ (ts : List Told). C.item k ps ∷ ts) w.one_a_call;
        end_exactly = λ h. ap suc (w.end_exactly h);
        right = w.right;
        lanes = w.lanes;
        like = subst (λ (x : Merged). Like (files_of S) w.right (cards_after op (step_by ds x).cards calls)) (sym e) w.like;
        stand = w.stand;
        rising = w.rising;
        same_length = w.same_length ∙ len;
      }
  step ds cs L c calls like stand rising some few _ e _ _ (same_ending {cs = fs} {ds = es} l) (both_ending {M = M} st) r again =
      let len : length M ≡ length L = r.3 in
      let w = again es fs M l st r.2 (omega arith) (omega arith) in
      let none : w.items ≡ [] = none_items op M w.items r.1 w.exact in
      let no_more : map told_item (take w.handed w.items) ≡ [] = ap (λ (is : List Item). map told_item (take w.handed is)) none ∙ ap (map told_item) (take-nil w.handed) in
      record {
        items = [];
        exact = record { ascending = tt; such = λ x m. absurd (Memᴰ.not-nil m); all = λ k ps b. absurd (r.0 k ps b) };
        handed = 0;
        ends = suc w.ends;
        within = omega arith;
        one_a_call =
            ap (λ (x : Merged). unrefused_first (step_by ds x).answer (unrefused_of (answers_of op (step_by ds x).cards calls))) e
            ∙ ap (λ (ts : List Told). C.end ∷ ts) (w.one_a_call ∙ ap (λ (ts : List Told). ts ++ replicate w.ends C.end) no_more);
        end_exactly = λ h. refl;
        right = w.right;
        lanes = w.lanes;
        like = subst (λ (x : Merged). Like (files_of S) w.right (cards_after op (step_by ds x).cards calls)) (sym e) w.like;
        stand = w.stand;
        rising = w.rising;
        same_length = w.same_length ∙ len;
      }

  pub run : (calls : List (OpsCall S)) (ds cs : List Card) (L : Lanes) → Like (files_of S) cs ds → AllStand cs L → AllRising L → 0 < length L → length L ≤ 8
      → CallsRun op S ds L calls
  run [] ds cs L like stand rising some few =
      let w = whole_items op max_path (omega arith) cs L stand rising some few in
      record {
        items = w.items;
        exact = w.exact;
        handed = 0;
        ends = 0;
        within = omega arith;
        one_a_call = refl;
        end_exactly = λ h. absurd (omega arith);
        right = cs;
        lanes = L;
        like = like;
        stand = stand;
        rising = rising;
        same_length = refl;
      }
  run (c ∷ calls) ds cs L like stand rising some few =
      ⊎_elim
      (λ (short : c.space < max_path).
      let w = item_short c.space short op (lend c.files ds) in
      step ds cs L c calls like stand rising some few (Merged.refused w.0) w.1 (next_item op cs max_path) (call_to (suc (total L)) op L) (or_refused w.0)
      (item_alike op max_path (omega arith) cs L stand rising some few) (call_right (suc (total L)) op L (omega arith) rising some) (λ es fs M l st up a b. run calls es fs M l st up a b))
      (λ (room : max_path ≤ c.space).
      step ds cs L c calls like stand rising some few (next_item op (lend c.files ds) c.space) refl (next_item op cs c.space) (call_to (suc (total L)) op L)
      (item_like op c.space (files_of S) cs (lend c.files ds) (lend_like S cs ds c.files like c.lent))
      (item_alike op c.space room cs L stand rising some few) (call_right (suc (total L)) op L (omega arith) rising some) (λ es fs M l st up a b. run calls es fs M l st up a b))
      (lt_or c.space max_path)

-- ---- the starts

eq_or : (a b : ℕ) → (a ≡ b) ⊎ (¬ (a ≡ b))
eq_or a b =
    ⊎_elim (λ (l : a < b). inr (λ z. omega arith))
    (λ (g : b ≤ a). ⊎_elim (λ (l : b < a). inr (λ z. omega arith)) (λ (h : a ≤ b). inl (omega arith)) (lt_or b a)) (lt_or a b)

-- a reading that is not refused has the length of its file
pub ahead_len : (s : List ℕ) (p : Plain) (es : List Entry) → Ahead s p es → p.view.len ≡ length s
ahead_len s p es h = ⊎_elim (λ (e : length s ≡ p.view.len). sym e) (λ (ne : ¬ (length s ≡ p.view.len)). absurd (by es h (other_refused s p max_path ne))) (eq_or (length s) p.view.len)
  where
    by : (es : List Entry) → Ahead s p es → ¬ ((n : Refusal) × ((next_plain s p max_path).answer ≡ Answer.refused n))
    by _ (ahead_end p' e) w = let q = sym (ap (λ (o : PlainStep). o.answer) e) ∙ w.1 in let z : ◌≡◌ {A = ℕ} 0 1 = cc in omega arith
    by _ (ahead_key x p' e k l more) w = let q = sym (ap (λ (o : PlainStep). o.answer) e) ∙ w.1 in let z : ◌≡◌ {A = ℕ} 0 1 = cc in omega arith

starts_like : (S : List Source) → Like (files_of S) (cards_of S) (cards_of S)
starts_like [] = no_card
starts_like (o ∷ S) = card refl (ahead_len o.file o.reading (ahead_of o).entries (ahead_of o).ahead) refl refl (inl refl) (starts_like S)

starts_stand : (S : List Source) → AllStand (cards_of S) (lanes_of S)
starts_stand [] = A.no_card
starts_stand (o ∷ S) = A.card (to_step refl (ahead_of o).ahead) (starts_stand S)

starts_rising : (S : List Source) → AllRising (lanes_of S)
starts_rising [] = tt
starts_rising (o ∷ S) = ((ahead_of o).ascending, starts_rising S)

starts_length : (S : List Source) → length (lanes_of S) ≡ length S
starts_length [] = refl
starts_length (o ∷ S) = ap suc (starts_length S)

-- ---- refusals

not_refused : (m : Merged) (o : Outcome) → SameAnswer m o → (ds : List Card) (n : Refusal) → ¬ ((step_by ds m).answer ≡ C.refused n)
not_refused _ _ (both_item st) ds n e = let z : ◌≡◌ {A = ℕ} 0 1 = cc in omega arith
not_refused _ _ (both_ending st) ds n e = let z : ◌≡◌ {A = ℕ} 0 1 = cc in omega arith

refused_same : (ds : List Card) (m : Merged) (n : Refusal) → (step_by ds m).answer ≡ C.refused n → (step_by ds m).cards ≡ ds
refused_same ds (O.item k ps es) n e = let z : ◌≡◌ {A = ℕ} 0 1 = cc in absurd (omega arith)
refused_same ds (O.ending es) n e = let z : ◌≡◌ {A = ℕ} 0 1 = cc in absurd (omega arith)
refused_same ds (Merged.refused k) n e = refl

-- ---- the claim

module _ (op : Op) (S : List Source) (some_file : 0 < length S) (few : length S ≤ 8) where
  lanes_some : 0 < length (lanes_of S)
  lanes_some = let len = starts_length S in omega arith

  lanes_few : length (lanes_of S) ≤ 8
  lanes_few = let len = starts_length S in omega arith

  from_start : (calls : List (OpsCall S)) → CallsRun op S (cards_of S) (lanes_of S) calls
  from_start calls = run op S calls (cards_of S) (cards_of S) (lanes_of S) (starts_like S) (starts_stand S) (starts_rising S) lanes_some lanes_few

  pub ops_exact : (calls : List (OpsCall S)) → OpsExact op S calls
  ops_exact calls =
      let w = from_start calls in
      let len : length (lanes_of S) ≡ length S = starts_length S in
      record {
        items = w.items;
        ascending = w.exact.ascending;
        such = λ x m.
            let b = w.exact.such x m in
            record {
              pairs = subst (λ (ps : List Indexed). AllPairs S x.key ps) b.pairs (all_pairs S x.key);
              takes = subst (λ (n : ℕ). Takes op n x.pairs) len b.takes;
            };
        all = λ k ps b.
            w.exact.all k ps
            (record { pairs = all_pairs_unique S k (pairs_in 0 k (lanes_of S)) ps (all_pairs S k) b.pairs; takes = subst (λ (n : ℕ). Takes op n ps) (sym len) b.takes });
        handed = w.handed;
        ends = w.ends;
        within = w.within;
        one_a_call = w.one_a_call;
        end_exactly = w.end_exactly;
        allowed = λ pre post c e ok n.
            let v = from_start pre in
            let ds : List Card = cards_after op (cards_of S) pre in
            let same : lend c.files ds ≡ v.right = ap (λ (fs : List (List ℕ)). lend fs ds) ok.same ∙ like_same S v.right ds v.like in
            let Lanes-len = v.same_length in
            subst (λ (x : List Card). ¬ ((step_by ds (next_item op x c.space)).answer ≡ C.refused n)) (sym same)
            (not_refused (next_item op v.right c.space) (call_to (suc (total v.lanes)) op v.lanes)
            (item_alike op c.space ok.room v.right v.lanes v.stand v.rising (omega (arith, lanes_some)) (omega (arith, lanes_few))) ds n);
        short = λ pre post c e low.
            let ds : List Card = cards_after op (cards_of S) pre in
            let v = item_short c.space low op (lend c.files ds) in
            (v.0, ap (λ (m : Merged). (step_by ds m).answer) v.1);
        unchanged = λ pre post c e n q.
            let ds : List Card = cards_after op (cards_of S) pre in
            refused_same ds (next_item op (lend c.files ds) c.space) n q;
      }
