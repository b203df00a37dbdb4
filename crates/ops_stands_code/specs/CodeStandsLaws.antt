-- `code_stands`: where the readings stand that the code's own calls leave.
--     code_left        the cards after a list of calls by the contract of `next_item` are those of the definition, with some files
-- Assumes nothing.
use Rattle.std.specs.Prelude.{◌≡◌, refl, Bool, true, false, ◌&&◌, List, [], ◌∷◌, map, ℕ, zero, suc, ◌<◌, ltb, leb, length, take, Result, Option}
use Rattle.std.proofs.Common.{sym, ap, ◌∙◌, subst, ltb-true}
use Rattle.format.specs.declared.Refusal.{Refusal}
use Rattle.format.specs.Strings.{Before}
use Rattle.plain.specs.Plain as P
use Rattle.ops_spec.specs.Ops as O
use Rattle.ops_spec.specs.OpsDemand.{Source}
use Rattle.ops_spec.specs.OpsWholeLaws.{cards_of}
use Rattle.ops_calls.specs.OpsCalls as C
use Rattle.ops_calls.specs.OpsCalls.{files_of, OpsCall, Told, call_item, cards_after}
use Rattle.stream.specs.Plains.{plain_is}
use Rattle.ops_round.specs.declared.Card.{Card}
use Rattle.ops_round.specs.Cards.{with_files, cards_is}
use Rattle.ops_pairs.specs.Pairs.{pairs_in}
use Rattle.ops_decide.specs.declared.Op.{Op}
use Rattle.ops_decide.specs.Verdicts.{op_is}
use Rattle.ops.specs.declared.Cards.{Cards}
use Rattle.ops.specs.declared.Item.{Item}
use Rattle.ops.specs.declared.Step.{Step}
use Rattle.ops.specs.Merges.{count_test}
use Rattle.ops_code.specs.OpsCodeLaws.{begin_is, begun_is, told_of, CodeCalls, no_call, one_call, code_one}
use Rattle.ops_stands.specs.OpsStands.{AllAt, EndsAt, readings_in}
use Rattle.ops_stands.proofs.OpsStandsLaws.{ops_stands}
use Rattle.ops_stands_code.specs.CodeStands.{last_cards, CodeRun, left_readings, CodeStands}

-- ---- a list of calls

record Left (S : List Source) (op : O.Op) (n : ℕ) (ds : List O.Card) (c : Cards) : Type 0 where
  files : List (List ℕ)
  is : ds ≡ cards_is files n c.cards
  op_same : op_is c.op ≡ op
  count_same : c.count ≡ n

code_left : (S : List Source) (op : O.Op) (n : ℕ) → count_test n ≡ true → {c : Cards} {calls : List (OpsCall S)} {ts : List Told} (run : CodeCalls S c calls ts) (ds : List O.Card)
    → Left S op n ds c → Left S op n (cards_after op ds calls) (last_cards run)
code_left S op n few no_call ds h = h
code_left S op n few (one_call {c = c} call fs buf₀ buf r long files space merged more) ds h =
    let w = code_one S op n few c h.op_same h.count_same h.files ds h.is call fs buf₀ buf r long files space merged in
    code_left S op n few more (call_item op ds call).cards (record { files = w.files; is = w.cards; op_same = w.op_same; count_same = w.count_same })

-- ---- begin

files_all : (S : List Source) → take (length S) (files_of S) ≡ files_of S
files_all [] = refl
files_all (o ∷ S) = ap (λ (fs : List (List ℕ)). o.file ∷ fs) (files_all S)

some_of : (n : ℕ) → count_test n ≡ true → 0 < n
some_of n e = ltb-true 0 n (by (ltb 0 n) (leb n 8) e)
  where
    by : (a b : Bool) → (a && b) ≡ true → a ≡ true
    by true b e = refl
    by false b e = e

-- ---- the readings of the cards

readings_are : (n : ℕ) (fs : List (List ℕ)) (cs : List Card) → readings_in (cards_is fs n cs) ≡ map (λ (d : Card). plain_is d.reading) (take n cs)
unfolding with_files
readings_are zero fs cs = refl
readings_are (suc n) fs [] = refl
readings_are (suc n) [] (c ∷ cs) = ap (λ (ps : List P.Plain). plain_is c.reading ∷ ps) (readings_are n [] cs)
readings_are (suc n) (f ∷ fs) (c ∷ cs) = ap (λ (ps : List P.Plain). plain_is c.reading ∷ ps) (readings_are n fs cs)

-- ---- the claim

pub code_stands : (S : List Source) (o : Op) (pre : List (OpsCall S)) (call : OpsCall S) (r : Step) (buf : List ℕ) → CodeRun S o pre call r buf → CodeStands (op_is o) S r buf
code_stands S o pre call r buf x =
    let begins = begun_is o (length S) x.readings x.begun x.few x.begins in
    let first : Left S (op_is o) (length S) (cards_of S) x.begun =
    record {
      files = files_of S;
      is = sym (begin_is S (files_of S) x.readings (files_all S) x.starts) ∙ ap (λ (c : Cards). cards_is (files_of S) (length S) c.cards) (sym begins);
      op_same = ap (λ (c : Cards). op_is c.op) begins;
      count_same = ap (λ (c : Cards). c.count) begins;
    } in
    by (cards_after (op_is o) (cards_of S) pre) (code_left S (op_is o) (length S) x.few x.run (cards_of S) first)
    (λ k ps. (ops_stands (op_is o) S (some_of (length S) x.few) pre call).after_item k ps) (ops_stands (op_is o) S (some_of (length S) x.few) pre call).after_end
  where
    by : (ds : List O.Card) → Left S (op_is o) (length S) ds (last_cards x.run)
        → ((k : List ℕ) (ps : List O.Indexed) → (call_item (op_is o) ds call).answer ≡ C.item k ps → AllAt (λ y. ¬ Before y k) S (readings_in (call_item (op_is o) ds call).cards))
        → ((call_item (op_is o) ds call).answer ≡ C.end → EndsAt (op_is o) S (readings_in (call_item (op_is o) ds call).cards))
        → CodeStands (op_is o) S r buf
    by ds h item end =
        let w =
        code_one S (op_is o) (length S) x.few (last_cards x.run) h.op_same h.count_same h.files ds h.is call x.files x.buf₀ buf r x.long x.same_files
        x.space x.merged in
        let left : readings_in (call_item (op_is o) ds call).cards ≡ left_readings (length S) r.cards =
        ap readings_in w.cards ∙ readings_are (length S) w.files r.cards.cards in
        record {
          after_item = λ t e.
              subst (λ (ps : List P.Plain). AllAt (λ y. ¬ Before y (take t.len buf)) S ps) left
              (item (take t.len buf) (take t.pairs.count (pairs_in t.pairs.values t.pairs.files)) (sym w.same ∙ ap (λ (m : Result (Option Item) Refusal). told_of m buf) e));
          after_end = λ e. subst (λ (ps : List P.Plain). EndsAt (op_is o) S ps) left (end (sym w.same ∙ ap (λ (m : Result (Option Item) Refusal). told_of m buf) e));
        }
