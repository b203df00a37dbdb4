-- The code's own calls are those that `ops_exact` speaks of: `begin` gives the cards of the starts, and `next_item` answers by `next_item` on the cards that
-- it is given with the files that it is lent, which is the call of `call_item`.
--     lend_is          cards handed the files of a call, whatever files they had before
--     code_call        a call of `next_item` on one to eight cards (`held_item`, which its contract cites)
--     begin_is         the cards of `begin`, for readings and files that are those of the sources
--     begun_is         the cards that `begin` gives, by its contract
--     code_one         such a call, with what it tells and the cards that it leaves
--     CodeCalls, code_told     a list of calls by the contract of `next_item` tells what the definition answers
--     code_from_begin  so of calls from what `begin` gave, of which `ops_exact` speaks
-- Assumes nothing.
use Rattle.std.specs.Prelude.{◌≡◌, refl, Bool, true, cond, List, [], ◌∷◌, map, ℕ, zero, suc, ◌-◌, ◌≤◌, length, take, drop, replicate, Ok, Err, Some, None, Result, Option}
use Rattle.std.proofs.Common.{sym, ap, ap₂, ◌∙◌, subst, arith}
use Rattle.std.proofs.Math.Seq.{take-append_seam}
use Rattle.format.specs.declared.Refusal.{Refusal}
use Rattle.format.specs.Limits.{CARDS}
use Rattle.plain.specs.Plain as P
use Rattle.ops_spec.specs.Ops as O
use Rattle.ops_spec.specs.Ops.{Indexed, indexed, next_item}
use Rattle.ops_spec.specs.OpsDemand.{Source}
use Rattle.ops_spec.specs.OpsWholeLaws.{cards_of}
use Rattle.ops_calls.specs.OpsCalls.{files_of, lend, OpsCall, Told, item, end, refused, ItemStep, step_by, call_item, answers_of}
use Rattle.stream.specs.declared.Plain.{Plain}
use Rattle.stream.specs.Plains.{plain_is}
use Rattle.ops_round.specs.declared.Card.{Card}
use Rattle.ops_round.specs.Cards.{card_is, with_files, cards_is, used_card}
use Rattle.ops_pairs.specs.Pairs.{padded, pairs_in}
use Rattle.ops_decide.specs.declared.Op.{Op}
use Rattle.ops_decide.specs.Verdicts.{op_is}
use Rattle.ops.specs.declared.Cards.{Cards}
use Rattle.ops.specs.declared.Step.{Step}
use Rattle.ops.specs.declared.Item.{Item}
use Rattle.ops.specs.Merges.{count_test, BegunAs, BegunBy, held_item, ItemBy, MergedBy}

-- ---- a call

pub lend_is : (n : ℕ) (fs gs : List (List ℕ)) (cs : List Card) → n ≤ length fs → lend (take n fs) (cards_is gs n cs) ≡ cards_is fs n cs
unfolding with_files
lend_is zero fs gs cs h = refl
lend_is (suc n) [] gs cs h = absurd (omega arith)
lend_is (suc n) (f ∷ fs) gs [] h = refl
lend_is (suc n) (f ∷ fs) [] (c ∷ cs) h = ap (λ (l : List O.Card). card_is f c ∷ l) (lend_is n fs [] cs (omega arith))
lend_is (suc n) (f ∷ fs) (g ∷ gs) (c ∷ cs) h = ap (λ (l : List O.Card). card_is f c ∷ l) (lend_is n fs gs cs (omega arith))

pub code_call : (fs gs : List (List ℕ)) (c : Cards) (space : ℕ) → count_test c.count ≡ true → c.count ≤ length fs
    → held_item fs c space ≡ next_item (op_is c.op) (lend (take c.count fs) (cards_is gs c.count c.cards)) space
code_call fs gs c space few long =
    ap (λ (b : Bool). cond b (next_item (op_is c.op) (cards_is fs c.count c.cards) space) (O.Merged.refused CARDS)) few
    ∙ ap (λ (cs : List O.Card). next_item (op_is c.op) cs space) (sym (lend_is c.count fs gs c.cards long))

-- ---- begin

abbrev pub readings_of : List Source → List P.Plain
readings_of [] = []
readings_of (o ∷ S) = o.reading ∷ readings_of S

-- what stands from the count on does not matter
pub begin_is : (S : List Source) (fs : List (List ℕ)) (ps : List Plain) → take (length S) fs ≡ files_of S → map plain_is (take (length S) ps) ≡ readings_of S
    → cards_is fs (length S) (map used_card ps) ≡ cards_of S
unfolding with_files
begin_is [] fs ps e r = refl
begin_is (o ∷ S) [] ps e r = let z : ◌≡◌ {A = ℕ} 0 1 = cc in absurd (omega arith)
begin_is (o ∷ S) (f ∷ fs) [] e r = let z : ◌≡◌ {A = ℕ} 0 1 = cc in absurd (omega arith)
begin_is (o ∷ S) (f ∷ fs) (p ∷ ps) e r =
    let file : f ≡ o.file = cc in
    let files : take (length S) fs ≡ files_of S = cc in
    let reading : plain_is p ≡ o.reading = cc in
    let readings : map plain_is (take (length S) ps) ≡ readings_of S = cc in
    ap₂ ◌∷◌ (ap₂ (λ (g : List ℕ) (q : P.Plain). O.card_is g q O.used) file reading) (begin_is S fs ps files readings)

-- the cards that begin gives
pub begun_is : (o : Op) (n : ℕ) (ps : List Plain) (b : Cards) → count_test n ≡ true → BegunBy o n ps (Ok b) → b ≡ record { op = o; count = n; cards = map used_card ps }
begun_is o n ps b few begins = let is = subst (λ (t : Bool). BegunAs t o n ps (Ok b)) few begins.is in ok_is is
  where
    ok_is : {x y : Cards} → ◌≡◌ {A = Result Cards Refusal} (Ok x) (Ok y) → x ≡ y
    ok_is e = cc

-- ---- a list of calls

-- what a call tells: the key stands in the buffer
abbrev pub told_of : Result (Option Item) Refusal → List ℕ → Told
told_of (Ok (Some x)) buf = item (take x.len buf) (take x.pairs.count (pairs_in x.pairs.values x.pairs.files))
told_of (Ok None) buf = end
told_of (Err n) buf = refused n

-- calls of `next_item` by their contract, each with the cards that the one before gave back; files from the held count on may be any
pub data CodeCalls (S : List Source) : Cards → List (OpsCall S) → List Told → Type 0 where
  no_call : {c : Cards} → CodeCalls S c [] []
  one_call : {c : Cards} {calls : List (OpsCall S)} {ts : List Told} (call : OpsCall S) (fs : List (List ℕ)) (buf₀ buf : List ℕ) (r : Step) → c.count ≤ length fs
      → take c.count fs ≡ call.files → length buf₀ ≡ call.space → MergedBy fs c (held_item fs c (length buf₀)) buf₀ buf r → CodeCalls S r.cards calls ts
      → CodeCalls S c (call ∷ calls) (told_of r.answer buf ∷ ts)

pairs_of : (ps : List Indexed) → pairs_in (map (λ (x : Indexed). x.value) ps) (map (λ (x : Indexed). x.index) ps) ≡ ps
pairs_of [] = refl
pairs_of (x ∷ ps) = ap (λ (l : List Indexed). x ∷ l) (pairs_of ps)

item_told : (fs : List (List ℕ)) (c : Cards) (k : List ℕ) (ps : List Indexed) (ds : List O.Card) (buf₀ buf : List ℕ) (r : Step) → ItemBy fs c k ps ds buf₀ buf r
    → told_of r.answer buf ≡ item k ps
item_told fs c k ps ds buf₀ buf r h =
    let x : Item = h.item in
    let key : take x.len buf ≡ k = ap₂ take h.len h.buffer ∙ take-append_seam k (drop (length k) buf₀) in
    let all : pairs_in x.pairs.values x.pairs.files ≡ padded ps = ap₂ pairs_in h.values h.files ∙ pairs_of (padded ps) in
    let pairs : take x.pairs.count (pairs_in x.pairs.values x.pairs.files) ≡ ps =
    ap₂ take h.count all ∙ take-append_seam ps (replicate (8 - length ps) (indexed 0 0)) in
    ap (λ (m : Result (Option Item) Refusal). told_of m buf) h.answer ∙ ap₂ item key pairs

-- one call: what it tells, and the cards after it with some files
pub record CodeStep (op : O.Op) (n : ℕ) (r : Step) (told : Told) (w : ItemStep) : Type 0 where
  pub same : told ≡ w.answer
  pub files : List (List ℕ)
  pub cards : w.cards ≡ cards_is files n r.cards.cards
  pub op_same : op_is r.cards.op ≡ op
  pub count_same : r.cards.count ≡ n

code_step : (fs gs : List (List ℕ)) (c : Cards) (m : O.Merged) (buf₀ buf : List ℕ) (r : Step) → MergedBy fs c m buf₀ buf r
    → CodeStep (op_is c.op) c.count r (told_of r.answer buf) (step_by (cards_is gs c.count c.cards) m)
code_step fs gs c (O.item k ps ds) buf₀ buf r h =
    record { same = item_told fs c k ps ds buf₀ buf r h; files = fs; cards = sym h.cards.cards; op_same = ap op_is h.cards.op; count_same = h.cards.count }
code_step fs gs c (O.ending ds) buf₀ buf r h =
    record {
      same = ap (λ (m : Result (Option Item) Refusal). told_of m buf) h.answer;
      files = fs;
      cards = sym h.cards.cards;
      op_same = ap op_is h.cards.op;
      count_same = h.cards.count;
    }
code_step fs gs c (O.Merged.refused n) buf₀ buf r h =
    let kept : r.cards ≡ c = ap (λ (s : Step). s.cards) h.is in
    record {
      same = ap (λ (s : Step). told_of s.answer buf) h.is;
      files = gs;
      cards = ap (λ (d : Cards). cards_is gs c.count d.cards) (sym kept);
      op_same = ap (λ (d : Cards). op_is d.op) kept;
      count_same = ap (λ (d : Cards). d.count) kept;
    }

-- a call by its contract, on cards that stand for ds with some files
pub code_one : (S : List Source) (op : O.Op) (n : ℕ) → count_test n ≡ true → (c : Cards) → op_is c.op ≡ op → c.count ≡ n → (gs : List (List ℕ)) (ds : List O.Card)
    → ds ≡ cards_is gs n c.cards → (call : OpsCall S) (fs : List (List ℕ)) (buf₀ buf : List ℕ) (r : Step) → c.count ≤ length fs → take c.count fs ≡ call.files
    → length buf₀ ≡ call.space → MergedBy fs c (held_item fs c (length buf₀)) buf₀ buf r → CodeStep op n r (told_of r.answer buf) (call_item op ds call)
code_one S op n few c o e gs ds is call fs buf₀ buf r long files space merged =
    let w = code_step fs gs c (held_item fs c (length buf₀)) buf₀ buf r merged in
    let start : cards_is gs c.count c.cards ≡ ds = ap (λ (k : ℕ). cards_is gs k c.cards) e ∙ sym is in
    let held : held_item fs c (length buf₀) ≡ next_item op (lend call.files ds) call.space =
    code_call fs gs c (length buf₀) (ap count_test e ∙ few) long
    ∙ ap₂ (λ (x : O.Op) (k : ℕ). next_item x (lend (take c.count fs) (cards_is gs c.count c.cards)) k) o space
    ∙ ap₂ (λ (gs' : List (List ℕ)) (ds' : List O.Card). next_item op (lend gs' ds') call.space) files start in
    let step : step_by (cards_is gs c.count c.cards) (held_item fs c (length buf₀)) ≡ call_item op ds call = ap₂ step_by start held in
    record {
      same = w.same ∙ ap (λ (s : ItemStep). s.answer) step;
      files = w.files;
      cards = ap (λ (s : ItemStep). s.cards) (sym step) ∙ w.cards ∙ ap (λ (k : ℕ). cards_is w.files k r.cards.cards) e;
      op_same = w.op_same ∙ o;
      count_same = w.count_same ∙ e;
    }

pub code_told : (S : List Source) (op : O.Op) (n : ℕ) → count_test n ≡ true → {c : Cards} {calls : List (OpsCall S)} {ts : List Told} → CodeCalls S c calls ts
    → op_is c.op ≡ op → c.count ≡ n → (gs : List (List ℕ)) (ds : List O.Card) → ds ≡ cards_is gs n c.cards → ts ≡ answers_of op ds calls
code_told S op n few no_call o e gs ds is = refl
code_told S op n few (one_call {c = c} {calls = calls} {ts = ts} call fs buf₀ buf r long files space merged more) o e gs ds is =
    let w = code_one S op n few c o e gs ds is call fs buf₀ buf r long files space merged in
    ap₂ ◌∷◌ w.same (code_told S op n few more w.op_same w.count_same w.files (call_item op ds call).cards w.cards)

-- from what `begin` gave, for readings that are those of the starts: `ops_exact` says what these answers are
pub code_from_begin : (S : List Source) (o : Op) (fs : List (List ℕ)) (ps : List Plain) (b : Cards) → count_test (length S) ≡ true → BegunBy o (length S) ps (Ok b)
    → take (length S) fs ≡ files_of S → map plain_is (take (length S) ps) ≡ readings_of S → {calls : List (OpsCall S)} {ts : List Told} → CodeCalls S b calls ts
    → ts ≡ answers_of (op_is o) (cards_of S) calls
code_from_begin S o fs ps b few begins files readings run =
    let is = begun_is o (length S) ps b few begins in
    code_told S (op_is o) (length S) few run (ap (λ (c : Cards). op_is c.op) is) (ap (λ (c : Cards). c.count) is) fs (cards_of S)
    (sym (begin_is S fs ps files readings) ∙ ap (λ (c : Cards). cards_is fs (length S) c.cards) (sym is))
