-- `ops_stands`: where each reading of an operation stands after an item and at the end, for any calls before.
--     Waiting f          between two calls: f is the key decided last, and no reading has handed out a key after f but the one that it holds
--     Going, Ready       the cards of a round before its steps and after them
--     decide_stands      what a round comes to
--     call_stands        one call
--     ops_stands         any calls from the starts of admitted files; where they are more than eight every call is refused
-- Assumes nothing.
use Prim.{Unit, tt}
use Rattle.std.specs.Prelude.{◌≡◌, refl, Bool, cond, ◌&&◌, ◌||◌, ltb, length}
use Rattle.std.proofs.Common.{sym, ap, ◌∙◌, ⊎_elim, inl, arith}
use Rattle.std.proofs.Math.Path.{subst}
use Rattle.std.proofs.Math.Bool.{true, false}
use Rattle.std.proofs.Math.Option.{Option, none, some}
use mathlib.Core.List.{List, [], ◌∷◌, Memᴰ}
use Prim.Native.Nat.{ℕ, zero, suc, ◌<◌, ◌≤◌}
use Rattle.std.proofs.Math.Dec.{leb}
use Rattle.format.specs.Limits.{max_path, max_levels, SPACE, STATE, CARDS}
use Rattle.format.specs.Strings.{Before, before_test}
use Rattle.format.specs.Laws.StringLaws.{before_irrefl, before_asym, before_total, decides_before}
use Rattle.reading.proofs.RunLaws.{lt_or}
use Rattle.reading.specs.Demand.{Entry, entry}
use Rattle.plain.specs.Plain.{Plain}
use Rattle.ops_spec.specs.Ops as O
use Rattle.ops_spec.specs.Ops.{Op, union, intersection, difference, symmetric, Slot, used, holds, Card, card_is, card_key, Stepped, cards, halted, with_card, step_one, step_all, Indexed, if_holds, least_key, same_test, pairs_from, use_up, takes_test, Verdict, this, no_more, another, at_key, at_least, at_first, decide, Merged, by_verdict, after_steps, rounds, all_left, next_item}
use Rattle.ops_spec.specs.OpsDemand.{Source, Has}
use Rattle.ops_spec.specs.OpsFuelLaws.{cond_way}
use Rattle.ops_spec.specs.OpsListsLaws.{test_false, decides_same_key, not_before_on}
use Rattle.ops_spec.specs.OpsWholeLaws.{ahead_of, cards_of}
use Rattle.ops_spec.specs.OpsShortLaws.{item_short}
use Rattle.ops_calls.specs.OpsCalls as C
use Rattle.ops_calls.specs.OpsCalls.{Lent, no_file, one_file, OpsCall, lend, step_by, call_item, cards_after}
use Rattle.ops_stands.specs.OpsStands.{AllAt, NoKey, AfterAll, first_ended, EndsAt, readings_in, OpsStands}
use Rattle.ops_stands.proofs.CardsStandLaws.{HandedOut, Each, Halts, at, over, Waits, fresh, halts, FileOf, AllCards, no_card, card, all_map, halts_map, StepsHalt, steps_halt, LeastCase, all_over, least_at, least_case, use_waits, use_readings, one_stands, all_at}

-- ---- between calls

abbrev pub NotAfter : Option (List ℕ) → List ℕ → Type 0
NotAfter none k = ⊥
NotAfter (some f) k = ¬ Before f k

abbrev pub After : Option (List ℕ) → List ℕ → Type 0
After none k = Unit {0}
After (some f) k = Before f k

abbrev pub Waiting : Option (List ℕ) → List Source → List Card → Type 0
Waiting f cs ds = AllCards (Waits (NotAfter f) (λ k. f ≡ some k) (After f) (f ≡ none)) cs ds

not_after_itself : (f : Option (List ℕ)) (k : List ℕ) → f ≡ some k → NotAfter f k
not_after_itself none k e = let z : ◌≡◌ {A = ℕ} 0 1 = cc in absurd (omega arith)
not_after_itself (some f) k e = let same : f ≡ k = cc in subst (λ (x : List ℕ). ¬ Before f x) same (before_irrefl f)

after_on : (f : Option (List ℕ)) (k l : List ℕ) → f ≡ some k → Before k l → After f l
after_on none k l e b = tt
after_on (some f) k l e b = let same : f ≡ k = cc in subst (λ (x : List ℕ). Before x l) (sym same) b

after_none : (f : Option (List ℕ)) → f ≡ none → (l : List ℕ) → After f l
after_none none e l = tt
after_none (some f) e l = let z : ◌≡◌ {A = ℕ} 0 1 = cc in absurd (omega arith)

-- what is not after f comes before what is
not_after_before : (f : Option (List ℕ)) (y k : List ℕ) → NotAfter f y → After f k → Before y k
not_after_before none y k n a = absurd n
not_after_before (some f) y k n a = not_before_on f y k n a

-- in a difference the key decided last is one of file 0
abbrev pub FirstHas : Op → List Source → Option (List ℕ) → Type 0
FirstHas difference [] f = ⊥
FirstHas difference (c ∷ cs) none = Unit {0}
FirstHas difference (c ∷ cs) (some k) = (v : ℕ) × Has c k v
FirstHas union cs f = Unit {0}
FirstHas intersection cs f = Unit {0}
FirstHas symmetric cs f = Unit {0}

pub record State (op : Op) (cs : List Source) (ds : List Card) : Type 0 where
  pub last : Option (List ℕ)
  pub has : FirstHas op cs last
  pub waiting : Waiting last cs ds

-- ---- a round before its steps, and after them

-- the first card holds k
record First (k : List ℕ) (c : Source) (d : Card) : Type 0 where
  value : ℕ
  done : List Entry
  here : Entry
  slot : d.slot ≡ holds value
  handed : HandedOut c done here d.reading
  before : Each (λ y. Before y k) done
  same : here.key ≡ k
  file : FileOf c d

-- `within`: in a difference, while other cards hold keys before the first card's
data Going (op : Op) : List Source → List Card → Type 0 where
  between : {cs : List Source} {ds : List Card} → State op cs ds → Going op cs ds
  within : {c : Source} {cs : List Source} {d : Card} {ds : List Card} (k : List ℕ) → op ≡ difference → First k c d
      → AllCards (Waits (λ y. Before y k) (λ y. Before y k) (λ y. Unit {0}) ⊥) cs ds → Going op (c ∷ cs) (d ∷ ds)

data Ready (op : Op) : List Source → List Card → Type 0 where
  ready : {cs : List Source} {ds : List Card} (f : Option (List ℕ)) → FirstHas op cs f → AllCards (Halts (NotAfter f) (After f)) cs ds → Ready op cs ds
  ready_within : {c : Source} {cs : List Source} {d : Card} {ds : List Card} (k : List ℕ) → op ≡ difference → First k c d
      → AllCards (Halts (λ y. Before y k) (λ y. Unit {0})) cs ds → Ready op (c ∷ cs) (d ∷ ds)

abbrev StepsReady : Op → List Source → Stepped → Type 0
StepsReady op cs (cards ds now) = Ready op cs ds
StepsReady op cs (halted n) = Unit {0}

module _ (op : Op) (space : ℕ) (room : max_path ≤ space) where
  steps_ready : (cs : List Source) (ds : List Card) → Going op cs ds → StepsReady op cs (step_all space ds)
  unfolding step_all
  steps_ready cs ds (between s) =
      by (step_all space ds)
      (steps_halt (NotAfter s.last) (λ k. s.last ≡ some k) (After s.last) (s.last ≡ none) (λ k e. not_after_itself s.last k e) (λ k l e b. after_on s.last k l e b)
      (λ e l. after_none s.last e l) space room s.waiting)
    where
      by : (o : Stepped) → StepsHalt (NotAfter s.last) (After s.last) cs o → StepsReady op cs o
      by (cards es now) h = ready s.last s.has h
      by (halted n) h = tt
  steps_ready _ _ (within {c} {cs} {d} {ds} k o first more) =
      subst (λ (x : Slot). StepsReady op (c ∷ cs) (step_one space d x (step_all space ds))) (sym first.slot)
      (cond_way (StepsReady op (c ∷ cs)) (leb (length d.reading.view.levels) max_levels) {x = with_card d false (step_all space ds)} {y = halted STATE}
      (λ _.
      by (step_all space ds)
      (steps_halt (λ y. Before y k) (λ y. Before y k) (λ y. Unit {0}) ⊥ (λ y b. b) (λ y l b e. tt) (λ a l. tt) space room more))
      (λ _. tt))
    where
      by : (w : Stepped) → StepsHalt (λ y. Before y k) (λ y. Unit {0}) cs w → StepsReady op (c ∷ cs) (with_card d false w)
      by (cards es now) h = ready_within k o first h
      by (halted n) h = tt

-- ---- what a round comes to

abbrev VerdictIs : Op → List Source → List Card → Verdict → Type 0
VerdictIs op cs es (this k ps ds) = AllAt (λ x. ¬ Before x k) cs (readings_in ds) × State op cs ds
VerdictIs op cs es no_more = EndsAt op cs (readings_in es) × State op cs es
VerdictIs op cs es (another ds) = Going op cs ds

-- every card holds k or a later key, and has handed out only earlier ones before it
at_key_lem : (op : Op) (cs : List Source) (es : List Card) (k : List ℕ) → FirstHas op cs (some k) → AllCards (Halts (λ y. Before y k) (λ l. ¬ Before l k)) cs es
    → VerdictIs op cs es (at_key op k es)
at_key_lem op cs es k has h =
    cond_way (VerdictIs op cs es) (takes_test op (length es) (pairs_from 0 k es)) {x = this k (pairs_from 0 k es) (use_up (λ l. same_test l k) es)} {y = another (use_up (λ l. same_test l k) es)}
    (λ _. (
      subst (λ (ps : List Plain). AllAt (λ x. ¬ Before x k) cs ps) (sym (use_readings (λ l. same_test l k) es))
          (all_at (λ y. Before y k) (λ l. ¬ Before l k) (λ x. ¬ Before x k) (λ y b n. n b) (λ l n. n) h),
      state,
    ))
    (λ _. between state)
  where
    later : (l : List ℕ) → ¬ Before l k → same_test l k ≡ false → Before k l
    later l n e = ⊎_elim (λ (q : l ≡ k). absurd ((decides_same_key l k).no e q)) (λ b. ⊎_elim (λ a. absurd (n a)) (λ a. a) b) (before_total l k)

    state : State op cs (use_up (λ l. same_test l k) es)
    state =
        record {
          last = some k;
          has = has;
          waiting =
              use_waits (NotAfter (some k)) (λ l. some k ≡ some l) (λ l. ¬ Before l k) (After (some k)) (some k ≡ none) (λ l. same_test l k)
              (λ l n e. ap some (sym ((decides_same_key l k).yes e))) later (all_map (halts_map (λ y b a. before_asym a b) (λ l n. n)) h);
        }

-- union, intersection, symmetric difference
at_least_lem : (op : Op) (cs : List Source) (es : List Card) (f : Option (List ℕ)) → ((g : Option (List ℕ)) → FirstHas op cs g) → ((ps : List Plain) → AllAt NoKey cs ps → EndsAt op cs ps)
    → AllCards (Halts (NotAfter f) (After f)) cs es → VerdictIs op cs es (at_least op (least_key es) es)
at_least_lem op cs es f has ends h = by (least_key es) (least_case (NotAfter f) (After f) h)
  where
    by : (o : Option (List ℕ)) → LeastCase (NotAfter f) (After f) cs es o → VerdictIs op cs es (at_least op o es)
    by _ (all_over a) = (
      ends (readings_in es) (all_at (NotAfter f) NoKey NoKey (λ k n z. z) (λ k z. z) a),
      record { last = f; has = has f; waiting = all_map (λ c q x w. halts w) h },
    )
    by _ (least_at {k = k} a b) = at_key_lem op cs es k (has (some k)) (all_map (halts_map (λ y n. not_after_before f y k n a) (λ l n. n.1)) b)

first_holds : {P : List ℕ → Type 0} {c : Source} {cs : List Source} {d : Card} {ds : List Card} (v : ℕ) → d.slot ≡ holds v → ¬ AllCards (Halts P NoKey) (c ∷ cs) (d ∷ ds)
first_holds v s (card w (at u done here e h p q) more) = q
first_holds v s (card w (over e h p) more) = let z : ◌≡◌ {A = ℕ} 0 1 = cc in omega arith

use_first : (T : List ℕ → Bool) (d : Card) (es : List Card)
    → use_up T (d ∷ es) ≡ if_holds d.slot (λ v. cond (T (card_key d)) (card_is d.file d.reading used) d) d ∷ use_up T es
unfolding use_up
use_first T d es = refl

-- difference, where the first card holds k
at_first_lem : (c : Source) (cs : List Source) (d : Card) (es : List Card) (k : List ℕ) → First k c d → AllCards (Halts (λ y. Before y k) (λ y. Unit {0})) cs es
    → VerdictIs difference (c ∷ cs) (d ∷ es) (decide difference (d ∷ es))
at_first_lem c cs d es k first h =
    subst (λ (x : Slot). VerdictIs difference (c ∷ cs) (d ∷ es) (if_holds x (λ v. at_first (card_key d) (least_key (d ∷ es)) (d ∷ es)) no_more)) (sym first.slot)
    (subst (λ (l : List ℕ). VerdictIs difference (c ∷ cs) (d ∷ es) (at_first l (least_key (d ∷ es)) (d ∷ es))) (sym key_is_lem)
    (by (least_key (d ∷ es)) (least_case (λ y. Before y k) (λ y. Unit {0}) all)))
  where
    key_is_lem : card_key d ≡ k
    key_is_lem = first.handed.key ∙ first.same

    all : AllCards (Halts (λ y. Before y k) (λ y. Unit {0})) (c ∷ cs) (d ∷ es)
    all = card first.file (at first.value first.done first.here first.slot first.handed first.before tt) h

    has : (v : ℕ) × Has c k v
    has =
        let on : Memᴰ first.here (ahead_of c).entries =
        subst (λ (l : List Entry). Memᴰ first.here l) first.handed.all (mathlib.Core.List.Memᴰ.append_right first.done (mathlib.Core.List.Memᴰ.head refl)) in
        let w = (ahead_of c).held first.here on in
        (first.here.value, subst (λ (l : List ℕ). Has c l first.here.value) first.same (record { held = w.0; between = w.1 }))

    kept : if_holds d.slot (λ v. cond (before_test (card_key d) k) (card_is d.file d.reading used) d) d ≡ d
    kept =
        ap (λ (x : Slot). if_holds x (λ v. cond (before_test (card_key d) k) (card_is d.file d.reading used) d) d) first.slot
        ∙ ap (λ (l : List ℕ). cond (before_test l k) (card_is d.file d.reading used) d) key_is_lem
        ∙ ap (λ (b : Bool). cond b (card_is d.file d.reading used) d) (test_false k k (before_irrefl k))

    on_within : Going difference (c ∷ cs) (use_up (λ x. before_test x k) (d ∷ es))
    on_within =
        subst (λ (l : List Card). Going difference (c ∷ cs) l) (sym (use_first (λ x. before_test x k) d es ∙ ap (λ (x : Card). x ∷ use_up (λ x. before_test x k) es) kept))
        (within k refl first
        (use_waits (λ y. Before y k) (λ y. Before y k) (λ y. Unit {0}) (λ y. Unit {0}) ⊥ (λ x. before_test x k) (λ l u e. (decides_before l k).yes e) (λ l u e. tt) h))

    by : (o : Option (List ℕ)) → LeastCase (λ y. Before y k) (λ y. Unit {0}) (c ∷ cs) (d ∷ es) o → VerdictIs difference (c ∷ cs) (d ∷ es) (at_first k o (d ∷ es))
    by _ (all_over a) = absurd (first_holds first.value first.slot a)
    by _ (least_at {k = l} u a) =
        cond_way (VerdictIs difference (c ∷ cs) (d ∷ es)) (before_test l k) {x = another (use_up (λ x. before_test x k) (d ∷ es))} {y = at_key difference k (d ∷ es)}
        (λ e. on_within)
        (λ e.
        at_key_lem difference (c ∷ cs) (d ∷ es) k has
        (all_map (halts_map (λ y b. b) (λ y n b. (decides_before l k).no e (not_before_on y l k n.1 b))) a))

-- difference, where the first reading has ended
at_ended : (c : Source) (cs : List Source) (d : Card) (es : List Card) (f : Option (List ℕ)) → FirstHas difference (c ∷ cs) f → Halts (NotAfter f) NoKey c d.reading d.slot
    → Each (NotAfter f) (ahead_of c).entries → AllCards (Halts (NotAfter f) (After f)) cs es → EndsAt difference (c ∷ cs) (readings_in (d ∷ es))
at_ended c cs d es f has first all h =
    first_ended (one_stands (NotAfter f) NoKey NoKey (λ k n z. z) (λ k z. z) c d.reading d.slot first)
    (all_at (NotAfter f) (After f) (AfterAll c) (on f has) (λ k a l v q. not_after_before f l k (all (entry l v) ((ahead_of c).none_left l v q.held q.between)) a) h)
  where
    on : (g : Option (List ℕ)) → FirstHas difference (c ∷ cs) g → (y : List ℕ) → NotAfter g y → ¬ AfterAll c y
    on none w y n a = n
    on (some x) w y n a = n (a x w.0 w.1)

at_difference : (cs : List Source) (es : List Card) (f : Option (List ℕ)) → FirstHas difference cs f → AllCards (Halts (NotAfter f) (After f)) cs es
    → VerdictIs difference cs es (decide difference es)
at_difference _ _ f has no_card = absurd has
at_difference _ _ f has (card {c = c} {cs = cs} {d = d} {ds = es} w (at v done here s h p q) more) =
    at_first_lem c cs d es here.key
    (record { value = v; done = done; here = here; slot = s; handed = h; before = λ e m. not_after_before f e.key here.key (p e m) q; same = refl; file = w })
    (all_map (halts_map (λ y n. not_after_before f y here.key n q) (λ l a. tt)) more)
at_difference _ _ f has (card {c = c} {cs = cs} {d = d} {ds = es} w (over s h p) more) =
    subst (λ (x : Slot). VerdictIs difference (c ∷ cs) (d ∷ es) (if_holds x (λ v. at_first (card_key d) (least_key (d ∷ es)) (d ∷ es)) no_more)) (sym s) (
      at_ended c cs d es f has (over s h p) p more,
      record { last = f; has = has; waiting = all_map (λ c q x w. halts w) (card w (over s h p) more) },
    )

decide_ready : (op : Op) (cs : List Source) (es : List Card) (f : Option (List ℕ)) → FirstHas op cs f → AllCards (Halts (NotAfter f) (After f)) cs es → VerdictIs op cs es (decide op es)
decide_ready union cs es f has h = at_least_lem union cs es f (λ g. tt) (λ ps a. a) h
decide_ready intersection cs es f has h = at_least_lem intersection cs es f (λ g. tt) (λ ps a. a) h
decide_ready symmetric cs es f has h = at_least_lem symmetric cs es f (λ g. tt) (λ ps a. a) h
decide_ready difference cs es f has h = at_difference cs es f has h

decide_stands : (op : Op) (cs : List Source) (es : List Card) → Ready op cs es → VerdictIs op cs es (decide op es)
decide_stands op cs es (ready f has h) = decide_ready op cs es f has h
decide_stands op _ _ (ready_within {c} {cs} {d} {ds} k o first h) =
    subst (λ (x : Op). VerdictIs x (c ∷ cs) (d ∷ ds) (decide x (d ∷ ds))) (sym o) (at_first_lem c cs d ds k first h)

-- ---- a call

abbrev pub MergedIs : Op → List Source → Merged → Type 0
MergedIs op cs (O.item k ps ds) = AllAt (λ x. ¬ Before x k) cs (readings_in ds) × State op cs ds
MergedIs op cs (O.ending ds) = EndsAt op cs (readings_in ds) × State op cs ds
MergedIs op cs (Merged.refused n) = Unit {0}

module _ (op : Op) (cs : List Source) (space : ℕ) (room : max_path ≤ space) where
  rounds_stand : (n : ℕ) (before : Bool) (ds : List Card) → Going op cs ds → MergedIs op cs (rounds n op space before ds)
  unfolding rounds
  rounds_stand zero before ds g = tt
  rounds_stand (suc n) before ds g = by (step_all space ds) (steps_ready op space room cs ds g) (λ es w. rounds_stand n true es w)
    where
      verdict : (es : List Card) (v : Verdict) → VerdictIs op cs es v → ((fs : List Card) → Going op cs fs → MergedIs op cs (rounds n op space true fs))
          → MergedIs op cs (by_verdict es (rounds n op space true) v)
      verdict es (this k ps fs) h again = h
      verdict es no_more h again = h
      verdict es (another fs) h again = again fs h

      by : (o : Stepped) → StepsReady op cs o → ((fs : List Card) → Going op cs fs → MergedIs op cs (rounds n op space true fs))
          → MergedIs op cs (after_steps op space before (rounds n op space true) o)
      by (cards es now) h again =
          cond_way (MergedIs op cs) (before || (now || leb max_path space)) {x = by_verdict es (rounds n op space true) (decide op es)} {y = Merged.refused SPACE}
          (λ _. verdict es (decide op es) (decide_stands op cs es h) again) (λ _. tt)
      by (halted n) h again = tt

  item_stands : (ds : List Card) → State op cs ds → MergedIs op cs (next_item op ds space)
  unfolding next_item
  item_stands ds s =
      cond_way (MergedIs op cs) (ltb 0 (length ds) && leb (length ds) 8) {x = rounds (suc (suc (all_left ds))) op space false ds} {y = Merged.refused CARDS}
      (λ _. rounds_stand (suc (suc (all_left ds))) false ds (between s)) (λ _. tt)

lend_all : {X : Source → Plain → Slot → Type 0} {cs : List Source} {ds : List Card} (fs : List (List ℕ)) → Lent cs fs → AllCards X cs ds → AllCards X cs (lend fs ds)
lend_all _ no_file no_card = no_card
lend_all _ (one_file {fs = fs} which lent) (card w h more) = card which h (lend_all fs lent more)

pub record CallIs (op : Op) (cs : List Source) (ds : List Card) (c : OpsCall cs) : Type 0 where
  pub item : (k : List ℕ) (ps : List Indexed) → (call_item op ds c).answer ≡ C.item k ps → AllAt (λ x. ¬ Before x k) cs (readings_in (call_item op ds c).cards)
  pub end : (call_item op ds c).answer ≡ C.end → EndsAt op cs (readings_in (call_item op ds c).cards)
  pub state : State op cs (call_item op ds c).cards

pub call_stands : (op : Op) (cs : List Source) (ds : List Card) (c : OpsCall cs) → State op cs ds → CallIs op cs ds c
call_stands op cs ds c s = by (next_item op (lend c.files ds) c.space) refl claim
  where
    claim : MergedIs op cs (next_item op (lend c.files ds) c.space)
    claim =
        ⊎_elim
        (λ (short : c.space < max_path). let w = item_short c.space short op (lend c.files ds) in subst (MergedIs op cs) (sym w.1) tt)
        (λ (room : max_path ≤ c.space).
        item_stands op cs c.space room (lend c.files ds) (record { last = s.last; has = s.has; waiting = lend_all c.files c.lent s.waiting }))
        (lt_or c.space max_path)

    by : (m : Merged) → next_item op (lend c.files ds) c.space ≡ m → MergedIs op cs m → CallIs op cs ds c
    by (O.item l qs es) e h =
        let is : call_item op ds c ≡ record { answer = C.item l qs; cards = es } = ap (step_by ds) e in
        record {
          item = λ k ps q.
              let same : l ≡ k = cc in
              subst (λ (x : C.ItemStep). AllAt (λ x. ¬ Before x k) cs (readings_in x.cards)) (sym is)
              (subst (λ (y : List ℕ). AllAt (λ x. ¬ Before x y) cs (readings_in es)) same h.0);
          end = λ q. let z : ◌≡◌ {A = ℕ} 0 1 = cc in absurd (omega arith);
          state = subst (λ (x : C.ItemStep). State op cs x.cards) (sym is) h.1;
        }
    by (O.ending es) e h =
        let is : call_item op ds c ≡ record { answer = C.end; cards = es } = ap (step_by ds) e in
        record {
          item = λ k ps q. let z : ◌≡◌ {A = ℕ} 0 1 = cc in absurd (omega arith);
          end = λ q. subst (λ (x : C.ItemStep). EndsAt op cs (readings_in x.cards)) (sym is) h.0;
          state = subst (λ (x : C.ItemStep). State op cs x.cards) (sym is) h.1;
        }
    by (Merged.refused n) e h =
        let is : call_item op ds c ≡ record { answer = C.refused n; cards = ds } = ap (step_by ds) e in
        record {
          item = λ k ps q. let z : ◌≡◌ {A = ℕ} 0 1 = cc in absurd (omega arith);
          end = λ q. let z : ◌≡◌ {A = ℕ} 0 1 = cc in absurd (omega arith);
          state = subst (λ (x : C.ItemStep). State op cs x.cards) (sym is) s;
        }

-- ---- from the starts

starts_wait : (cs : List Source) → Waiting none cs (cards_of cs)
starts_wait [] = no_card
starts_wait (c ∷ cs) = card (inl refl) (fresh refl refl refl) (starts_wait cs)

starts_has : (op : Op) (cs : List Source) → 0 < length cs → FirstHas op cs none
starts_has union cs h = tt
starts_has intersection cs h = tt
starts_has symmetric cs h = tt
starts_has difference [] h = omega arith
starts_has difference (c ∷ cs) h = tt

module _ (op : Op) (cs : List Source) (some_file : 0 < length cs) where
  calls_state : (pre : List (OpsCall cs)) (ds : List Card) → State op cs ds → State op cs (cards_after op ds pre)
  calls_state [] ds s = s
  calls_state (c ∷ pre) ds s = calls_state pre (call_item op ds c).cards (call_stands op cs ds c s).state

  pub ops_stands : (pre : List (OpsCall cs)) (c : OpsCall cs) → OpsStands op cs pre c
  ops_stands pre c =
      let s = calls_state pre (cards_of cs) (record { last = none; has = starts_has op cs some_file; waiting = starts_wait cs }) in
      let w = call_stands op cs (cards_after op (cards_of cs) pre) c s in
      record { after_item = w.item; after_end = w.end }
