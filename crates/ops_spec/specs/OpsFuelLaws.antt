-- Every step of a reading lowers the measure, on any file and any state, so the rounds of a call need no fuel to be spoken of.
--     next_falls        a call of next that hands out a key lowers `left` or uses the pending key
--     step_falls        the steps of a round lower `all_left`, strictly where a card is used up
--     decide_uses       a round that asks for another has used up a card
--     rounds_by_lem         one round, without fuel
-- Assumes nothing.
use Prim.{Unit, tt}
use Rattle.std.specs.Prelude.{◌≡◌, refl, Bool, false, cond, ◌&&◌, ◌||◌, ◌⊎◌, List, [], ◌∷◌, ltb, leb, eqb, length}
use Rattle.std.proofs.Common.{sym, ◌∙◌, ap, subst, ⊎_elim, inl, inr, arith, ltb-true}
use Rattle.std.proofs.Math.Bool.{true}
use Rattle.std.proofs.Math.Option.{Option, none, some}
use Prim.Native.Nat.{ℕ, zero, suc, ◌+◌, ◌-◌, ◌<◌, ◌≤◌}
use Rattle.format.specs.Limits.{max_path, max_sum, SPACE, STATE, max_levels, CARDS}
use Rattle.format.specs.Node.{Node, Judgement, sound, unsound}
use Rattle.format.specs.Laws.TransitionLaws.{at_member}
use Rattle.format.specs.Opening.{Meta, Opening, opened, opening}
use Rattle.format.specs.Opening as Opening
use Rattle.format.specs.Paths.{Fst, fst_with, fst_of, node_in}
use Rattle.format.specs.Strings.{Bound, before_test}
use Rattle.reading.specs.Reading.{passes_test, Level, View, key_of, on_node, on_opened, Answer, key, end, Step, refuse, moved, counted, Popped, top, used_up, bad, pop, next_trans, child, stepped, Went, found, passed, descend, after_descend, after_pop, walk, state_test, next}
use Rattle.reading.proofs.RunLaws.{lt_or, target_live}
use Rattle.reading.specs.Visits.{left}
use Rattle.plain.specs.Plain.{Plain, plain_with, PlainStep, counting, next_plain}
use Rattle.reading.proofs.LeftLaws.{left_pop, left_follow}
use Rattle.ops_spec.specs.Ops.{Op, union, intersection, difference, symmetric, Slot, used, holds, ended, Card, card_is, card_key, Stepped, cards, halted, with_card, by_answer, step_one, step_all, Indexed, if_holds, lesser, least_key, same_test, pairs_from, use_up, takes_test, Verdict, this, no_more, another, at_key, at_least, at_first, decide, Merged, file_of, pendings, slot_left, all_left, by_verdict, after_steps, rounds, next_item}
use Rattle.ops_spec.specs.OpsListsLaws.{same_true}

-- ---- a claim about each way

pub cond_way : {A : Type 0} (P : A → Type 0) (b : Bool) {x y : A} → (b ≡ true → P x) → (b ≡ false → P y) → P (cond b x y)
cond_way P true h k = h refl
cond_way P false h k = k refl

pub node_way : {A : Type 0} (P : A → Type 0) (j : Judgement) {go : Node → A} {stop : A} → ((m : Node) → j ≡ sound m → P (go m)) → P stop → P (on_node j go stop)
node_way P (sound m) h k = h m refl
node_way P unsound h k = k

-- ---- a call of next

abbrev WentFalls : Fst → ℕ → Went → Type 0
WentFalls f n (found s v t) = left f s < n
WentFalls f n (passed t) = Unit {0}
WentFalls f n (Went.halted c) = Unit {0}

went_less : (f : Fst) (n k : ℕ) (w : Went) → n < k → WentFalls f n w → WentFalls f k w
went_less f n k (found s v t) h a = omega arith
went_less f n k (passed t) h a = tt
went_less f n k (Went.halted c) h a = tt

descend_falls : (room : ℕ) (f : Fst) (hi : Bound) (l : Level) (m : Node) (s : List Level) (t : ℕ) → room + length s ≤ max_path → node_in f l.addr ≡ sound m
    → l.trans < length m.transitions → WentFalls f (left f (l ∷ s)) (descend room f hi l m s t)
unfolding descend
descend_falls zero f hi l m s t h e g = tt
descend_falls (suc room) f hi l m s t h e g =
    let less : left f (child l m ∷ stepped l ∷ s) < left f (l ∷ s) = left_follow f l m s (omega arith) e g in
    cond_way (WentFalls f (left f (l ∷ s))) (leb (l.out + (next_trans l m).out) max_sum)
    (λ _.
    node_way (WentFalls f (left f (l ∷ s))) (node_in f (next_trans l m).addr)
    (λ n en.
    cond_way (WentFalls f (left f (l ∷ s))) (passes_test hi (key_of (child l m ∷ stepped l ∷ s))) (λ _. tt)
    (λ _.
    cond_way (WentFalls f (left f (l ∷ s))) n.final
    (λ _. cond_way (WentFalls f (left f (l ∷ s))) (leb (l.out + (next_trans l m).out + n.final_output) max_sum) (λ _. less) (λ _. tt))
    (λ nf.
    went_less f (left f (child l m ∷ stepped l ∷ s)) (left f (l ∷ s)) (descend room f hi (child l m) n (stepped l ∷ s) (counted t)) less
    (descend_falls room f hi (child l m) n (stepped l ∷ s) (counted t) (omega arith) en
    (target_live f l.addr m (next_trans l m) e (at_member m.transitions l.trans g) n en nf)))))
    tt)
    (λ _. tt)

no_room : (d : ℕ) (f : Fst) (hi : Bound) (l : Level) (m : Node) (s : List Level) (t n : ℕ) → d ≡ 0 → WentFalls f n (descend d f hi l m s t)
unfolding descend
no_room zero f hi l m s t n e = tt
no_room (suc d) f hi l m s t n e = absurd (omega arith)

abbrev PopFalls : Fst → ℕ → Popped → Type 0
PopFalls f n (top l m s) = (node_in f l.addr ≡ sound m) × (l.trans < length m.transitions) × (left f (l ∷ s) ≤ n)
PopFalls f n used_up = Unit {0}
PopFalls f n bad = Unit {0}

pop_less : (f : Fst) (n k : ℕ) (p : Popped) → n ≤ k → PopFalls f n p → PopFalls f k p
pop_less f n k (top l m s) h a = (a.0, a.1, omega (arith, a.2))
pop_less f n k used_up h a = tt
pop_less f n k bad h a = tt

pop_falls : (f : Fst) (s : List Level) → PopFalls f (left f s) (pop f s)
unfolding pop
pop_falls f [] = tt
pop_falls f (l ∷ s) =
    node_way (PopFalls f (left f (l ∷ s))) (node_in f l.addr)
    (λ m e.
    cond_way (PopFalls f (left f (l ∷ s))) (ltb l.trans (length m.transitions)) (λ q. (e, ltb-true l.trans (length m.transitions) q, omega arith))
    (λ _. pop_less f (left f s) (left f (l ∷ s)) (pop f s) (omega (arith, left_pop f l s)) (pop_falls f s)))
    tt

-- what a reading has still to do
abbrev pub view_left : Fst → View → ℕ
view_left f r = left f r.levels + pendings r.empty

abbrev pub FallsBy : Fst → ℕ → View → Answer → Type 0
FallsBy f n r (key k v) = view_left f r < n
FallsBy f n r end = Unit {0}
FallsBy f n r (Answer.refused c) = Unit {0}

abbrev pub Falls : Fst → ℕ → Step → Type 0
Falls f n o = FallsBy f n o.reading o.answer

went_falls : (f : Fst) (r : View) (n : ℕ) (w : Went) → WentFalls f n w → Falls f n (after_descend r w)
went_falls f r n (found s v t) h = omega arith
went_falls f r n (passed t) h = tt
went_falls f r n (Went.halted c) h = tt

popped_falls : (f : Fst) (r : View) (n : ℕ) (p : Popped) → PopFalls f n p → Falls f n (after_pop f r p)
popped_falls f r n (top l m s) h =
    went_falls f r n (descend (max_path - length s) f r.bound l m s r.total) (by (max_path - length s) (room_of (length s)))
  where
    -- no room where there are too many levels
    room_of : (k : ℕ) → (max_path - k + k ≤ max_path) ⊎ (max_path - k ≡ 0)
    room_of k = ⊎_elim (λ (a : k < max_path). inl (omega arith)) (λ (a : max_path ≤ k). inr (omega arith)) (lt_or k max_path)

    lift : (w : Went) → WentFalls f (left f (l ∷ s)) w → WentFalls f n w
    lift (found to v t) a = omega (arith, h.2)
    lift (passed t) a = tt
    lift (Went.halted c) a = tt

    by : (d : ℕ) → (d + length s ≤ max_path) ⊎ (d ≡ 0) → WentFalls f n (descend d f r.bound l m s r.total)
    by d (inl a) = lift (descend d f r.bound l m s r.total) (descend_falls d f r.bound l m s r.total a h.0 h.1)
    by d (inr a) = no_room d f r.bound l m s r.total n a
popped_falls f r n used_up h = tt
popped_falls f r n bad h = tt

walk_falls : (f : Fst) (r : View) (o : Option ℕ) → Falls f (left f r.levels + pendings o) (walk f r o)
walk_falls f r (some v) = cond_way (Falls f (left f r.levels + 1)) (passes_test r.bound []) (λ _. tt) (λ _. omega arith)
walk_falls f r none =
    let n : left f r.levels + 0 ≡ left f r.levels = omega arith in
    popped_falls f r (left f r.levels + 0) (pop f r.levels) (rw n (pop_falls f r.levels))

pub next_falls : (s : List ℕ) (r : View) (space : ℕ) → Falls (file_of s) (view_left (file_of s) r) (next s r space)
unfolding next
next_falls s r space = by (opening s)
  where
    by : (o : Opening)
        → Falls (on_opened o (λ m. fst_of s m) (λ n. fst_with s 0 0)) (view_left (on_opened o (λ m. fst_of s m) (λ n. fst_with s 0 0)) r)
        (on_opened o (λ m. cond (state_test r (length s)) (cond (leb max_path space) (walk (fst_of s m) r r.empty) (refuse r SPACE)) (refuse r STATE)) (λ n. refuse r n))
    by (opened m) =
        cond_way (Falls (fst_of s m) (view_left (fst_of s m) r)) (state_test r (length s))
        (λ _. cond_way (Falls (fst_of s m) (view_left (fst_of s m) r)) (leb max_path space) (λ _. walk_falls (fst_of s m) r r.empty) (λ _. tt))
        (λ _. tt)
    by (Opening.refused n) = tt

-- the number of keys to come makes a key a refusal at most
pub plain_falls : (s : List ℕ) (p : Plain) (space : ℕ)
    → FallsBy (file_of s) (view_left (file_of s) p.view) (next_plain s p space).reading.view (next_plain s p space).answer
plain_falls s p space = by (next s p.view space).reading (next s p.view space).answer (next_falls s p.view space)
  where
    by : (r : View) (a : Answer) → FallsBy (file_of s) (view_left (file_of s) p.view) r a
        → FallsBy (file_of s) (view_left (file_of s) p.view) (counting p r a).reading.view (counting p r a).answer
    by r (key k v) h =
        cond_way (λ (o : PlainStep). FallsBy (file_of s) (view_left (file_of s) p.view) o.reading.view o.answer) (eqb p.keys 0)
        {x = record { answer = Answer.refused STATE; reading = p }} {y = record { answer = key k v; reading = plain_with r (p.keys - 1) }} (λ _. tt) (λ _. h)
    by r end h = tt
    by r (Answer.refused n) h = tt

-- ---- the steps of a round

pub data HasUsed : List Card → Type 0 where
  used_here : {c : Card} {cs : List Card} → c.slot ≡ used → HasUsed (c ∷ cs)
  used_on : {c : Card} {cs : List Card} → HasUsed cs → HasUsed (c ∷ cs)

used_cases : (c : Card) (cs : List Card) → HasUsed (c ∷ cs) → (c.slot ≡ used) ⊎ HasUsed cs
used_cases c cs (used_here e) = inl e
used_cases c cs (used_on h) = inr h

abbrev pub StepsFall : List Card → Stepped → Type 0
StepsFall cs (cards ds now) = (all_left ds ≤ all_left cs) × (HasUsed cs → all_left ds < all_left cs)
StepsFall cs (halted n) = Unit {0}

all_left_cons : (c : Card) (cs : List Card) → all_left (c ∷ cs) ≡ slot_left c c.slot + all_left cs
unfolding all_left
all_left_cons c cs = refl

-- a card that was stepped
stepped_falls : (c d : Card) (cs : List Card) (o : Stepped) → slot_left d d.slot < slot_left c c.slot → StepsFall cs o → StepsFall (c ∷ cs) (with_card d true o)
stepped_falls c d cs (cards ds now) h a =
    let x = all_left_cons c cs in
    let y = all_left_cons d ds in
    (omega (arith, a.0), λ _. omega (arith, a.0))
stepped_falls c d cs (halted n) h a = tt

-- a card that was not
kept_falls : (c : Card) (cs : List Card) (o : Stepped) → ¬ (c.slot ≡ used) → StepsFall cs o → StepsFall (c ∷ cs) (with_card c false o)
kept_falls c cs (cards ds now) h a =
    let x = all_left_cons c cs in
    let y = all_left_cons c ds in
    (omega (arith, a.0), λ u. ⊎_elim (λ (e : c.slot ≡ used). absurd (h e)) (λ w. let z = a.1 w in omega arith) (used_cases c cs u))
kept_falls c cs (halted n) h a = tt

answer_falls : (c : Card) (cs : List Card) (r : Plain) (a : Answer) (o : Stepped) → c.slot ≡ used
    → FallsBy (file_of c.file) (view_left (file_of c.file) c.reading.view) r.view a
    → StepsFall cs o → StepsFall (c ∷ cs) (by_answer c.file r a o)
answer_falls c cs r (key k v) o e h more =
    let z : slot_left c c.slot ≡ slot_left c used = ap (slot_left c) e in
    stepped_falls c (card_is c.file r (holds v)) cs o (omega arith) more
answer_falls c cs r end o e h more =
    let z : slot_left c c.slot ≡ slot_left c used = ap (slot_left c) e in
    stepped_falls c (card_is c.file r ended) cs o (omega arith) more
answer_falls c cs r (Answer.refused n) o e h more = tt

one_falls : (space : ℕ) (c : Card) (cs : List Card) (x : Slot) (o : Stepped) → c.slot ≡ x → StepsFall cs o → StepsFall (c ∷ cs) (step_one space c x o)
one_falls space c cs used o e more =
    answer_falls c cs (next_plain c.file c.reading space).reading (next_plain c.file c.reading space).answer o e
    (plain_falls c.file c.reading space) more
one_falls space c cs (holds v) o e more =
    cond_way (StepsFall (c ∷ cs)) (leb (length c.reading.view.levels) max_levels)
    (λ _. kept_falls c cs o (λ (u : c.slot ≡ used). let z : ◌≡◌ {A = ℕ} 0 1 = cc in omega arith) more)
    (λ _. tt)
one_falls space c cs ended o e more = kept_falls c cs o (λ (u : c.slot ≡ used). let z : ◌≡◌ {A = ℕ} 0 1 = cc in omega arith) more

pub step_falls : (space : ℕ) (cs : List Card) → StepsFall cs (step_all space cs)
unfolding step_all
step_falls space [] = (omega arith, λ u. no_card u)
  where
    no_card_by : (cs : List Card) → HasUsed cs → ¬ (cs ≡ [])
    no_card_by _ (used_here h) e = let z : ◌≡◌ {A = ℕ} 0 1 = cc in omega arith
    no_card_by _ (used_on h) e = let z : ◌≡◌ {A = ℕ} 0 1 = cc in omega arith

    no_card : HasUsed [] → all_left [] < all_left []
    no_card u = absurd (no_card_by [] u refl)
step_falls space (c ∷ cs) = one_falls space c cs c.slot (step_all space cs) refl (step_falls space cs)

-- ---- a round that asks for another

pub data HoldsKey (k : List ℕ) : List Card → Type 0 where
  key_here : {c : Card} {cs : List Card} (v : ℕ) → c.slot ≡ holds v → card_key c ≡ k → HoldsKey k (c ∷ cs)
  key_on : {c : Card} {cs : List Card} → HoldsKey k cs → HoldsKey k (c ∷ cs)

least_held : (cs : List Card) (k : List ℕ) → least_key cs ≡ some k → HoldsKey k cs
unfolding least_key
least_held [] k e = let z : ◌≡◌ {A = ℕ} 0 1 = cc in absurd (omega arith)
least_held (c ∷ cs) k e = by c.slot refl e (λ l q. least_held cs l q)
  where
    two : (v : ℕ) → c.slot ≡ holds v → (m : List ℕ) → HoldsKey m cs → (b : Bool) → cond b (some m) (some (card_key c)) ≡ some k → HoldsKey k (c ∷ cs)
    two v s m h true q = let x : m ≡ k = cc in key_on (subst (λ (y : List ℕ). HoldsKey y cs) x h)
    two v s m h false q = let x : card_key c ≡ k = cc in key_here v s x

    held : (v : ℕ) → c.slot ≡ holds v → (o : Option (List ℕ)) → least_key cs ≡ o → lesser (card_key c) o ≡ some k → ((l : List ℕ) → least_key cs ≡ some l → HoldsKey l cs) → HoldsKey k (c ∷ cs)
    held v s none h q more = let x : card_key c ≡ k = cc in key_here v s x
    held v s (some m) h q more = two v s m (more m h) (before_test m (card_key c)) q

    by : (x : Slot) → c.slot ≡ x → if_holds x (λ v. lesser (card_key c) (least_key cs)) (least_key cs) ≡ some k → ((l : List ℕ) → least_key cs ≡ some l → HoldsKey l cs) → HoldsKey k (c ∷ cs)
    by used s q more = key_on (more k q)
    by ended s q more = key_on (more k q)
    by (holds v) s q more = held v s (least_key cs) refl q more

use_left : (P : List ℕ → Bool) (cs : List Card) → all_left (use_up P cs) ≡ all_left cs
unfolding use_up all_left
use_left P [] = refl
use_left P (c ∷ cs) = by c.slot refl (use_left P cs)
  where
    by : (x : Slot) → c.slot ≡ x → all_left (use_up P cs) ≡ all_left cs
        → all_left (if_holds x (λ v. cond (P (card_key c)) (card_is c.file c.reading used) c) c ∷ use_up P cs) ≡ slot_left c c.slot + all_left cs
    by used s more = omega arith
    by ended s more = omega arith
    by (holds v) s more =
        cond_way (λ (d : Card). slot_left d d.slot + all_left (use_up P cs) ≡ slot_left c c.slot + all_left cs) (P (card_key c))
        (λ _. let z : slot_left c c.slot ≡ slot_left c (holds v) = ap (slot_left c) s in omega arith)
        (λ _. omega arith)

use_used : (P : List ℕ → Bool) (k : List ℕ) (cs : List Card) → HoldsKey k cs → P k ≡ true → HasUsed (use_up P cs)
unfolding use_up
use_used P k _ (key_here {c} {cs} v s e) h =
    let t : P (card_key c) ≡ true = ap P e ∙ h in
    let d : if_holds c.slot (λ v. cond (P (card_key c)) (card_is c.file c.reading used) c) c ≡ card_is c.file c.reading used = rw (s, t) in
    used_here (ap (λ (x : Card). x.slot) d)
use_used P k _ (key_on w) h = used_on (use_used P k _ w h)

abbrev pub UsesUp : List Card → Verdict → Type 0
UsesUp cs (this k ps ds) = Unit {0}
UsesUp cs no_more = Unit {0}
UsesUp cs (another ds) = HasUsed ds × (all_left ds ≡ all_left cs)

key_uses : (op : Op) (k : List ℕ) (cs : List Card) → HoldsKey k cs → UsesUp cs (at_key op k cs)
key_uses op k cs h =
    cond_way (UsesUp cs) (takes_test op (length cs) (pairs_from 0 k cs)) (λ _. tt) (λ _. (use_used (λ l. same_test l k) k cs h (same_true k k refl), use_left (λ l. same_test l k) cs))

least_uses : (op : Op) (cs : List Card) → UsesUp cs (at_least op (least_key cs) cs)
least_uses op cs = by (least_key cs) refl
  where
    by : (o : Option (List ℕ)) → least_key cs ≡ o → UsesUp cs (at_least op o cs)
    by none e = tt
    by (some k) e = key_uses op k cs (least_held cs k e)

first_uses : (k : List ℕ) (cs : List Card) → HoldsKey k cs → UsesUp cs (at_first k (least_key cs) cs)
first_uses k cs h = by (least_key cs) refl
  where
    by : (o : Option (List ℕ)) → least_key cs ≡ o → UsesUp cs (at_first k o cs)
    by none e = tt
    by (some l) e =
        cond_way (UsesUp cs) (before_test l k) (λ q. (use_used (λ x. before_test x k) l cs (least_held cs l e) q, use_left (λ x. before_test x k) cs)) (λ _. key_uses difference k cs h)

pub decide_uses : (op : Op) (cs : List Card) → UsesUp cs (decide op cs)
decide_uses union cs = least_uses union cs
decide_uses intersection cs = least_uses intersection cs
decide_uses symmetric cs = least_uses symmetric cs
decide_uses difference [] = tt
decide_uses difference (c ∷ cs) = by c.slot refl
  where
    by : (x : Slot) → c.slot ≡ x → UsesUp (c ∷ cs) (if_holds x (λ v. at_first (card_key c) (least_key (c ∷ cs)) (c ∷ cs)) no_more)
    by used e = tt
    by ended e = tt
    by (holds v) e = first_uses (card_key c) (c ∷ cs) (key_here v e refl)

-- ---- more fuel changes nothing

module _ (op : Op) (space : ℕ) where
  after_cong : (before : Bool) (a b : List Card → Merged) (o : Stepped)
      → ((ds : List Card) (now : Bool) (es : List Card) → o ≡ cards ds now → HasUsed es → all_left es ≡ all_left ds → a es ≡ b es)
      → after_steps op space before a o ≡ after_steps op space before b o
  after_cong before a b (halted n) h = refl
  after_cong before a b (cards ds now) h = by (before || (now || leb max_path space))
    where
      verdict : (v : Verdict) → UsesUp ds v → by_verdict ds a v ≡ by_verdict ds b v
      verdict (this k ps es) u = refl
      verdict no_more u = refl
      verdict (another es) u = h ds now es refl u.0 u.1

      by : (t : Bool) → cond t (by_verdict ds a (decide op ds)) (Merged.refused SPACE) ≡ cond t (by_verdict ds b (decide op ds)) (Merged.refused SPACE)
      by true = verdict (decide op ds) (decide_uses op ds)
      by false = refl

  fallen : (cs ds : List Card) (now : Bool) → step_all space cs ≡ cards ds now → StepsFall cs (cards ds now)
  fallen cs ds now e = subst (StepsFall cs) e (step_falls space cs)

  pub rounds_enough : (n k : ℕ) (before : Bool) (cs : List Card) → HasUsed cs → all_left cs < n → all_left cs < k → rounds n op space before cs ≡ rounds k op space before cs
  unfolding rounds
  rounds_enough zero k before cs u h g = absurd (omega arith)
  rounds_enough (suc n) zero before cs u h g = absurd (omega arith)
  rounds_enough (suc n) (suc k) before cs u h g =
      after_cong before (rounds n op space true) (rounds k op space true) (step_all space cs)
      (λ ds now es e w same. let less = (fallen cs ds now e).1 u in rounds_enough n k true es w (omega arith) (omega arith))

  -- the rounds with fuel enough
  abbrev pub rounds_by : Bool → List Card → Merged
  rounds_by before cs = rounds (suc (suc (all_left cs))) op space before cs

  -- the rounds' own equation: what others cite
  pub rounds_by_lem : (before : Bool) (cs : List Card) → rounds_by before cs ≡ after_steps op space before (rounds_by true) (step_all space cs)
  unfolding rounds
  rounds_by_lem before cs =
      after_cong before (rounds (suc (all_left cs)) op space true) (rounds_by true) (step_all space cs)
      (λ ds now es e w same. let le = (fallen cs ds now e).0 in rounds_enough (suc (all_left cs)) (suc (suc (all_left es))) true es w (omega arith) (omega arith))

-- one call, without fuel
pub next_item_by : (op : Op) (cs : List Card) (space : ℕ)
    → next_item op cs space
    ≡ cond (ltb 0 (length cs) && leb (length cs) 8) (after_steps op space false (rounds_by op space true) (step_all space cs)) (Merged.refused CARDS)
unfolding next_item
next_item_by op cs space = ap (λ (x : Merged). cond (ltb 0 (length cs) && leb (length cs) 8) x (Merged.refused CARDS)) (rounds_by_lem op space false cs)
