-- Cards that are handed files of another length: a call is refused, or it answers as with the right files, on any cards whose readings have the lengths
-- of their files.
--     Like gs cs ds       the same readings and slots; cs have the files gs, and for each the card of ds has that file or one of another length
--     other_refused       a call of next with a file of another length is refused
--     steps_like, decide_like, item_like      the steps of a round, what it comes to, a call
-- Assumes nothing.
use Prim.{Unit, tt}
use Rattle.std.specs.Prelude.{◌≡◌, refl, Bool, true, false, cond, ◌&&◌, ◌||◌, ◌⊎◌, List, [], ◌∷◌, ℕ, zero, suc, ◌+◌, ◌-◌, ◌<◌, ◌≤◌, ltb, leb, eqb, length}
use Rattle.std.proofs.Common.{sym, ap, ap₂, ◌∙◌, subst, ⊎_elim, inl, inr, arith, ne_eqb}
use Rattle.std.proofs.Math.Option.{Option, none, some}
use Rattle.format.specs.declared.Refusal.{Refusal}
use Rattle.format.specs.Limits.{max_path, max_levels, SPACE, STATE, CARDS}
use Rattle.format.specs.Opening.{Meta, Opening, opened, opening}
use Rattle.format.specs.Opening as Opening
use Rattle.format.specs.Paths.{Fst, fst_of}
use Rattle.format.specs.Strings.{before_test}
use Rattle.reading.specs.Reading.{View, passes_test, on_opened, Answer, key, end, Step, refuse, Popped, top, used_up, bad, pop, Went, found, passed, descend, after_descend, after_pop, walk, state_test, next}
use Rattle.reading.specs.Reading as R
use Rattle.plain.specs.Plain.{Plain, PlainStep, counting, counted_step, next_plain}
use Rattle.ops_spec.specs.Ops.{Op, union, intersection, difference, symmetric, Slot, used, holds, ended, Card, card_is, card_key, Stepped, cards, halted, with_card, by_answer, step_one, step_all, Indexed, if_holds, lesser, least_key, same_test, insert, indexed, pairs_from, use_up, takes_test, Verdict, this, no_more, another, at_key, at_least, at_first, decide, Merged, item, ending, all_left, by_verdict, after_steps, next_item}
use Rattle.ops_spec.specs.OpsFuelLaws.{cond_way, HasUsed, StepsFall, step_falls, UsesUp, decide_uses, rounds_by, rounds_by_lem, next_item_by}

-- ---- a call of next

next_len_lem : (s : List ℕ) (r : View) (space : ℕ) → (next s r space).reading.len ≡ r.len
unfolding next
next_len_lem s r space = by (opening s)
  where
    down : (w : Went) → (after_descend r w).reading.len ≡ r.len
    down (found l v t) = refl
    down (passed t) = refl
    down (Went.halted n) = refl

    up : (f : Fst) (p : Popped) → (after_pop f r p).reading.len ≡ r.len
    up f (top l m s) = down (descend (max_path - length s) f r.bound l m s r.total)
    up f used_up = refl
    up f bad = refl

    walks : (f : Fst) (o : Option ℕ) → (walk f r o).reading.len ≡ r.len
    walks f (some v) = cond_way (λ (o : Step). o.reading.len ≡ r.len) (passes_test r.bound []) {x = record { answer = end; reading = R.moved r [] r.total }} {y = record { answer = key [] v; reading = R.moved r r.levels r.total }} (λ _. refl) (λ _. refl)
    walks f none = up f (pop f r.levels)

    by : (o : Opening)
        → (on_opened o (λ m. cond (state_test r (length s)) (cond (leb max_path space) (walk (fst_of s m) r r.empty) (refuse r SPACE)) (refuse r STATE)) (λ n. refuse r n)
        ).reading.len
        ≡ r.len
    by (opened m) =
        cond_way (λ (o : Step). o.reading.len ≡ r.len) (state_test r (length s))
        (λ _. cond_way (λ (o : Step). o.reading.len ≡ r.len) (leb max_path space) {y = refuse r SPACE} (λ _. walks (fst_of s m) r.empty) (λ _. refl))
        (λ _. refl)
    by (Opening.refused n) = refl

plain_len : (s : List ℕ) (p : Plain) (space : ℕ) → (next_plain s p space).reading.view.len ≡ p.view.len
plain_len s p space = by (next s p.view space).reading (next s p.view space).answer (next_len_lem s p.view space)
  where
    by : (r : View) (a : Answer) → r.len ≡ p.view.len → (counting p r a).reading.view.len ≡ p.view.len
    by r (key k v) h = cond_way (λ (o : PlainStep). o.reading.view.len ≡ p.view.len) (eqb p.keys 0) (λ _. refl) (λ _. h)
    by r end h = h
    by r (Answer.refused n) h = h

-- a file of another length
pub other_refused : (s : List ℕ) (p : Plain) (space : ℕ) → ¬ (length s ≡ p.view.len) → (n : Refusal) × ((next_plain s p space).answer ≡ Answer.refused n)
unfolding next
other_refused s p space ne = by (opening s)
  where
    wrong : state_test p.view (length s) ≡ false
    wrong = both (leb (length p.view.levels) max_levels) (leb p.view.bound_len max_path) (eqb p.view.len (length s)) (ne_eqb p.view.len (length s) (λ z. ne (sym z)))
      where
        both : (x y z : Bool) → z ≡ false → (x && (y && z)) ≡ false
        both true true z e = e
        both true false z e = refl
        both false y z e = refl

    by : (o : Opening)
        → (n : Refusal)
        × ((counted_step p (on_opened o (λ m. cond (state_test p.view (length s)) (cond (leb max_path space) (walk (fst_of s m) p.view p.view.empty) (refuse p.view SPACE)) (refuse p.view STATE)) (λ n. refuse p.view n))
        ).answer
        ≡ Answer.refused n)
    by (opened m) = (
      STATE,
      ap (λ (b : Bool). (counted_step p (cond b (cond (leb max_path space) (walk (fst_of s m) p.view p.view.empty) (refuse p.view SPACE)) (refuse p.view STATE))).answer) wrong,
    )
    by (Opening.refused n) = (n, refl)

-- ---- cards alike

pub data Like : List (List ℕ) → List Card → List Card → Type 0 where
  no_card : Like [] [] []
  card : {g : List ℕ} {c d : Card} {gs : List (List ℕ)} {cs ds : List Card} → c.file ≡ g → c.reading.view.len ≡ length c.file → c.reading ≡ d.reading
      → c.slot ≡ d.slot → (d.file ≡ c.file) ⊎ (¬ (length d.file ≡ length c.file)) → Like gs cs ds → Like (g ∷ gs) (c ∷ cs) (d ∷ ds)

pub like_length : {gs : List (List ℕ)} {cs ds : List Card} → Like gs cs ds → length cs ≡ length ds
like_length no_card = refl
like_length (card at a b e f more) = ap suc (like_length more)

-- ---- the steps of a round

pub data StepOr : List (List ℕ) → Stepped → Stepped → Type 0 where
  or_halted : {gs : List (List ℕ)} {o : Stepped} (n : Refusal) → StepOr gs o (halted n)
  both_cards : {gs : List (List ℕ)} {cs ds : List Card} {b : Bool} → Like gs cs ds → StepOr gs (cards cs b) (cards ds b)

with_like : {g : List ℕ} {gs : List (List ℕ)} (c d : Card) (b : Bool) (o p : Stepped) → c.file ≡ g → c.reading.view.len ≡ length c.file → c.reading ≡ d.reading → c.slot ≡ d.slot
    → (d.file ≡ c.file) ⊎ (¬ (length d.file ≡ length c.file)) → StepOr gs o p → StepOr (g ∷ gs) (with_card c b o) (with_card d b p)
with_like c d b o _ at fit r s f (or_halted n) = or_halted n
with_like c d b _ _ at fit r s f (both_cards more) = both_cards (card at fit r s f more)

answer_like : {gs : List (List ℕ)} (s : List ℕ) (p : Plain) (a : Answer) (o q : Stepped) → p.view.len ≡ length s → StepOr gs o q
    → StepOr (s ∷ gs) (by_answer s p a o) (by_answer s p a q)
answer_like s p (key k v) o q fit more = with_like (card_is s p (holds v)) (card_is s p (holds v)) true o q refl fit refl refl (inl refl) more
answer_like s p end o q fit more = with_like (card_is s p ended) (card_is s p ended) true o q refl fit refl refl (inl refl) more
answer_like s p (Answer.refused n) o q fit more = or_halted n

one_like : {g : List ℕ} {gs : List (List ℕ)} (space : ℕ) (c d : Card) (x : Slot) (o p : Stepped) → c.file ≡ g → c.reading.view.len ≡ length c.file → c.reading ≡ d.reading
    → c.slot ≡ d.slot → (d.file ≡ c.file) ⊎ (¬ (length d.file ≡ length c.file)) → StepOr gs o p → StepOr (g ∷ gs) (step_one space c x o) (step_one space d x p)
one_like {g} {gs} space c d used o p at fit r s (inl f) more =
    let same : d ≡ card_is c.file c.reading d.slot = ap₂ (λ (y : List ℕ) (z : Plain). card_is y z d.slot) f (sym r) in
    subst (λ (y : Card). StepOr (g ∷ gs) (step_one space c used o) (step_one space y used p)) (sym same)
    (subst (λ (y : List ℕ). StepOr (y ∷ gs) (step_one space c used o) (step_one space (card_is c.file c.reading d.slot) used p)) at
    (answer_like c.file (next_plain c.file c.reading space).reading (next_plain c.file c.reading space).answer o p
    (plain_len c.file c.reading space ∙ fit) more))
one_like {g} {gs} space c d used o p at fit r s (inr ne) more =
    let w = other_refused d.file d.reading space (λ z. ne (z ∙ ap (λ (y : Plain). y.view.len) (sym r) ∙ fit)) in
    subst (λ (a : Answer). StepOr (g ∷ gs) (step_one space c used o) (by_answer d.file (next_plain d.file d.reading space).reading a p)) (sym w.1) (or_halted w.0)
one_like {g} {gs} space c d (holds v) o p at fit r s f more =
    subst
    (λ (y : Plain). StepOr (g ∷ gs) (step_one space c (holds v) o) (cond (leb (length y.view.levels) max_levels) (with_card d false p) (halted STATE)))
    r (by (leb (length c.reading.view.levels) max_levels))
  where
    by : (b : Bool) → StepOr (g ∷ gs) (cond b (with_card c false o) (halted STATE)) (cond b (with_card d false p) (halted STATE))
    by true = with_like c d false o p at fit r s f more
    by false = or_halted STATE
one_like space c d ended o p at fit r s f more = with_like c d false o p at fit r s f more

pub steps_like : (space : ℕ) {gs : List (List ℕ)} {cs ds : List Card} → Like gs cs ds → StepOr gs (step_all space cs) (step_all space ds)
unfolding step_all
steps_like space no_card = both_cards no_card
steps_like space (card {g} {c} {d} {gs} {cs} {ds} at fit r s f more) =
    subst (λ (x : Slot). StepOr (g ∷ gs) (step_one space c c.slot (step_all space cs)) (step_one space d x (step_all space ds))) s
    (one_like space c d c.slot (step_all space cs) (step_all space ds) at fit r s f (steps_like space more))

-- ---- what a round comes to

least_like : {gs : List (List ℕ)} {cs ds : List Card} → Like gs cs ds → least_key cs ≡ least_key ds
unfolding least_key
least_like no_card = refl
least_like (card {c = c} {d = d} at fit r s f more) = rw (s, r, least_like more)

pairs_like : (i : ℕ) (k : List ℕ) {gs : List (List ℕ)} {cs ds : List Card} → Like gs cs ds → pairs_from i k cs ≡ pairs_from i k ds
unfolding pairs_from
pairs_like i k no_card = refl
pairs_like i k (card {c = c} {d = d} at fit r s f more) = rw (s, r, pairs_like (i + 1) k more)

used_like : {g : List ℕ} {gs : List (List ℕ)} (c d : Card) (x : Slot) (b : Bool) (cs ds : List Card) → c.file ≡ g → c.reading.view.len ≡ length c.file → c.reading ≡ d.reading → c.slot ≡ d.slot
    → (d.file ≡ c.file) ⊎ (¬ (length d.file ≡ length c.file)) → Like gs cs ds
    → Like (g ∷ gs) (if_holds x (λ v. cond b (card_is c.file c.reading used) c) c ∷ cs) (if_holds x (λ v. cond b (card_is d.file d.reading used) d) d ∷ ds)
used_like c d used b cs ds at fit r s f more = card at fit r s f more
used_like c d ended b cs ds at fit r s f more = card at fit r s f more
used_like c d (holds v) true cs ds at fit r s f more = card at fit r refl f more
used_like c d (holds v) false cs ds at fit r s f more = card at fit r s f more

use_like : (P : List ℕ → Bool) {gs : List (List ℕ)} {cs ds : List Card} → Like gs cs ds → Like gs (use_up P cs) (use_up P ds)
unfolding use_up
use_like P no_card = no_card
use_like P (card {g} {c} {d} {gs} {cs} {ds} at fit r s f more) =
    let A : Card = if_holds c.slot (λ v. cond (P (card_key c)) (card_is c.file c.reading used) c) c in
    let key : P (card_key c) ≡ P (card_key d) = ap (λ (p : Plain). P (R.key_of p.view.levels)) r in
    subst (λ (x : Slot). Like (g ∷ gs) (A ∷ use_up P cs) (if_holds x (λ v. cond (P (card_key d)) (card_is d.file d.reading used) d) d ∷ use_up P ds)) s
    (subst (λ (b : Bool). Like (g ∷ gs) (A ∷ use_up P cs) (if_holds c.slot (λ v. cond b (card_is d.file d.reading used) d) d ∷ use_up P ds)) key
    (used_like c d c.slot (P (card_key c)) (use_up P cs) (use_up P ds) at fit r s f (use_like P more)))

pub data SameVerdict : List (List ℕ) → Verdict → Verdict → Type 0 where
  same_this : {k : List ℕ} {ps : List Indexed} {gs : List (List ℕ)} {cs ds : List Card} → Like gs cs ds → SameVerdict gs (this k ps cs) (this k ps ds)
  same_end : {gs : List (List ℕ)} → SameVerdict gs no_more no_more
  same_another : {gs : List (List ℕ)} {cs ds : List Card} → Like gs cs ds → SameVerdict gs (another cs) (another ds)

at_like : (op : Op) (k : List ℕ) {gs : List (List ℕ)} {cs ds : List Card} → Like gs cs ds → SameVerdict gs (at_key op k cs) (at_key op k ds)
at_like op k {gs} {cs} {ds} like =
    subst
    (λ (ps : List Indexed).
    SameVerdict gs (at_key op k cs)
    (cond (takes_test op (length ds) ps) (this k ps (use_up (λ l. same_test l k) ds)) (another (use_up (λ l. same_test l k) ds))))
    (pairs_like 0 k like)
    (subst
    (λ (n : ℕ).
    SameVerdict gs (at_key op k cs)
    (cond (takes_test op n (pairs_from 0 k cs)) (this k (pairs_from 0 k cs) (use_up (λ l. same_test l k) ds)) (another (use_up (λ l. same_test l k) ds))))
    (like_length like)
    (by (takes_test op (length cs) (pairs_from 0 k cs)) (use_like (λ l. same_test l k) like)))
  where
    by : (b : Bool) → Like gs (use_up (λ l. same_test l k) cs) (use_up (λ l. same_test l k) ds)
        → SameVerdict gs (cond b (this k (pairs_from 0 k cs) (use_up (λ l. same_test l k) cs)) (another (use_up (λ l. same_test l k) cs)))
        (cond b (this k (pairs_from 0 k cs) (use_up (λ l. same_test l k) ds)) (another (use_up (λ l. same_test l k) ds)))
    by true h = same_this h
    by false h = same_another h

least_verdict : (op : Op) {gs : List (List ℕ)} {cs ds : List Card} → Like gs cs ds → SameVerdict gs (at_least op (least_key cs) cs) (at_least op (least_key ds) ds)
least_verdict op {gs} {cs} {ds} like = subst (λ (o : Option (List ℕ)). SameVerdict gs (at_least op (least_key cs) cs) (at_least op o ds)) (least_like like) (by (least_key cs))
  where
    by : (o : Option (List ℕ)) → SameVerdict gs (at_least op o cs) (at_least op o ds)
    by none = same_end
    by (some k) = at_like op k like

first_verdict : (k : List ℕ) {gs : List (List ℕ)} {cs ds : List Card} → Like gs cs ds → SameVerdict gs (at_first k (least_key cs) cs) (at_first k (least_key ds) ds)
first_verdict k {gs} {cs} {ds} like = subst (λ (o : Option (List ℕ)). SameVerdict gs (at_first k (least_key cs) cs) (at_first k o ds)) (least_like like) (by (least_key cs))
  where
    two : (b : Bool)
        → SameVerdict gs (cond b (another (use_up (λ x. before_test x k) cs)) (at_key difference k cs)) (cond b (another (use_up (λ x. before_test x k) ds)) (at_key difference k ds))
    two true = same_another (use_like (λ x. before_test x k) like)
    two false = at_like difference k like

    by : (o : Option (List ℕ)) → SameVerdict gs (at_first k o cs) (at_first k o ds)
    by none = same_end
    by (some l) = two (before_test l k)

difference_like : {gs : List (List ℕ)} {cs ds : List Card} → Like gs cs ds → SameVerdict gs (decide difference cs) (decide difference ds)
difference_like no_card = same_end
difference_like (card {g} {c} {d} {gs} {cs} {ds} at fit r s f more) =
    subst (λ (x : Slot). SameVerdict (g ∷ gs) (decide difference (c ∷ cs)) (if_holds x (λ v. at_first (card_key d) (least_key (d ∷ ds)) (d ∷ ds)) no_more)) s
    (subst (λ (p : Plain). SameVerdict (g ∷ gs) (decide difference (c ∷ cs)) (if_holds c.slot (λ v. at_first (R.key_of p.view.levels) (least_key (d ∷ ds)) (d ∷ ds)) no_more)) r
    (by c.slot))
  where
    by : (x : Slot)
        → SameVerdict (g ∷ gs) (if_holds x (λ v. at_first (card_key c) (least_key (c ∷ cs)) (c ∷ cs)) no_more) (if_holds x (λ v. at_first (card_key c) (least_key (d ∷ ds)) (d ∷ ds)) no_more)
    by used = same_end
    by ended = same_end
    by (holds v) = first_verdict (card_key c) (card at fit r s f more)

pub decide_like : (op : Op) {gs : List (List ℕ)} {cs ds : List Card} → Like gs cs ds → SameVerdict gs (decide op cs) (decide op ds)
decide_like union like = least_verdict union like
decide_like intersection like = least_verdict intersection like
decide_like symmetric like = least_verdict symmetric like
decide_like difference like = difference_like like

-- ---- a call

pub data SameOr : List (List ℕ) → Merged → Merged → Type 0 where
  or_refused : {gs : List (List ℕ)} {m : Merged} (n : Refusal) → SameOr gs m (Merged.refused n)
  same_item : {k : List ℕ} {ps : List Indexed} {gs : List (List ℕ)} {cs ds : List Card} → Like gs cs ds → SameOr gs (item k ps cs) (item k ps ds)
  same_ending : {gs : List (List ℕ)} {cs ds : List Card} → Like gs cs ds → SameOr gs (ending cs) (ending ds)

module _ (op : Op) (space : ℕ) (gs : List (List ℕ)) where
  -- one round, where another answers alike
  after_like : (before : Bool) (X : List Card) (o p : Stepped) → StepOr gs o p
      → ((ds : List Card) (now : Bool) (es fs : List Card) → o ≡ cards ds now → HasUsed es → all_left es ≡ all_left ds → Like gs es fs → SameOr gs (rounds_by op space true es) (rounds_by op space true fs))
      → SameOr gs (after_steps op space before (rounds_by op space true) o) (after_steps op space before (rounds_by op space true) p)
  after_like before X o _ (or_halted n) again = or_refused n
  after_like before X _ _ (both_cards {cs = cs} {ds = ds} {b = b} like) again =
      by (before || (b || leb max_path space)) (verdict (decide op cs) (decide op ds) (decide_like op like) (decide_uses op cs))
    where
      verdict : (v w : Verdict) → SameVerdict gs v w → UsesUp cs v → SameOr gs (by_verdict cs (rounds_by op space true) v) (by_verdict ds (rounds_by op space true) w)
      verdict _ _ (same_this h) u = same_item h
      verdict _ _ same_end u = same_ending like
      verdict _ _ (same_another {cs = es} {ds = fs} h) u = again cs b es fs refl u.0 u.1 h

      by : (t : Bool) → SameOr gs (by_verdict cs (rounds_by op space true) (decide op cs)) (by_verdict ds (rounds_by op space true) (decide op ds))
          → SameOr gs (cond t (by_verdict cs (rounds_by op space true) (decide op cs)) (Merged.refused SPACE)) (cond t (by_verdict ds (rounds_by op space true) (decide op ds)) (Merged.refused SPACE))
      by true h = h
      by false h = or_refused SPACE

  fallen : (cs ds : List Card) (now : Bool) → step_all space cs ≡ cards ds now → StepsFall cs (cards ds now)
  fallen cs ds now e = subst (StepsFall cs) e (step_falls space cs)

  rounds_like : (n : ℕ) (cs ds : List Card) → all_left cs < n → HasUsed cs → Like gs cs ds → SameOr gs (rounds_by op space true cs) (rounds_by op space true ds)
  rounds_like zero cs ds less u like = absurd (omega arith)
  rounds_like (suc n) cs ds less u like =
      subst (λ (m : Merged). SameOr gs m (rounds_by op space true ds)) (sym (rounds_by_lem op space true cs))
      (subst (λ (m : Merged). SameOr gs (after_steps op space true (rounds_by op space true) (step_all space cs)) m) (sym (rounds_by_lem op space true ds))
      (after_like true cs (step_all space cs) (step_all space ds) (steps_like space like)
      (λ es now fs gs e w same h. let falls = (fallen cs es now e).1 u in rounds_like n fs gs (omega arith) w h)))

  pub item_like : (cs ds : List Card) → Like gs cs ds → SameOr gs (next_item op cs space) (next_item op ds space)
  item_like cs ds like =
      subst (λ (m : Merged). SameOr gs m (next_item op ds space)) (sym (next_item_by op cs space))
      (subst (λ (m : Merged). SameOr gs (by_count cs) m) (sym (next_item_by op ds space))
      (subst (λ (k : ℕ). SameOr gs (by_count cs) (counted k ds)) (like_length like) (by (ltb 0 (length cs) && leb (length cs) 8))))
    where
      counted : ℕ → List Card → Merged
      counted k es = cond (ltb 0 k && leb k 8) (after_steps op space false (rounds_by op space true) (step_all space es)) (Merged.refused CARDS)

      by_count : List Card → Merged
      by_count es = counted (length es) es

      by : (t : Bool)
          → SameOr gs (cond t (after_steps op space false (rounds_by op space true) (step_all space cs)) (Merged.refused CARDS))
          (cond t (after_steps op space false (rounds_by op space true) (step_all space ds)) (Merged.refused CARDS))
      by true =
          after_like false cs (step_all space cs) (step_all space ds) (steps_like space like) (λ es now fs gs e w same h. rounds_like (suc (all_left fs)) fs gs (omega arith) w h)
      by false = or_refused CARDS
