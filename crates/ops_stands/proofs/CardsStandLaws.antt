-- The cards of an operation with what their readings have handed out so far.
--     HandedOut c done here q     calls of next on the file c have handed out done and then here, and left q
--     Over c q                    they have handed out all, and then answered "end"
--     Halts, Waits                a card after the steps of a round; a card before them. P is true of the keys done, U of a key used up, Q of a key held
--     steps_halt                  the steps of a round, with files of another length too: then the call is refused
--     least_case                  the least key held
--     use_waits                   the cards that hold a key such that T are used up
--     all_at                      where readings stand after the steps
-- Assumes nothing.
use Prim.{Unit, tt}
use Rattle.std.specs.Prelude.{◌≡◌, refl, Bool, true, false, cond, ◌⊎◌, ℕ, ◌≤◌, leb, length}
use Rattle.std.proofs.Common.{sym, ap, ap₂, ◌∙◌, ⊎_elim, inl, inr}
use Rattle.std.proofs.Math.Path.{subst}
use Rattle.std.proofs.Math.Option.{Option, none, some}
use mathlib.Core.List.Memᴰ
use mathlib.Core.List.{List, [], ◌∷◌, ◌++◌, append_assoc, append-nil, Memᴰ}
use Rattle.format.specs.Limits.{max_path, max_levels, STATE}
use Rattle.format.specs.Strings.{Before, before_test, Rising}
use Rattle.format.specs.Laws.StringLaws.{before_irrefl, before_asym, decides_before}
use Rattle.reading.specs.Reading.{key_of, Answer, key, end}
use Rattle.reading.specs.Demand.{Entry, hand_out}
use Rattle.reading.proofs.CutLaws.{keys_out}
use Rattle.plain.specs.Plain.{Plain, PlainStep, next_plain}
use Rattle.ops_spec.specs.Ops.{Slot, used, holds, ended, Card, card_is, card_key, Stepped, cards, halted, with_card, by_answer, step_one, step_all, if_holds, lesser, least_key, use_up}
use Rattle.ops_spec.specs.OpsDemand.{Source}
use Rattle.ops_spec.specs.OpsFuelLaws.{cond_way}
use Rattle.ops_spec.specs.OpsListsLaws.{not_before_on}
use Rattle.ops_spec.specs.OpsAheadLaws.{Ahead, ahead_end, ahead_key, plain_room}
use Rattle.ops_spec.specs.OpsWholeLaws.{ahead_of}
use Rattle.ops_calls.specs.OpsLikeLaws.{other_refused}
use Rattle.ops_calls.specs.OpsCallsLaws.{ahead_len}
use Rattle.ops_stands.specs.OpsStands.{StandsAt, AllAt, none_at, one_at, NoKey, readings_in}
use Rattle.ops_stands.proofs.StandingLaws.{Goes, goes_none, goes_key, until_end, until_key, goes_until, until_stands}

-- ---- a card

pub record HandedOut (c : Source) (done : List Entry) (here : Entry) (q : Plain) : Type 0 where
  pub before : Plain
  pub goes : Goes c.file c.reading done before
  pub is : next_plain c.file before max_path ≡ record { answer = hand_out here; reading = q }
  pub rest : List Entry
  pub ahead : Ahead c.file q rest
  pub all : done ++ (here ∷ rest) ≡ (ahead_of c).entries
  pub key : key_of q.view.levels ≡ here.key

pub record Over (c : Source) (q : Plain) : Type 0 where
  pub before : Plain
  pub goes : Goes c.file c.reading (ahead_of c).entries before
  pub is : next_plain c.file before max_path ≡ record { answer = end; reading = q }

abbrev pub Each : (List ℕ → Type 0) → List Entry → Type 0
Each P es = (e : Entry) → Memᴰ e es → P e.key

pub data Halts (P Q : List ℕ → Type 0) (c : Source) (q : Plain) (x : Slot) : Type 0 where
  at : (v : ℕ) (done : List Entry) (here : Entry) → x ≡ holds v → HandedOut c done here q → Each P done → Q here.key → Halts P Q c q x
  over : x ≡ ended → Over c q → Each P (ahead_of c).entries → Halts P Q c q x

-- F is true where a reading is still as its start gave it
pub data Waits (P U Q : List ℕ → Type 0) (F : Type 0) (c : Source) (q : Plain) (x : Slot) : Type 0 where
  fresh : x ≡ used → F → q ≡ c.reading → Waits P U Q F c q x
  behind : (done : List Entry) (here : Entry) → x ≡ used → HandedOut c done here q → Each P done → U here.key → Waits P U Q F c q x
  halts : Halts P Q c q x → Waits P U Q F c q x

-- the file, or one of another length
abbrev pub FileOf : Source → Card → Type 0
FileOf c d = (d.file ≡ c.file) ⊎ (¬ (length d.file ≡ length c.file))

pub data AllCards (X : Source → Plain → Slot → Type 0) : List Source → List Card → Type 0 where
  no_card : AllCards X [] []
  card : {c : Source} {cs : List Source} {d : Card} {ds : List Card} → FileOf c d → X c d.reading d.slot → AllCards X cs ds → AllCards X (c ∷ cs) (d ∷ ds)

pub all_map : {X Y : Source → Plain → Slot → Type 0} → ((c : Source) (q : Plain) (x : Slot) → X c q x → Y c q x) → {cs : List Source} {ds : List Card} → AllCards X cs ds
    → AllCards Y cs ds
all_map f no_card = no_card
all_map f (card {c = c} {d = d} w h more) = card w (f c d.reading d.slot h) (all_map f more)

pub halts_map : {P Q P' Q' : List ℕ → Type 0} → ((k : List ℕ) → P k → P' k) → ((k : List ℕ) → Q k → Q' k) → (c : Source) (q : Plain) (x : Slot) → Halts P Q c q x
    → Halts P' Q' c q x
halts_map f g c q x (at v done here s h p k) = at v done here s h (λ e m. f e.key (p e m)) (g here.key k)
halts_map f g c q x (over s h p) = over s h (λ e m. f e.key (p e m))

-- ---- one step

rising_next : (xs : List Entry) (a b : Entry) (ys : List Entry) → Rising (keys_out (xs ++ (a ∷ b ∷ ys))) → Before a.key b.key
rising_next [] a b ys h = h.0.0
rising_next (x ∷ xs) a b ys h = rising_next xs a b ys h.1

each_snoc : (P : List ℕ → Type 0) (es : List Entry) (e : Entry) → Each P es → P e.key → Each P (es ++ (e ∷ []))
each_snoc P es e h p x m =
    ⊎_elim (λ n. h x n) (λ n. ⊎_elim (λ (q : x ≡ e). rw q p) (λ z. absurd (Memᴰ.not-nil z)) (Memᴰ.cases_cons n)) (Memᴰ.append_cases es m)

abbrev pub StepsHalt : (P Q : List ℕ → Type 0) → List Source → Stepped → Type 0
StepsHalt P Q cs (cards ds now) = AllCards (Halts P Q) cs ds
StepsHalt P Q cs (halted n) = Unit {0}

module _ (P U Q : List ℕ → Type 0) (F : Type 0) (up : (k : List ℕ) → U k → P k) (on : (k l : List ℕ) → U k → Before k l → Q l) (first : F → (l : List ℕ) → Q l)
    (space : ℕ) (room : max_path ≤ space) where
  with_card_lem : (c : Source) (cs : List Source) (d : Card) (b : Bool) (o : Stepped) → FileOf c d → Halts P Q c d.reading d.slot → StepsHalt P Q cs o
      → StepsHalt P Q (c ∷ cs) (with_card d b o)
  with_card_lem c cs d b (cards ds now) w h more = card w h more
  with_card_lem c cs d b (halted n) w h more = tt

  step_from : (c : Source) (cs : List Source) (d : Card) (done rest : List Entry) (o : Stepped) → FileOf c d → Goes c.file c.reading done d.reading
      → Ahead c.file d.reading rest → done ++ rest ≡ (ahead_of c).entries → Each P done → ((e : Entry) (es : List Entry) → rest ≡ e ∷ es → Q e.key)
      → StepsHalt P Q cs o → StepsHalt P Q (c ∷ cs) (step_one space d used o)
  step_from c cs d done rest o (inr ne) goes ahead all p q more =
      let w = other_refused d.file d.reading space (λ z. ne (z ∙ ahead_len c.file d.reading rest ahead)) in
      subst (λ (a : Answer). StepsHalt P Q (c ∷ cs) (by_answer d.file (next_plain d.file d.reading space).reading a o)) (sym w.1) tt
  step_from c cs d done _ o (inl f) goes (ahead_end r e) all p q more =
      let is : next_plain d.file d.reading space ≡ record { answer = end; reading = r } =
      ap (λ (s : List ℕ). next_plain s d.reading space) f ∙ plain_room c.file d.reading space room ∙ e in
      let same : done ≡ (ahead_of c).entries = sym (append-nil done) ∙ all in
      let ends : Over c r = record { before = d.reading; goes = subst (λ (es : List Entry). Goes c.file c.reading es d.reading) same goes; is = e } in
      subst (λ (x : PlainStep). StepsHalt P Q (c ∷ cs) (by_answer d.file x.reading x.answer o)) (sym is)
      (with_card_lem c cs (card_is d.file r ended) true o (inl f) (over refl ends (subst (λ (es : List Entry). Each P es) same p)) more)
  step_from c cs d done _ o (inl f) goes (ahead_key {es = es} x r e k len on-) all p q more =
      let is : next_plain d.file d.reading space ≡ record { answer = hand_out x; reading = r } =
      ap (λ (s : List ℕ). next_plain s d.reading space) f ∙ plain_room c.file d.reading space room ∙ e in
      let h : HandedOut c done x r = record { before = d.reading; goes = goes; is = e; rest = es; ahead = on-; all = all; key = k } in
      subst (λ (y : PlainStep). StepsHalt P Q (c ∷ cs) (by_answer d.file y.reading y.answer o)) (sym is)
      (with_card_lem c cs (card_is d.file r (holds x.value)) true o (inl f) (at x.value done x refl h p (q x es refl)) more)

  step_one_lem : (c : Source) (cs : List Source) (d : Card) (o : Stepped) → FileOf c d → Waits P U Q F c d.reading d.slot → StepsHalt P Q cs o
      → StepsHalt P Q (c ∷ cs) (step_one space d d.slot o)
  step_one_lem c cs d o w (fresh s f same) more =
      subst (λ (x : Slot). StepsHalt P Q (c ∷ cs) (step_one space d x o)) (sym s)
      (step_from c cs d [] (ahead_of c).entries o w (subst (λ (p : Plain). Goes c.file c.reading [] p) (sym same) goes_none)
      (subst (λ (p : Plain). Ahead c.file p (ahead_of c).entries) (sym same) (ahead_of c).ahead) refl (λ e m. absurd (Memᴰ.not-nil m)) (λ e es q. first f e.key) more)
  step_one_lem c cs d o w (behind done here s h p u) more =
      subst (λ (x : Slot). StepsHalt P Q (c ∷ cs) (step_one space d x o)) (sym s)
      (step_from c cs d (done ++ (here ∷ [])) h.rest o w (goes_key here h.goes h.is) h.ahead (append_assoc done (here ∷ []) h.rest ∙ h.all)
      (each_snoc P done here p (up here.key u))
      (λ e es q.
      on here.key e.key u
      (rising_next done here e es (subst (λ (l : List Entry). Rising (keys_out l)) (sym (ap (λ (r : List Entry). done ++ (here ∷ r)) (sym q) ∙ h.all)) (ahead_of c).ascending)))
      more)
  step_one_lem c cs d o w (halts (at v done here s h p q)) more =
      subst (λ (x : Slot). StepsHalt P Q (c ∷ cs) (step_one space d x o)) (sym s)
      (cond_way (StepsHalt P Q (c ∷ cs)) (leb (length d.reading.view.levels) max_levels) {x = with_card d false o} {y = halted STATE}
      (λ _. with_card_lem c cs d false o w (at v done here s h p q) more) (λ _. tt))
  step_one_lem c cs d o w (halts (over s h p)) more =
      subst (λ (x : Slot). StepsHalt P Q (c ∷ cs) (step_one space d x o)) (sym s) (with_card_lem c cs d false o w (over s h p) more)

  pub steps_halt : {cs : List Source} {ds : List Card} → AllCards (Waits P U Q F) cs ds → StepsHalt P Q cs (step_all space ds)
  unfolding step_all
  steps_halt no_card = no_card
  steps_halt (card {c = c} {cs = cs} {d = d} {ds = ds} w h more) = step_one_lem c cs d (step_all space ds) w h (steps_halt more)

-- ---- the least key

pub data LeastCase (P Q : List ℕ → Type 0) (cs : List Source) (ds : List Card) : Option (List ℕ) → Type 0 where
  all_over : AllCards (Halts P NoKey) cs ds → LeastCase P Q cs ds none
  least_at : {k : List ℕ} → Q k → AllCards (Halts P (λ l. Q l × ¬ Before l k)) cs ds → LeastCase P Q cs ds (some k)

module _ (P Q : List ℕ → Type 0) where
  least_over : {cs : List Source} {ds : List Card} (c : Source) (d : Card) (o : Option (List ℕ)) → FileOf c d → d.slot ≡ ended → Over c d.reading → Each P (ahead_of c).entries
      → LeastCase P Q cs ds o → LeastCase P Q (c ∷ cs) (d ∷ ds) o
  least_over c d _ w s h p (all_over more) = all_over (card w (over s h p) more)
  least_over c d _ w s h p (least_at q more) = least_at q (card w (over s h p) more)

  least_held : {cs : List Source} {ds : List Card} (c : Source) (d : Card) (o : Option (List ℕ)) (v : ℕ) (done : List Entry) (here : Entry) → FileOf c d → d.slot ≡ holds v
      → HandedOut c done here d.reading → Each P done → Q here.key → LeastCase P Q cs ds o → LeastCase P Q (c ∷ cs) (d ∷ ds) (lesser here.key o)
  least_held c d _ v done here w s h p q (all_over more) =
      least_at q (card w (at v done here s h p (q, before_irrefl here.key)) (all_map (halts_map (λ k a. a) (λ k a. absurd a)) more))
  least_held {cs} {ds} c d _ v done here w s h p q (least_at {k = l} ql more) = by (before_test l here.key) refl
    where
      by : (b : Bool) → before_test l here.key ≡ b → LeastCase P Q (c ∷ cs) (d ∷ ds) (cond b (some l) (some here.key))
      by true e = let before = (decides_before l here.key).yes e in least_at ql (card w (at v done here s h p (q, (λ a. before_asym a before))) more)
      by false e =
          let after = (decides_before l here.key).no e in
          least_at q
          (card w (at v done here s h p (q, before_irrefl here.key))
          (all_map (halts_map (λ k a. a) (λ k a. (a.0, (λ b. after (not_before_on k l here.key a.1 b))))) more))

  pub least_case : {cs : List Source} {ds : List Card} → AllCards (Halts P Q) cs ds → LeastCase P Q cs ds (least_key ds)
  unfolding least_key
  least_case no_card = all_over no_card
  least_case (card {c = c} {cs = cs} {d = d} {ds = ds} w (at v done here s h p q) more) =
      subst (λ (x : Slot). LeastCase P Q (c ∷ cs) (d ∷ ds) (if_holds x (λ v. lesser (card_key d) (least_key ds)) (least_key ds))) (sym s)
      (subst (λ (k : List ℕ). LeastCase P Q (c ∷ cs) (d ∷ ds) (lesser k (least_key ds))) (sym h.key)
      (least_held c d (least_key ds) v done here w s h p q (least_case more)))
  least_case (card {c = c} {cs = cs} {d = d} {ds = ds} w (over s h p) more) =
      subst (λ (x : Slot). LeastCase P Q (c ∷ cs) (d ∷ ds) (if_holds x (λ v. lesser (card_key d) (least_key ds)) (least_key ds))) (sym s)
      (least_over c d (least_key ds) w s h p (least_case more))

-- ---- keys used up

module _ (P U Q Q' : List ℕ → Type 0) (F : Type 0) (T : List ℕ → Bool) (yes : (k : List ℕ) → Q k → T k ≡ true → U k) (no : (k : List ℕ) → Q k → T k ≡ false → Q' k) where
  abbrev Fits : Source → Card → Type 0
  Fits c d = FileOf c d × Waits P U Q' F c d.reading d.slot

  use_one : (c : Source) (d : Card) → FileOf c d → Halts P Q c d.reading d.slot
      → Fits c (if_holds d.slot (λ v. cond (T (card_key d)) (card_is d.file d.reading used) d) d)
  use_one c d w (at v done here s h p q) =
      subst (λ (x : Slot). Fits c (if_holds x (λ v. cond (T (card_key d)) (card_is d.file d.reading used) d) d)) (sym s)
      (subst (λ (k : List ℕ). Fits c (cond (T k) (card_is d.file d.reading used) d)) (sym h.key) (by (T here.key) refl))
    where
      by : (b : Bool) → T here.key ≡ b → Fits c (cond b (card_is d.file d.reading used) d)
      by true e = (w, behind done here refl h p (yes here.key q e))
      by false e = (w, halts (at v done here s h p (no here.key q e)))
  use_one c d w (over s h p) =
      subst (λ (x : Slot). Fits c (if_holds x (λ v. cond (T (card_key d)) (card_is d.file d.reading used) d) d)) (sym s) (w, halts (over s h p))

  pub use_waits : {cs : List Source} {ds : List Card} → AllCards (Halts P Q) cs ds → AllCards (Waits P U Q' F) cs (use_up T ds)
  unfolding use_up
  use_waits no_card = no_card
  use_waits (card {c = c} {d = d} w h more) = let x = use_one c d w h in card x.0 x.1 (use_waits more)

use_reading : (d : Card) (b : Bool) (x : Slot) → (if_holds x (λ v. cond b (card_is d.file d.reading used) d) d).reading ≡ d.reading
use_reading d b used = refl
use_reading d true (holds v) = refl
use_reading d false (holds v) = refl
use_reading d b ended = refl

pub use_readings : (T : List ℕ → Bool) (ds : List Card) → readings_in (use_up T ds) ≡ readings_in ds
unfolding use_up
use_readings T [] = refl
use_readings T (d ∷ ds) = ap₂ ◌∷◌ (use_reading d (T (card_key d)) d.slot) (use_readings T ds)

-- ---- where they stand

module _ (P Q Stop : List ℕ → Type 0) (on : (k : List ℕ) → P k → ¬ Stop k) (stop : (k : List ℕ) → Q k → Stop k) where
  pub one_stands : (c : Source) (q : Plain) (x : Slot) → Halts P Q c q x → StandsAt c Stop q
  one_stands c q x (at v done here s h p k) =
      until_stands c Stop (some here.key) q (goes_until h.goes (λ e m. on e.key (p e m)) (until_key here h.is (stop here.key k)))
  one_stands c q x (over s h p) = until_stands c Stop none q (goes_until h.goes (λ e m. on e.key (p e m)) (until_end h.is))

  pub all_at : {cs : List Source} {ds : List Card} → AllCards (Halts P Q) cs ds → AllAt Stop cs (readings_in ds)
  all_at no_card = none_at
  all_at (card {c = c} {d = d} w h more) = one_at (one_stands c d.reading d.slot h) (all_at more)
