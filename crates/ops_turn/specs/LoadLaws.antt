-- What cards have still to do falls with every turn of a round.
--     load_step                a card that is stepped, or left alone, has no more to do than before
--     decide_lighter           the cards of an item, and of another round, have less to do
-- Assumes nothing.
use Prim.{Unit, tt}
use Rattle.std.specs.Prelude.{◌≡◌, Bool, true, false, cond, ◌⊎◌, ℕ, ◌+◌, ◌*◌, ◌<◌, ◌≤◌, leb, length}
use Rattle.std.proofs.Math.Path.{refl, ap, subst}
use Rattle.std.proofs.Common.{sym, ◌∙◌, inl, inr}
use Rattle.std.proofs.Math.Option.{Option, none, some}
use Rattle.format.specs.declared.Refusal.{Refusal}
use mathlib.Core.List.{List, [], ◌∷◌, ◌++◌}
use native.Mathlib.Omega.{arith}
use Rattle.format.specs.Limits.{STATE, max_levels}
use Rattle.format.specs.Strings.{before_test}
use Rattle.ops_spec.specs.Ops as O
use Rattle.ops_spec.specs.Ops.{Op, Slot, used, holds, ended, Card, card_is, card_key, Stepped, cards, halted, with_card, step_one, step_all, if_holds, lesser, least_key, same_test, pairs_from, use_up, takes_test, Verdict, this, no_more, another, at_key, at_least, at_first, decide, slot_left, all_left}
use Rattle.ops_spec.specs.OpsFuelLaws.{cond_way, HasUsed, used_here, StepsFall, step_falls, HoldsKey, key_here, key_on}
use Rattle.ops_spec.specs.OpsListsLaws.{same_true}
use Rattle.ops_round.specs.Cards.{Stepping, Still, Moved, Halted, then_step}
use Rattle.ops_turn.specs.Parts.{holding, weight, load}

pub load_append : (X Y : List Card) → load (X ++ Y) ≡ load X + load Y
unfolding load
load_append [] Y = omega arith
load_append (x ∷ X) Y = let e = load_append X Y in omega arith

pub load_one : (x : Card) (X : List Card) → load (x ∷ X) ≡ weight x + load X
unfolding load
load_one x X = refl

-- ---- a card's part in a round

holding_le : (s : Slot) → holding s ≤ 1
holding_le used = omega arith
holding_le (holds v) = omega arith
holding_le ended = omega arith

module _ (space : ℕ) (x y : Card) (a : Stepping) (goes : (a ≡ Still) ⊎ (a ≡ Moved))
    (steps : (others : Stepped) → step_one space x x.slot others ≡ then_step a y others) where
  one_left : (b : Stepping) → a ≡ b → (b ≡ Still) ⊎ (b ≡ Moved) → x.slot ≡ used → slot_left y y.slot < slot_left x x.slot
  unfolding step_all all_left
  one_left b e (inl q) u =
      let s : StepsFall (x ∷ []) (then_step Still y (cards [] false)) =
      subst (StepsFall (x ∷ [])) (steps (cards [] false) ∙ ap (λ (z : Stepping). then_step z y (cards [] false)) (e ∙ q)) (step_falls space (x ∷ [])) in
      let l = s.1 (used_here u) in
      omega arith
  one_left b e (inr q) u =
      let s : StepsFall (x ∷ []) (then_step Moved y (cards [] false)) =
      subst (StepsFall (x ∷ [])) (steps (cards [] false) ∙ ap (λ (z : Stepping). then_step z y (cards [] false)) (e ∙ q)) (step_falls space (x ∷ [])) in
      let l = s.1 (used_here u) in
      omega arith

  same_by : (b : Stepping) → (b ≡ Still) ⊎ (b ≡ Moved) → cards (x ∷ []) false ≡ then_step b y (cards [] false) → x ≡ y
  same_by b (inl q) e = let f : cards (x ∷ []) false ≡ cards (y ∷ []) false = e ∙ ap (λ (z : Stepping). then_step z y (cards [] false)) q in cc
  same_by b (inr q) e = let f : cards (x ∷ []) false ≡ cards (y ∷ []) true = e ∙ ap (λ (z : Stepping). then_step z y (cards [] false)) q in cc

  not_halted : (b : Stepping) → (b ≡ Still) ⊎ (b ≡ Moved) → (m : Refusal) → halted m ≡ then_step b y (cards [] false) → ⊥
  not_halted b (inl q) m e =
      let f : halted m ≡ cards (y ∷ []) false = e ∙ ap (λ (z : Stepping). then_step z y (cards [] false)) q in
      let z : ◌≡◌ {A = ℕ} 0 1 = cc in
      omega arith
  not_halted b (inr q) m e =
      let f : halted m ≡ cards (y ∷ []) true = e ∙ ap (λ (z : Stepping). then_step z y (cards [] false)) q in
      let z : ◌≡◌ {A = ℕ} 0 1 = cc in
      omega arith

  same : x ≡ y → weight y ≤ weight x
  same e = subst (λ (z : Card). weight z ≤ weight x) e (omega arith)

  by_slot : (s : Slot) → x.slot ≡ s → weight y ≤ weight x
  by_slot used e =
      let l = one_left a refl goes e in
      let h = holding_le y.slot in
      omega arith
  by_slot (holds v) e = by_test (leb (length x.reading.view.levels) max_levels) (sym (ap (λ (s : Slot). step_one space x s (cards [] false)) e) ∙ steps (cards [] false))
    where
      by_test : (t : Bool) → cond t (with_card x false (cards [] false)) (halted STATE) ≡ then_step a y (cards [] false) → weight y ≤ weight x
      by_test true q = same (same_by a goes q)
      by_test false q = absurd (not_halted a goes STATE q)
  by_slot ended e = same (same_by a goes (sym (ap (λ (s : Slot). step_one space x s (cards [] false)) e) ∙ steps (cards [] false)))

  pub load_step : weight y ≤ weight x
  load_step = by_slot x.slot refl

-- ---- what a round comes to

least_held : (cs : List Card) (k : List ℕ) → least_key cs ≡ some k → HoldsKey k cs
unfolding least_key
least_held [] k e = let z : ◌≡◌ {A = ℕ} 0 1 = cc in absurd (omega arith)
least_held (c ∷ cs) k e = by c.slot refl e (λ l q. least_held cs l q)
  where
    two : (v : ℕ) → c.slot ≡ holds v → (m : List ℕ) → HoldsKey m cs → (b : Bool) → cond b (some m) (some (card_key c)) ≡ some k → HoldsKey k (c ∷ cs)
    two v s m h true q = let x : m ≡ k = cc in key_on (subst (λ (y : List ℕ). HoldsKey y cs) x h)
    two v s m h false q = let x : card_key c ≡ k = cc in key_here v s x

    held : (v : ℕ) → c.slot ≡ holds v → (o : Option (List ℕ)) → least_key cs ≡ o → lesser (card_key c) o ≡ some k → ((l : List ℕ) → least_key cs ≡ some l → HoldsKey l cs) → HoldsKey k (c ∷ cs)
    held v s none h q more = let x : card_key c ≡ k = cc in key_here v s x
    held v s (some m) h q more = two v s m (more m h) (before_test m (card_key c)) q

    by : (x : Slot) → c.slot ≡ x → if_holds x (λ v. lesser (card_key c) (least_key cs)) (least_key cs) ≡ some k → ((l : List ℕ) → least_key cs ≡ some l → HoldsKey l cs) → HoldsKey k (c ∷ cs)
    by used s q more = key_on (more k q)
    by ended s q more = key_on (more k q)
    by (holds v) s q more = held v s (least_key cs) refl q more

module _ (P : List ℕ → Bool) where
  abbrev after : Card → Slot → Card
  after c s = if_holds s (λ v. cond (P (card_key c)) (card_is c.file c.reading used) c) c

  used_weight : (c : Card) (v : ℕ) → c.slot ≡ holds v → weight (card_is c.file c.reading used) < weight c
  used_weight c v e =
      let a : slot_left c c.slot ≡ slot_left c (holds v) = ap (slot_left c) e in
      let b : holding c.slot ≡ 1 = ap holding e in
      omega arith

  card_le : (c : Card) (s : Slot) → c.slot ≡ s → weight (after c s) ≤ weight c
  card_le c used e = omega arith
  card_le c ended e = omega arith
  card_le c (holds v) e = cond_way (λ (d : Card). weight d ≤ weight c) (P (card_key c)) (λ _. let l = used_weight c v e in omega arith) (λ _. omega arith)

  card_less : (c : Card) (v : ℕ) → c.slot ≡ holds v → P (card_key c) ≡ true → weight (after c c.slot) < weight c
  card_less c v e t =
      subst (λ (s : Slot). weight (after c s) < weight c) (sym e)
      (subst (λ (b : Bool). weight (cond b (card_is c.file c.reading used) c) < weight c) (sym t) (used_weight c v e))

  use_le : (cs : List Card) → load (use_up P cs) ≤ load cs
  unfolding load use_up
  use_le [] = omega arith
  use_le (c ∷ cs) = let a = card_le c c.slot refl in let b = use_le cs in omega arith

  use_less : (k : List ℕ) (cs : List Card) → HoldsKey k cs → P k ≡ true → load (use_up P cs) < load cs
  unfolding load use_up
  use_less k _ (key_here {c} {cs} v s e) h = let a = card_less c v s (ap P e ∙ h) in let b = use_le cs in omega arith
  use_less k _ (key_on {c} {cs} w) h = let a = card_le c c.slot refl in let b = use_less k cs w h in omega arith

abbrev pub Lighter : List Card → Verdict → Type 0
Lighter cs (this k ps ds) = load ds < load cs
Lighter cs no_more = Unit {0}
Lighter cs (another ds) = load ds < load cs

key_lighter : (op : Op) (k : List ℕ) (cs : List Card) → HoldsKey k cs → Lighter cs (at_key op k cs)
key_lighter op k cs h =
    let l = use_less (λ l. same_test l k) k cs h (same_true k k refl) in
    cond_way (Lighter cs) (takes_test op (length cs) (pairs_from 0 k cs)) (λ _. l) (λ _. l)

least_lighter : (op : Op) (cs : List Card) → Lighter cs (at_least op (least_key cs) cs)
least_lighter op cs = by (least_key cs) refl
  where
    by : (o : Option (List ℕ)) → least_key cs ≡ o → Lighter cs (at_least op o cs)
    by none e = tt
    by (some k) e = key_lighter op k cs (least_held cs k e)

first_lighter : (k : List ℕ) (cs : List Card) → HoldsKey k cs → Lighter cs (at_first k (least_key cs) cs)
first_lighter k cs h = by (least_key cs) refl
  where
    by : (o : Option (List ℕ)) → least_key cs ≡ o → Lighter cs (at_first k o cs)
    by none e = tt
    by (some l) e = cond_way (Lighter cs) (before_test l k) (λ q. use_less (λ x. before_test x k) l cs (least_held cs l e) q) (λ _. key_lighter O.difference k cs h)

pub decide_lighter : (op : Op) (cs : List Card) → Lighter cs (decide op cs)
decide_lighter O.union cs = least_lighter O.union cs
decide_lighter O.intersection cs = least_lighter O.intersection cs
decide_lighter O.symmetric cs = least_lighter O.symmetric cs
decide_lighter O.difference [] = tt
decide_lighter O.difference (c ∷ cs) = by c.slot refl
  where
    by : (x : Slot) → c.slot ≡ x → Lighter (c ∷ cs) (if_holds x (λ v. at_first (card_key c) (least_key (c ∷ cs)) (c ∷ cs)) no_more)
    by used e = tt
    by ended e = tt
    by (holds v) e = first_lighter (card_key c) (c ∷ cs) (key_here v e refl)
