-- A round on its way, card after card, and what it comes to.
--     dealt_length, dealt_at, dealt_set     the cards with the slots seen
--     step_goes                             the step of a reading, by what its call found
--     turning_none, turning_on, turning_skip, turning_again     at a call's start, after a card that was stepped, after one that was not, after a round
--     turn_halted, turn_long                a refusal of a card is that of the call
--     turn_ready, turn_judged, turn_short   all cards have had their part: what is seen of them, and the call by the verdict
--     dealt_is                              the cards dealt by what is seen afterwards
--     step_less, again_less                 the measure falls
-- Assumes nothing.
use Rattle.std.specs.Prelude.{◌≡◌, refl, Bool, true, false, cond, ◌||◌, ◌⊎◌, List, [], ◌∷◌, map, ℕ, zero, suc, ◌+◌, ◌-◌, ◌<◌, ◌≤◌, leb, length, take, drop, get_or, set, Ok, Err, Some, None, Result, Option}
use Rattle.std.proofs.Common.{sym, ap, ◌∙◌, subst, ⊎_elim, inl, inr, arith, length-set, take-append-drop, get_or-take, ext_get_or, get_or-set_same, get_or-set_other}
use Rattle.std.specs.Borrow.{Bor}
use Rattle.std.proofs.Math.ListN.{get_or-map}
use Rattle.std.proofs.lemmas.List.{set-get_or}
use Rattle.format.specs.declared.Refusal.{Refusal}
use Rattle.format.specs.Limits.{max_path, SPACE, STATE}
use Rattle.reading.proofs.RunLaws.{lt_or}
use Rattle.plain.specs.Plain.{next_plain}
use Rattle.ops_spec.specs.Ops as O
use Rattle.ops_spec.specs.Ops.{step_one, step_all, after_steps, by_verdict, decide}
use Rattle.ops_spec.specs.OpsFuelLaws.{rounds_by, rounds_by_lem}
use Rattle.stream.specs.declared.Plain.{Plain}
use Rattle.stream_step.specs.declared.Step.{Step}
use Rattle.stream.specs.Plains.{plain_is, CallGave}
use Rattle.ops_keys.specs.declared.Place.{Place}
use Rattle.ops_keys.specs.Heads.{KeyAt, BytesPut}
use Rattle.ops_round.specs.declared.Slot.{Slot}
use Rattle.ops_round.specs.declared.Slot.TheVariants.{Used, Ended}
use Rattle.ops_round.specs.declared.Card.{Card}
use Rattle.ops_round.specs.Cards.{slot_is, card_is, with_files, cards_is, AllFew, Stepping, Still, Moved, Halted, used_card, OneStepped}
use Rattle.ops_round.specs.CardsLaws.{cards_length, cards_cons, files_at, put_front, put_back}
use Rattle.ops_round.specs.RoundLaws.{Rounding, rounding_none, rounding_halted, rounding_still, rounding_moved, done, few_all}
use Rattle.ops_round.specs.StepLaws.{card_ended, card_held, card_long, card_key_lem, card_end, card_refused}
use Rattle.ops_seen.specs.declared.Seen.{Seen}
use Rattle.ops_seen.specs.Sights.{dealt_card, IsHeld, SeenAt, AllSeen, AllDealt, Sees, SameKeys, Ready, Kept}
use Rattle.ops_seen.specs.SightsLaws.{key_kept, see_few, see_sees, deal_is}
use Rattle.ops_turn.specs.declared.SeenStep.{SeenStep}
use Rattle.ops_turn.specs.Parts.{dealt_all, slot_after, StepHalts, StepGoes, SeenStepped, weight, load, Turning, to_do}
use Rattle.ops_turn.specs.LoadLaws.{load_append, load_one, load_step}

-- ---- the cards with the slots seen

pub dealt_length : (cs : List Card) (ss : List Seen) → length (dealt_all cs ss) ≡ length cs
unfolding dealt_all
dealt_length [] ss = refl
dealt_length (c ∷ cs) [] = ap suc (dealt_length cs [])
dealt_length (c ∷ cs) (s ∷ ss) = ap suc (dealt_length cs ss)

pub dealt_at : (cs : List Card) (ss : List Seen) (i : ℕ) (d : Card) (e : Seen) → i < length cs → i < length ss
    → get_or (dealt_all cs ss) i d ≡ dealt_card (get_or cs i d) (get_or ss i e)
unfolding dealt_all
dealt_at [] ss i d e h g = absurd (omega arith)
dealt_at (c ∷ cs) [] i d e h g = absurd (omega arith)
dealt_at (c ∷ cs) (s ∷ ss) zero d e h g = refl
dealt_at (c ∷ cs) (s ∷ ss) (suc i) d e h g = dealt_at cs ss i d e (omega arith) (omega arith)

pub dealt_set : (cs : List Card) (ss : List Seen) (i : ℕ) (c : Card) (s : Seen) → i < length ss
    → dealt_all (set cs i c) (set ss i s) ≡ set (dealt_all cs ss) i (dealt_card c s)
unfolding dealt_all
dealt_set [] ss i c s h = refl
dealt_set (x ∷ cs) [] i c s h = absurd (omega arith)
dealt_set (x ∷ cs) (y ∷ ss) zero c s h = refl
dealt_set (x ∷ cs) (y ∷ ss) (suc i) c s h = ap (λ (l : List Card). dealt_card x y ∷ l) (dealt_set cs ss i c s (omega arith))

-- a card with the slot that it has
dealt_same : (c : Card) (s : Seen) → s.slot ≡ c.slot → dealt_card c s ≡ c
dealt_same c s e = ap (λ (x : Slot). record { reading = c.reading; slot = x }) e

some_of : {A : Type 0} (l : List A) → 0 < length l → A
some_of [] h = absurd (omega arith)
some_of (x ∷ l) h = x

-- the same cards, place by place
cards_same : (fs : List (List ℕ)) (n : ℕ) (cs ds : List Card) (b : Card) → n ≤ length cs → n ≤ length ds → ((i : ℕ) → i < n → get_or cs i b ≡ get_or ds i b) → cards_is fs n cs ≡ cards_is fs n ds
cards_same fs n cs ds b hc hd at =
    let lc = cards_length fs n cs hc in
    let ld = cards_length fs n ds hd in
    ext_get_or (card_is [] b) (cards_is fs n cs) (cards_is fs n ds) (lc ∙ sym ld) (λ i h. one i (omega arith))
  where
    one : (i : ℕ) → i < n → get_or (cards_is fs n cs) i (card_is [] b) ≡ get_or (cards_is fs n ds) i (card_is [] b)
    one i h =
        get_or-take n (with_files fs cs) i (card_is [] b) h
        ∙ files_at fs cs i (card_is [] b) b (omega arith)
        ∙ ap (card_is (get_or fs i [])) (at i h)
        ∙ sym (get_or-take n (with_files fs ds) i (card_is [] b) h ∙ files_at fs ds i (card_is [] b) b (omega arith))

load_none : load [] ≡ 0
unfolding load
load_none = refl

-- ---- a reading that is stepped

module _ (f : List ℕ) (space : ℕ) (p : Plain) (g : Step Plain) (gave : CallGave (next_plain f (plain_is p) space) g) where
  -- by what the call found
  pub step_goes : (i : ℕ) (ks₀ ks : List ℕ) (key : Place) → BytesPut g.reading i ks₀ ks key → (a : Option (ℕ × ℕ)) → g.answer ≡ Ok a
      → StepGoes f space p i ks₀ ks (record { card = record { reading = g.reading; slot = slot_after a }; seen = record { key = key; slot = slot_after a } })
  step_goes i ks₀ ks key put (Some (n, v)) e = record { goes = card_key_lem f space p g gave n v e; seen = record { slot = refl; put = put } }
  step_goes i ks₀ ks key put None e = record { goes = card_end f space p g gave e; seen = record { slot = refl; put = put } }

  -- by the slot that it got
  pub step_goes_as : (i : ℕ) (ks₀ ks : List ℕ) (key : Place) → BytesPut g.reading i ks₀ ks key → (a : Option (ℕ × ℕ)) → g.answer ≡ Ok a → (t : Slot) → t ≡ slot_after a
      → StepGoes f space p i ks₀ ks (record { card = record { reading = g.reading; slot = t }; seen = record { key = key; slot = t } })
  step_goes_as i ks₀ ks key put a e t is =
      subst (λ (x : Slot). StepGoes f space p i ks₀ ks (record { card = record { reading = g.reading; slot = x }; seen = record { key = key; slot = x } })) (sym is)
      (step_goes i ks₀ ks key put a e)

  pub step_halts : (ks : List ℕ) (why : Refusal) → g.answer ≡ Err why → StepHalts f space p ks ks why
  step_halts ks why e = record { halts = λ c. card_refused f space p g gave c why e; kept = refl }

-- ---- a call's start

pub turning_none : (space : ℕ) (fs : List (List ℕ)) (o : O.Op) (n : ℕ) (cs : List Card) (ks : List ℕ) (ss : List Seen) → n ≤ 8 → AllSeen n cs ks ss
    → Turning space fs o n (cards_is fs n cs) cs ks ss 0 false
turning_none space fs o n cs ks ss small all =
    let g = all.given in
    let e = all.eight in
    let b : Card = some_of cs (omega arith) in
    let s : Seen = some_of ss (omega arith) in
    let len = dealt_length cs ss in
    record {
      base = dealt_all cs ss;
      moved = false;
      before = false;
      told = refl;
      round = rounding_none fs space n (dealt_all cs ss) (len ∙ g);
      call = ap (rounds_by o space false)
          (cards_same fs n cs (dealt_all cs ss) b (omega arith) (omega arith)
          (λ i h. sym (dealt_at cs ss i b s (omega arith) (omega arith) ∙ dealt_same (get_or cs i b) (get_or ss i s) (all.at i b s h).slot)));
      heads = λ j d q h. (all.at j d q h).key;
      cards_len = g;
      seen_len = e;
      keys_len = all.long;
    }

-- ---- a round on its way

or_true : (a : Bool) → true ≡ (a || true)
or_true true = refl
or_true false = refl

module _ {space : ℕ} {fs : List (List ℕ)} {o : O.Op} {n : ℕ} {X : List O.Card} {all : List Card} {ks : List ℕ} {ss : List Seen} {i : ℕ} {stepped : Bool}
    (T : Turning space fs o n X all ks ss i stepped) (small : n ≤ 8) where
  abbrev D : List Card
  D = dealt_all all ss

  D-len : length D ≡ 8
  D-len = dealt_length all ss ∙ T.cards_len

  -- the call by what this round's steps come to
  by_steps : rounds_by o space false X ≡ after_steps o space T.before (rounds_by o space true) (step_all space (cards_is fs n T.base))
  by_steps = T.call ∙ rounds_by_lem o space T.before (cards_is fs n T.base)

  module _ (h : i < n) (d : Card) (e : Seen) where
    abbrev c : Card
    c = get_or all i d

    abbrev s : Seen
    s = get_or ss i e

    abbrev f : List ℕ
    f = get_or fs i []

    here : get_or D i d ≡ dealt_card c s
    here = let a = T.cards_len in let b = T.seen_len in dealt_at all ss i d e (omega arith) (omega arith)

    halts : (why : Refusal) (x : Card) → OneStepped f space (get_or D i d) (record { answer = Halted why; card = x }) → rounds_by o space false X ≡ O.Merged.refused why
    halts why x one =
        by_steps
        ∙ ap (after_steps o space T.before (rounds_by o space true))
        (rounding_halted fs space n T.base D T.moved i T.round small d h (record { answer = Halted why; card = x }) one why refl)

    -- ---- its key is used up

    module _ (used : s.slot ≡ Used) (ks' : List ℕ) where
      one_of : (a : Stepping) (y : Card) → OneStepped f space (used_card c.reading) (record { answer = a; card = y })
          → OneStepped f space (get_or D i d) (record { answer = a; card = y })
      one_of a y one =
          subst (λ (x : Card). OneStepped f space x (record { answer = a; card = y })) (sym here)
          (record {
            steps = λ others. ap (λ (x : O.Slot). step_one space (O.card_is f (plain_is c.reading) x) x others) (ap slot_is used) ∙ one.steps others;
            few = one.few;
          })

      pub turn_halted : (why : Refusal) → StepHalts f space c.reading ks ks' why → rounds_by o space false X ≡ O.Merged.refused why
      turn_halted why by = halts why c (one_of (Halted why) c (by.halts c))

      module _ (r : SeenStep) (by : StepGoes f space c.reading i ks ks' r) where
        one : OneStepped f space (get_or D i d) (record { answer = Moved; card = r.card })
        one = one_of Moved r.card by.goes

        set_is : dealt_all (set all i r.card) (set ss i r.seen) ≡ set D i r.card
        set_is =
            let b = T.seen_len in
            dealt_set all ss i r.card r.seen (omega arith) ∙ ap (set D i) (dealt_same r.card r.seen by.seen.slot)

        heads_on : (j : ℕ) (x : Card) (q : Seen) → j < n → KeyAt ks' (get_or (set all i r.card) j x).reading j (get_or (set ss i r.seen) j q).key
        heads_on j x q l =
            ⊎_elim (λ (z : j < i). other (λ w. omega arith))
            (λ (z : i ≤ j). ⊎_elim (λ (y : i < j). other (λ w. omega arith)) (λ (y : j ≤ i). same (omega arith)) (lt_or i j)) (lt_or j i)
          where
            other : ¬ (j ≡ i) → KeyAt ks' (get_or (set all i r.card) j x).reading j (get_or (set ss i r.seen) j q).key
            other ne =
                subst (λ (k : Card). KeyAt ks' k.reading j (get_or (set ss i r.seen) j q).key) (sym (get_or-set_other all i j r.card x ne))
                (subst (λ (k : Seen). KeyAt ks' (get_or all j x).reading j k.key) (sym (get_or-set_other ss i j r.seen q ne))
                (key_kept r.card.reading (get_or all j x).reading i j ks ks' r.seen.key (get_or ss j q).key by.seen.put (omega arith) ne (T.heads j x q l)))

            same : j ≡ i → KeyAt ks' (get_or (set all i r.card) j x).reading j (get_or (set ss i r.seen) j q).key
            same z =
                let a = T.cards_len in
                let b = T.seen_len in
                subst (λ (m : ℕ). KeyAt ks' (get_or (set all i r.card) m x).reading m (get_or (set ss i r.seen) m q).key) (sym z)
                (subst (λ (k : Card). KeyAt ks' k.reading i (get_or (set ss i r.seen) i q).key) (sym (get_or-set_same all i r.card x (omega arith)))
                (subst (λ (k : Seen). KeyAt ks' r.card.reading i k.key) (sym (get_or-set_same ss i r.seen q (omega arith))) by.seen.put.here))

        pub turning_on : Turning space fs o n X (set all i r.card) ks' (set ss i r.seen) (i + 1) true
        turning_on =
            record {
              base = T.base;
              moved = true;
              before = T.before;
              told = or_true T.before;
              round = subst (λ (l : List Card). Rounding fs space n T.base l true (i + 1)) (sym set_is)
                  (rounding_moved fs space n T.base D T.moved i T.round small d h (record { answer = Moved; card = r.card }) one refl);
              call = T.call;
              heads = heads_on;
              cards_len = length-set all i r.card ∙ T.cards_len;
              seen_len = length-set ss i r.seen ∙ T.seen_len;
              keys_len = by.seen.put.long;
            }

        pub step_less : to_do fs n (set all i r.card) (set ss i r.seen) (i + 1) < to_do fs n all ss i
        step_less =
            let len = D-len in
            let Y : List O.Card = cards_is fs n D in
            let Z : List O.Card = cards_is fs n (set D i r.card) in
            let x : O.Card = card_is f (get_or D i d) in
            let y : O.Card = card_is f r.card in
            let w : weight y ≤ weight x = load_step space x y Moved (inr refl) one.steps in
            let old : load Y ≡ load (take i Y) + (weight x + load (drop (i + 1) Y)) =
            ap load (sym (take-append-drop i Y))
            ∙ load_append (take i Y) (drop i Y)
            ∙ ap (λ (l : List O.Card). load (take i Y) + load l) (cards_cons fs n D (omega arith) i h d)
            ∙ ap (λ (m : ℕ). load (take i Y) + m) (load_one x (drop (i + 1) Y)) in
            let front : load (take (i + 1) Z) ≡ load (take i Y) + (weight y + load []) =
            ap load (put_front fs n D (omega arith) i h r.card) ∙ load_append (take i Y) (y ∷ []) ∙ ap (λ (m : ℕ). load (take i Y) + m) (load_one y []) in
            let new : load Z ≡ load (take (i + 1) Z) + load (drop (i + 1) Y) =
            ap load (sym (take-append-drop (i + 1) Z))
            ∙ load_append (take (i + 1) Z) (drop (i + 1) Z)
            ∙ ap (λ (l : List O.Card). load (take (i + 1) Z) + load l) (put_back fs n D (omega arith) i h r.card) in
            let same : load (cards_is fs n (dealt_all (set all i r.card) (set ss i r.seen))) ≡ load Z = ap (λ (l : List Card). load (cards_is fs n l)) set_is in
            let none : load [] ≡ 0 = load_none in
            omega arith

  -- ---- its key is held, or its reading has ended

  module _ (h : i < n) (e : Seen) where
    x : Card
    x = let l = T.cards_len in some_of all (omega arith)

    abbrev held : Card
    held = dealt_card (get_or all i x) (get_or ss i e)

    pub turn_long : IsHeld (get_or ss i e).slot × (256 < (get_or ss i e).key.levels) → rounds_by o space false X ≡ O.Merged.refused STATE
    turn_long (holds, long) =
        let l = (T.heads i x e h).levels in
        halts h x e STATE held
        (subst (λ (c : Card). OneStepped (get_or fs i []) space c (record { answer = Halted STATE; card = held })) (sym (here h x e)) (card_long (get_or fs i []) space held holds.value holds.is (omega arith)))

    still : IsHeld (get_or ss i e).slot ⊎ ((get_or ss i e).slot ≡ Ended) → (IsHeld (get_or ss i e).slot → (get_or ss i e).key.levels ≤ 256)
        → OneStepped (get_or fs i []) space held (record { answer = Still; card = held })
    still (inl holds) few = let l = (T.heads i x e h).levels in let m = few holds in card_held (get_or fs i []) space held holds.value holds.is (omega arith)
    still (inr ended) few = card_ended (get_or fs i []) space held ended

    pub turning_skip : IsHeld (get_or ss i e).slot ⊎ ((get_or ss i e).slot ≡ Ended) → (IsHeld (get_or ss i e).slot → (get_or ss i e).key.levels ≤ 256)
        → Turning space fs o n X all ks ss (i + 1) stepped
    turning_skip slot few =
        let one : OneStepped (get_or fs i []) space (get_or D i x) (record { answer = Still; card = get_or D i x }) =
        subst (λ (c : Card). OneStepped (get_or fs i []) space c (record { answer = Still; card = c })) (sym (here h x e)) (still slot few) in
        record {
          base = T.base;
          moved = T.moved;
          before = T.before;
          told = T.told;
          round = subst (λ (l : List Card). Rounding fs space n T.base l T.moved (i + 1)) (set-get_or D i x)
              (rounding_still fs space n T.base D T.moved i T.round small x h (record { answer = Still; card = get_or D i x }) one refl);
          call = T.call;
          heads = T.heads;
          cards_len = T.cards_len;
          seen_len = T.seen_len;
          keys_len = T.keys_len;
        }

  -- ---- all cards have had their part

  module _ (some_card : 0 < n) (full : n ≤ i) where
    abbrev Y : List O.Card
    Y = cards_is fs n D

    b : Card
    b = let l = T.cards_len in some_of all (omega arith)

    q : Seen
    q = let l = T.seen_len in some_of ss (omega arith)

    all_seen : AllSeen n D ks ss
    all_seen =
        record {
          at = λ j d e l.
              let a = T.cards_len in
              let g = T.seen_len in
              subst (λ (x : Card). SeenAt ks x j (get_or ss j e)) (sym (dealt_at all ss j d e (omega arith) (omega arith)))
              (record { slot = refl; key = T.heads j d e l });
          eight = T.seen_len;
          given = D-len;
          long = T.keys_len;
        }

    few : AllFew n D
    few = few_all fs space n T.base D T.moved i T.round small full

    pub turn_sees : Sees ks n ss Y
    turn_sees = see_sees n D ks ss all_seen small fs b few

    pub turn_ready : Ready ks n ss
    turn_ready = record { few = λ j d l. see_few n D ks ss all_seen small few j d l b; cards = Y; sees = turn_sees }

    round_done : rounds_by o space false X
        ≡ cond (T.before || (T.moved || leb max_path space)) (by_verdict Y (rounds_by o space true) (decide o Y)) (O.Merged.refused SPACE)
    round_done = by_steps ∙ ap (after_steps o space T.before (rounds_by o space true)) (done fs space n T.base D T.moved i T.round small full)

    room : (x y z : Bool) → (x || (y || z)) ≡ ((x || y) || z)
    room true y z = refl
    room false y z = refl

    by_room : (t : Bool) → (stepped || leb max_path space) ≡ t
        → rounds_by o space false X ≡ cond t (by_verdict Y (rounds_by o space true) (decide o Y)) (O.Merged.refused SPACE)
    by_room t e =
        round_done
        ∙ ap (λ (x : Bool). cond x (by_verdict Y (rounds_by o space true) (decide o Y)) (O.Merged.refused SPACE))
        (room T.before T.moved (leb max_path space) ∙ ap (λ (x : Bool). x || leb max_path space) (sym T.told) ∙ e)

    pub turn_judged : (stepped || leb max_path space) ≡ true → rounds_by o space false X ≡ by_verdict Y (rounds_by o space true) (decide o Y)
    turn_judged e = by_room true e

    pub turn_short : (stepped || leb max_path space) ≡ false → rounds_by o space false X ≡ O.Merged.refused SPACE
    turn_short e = by_room false e

    module _ (marked : List Seen) (len : length marked ≡ 8) (W : List O.Card) (sees : Sees ks n marked W) (kept : Kept Y W) where
      pub dealt_is : (r : List Card) → AllDealt n all marked r → cards_is fs n r ≡ W
      dealt_is r dealt =
          let a = T.cards_len in
          let g = T.seen_len in
          let c = sees.count in
          deal_is n D marked r D-len small
          (record {
            at = λ j d e l.
                dealt.at j d e l ∙ ap (λ (x : Card). dealt_card x (get_or marked j e)) (sym (dealt_at all ss j d q (omega arith) (omega arith)));
            eight = dealt.eight;
          })
          fs W b q (some_of W (omega arith)) ks sees kept

      marked_is : cards_is fs n (dealt_all all marked) ≡ W
      marked_is =
          let a = T.cards_len in
          dealt_is (dealt_all all marked)
          (record { at = λ j d e l. dealt_at all marked j d e (omega arith) (omega arith); eight = dealt_length all marked ∙ T.cards_len })

      -- this call goes on, or another begins, from the cards W
      module _ (keys : SameKeys n ss marked) where
        or_none : (x : Bool) → x ≡ (x || false)
        or_none true = refl
        or_none false = refl

        heads_kept : (j : ℕ) (d : Card) (e : Seen) → j < n → KeyAt ks (get_or all j d).reading j (get_or marked j e).key
        heads_kept j d e l = subst (KeyAt ks (get_or all j d).reading j) (sym (keys.at j e l)) (T.heads j d e l)

        again : (Q : List O.Card) (before : Bool) → rounds_by o space false Q ≡ rounds_by o space before W → Turning space fs o n Q all ks marked 0 before
        again Q before e =
            let m = dealt_length all marked in
            record {
              base = dealt_all all marked;
              moved = false;
              before = before;
              told = or_none before;
              round = rounding_none fs space n (dealt_all all marked) (m ∙ T.cards_len);
              call = e ∙ ap (rounds_by o space before) (sym marked_is);
              heads = heads_kept;
              cards_len = T.cards_len;
              seen_len = len;
              keys_len = T.keys_len;
            }

        pub turning_item : Turning space fs o n W all ks marked 0 false
        turning_item = again W false refl

        pub turning_again : (stepped || leb max_path space) ≡ true → decide o Y ≡ O.another W → Turning space fs o n X all ks marked 0 true
        turning_again t e = again X true (turn_judged t ∙ ap (by_verdict Y (rounds_by o space true)) e)

      pub again_less : load W < load Y → to_do fs n all marked 0 < to_do fs n all ss i
      again_less l = let e = ap load marked_is in omega arith

-- the file that a card is lent
pub at_file : (l : List (Bor (List ℕ))) (space i : ℕ) (p : Plain) (ks₀ ks : List ℕ) (r : Result SeenStep Refusal) (d : Bor (List ℕ)) → SeenStepped (get_or l i d).now space p i ks₀ ks r → d.now ≡ []
    → SeenStepped (get_or (map (λ (f : Bor (List ℕ)). f.now) l) i []) space p i ks₀ ks r
at_file l space i p ks₀ ks r d h e =
    let same : get_or (map (λ (f : Bor (List ℕ)). f.now) l) i [] ≡ (get_or l i d).now =
    ap (get_or (map (λ (f : Bor (List ℕ)). f.now) l) i) (sym e) ∙ get_or-map (λ (f : Bor (List ℕ)). f.now) l i d in
    subst (λ (f : List ℕ). SeenStepped f space p i ks₀ ks r) (sym same) h
