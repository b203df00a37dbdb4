-- The readings of a round stepped one by one.
--     beyond                                what stands for a reading past the eight
--     Going ..                              what is done of the loop: each call that was on its way at its start has come to the reading number i
--     going_none, going_step, going_skip    at its start, after a reading that was stepped, after one that was not
--     going_halted, going_all               its ways out
--     going_as                              by equations between what stands there
--     at_file                               the file that a reading is lent
-- Assumes nothing.
use Rattle.std.specs.Prelude.{◌≡◌, refl, Bool, true, false, ◌||◌, ◌⊎◌, List, [], ℕ, ◌+◌, ◌<◌, ◌≤◌, length, get_or, set, map, Ok, Err, Some, None, Result, Option}
use Rattle.std.proofs.Common.{sym, ap, ◌∙◌, subst, ⊎_elim, arith, length-set, get_or-set_same, get_or-set_other}
use Rattle.std.specs.Borrow.{Bor}
use Rattle.std.proofs.Math.ListN.{get_or-map}
use Rattle.format.specs.declared.Refusal.{Refusal}
use Rattle.format.specs.Limits.{max_path}
use Rattle.format.specs.Strings as S
use Rattle.reading.proofs.RunLaws.{lt_or}
use Rattle.ops_spec.specs.Ops as O
use Rattle.stream.specs.declared.Plain.{Plain}
use Rattle.stream.specs.Plains.{no_plain}
use Rattle.ops_keys.specs.declared.Place.{Place}
use Rattle.ops_keys.specs.Heads.{BytesPut}
use Rattle.ops_round.specs.declared.Slot.{Slot}
use Rattle.ops_round.specs.declared.Slot.TheVariants.{Used, Ended}
use Rattle.ops_round.specs.declared.Card.{Card}
use Rattle.ops_round.specs.Cards.{used_card}
use Rattle.ops_seen.specs.declared.Seen.{Seen}
use Rattle.ops_seen.specs.Sights.{IsHeld}
use Rattle.ops_turn.specs.Parts.{StepGoes, Turning, Went, CardsStepped}
use Rattle.ops_turn.specs.Parts as T
use Rattle.ops_turn.specs.PartsLaws.{step_goes_as, step_halts, turning_on, turning_skip, turn_halted, step_less}
use Rattle.ops_live.specs.declared.Live.{Live}
use Rattle.ops_live.specs.Lives.{plain_of, StandsFor, Fit, AllStand, StepGave, KeyPut}
use Rattle.ops_lives.specs.LiveRounds.{slot_after, LivesStepped}

-- what stands for a reading at a place past the eight
abbrev pub beyond : Live
beyond = record {
  version = 0;
  root = 0;
  empty = None;
  keys = 0;
  standing = record { same = 0; over = false };
  levels = 0;
  stack = record { addrs = []; inps = []; trans = []; outs = [] };
}

-- the calls on the cards have come to the reading number i
pub record OnCards (fs : List (List ℕ)) (n : ℕ) (hi : S.Bound) (all₀ : List Card) (ks₀ : List ℕ) (ss₀ : List Seen) (ls : List Live) (ks : List ℕ) (ss : List Seen) (i : ℕ) (moved : Bool) : Type 0 where
  pub all : List Card
  pub stand : AllStand fs n hi ls all
  pub went : (o : O.Op) (X : List O.Card) (stepped : Bool) → Turning max_path fs o n X all₀ ks₀ ss₀ 0 stepped
      → Went max_path fs o n X all₀ ss₀ all ks ss i (stepped || moved)

pub record Going (fs : List (List ℕ)) (n : ℕ) (hi : S.Bound) (ls₀ : List Live) (ks₀ : List ℕ) (ss₀ : List Seen) (ls : List Live) (ks : List ℕ) (ss : List Seen) (i : ℕ) (moved : Bool) : Type 0 where
  pub within : i ≤ n
  pub eight : length ls ≡ 8
  pub is : (all₀ : List Card) → AllStand fs n hi ls₀ all₀ → OnCards fs n hi all₀ ks₀ ss₀ ls ks ss i moved

or_false : (a : Bool) → a ≡ (a || false)
or_false true = refl
or_false false = refl

or_true : (a : Bool) → true ≡ (a || true)
or_true true = refl
or_true false = refl

pub going_none : (fs : List (List ℕ)) (n : ℕ) (hi : S.Bound) (ls : List Live) (ks : List ℕ) (ss : List Seen) → length ls ≡ 8 → Going fs n hi ls ks ss ls ks ss 0 false
going_none fs n hi ls ks ss eight =
    record {
      within = omega arith;
      eight = eight;
      is = λ all₀ st. record {
        all = all₀;
        stand = st;
        went = λ o X stepped T. subst (λ (b : Bool). Went max_path fs o n X all₀ ss all₀ ks ss 0 b) (or_false stepped) (record { turning = T; less = omega arith });
      };
    }

module _ {fs : List (List ℕ)} {n : ℕ} {hi : S.Bound} {ls₀ : List Live} {ks₀ : List ℕ} {ss₀ : List Seen} {ls : List Live} {ks : List ℕ} {ss : List Seen} {i : ℕ} {moved : Bool}
    (G : Going fs n hi ls₀ ks₀ ss₀ ls ks ss i moved) (small : n ≤ 8) where
  b : Card
  b = used_card no_plain

  module _ (h : i < n) where
    abbrev f : List ℕ
    f = get_or fs i []

    pub going_fit : (d : Live) (all₀ : List Card) → AllStand fs n hi ls₀ all₀ → Fit f hi (get_or ls i d)
    going_fit d all₀ st = ((G.is all₀ st).stand.at i d b h).fit

    module _ (d : Live) (e : Seen) (used : (get_or ss i e).slot ≡ Used) (l : Live) (r : Result (Option ℕ) Refusal)
        (gave : (t : ℕ) → StepGave f hi t (get_or ls i d) l r) where
      -- the step of the card that the reading stands for
      module _ (all : List Card) (st : AllStand fs n hi ls all) where
        abbrev p : Plain
        p = (get_or all i b).reading

        abbrev t : ℕ
        t = (st.at i d b h).total

        is_plain : p ≡ plain_of f hi (get_or ls i d) t
        is_plain = (st.at i d b h).is

        halts : (c : Refusal) → r ≡ Err c → T.StepHalts f max_path p ks ks c
        halts c q =
            let g = subst (StepGave f hi t (get_or ls i d) l) q (gave t) in
            subst (λ (x : Plain). T.StepHalts f max_path x ks ks c) (sym is_plain) (step_halts f max_path (plain_of f hi (get_or ls i d) t) g.call g.gave ks c g.answer)

      pub going_halted : (c : Refusal) → r ≡ Err c → (ls' : List Live) → LivesStepped fs n hi ls₀ ks₀ ss₀ ls' ks ss (Err c)
      going_halted c q ls' =
          record {
            is = λ all₀ st₀.
                let C = G.is all₀ st₀ in
                record {
                  all = C.all;
                  stand = record {};
                  stepped = record { is = λ o X stepped T. turn_halted (C.went o X stepped T).turning small h b e used ks c (halts C.all C.stand c q) };
                };
          }

      module _ (a : Option ℕ) (q : r ≡ Ok a) (ks' : List ℕ) (key : Place) (put : KeyPut l i ks ks' key) (slot : Slot) (slot_is : slot ≡ slot_after a) where
        abbrev sight : Seen
        sight = record { key = key; slot = slot }

        went_to : (t : ℕ) → StepGave f hi t (get_or ls i d) l (Ok a)
        went_to t = subst (StepGave f hi t (get_or ls i d) l) q (gave t)

        -- the card afterwards
        record Goes (p : Plain) : Type 0 where
          card : Card
          goes : StepGoes f max_path p i ks ks' (record { card = card; seen = sight })
          stands : StandsFor f hi l card.reading

        goes_by : (t : ℕ) (x : Option ℕ) → StepGave f hi t (get_or ls i d) l (Ok x) → slot ≡ slot_after x → Goes (plain_of f hi (get_or ls i d) t)
        goes_by t (Some v) g e =
            let s = g.after in
            let m = subst (λ (x : Plain). BytesPut x i ks ks' key) (sym s.is) (put f hi s.total) in
            record {
              card = record { reading = g.call.reading; slot = slot };
              goes = step_goes_as f max_path (plain_of f hi (get_or ls i d) t) g.call g.gave i ks ks' key m (Some (g.answer.0, v)) g.answer.1 slot e;
              stands = s;
            }
        goes_by t None g e =
            let s = g.after in
            let m = subst (λ (x : Plain). BytesPut x i ks ks' key) (sym s.is) (put f hi s.total) in
            record {
              card = record { reading = g.call.reading; slot = slot };
              goes = step_goes_as f max_path (plain_of f hi (get_or ls i d) t) g.call g.gave i ks ks' key m None g.answer slot e;
              stands = s;
            }

        goes_on : (all : List Card) → AllStand fs n hi ls all → Goes (get_or all i b).reading
        goes_on all st =
            let s = st.at i d b h in
            subst Goes (sym s.is) (goes_by s.total a (went_to s.total) slot_is)

        stand_on : (all : List Card) → AllStand fs n hi ls all → (c : Card) → StandsFor f hi l c.reading → AllStand fs n hi (set ls i l) (set all i c)
        stand_on all st c s =
            record {
              lives = length-set ls i l ∙ G.eight;
              eight = length-set all i c ∙ st.eight;
              at = λ j x y less.
                  ⊎_elim (λ (z : j < i). other j x y less (λ w. omega arith))
                  (λ (z : i ≤ j). ⊎_elim (λ (u : i < j). other j x y less (λ w. omega arith)) (λ (u : j ≤ i). same j x y (omega arith)) (lt_or i j)) (lt_or j i);
            }
          where
            other : (j : ℕ) (x : Live) (y : Card) → j < n → ¬ (j ≡ i) → StandsFor (get_or fs j []) hi (get_or (set ls i l) j x) (get_or (set all i c) j y).reading
            other j x y less ne =
                subst (λ (k : Card). StandsFor (get_or fs j []) hi (get_or (set ls i l) j x) k.reading) (sym (get_or-set_other all i j c y ne))
                (subst (λ (k : Live). StandsFor (get_or fs j []) hi k (get_or all j y).reading) (sym (get_or-set_other ls i j l x ne)) (st.at j x y less))

            same : (j : ℕ) (x : Live) (y : Card) → j ≡ i → StandsFor (get_or fs j []) hi (get_or (set ls i l) j x) (get_or (set all i c) j y).reading
            same j x y z =
                let g = G.eight in
                let a = st.eight in
                subst (λ (m : ℕ). StandsFor (get_or fs m []) hi (get_or (set ls i l) m x) (get_or (set all i c) m y).reading) (sym z)
                (subst (λ (k : Card). StandsFor f hi (get_or (set ls i l) i x) k.reading) (sym (get_or-set_same all i c y (omega arith)))
                (subst (λ (k : Live). StandsFor f hi k c.reading) (sym (get_or-set_same ls i l x (omega arith))) s))

        pub going_step : Going fs n hi ls₀ ks₀ ss₀ (set ls i l) ks' (set ss i sight) (i + 1) true
        going_step =
            record {
              within = omega arith;
              eight = length-set ls i l ∙ G.eight;
              is = λ all₀ st₀.
                  let C = G.is all₀ st₀ in
                  let g = goes_on C.all C.stand in
                  record {
                    all = set C.all i g.card;
                    stand = stand_on C.all C.stand g.card g.stands;
                    went = λ o X stepped T.
                        let W = C.went o X stepped T in
                        let fall = step_less W.turning small h b e used ks' (record { card = g.card; seen = sight }) g.goes in
                        let before = W.less in
                        subst (λ (x : Bool). Went max_path fs o n X all₀ ss₀ (set C.all i g.card) ks' (set ss i sight) (i + 1) x) (or_true stepped)
                        (record { turning = turning_on W.turning small h b e used ks' (record { card = g.card; seen = sight }) g.goes; less = omega arith });
                  };
            }

    module _ (d : Live) (e : Seen) where
      pub going_skip : IsHeld (get_or ss i e).slot ⊎ ((get_or ss i e).slot ≡ Ended) → Going fs n hi ls₀ ks₀ ss₀ ls ks ss (i + 1) moved
      going_skip slot =
          record {
            within = omega arith;
            eight = G.eight;
            is = λ all₀ st₀.
                let C = G.is all₀ st₀ in
                let s = C.stand.at i d b h in
                let levels : (get_or C.all i b).reading.reading.levels ≡ (get_or ls i d).levels = ap (λ (x : Plain). x.reading.levels) s.is in
                record {
                  all = C.all;
                  stand = C.stand;
                  went = λ o X stepped T.
                      let W = C.went o X stepped T in
                      let before = W.less in
                      let seen = (W.turning.heads i b e h).levels in
                      let few = s.fit.ready.few in
                      record { turning = turning_skip W.turning small h e slot (λ _. omega arith); less = omega arith };
                };
          }

  pub going_all : n ≤ i → LivesStepped fs n hi ls₀ ks₀ ss₀ ls ks ss (Ok moved)
  going_all full =
      let inside = G.within in
      let same : i ≡ n = omega arith in
      record {
        is = λ all₀ st₀.
            let C = G.is all₀ st₀ in
            record {
              all = C.all;
              stand = C.stand;
              stepped = record { is = λ o X stepped T. subst (λ (j : ℕ). Went max_path fs o n X all₀ ss₀ C.all ks ss j (stepped || moved)) same (C.went o X stepped T) };
            };
      }

-- by equations between what stands there
pub going_as : {fs : List (List ℕ)} {n : ℕ} {hi : S.Bound} {ls₀ : List Live} {ks₀ : List ℕ} {ss₀ : List Seen} {ls ls' : List Live} {ks ks' : List ℕ} {ss ss' : List Seen} {i : ℕ} {m m' : Bool}
    → ls' ≡ ls → ks' ≡ ks → ss' ≡ ss → m' ≡ m → Going fs n hi ls₀ ks₀ ss₀ ls ks ss i m → Going fs n hi ls₀ ks₀ ss₀ ls' ks' ss' i m'
going_as {fs} {n} {hi} {ls₀} {ks₀} {ss₀} {ls} {ls'} {ks} {ks'} {ss} {ss'} {i} {m} {m'} a k s b G =
    subst (λ x. Going fs n hi ls₀ ks₀ ss₀ x ks' ss' i m') (sym a)
    (subst (λ x. Going fs n hi ls₀ ks₀ ss₀ ls x ss' i m') (sym k)
    (subst (λ x. Going fs n hi ls₀ ks₀ ss₀ ls ks x i m') (sym s) (subst (λ x. Going fs n hi ls₀ ks₀ ss₀ ls ks ss i x) (sym b) G)))

-- the file that a reading is lent
pub at_file : (l : List (Bor (List ℕ))) (i : ℕ) (d : Bor (List ℕ)) → d.now ≡ [] → get_or (map (λ (f : Bor (List ℕ)). f.now) l) i [] ≡ (get_or l i d).now
at_file l i d e = ap (get_or (map (λ (f : Bor (List ℕ)). f.now) l) i) (sym e) ∙ get_or-map (λ (f : Bor (List ℕ)). f.now) l i d
