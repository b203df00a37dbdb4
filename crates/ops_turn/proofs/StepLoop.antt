-- The cards of a round stepped one by one.
--     Going ..                              what is done of the loop: each call that was on its way at its start has come to the card number i
--     going_none, going_step, going_skip    at its start, after a card that was stepped, after one that was not
--     going_halted, going_long, going_all   its ways out
--     going_as                              by equations between what stands there
-- Assumes nothing.
use Rattle.std.specs.Prelude.{◌≡◌, refl, Bool, true, false, ◌||◌, ◌⊎◌, List, [], ℕ, ◌+◌, ◌<◌, ◌≤◌, get_or, set, Ok, Err, Result}
use Rattle.std.proofs.Common.{sym, subst, arith}
use Rattle.format.specs.declared.Refusal.{Refusal}
use Rattle.format.specs.Limits.{STATE}
use Rattle.ops_spec.specs.Ops as O
use Rattle.ops_round.specs.declared.Slot.TheVariants.{Used, Ended}
use Rattle.ops_round.specs.declared.Card.{Card}
use Rattle.ops_seen.specs.declared.Seen.{Seen}
use Rattle.ops_seen.specs.Sights.{IsHeld}
use Rattle.ops_turn.specs.declared.SeenStep.{SeenStep}
use Rattle.ops_turn.specs.Parts.{StepGoes, SeenStepped, Turning, Went, CardsStepped}
use Rattle.ops_turn.specs.PartsLaws.{turning_on, turning_skip, turn_halted, turn_long, step_less}

pub record Going (fs : List (List ℕ)) (space n : ℕ) (all₀ : List Card) (ks₀ : List ℕ) (ss₀ : List Seen) (all : List Card) (ks : List ℕ) (ss : List Seen) (i : ℕ) (moved : Bool) : Type 0 where
  pub within : i ≤ n
  pub is : (o : O.Op) (X : List O.Card) (stepped : Bool) → Turning space fs o n X all₀ ks₀ ss₀ 0 stepped → Went space fs o n X all₀ ss₀ all ks ss i (stepped || moved)

or_false : (a : Bool) → a ≡ (a || false)
or_false true = refl
or_false false = refl

or_true : (a : Bool) → true ≡ (a || true)
or_true true = refl
or_true false = refl

pub going_none : (fs : List (List ℕ)) (space n : ℕ) (all : List Card) (ks : List ℕ) (ss : List Seen) → Going fs space n all ks ss all ks ss 0 false
going_none fs space n all ks ss =
    record {
      within = omega arith;
      is = λ o X stepped T. subst (λ (b : Bool). Went space fs o n X all ss all ks ss 0 b) (or_false stepped) (record { turning = T; less = omega arith });
    }

module _ {fs : List (List ℕ)} {space n : ℕ} {all₀ : List Card} {ks₀ : List ℕ} {ss₀ : List Seen} {all : List Card} {ks : List ℕ} {ss : List Seen} {i : ℕ} {moved : Bool}
    (G : Going fs space n all₀ ks₀ ss₀ all ks ss i moved) (small : n ≤ 8) where
  module _ (h : i < n) (d : Card) (e : Seen) (used : (get_or ss i e).slot ≡ Used) (ks' : List ℕ) (r : Result SeenStep Refusal)
      (by : SeenStepped (get_or fs i []) space (get_or all i d).reading i ks ks' r) where
    pub going_halted : (why : Refusal) → r ≡ Err why → CardsStepped fs space n all₀ ks₀ ss₀ all ks' ss (Err why)
    going_halted why t =
        let by_why = subst (SeenStepped (get_or fs i []) space (get_or all i d).reading i ks ks') t by in
        record { is = λ o X stepped T. turn_halted (G.is o X stepped T).turning small h d e used ks' why by_why }

    module _ (s : SeenStep) (t : r ≡ Ok s) where
      goes : StepGoes (get_or fs i []) space (get_or all i d).reading i ks ks' s
      goes = subst (SeenStepped (get_or fs i []) space (get_or all i d).reading i ks ks') t by

      pub going_step : Going fs space n all₀ ks₀ ss₀ (set all i s.card) ks' (set ss i s.seen) (i + 1) true
      going_step =
          record {
            within = omega arith;
            is = λ o X stepped T.
                let W = G.is o X stepped T in
                let fall = step_less W.turning small h d e used ks' s goes in
                let before = W.less in
                subst (λ (b : Bool). Went space fs o n X all₀ ss₀ (set all i s.card) ks' (set ss i s.seen) (i + 1) b) (or_true stepped)
                (record { turning = turning_on W.turning small h d e used ks' s goes; less = omega arith });
          }

  module _ (h : i < n) (e : Seen) where
    pub going_long : IsHeld (get_or ss i e).slot × (256 < (get_or ss i e).key.levels) → CardsStepped fs space n all₀ ks₀ ss₀ all ks ss (Err STATE)
    going_long long = record { is = λ o X stepped T. turn_long (G.is o X stepped T).turning small h e long }

    pub going_skip : IsHeld (get_or ss i e).slot ⊎ ((get_or ss i e).slot ≡ Ended) → (IsHeld (get_or ss i e).slot → (get_or ss i e).key.levels ≤ 256)
        → Going fs space n all₀ ks₀ ss₀ all ks ss (i + 1) moved
    going_skip slot few =
        record {
          within = omega arith;
          is = λ o X stepped T.
              let W = G.is o X stepped T in
              let before = W.less in
              record { turning = turning_skip W.turning small h e slot few; less = omega arith };
        }

  pub going_all : n ≤ i → CardsStepped fs space n all₀ ks₀ ss₀ all ks ss (Ok moved)
  going_all full =
      let inside = G.within in
      let same : i ≡ n = omega arith in
      record { is = λ o X stepped T. subst (λ (j : ℕ). Went space fs o n X all₀ ss₀ all ks ss j (stepped || moved)) same (G.is o X stepped T) }

-- by equations between what stands there
pub going_as : {fs : List (List ℕ)} {space n : ℕ} {all₀ : List Card} {ks₀ : List ℕ} {ss₀ : List Seen} {all all' : List Card} {ks ks' : List ℕ} {ss ss' : List Seen} {i : ℕ} {m m' : Bool}
    → all' ≡ all → ks' ≡ ks → ss' ≡ ss → m' ≡ m → Going fs space n all₀ ks₀ ss₀ all ks ss i m → Going fs space n all₀ ks₀ ss₀ all' ks' ss' i m'
going_as {fs} {space} {n} {all₀} {ks₀} {ss₀} {all} {all'} {ks} {ks'} {ss} {ss'} {i} {m} {m'} a k s b G =
    subst (λ x. Going fs space n all₀ ks₀ ss₀ x ks' ss' i m') (sym a)
    (subst (λ x. Going fs space n all₀ ks₀ ss₀ all x ss' i m') (sym k)
    (subst (λ x. Going fs space n all₀ ks₀ ss₀ all ks x i m') (sym s) (subst (λ x. Going fs space n all₀ ks₀ ss₀ all ks ss i x) (sym b) G)))
