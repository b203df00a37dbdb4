-- The steps of a round, card after card.
--     then_steps b ds o          the steps of some cards, and then the others'
--     Rounding ..               what is done of a round: the first i cards are stepped, and the rest decides
--     rounding-..               at its start, after a card, and each way out
-- Assumes nothing.
use Rattle.std.specs.Prelude.{◌≡◌, refl, Bool, true, false, ◌||◌, ℕ, ◌+◌, ◌<◌, ◌≤◌, length, get_or, set}
use Rattle.std.proofs.Math.Path.{sym, ap, ap₂}
use Rattle.std.proofs.Common.{◌∙◌, subst, length-set}
use mathlib.Core.List.{List, [], ◌∷◌, ◌++◌, append_assoc, append-nil}
use native.Mathlib.Omega.{arith}
use Rattle.std.proofs.Math.ListN.{take, drop, drop_of_length-le}
use Rattle.std.proofs.Math.Seq.{take-length}
use Rattle.format.specs.declared.Refusal.{Refusal}
use Rattle.ops_spec.specs.Ops as O
use Rattle.ops_spec.specs.Ops.{with_card, step_one, step_all}
use Rattle.ops_round.specs.declared.Card.{Card}
use Rattle.ops_round.specs.Cards.{slot_is, card_is, cards_is, Few, AllFew, Stepping, Still, Moved, Halted, CardStep, then_step, FewAfter, OneStepped}
use Rattle.ops_round.specs.CardsLaws.{cards_length, cards_cons, put_front, put_back, few_put}

abbrev pub then_steps : Bool → List O.Card → O.Stepped → O.Stepped
then_steps b ds (O.cards es more) = O.cards (ds ++ es) (b || more)
then_steps b ds (O.halted n) = O.halted n

or_assoc : (a b c : Bool) → ((a || b) || c) ≡ (a || (b || c))
or_assoc true b c = refl
or_assoc false b c = refl

or_false : (a : Bool) → (a || false) ≡ a
or_false true = refl
or_false false = refl

or_true : (a : Bool) → (a || true) ≡ true
or_true true = refl
or_true false = refl

none_first : (o : O.Stepped) → then_steps false [] o ≡ o
none_first (O.cards es more) = refl
none_first (O.halted n) = refl

one_more : (b m : Bool) (ds : List O.Card) (c : O.Card) (o : O.Stepped) → then_steps b ds (with_card c m o) ≡ then_steps (b || m) (ds ++ (c ∷ [])) o
one_more b m ds c (O.cards es more) = ap₂ O.cards (sym (append_assoc ds (c ∷ []) es)) (sym (or_assoc b m more))
one_more b m ds c (O.halted n) = refl

-- what is done of a round
pub record Rounding (fs : List (List ℕ)) (space n : ℕ) (cs all : List Card) (moved : Bool) (i : ℕ) : Type 0 where
  pub within : i ≤ n
  pub eight : length all ≡ 8
  pub rest : step_all space (cards_is fs n cs) ≡ then_steps moved (take i (cards_is fs n all)) (step_all space (drop i (cards_is fs n all)))
  pub few : AllFew i all

pub rounding_none : (fs : List (List ℕ)) (space n : ℕ) (cs : List Card) → length cs ≡ 8 → Rounding fs space n cs cs false 0
rounding_none fs space n cs len =
    record { within = omega arith; eight = len; rest = sym (none_first (step_all space (cards_is fs n cs))); few = λ j d h. absurd (omega arith) }

module _ (fs : List (List ℕ)) (space n : ℕ) (cs all : List Card) (moved : Bool) (i : ℕ) (R : Rounding fs space n cs all moved i) (small : n ≤ 8) where
  steps_head : (d : Card) → i < n
      → step_all space (drop i (cards_is fs n all))
      ≡ step_one space (card_is (get_or fs i []) (get_or all i d)) (slot_is (get_or all i d).slot) (step_all space (drop (i + 1) (cards_is fs n all)))
  unfolding step_all
  steps_head d h = let eight = R.eight in ap (step_all space) (cards_cons fs n all (omega arith) i h d)

  module _ (d : Card) (h : i < n) (s : CardStep) (one : OneStepped (get_or fs i []) space (get_or all i d) s) where
    head_stepped : step_all space (cards_is fs n cs)
        ≡ then_steps moved (take i (cards_is fs n all))
        (then_step s.answer (card_is (get_or fs i []) s.card) (step_all space (drop (i + 1) (cards_is fs n all))))
    head_stepped = R.rest ∙ ap (then_steps moved (take i (cards_is fs n all))) (steps_head d h ∙ one.steps (step_all space (drop (i + 1) (cards_is fs n all))))

    pub rounding_halted : (k : Refusal) → s.answer ≡ Halted k → step_all space (cards_is fs n cs) ≡ O.halted k
    rounding_halted k e =
        head_stepped
        ∙ ap (λ (x : Stepping). then_steps moved (take i (cards_is fs n all)) (then_step x (card_is (get_or fs i []) s.card) (step_all space (drop (i + 1) (cards_is fs n all))))) e

    few_more : Few s.card → AllFew (i + 1) (set all i s.card)
    few_more one_few j e le = let eight = R.eight in few_put all i j s.card e (omega arith) one_few (λ z. R.few j e (omega arith))

    on : (m : Bool) → Few s.card
        → then_step s.answer (card_is (get_or fs i []) s.card) (step_all space (drop (i + 1) (cards_is fs n all)))
        ≡ with_card (card_is (get_or fs i []) s.card) m (step_all space (drop (i + 1) (cards_is fs n all)))
        → Rounding fs space n cs (set all i s.card) (moved || m) (i + 1)
    on m one_few is =
        let eight = R.eight in
        record {
          within = omega arith;
          eight = length-set all i s.card ∙ eight;
          rest = head_stepped
              ∙ ap (then_steps moved (take i (cards_is fs n all))) is
              ∙ one_more moved m (take i (cards_is fs n all)) (card_is (get_or fs i []) s.card) (step_all space (drop (i + 1) (cards_is fs n all)))
              ∙ ap₂ (λ (ds es : List O.Card). then_steps (moved || m) ds (step_all space es)) (sym (put_front fs n all (omega arith) i h s.card)) (sym (put_back fs n all (omega arith) i h s.card));
          few = few_more one_few;
        }

    pub rounding_still : s.answer ≡ Still → Rounding fs space n cs (set all i s.card) moved (i + 1)
    rounding_still e =
        subst (λ (b : Bool). Rounding fs space n cs (set all i s.card) b (i + 1)) (or_false moved)
        (on false (subst (λ (x : Stepping). FewAfter x s.card) e one.few)
        (ap (λ (x : Stepping). then_step x (card_is (get_or fs i []) s.card) (step_all space (drop (i + 1) (cards_is fs n all)))) e))

    pub rounding_moved : s.answer ≡ Moved → Rounding fs space n cs (set all i s.card) true (i + 1)
    rounding_moved e =
        subst (λ (b : Bool). Rounding fs space n cs (set all i s.card) b (i + 1)) (or_true moved)
        (on true (subst (λ (x : Stepping). FewAfter x s.card) e one.few)
        (ap (λ (x : Stepping). then_step x (card_is (get_or fs i []) s.card) (step_all space (drop (i + 1) (cards_is fs n all)))) e))

  pub done : n ≤ i → step_all space (cards_is fs n cs) ≡ O.cards (cards_is fs n all) moved
  unfolding step_all
  done h =
      let within = R.within in
      let eight = R.eight in
      let len = cards_length fs n all (omega arith) in
      let same : i ≡ n = omega arith in
      let front : take i (cards_is fs n all) ≡ cards_is fs n all = ap (λ (j : ℕ). take j (cards_is fs n all)) (same ∙ sym len) ∙ take-length (cards_is fs n all) in
      let back : drop i (cards_is fs n all) ≡ [] = drop_of_length-le (cards_is fs n all) {i = i} (omega arith) in
      R.rest
      ∙ ap₂ (λ (ds es : List O.Card). then_steps moved ds (step_all space es)) front back
      ∙ ap₂ O.cards (append-nil (cards_is fs n all)) (or_false moved)

  pub few_all : n ≤ i → AllFew n all
  few_all h j d less = let within = R.within in R.few j d (omega arith)
