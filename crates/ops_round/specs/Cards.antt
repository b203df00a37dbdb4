-- What cards and the steps of a round stand for, against `step_all` (crate ops_spec).
--     card_is f c                 what a card says, with the file that it is lent
--     cards_is fs n cs            the first n cards, with their files
--     then_step                   the steps after a card's
--     Few c, AllFew n cs         a card that holds a key has at most 256 levels; so do the first n
--     used_card p                 the card of a reading whose key is used up
--     OneStepped                 a card after its part in a round
-- Assumes nothing.
use Prim.{Unit}
use Rattle.std.specs.Prelude.{◌≡◌, true, false, List, [], ◌∷◌, ℕ, ◌≤◌, ◌<◌, take, get_or}
use Rattle.format.specs.declared.Refusal.{Refusal}
use Rattle.format.specs.Limits.{max_levels}
use Rattle.ops_spec.specs.Ops as O
use Rattle.ops_spec.specs.Ops.{with_card, step_one}
use Rattle.stream.specs.declared.Plain.{Plain}
use Rattle.stream.specs.Plains.{plain_is}
use Rattle.ops_round.specs.declared.Slot.{Slot}
use Rattle.ops_round.specs.declared.Slot.TheVariants.{Used, Holds, Ended}
use Rattle.ops_round.specs.declared.Card.{Card}

abbrev pub slot_is : Slot → O.Slot
slot_is Used = O.used
slot_is (Holds v) = O.holds v
slot_is Ended = O.ended

abbrev pub card_is : List ℕ → Card → O.Card
card_is f c = O.card_is f (plain_is c.reading) (slot_is c.slot)

unfoldable pub with_files : List (List ℕ) → List Card → List O.Card
with_files fs [] = []
with_files [] (c ∷ cs) = card_is [] c ∷ with_files [] cs
with_files (f ∷ fs) (c ∷ cs) = card_is f c ∷ with_files fs cs

abbrev pub cards_is : List (List ℕ) → ℕ → List Card → List O.Card
cards_is fs n cs = take n (with_files fs cs)

-- ---- levels

abbrev pub FewBy : Slot → ℕ → Type 0
FewBy Used n = Unit {0}
FewBy (Holds v) n = n ≤ max_levels
FewBy Ended n = Unit {0}

abbrev pub Few : Card → Type 0
Few c = FewBy c.slot c.reading.reading.levels

abbrev pub AllFew : ℕ → List Card → Type 0
AllFew n cs = (i : ℕ) (d : Card) → i < n → Few (get_or cs i d)

-- ---- steps

-- what a card's part in a round comes to: it was not stepped, it was, or why it refuses
pub data Stepping : Type 0 where
  Still : Stepping
  Moved : Stepping
  Halted : Refusal → Stepping

-- a card after its part; after a refusal it carries no meaning
pub record CardStep : Type 0 where
  pub answer : Stepping
  pub card : Card

abbrev pub used_card : Plain → Card
used_card p = record { reading = p; slot = Used }

abbrev pub then_step : Stepping → O.Card → O.Stepped → O.Stepped
then_step Still c others = with_card c false others
then_step Moved c others = with_card c true others
then_step (Halted n) c others = O.halted n

abbrev pub FewAfter : Stepping → Card → Type 0
FewAfter Still c = Few c
FewAfter Moved c = Few c
FewAfter (Halted n) c = Unit {0}

pub record OneStepped (f : List ℕ) (space : ℕ) (c : Card) (r : CardStep) : Type 0 where
  pub steps : (others : O.Stepped) → step_one space (card_is f c) (slot_is c.slot) others ≡ then_step r.answer (card_is f r.card) others
  pub few : FewAfter r.answer r.card
