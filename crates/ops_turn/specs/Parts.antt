-- The cards of a page or a call, with what is seen of them beside them.
--     dealt_all cs ss             the cards with the slots seen
--     slot_after a                what an answer makes of a card's slot
--     SeenStepped f space p i ks₀ ks r   the step of a reading whose key is used up; a refusal leaves the keys as they were
--     weight x, load X           what a card, what all have still to do: a key that is held counts one more
--     Turning space fs o n X all ks ss i stepped     the call from the cards X goes on, the first i cards of this round have had their part, and
--                                `stepped` says whether a reading was stepped in this call
--     to_do fs n all ss i        the measure of a call: what all cards have still to do, and the cards of this round that are still to have their part
--     Went space fs o n X all₀ ss₀ all ks ss i stepped    such a call has come from the cards all₀ to the cards all, and no more is to do than before
--     CardsStepped fs space n all₀ ks₀ ss₀ all ks ss r    the steps of a round: each call that is on its way goes on, or is refused
-- Assumes nothing.
use Rattle.std.specs.Prelude.{◌≡◌, Bool, false, ◌||◌, List, [], ◌∷◌, ℕ, ◌+◌, ◌-◌, ◌*◌, ◌<◌, ◌≤◌, length, get_or, Ok, Err, Some, None, Result, Option}
use Rattle.format.specs.declared.Refusal.{Refusal}
use Rattle.ops_spec.specs.Ops as O
use Rattle.ops_spec.specs.Ops.{slot_left}
use Rattle.ops_spec.specs.OpsFuelLaws.{rounds_by}
use Rattle.stream.specs.declared.Plain.{Plain}
use Rattle.ops_keys.specs.Heads.{KeyAt}
use Rattle.ops_round.specs.declared.Slot.{Slot}
use Rattle.ops_round.specs.declared.Slot.TheVariants.{Holds, Ended}
use Rattle.ops_round.specs.declared.Card.{Card}
use Rattle.ops_round.specs.Cards.{cards_is, Moved, Halted, used_card, OneStepped}
use Rattle.ops_round.specs.RoundLaws.{Rounding}
use Rattle.ops_seen.specs.declared.Seen.{Seen}
use Rattle.ops_seen.specs.Sights.{dealt_card, SeenOf}
use Rattle.ops_turn.specs.declared.SeenStep.{SeenStep}

unfoldable pub dealt_all : List Card → List Seen → List Card
dealt_all [] ss = []
dealt_all (c ∷ cs) [] = c ∷ dealt_all cs []
dealt_all (c ∷ cs) (s ∷ ss) = dealt_card c s ∷ dealt_all cs ss

-- ---- one card

abbrev pub slot_after : Option (ℕ × ℕ) → Slot
slot_after (Some (n, v)) = Holds v
slot_after None = Ended

-- a refusal is the card's, whatever card would stand there
pub record StepHalts (f : List ℕ) (space : ℕ) (p : Plain) (ks₀ ks : List ℕ) (why : Refusal) : Type 0 where
  pub halts : (c : Card) → OneStepped f space (used_card p) (record { answer = Halted why; card = c })
  pub kept : ks ≡ ks₀

pub record StepGoes (f : List ℕ) (space : ℕ) (p : Plain) (i : ℕ) (ks₀ ks : List ℕ) (r : SeenStep) : Type 0 where
  pub goes : OneStepped f space (used_card p) (record { answer = Moved; card = r.card })
  pub seen : SeenOf r.card i ks₀ ks r.seen

abbrev pub SeenStepped : List ℕ → ℕ → Plain → ℕ → List ℕ → List ℕ → Result SeenStep Refusal → Type 0
SeenStepped f space p i ks₀ ks (Ok r) = StepGoes f space p i ks₀ ks r
SeenStepped f space p i ks₀ ks (Err why) = StepHalts f space p ks₀ ks why

-- ---- what is still to do

abbrev pub holding : O.Slot → ℕ
holding O.used = 0
holding (O.holds v) = 1
holding O.ended = 0

abbrev pub weight : O.Card → ℕ
weight x = 2 * slot_left x x.slot + holding x.slot

unfoldable pub load : List O.Card → ℕ
load [] = 0
load (x ∷ X) = weight x + load X

-- ---- a round on its way

pub record Turning (space : ℕ) (fs : List (List ℕ)) (o : O.Op) (n : ℕ) (X : List O.Card) (all : List Card) (ks : List ℕ) (ss : List Seen) (i : ℕ) (stepped : Bool) : Type 0 where
  pub base : List Card
  pub moved : Bool
  pub before : Bool
  pub told : stepped ≡ (before || moved)
  pub round : Rounding fs space n base (dealt_all all ss) moved i
  pub call : rounds_by o space false X ≡ rounds_by o space before (cards_is fs n base)
  pub heads : (j : ℕ) (d : Card) (e : Seen) → j < n → KeyAt ks (get_or all j d).reading j (get_or ss j e).key
  pub cards_len : length all ≡ 8
  pub seen_len : length ss ≡ 8
  pub keys_len : length ks ≡ 2048

-- ---- the cards one by one

abbrev pub to_do : List (List ℕ) → ℕ → List Card → List Seen → ℕ → ℕ
to_do fs n all ss i = 9 * load (cards_is fs n (dealt_all all ss)) + (n - i)

pub record Went (space : ℕ) (fs : List (List ℕ)) (o : O.Op) (n : ℕ) (X : List O.Card) (all₀ : List Card) (ss₀ : List Seen) (all : List Card) (ks : List ℕ) (ss : List Seen) (i : ℕ) (stepped : Bool) : Type 0 where
  pub turning : Turning space fs o n X all ks ss i stepped
  pub less : to_do fs n all ss i ≤ to_do fs n all₀ ss₀ 0

abbrev pub CardsCame : ℕ → List (List ℕ) → O.Op → ℕ → List O.Card → List Card → List Seen → List Card → List ℕ → List Seen → Bool → Result Bool Refusal → Type 0
CardsCame space fs o n X all₀ ss₀ all ks ss stepped (Ok moved) = Went space fs o n X all₀ ss₀ all ks ss n (stepped || moved)
CardsCame space fs o n X all₀ ss₀ all ks ss stepped (Err why) = rounds_by o space false X ≡ O.Merged.refused why

pub record CardsStepped (fs : List (List ℕ)) (space n : ℕ) (all₀ : List Card) (ks₀ : List ℕ) (ss₀ : List Seen) (all : List Card) (ks : List ℕ) (ss : List Seen) (r : Result Bool Refusal) : Type 0 where
  pub is : (o : O.Op) (X : List O.Card) (stepped : Bool) → Turning space fs o n X all₀ ks₀ ss₀ 0 stepped → CardsCame space fs o n X all₀ ss₀ all ks ss stepped r
