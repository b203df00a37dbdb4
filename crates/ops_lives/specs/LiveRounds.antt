-- The steps of a round of a page, against those of its cards (crate ops_turn).
--     slot_after a                 what an answer makes of a reading's slot
--     Living fs n hi ls            the first n readings stand for some cards
--     LivesStepped ..              the steps of a round, whatever cards the readings stand for
--     cards_from fs hi ls          cards that readings stand for
--     to_do_of fs n hi ls ss       the measure of a page: what the readings have still to do
-- Assumes nothing.
use Rattle.std.specs.Prelude.{Bool, List, [], ◌∷◌, ℕ, ⊤, Ok, Err, Some, None, Result, Option}
use Rattle.format.specs.declared.Refusal.{Refusal}
use Rattle.format.specs.Limits.{max_path}
use Rattle.format.specs.Strings as S
use Rattle.ops_round.specs.declared.Slot.{Slot}
use Rattle.ops_round.specs.declared.Slot.TheVariants.{Holds, Ended}
use Rattle.ops_round.specs.declared.Card.{Card}
use Rattle.ops_round.specs.Cards.{used_card}
use Rattle.ops_seen.specs.declared.Seen.{Seen}
use Rattle.ops_turn.specs.Parts.{CardsStepped, to_do}
use Rattle.ops_live.specs.declared.Live.{Live}
use Rattle.ops_live.specs.Lives.{plain_of, AllStand}

abbrev pub slot_after : Option ℕ → Slot
slot_after (Some v) = Holds v
slot_after None = Ended

pub record Living (fs : List (List ℕ)) (n : ℕ) (hi : S.Bound) (ls : List Live) : Type 0 where
  pub cards : List Card
  pub stand : AllStand fs n hi ls cards

-- after a refusal the readings carry no meaning
abbrev pub StandOn : List (List ℕ) → ℕ → S.Bound → List Live → List Card → Result Bool Refusal → Type 0
StandOn fs n hi ls all (Ok m) = AllStand fs n hi ls all
StandOn fs n hi ls all (Err c) = ⊤

pub record CameTo (fs : List (List ℕ)) (n : ℕ) (hi : S.Bound) (all₀ : List Card) (ks₀ : List ℕ) (ss₀ : List Seen) (ls : List Live) (ks : List ℕ) (ss : List Seen) (r : Result Bool Refusal) : Type 0 where
  pub all : List Card
  pub stand : StandOn fs n hi ls all r
  pub stepped : CardsStepped fs max_path n all₀ ks₀ ss₀ all ks ss r

pub record LivesStepped (fs : List (List ℕ)) (n : ℕ) (hi : S.Bound) (ls₀ : List Live) (ks₀ : List ℕ) (ss₀ : List Seen) (ls : List Live) (ks : List ℕ) (ss : List Seen) (r : Result Bool Refusal) : Type 0 where
  pub is : (all₀ : List Card) → AllStand fs n hi ls₀ all₀ → CameTo fs n hi all₀ ks₀ ss₀ ls ks ss r

-- ---- what is still to do

unfoldable pub cards_from : List (List ℕ) → S.Bound → List Live → List Card
cards_from fs hi [] = []
cards_from [] hi (l ∷ ls) = used_card (plain_of [] hi l 0) ∷ cards_from [] hi ls
cards_from (f ∷ fs) hi (l ∷ ls) = used_card (plain_of f hi l 0) ∷ cards_from fs hi ls

abbrev pub to_do_of : List (List ℕ) → ℕ → S.Bound → List Live → List Seen → ℕ
to_do_of fs n hi ls ss = to_do fs n (cards_from fs hi ls) ss 0
