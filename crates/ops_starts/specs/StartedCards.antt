-- What the starts of a page of items give back, against `start_all` (crate ops_paging).
--     Begun fs n hi ls ks ss all       the readings ls stand for the cards all, of which the ss are seen
--     StartsBy fs n hi m ls ks ss r    the starts of the first n files, whose definition answers m
-- Assumes nothing.
use Rattle.std.specs.Prelude.{◌≡◌, List, ℕ, ⊤, Ok, Err, Result}
use Rattle.format.specs.declared.Refusal.{Refusal}
use Rattle.format.specs.Strings as S
use Rattle.ops_paging.specs.ItemPaging as P
use Rattle.ops_round.specs.declared.Card.{Card}
use Rattle.ops_round.specs.Cards.{cards_is}
use Rattle.ops_seen.specs.declared.Seen.{Seen}
use Rattle.ops_seen.specs.Sights.{AllSeen}
use Rattle.ops_live.specs.declared.Live.{Live}
use Rattle.ops_live.specs.Lives.{AllStand}

pub record Begun (fs : List (List ℕ)) (n : ℕ) (hi : S.Bound) (ls : List Live) (ks : List ℕ) (ss : List Seen) (all : List Card) : Type 0 where
  pub stands : AllStand fs n hi ls all
  pub seen : AllSeen n all ks ss

pub record StartedTo (fs : List (List ℕ)) (n : ℕ) (hi : S.Bound) (m : P.Starts) (ls : List Live) (ks : List ℕ) (ss : List Seen) : Type 0 where
  pub all : List Card
  pub begun : Begun fs n hi ls ks ss all
  pub is : m ≡ P.cards (cards_is fs n all)

abbrev pub StartsBy : List (List ℕ) → ℕ → S.Bound → P.Starts → List Live → List ℕ → List Seen → Result ⊤ Refusal → Type 0
StartsBy fs n hi m ls ks ss (Ok u) = StartedTo fs n hi m ls ks ss
StartsBy fs n hi m ls ks ss (Err c) = m ≡ P.Starts.refused c
