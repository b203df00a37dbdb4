-- A page on its readings.
--     Beginning fs n hi ls ks ss     the readings stand at their starts, for some cards
-- Assumes nothing.
use Rattle.std.specs.Prelude.{List, ℕ}
use Rattle.format.specs.Strings as S
use Rattle.ops_round.specs.declared.Card.{Card}
use Rattle.ops_seen.specs.declared.Seen.{Seen}
use Rattle.ops_live.specs.declared.Live.{Live}
use Rattle.ops_starts.specs.StartedCards.{Begun}

pub record Beginning (fs : List (List ℕ)) (n : ℕ) (hi : S.Bound) (ls : List Live) (ks : List ℕ) (ss : List Seen) : Type 0 where
  pub cards : List Card
  pub begun : Begun fs n hi ls ks ss cards
