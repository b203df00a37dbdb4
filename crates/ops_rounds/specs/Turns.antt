-- The rounds of a call, against `rounds` (crate ops_spec).
--     Called, called_with cs r           an item, or none at the end, with the cards afterwards
--     ItemIs fs n m k p cs               m is an item, with its key and its values as they are held
--     CalledBy fs n cs m r               the rounds of a call with the cards cs whose definition answers m
-- Assumes nothing.
use Rattle.std.specs.Prelude.{◌≡◌, List, ℕ, ◌≤◌, length, Ok, Err, Some, None, Result, Option}
use Rattle.format.specs.declared.Refusal.{Refusal}
use Rattle.format.specs.Limits.{max_levels}
use Rattle.ops_spec.specs.Ops as O
use Rattle.ops_spec.specs.Ops.{Indexed}
use Rattle.ops_keys.specs.declared.Head.{Head}
use Rattle.ops_keys.specs.Heads.{head_key}
use Rattle.ops_pairs.specs.declared.Pairs.{Pairs}
use Rattle.ops_pairs.specs.Pairs.{PairsAre}
use Rattle.ops_round.specs.declared.Card.{Card}
use Rattle.ops_round.specs.Cards.{cards_is}

-- what a call comes to, with the cards that it leaves
pub record Called : Type 0 where
  pub item : Option (Head × Pairs)
  pub cards : List Card

abbrev pub called_with : List Card → Result (Option (Head × Pairs)) Refusal → Result Called Refusal
called_with cs (Ok i) = Ok (record { item = i; cards = cs })
called_with cs (Err c) = Err c

-- an item, with its values as they are held
pub record ItemIs (fs : List (List ℕ)) (n : ℕ) (m : O.Merged) (k : Head) (p : Pairs) (cs : List Card) : Type 0 where
  pub pairs : List Indexed
  pub are : PairsAre pairs p
  pub few : k.levels ≤ max_levels
  pub is : m ≡ O.item (head_key k) pairs (cards_is fs n cs)

-- ---- the rounds of a call

abbrev pub CalledAs : List (List ℕ) → ℕ → O.Merged → Option (Head × Pairs) → List Card → Type 0
CalledAs fs n m (Some (k, p)) cs = ItemIs fs n m k p cs
CalledAs fs n m None cs = m ≡ O.ending (cards_is fs n cs)

abbrev pub CameBy : List (List ℕ) → ℕ → O.Merged → Result Called Refusal → Type 0
CameBy fs n m (Ok r) = CalledAs fs n m r.item r.cards
CameBy fs n m (Err c) = m ≡ O.Merged.refused c

pub record CalledBy (fs : List (List ℕ)) (n : ℕ) (cs : List Card) (m : O.Merged) (r : Result Called Refusal) : Type 0 where
  pub is : CameBy fs n m r
  -- the cards given are eight: a caller that holds them in a struct is not told
  pub given : length cs ≡ 8
