-- What is seen of cards, against the cards of the definition (crate ops_spec).
--     SeenOf c i ks₀ ks s, AllSeen n cs ks r     what is seen of card number i, of the first n cards, with the bytes of their keys
--     dealt_card c s, AllDealt n cs ss r     a card, the first n cards, with the slots seen
--     IsHeld t                       the slot t holds a key
--     UsedTest s r, LongTest s r     whether a card is used up, whether it holds a key of over 256 levels
--     Shows ks s x, Sees ks n ss X   s is seen of the card x; ss of the n cards X
--     Few s, Ready ks n ss           a key that is held is one of eight and has at most 256 levels; n cards of which the ss are seen
--     SameKeys n cs r                the keys of n cards stand where they stood
--     Kept X Y                       Y has the files and the readings of X
-- Assumes nothing.
use Rattle.std.specs.Prelude.{◌≡◌, Bool, true, false, ◌⊎◌, List, ℕ, ◌≤◌, ◌<◌, length, get_or}
use Rattle.ops_spec.specs.Ops as O
use Rattle.ops_spec.specs.Ops.{card_key}
use Rattle.ops_keys.specs.Heads.{place_key, Within, KeyAt, BytesPut}
use Rattle.ops_round.specs.declared.Slot.{Slot}
use Rattle.ops_round.specs.declared.Slot.TheVariants.{Used, Holds, Ended}
use Rattle.ops_round.specs.declared.Card.{Card}
use Rattle.ops_round.specs.Cards.{slot_is}
use Rattle.ops_seen.specs.declared.Seen.{Seen}

-- ---- the code's cards

pub record SeenOf (c : Card) (i : ℕ) (ks₀ ks : List ℕ) (s : Seen) : Type 0 where
  pub slot : s.slot ≡ c.slot
  pub put : BytesPut c.reading i ks₀ ks s.key

pub record SeenAt (ks : List ℕ) (c : Card) (i : ℕ) (s : Seen) : Type 0 where
  pub slot : s.slot ≡ c.slot
  pub key : KeyAt ks c.reading i s.key

pub record AllSeen (n : ℕ) (cs : List Card) (ks : List ℕ) (r : List Seen) : Type 0 where
  pub at : (i : ℕ) (d : Card) (e : Seen) → i < n → SeenAt ks (get_or cs i d) i (get_or r i e)
  pub eight : length r ≡ 8
  -- the cards given are eight
  pub given : length cs ≡ 8
  pub long : length ks ≡ 2048

abbrev pub dealt_card : Card → Seen → Card
dealt_card c s = record { reading = c.reading; slot = s.slot }

pub record AllDealt (n : ℕ) (cs : List Card) (ss : List Seen) (r : List Card) : Type 0 where
  pub at : (i : ℕ) (d : Card) (e : Seen) → i < n → get_or r i d ≡ dealt_card (get_or cs i d) (get_or ss i e)
  pub eight : length r ≡ 8

-- a key is held, with some value
pub record IsHeld (t : Slot) : Type 0 where
  pub value : ℕ
  pub is : t ≡ Holds value

pub record UsedTest (s : Seen) (r : Bool) : Type 0 where
  pub yes : r ≡ true → s.slot ≡ Used
  pub no : r ≡ false → IsHeld s.slot ⊎ (s.slot ≡ Ended)

pub record LongTest (s : Seen) (r : Bool) : Type 0 where
  pub yes : r ≡ true → IsHeld s.slot × (256 < s.key.levels)
  pub no : r ≡ false → IsHeld s.slot → s.key.levels ≤ 256

-- ---- the cards of the definition

pub record Shows (ks : List ℕ) (s : Seen) (x : O.Card) : Type 0 where
  pub slot : x.slot ≡ slot_is s.slot
  pub key : (v : ℕ) → s.slot ≡ Holds v → card_key x ≡ place_key ks s.key

pub record Sees (ks : List ℕ) (n : ℕ) (ss : List Seen) (X : List O.Card) : Type 0 where
  pub count : length X ≡ n
  pub at : (i : ℕ) (d : Seen) (e : O.Card) → i < n → Shows ks (get_or ss i d) (get_or X i e)

-- each key stands where it stood
pub record SameKeys (n : ℕ) (cs r : List Seen) : Type 0 where
  pub at : (i : ℕ) (d : Seen) → i < n → (get_or r i d).key ≡ (get_or cs i d).key

pub record Few (s : Seen) : Type 0 where
  pub held : (v : ℕ) → s.slot ≡ Holds v → Within s.key

pub record Ready (ks : List ℕ) (n : ℕ) (ss : List Seen) : Type 0 where
  pub few : (i : ℕ) (d : Seen) → i < n → Few (get_or ss i d)
  pub cards : List O.Card
  pub sees : Sees ks n ss cards

pub record Kept (X Y : List O.Card) : Type 0 where
  pub count : length Y ≡ length X
  pub file : (i : ℕ) (e : O.Card) → (get_or Y i e).file ≡ (get_or X i e).file
  pub reading : (i : ℕ) (e : O.Card) → (get_or Y i e).reading ≡ (get_or X i e).reading
