-- Keys of readings, and how one stands to another.
--     head_key h             the key that a head has
--     place_key ks p         the key at a place among eight, whose bytes are ks
--     Within p              one of eight keys, of at most 256 levels
--     KeyAt ks p i h        h is the place of key number i, and that is the key of the plain reading p's levels
--     BytesPut p i ks₀ ks h     p's key was put among the eight, as number i
--     Compared k l r        how the key k stands to the key l
-- Assumes nothing.
use Rattle.std.specs.Prelude.{◌≡◌, List, ℕ, ◌-◌, ◌*◌, ◌≤◌, ◌<◌, length, take, drop}
use Rattle.std.specs.declared.cmp.Ordering.{Ordering}
use Rattle.std.specs.Ordering.{is_lt, is_gt}
use Rattle.format.specs.Limits.{max_levels}
use Rattle.format.specs.Strings.{before_test}
use Rattle.reading.specs.Reading.{key_of}
use Rattle.stream.specs.Plains.{plain_is}
use Rattle.stream.specs.declared.Plain.{Plain}
use Rattle.ops_keys.specs.declared.Head.{Head}
use Rattle.ops_keys.specs.declared.Place.{Place}

abbrev pub head_key : Head → List ℕ
head_key h = take (h.levels - 1) (drop 1 h.inps)

-- ---- eight keys, each in 256 bytes

abbrev pub place_key : List ℕ → Place → List ℕ
place_key ks p = take (p.levels - 1) (drop 1 (drop (p.at * 256) ks))

pub record Within (p : Place) : Type 0 where
  pub eight : p.at < 8
  pub few : p.levels ≤ max_levels

pub record KeyAt (ks : List ℕ) (p : Plain) (i : ℕ) (h : Place) : Type 0 where
  pub at : h.at ≡ i
  pub levels : h.levels ≡ p.reading.levels
  pub key : p.reading.levels ≤ max_levels → place_key ks h ≡ key_of (plain_is p).view.levels

pub record BytesPut (p : Plain) (i : ℕ) (ks₀ ks : List ℕ) (h : Place) : Type 0 where
  pub here : KeyAt ks p i h
  pub others : (q : Place) → Within q → ¬ (q.at ≡ i) → place_key ks q ≡ place_key ks₀ q
  pub long : length ks ≡ 2048

-- ---- the order

pub record Compared (k l : List ℕ) (r : Ordering) : Type 0 where
  pub less : before_test k l ≡ is_lt r
  pub greater : before_test l k ≡ is_gt r
