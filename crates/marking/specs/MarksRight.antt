-- STATE's condition on marks, by the paper's words; `marks_test` decides it (MarksRightLaws).
--     MarkRight len m        a name of 1 to 8 bytes, and a reading within the limits of one of a file of len bytes
--     OnceEach ms            no name twice
--     MarksRight len ms      at most 16, each right, no name twice
-- Assumes nothing.
use Rattle.std.specs.Prelude.{◌≡◌, true, ℕ, ◌≤◌, length}
use mathlib.Core.List.{List, [], ◌∷◌, Memᴰ}
use Rattle.reading.specs.Reading.{state_test}
use Rattle.marking.specs.MarkCalls.{Mark}

pub record MarkRight (len : ℕ) (m : Mark) : Type 0 where
  pub from_one : 1 ≤ length m.name
  pub to_eight : length m.name ≤ 8
  -- at most 256 levels, a held bound of at most 255 bytes, and the file's length
  pub state : state_test m.held.view len ≡ true

pub data OnceEach : List Mark → Type 0 where
  none_twice : OnceEach []
  new_name : {m : Mark} {ms : List Mark} → ((k : Mark) → Memᴰ k ms → ¬ (k.name ≡ m.name)) → OnceEach ms → OnceEach (m ∷ ms)

pub record MarksRight (len : ℕ) (ms : List Mark) : Type 0 where
  pub few : length ms ≤ 16
  pub each : (m : Mark) → Memᴰ m ms → MarkRight len m
  pub once : OnceEach ms
