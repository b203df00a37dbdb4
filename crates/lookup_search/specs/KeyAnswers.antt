-- What the answers of a lookup by value stand for: document 01's number and values for each case, and the key buffer afterwards.
--     key_is r path            what a search by value answered, its key at the front of path
--     KeyFits r path          path has 255 bytes, and a found key fits it
--     KeyWritten w ..         the answer and the buffer of a search whose definition answers w
-- Assumes nothing.
use Rattle.std.specs.Prelude.{◌≡◌, List, ◌++◌, ℕ, ◌≤◌, length, take, drop, Ok, Err, Some, None, Result, Option}
use Rattle.format.specs.declared.Refusal.{Refusal}
use Rattle.format.specs.Limits.{max_path}
use Rattle.format.specs.Lookup as L
use Rattle.format.specs.Lookup.{found}

abbrev pub key_is : Result (Option ℕ) Refusal → List ℕ → L.KeyAnswer
key_is (Ok (Some n)) path = found (take n path)
key_is (Ok None) path = L.KeyAnswer.none
key_is (Err n) path = L.KeyAnswer.refused n

abbrev pub key_len : Result (Option ℕ) Refusal → ℕ
key_len (Ok (Some n)) = n
key_len (Ok None) = 0
key_len (Err n) = 0

pub record KeyFits (r : Result (Option ℕ) Refusal) (path : List ℕ) : Type 0 where
  pub len : length path ≡ max_path
  pub fits : key_len r ≤ max_path

-- a key is written from the buffer's first byte, the rest as given; after none or a refusal the buffer is as given
abbrev pub key_answer_as : L.KeyAnswer → Result (Option ℕ) Refusal
key_answer_as (found k) = Ok (Some (length k))
key_answer_as L.KeyAnswer.none = Ok None
key_answer_as (L.KeyAnswer.refused n) = Err n

abbrev pub key_buffer_after : L.KeyAnswer → List ℕ → List ℕ
key_buffer_after (found k) buf = k ++ drop (length k) buf
key_buffer_after L.KeyAnswer.none buf = buf
key_buffer_after (L.KeyAnswer.refused n) buf = buf

pub record KeyWritten (w : L.KeyAnswer) (buf₀ buf : List ℕ) (r : Result (Option ℕ) Refusal) : Type 0 where
  pub answer : r ≡ key_answer_as w
  pub buffer : buf ≡ key_buffer_after w buf₀
