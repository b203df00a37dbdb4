-- Calls of next one after the other, as the exported functions answer them: how many hand out a key, and what the buffer holds afterwards.
-- Readings with the number of keys to come and readings without it differ in their call alone, which is an argument here.
--     key_test a                     the answer a is a key
--     Calls S                       what a call answers from a reading in S with a buffer of so many bytes, and the reading after it
--     keys_by c m v k                how many of the first m calls hand out a key, up to the first that does not, with the buffer k
--     buffer_by c m v k              the buffer after these calls
--     RunTold c m v k₀ k r          what is told of them
--     bare_calls s, plain_calls s     the calls of a reading without the number, and with it, of the file s
--     KeysTold, PlainKeysTold       what is told of these, from a reading
--     BareKeysTold, StartKeysTold   and from a start
-- Assumes nothing.
use Rattle.std.specs.Prelude.{◌≡◌, Bool, true, false, List, ℕ, zero, suc, length, Ok, Err, Some, None, Result, Option}
use Rattle.format.specs.declared.Refusal.{Refusal}
use Rattle.reading.specs.Reading as R
use Rattle.reading.specs.Reading.{View, key, end, written}
use Rattle.plain.specs.Plain as P

abbrev pub key_test : Result (Option (ℕ × ℕ)) Refusal → Bool
key_test (Ok (Some (n, x))) = true
key_test (Ok None) = false
key_test (Err n) = false

abbrev pub on_key : {A : Type 0} → R.Answer → A → A → A
on_key (key k x) go stop = go
on_key end go stop = stop
on_key (R.Answer.refused n) go stop = stop

-- ---- any calls

pub record Calls (S : Type 0) : Type 0 where
  pub answer : S → ℕ → R.Answer
  pub after : S → ℕ → S

unfoldable pub keys_by : {S : Type 0} → Calls S → ℕ → S → List ℕ → ℕ
keys_by c zero v k = 0
keys_by c (suc m) v k =
    on_key (c.answer v (length k)) (suc (keys_by c m (c.after v (length k)) (written (c.answer v (length k)) k))) 0

unfoldable pub buffer_by : {S : Type 0} → Calls S → ℕ → S → List ℕ → List ℕ
buffer_by c zero v k = k
buffer_by c (suc m) v k =
    on_key (c.answer v (length k)) (buffer_by c m (c.after v (length k)) (written (c.answer v (length k)) k)) k

pub record RunTold {S : Type 0} (c : Calls S) (m : ℕ) (v : S) (k₀ k : List ℕ) (r : ℕ) : Type 0 where
  pub answer : r ≡ keys_by c m v k₀
  pub buffer : k ≡ buffer_by c m v k₀

-- ---- readings without the number

abbrev pub bare_calls : List ℕ → Calls View
bare_calls s = record { answer = λ v n. (R.next s v n).answer; after = λ v n. (R.next s v n).reading }

abbrev pub KeysTold : ℕ → List ℕ → View → List ℕ → List ℕ → ℕ → Type 0
KeysTold m s v k₀ k r = RunTold (bare_calls s) m v k₀ k r

pub record BareKeysTold (m : ℕ) (s : List ℕ) (w : R.Started) (k₀ k : List ℕ) (r : ℕ) : Type 0 where
  pub reading : (v : View) → w ≡ R.started v → KeysTold m s v k₀ k r
  pub refused : (n : Refusal) → w ≡ R.Started.refused n → (r ≡ 0) × (k ≡ k₀)

-- ---- plain readings

abbrev pub plain_calls : List ℕ → Calls P.Plain
plain_calls s = record { answer = λ p n. (P.next_plain s p n).answer; after = λ p n. (P.next_plain s p n).reading }

abbrev pub PlainKeysTold : ℕ → List ℕ → P.Plain → List ℕ → List ℕ → ℕ → Type 0
PlainKeysTold m s p k₀ k r = RunTold (plain_calls s) m p k₀ k r

pub record StartKeysTold (m : ℕ) (s : List ℕ) (w : P.Begun) (k₀ k : List ℕ) (r : ℕ) : Type 0 where
  pub reading : (p : P.Plain) → w ≡ P.begun p → PlainKeysTold m s p k₀ k r
  pub refused : (n : Refusal) → w ≡ P.Begun.refused n → (r ≡ 0) × (k ≡ k₀)
