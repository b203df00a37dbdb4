-- Plain readings, which hold the number of keys to come (document 02, N11), over the readings of `Reading`, which hold none. A start is given the
-- table of keys; a call is one without the number, and then a look at its answer. PlainDemand has what is promised of them.
--     Plain                        a reading, and its number of keys to come
--     start_plain s lo hi c         a start with the table c: opening's refusals, BOUND, SPACE, NODE and SUM along the lower bound, NODE along the upper, COUNT
--     next_plain s p space          a call: a key lowers the number by one, or is STATE where the number says none; "end" and refusals leave it
--     call_plain, plain_after, answers_plain      a call, the reading after a list of calls, and their answers
-- Assumes nothing.
use Rattle.std.specs.Prelude.{cond, List, [], ◌∷◌, ℕ, ◌-◌, leb, eqb, length}
use Rattle.format.specs.declared.Refusal.{Refusal}
use Rattle.format.specs.Limits.{SPACE, BOUND, STATE}
use Rattle.format.specs.Opening.{opening}
use Rattle.format.specs.Paths.{fst_of}
use Rattle.format.specs.Strings.{Bound}
use Rattle.reading.specs.Reading.{on_opened, bounds_test, View, Started, start, Answer, key, end, Step, next}
use Rattle.reading.specs.Reading as Reading
use Rattle.plain.specs.Numbers.{Tally, comes_to, number}
use Rattle.plain.specs.Numbers as Numbers
use Rattle.reading.specs.Demand.{Call}

pub record Plain : Type 0 where
  pub view : View
  pub keys : ℕ

abbrev pub plain_with : View → ℕ → Plain
plain_with r n = record { view = r; keys = n }

-- ---- start

pub data Begun : Type 0 where
  begun : Plain → Begun
  refused : Refusal → Begun

abbrev pub with_number : View → Tally → Begun
with_number r (comes_to n) = begun (plain_with r n)
with_number r (Numbers.refused n) = refused n

abbrev pub then_number : Started → Tally → Begun
then_number (Reading.started r) t = with_number r t
then_number (Started.refused n) t = refused n

unfoldable pub start_plain : List ℕ → Bound → Bound → List ℕ → Begun
start_plain s lo hi c =
    on_opened (opening s)
    (λ m.
    cond (bounds_test lo hi)
    (cond (leb (length s) (length c)) (then_number (start s lo hi) (number (fst_of s m) c lo hi)) (refused SPACE))
    (refused BOUND))
    (λ n. refused n)

-- ---- next

pub record PlainStep : Type 0 where
  pub answer : Answer
  pub reading : Plain

abbrev pub counting : Plain → View → Answer → PlainStep
counting p r (key k v) =
    cond (eqb p.keys 0) (record { answer = Answer.refused STATE; reading = p }) (record { answer = key k v; reading = plain_with r (p.keys - 1) })
counting p r end = record { answer = end; reading = plain_with r p.keys }
counting p r (Answer.refused n) = record { answer = Answer.refused n; reading = plain_with r p.keys }

abbrev pub counted_step : Plain → Step → PlainStep
counted_step p o = counting p o.reading o.answer

abbrev pub next_plain : List ℕ → Plain → ℕ → PlainStep
next_plain s p space = counted_step p (next s p.view space)

-- ---- lists of calls

abbrev pub call_plain : {s : List ℕ} → Plain → Call s → PlainStep
call_plain p c = next_plain c.file p c.space

abbrev pub plain_after : {s : List ℕ} → Plain → List (Call s) → Plain
plain_after p [] = p
plain_after p (c ∷ cs) = plain_after (call_plain p c).reading cs

abbrev pub answers_plain : {s : List ℕ} → Plain → List (Call s) → List Answer
answers_plain p [] = []
answers_plain p (c ∷ cs) = (call_plain p c).answer ∷ answers_plain (call_plain p c).reading cs
