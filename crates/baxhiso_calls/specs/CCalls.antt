-- A list of a C program's calls of `fst_next_arrays`, each on the arrays that the one before left, and what the program has in hand.
--     CCall                  one call: the file's bytes, the key buffer, length and value before and after, the arrays after it, and the result
--     CMade s h n cs         the calls cs, from the arrays h and n, each as the contract says; each with the file s or one of another length
--     told_by r buf len v     what a program reads off: a key as the first len bytes of the buffer and its value, the end, or a refusal's number
--     as_told a               an answer with its refusal as a number: no two refusals have the same (format, `number_apart`)
--     plain_of h n            the plain reading of the code that the arrays hold
--     codes_of h n cs         the same calls as calls of `stream::next`
--     ReadingTells           demand 3 and the number of keys to come, of what the program was told
-- A name with ₀ is what the caller handed in. Assumes nothing.
use Prim.{Unit}
use Rattle.std.specs.Prelude.{◌≡◌, ◌⊎◌, List, [], ◌∷◌, map, ℕ, zero, suc, ℤ, pos, negsuc, length, get_or, take, Ok, Err, Some, None, Result, Option}
use Rattle.format.specs.Limits.{number}
use Rattle.format.specs.Admitted.{Admitted}
use Rattle.format.specs.Strings as S
use Rattle.reading.specs.Reading as R
use Rattle.reading.specs.Reading.{key, end}
use Rattle.plain.specs.Plain.{next_plain}
use Rattle.stream_step.specs.Stepped.{answer_as}
use Rattle.stream.specs.declared.Plain.{Plain}
use Rattle.stream_calls.specs.Calls.{CodeCall, code_answers, DemandCode}
use Rattle.stream_arrays.specs.Arrays.{Held, held_is, held_plain}
use Rattle.baxhiso_readings.specs.Readings.{NextLeaves}

-- ---- a call

pub record CCall : Type 0 where
  pub file : List ℕ
  pub before : List ℕ
  pub after : List ℕ
  pub len₀ : ℕ
  pub len : ℕ
  pub value₀ : ℕ
  pub value : ℕ
  pub arrays : Held
  pub keys : List ℕ
  pub result : ℤ

-- what the contract of fst_next_arrays says, of a call on the arrays h and n with the file s or one of another length
pub record CCallMade (s : List ℕ) (h : Held) (n : List ℕ) (c : CCall) : Type 0 where
  pub which : (c.file ≡ s) ⊎ (¬ (length c.file ≡ length s))
  pub left : NextLeaves (next_plain c.file (held_plain h n) (length c.before)) c.arrays c.keys c.before c.after c.len₀ c.len c.value₀
      c.value c.result

abbrev pub told_by : ℤ → List ℕ → ℕ → ℕ → Result (Option (List ℕ × ℕ)) ℕ
told_by (pos zero) buf len v = Ok (Some (take len buf, v))
told_by (pos (suc n)) buf len v = Err (suc n)
told_by (negsuc n) buf len v = Ok None

abbrev pub told : CCall → Result (Option (List ℕ × ℕ)) ℕ
told c = told_by c.result c.after c.len c.value

abbrev pub as_told : R.Answer → Result (Option (List ℕ × ℕ)) ℕ
as_told (key k v) = Ok (Some (k, v))
as_told end = Ok None
as_told (R.Answer.refused n) = Err (number n)

-- ---- a list of calls

abbrev pub CMade : List ℕ → Held → List ℕ → List CCall → Type 0
CMade s h n [] = Unit {0}
CMade s h n (c ∷ cs) = CCallMade s h n c × CMade s c.arrays c.keys cs

-- ---- the same calls in the code's terms

abbrev pub plain_of : Held → List ℕ → Plain
plain_of h n = record { reading = held_is h; keys = get_or n 0 0 }

abbrev pub code_of : Held → List ℕ → CCall → CodeCall
code_of h n c =
    record {
      file = c.file;
      before = c.before;
      after = c.after;
      step = record { answer = answer_as (next_plain c.file (held_plain h n) (length c.before)).answer; reading = plain_of c.arrays c.keys };
    }

abbrev pub codes_of : Held → List ℕ → List CCall → List CodeCall
codes_of h n [] = []
codes_of h n (c ∷ cs) = code_of h n c ∷ codes_of c.arrays c.keys cs

-- ---- the claim

-- demand 3 of these calls in the code's terms, whose answers are those that the C program reads off
pub record ReadingTells {s : List ℕ} (A : Admitted s) (lo hi : S.Bound) (h : Held) (n : List ℕ) (cs : List CCall) : Type 0 where
  pub demand : DemandCode A lo hi (plain_of h n) (codes_of h n cs)
  pub same_answers : map told cs ≡ map as_told (code_answers (codes_of h n cs))
