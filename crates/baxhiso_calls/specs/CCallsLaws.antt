-- Demand 3 for C: `reading_tells`. Where fst_count answered 0 and fst_start_arrays, with its table, too, every list of calls of fst_next_arrays hands out
-- the held keys between the bounds, ascending, each with its value, and then only the end (`DemandCode`).
--     told_is             what a C program reads off a call is the code's answer, a refusal by its number
--     made_is             a list of C calls is one of the code's
--     reading_tells       the claim
-- Assumes nothing.
use Prim.{tt}
use Rattle.std.specs.Prelude.{◌≡◌, refl, List, [], ◌∷◌, map, ℕ, zero, suc, ◌≤◌, ℤ, pos, length, Err}
use Rattle.std.proofs.Common.{sym, ap₂, inl, arith}
use Rattle.format.specs.Limits.{number}
use Rattle.format.specs.Strings as S
use Rattle.plain.specs.Plain as P
use Rattle.plain.specs.Plain.{start_plain, next_plain}
use Rattle.counting.specs.CountOutcomes.{Counts}
use Rattle.counting.proofs.CountExactly.{counted_filled}
use Rattle.stream_step.specs.Stepped.{answer_as}
use Rattle.stream_calls.specs.Calls.{CodeCall, CallMade, Made, in_hand, answered, code_answers, StartMade, DemandCode}
use Rattle.stream_calls.specs.CallsLaws.{demand_3_code}
use Rattle.stream_arrays.specs.Arrays.{Held, held_plain}
use Rattle.baxhiso.specs.Exports.{OK}
use Rattle.baxhiso_readings.specs.Readings.{StartLeaves, NextLeaves}
use Rattle.baxhiso_readings.specs.ReadingsLaws.{NextTells, hands_out, comes_to_end, leaves, next_nonzero, start_ok}
use Rattle.baxhiso_calls.specs.CCalls.{CCall, CCallMade, told_by, told, as_told, CMade, plain_of, code_of, codes_of, ReadingTells}

-- a number that is not 0 is read off as a refusal's
positive_told : (n : ℕ) → 1 ≤ n → (buf : List ℕ) (len v : ℕ) → told_by (pos n) buf len v ≡ Err n
positive_told zero low buf len v = absurd (omega (arith, low))
positive_told (suc n) low buf len v = refl

told_by_lem : (p : P.Plain) (w : P.PlainStep) → NextTells p w → {h : Held} {n k₀ k : List ℕ} {len₀ len v₀ v : ℕ} {r : ℤ} → NextLeaves w h n k₀ k len₀ len v₀ v r
    → told_by r k len v ≡ as_told (in_hand (answer_as w.answer) k)
told_by_lem p w (hands_out x y q) l = rw (l.result, l.len_is, l.value_is) refl
told_by_lem p w (comes_to_end q) l = rw l.result refl
told_by_lem p w (leaves i low) {k = k} {len = len} {v = v} l = rw l.result (positive_told (number i) low k len v)

pub told_is : {s : List ℕ} (h : Held) (n : List ℕ) (c : CCall) → CCallMade s h n c → told c ≡ as_told (answered (code_of h n c))
told_is h n c w =
    told_by_lem (held_plain h n) (next_plain c.file (held_plain h n) (length c.before)) (next_nonzero c.file (held_plain h n) (length c.before)) w.left

answers_told : (s : List ℕ) (h : Held) (n : List ℕ) (cs : List CCall) → CMade s h n cs → map told cs ≡ map as_told (code_answers (codes_of h n cs))
answers_told s h n [] w = refl
answers_told s h n (c ∷ cs) w = ap₂ ◌∷◌ (told_is h n c w.0) (answers_told s c.arrays c.keys cs w.1)

pub made_is : (s : List ℕ) (h : Held) (n : List ℕ) (cs : List CCall) → CMade s h n cs → Made s (plain_of h n) (codes_of h n cs)
made_is s h n [] w = tt
made_is s h n (c ∷ cs) w =
    let l = w.0.left in (
      record { which = w.0.which; stepped = record { gave = record { answer = refl; plain = l.reading }; buffer = l.buffer } },
      made_is s c.arrays c.keys cs w.1,
    )

pub reading_tells : {s d₀ s₀ c₀ d t c : List ℕ} (o : Counts s d₀ s₀ c₀ d t c) (lo hi : S.Bound) {h₀ : Held} {n₀ : List ℕ} {h : Held} {n : List ℕ} {r : ℤ}
    → StartLeaves (start_plain s lo hi c) h₀ n₀ h n r → r ≡ OK → (cs : List CCall) → CMade s h n cs → ReadingTells o.admits.admitted lo hi h n cs
reading_tells {s} {c = c} o lo hi {h = h} {n = n} left ok cs made =
    let first : StartMade s lo hi c (plain_of h n) = record { starts = sym (start_ok s lo hi c left ok) } in
    record {
      demand = demand_3_code o.admits.admitted lo hi c (inl (counted_filled o)) (plain_of h n) first (codes_of h n cs) (made_is s h n cs made);
      same_answers = answers_told s h n cs made;
    }
