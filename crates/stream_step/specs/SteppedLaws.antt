-- What the answer of a call and its buffer say of the definition's answer.
--     Told a b buf₀ buf                    b is the answer a, and the buffer is what a leaves of buf₀; told, of a call without the number
--     step_key, step_end, step_refused     the definition's answer behind that of the code
--     step_fits                            a key that was written fits the buffer
--     step_text                            the key is what the buffer holds
-- Assumes nothing.
use Rattle.std.specs.Prelude.{◌≡◌, refl, List, ◌++◌, ℕ, ◌≤◌, length, take, drop, Ok, Err, Some, None, Result, Option}
use Rattle.std.proofs.Common.{sym, ap, ◌∙◌, arith, length-append, length-drop}
use Rattle.std.proofs.Math.Seq.{take-append_seam}
use Rattle.format.specs.declared.Refusal.{Refusal}
use Rattle.reading.specs.Reading as R
use Rattle.reading.specs.Reading.{key, end, written}
use Rattle.stream_start.specs.declared.Reading.{Reading}
use Rattle.stream_step.specs.declared.Step.{Step}
use Rattle.stream_step.specs.Stepped.{answer_as, Stepped}

pub record Told (a : R.Answer) (b : Result (Option (ℕ × ℕ)) Refusal) (buf₀ buf : List ℕ) : Type 0 where
  pub answer : b ≡ answer_as a
  pub buffer : buf ≡ written a buf₀

pub told : {w : R.Step} {buf₀ buf : List ℕ} {o : Step Reading} → Stepped w buf₀ buf o → Told w.answer o.answer buf₀ buf
told h = record { answer = h.answer; buffer = h.buffer }

module _ {a : R.Answer} {b : Result (Option (ℕ × ℕ)) Refusal} {buf₀ buf : List ℕ} (h : Told a b buf₀ buf) where
  pub step_end : b ≡ Ok None → a ≡ end
  step_end e = by a refl (sym h.answer ∙ e)
    where
      by : (x : R.Answer) → a ≡ x → answer_as x ≡ Ok None → a ≡ end
      by (key k u) same q = let z : ◌≡◌ {A = ℕ} 0 1 = cc in absurd (omega arith)
      by end same q = same
      by (R.Answer.refused c) same q = let z : ◌≡◌ {A = ℕ} 0 1 = cc in absurd (omega arith)

  pub step_refused : (n : Refusal) → b ≡ Err n → a ≡ R.Answer.refused n
  step_refused n e = by a refl (sym h.answer ∙ e)
    where
      by : (x : R.Answer) → a ≡ x → answer_as x ≡ Err n → a ≡ R.Answer.refused n
      by (key k u) same q = let z : ◌≡◌ {A = ℕ} 0 1 = cc in absurd (omega arith)
      by end same q = let z : ◌≡◌ {A = ℕ} 0 1 = cc in absurd (omega arith)
      by (R.Answer.refused c) same q = let number : c ≡ n = cc in same ∙ ap R.Answer.refused number

  pub step_key : (n v : ℕ) → b ≡ Ok (Some (n, v)) → (k : List ℕ) × (a ≡ key k v) × (length k ≡ n) × (buf ≡ k ++ drop (length k) buf₀)
  step_key n v e = by a refl (sym h.answer ∙ e) h.buffer
    where
      by : (x : R.Answer) → a ≡ x → answer_as x ≡ Ok (Some (n, v)) → buf ≡ written x buf₀ → (k : List ℕ) × (a ≡ key k v) × (length k ≡ n) × (buf ≡ k ++ drop (length k) buf₀)
      by (key k u) same q w =
          let both : ◌≡◌ {A = ℕ × ℕ} (length k, u) (n, v) = cc in
          (k, same ∙ ap (key k) (ap (λ (p : ℕ × ℕ). p.1) both), ap (λ (p : ℕ × ℕ). p.0) both, w)
      by end same q w = let z : ◌≡◌ {A = ℕ} 0 1 = cc in absurd (omega arith)
      by (R.Answer.refused c) same q w = let z : ◌≡◌ {A = ℕ} 0 1 = cc in absurd (omega arith)

  -- a key that was written fits the buffer
  pub step_fits : (n v : ℕ) → b ≡ Ok (Some (n, v)) → length buf ≡ length buf₀ → n ≤ length buf₀
  step_fits n v e same =
      let q = step_key n v e in
      omega (arith, q.2, ap length q.3, length-append q.0 (drop (length q.0) buf₀), length-drop (length q.0) buf₀)

  pub step_text : (n v : ℕ) → b ≡ Ok (Some (n, v)) → a ≡ key (take n buf) v
  step_text n v e =
      let q = step_key n v e in
      let t : take n buf ≡ q.0 = ap (λ (j : ℕ). take j buf) (sym q.2) ∙ ap (take (length q.0)) q.3 ∙ take-append_seam q.0 (drop (length q.0) buf₀) in
      q.1 ∙ ap (λ (k : List ℕ). key k v) (sym t)
