-- A call on a plain reading tells the definition's answer and buffer, so the laws of stream_step `SteppedLaws` hold of it.
-- Assumes nothing.
use Rattle.std.specs.Prelude.{List, ℕ}
use Rattle.plain.specs.Plain as P
use Rattle.stream_step.specs.SteppedLaws.{Told}
use Rattle.stream_step.specs.declared.Step.{Step}
use Rattle.stream.specs.declared.Plain.{Plain}
use Rattle.stream.specs.Plains.{PlainStepped}

pub plain_told : {w : P.PlainStep} {buf₀ buf : List ℕ} {r : Step Plain} → PlainStepped w buf₀ buf r → Told w.answer r.answer buf₀ buf
plain_told h = record { answer = h.gave.answer; buffer = h.buffer }
