-- The empty key passes the upper bound, or is handed out.
use Rattle.std.proofs.Common.{[], refl, sym, ap, ◌∙◌}
use Rattle.format.specs.Strings.{Bound}
use Rattle.reading.specs.Reading.{passes_test}
use Rattle.stream_start.specs.Views.{stack_is}
use Rattle.stream_step.specs.Steps.{placed_at}
use Rattle.stream_next.proofs.NextCases.{pending_passed, pending_key}
use Rattle.stream_next.proofs.pending.Goals as goal

-- the empty key passes the upper bound
pub returns-then-exceeded : goal.returns-then-exceeded
unfolding stack_is
returns-then-exceeded c = λ f buf.
    pending_passed f c.args.reading.now c.args.value buf
    (ap (λ (b : Bound). passes_test b []) (sym c.upper.ensures) ∙ sym c.exceeded.ensures ∙ c.if-exceeded.true)
    (placed_at c.args.reading.now 0 c.args.reading.now.total) refl

-- it is handed out
pub returns : goal.returns
returns c = λ f buf.
    pending_key f c.args.reading.now c.args.value buf
    (ap (λ (b : Bound). passes_test b []) (sym c.upper.ensures) ∙ sym c.exceeded.ensures ∙ c.if-exceeded.false)
    (placed_at c.args.reading.now c.args.reading.now.levels c.args.reading.now.total) refl
