-- `Live::turn` meets its contract: the empty key first, and then what a step on the levels answers.
-- Assumes nothing.
use Rattle.std.specs.Prelude.{Ok, Err}
use Rattle.std.proofs.Common.{◌≡◌, sym, ap, ◌∙◌, refl, rules, arith}
use Rattle.format.specs.Laws.OpeningLaws.{root_fits}
use Rattle.stream_start.specs.Views.{bound_of}
use Rattle.ops_live.proofs.TurnCases.{pending_over, pending_key, turn_over, turn_refused, turn_key, level_low}
use Rattle.ops_live.proofs.Live.turn.Goals as goal

-- the empty key passes the upper bound
pub returns-then-exceeded : goal.returns-then-exceeded
returns-then-exceeded c = λ t.
    pending_over c.args.file.now (bound_of c.args.upper) c.args.self.now c.requires c.in-Some.value c.in-Some.is (sym c.exceeded.ensures ∙ c.if-exceeded.true) _ c.end.ensures t

-- it is handed out
pub returns-in-Some : goal.returns-in-Some
returns-in-Some c = λ t.
    pending_key c.args.file.now (bound_of c.args.upper) c.args.self.now c.requires c.in-Some.value c.in-Some.is (sym c.exceeded.ensures ∙ c.if-exceeded.false) _ refl t

-- the levels can be gone on from
pub step_on-requires : goal.step_on-requires
step_on-requires c =
    let h = c.requires.ready in
    let o = h.opens in
    record { levels_le_max_levels = (h.few, omega (arith, root_fits c.args.file.now o.meta o.opens, o.root_is), h.sounds, c.requires.beside) }

-- the step is refused
pub returns-in_err-next : goal.returns-in_err-next
returns-in_err-next c =
    let told : c.from_residual.result ≡ Err c.in_err-next.field-0.0 = grind arith in
    rw told (λ t. turn_refused c.args.file.now (bound_of c.args.upper) c.args.self.now c.requires c.in_default.is c.step_on.ensures c.in_err-next.field-0.0 c.in_err-next.was _ t)

-- no key is left
pub returns-in_default-2 : goal.returns-in_default-2
returns-in_default-2 c = λ t.
    turn_over c.args.file.now (bound_of c.args.upper) c.args.self.now c.requires c.in_default.is c.step_on.ensures (c.in_ok-next.was ∙ ap Ok c.in_default-2.is) _ _ refl refl refl c.end-in_default-2.ensures t

-- the key's level is one of 256
pub overflow_add-self : goal.overflow_add-self
overflow_add-self c =
    let low = level_low c.args.file.now (bound_of c.args.upper) c.args.self.now c.requires c.in_default.is c.step_on.ensures c.in-Some-2.next (c.in_ok-next.was ∙ ap Ok c.in-Some-2.is) in
    search rules

-- a key
pub returns : goal.returns
returns c = λ t.
    turn_key c.args.file.now (bound_of c.args.upper) c.args.self.now c.requires c.in_default.is c.step_on.ensures c.in-Some-2.next (c.in_ok-next.was ∙ ap Ok c.in-Some-2.is) _ refl t
