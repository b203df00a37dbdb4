-- The first seat that waits, and nobody where the loop ends.
-- Assumes nothing.
use Rattle.std.proofs.Common.{arith}
use Rattle.seats_flags.proofs.FlagScans.{turn_begins, turn_here, turn_on, turn_none}
use Rattle.seats_flags.proofs.turn_of.Goals as goal

pub loop-looked-init : goal.loop-looked-init
loop-looked-init c = let a = c.args in λ t plains. turn_begins a.last t a.waiting plains c.requires

pub returns-then-waiting-i-ne0 : goal.returns-then-waiting-i-ne0
returns-then-waiting-i-ne0 c =
    let a = c.args in
    λ t plains. turn_here a.last t a.waiting plains c.loop-looked.looked (omega arith) (c.loop-looked.invariant t plains) c.if-waiting-i-ne0.true

pub loop-looked-preserved : goal.loop-looked-preserved
loop-looked-preserved c =
    let a = c.args in
    λ t plains. turn_on a.last t a.waiting plains c.loop-looked.looked (omega arith) (c.loop-looked.invariant t plains) c.if-waiting-i-ne0.false

pub returns : goal.returns
returns c =
    let a = c.args in
    λ t plains. turn_none a.last t a.waiting plains c.loop-looked.looked (omega arith) (c.loop-looked.invariant t plains)
