-- The first seat that waits, and nobody where the loop ends.
-- Assumes nothing.
use Rattle.std.proofs.Common.{rules, arith}
use Rattle.seats_turn.proofs.SeatScans.{turn_begins, turn_here, turn_on, turn_none}
use Rattle.seats_turn.proofs.turn_of.Goals as goal

pub loop-looked-init : goal.loop-looked-init
loop-looked-init c = turn_begins c.args.seats (search rules) c.requires

pub returns-then-seats-i : goal.returns-then-seats-i
returns-then-seats-i c = turn_here c.args.seats (search rules) c.loop-looked.looked _ (omega arith) c.loop-looked.invariant c.if-seats-i.true

pub loop-looked-preserved : goal.loop-looked-preserved
loop-looked-preserved c = turn_on c.args.seats (search rules) c.loop-looked.looked _ (omega arith) c.loop-looked.invariant c.if-seats-i.false

pub returns : goal.returns
returns c = turn_none c.args.seats (search rules) c.loop-looked.looked (omega arith) c.loop-looked.invariant
