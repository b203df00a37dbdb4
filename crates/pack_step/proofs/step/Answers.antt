-- A step is the root's or another node's.
-- Assumes nothing.
use Rattle.std.proofs.Common.{◌≡◌, ◌<◌, arith}
use Rattle.std.specs.Prelude.{Err}
use Rattle.format.specs.Limits.{SPACE}
use Rattle.pack_step.specs.StandingLaws.{node_asked_of, root_in_pair, steps_placed, steps_full, steps_next, steps_no_room}
use Rattle.pack_step.proofs.step.Goals as goal

pub finish_row-requires : goal.finish_row-requires
finish_row-requires c = root_in_pair c.args.row.now c.requires.standing c.requires.taken c.if-way-eq0.true

pub returns-in_err-at : goal.returns-in_err-at
returns-in_err-at c =
    let told : c.from_residual.result ≡ Err SPACE = grind arith in
    rw told (steps_full c.if-way-eq0.true c.finish_row.new.cells c.finish_row.ensures.interned c.finish_row.auto.output c.in_err-at.ensures.ok_part)

pub returns-then-way-eq0 : goal.returns-then-way-eq0
returns-then-way-eq0 c = steps_placed c.if-way-eq0.true c.finish_row.new.cells c.finish_row.ensures.interned c.finish_row.auto.output c.in_ok-at.at c.in_ok-at.ensures.ok_part

pub node_in_row-made-requires : goal.node_in_row-made-requires
node_in_row-made-requires c = let l : 0 < c.args.due.way.depth = omega (arith, c.if-way-eq0.false) in node_asked_of c.requires l

pub returns-in_err-ok_or : goal.returns-in_err-ok_or
returns-in_err-ok_or c =
    let told : c.from_residual-in_err-ok_or.result ≡ Err SPACE = grind arith in
    rw told (steps_no_room c.node_in_row-made.ensures c.node_in_row-made.auto.output c.in_err-ok_or.ensures.ok_part)

pub returns : goal.returns
returns c = steps_next c.node_in_row-made.ensures c.node_in_row-made.auto.output _ c.in_ok-ok_or.ensures.ok_part
