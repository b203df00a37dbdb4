-- A level stands, or its node has another number of transitions, or its value is another.
-- An address of a sound node fits 32 bits, since the root does.
-- Assumes nothing.
use Rattle.std.proofs.Common.{◌≡◌, arith}
use native.Mathlib.Decide.{ℕ_discrete}
use Rattle.format.specs.Laws.NodeFacts.{node_below}
use Rattle.format.specs.Node.{sound, node_at}
use Rattle.format.specs.Paths.{fst_with}
use Rattle.node.specs.Read.{meaning}
use Rattle.node.specs.ReadLaws.{answer_sound}
use Rattle.carry_levels.proofs.LevelCases.{settle_stands, settle_value, settle_count}
use Rattle.carry_levels.proofs.settle.Goals as goal
use Rattle.carry_levels.proofs.settle.Goals.{else-as_many-via-then-as_many+else-same, else-as_many-via-else-as_many}

pub overflow_cast-to : goal.overflow_cast-to
overflow_cast-to c =
    let a = c.args in
    let m = c.in_ok-m.m in
    elim (ℕ_discrete a.addr 0) [
      | yes z ↦ omega arith
      | no ne ↦ omega (arith, node_below (fst_with a.new.bytes.now a.new.version a.new.root) a.addr (meaning a.new.bytes.now m) (answer_sound c.node_at.ensures m c.in_ok-m.was) ne)
    ]

pub returns-then-same : goal.returns-then-same
returns-then-same c =
    let a = c.args in
    let m = c.in_ok-m.m in
    settle_stands a.new.bytes.now a.new.version a.new.root a.addr a.ntrans a.same m (answer_sound c.node_at.ensures m c.in_ok-m.was) (c.node_at.ensures.readable m c.in_ok-m.was)
    c.if-as_many.true c.if-same.true

pub returns : goal.returns
returns c =
    let a = c.args in
    let m = c.in_ok-m.m in
    let is : node_at a.new.bytes.now a.new.version a.new.root a.addr ≡ sound (meaning a.new.bytes.now m) = answer_sound c.node_at.ensures m c.in_ok-m.was in
    let readable = c.node_at.ensures.readable m c.in_ok-m.was in
    elim c.else-as_many.branch [
      | else-as_many-via-then-as_many+else-same w ↦ settle_value a.new.bytes.now a.new.version a.new.root a.addr a.ntrans a.same m is readable w.if-as_many.true w.if-same.false
      | else-as_many-via-else-as_many w ↦ settle_count a.new.bytes.now a.new.version a.new.root a.addr a.ntrans a.same m is readable w.if-as_many.false
    ]
