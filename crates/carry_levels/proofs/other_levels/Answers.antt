-- One more level is carried, one is refused, or all are carried.
-- Assumes nothing.
use Rattle.std.proofs.Common.{rules, ◌≡◌, Err, ℕ, length, arith, subst}
use Rattle.format.specs.Paths.{fst_with}
use Rattle.carry_levels.specs.Settling.{WalkedTo}
use Rattle.carry_levels.proofs.LevelCases.{walked_step, walked_halted, walked_all}
use Rattle.carry_levels.proofs.other_levels.Goals as goal

pub returns-in_err-to : goal.returns-in_err-to
returns-in_err-to c =
    let a = c.args in
    let l = c.loop-k in
    let told : c.from_residual.result ≡ Err c.in_err-to.field-0.0 = grind arith in
    rw told
    (walked_halted (fst_with a.old.bytes.now a.old.version a.old.root) a.new.bytes.now a.new.version a.new.root a.reading.now.stack.addrs a.reading.now.stack.inps a.reading.now.stack.outs l.k a.reading.now.levels l.moved l.below
    c.loop-k-test.true l.invariant c.next_level.ensures _ c.in_err-to.was)

pub loop-k-preserved : goal.loop-k-preserved
loop-k-preserved c =
    let a = c.args in
    let l = c.loop-k in
    let room : length l.moved ≡ 256 = search rules in
    walked_step (fst_with a.old.bytes.now a.old.version a.old.root) a.new.bytes.now a.new.version a.new.root a.reading.now.stack.addrs a.reading.now.stack.inps a.reading.now.stack.outs l.k l.moved l.below
    (omega arith) (omega arith) l.invariant c.next_level.ensures _ _ c.in_ok-to.was

pub returns : goal.returns
returns c =
    let a = c.args in
    let l = c.loop-k in
    let old = fst_with a.old.bytes.now a.old.version a.old.root in
    let all : l.k ≡ a.reading.now.levels = omega arith in
    walked_all old a.new.bytes.now a.new.version a.new.root a.reading.now.stack.addrs a.reading.now.stack.inps a.reading.now.stack.outs a.reading.now.levels l.moved l.below
    (omega arith) (subst (λ (j : ℕ). WalkedTo old a.new.bytes.now a.new.version a.new.root j a.reading.now.stack.addrs a.reading.now.stack.inps a.reading.now.stack.outs l.moved l.below) all l.invariant)
