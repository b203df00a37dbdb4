-- No level, a first level that is refused, or the first and the others.
-- Assumes nothing.
use Rattle.std.proofs.Common.{◌≡◌, ℕ, arith, sym, subst}
use Rattle.std.specs.Prelude.{Ok, Err}
use Rattle.format.specs.Paths.{fst_with}
use Rattle.carry_levels.specs.Settling.{LevelsCarried}
use Rattle.carry_levels.proofs.LevelCases.{walked_first, first_halted, walked_none}
use Rattle.carry_levels.proofs.carry_levels.Goals as goal

pub returns-then-reading-eq0 : goal.returns-then-reading-eq0
returns-then-reading-eq0 c =
    let a = c.args in
    let old = fst_with a.old.bytes.now a.old.version a.old.root in
    subst (λ (n : ℕ). LevelsCarried old (fst_with a.new.bytes.now a.new.version a.new.root) n a.reading.now.stack.addrs a.reading.now.stack.inps a.reading.now.stack.outs a.moved.now (Ok tt))
    (sym c.if-reading-eq0.true) (walked_none old a.new.bytes.now a.new.version a.new.root a.reading.now.stack.addrs a.reading.now.stack.inps a.reading.now.stack.outs a.moved.now)

pub other_levels-requires-clause-walked_to : goal.other_levels-requires-clause-walked_to
other_levels-requires-clause-walked_to c =
    let a = c.args in
    walked_first (fst_with a.old.bytes.now a.old.version a.old.root) a.new.bytes.now a.new.version a.new.root a.reading.now.stack.addrs a.reading.now.stack.inps a.reading.now.stack.outs a.moved.now _ _ (omega arith)
    c.first_level.ensures c.in_ok-to.was

pub returns-in_err-to : goal.returns-in_err-to
returns-in_err-to c =
    let a = c.args in
    let told : c.from_residual.result ≡ Err c.in_err-to.field-0.0 = grind arith in
    rw told
    (first_halted (fst_with a.old.bytes.now a.old.version a.old.root) a.new.bytes.now a.new.version a.new.root a.reading.now.stack.addrs a.reading.now.stack.inps a.reading.now.stack.outs a.reading.now.levels a.moved.now (omega arith)
    c.first_level.ensures _ c.in_err-to.was)
