-- `Live::begin` meets its contract: one law for each refusal before the walk, and for what the walk comes to.
-- Assumes nothing.
use Rattle.std.specs.Prelude.{Err}
use Rattle.std.proofs.Common.{◌≡◌, sym, ap, ◌∙◌, refl, subst, ℕ, drop, arith}
use Rattle.format.specs.Laws.OpeningLaws.{root_fits}
use Rattle.fst.specs.Open.{meta_is, opening_is}
use Rattle.reading.specs.Reading.{bound_bytes}
use Rattle.stream_start.specs.Views.{bound_of}
use Rattle.stream_start.specs.Starts.{pending_from}
use Rattle.format.specs.Paths.{fst_with}
use Rattle.range_bound.specs.Besides.{Beside}
use Rattle.range_fill.specs.RangedRows.{OpensAs}
use Rattle.ops_live.proofs.StartCases.{begins_unopened, begins_bound, short_both, blank_told, start_halted, begins_to, levels_few}
use Rattle.ops_live.proofs.Live.begin.Goals as goal

-- the file does not open
pub returns-in_err-m : goal.returns-in_err-m
returns-in_err-m c =
    let a = c.args in
    let told : c.from_residual.result ≡ Err c.in_err-m.field-0.0 = grind arith in
    rw told (begins_unopened a.file.now (bound_of a.lower) (bound_of a.upper) c.in_err-m.field-0.0 (sym c.open.ensures ∙ ap opening_is c.in_err-m.was))

-- a bound over 255 bytes
pub returns-then-not-bounds_right : goal.returns-then-not-bounds_right
returns-then-not-bounds_right c =
    let a = c.args in
    begins_bound a.file.now (bound_of a.lower) (bound_of a.upper) (meta_is c.in_ok-m.m) (sym c.open.ensures ∙ ap opening_is c.in_ok-m.was)
    (sym c.bounds_right.ensures ∙ c.if-not-bounds_right.true)

-- the root fits, version 0 stands for no bytes, and the lower bound has at most 255
pub start_levels-requires : goal.start_levels-requires
start_levels-requires c =
    let a = c.args in
    let m = meta_is c.in_ok-m.m in
    let opens = sym c.open.ensures ∙ ap opening_is c.in_ok-m.was in
    let o : OpensAs a.file.now c.in_ok-m.m.version c.in_ok-m.m.root = record { meta = m; opens = opens; version_is = refl; root_is = refl } in
    rw c.over-fst.ensures (
      root_fits a.file.now m opens,
      blank_told o,
      (short_both (bound_of a.lower) (bound_of a.upper) (sym c.bounds_right.ensures ∙ c.if-not-bounds_right.false)).0,
    )

-- the walk is refused
pub returns-in_err-levels : goal.returns-in_err-levels
returns-in_err-levels c =
    let a = c.args in
    let m = meta_is c.in_ok-m.m in
    let opens = sym c.open.ensures ∙ ap opening_is c.in_ok-m.was in
    let o : OpensAs a.file.now c.in_ok-m.m.version c.in_ok-m.m.root = record { meta = m; opens = opens; version_is = refl; root_is = refl } in
    let told : c.from_residual-in_err-levels.result ≡ Err c.in_err-levels.field-0.0 = grind arith in
    rw told (start_halted o (bound_of a.lower) (bound_of a.upper) (sym c.bounds_right.ensures ∙ c.if-not-bounds_right.false)
    (pending_from (fst_with a.file.now c.in_ok-m.m.version c.in_ok-m.m.root) (bound_of a.lower)) refl c.in_err-levels.field-0.0
    (rw (c.over-fst.ensures, c.in_err-levels.was) at c.start_levels.ensures.found))

pub pending_at-self-requires : goal.pending_at-self-requires
pending_at-self-requires c =
    let a = c.args in
    let o : OpensAs a.file.now c.in_ok-m.m.version c.in_ok-m.m.root =
    record { meta = meta_is c.in_ok-m.m; opens = sym c.open.ensures ∙ ap opening_is c.in_ok-m.was; version_is = refl; root_is = refl } in
    rw c.over-fst.ensures (blank_told o)

-- a start writes at most 256 levels
pub stand-self-requires : goal.stand-self-requires
stand-self-requires c =
    let a = c.args in
    let s = c.start_levels.new.stack in
    let o : OpensAs a.file.now c.in_ok-m.m.version c.in_ok-m.m.root =
    record { meta = meta_is c.in_ok-m.m; opens = sym c.open.ensures ∙ ap opening_is c.in_ok-m.was; version_is = refl; root_is = refl } in
    let few = levels_few a.file.now (bound_of a.lower) (bound_of a.upper) c.in_ok-m.m.version c.in_ok-m.m.root c.in_ok-levels.levels s.addrs s.inps s.trans s.outs o
    (sym c.bounds_right.ensures ∙ c.if-not-bounds_right.false) (rw (c.over-fst.ensures, c.in_ok-levels.was) at c.start_levels.ensures.found) in
    omega (arith, c.saturating_sub.ensures)

-- the reading stands at its start
pub returns : goal.returns
returns c =
    let a = c.args in
    let hi = bound_of a.upper in
    let o : OpensAs a.file.now c.in_ok-m.m.version c.in_ok-m.m.root =
    record { meta = meta_is c.in_ok-m.m; opens = sym c.open.ensures ∙ ap opening_is c.in_ok-m.was; version_is = refl; root_is = refl } in
    rw c.over-fst.ensures (begins_to a.file.now (bound_of a.lower) hi _ o (sym c.bounds_right.ensures ∙ c.if-not-bounds_right.false)
    (rw c.over-fst.ensures at c.pending_at-self.ensures) refl (rw (c.over-fst.ensures, c.in_ok-levels.was) at c.start_levels.ensures.found)
    (subst (λ (j : ℕ). Beside hi (bound_bytes hi) (drop 1 c.start_levels.new.stack.inps) j c.stand-self.result.same c.stand-self.result.over) c.saturating_sub.ensures c.stand-self.ensures))
