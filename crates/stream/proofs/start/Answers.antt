-- A law of StartCases for each way out.
use Rattle.std.proofs.Common.{◌≡◌, Err, sym, ap, ◌∙◌, arith}
use Rattle.format.specs.Laws.OpeningLaws.{root_inside}
use Rattle.fst.specs.Open.{meta_is, opening_is}
use Rattle.stream_start.specs.Views.{bound_of}
use Rattle.stream.proofs.StartCases.{plain_refused, plain_bound, plain_table, plain_then}
use Rattle.stream.proofs.start.Goals as goal

-- the file does not open
pub returns-in_err-m : goal.returns-in_err-m
returns-in_err-m c =
    let a = c.args in
    let told : c.from_residual.result ≡ Err c.in_err-m.field-0.0 = grind arith in
    rw told (sym (plain_refused a.file.now (bound_of a.lower) (bound_of a.upper) a.counts.now _ (sym c.open.ensures ∙ ap opening_is c.in_err-m.was)))

-- a long bound
pub returns-then-not-bounds_right : goal.returns-then-not-bounds_right
returns-then-not-bounds_right c =
    let a = c.args in
    sym (plain_bound a.file.now (bound_of a.lower) (bound_of a.upper) a.counts.now (meta_is c.in_ok-m.m) (sym c.open.ensures ∙ ap opening_is c.in_ok-m.was)
    (sym c.bounds_right.ensures ∙ c.if-not-bounds_right.true))

-- a short table
pub returns-then-short : goal.returns-then-short
returns-then-short c =
    let a = c.args in
    let opens = sym c.open.ensures ∙ ap opening_is c.in_ok-m.was in
    sym (plain_table a.file.now (bound_of a.lower) (bound_of a.upper) a.counts.now (meta_is c.in_ok-m.m) opens
    (sym c.bounds_right.ensures ∙ c.if-not-bounds_right.false) c.if-short.true)

pub numbered-requires : goal.numbered-requires
numbered-requires c =
    rw c.over.ensures
    (record { long = c.if-short.false; root_inside = root_inside c.args.file.now (meta_is c.in_ok-m.m) (sym c.open.ensures ∙ ap opening_is c.in_ok-m.was) })

-- the rest
pub returns : goal.returns
returns c =
    let a = c.args in
    let opens = sym c.open.ensures ∙ ap opening_is c.in_ok-m.was in
    (rw c.over.ensures at c.numbered.ensures)
    ∙ sym (plain_then a.file.now (bound_of a.lower) (bound_of a.upper) a.counts.now (meta_is c.in_ok-m.m) opens
    (sym c.bounds_right.ensures ∙ c.if-not-bounds_right.false) c.if-short.false)
