-- `stream_next::turn` meets its contract: one law for each refusal before the walk, and one for the walk.
-- Assumes nothing.
use Rattle.std.proofs.Common.{◌≡◌, ◌+◌, refl, sym, ap, ◌∙◌, Err, arith}
use Rattle.format.specs.View.{fst_is}
use Rattle.stream_start.specs.Views.{empty_is}
use Rattle.stream_step.specs.Judged.{judged_is}
use Rattle.stream_step.specs.JudgedLaws.{judged_facts}
use Rattle.stream_next.proofs.NextCases.{next_refused, next_space, next_walk, gone_low, walk_refused, walk_ended, walk_key, left_by, left_is, left_none}
use Rattle.stream_next.proofs.WalkCases.{ended_is, found_is}
use Rattle.stream_next.proofs.turn.Goals.{in-Some-found, in-None}
use Rattle.stream_next.proofs.turn.Goals as goal

-- the file does not open, or the reading cannot go on with it
pub returns-in_err-fst : goal.returns-in_err-fst
returns-in_err-fst c =
    let a = c.args in
    let told : c.from_residual.result ≡ Err c.in_err-fst.field-0.0 = grind arith in
    rw told (next_refused a.file.now a.reading.now a.key.now _ (sym (ap judged_is c.in_err-fst.was) ∙ c.judge.ensures))

-- the buffer is under 255 bytes: SPACE
pub returns-then-short : goal.returns-then-short
returns-then-short c =
    let a = c.args in
    next_space a.file.now a.reading.now a.key.now (fst_is c.in_ok-fst.fst) (sym (ap judged_is c.in_ok-fst.was) ∙ c.judge.ensures) c.if-short.true

-- the state is right, so the bound that is held has at most 255 bytes
pub pending-requires : goal.pending-requires
pending-requires c = (judged_facts c.args.file.now c.args.reading.now (fst_is c.in_ok-fst.fst) (sym (ap judged_is c.in_ok-fst.was) ∙ c.judge.ensures)).2

-- the empty key is pending
pub returns-in-Some : goal.returns-in-Some
returns-in-Some c =
    let a = c.args in
    let f = fst_is c.in_ok-fst.fst in
    next_walk a.file.now a.reading.now a.key.now f (sym (ap judged_is c.in_ok-fst.was) ∙ c.judge.ensures) c.if-short.false
    (ap empty_is c.in-Some.is) a.key.now _ (c.pending.ensures f a.key.now)

pub upper_of-upper-requires : goal.upper_of-upper-requires
upper_of-upper-requires c = (judged_facts c.args.file.now c.args.reading.now (fst_is c.in_ok-fst.fst) (sym (ap judged_is c.in_ok-fst.was) ∙ c.judge.ensures)).2

pub walk-requires : goal.walk-requires
walk-requires c =
    let e = judged_facts c.args.file.now c.args.reading.now (fst_is c.in_ok-fst.fst) (sym (ap judged_is c.in_ok-fst.was) ∙ c.judge.ensures) in
    (e.1, e.0, c.if-short.false)

-- the walk is refused
pub returns-in_err-walked : goal.returns-in_err-walked
returns-in_err-walked c =
    let a = c.args in
    let r = a.reading.now in
    let told : c.from_residual-in_err-walked.result ≡ Err c.in_err-walked.field-0.0 = grind arith in
    let w = rw c.upper_of-upper.ensures at c.walk.ensures r.len r.bound_len (empty_is r.empty_output) in
    rw told
    (next_walk a.file.now r a.key.now (fst_is c.in_ok-fst.fst) (sym (ap judged_is c.in_ok-fst.was) ∙ c.judge.ensures) c.if-short.false (ap empty_is c.in_default.is) _ _
    (walk_refused w c.in_err-walked.field-0.0 c.in_err-walked.was r refl))

-- the level where a key ends is one of 256
pub overflow_add-reading : goal.overflow_add-reading
overflow_add-reading c =
    let r = c.args.reading.now in
    let g = c.in_ok-walked.walked in
    let low = gone_low (c.walk.ensures r.len r.bound_len (empty_is r.empty_output)) c.in-Some-found.k _ g.total (c.in_ok-walked.was ∙ found_is g _ c.in-Some-found.is) in
    omega arith

-- no key is left, or one is found
pub returns : goal.returns
returns c =
    let a = c.args in
    let r = a.reading.now in
    let g = c.in_ok-walked.walked in
    let w = rw c.upper_of-upper.ensures at c.walk.ensures r.len r.bound_len (empty_is r.empty_output) in
    let walks = next_walk a.file.now r a.key.now (fst_is c.in_ok-fst.fst) (sym (ap judged_is c.in_ok-fst.was) ∙ c.judge.ensures) c.if-short.false (ap empty_is c.in_default.is) in
    elim c.match-walked.branch [
      | in-Some-found x ↦
          rw (x.in-Some-found.is, x.reading-is)
          (walks _ _ (walk_key w x.in-Some-found.k _ g.total (c.in_ok-walked.was ∙ found_is g _ x.in-Some-found.is)
          (left_by r c.walk.new.stack (x.in-Some-found.k + 1) g.total) (left_is r c.walk.new.stack (x.in-Some-found.k + 1) g.total c.in_default.is)))
      | in-None x ↦
          rw (x.in-None.is, x.reading-is)
          (walks _ _ (walk_ended w g.total (c.in_ok-walked.was ∙ ended_is g x.in-None.is)
          (left_by r c.walk.new.stack 0 g.total) (left_none r c.walk.new.stack g.total c.in_default.is)))
    ]
