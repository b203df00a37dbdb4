-- Too many marks, one with a wrong reading or a wrong name, or all right.
-- Assumes nothing.
use Rattle.std.proofs.Common.{rules, arith, ◌≡◌, length, map, true, false, sym, ◌∙◌}
use Rattle.marks_held.specs.declared.Marks.{Marks}
use Rattle.marks_held.specs.MarkViews.{no_mark, mark_is, marks_is}
use Rattle.marks_held.specs.MarkViewsLaws.{stated_length}
use Rattle.marks_held.proofs.MarkScans.{head_state, head_name, state_at, each_many, each_wrong, each_on, each_through}
use Rattle.marks_held.proofs.marks_right.Goals as goal

long : (m : Marks) → length (marks_is m) ≡ m.count
long m = stated_length m.count no_mark (map mark_is m.marks)

pub returns-then-marks-gt-MARKS : goal.returns-then-marks-gt-MARKS
returns-then-marks-gt-MARKS c = let m = c.args.marks in each_many c.args.len (marks_is m) (omega (arith, long m))

pub returns-then-not-state_right : goal.returns-then-not-state_right
returns-then-not-state_right c =
    let m = c.args.marks in
    let len = c.args.len in
    let i = c.loop-i.i in
    let state = state_at m (search rules) c.if-marks-gt-MARKS.false i _ (omega arith) len false (sym c.state_right.ensures ∙ c.if-not-state_right.true) in
    each_wrong len (marks_is m) i (omega (arith, long m)) (omega (arith, long m)) (head_state len (marks_is m) i state) c.loop-i.invariant

pub returns-then-not-name_right : goal.returns-then-not-name_right
returns-then-not-name_right c =
    let m = c.args.marks in
    let len = c.args.len in
    let i = c.loop-i.i in
    let state = state_at m (search rules) c.if-marks-gt-MARKS.false i _ (omega arith) len true (sym c.state_right.ensures ∙ c.if-not-state_right.false) in
    each_wrong len (marks_is m) i (omega (arith, long m)) (omega (arith, long m)) (sym c.if-not-name_right.true ∙ c.name_right.ensures ∙ head_name len (marks_is m) i state) c.loop-i.invariant

pub loop-i-preserved : goal.loop-i-preserved
loop-i-preserved c =
    let m = c.args.marks in
    let len = c.args.len in
    let i = c.loop-i.i in
    let state = state_at m (search rules) c.if-marks-gt-MARKS.false i _ (omega arith) len true (sym c.state_right.ensures ∙ c.if-not-state_right.false) in
    each_on len (marks_is m) i (omega (arith, long m)) (sym c.if-not-name_right.false ∙ c.name_right.ensures ∙ head_name len (marks_is m) i state) c.loop-i.invariant

pub returns : goal.returns
returns c =
    let m = c.args.marks in
    each_through c.args.len (marks_is m) c.loop-i.i (omega (arith, long m)) (omega (arith, long m)) c.loop-i.invariant
