-- `admission::admit_opened` meets its contract: room in the tables, both cleared, all nodes judged, and an answer for what was found.
-- Assumes nothing.
use Rattle.std.proofs.Common.{inl, inr, sym, ◌∙◌}
use Rattle.admission.proofs.Admitting.{space_refused, wiped_cleared, AllJudged, judged_admits, judged_refused}
use Rattle.admission.proofs.admit_opened.Goals as goal
use Rattle.admission.proofs.admit_opened.Goals.{After-judge-judged, then-depths-n-via-then-depths-n, then-depths-n-via-else-depths-n+then-sums-n}

-- ---- the nodes judged

judging : (c : After-judge-judged) → AllJudged c.args.fst.bytes.now c.args.fst.version c.args.fst.root c.args.depths.now c.args.sums.now
    c.wipe.new.depths c.wipe.new.sums c.judge-judged.new.depths c.judge-judged.new.sums c.judge-judged.result
judging c =
    record {
      open_file = c.requires;
      room_depths = c.if-depths-n.false;
      room_sums = c.if-sums-n.false;
      depths_wiped = c.wipe.ensures.0;
      sums_wiped = c.wipe.ensures.1;
      judged = c.judge-judged.ensures;
    }

-- no room in the depths, or in the sums
pub returns-then-depths-n : goal.returns-then-depths-n
returns-then-depths-n c =
    elim c.then-depths-n.branch [
      | then-depths-n-via-then-depths-n w ↦ space_refused _ _ c.requires (inl w.if-depths-n.true)
      | then-depths-n-via-else-depths-n+then-sums-n w ↦ space_refused _ _ c.requires (inr w.if-sums-n.true)
    ]

-- both tables are zeros over the file
pub judge-judged-requires : goal.judge-judged-requires
judge-judged-requires c = wiped_cleared c.args.depths.now c.args.sums.now c.requires c.if-depths-n.false c.if-sums-n.false c.wipe.ensures.0 c.wipe.ensures.1

-- admitted
pub returns-else-is_err : goal.returns-else-is_err
returns-else-is_err c = judged_admits (judging (goal.at.returns-else-is_err c).After-judge-judged) (sym c.is_err.ensures.value ∙ c.if-is_err.false)

-- NODE, DEEP or SUM
pub returns-then-is_err : goal.returns-then-is_err
returns-then-is_err c =
    judged_refused (judging (goal.at.returns-then-is_err c).After-judge-judged) c.wipe-then-is_err.ensures.0 c.wipe-then-is_err.ensures.1
    (sym c.is_err.ensures.value ∙ c.if-is_err.true)
