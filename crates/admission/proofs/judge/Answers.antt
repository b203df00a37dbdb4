-- `admission::judge` meets its contract. Assumes nothing.
use Rattle.std.proofs.Common.{List, ℕ, ◌<◌, length, set, arith}
use Rattle.format.specs.View.{fst_is}
use Rattle.std.proofs.Math.Seq.{get_or-set_same}
use Rattle.admission_node.specs.Entries.{Kept}
use Rattle.admission_walk.specs.Walks.{marks_in, Linked}
use Rattle.admission_node.specs.KeptLaws.{kept_set}
use Rattle.admission.proofs.Verdicts.{root_zero_judges, Marks, marks_of, links_of, marks_fillable, filled_judges}
use Rattle.admission.proofs.judge.Goals as goal
use Rattle.admission.proofs.judge.Goals.{In_ok-walk}

-- ---- the chain is whole, and address 0 has no mark

not_empty : (c : In_ok-walk) → 0 < length c.args.fst.bytes.now
not_empty c = omega (arith, c.requires.root_inside c.if-fst-eq0.false)

room : (c : In_ok-walk) → 0 < length c.walk.new.depths
room c = omega (arith, not_empty c, c.requires.room_depths, c.walk.ensures.kept.long)

marks : (c : In_ok-walk) → (l : List ℕ) × (Marks (fst_is c.args.fst) (marks_in (set c.walk.new.depths 0 0)) l
    × Linked (length c.args.fst.bytes.now) (set c.walk.new.depths 0 0) l)
marks c =
    let w = c.in_ok-walk.ensures.walked in
    (w.0, (marks_of c.if-fst-eq0.false w.1 (room c), links_of c.if-fst-eq0.false w.1 (room c)))

kept_zero : (c : In_ok-walk) → Kept (length c.args.fst.bytes.now) c.args.depths.now (set c.walk.new.depths 0 0)
kept_zero c = kept_set 0 0 (not_empty c) c.walk.ensures.kept

-- root 0
pub returns-then-fst-eq0 : goal.returns-then-fst-eq0
returns-then-fst-eq0 c = root_zero_judges c.if-fst-eq0.true c.requires

-- the marks are those of the chain
pub fill-requires : goal.fill-requires
fill-requires c =
    let at = (goal.at.fill-requires c).In_ok-walk in
    marks_fillable (marks at).1.0 (get_or-set_same c.walk.new.depths 0 0 0 (room at)) (marks at).1.1 (omega (arith, c.requires.room_depths, (kept_zero at).long)) c.requires.room_sums c.requires.sums

-- what the pass up the file found
pub returns : goal.returns
returns c = let at = (goal.at.returns c).In_ok-walk in filled_judges (marks at).1.0 (kept_zero at) c.fill.ensures
