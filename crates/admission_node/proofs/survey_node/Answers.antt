-- `admission_node::survey_node` meets its contract. Assumes nothing.
use Rattle.std.proofs.Common.{refl, ◌≡◌, ◌∙◌, ◌<◌, length, arith}
use Rattle.node.specs.Read.{transitions_in}
use Rattle.node.specs.AccessorLaws.{output_is}
use Rattle.node.specs.ReadLaws.{length_node_transitions}
use Rattle.admission_node.proofs.Surveying.{surveyed_none, target_in_depths, target_in_sums, target_small, surveyed_step, raised_flag, surveyed_all}
use Rattle.admission_node.proofs.survey_node.Goals as goal
use Rattle.admission_node.proofs.survey_node.Goals.{then-fits, else-fits}
use Rattle.std.specs.Prelude.{cond, Some, None}

-- no transition is passed yet
pub loop-i-init : goal.loop-i-init
loop-i-init c = surveyed_none c.requires.3

-- the target lies within the depths
pub child_depth-d-requires : goal.child_depth-d-requires
child_depth-d-requires c =
    let in_list : c.loop-i.i < length (transitions_in c.args.file.now c.args.node) = omega (arith, length_node_transitions _ _ c.requires.0) in
    let t = c.target_at-t.ensures in
    (target_in_depths c.requires.3 c.loop-i.i in_list _ t, c.requires.3.no_depth, target_small c.requires.3 c.loop-i.i in_list _ t _ refl)

-- the target lies within the sums
pub child_sum-s-requires : goal.child_sum-s-requires
child_sum-s-requires c =
    (target_in_sums c.requires.3 c.loop-i.i (omega (arith, length_node_transitions _ _ c.requires.0)) _ c.target_at-t.ensures, c.requires.3.no_sum)

-- one transition more
pub loop-i-preserved : goal.loop-i-preserved
loop-i-preserved c =
    let in_list : c.loop-i.i < length (transitions_in c.args.file.now c.args.node) = omega (arith, length_node_transitions _ _ c.requires.0) in
    surveyed_step c.requires.3 c.loop-i.i in_list _ c.target_at-t.ensures _ c.child_depth-d.ensures
    _ _ _ _ c.loop-i.invariant c.child_sum-s.ensures (c.number-w.ensures ∙ output_is c.args.file.now c.args.node c.requires.0 c.loop-i.i c.loop-i-test.true) c.max-best.ensures
    (rw c.max-most.ensures (raised_flag c.loop-i.fits c.loop-i.most _ _ (omega (arith, c.number-w.type_inv)) (omega (arith, c.child_sum-s.type_inv))))

-- all transitions are passed
pub returns : goal.returns
returns c =
    rw total (surveyed_all c.loop-i.invariant (omega (arith, length_node_transitions _ _ c.requires.0)))
  where
    total : c.if-fits.total ≡ cond c.loop-i.fits (Some c.loop-i.most) None
    total = elim c.if-fits.branch [ then-fits w ↦ w.total-is ∙ rw w.if-fits.true refl | else-fits w ↦ w.total-is ∙ rw w.if-fits.false refl ]
