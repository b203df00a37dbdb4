-- `admission_walk::walk` meets its contract. Assumes nothing.
use Rattle.std.proofs.Common.{◌≡◌, ◌-◌, ◌<◌, ◌∙◌, ap, sym, length, arith}
use Rattle.format.specs.Node.{Node, sound, SoundAt}
use Rattle.format.specs.Paths.{node_in}
use Rattle.format.specs.View.{fst_is}
use Rattle.admission_node.specs.Entries.{Kept, MarksTargets, MarksAt}
use Rattle.admission_node.specs.KeptLaws.{kept_none, kept_set, kept_then, kept_lt}
use Rattle.admission_walk.specs.SoundNodeLaws.{sound_node, unsound_node}
use Rattle.admission_walk.proofs.Walking.{walking_broken, walked_below, walked_first_low}
use Rattle.admission_walk.proofs.Linking.{passing_none, passing_last, passing_next}
use Rattle.admission_walk.proofs.walk.Goals as goal
use Rattle.admission_walk.proofs.walk.Goals.{After-passed}

-- ---- a sound node whose targets are marked

entered : (c : After-passed) → SoundAt c.args.fst.bytes.now c.args.fst.version c.args.fst.root c.loop-first.a
    × MarksAt (fst_is c.args.fst) c.loop-first.a c.mark_of-mark.result c.loop-first.depths c.enter.new.depths c.in-Ok.first
entered c = rw c.in-Ok.is at c.enter.ensures

node : (c : After-passed) → (m : Node) × (node_in (fst_is c.args.fst) c.loop-first.a ≡ sound m)
node c = sound_node (fst_is c.args.fst) c.loop-first.a (entered c).0

marks : (c : After-passed)
    → MarksTargets (length c.args.fst.bytes.now) c.mark_of-mark.result (node c).0.transitions c.loop-first.depths c.enter.new.depths
marks c = (entered c).1.marks _ (node c).1

first_is : (c : After-passed) → c.in-Ok.first ≡ (node c).0.first
first_is c = (entered c).1.first_is _ (node c).1

kept : (c : After-passed) → Kept (length c.args.fst.bytes.now) c.args.depths.now c.enter.new.depths
kept c = kept_then c.loop-first.invariant.0 (marks c).kept

inside : (c : After-passed) → c.loop-first.a < length c.args.fst.bytes.now
inside c = c.loop-first.invariant.1.1.1.inside

room : (c : After-passed) → c.loop-first.a < length c.enter.new.depths
room c = kept_lt (kept c) c.requires.room (inside c)

-- no address is passed yet, and the root has its mark
pub loop-first-init : goal.loop-first-init
loop-first-init c = (kept_set _ _ c.requires.inside (kept_none _ _), (_, passing_none c.requires))

-- an unsound node breaks the chain
pub returns-in_default-clause-walked : goal.returns-in_default-clause-walked
returns-in_default-clause-walked c =
    let w = c.loop-first.invariant.1.1.0 in
    walking_broken w (unsound_node _ c.loop-first.a w.not_zero (rw c.in_default.is at c.enter.ensures).0)

-- the first byte is 16: the chain is whole
pub returns-then-ends-clause-kept : goal.returns-then-ends-clause-kept
returns-then-ends-clause-kept c =
    let at = (goal.at.returns-then-ends-clause-kept c).After-passed in
    kept_set _ _ (inside at) (kept at)

pub returns-then-ends-clause-walked : goal.returns-then-ends-clause-walked
returns-then-ends-clause-walked c =
    let at = (goal.at.returns-then-ends-clause-walked c).After-passed in
    let mark = c.mark_of-mark.ensures in
    let i = c.loop-first.invariant.1.1 in
    rw c.passed.ensures (_, passing_last i.0 i.1 _ (node at).1 _ mark.0 mark.1 _ (marks at) (room at) (sym (first_is at) ∙ c.if-ends.true))

-- the first byte is 16 at least
pub overflow_sub-next : goal.overflow_sub-next
overflow_sub-next c =
    let at = (goal.at.overflow_sub-next c).After-passed in
    omega (arith, first_is at, walked_first_low c.loop-first.invariant.1.1.0 _ (node at).1)

-- the next node lies below
pub overflow_sub-a : goal.overflow_sub-a
overflow_sub-a c =
    let at = (goal.at.overflow_sub-a c).After-passed in
    omega (arith, first_is at, walked_below c.loop-first.invariant.1.1.0 _ (node at).1)

pub loop-first-smaller : goal.loop-first-smaller
loop-first-smaller c =
    let at = (goal.at.loop-first-smaller c).After-passed in
    omega (arith, first_is at, walked_below c.loop-first.invariant.1.1.0 _ (node at).1)

-- the node that ends just below is next
pub loop-first-preserved : goal.loop-first-preserved
loop-first-preserved c =
    let at = (goal.at.loop-first-preserved c).After-passed in
    let mark = c.mark_of-mark.ensures in
    let i = c.loop-first.invariant.1.1 in
    rw c.passed.ensures (
      kept_set _ _ (inside at) (kept at),
      (
        _,
        passing_next i.0 i.1 _ (node at).1 _ mark.0 mark.1 _ (marks at) (room at) _ _ (λ e. c.if-ends.false (first_is at ∙ e))
            (ap (λ x. x - 1) (first_is at)) c.link_of-link.ensures,
      ),
    )
