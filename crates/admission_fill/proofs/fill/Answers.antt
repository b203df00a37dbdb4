-- `admission_fill::fill` meets its contract. Assumes nothing.
use Rattle.std.proofs.Common.{set, ap, ◌≡◌, ◌+◌, ◌/◌, arith}
use Rattle.std.specs.Prelude.{get_or}
use Rattle.format.specs.View.{fst_is}
use Rattle.admission_fill.proofs.Filling.{Filling, filling_none, lost_one, all_passed, survey_ready, filling_step, next_marked, filling_on, filling_as, filling_lost, filling_told}
use Rattle.admission_fill.proofs.fill.Goals as goal
use Rattle.admission_fill.proofs.fill.Goals.{After-entry_of}

-- the targets lie below the node, where entries are small
pub survey_at-s-requires : goal.survey_at-s-requires
survey_at-s-requires c =
    let i = c.loop-a.invariant in
    survey_ready c.requires (rw c.if-not-none_lost.false at c.none_lost.ensures) i.0 c.loop-a-test.true (i.2 c.loop-a-test.true)
    (λ j. c.are_bytes.ensures j)

-- the node with its entries stored
stored : (c : After-entry_of) → Filling (fst_is c.args.fst) c.args.depths.now c.args.sums.now (set c.loop-a.depths c.loop-a.a c.clamped.result)
    (set c.loop-a.sums c.loop-a.a c.entry_of.result) c.or_deep-deep.result c.or_over-heavy.result (c.loop-a.a + 1)
stored c =
    let i = c.loop-a.invariant in
    filling_as
    (ap (λ x. set c.loop-a.depths c.loop-a.a x) c.clamped.ensures)
    (ap (λ x. set c.loop-a.sums c.loop-a.a x) c.entry_of.ensures)
    c.or_deep-deep.ensures
    c.or_over-heavy.ensures
    (filling_step c.requires (rw c.if-not-none_lost.false at c.none_lost.ensures) i.0 c.loop-a-test.true (i.2 c.loop-a-test.true) c.survey_at-s.result
    c.survey_at-s.ensures)

-- the link leads to the next node
pub next_of-a-requires : goal.next_of-a-requires
next_of-a-requires c =
    let i = c.loop-a.invariant in
    let same : get_or c.loop-a.depths c.loop-a.a 0 / 8 ≡ get_or c.args.depths.now c.loop-a.a 0 / 8 = ap (λ x. x / 8) (i.0.depths.above c.loop-a.a (omega arith)) in
    rw same
    (next_marked c.requires (rw c.if-not-none_lost.false at c.none_lost.ensures) (stored (goal.at.next_of-a-requires c).After-entry_of) c.loop-a-test.true
    (i.2 c.loop-a-test.true))

-- on from address 0, and from node to node
pub loop-a-init : goal.loop-a-init
loop-a-init c =
    filling_on c.requires (rw c.if-not-none_lost.false at c.none_lost.ensures) c.marked_from-a.result filling_none c.marked_from-a.ensures

pub loop-a-preserved : goal.loop-a-preserved
loop-a-preserved c =
    filling_on c.requires (rw c.if-not-none_lost.false at c.none_lost.ensures) c.next_of-a.result (stored (goal.at.loop-a-preserved c).After-entry_of)
    c.next_of-a.ensures

-- a mark at an address that is none of the chain
pub returns-then-not-none_lost : goal.returns-then-not-none_lost
returns-then-not-none_lost c =
    filling_lost (lost_one (fst_is c.args.fst) c.args.depths.now c.requires.room_depths (rw c.if-not-none_lost.true at c.none_lost.ensures))

-- every address is passed, and the flags tell
pub returns : goal.returns
returns c =
    let all = all_passed c.requires (rw c.if-not-none_lost.false at c.none_lost.ensures) in
    filling_told c.loop-a.invariant.0 all c.loop-a-test.false c.told_by.result c.told_by.ensures
