use Rattle.std.proofs.Common.{arith}
use Rattle.format.specs.Laws.ChainLaws.{chain_unique}
use Rattle.convert_marks.proofs.Marking.{marking_none, marking_sound, marking_last, marking_between, marking_next, marks_as}
use Rattle.convert_marks.proofs.mark_chain.Goals as goal

pub loop-a-init : goal.loop-a-init
loop-a-init c = (c.requires.nodes, marking_none _ c.requires.chain, c.requires.chain)

-- a node of the chain is sound
pub first_of-first-requires : goal.first_of-first-requires
first_of-first-requires c = marking_sound c.loop-a.invariant.1 c.requires.room

pub returns-then-first-eq-FIRST_NODE : goal.returns-then-first-eq-FIRST_NODE
returns-then-first-eq-FIRST_NODE c =
    record {
      each = λ l d.
          marks_as (chain_unique c.loop-a.invariant.2 d)
          (marking_last c.loop-a.invariant.1 c.requires.room c.mark_of.ensures.0 c.mark_of.ensures.1 c.first_of-first.ensures c.if-first-eq-FIRST_NODE.true);
    }

-- the first byte lies above 16, and not past the node
pub overflow_sub-low : goal.overflow_sub-low
overflow_sub-low c = omega (arith, marking_between c.loop-a.invariant.1 c.requires.room c.first_of-first.ensures c.if-first-eq-FIRST_NODE.false)

pub overflow_sub-up : goal.overflow_sub-up
overflow_sub-up c = omega (arith, marking_between c.loop-a.invariant.1 c.requires.room c.first_of-first.ensures c.if-first-eq-FIRST_NODE.false)

pub loop-a-smaller : goal.loop-a-smaller
loop-a-smaller c = omega (arith, marking_between c.loop-a.invariant.1 c.requires.room c.first_of-first.ensures c.if-first-eq-FIRST_NODE.false)

pub loop-a-preserved : goal.loop-a-preserved
loop-a-preserved c = (
  c.loop-a.invariant.0,
  marking_next c.loop-a.invariant.1 c.requires.room c.mark_of.ensures.0 c.mark_of.ensures.1 c.first_of-first.ensures c.if-first-eq-FIRST_NODE.false,
  c.loop-a.invariant.2,
)
