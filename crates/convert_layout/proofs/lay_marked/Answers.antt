use Rattle.std.proofs.Common.{arith}
use Rattle.convert_layout.proofs.Laying.{laying_none, laying_over, laying_to, laying_sound, laying_sizable, laying_step, laying_len}
use Rattle.convert_layout.proofs.lay_marked.Goals as goal

pub marked_from-a-requires : goal.marked_from-a-requires
marked_from-a-requires c = (omega arith, c.requires.0.room_depths)

pub loop-a-init : goal.loop-a-init
loop-a-init c = (laying_to c.requires.0 (laying_none _ _ _ c.requires.1) c.marked_from-a.ensures, omega arith, c.marked_from-a.ensures.marked)

pub returns-then-limit-next-clause-lays : goal.returns-then-limit-next-clause-lays
returns-then-limit-next-clause-lays c = laying_over c.loop-a.invariant.0 c.requires.0 c.if-limit-next.true

-- a marked node is sound, and its record is as the packer asks
pub len_at-len-requires : goal.len_at-len-requires
len_at-len-requires c =
    let at = c.loop-a-test.true in
    let ne = c.loop-a.invariant.2 at in (
      laying_sound c.loop-a.invariant.0 c.requires.0 at ne c.if-limit-next.false,
      laying_sizable c.loop-a.invariant.0 c.requires.0 at ne c.if-limit-next.false c.are_bytes.ensures,
    )

pub addr_of-requires : goal.addr_of-requires
addr_of-requires c =
    let at = c.loop-a-test.true in
    omega (
      arith,
      laying_len c.loop-a.invariant.0 c.requires.0 at (c.loop-a.invariant.2 at) c.if-limit-next.false c.are_bytes.ensures c.len_at-len.ensures,
      c.requires.0.limit_le,
    )

pub overflow_add-next-in-loop-a : goal.overflow_add-next-in-loop-a
overflow_add-next-in-loop-a c =
    let at = c.loop-a-test.true in
    omega (
      arith,
      laying_len c.loop-a.invariant.0 c.requires.0 at (c.loop-a.invariant.2 at) c.if-limit-next.false c.are_bytes.ensures c.len_at-len.ensures,
      c.requires.0.limit_le,
    )

-- a node more, and on to the next marked one
pub loop-a-preserved : goal.loop-a-preserved
loop-a-preserved c =
    let at = c.loop-a-test.true in
    let ne = c.loop-a.invariant.2 at in
    let to = c.marked_from-a-in-loop-a.ensures in (
      laying_to c.requires.0
          (laying_step c.loop-a.invariant.0 c.requires.0 at ne c.if-limit-next.false c.len_at-len.ensures c.addr_of.ensures)
          (rw c.from.ensures at to),
      omega (
        arith,
        laying_len c.loop-a.invariant.0 c.requires.0 at ne c.if-limit-next.false c.are_bytes.ensures c.len_at-len.ensures,
        c.requires.0.limit_le,
      ),
      to.marked,
    )
