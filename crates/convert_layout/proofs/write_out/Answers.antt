use Rattle.std.proofs.Common.{refl, arith}
use Rattle.std.proofs.lemmas.List.{length-take, length-drop}
use Rattle.convert_layout.proofs.Laying.{writes_none, writes_next, writes_to, writes_sound, writes_packable, writes_step, writes_small}
use Rattle.convert_layout.proofs.write_out.Goals as goal

pub marked_from-a-requires : goal.marked_from-a-requires
marked_from-a-requires c = (omega arith, c.requires.room_depths)

pub loop-a-init : goal.loop-a-init
loop-a-init c = (writes_to c.requires (writes_none _ _ _) c.marked_from-a.ensures, c.marked_from-a.ensures.marked)

pub slice_bounds-pack_at-count : goal.slice_bounds-pack_at-count
slice_bounds-pack_at-count c = omega (arith, writes_next c.loop-a.invariant.0 c.requires)

pub slice_bounds-pack_at-start : goal.slice_bounds-pack_at-start
slice_bounds-pack_at-start c = omega (arith, writes_next c.loop-a.invariant.0 c.requires)

-- a marked node is sound, and its record is as the packer asks and has room
pub pack_at-next-requires : goal.pack_at-next-requires
pack_at-next-requires c =
    let at = c.loop-a-test.true in
    let ne = c.loop-a.invariant.1 at in (
      writes_sound c.loop-a.invariant.0 c.requires at ne,
      writes_packable c.loop-a.invariant.0 c.requires at ne c.are_bytes.ensures (simp (length-take, length-drop) (omega arith)),
    )

pub overflow_add-next : goal.overflow_add-next
overflow_add-next c =
    let at = c.loop-a-test.true in
    omega (arith, writes_small c.loop-a.invariant.0 c.requires at (c.loop-a.invariant.1 at) c.pack_at-next.ensures)

-- a node more, and on to the next marked one
pub loop-a-preserved : goal.loop-a-preserved
loop-a-preserved c =
    let at = c.loop-a-test.true in
    let to = c.marked_from-a-in-loop-a.ensures in (
      writes_to c.requires
          (writes_step c.loop-a.invariant.0 c.requires at (c.loop-a.invariant.1 at) refl refl c.pack_at-next.ensures)
          (rw c.from.ensures at to),
      to.marked,
    )
