-- One delta more is written, from the last on back.
use Rattle.std.proofs.Common.{◌∙◌, sym, map, length, arith}
use Rattle.format.specs.Packed.{delta_of}
use Rattle.format.specs.Laws.PackedLaws.{length_deltas, get_d_deltas}
use Rattle.node_compile.proofs.Record.{targets_le}
use Rattle.node_compile.proofs.Storing.{numbers_none, numbers_room, numbers_step, numbers_all}
use Rattle.node_compile.proofs.put_deltas.Goals as goal

pub loop-i-init : goal.loop-i-init
loop-i-init c =
    numbers_none c.args.out.now c.args.at (map (delta_of c.args.first) c.args.targets.now) c.args.size (length c.args.targets.now)
    (sym (length_deltas c.args.first c.args.targets.now))

-- the target is not above F
pub delta_of-requires : goal.delta_of-requires
delta_of-requires c = targets_le c.args.first c.args.targets.now c.requires.1 _ (omega (arith, c.loop-i.invariant.within, length_deltas c.args.first c.args.targets.now))

-- the buffer has room for the deltas that are left
pub pack_uint_in-requires : goal.pack_uint_in-requires
pack_uint_in-requires c = numbers_room c.requires.0 (omega arith) c.loop-i.invariant

-- the delta ends within the buffer
pub overflow_add-p : goal.overflow_add-p
overflow_add-p c = omega (arith, numbers_room c.requires.0 (omega arith) c.loop-i.invariant, c.loop-i.invariant.len)

pub loop-i-preserved : goal.loop-i-preserved
loop-i-preserved c =
    numbers_step c.pack_uint_in.new.out c.delta_of.result c.requires.0 (omega arith)
    (c.delta_of.ensures ∙ sym (get_d_deltas c.args.first c.args.targets.now _)) c.pack_uint_in.ensures c.loop-i.invariant

pub returns : goal.returns
returns c = numbers_all (omega arith) c.loop-i.invariant
