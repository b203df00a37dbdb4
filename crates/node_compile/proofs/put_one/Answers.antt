use Rattle.std.proofs.Common.{arith}
use Rattle.format.specs.Laws.BytesLaws.{pack_size_high}
use Rattle.format.specs.Laws.PackedLaws.{output_size_le}
use Rattle.buffers.specs.WritingLaws.{writing_room, last_written}
use Rattle.node_compile.proofs.Whole.{number_room}
use Rattle.node_compile.proofs.Ones.{at_output, at_delta, sizes_room, at_state}
use Rattle.node_compile.proofs.put_one.Goals as goal

-- the buffer has room for the output
pub pack_uint_in-requires : goal.pack_uint_in-requires
pack_uint_in-requires c =
    let a = c.args in
    number_room a.output _ a.osize _ c.requires.1 (at_output a.kept.idx a.kept.input a.output a.delta a.out.now c.requires.0 a.osize c.requires.1)

-- and for the delta
pub pack_uint_in-requires-2 : goal.pack_uint_in-requires-2
pack_uint_in-requires-2 c =
    let a = c.args in
    number_room a.delta _ a.tsize _ c.requires.2
    (at_delta a.kept.idx a.kept.input a.output a.delta a.out.now c.requires.0 a.osize c.requires.1 _ c.pack_uint_in.ensures)

pub sizes_byte-requires : goal.sizes_byte-requires
sizes_byte-requires c = (omega (arith, pack_size_high c.args.delta), omega (arith, output_size_le c.args.output))

-- and for the sizes byte
pub bounds-out-osize : goal.bounds-out-osize
bounds-out-osize c =
    let a = c.args in
    omega (
      arith,
      sizes_room a.kept.idx a.kept.input a.output a.delta a.out.now c.requires.0 a.osize c.requires.1 _ c.pack_uint_in.ensures a.tsize c.requires.2 _
          c.pack_uint_in-2.ensures,
    )

-- and for the state
pub put_state-requires : goal.put_state-requires
put_state-requires c =
    let a = c.args in
    writing_room
    (at_state a.kept.idx a.kept.input a.output a.delta a.out.now c.requires.0 a.osize c.requires.1 _ c.pack_uint_in.ensures a.tsize c.requires.2 _
    c.pack_uint_in-2.ensures _ c.sizes_byte.ensures)

-- the state is written last
pub returns : goal.returns
returns c =
    let a = c.args in
    last_written c.put_state.new.out c.put_state.result
    (at_state a.kept.idx a.kept.input a.output a.delta a.out.now c.requires.0 a.osize c.requires.1 _ c.pack_uint_in.ensures a.tsize c.requires.2 _
    c.pack_uint_in-2.ensures _ c.sizes_byte.ensures) c.put_state.ensures
