-- The parts are written one after the other; w0 to w6 say what is still to be written before each.
use Rattle.std.proofs.Common.{arith}
use Rattle.buffers.specs.WritingLaws.{writing_room, part_room, part_written, last_written}
use Rattle.node_compile.proofs.Whole.{number_written, number_room, byte_written, any_start}
use Rattle.node_compile.proofs.put_any.Goals as goal

pub pack_uint_in-requires : goal.pack_uint_in-requires
pack_uint_in-requires c =
    let w0 = any_start c.args.out.now c.requires in
    number_room c.args.node.final_output _ c.end_len-end.result _ c.end_len-end.ensures w0

pub put_numbers-deltas_at-requires : goal.put_numbers-deltas_at-requires
put_numbers-deltas_at-requires c =
    let w0 = any_start c.args.out.now c.requires in
    let w1 = part_written _ _ _ _ w0 (number_written c.args.out.now 0 c.args.node.final_output _ c.end_len-end.result c.pack_uint_in.new.out c.end_len-end.result c.end_len-end.ensures (omega arith) c.pack_uint_in.ensures) in
    part_room _ _ w1

pub put_deltas-inputs_at-requires : goal.put_deltas-inputs_at-requires
put_deltas-inputs_at-requires c =
    let w0 = any_start c.args.out.now c.requires in
    let w1 = part_written _ _ _ _ w0 (number_written c.args.out.now 0 c.args.node.final_output _ c.end_len-end.result c.pack_uint_in.new.out c.end_len-end.result c.end_len-end.ensures (omega arith) c.pack_uint_in.ensures) in
    let w2 = part_written _ _ _ _ w1 c.put_numbers-deltas_at.ensures in
    (part_room _ _ w2, c.requires.ok.targets_ok)

pub put_bytes-index_at-requires : goal.put_bytes-index_at-requires
put_bytes-index_at-requires c =
    let w0 = any_start c.args.out.now c.requires in
    let w1 = part_written _ _ _ _ w0 (number_written c.args.out.now 0 c.args.node.final_output _ c.end_len-end.result c.pack_uint_in.new.out c.end_len-end.result c.end_len-end.ensures (omega arith) c.pack_uint_in.ensures) in
    let w2 = part_written _ _ _ _ w1 c.put_numbers-deltas_at.ensures in
    let w3 = part_written _ _ _ _ w2 c.put_deltas-inputs_at.ensures in
    part_room _ _ w3

pub put_index-sizes_at-requires : goal.put_index-sizes_at-requires
put_index-sizes_at-requires c =
    let w0 = any_start c.args.out.now c.requires in
    let w1 = part_written _ _ _ _ w0 (number_written c.args.out.now 0 c.args.node.final_output _ c.end_len-end.result c.pack_uint_in.new.out c.end_len-end.result c.end_len-end.ensures (omega arith) c.pack_uint_in.ensures) in
    let w2 = part_written _ _ _ _ w1 c.put_numbers-deltas_at.ensures in
    let w3 = part_written _ _ _ _ w2 c.put_deltas-inputs_at.ensures in
    let w4 = part_written _ _ _ _ w3 c.put_bytes-index_at.ensures in
    (part_room _ _ w4, c.requires.ok.few, c.requires.ok.ascending)

pub bounds-out-sizes_at : goal.bounds-out-sizes_at
bounds-out-sizes_at c =
    let w0 = any_start c.args.out.now c.requires in
    let w1 = part_written _ _ _ _ w0 (number_written c.args.out.now 0 c.args.node.final_output _ c.end_len-end.result c.pack_uint_in.new.out c.end_len-end.result c.end_len-end.ensures (omega arith) c.pack_uint_in.ensures) in
    let w2 = part_written _ _ _ _ w1 c.put_numbers-deltas_at.ensures in
    let w3 = part_written _ _ _ _ w2 c.put_deltas-inputs_at.ensures in
    let w4 = part_written _ _ _ _ w3 c.put_bytes-index_at.ensures in
    let w5 = part_written _ _ _ _ w4 c.put_index-sizes_at.ensures in
    omega (arith, writing_room w5)

pub overflow_add-sizes_at : goal.overflow_add-sizes_at
overflow_add-sizes_at c =
    let w0 = any_start c.args.out.now c.requires in
    let w1 = part_written _ _ _ _ w0 (number_written c.args.out.now 0 c.args.node.final_output _ c.end_len-end.result c.pack_uint_in.new.out c.end_len-end.result c.end_len-end.ensures (omega arith) c.pack_uint_in.ensures) in
    let w2 = part_written _ _ _ _ w1 c.put_numbers-deltas_at.ensures in
    let w3 = part_written _ _ _ _ w2 c.put_deltas-inputs_at.ensures in
    let w4 = part_written _ _ _ _ w3 c.put_bytes-index_at.ensures in
    let w5 = part_written _ _ _ _ w4 c.put_index-sizes_at.ensures in
    omega (arith, c.well_formed.0, writing_room w5, w5.len)

pub put_head-requires : goal.put_head-requires
put_head-requires c =
    let w0 = any_start c.args.out.now c.requires in
    let w1 = part_written _ _ _ _ w0 (number_written c.args.out.now 0 c.args.node.final_output _ c.end_len-end.result c.pack_uint_in.new.out c.end_len-end.result c.end_len-end.ensures (omega arith) c.pack_uint_in.ensures) in
    let w2 = part_written _ _ _ _ w1 c.put_numbers-deltas_at.ensures in
    let w3 = part_written _ _ _ _ w2 c.put_deltas-inputs_at.ensures in
    let w4 = part_written _ _ _ _ w3 c.put_bytes-index_at.ensures in
    let w5 = part_written _ _ _ _ w4 c.put_index-sizes_at.ensures in
    let w6 = byte_written c.sizes_byte.result c.sizes_byte.ensures w5 in
    (writing_room w6, c.requires.ok.few)

pub returns : goal.returns
returns c =
    let w0 = any_start c.args.out.now c.requires in
    let w1 = part_written _ _ _ _ w0 (number_written c.args.out.now 0 c.args.node.final_output _ c.end_len-end.result c.pack_uint_in.new.out c.end_len-end.result c.end_len-end.ensures (omega arith) c.pack_uint_in.ensures) in
    let w2 = part_written _ _ _ _ w1 c.put_numbers-deltas_at.ensures in
    let w3 = part_written _ _ _ _ w2 c.put_deltas-inputs_at.ensures in
    let w4 = part_written _ _ _ _ w3 c.put_bytes-index_at.ensures in
    let w5 = part_written _ _ _ _ w4 c.put_index-sizes_at.ensures in
    let w6 = byte_written c.sizes_byte.result c.sizes_byte.ensures w5 in
    last_written c.put_head.new.out c.put_head.result w6 c.put_head.ensures
