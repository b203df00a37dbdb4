-- One number more is written, from the last on back.
use Rattle.std.proofs.Common.{refl, length, arith}
use Rattle.node_compile.proofs.Storing.{numbers_none, numbers_room, numbers_step, numbers_all}
use Rattle.node_compile.proofs.put_numbers.Goals as goal

pub loop-i-init : goal.loop-i-init
loop-i-init c = numbers_none c.args.out.now c.args.at c.args.numbers.now c.args.size (length c.args.numbers.now) refl

-- the buffer has room for the numbers that are left
pub pack_uint_in-requires : goal.pack_uint_in-requires
pack_uint_in-requires c = numbers_room c.requires (omega arith) c.loop-i.invariant

pub loop-i-preserved : goal.loop-i-preserved
loop-i-preserved c = numbers_step c.pack_uint_in.new.out _ c.requires (omega arith) refl c.pack_uint_in.ensures c.loop-i.invariant

pub returns : goal.returns
returns c = numbers_all (omega arith) c.loop-i.invariant

-- the number ends within the buffer
pub overflow_add-p : goal.overflow_add-p
overflow_add-p c = omega (arith, numbers_room c.requires (omega arith) c.loop-i.invariant, c.loop-i.invariant.len)
