-- The front is compared with the bytes, and the rest is what the buffer held.
use Rattle.std.proofs.Common.{refl, arith}
use Rattle.replay_list.proofs.Held.{held_not, held_if}
use Rattle.replay_list.proofs.same_bytes.Goals as goal

pub returns-then-ne : goal.returns-then-ne
returns-then-ne c =
    held_not c.args.part.now c.args.buffer.now _ _ refl c.if-n-gt4096.false c.told-buffer refl c.ne.result c.ne.ensures c.if-ne.true

pub returns : goal.returns
returns c =
    held_if c.args.part.now c.args.buffer.now _ _ refl c.if-n-gt4096.false c.told-buffer (omega arith) c.ne.result c.ne.ensures c.if-ne.false c.all_kept.ensures
