-- The low six bits say which case of `head_len` holds.
use Rattle.std.proofs.Common.{sym, arith}
use Rattle.format.specs.Laws.HeadLaws.{head_len_one, head_len_two}
use Rattle.node_sound.proofs.head_len.Goals as goal

-- the low six bits are 0: a byte below the state belongs to it
pub returns-then-file-addr-eq0 : goal.returns-then-file-addr-eq0
returns-then-file-addr-eq0 c =
    record { is = sym (head_len_two c.args.file.now c.args.addr c.if-file-addr-eq0.true); low = omega arith; high = omega arith }

-- the state byte alone
pub returns-else-file-addr-eq0 : goal.returns-else-file-addr-eq0
returns-else-file-addr-eq0 c =
    record { is = sym (head_len_one c.args.file.now c.args.addr c.if-file-addr-eq0.false); low = omega arith; high = omega arith }
