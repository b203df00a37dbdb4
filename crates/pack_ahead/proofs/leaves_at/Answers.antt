-- A key leaves the open nodes where it first differs.
-- Assumes nothing.
use Rattle.std.proofs.Common.{arith}
use Rattle.pack_ahead.specs.AheadLaws.{leaves_common}
use Rattle.pack_ahead.proofs.leaves_at.Goals as goal

pub returns-then-i-key_count : goal.returns-then-i-key_count
returns-then-i-key_count c =
    leaves_common (omega (arith, c.key_count.ensures.0, c.if-i-key_count.true)) _ c.key_at.ensures c.common.ensures
