-- `range_rows::put_row` meets its contract: no byte of the key is written yet; one more is; all are.
-- Assumes nothing.
use Rattle.std.proofs.Common.{arith, length}
use lib.ListN.{length-set}
use Rattle.range_rows.proofs.RowWrites.{key_none, key_step, row_put}
use Rattle.range_rows.proofs.put_row.Goals as goal

pub loop-i-init : goal.loop-i-init
loop-i-init c = key_none _ _ _

pub loop-i-preserved : goal.loop-i-preserved
loop-i-preserved c =
    key_step (omega (arith, length-set c.args.rows.now c.args.at (length c.args.key.now))) c.loop-i-test.true c.loop-i.invariant

pub returns : goal.returns
returns c = row_put c.args.rows.now c.args.at c.args.key.now c.requires.1 c.requires.0 c.loop-i-test.false c.loop-i.invariant
