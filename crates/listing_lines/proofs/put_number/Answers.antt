-- `listing_lines::put_number` meets its contract: no digit is written yet; one more is, from the last on back; none is left.
-- Assumes nothing.
use Rattle.listing_lines.proofs.Digits.{filling_none, filling_step, filling_all}
use Rattle.listing_lines.proofs.put_number.Goals as goal

pub loop-i-init : goal.loop-i-init
loop-i-init c = filling_none c.args.line.now c.args.at c.args.n c.digit_count-count.result c.digit_count-count.ensures c.requires

pub loop-i-preserved : goal.loop-i-preserved
loop-i-preserved c = filling_step c.loop-i-test.true c.loop-i.invariant

pub returns : goal.returns
returns c = filling_all c.digit_count-count.result c.digit_count-count.ensures c.loop-i-test.false c.loop-i.invariant
