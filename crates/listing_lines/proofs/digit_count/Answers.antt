-- 0 has one digit, and any other number one more than the highest power of ten that is not above it.
use Rattle.std.proofs.Common.{arith}
use Rattle.listing_lines.proofs.Digits.{counted}
use Rattle.listing_lines.proofs.digit_count.Goals as goal

pub returns-then-n-eq0 : goal.returns-then-n-eq0
returns-then-n-eq0 c = counted 0 c.args.n (omega arith) (omega arith) (λ pos. absurd (omega arith))

pub returns-else-n-eq0 : goal.returns-else-n-eq0
returns-else-n-eq0 c = counted c.ilog10.result c.args.n c.ilog10.ensures.bound c.ilog10.ensures.next_power_gt (λ _. c.ilog10.ensures.power_le)
