-- `listing_lines::hex_digit` meets its contract.
-- Assumes nothing.
use Rattle.std.proofs.Common.{arith, lt-ltb, le-ltb}
use Rattle.listing_lines.specs.Lines.{hex_digit}
use Rattle.listing_lines.proofs.hex_digit.Goals as goal

-- a digit from 0 to 9
pub returns-then-d-lt10 : goal.returns-then-d-lt10
unfolding hex_digit
returns-then-d-lt10 c = rw (lt-ltb c.args.d 10 c.if-d-lt10.true)

-- a digit from a to f
pub returns-else-d-lt10 : goal.returns-else-d-lt10
unfolding hex_digit
returns-else-d-lt10 c = rw (le-ltb c.args.d 10 c.if-d-lt10.false) (omega arith)
