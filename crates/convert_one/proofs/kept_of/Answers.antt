-- The low six bits of the old state byte say where the input is.
use Rattle.std.proofs.Common.{refl, arith}
use Rattle.convert_one.proofs.Codes.{code_byte, code_low}
use Rattle.convert_one.proofs.kept_of.Goals as goal

-- the input has a byte of its own
pub returns-then-low-eq0 : goal.returns-then-low-eq0
returns-then-low-eq0 c = (code_byte c.args.file.now c.args.a c.if-low-eq0.true c.of.ensures.0, c.of.ensures.1)

-- the state byte keeps the input
pub returns : goal.returns
returns c = (code_low c.args.file.now c.args.a c.if-low-eq0.false (omega arith), refl)
