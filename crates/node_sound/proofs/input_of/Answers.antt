-- The low six bits say where the input is.
use Rattle.std.proofs.Common.{◌∙◌, sym}
use Rattle.format.specs.Laws.HeadLaws.{input_of_byte, input_of_common}
use Rattle.node_sound.proofs.input_of.Goals as goal

-- the low six bits are 0: the input is the byte below the state
pub returns-then-low-eq0 : goal.returns-then-low-eq0
returns-then-low-eq0 c = sym (input_of_byte c.args.file.now c.args.addr c.if-low-eq0.true)

-- a common input
pub returns-else-low-eq0 : goal.returns-else-low-eq0
returns-else-low-eq0 c = c.common_input.ensures ∙ sym (input_of_common c.args.file.now c.args.addr c.if-low-eq0.false)
