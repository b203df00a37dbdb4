-- `convert_marks::mark` meets its contract.
-- Assumes nothing.
use Rattle.std.proofs.Common.{sym, ◌∙◌, rules}
use Rattle.convert_marks.proofs.Marking.{cleared_marks, chain_marks, root_some}
use Rattle.convert_marks.proofs.mark.Goals as goal

-- the root becomes address 0: no node is marked
pub returns-then-becomes_zero : goal.returns-then-becomes_zero
returns-then-becomes_zero c = cleared_marks c.requires (sym c.becomes_zero.ensures ∙ c.if-becomes_zero.true) (search rules)

pub mark_chain-requires : goal.mark_chain-requires
mark_chain-requires c =
    record { nodes = c.requires.nodes; chain = root_some c.requires (sym c.becomes_zero.ensures ∙ c.if-becomes_zero.false); room = c.requires.room }

-- the chain is marked
pub returns : goal.returns
returns c = chain_marks c.requires (sym c.becomes_zero.ensures ∙ c.if-becomes_zero.false) c.mark_chain.ensures
