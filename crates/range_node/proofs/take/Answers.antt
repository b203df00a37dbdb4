-- `range_node::take` meets its contract: the numbers of one of the three forms, read again. A node with a transition is not at address 0.
-- Assumes nothing.
use Rattle.std.proofs.Common.{arith}
use Rattle.range_node.proofs.Reread.{leads_sound, leads_reads}
use Rattle.range_node.proofs.take.Goals as goal

pub bounds-fst-addr : goal.bounds-fst-addr
bounds-fst-addr c = (leads_sound c.requires).inside

pub any_node-requires : goal.any_node-requires
any_node-requires c = (leads_sound c.requires, grind arith)

pub transition-requires : goal.transition-requires
transition-requires c = leads_reads c.requires c.any_node.ensures.0

pub one_node-requires : goal.one_node-requires
one_node-requires c = (leads_sound c.requires, grind arith)

pub transition-requires-in-OneTrans : goal.transition-requires-in-OneTrans
transition-requires-in-OneTrans c = leads_reads c.requires c.one_node.ensures.0

pub next_node-requires : goal.next_node-requires
next_node-requires c = (leads_sound c.requires, grind arith)

pub transition-requires-in-OneTransNext : goal.transition-requires-in-OneTransNext
transition-requires-in-OneTransNext c = leads_reads c.requires c.next_node.ensures.0
