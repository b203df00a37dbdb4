-- `range_node::count_of` meets its contract: address 0, or the numbers of a sound node, read again.
-- Assumes nothing.
use Rattle.format.specs.Paths.{fst_with}
use Rattle.range_node.proofs.Reread.{sound_of, no_count, same_count}
use Rattle.range_node.proofs.count_of.Goals as goal

-- no transition at address 0
pub returns-then-addr-eq0 : goal.returns-then-addr-eq0
returns-then-addr-eq0 c = λ m is. no_count (fst_with c.args.fst.bytes.now c.args.fst.version c.args.fst.root) c.args.addr is c.if-addr-eq0.true

pub node_of-requires : goal.node_of-requires
node_of-requires c = sound_of (fst_with c.args.fst.bytes.now c.args.fst.version c.args.fst.root) c.args.addr c.requires.is c.if-addr-eq0.false

pub returns : goal.returns
returns c = λ m is. same_count (fst_with c.args.fst.bytes.now c.args.fst.version c.args.fst.root) c.args.addr is c.node_of.ensures.0
