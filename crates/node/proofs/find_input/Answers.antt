-- A place of the input among ascending ones is its only place.
use Rattle.std.proofs.Common.{inl, inr}
use Rattle.node.specs.ReadLaws.{node_find}
use Rattle.node.proofs.find_input.Goals as goal

-- any number of transitions
pub returns-in-AnyTrans : goal.returns-in-AnyTrans
returns-in-AnyTrans c = node_find c.args.file.now c.args.node c.requires c.args.b c.find_any.result c.find_any.ensures

-- one transition
pub returns-in-OneTrans : goal.returns-in-OneTrans
returns-in-OneTrans c = node_find c.args.file.now c.args.node c.requires c.args.b c.find_one.result (elim c.in-OneTrans.is [ inl e ↦ rw e c.find_one.ensures | inr e ↦ rw e c.find_one.ensures ])
