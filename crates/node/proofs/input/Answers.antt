-- By the state, the input is stored or was read when the node was judged.
use Rattle.std.proofs.Common.{inl, inr}
use Rattle.node.specs.AccessorLaws.{input_any, input_one}
use Rattle.node.proofs.input.Goals as goal

-- any number of transitions: the input is stored
pub returns-in-AnyTrans : goal.returns-in-AnyTrans
returns-in-AnyTrans c = rw (c.inputs.ensures, c.parts.ensures) (input_any c.args.file.now c.args.node c.requires.0 c.args.i c.requires.1 c.in-AnyTrans.is)

-- one transition: the input was read when the node was judged
pub returns-in-OneTrans : goal.returns-in-OneTrans
returns-in-OneTrans c = input_one c.args.file.now c.args.node c.requires.0 c.args.i c.requires.1 (elim c.in-OneTrans.is [ inl e ↦ rw e | inr e ↦ rw e ])
