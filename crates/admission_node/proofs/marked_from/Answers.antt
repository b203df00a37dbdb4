use Rattle.admission_node.proofs.Marks.{first_marked}
use Rattle.admission_node.proofs.marked_from.Goals as goal

pub returns : goal.returns
returns c = first_marked c.args.depths.now c.args.from c.args.n _ c.requires.0 c.requires.1 c.gap.ensures
