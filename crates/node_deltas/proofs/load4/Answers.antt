-- The slice from p on starts with the four bytes.
use Rattle.std.proofs.Common.{◌∙◌, ap, List, ℕ, take, length-drop, arith}
use Rattle.format.specs.Bytes.{le}
use Rattle.format.specs.Laws.StoredLaws.{part_rest}
use Rattle.node_deltas.proofs.load4.Goals as goal

pub read_u32_le-requires : goal.read_u32_le-requires
read_u32_le-requires c = rw (part_rest c.args.file.now c.args.p) (simp length-drop (omega arith))

pub returns : goal.returns
returns c = c.read_u32_le.ensures ∙ ap (λ (l : List ℕ). le (take 4 l)) (part_rest c.args.file.now c.args.p)
