-- A sound node is told by its numbers. Assumes nothing.
use Rattle.std.proofs.Common.{◌≡◌, ◌∙◌, ap, sym, Bool, true, false, refl}
use mir.Val.{bool_byte}
use Rattle.oracle_node.specs.NodeTells.{flag_as}
use Rattle.oracle_node.proofs.NodeTold.{viewed, node_sound}
use Rattle.oracle_node.proofs.oracle_node.Goals as goal

flag_is : (b : Bool) → bool_byte b ≡ flag_as b
flag_is true = refl
flag_is false = refl

pub returns : goal.returns
returns c =
    rw (ap viewed (sym c.new.ensures))
    (node_sound c.judged.ensures c.in-Ok.n c.from-is_final.result c.args.out.now _ c.in-Ok.is (c.from-is_final.ensures ∙ flag_is c.in-Ok.n.is_final) c.put.ensures)
