-- Address 0, which only a file with bytes has, or a node whose numbers are read once it is sound.
use Rattle.std.proofs.Common.{arith}
use Rattle.node.specs.JudgedLaws.{judged_unsound, judged_blank, judged_empty}
use Rattle.node.proofs.node_at.Goals as goal

-- address 0 of a file that has bytes
pub returns-then-has_bytes : goal.returns-then-has_bytes
returns-then-has_bytes c =
    rw (c.empty_final.ensures, c.if-addr-eq0.true) (judged_empty c.args.fst.bytes.now c.args.fst.version c.args.fst.root c.if-has_bytes.true)

-- address 0 of a file without bytes
pub returns-then-addr-eq0 : goal.returns-then-addr-eq0
returns-then-addr-eq0 c = judged_blank c.args.fst.bytes.now c.args.fst.version c.args.fst.root c.args.addr (omega (arith, c.if-has_bytes.false))

-- a node that is not sound
pub returns : goal.returns
returns c =
    judged_unsound c.args.fst.bytes.now c.args.fst.version c.args.fst.root c.args.addr c.if-addr-eq0.false (c.is_sound.ensures.no c.if-is_sound.false)
