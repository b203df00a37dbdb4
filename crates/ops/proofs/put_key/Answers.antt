-- `ops::put_key` meets its contract: the key stands in the bytes after the first.
-- Assumes nothing.
use Rattle.std.proofs.Common.{◌≡◌, length, drop, length-drop, arith, rules}
use Rattle.std.proofs.Math.Seq.{length-take-le}
use Rattle.ops.proofs.MergeCases.{key_put}
use Rattle.ops.proofs.put_key.Goals as goal

pub copy_front-requires : goal.copy_front-requires
copy_front-requires c =
    let h = c.args.head in
    let long : length h.inps ≡ 256 = search rules in
    let l = length-take-le 255 (drop 1 h.inps) (omega (arith, long, length-drop 1 h.inps)) in
    (omega (arith, c.key_len-n.ensures, l), omega (arith, c.key_len-n.ensures))

pub returns : goal.returns
returns c =
    let h = c.args.head in
    key_put h c.key_len-n.result c.args.key.now _ (search rules) c.requires.0 c.key_len-n.ensures c.copy_front.ensures
