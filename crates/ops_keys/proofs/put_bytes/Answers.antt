-- `ops_keys::put_bytes` meets its contract: the 256 bytes are put, the others stay.
-- Assumes nothing.
use Rattle.std.proofs.Common.{◌≡◌, sym, length, ◌+◌, ◌-◌, ◌*◌, rules, arith}
use Rattle.std.proofs.lemmas.Slice.{put_mid-paste}
use Rattle.ops_keys.proofs.PlaceLaws.{putting_mid, putting_all}
use Rattle.ops_keys.proofs.put_bytes.Goals as goal

pub returns : goal.returns
returns c =
    let a = c.args in
    let inps = a.plain.reading.stack.inps in
    let long : length inps ≡ 256 = search rules in
    let eight : length a.keys.now ≡ 2048 = search rules in
    putting_all a.plain a.i a.keys.now _ c.requires long eight
    (putting_mid inps (a.i * 256) a.keys.now _ long eight (omega (arith, c.requires))
    (put_mid-paste (a.i * 256) (a.i * 256 + 256 - a.i * 256) a.keys.now c.copy_from_slice.new.self inps 256 c.copy_from_slice.ensures.after (omega arith) (sym long)))
