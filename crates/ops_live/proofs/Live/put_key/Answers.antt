-- `Live::put_key` meets its contract: the 256 bytes are put, the others stay.
-- Assumes nothing.
use Rattle.std.proofs.Common.{◌≡◌, sym, length, ◌+◌, ◌-◌, ◌*◌, rules, arith}
use Rattle.std.proofs.lemmas.Slice.{put_mid-paste}
use Rattle.ops_live.specs.Lives.{plain_of}
use Rattle.ops_live.proofs.KeyLaws.{putting_mid, putting_all}
use Rattle.ops_live.proofs.Live.put_key.Goals as goal

pub returns : goal.returns
returns c = λ f hi t.
    let a = c.args in
    let inps = a.self.now.stack.inps in
    let long : length inps ≡ 256 = search rules in
    let eight : length a.keys.now ≡ 2048 = search rules in
    putting_all (plain_of f hi a.self.now t) a.i a.keys.now _ c.requires long eight
    (putting_mid inps (a.i * 256) a.keys.now _ long eight (omega (arith, c.requires))
    (put_mid-paste (a.i * 256) (a.i * 256 + 256 - a.i * 256) a.keys.now c.copy_from_slice.new.self inps 256 c.copy_from_slice.ensures.after (omega arith) (sym long)))
