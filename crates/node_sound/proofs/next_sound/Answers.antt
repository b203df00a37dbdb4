-- The shape is that of the form 11, and it is sound where its target is 16 at least.
use Rattle.std.proofs.Common.{◌-◌, arith}
use Rattle.buffers.specs.DecideLaws.{decides_le}
use Rattle.node_sound.specs.JudgingLaws.{sound_iff}
use Rattle.node_sound.specs.ShapesLaws.{next_shape, shape_next, next_sound, next_room}
use Rattle.node_sound.proofs.next_sound.Goals as goal

pub returns : goal.returns
returns c =
    let a = c.args in
    let s = a.fst.bytes.now in
    let len = c.head_len-len.result in
    sound_iff s a.fst.version a.fst.root a.addr (next_shape len) (shape_next s a.fst.version a.addr len c.requires.1 c.head_len-len.ensures.is)
    (λ z. omega (arith, c.requires.0.low)) (λ room. next_sound s a.fst.root a.addr len c.requires.0 room)
    (λ sound. next_room s a.fst.root a.addr len c.requires.0 sound) (decides_le len (a.addr - 16))
