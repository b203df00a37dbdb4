-- The shape is that of the form 10, and each way out is a condition of soundness.
use Rattle.std.proofs.Common.{refl, arith}
use Rattle.node_sound.specs.JudgingLaws.{sound_no, sound_iff}
use Rattle.node_sound.specs.ShapesLaws.{one_sound, one_target}
use Rattle.node_sound.proofs.one_sound.Goals as goal
use Rattle.node_sound.proofs.one_sound.Goals.{then-not-sizes_right-via-then-not-sizes_right, then-not-sizes_right-via-else-not-sizes_right+then-addr-one}

-- a size is above 8, the delta has no byte, or the first byte would lie below 16
pub returns-then-not-sizes_right : goal.returns-then-not-sizes_right
returns-then-not-sizes_right c =
    let a = c.args in
    sound_no a.fst.bytes.now a.fst.version a.fst.root a.addr _ c.one_shape-one.ensures.0 (λ z. omega (arith, c.requires.0.low))
    (λ h. elim c.then-not-sizes_right.branch [
      | then-not-sizes_right-via-then-not-sizes_right w ↦ c.sizes_right.ensures.no w.if-not-sizes_right.true (h.sizes.tsize_le, h.sizes.osize_le, h.sizes.tsize_pos refl)
      | then-not-sizes_right-via-else-not-sizes_right+then-addr-one w ↦ omega (arith, h.above)
    ])

-- all other conditions hold: the answer is that of the target
pub returns : goal.returns
returns c =
    let a = c.args in
    let s = a.fst.bytes.now in
    let one = c.one_shape-one.result in
    sound_iff s a.fst.version a.fst.root a.addr _ c.one_shape-one.ensures.0 (λ z. omega (arith, c.requires.0.low))
    (λ right.
    one_sound s a.fst.root a.addr one.tsize one.osize one.size c.requires.0 (omega arith) (c.sizes_right.ensures.yes c.if-not-sizes_right.false)
    c.delta-delta.result (rw c.first-first.ensures at c.delta-delta.ensures) right)
    (λ sound.
    one_target s a.fst.root a.addr one.tsize one.osize one.size c.requires.0 sound c.delta-delta.result (rw c.first-first.ensures at c.delta-delta.ensures))
    (rw c.first-first.ensures at c.target_right.ensures)
