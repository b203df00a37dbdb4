-- A state byte outside its range is not sound.
use Rattle.buffers.specs.DecideLaws.{decides_false}
use Rattle.node_sound.specs.JudgingLaws.{sound_form}
use Rattle.node_sound.proofs.is_sound.Goals as goal

pub returns-then-not-at_form : goal.returns-then-not-at_form
returns-then-not-at_form c =
    let a = c.args in
    decides_false (λ sound. c.at_form.ensures.no c.if-not-at_form.true (sound_form a.fst.bytes.now a.fst.version a.fst.root a.addr sound))
