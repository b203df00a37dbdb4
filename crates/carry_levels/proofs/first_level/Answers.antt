-- The old node is sound, and the level settles at the new root.
-- Assumes nothing.
use Rattle.node.specs.ReadLaws.{answer_sound}
use Rattle.carry_levels.proofs.LevelCases.{first_settles}
use Rattle.carry_levels.proofs.first_level.Goals as goal

pub returns : goal.returns
returns c =
    let a = c.args in
    let m = c.in_ok-m.m in
    first_settles a.old.bytes.now a.old.version a.old.root a.new.bytes.now a.new.version a.new.root a.addr a.out m (answer_sound c.node_at.ensures m c.in_ok-m.was)
    (c.node_at.ensures.readable m c.in_ok-m.was) c.settle.ensures
