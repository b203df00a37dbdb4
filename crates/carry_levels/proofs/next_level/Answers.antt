-- The byte has a place in the new node below, and the level settles where it leads.
-- Assumes nothing.
use Rattle.std.proofs.Common.{ℕ, ◌+◌, eqb, ap, ◌∙◌}
use Rattle.node.specs.ReadLaws.{answer_sound, search_is_lem, place_lt}
use Rattle.carry_levels.proofs.LevelCases.{level_settles}
use Rattle.carry_levels.proofs.next_level.Goals as goal

pub transition_addr-to-requires : goal.transition_addr-to-requires
transition_addr-to-requires c =
    let a = c.args in
    let p = c.in-Ok.p in
    (c.requires.1, place_lt a.new.bytes.now a.below c.requires.1 a.inp p (search_is_lem _ c.find_input.result c.find_input.ensures p c.in-Ok.is))

pub output-output-requires : goal.output-output-requires
output-output-requires c =
    let a = c.args in
    let p = c.in-Ok.p in
    (c.requires.1, place_lt a.new.bytes.now a.below c.requires.1 a.inp p (search_is_lem _ c.find_input.result c.find_input.ensures p c.in-Ok.is))

pub returns : goal.returns
returns c =
    let a = c.args in
    let m = c.in_ok-m.m in
    let p = c.in-Ok.p in
    level_settles a.old.bytes.now a.old.version a.old.root a.new.bytes.now a.new.version a.new.root a.addr a.inp a.out a.below a.sum m
    (answer_sound c.node_at.ensures m c.in_ok-m.was) (c.node_at.ensures.readable m c.in_ok-m.was) p
    (search_is_lem _ c.find_input.result c.find_input.ensures p c.in-Ok.is)
    c.transition_addr-to.ensures (c.comes_to.ensures ∙ ap (λ (x : ℕ). eqb (a.sum + x) a.out) c.output-output.ensures) c.settle.ensures
