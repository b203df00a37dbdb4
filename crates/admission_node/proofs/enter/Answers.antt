-- `admission_node::enter` meets its contract: the node is judged by the form of its state, and its targets get its mark. Assumes nothing.
use Rattle.std.proofs.Common.{refl, ap, sym, ◌∙◌}
use Rattle.node_sound.specs.Shapes.{is_any}
use Rattle.node_sound.specs.JudgingLaws.{sound_form, judged_decides}
use Rattle.admission_node.proofs.JudgedNodes.{judged_sound}
use Rattle.admission_node.proofs.Marking.{markable_node}
use Rattle.admission_node.proofs.enter.Goals as goal

-- a state byte outside its range is not sound
pub returns-then-not-at_form : goal.returns-then-not-at_form
returns-then-not-at_form c =
    let a = c.args in
    (λ sound. c.at_form.ensures.no c.if-not-at_form.true (sound_form a.fst.bytes.now a.fst.version a.fst.root a.a sound), refl)

-- the targets lie below the node
pub mark_any-requires : goal.mark_any-requires
mark_any-requires c =
    let j = c.any_node.ensures.0 in
    let sound = (judged_decides c.any_parts.result c.any_parts.ensures).yes (sym c.is_some-sound.ensures ∙ c.if-not-sound.false) in
    (j.readable _ refl, c.any_node.ensures.1, markable_node _ _ _ _ (judged_sound j _ refl) sound c.requires.0 c.requires.1, c.requires.2)

pub mark_one-requires : goal.mark_one-requires
mark_one-requires c =
    let j = c.one_node.ensures.0 in
    let read = j.readable _ refl in
    let sound = c.one_sound.ensures.yes c.if-not-one_sound.false in
    (read, read.single (ap is_any c.one_node.ensures.1), markable_node _ _ _ _ (judged_sound j _ refl) sound c.requires.0 c.requires.1)

pub mark_one-requires-in-OneTransNext : goal.mark_one-requires-in-OneTransNext
mark_one-requires-in-OneTransNext c =
    let j = c.next_node.ensures.0 in
    let read = j.readable _ refl in
    let sound = c.next_sound.ensures.yes c.if-not-next_sound.false in
    (read, read.single (ap is_any c.next_node.ensures.1), markable_node _ _ _ _ (judged_sound j _ refl) sound c.requires.0 c.requires.1)
