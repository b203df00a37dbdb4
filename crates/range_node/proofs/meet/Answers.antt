-- `range_node::meet` meets its contract: address 0, which only a file with bytes has, or a node that is judged by its form.
-- Assumes nothing.
use Rattle.std.proofs.Common.{◌≡◌, length, sym, ap, arith}
use Rattle.format.specs.Laws.NodeLaws.{node_at_zero, node_at_blank, node_at_unsound}
use Rattle.range_node.specs.Entries.{met_of}
use Rattle.node_sound.specs.JudgingLaws.{sound_form}
use Rattle.range_node.proofs.Reread.{met_inner}
use Rattle.range_node.proofs.meet.Goals.{in-OneTrans, in-OneTransNext}
use Rattle.range_node.proofs.meet.Goals as goal

-- address 0 of a file that has bytes
pub returns-then-fst-gt0 : goal.returns-then-fst-gt0
returns-then-fst-gt0 c = rw c.if-addr-eq0.true (sym (ap met_of (node_at_zero c.args.fst.bytes.now c.args.fst.version c.args.fst.root c.if-fst-gt0.true)))

-- address 0 of a file without bytes
pub returns-then-addr-eq0 : goal.returns-then-addr-eq0
returns-then-addr-eq0 c =
    let z : length c.args.fst.bytes.now ≡ 0 = omega arith in
    sym (ap met_of (node_at_blank c.args.fst.bytes.now c.args.fst.version c.args.fst.root c.args.addr z))

-- its last byte does not lie where a node's does
pub returns-then-not-at_form : goal.returns-then-not-at_form
returns-then-not-at_form c =
    let a = c.args in
    sym
    (ap met_of
    (node_at_unsound a.fst.bytes.now a.fst.version a.fst.root a.addr c.if-addr-eq0.false
    (λ h. c.at_form.ensures.no c.if-not-at_form.true (sound_form a.fst.bytes.now a.fst.version a.fst.root a.addr h))))

-- one transition, and sound: no key ends here
pub returns-then-sound : goal.returns-then-sound
returns-then-sound c =
    let a = c.args in
    elim c.match-from.branch [
      | in-OneTrans w ↦ met_inner a.fst.bytes.now a.fst.version a.fst.root a.addr (w.one_sound-sound.ensures.yes (grind arith)) (grind arith)
      | in-OneTransNext w ↦ met_inner a.fst.bytes.now a.fst.version a.fst.root a.addr (w.next_sound-sound.ensures.yes (grind arith)) (grind arith)
    ]

-- one transition, and not sound
pub returns-else-sound : goal.returns-else-sound
returns-else-sound c =
    let a = c.args in
    sym
    (ap met_of
    (node_at_unsound a.fst.bytes.now a.fst.version a.fst.root a.addr c.if-addr-eq0.false
    (elim c.match-from.branch [
      | in-OneTrans w ↦ w.one_sound-sound.ensures.no (grind arith)
      | in-OneTransNext w ↦ w.next_sound-sound.ensures.no (grind arith)
    ])))
