-- The one input is b or not; there is no output, and the target is the byte before the first.
use Rattle.std.proofs.Common.{refl, arith, ◌+◌, ◌-◌}
use Rattle.std.specs.Prelude.{Ok, Err}
use Rattle.node.specs.ReadLaws.{single_here}
use Rattle.node_way.specs.StepOfLaws.{way_absent, way_to, step_yes}
use Rattle.node_way.specs.FormLaws.{no_number, next_judged}
use Rattle.node_way.proofs.next_way.Goals as goal

pub returns-then-input-b : goal.returns-then-input-b
returns-then-input-b c =
    let a = c.args in
    let s = a.fst.bytes.now in
    let j = next_judged _ a.fst.version _ _ c.requires.0 _ c.head_len-len.ensures.is _ c.input_of-input.ensures c.requires.1 in
    let p = c.place_beside.result in
    step_yes s a.fst.version a.fst.root a.addr a.b _ (Err p) j (way_absent s _ (j.readable _ refl) a.b (Err p) c.place_beside.ensures p refl)

pub returns : goal.returns
returns c =
    let a = c.args in
    let s = a.fst.bytes.now in
    let len = c.head_len-len.result in
    let j = next_judged _ a.fst.version _ _ c.requires.0 _ c.head_len-len.ensures.is _ c.input_of-input.ensures c.requires.1 in
    step_yes s a.fst.version a.fst.root a.addr a.b _ (Ok (0, a.addr - len)) j
    (way_to s _ (j.readable _ refl) a.b (Ok 0) (single_here c.if-input-b.false) 0 0 (a.addr - len) refl (no_number s (a.addr + 1 - len)) (omega arith))
