-- The one input is b or not; the output and the delta lie within the node.
use Rattle.std.proofs.Common.{refl, arith, ◌≡◌, ◌*◌}
use Rattle.std.specs.Prelude.{Ok, Err}
use Rattle.node.specs.ReadLaws.{single_here}
use Rattle.node.specs.AccessorLaws.{delta_le}
use Rattle.node_way.specs.StepOfLaws.{way_absent, way_to, step_yes}
use Rattle.node_sound.specs.JudgingLaws.{sound_form}
use Rattle.node_way.specs.FormLaws.{one_judged, one_above}
use Rattle.node_way.proofs.one_way.Goals as goal

pub one_shape-one-requires : goal.one_shape-one-requires
one_shape-one-requires c =
    let a = c.args in
    let form = sound_form a.fst.bytes.now a.fst.version a.fst.root a.addr c.requires.0 in
    (omega (arith, form.low), form.inside, c.requires.1)

pub first-first-requires : goal.first-first-requires
first-first-requires c = (omega (arith, c.one_shape-one.ensures.1), one_above _ c.args.fst.version _ _ c.requires.0 _ _ _ c.one_shape-one.ensures.0)

pub returns-then-input-b : goal.returns-then-input-b
returns-then-input-b c =
    let a = c.args in
    let s = a.fst.bytes.now in
    let j = one_judged _ a.fst.version _ _ c.requires.0 _ _ _ c.one_shape-one.ensures.0 _ c.input_of-input.ensures in
    let p = c.place_beside.result in
    step_yes s a.fst.version a.fst.root a.addr a.b _ (Err p) j (way_absent s _ (j.readable _ refl) a.b (Err p) c.place_beside.ensures p refl)

pub output-out-requires : goal.output-out-requires
output-out-requires c =
    let a = c.args in
    let j = one_judged _ a.fst.version _ _ c.requires.0 _ _ _ c.one_shape-one.ensures.0 _ c.input_of-input.ensures in
    let r = j.readable _ refl in
    (omega (arith, r.room, c.first-first.ensures), r.osize_le)

pub delta-delta-requires : goal.delta-delta-requires
delta-delta-requires c =
    let a = c.args in
    let j = one_judged _ a.fst.version _ _ c.requires.0 _ _ _ c.one_shape-one.ensures.0 _ c.input_of-input.ensures in
    let r = j.readable _ refl in
    (omega (arith, r.room, c.first-first.ensures), r.tsize_le)

pub target_of-requires : goal.target_of-requires
target_of-requires c =
    let a = c.args in
    let s = a.fst.bytes.now in
    let j = one_judged _ a.fst.version _ _ c.requires.0 _ _ _ c.one_shape-one.ensures.0 _ c.input_of-input.ensures in
    let one : 1 * c.one_shape-one.result.osize ≡ c.one_shape-one.result.osize = omega arith in
    rw c.first-first.ensures (delta_le s _ (j.readable _ refl) 0 (omega arith) c.delta-delta.result (rw one (rw c.first-first.ensures at c.delta-delta.ensures)))

pub returns : goal.returns
returns c =
    let a = c.args in
    let s = a.fst.bytes.now in
    let j = one_judged _ a.fst.version _ _ c.requires.0 _ _ _ c.one_shape-one.ensures.0 _ c.input_of-input.ensures in
    let one : 1 * c.one_shape-one.result.osize ≡ c.one_shape-one.result.osize = omega arith in
    let delta = rw c.first-first.ensures at c.delta-delta.ensures in
    step_yes s a.fst.version a.fst.root a.addr a.b _ (Ok (c.output-out.result, c.target_of.result)) j
    (way_to s _ (j.readable _ refl) a.b (Ok 0) (single_here c.if-input-b.false) 0 c.output-out.result c.target_of.result refl (rw c.first-first.ensures at c.output-out.ensures)
    (rw (one, ← delta) (rw c.first-first.ensures at c.target_of.ensures)))
