-- The output and the delta lie within the node; the one output is above what is left, or fits.
use Rattle.std.proofs.Common.{refl, arith, ◌≡◌, ◌*◌}
use Rattle.format.specs.Laws.StoredLaws.{length_numbers_down}
use Rattle.node.specs.AccessorLaws.{delta_le, input_one}
use Rattle.node_sound.specs.JudgingLaws.{sound_form}
use Rattle.node_way.specs.FormLaws.{one_judged, one_above}
use Rattle.node_choice.specs.FitOfLaws.{single_over, single_fits, choice_none, choice_to, fit_on}
use Rattle.node_choice.proofs.one_choice.Goals as goal

pub one_shape-one-requires : goal.one_shape-one-requires
one_shape-one-requires c =
    let a = c.args in
    let form = sound_form a.fst.bytes.now a.fst.version a.fst.root a.addr c.requires.0 in
    (omega (arith, form.low), form.inside, c.requires.1)

pub first-first-requires : goal.first-first-requires
first-first-requires c = (omega (arith, c.one_shape-one.ensures.1), one_above _ c.args.fst.version _ _ c.requires.0 _ _ _ c.one_shape-one.ensures.0)

pub output-out-requires : goal.output-out-requires
output-out-requires c =
    let j = one_judged _ c.args.fst.version _ _ c.requires.0 _ _ _ c.one_shape-one.ensures.0 _ c.input_of-inp.ensures in
    let r = j.readable _ refl in
    (omega (arith, r.room, c.first-first.ensures), r.osize_le)

pub returns-then-left-out : goal.returns-then-left-out
returns-then-left-out c =
    let a = c.args in
    let s = a.fst.bytes.now in
    let j = one_judged _ a.fst.version _ _ c.requires.0 _ _ _ c.one_shape-one.ensures.0 _ c.input_of-inp.ensures in
    fit_on s a.fst.version a.fst.root a.addr a.left _ _ j refl (choice_none s _ (j.readable _ refl) a.left 0 refl (single_over c.output-out.result (rw c.first-first.ensures at c.output-out.ensures) c.if-left-out.true))

pub delta-delta-requires : goal.delta-delta-requires
delta-delta-requires c =
    let j = one_judged _ c.args.fst.version _ _ c.requires.0 _ _ _ c.one_shape-one.ensures.0 _ c.input_of-inp.ensures in
    let r = j.readable _ refl in
    (omega (arith, r.room, c.first-first.ensures), r.tsize_le)

pub target_of-addr-requires : goal.target_of-addr-requires
target_of-addr-requires c =
    let j = one_judged _ c.args.fst.version _ _ c.requires.0 _ _ _ c.one_shape-one.ensures.0 _ c.input_of-inp.ensures in
    let one : 1 * c.one_shape-one.result.osize ≡ c.one_shape-one.result.osize = omega arith in
    rw c.first-first.ensures (delta_le c.args.fst.bytes.now _ (j.readable _ refl) 0 (omega arith) c.delta-delta.result (rw one (rw c.first-first.ensures at c.delta-delta.ensures)))

pub returns : goal.returns
returns c =
    let a = c.args in
    let s = a.fst.bytes.now in
    let j = one_judged _ a.fst.version _ _ c.requires.0 _ _ _ c.one_shape-one.ensures.0 _ c.input_of-inp.ensures in
    let r = j.readable _ refl in
    let one : 1 * c.one_shape-one.result.osize ≡ c.one_shape-one.result.osize = omega arith in
    let delta = rw c.first-first.ensures at c.delta-delta.ensures in
    let fits = single_fits c.output-out.result (length_numbers_down s _ c.one_shape-one.result.osize 1) (rw c.first-first.ensures at c.output-out.ensures) c.if-left-out.false in
    fit_on s a.fst.version a.fst.root a.addr a.left _ _ j refl
    (choice_to s _ r a.left 1 c.input_of-inp.result c.output-out.result c.target_of-addr.result (λ z. omega arith) fits (input_one s _ r 0 (omega arith) refl) (rw c.first-first.ensures at c.output-out.ensures)
    (rw (one, ← delta) (rw c.first-first.ensures at c.target_of-addr.ensures)))
