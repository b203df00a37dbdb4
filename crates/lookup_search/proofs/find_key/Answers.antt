-- The choice is that of a sound node: the key ends there, or goes on along the transition that fits.
use Rattle.std.proofs.Common.{◌∙◌, sym, ap, arith}
use Rattle.std.proofs.lemmas.Result.{err_from_is_err_and}
use Rattle.format.specs.declared.Transition.{Transition}
use Rattle.format.specs.View.{fst_is}
use Rattle.format.specs.Paths.{node_in}
use Rattle.format.specs.Laws.LookupLaws.{at_fitting}
use Rattle.node_choice.specs.ChoicesLaws.{fit_sound, fit_stuck, choice_ended, choice_stuck, choice_followed}
use Rattle.lookup_search.proofs.KeyWalks.{searching_unsound, searching_found, searching_stuck, searching_deep}
use Rattle.lookup_search.proofs.Searching.{search_none, search_step, ends_both}
use Rattle.lookup_search.proofs.find_key.Goals as goal

-- nothing is found yet, and the whole value is left
pub loop-choice-init : goal.loop-choice-init
loop-choice-init c = search_none (fst_is c.args.fst) c.args.value c.args.path.now c.requires

-- the node is not sound
pub returns-in_err-choice-clause-path_after : goal.returns-in_err-choice-clause-path_after
returns-in_err-choice-clause-path_after c =
    let p = err_from_is_err_and c.from_residual.result c.from_residual.ensures.1 in
    rw (p.1, p.2)
    (sym (searching_unsound c.loop-choice.invariant.rest (fit_stuck (node_in (fst_is c.args.fst) c.loop-choice.addr) c.loop-choice.left (sym c.in_err-choice.was ∙ c.fit_at.ensures))))

pub returns-in_err-choice-clause-key_fits : goal.returns-in_err-choice-clause-key_fits
returns-in_err-choice-clause-key_fits c =
    let p = err_from_is_err_and c.from_residual.result c.from_residual.ensures.1 in
    rw p.1 (record { len = c.loop-choice.invariant.len; fits = omega arith })

-- nothing is left, and the node is final
pub returns-in-Ends-clause-path_after : goal.returns-in-Ends-clause-path_after
returns-in-Ends-clause-path_after c =
    let left = c.loop-choice.left in
    let n = fit_sound (node_in (fst_is c.args.fst) c.loop-choice.addr) left c.in_ok-choice.choice c.in_ok-choice.ensures in
    let e = ends_both left n.0.final (choice_ended n.0 left (sym c.in-Ends.is ∙ n.1.1)) in
    sym (searching_found c.loop-choice.invariant.rest n.0 n.1.0 e.0 e.1)

-- no transition fits what is left
pub returns-in-Absent-clause-path_after : goal.returns-in-Absent-clause-path_after
returns-in-Absent-clause-path_after c =
    let left = c.loop-choice.left in
    let n = fit_sound (node_in (fst_is c.args.fst) c.loop-choice.addr) left c.in_ok-choice.choice c.in_ok-choice.ensures in
    let e = choice_stuck n.0 left (sym c.in-Absent.is ∙ n.1.1) in
    sym (searching_stuck c.loop-choice.invariant.rest n.0 n.1.0 e.0 e.1)

-- a transition fits, but the key has 255 bytes
pub returns-then-too_deep-clause-path_after : goal.returns-then-too_deep-clause-path_after
returns-then-too_deep-clause-path_after c =
    let left = c.loop-choice.left in
    let n = fit_sound (node_in (fst_is c.args.fst) c.loop-choice.addr) left c.in_ok-choice.choice c.in_ok-choice.ensures in
    let t = choice_followed n.0 left c.in-To.next (sym c.in-To.is ∙ n.1.1) in
    sym (searching_deep c.loop-choice.invariant.rest n.0 n.1.0 t.on (omega (arith, c.if-too_deep.true)) t.place t.fits)

-- the output of the transition is not above what is left
pub overflow_sub-left : goal.overflow_sub-left
overflow_sub-left c =
    let left = c.loop-choice.left in
    let n = fit_sound (node_in (fst_is c.args.fst) c.loop-choice.addr) left c.in_ok-choice.choice c.in_ok-choice.ensures in
    let t = choice_followed n.0 left c.in-To.next (sym c.in-To.is ∙ n.1.1) in
    omega (arith, ap (λ (x : Transition). x.out) t.is_it, (at_fitting n.0.transitions left t.place t.fits).fit t.place (omega arith))

-- one byte more is found, and its output is taken off what is left
pub loop-choice-preserved : goal.loop-choice-preserved
loop-choice-preserved c =
    let left = c.loop-choice.left in
    let n = fit_sound (node_in (fst_is c.args.fst) c.loop-choice.addr) left c.in_ok-choice.choice c.in_ok-choice.ensures in
    let t = choice_followed n.0 left c.in-To.next (sym c.in-To.is ∙ n.1.1) in
    search_step n.0 n.1.0 t.on c.if-too_deep.false t.place t.fits c.in-To.next t.is_it c.loop-choice.invariant
