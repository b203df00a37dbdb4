-- `stream_upto::up_to` meets its contract. Assumes nothing.
use Rattle.std.proofs.Common.{◌≡◌, Ok, Some, None, sym, ◌∙◌, arith}
use Rattle.std.proofs.lemmas.Result.{err_from_is_err_and}
use Rattle.stream_upto.proofs.Walking.{walking_none, walking_end, walking_bad, walking_gone, walking_step}
use Rattle.stream_upto.proofs.up_to.Goals as goal

-- no byte is followed yet
pub loop-b-init : goal.loop-b-init
loop-b-init c = walking_none _ _ _ _

-- the node is not sound
pub returns-in_err-target : goal.returns-in_err-target
returns-in_err-target c =
    let h = c.loop-b.invariant in
    let p = err_from_is_err_and c.from_residual.result c.from_residual.ensures.1 in
    rw (p.1, p.2) (walking_bad h (omega arith) (sym (c.turn.ensures h.so_far h.total) ∙ c.in_err-target.was))

-- the string leaves the file at this byte
pub returns-in_default : goal.returns-in_default
returns-in_default c =
    let h = c.loop-b.invariant in
    let e : c.turn.result ≡ Ok (None, c.in_ok-target.sum) = grind arith in
    walking_gone h (omega arith) c.in_ok-target.sum (sym (c.turn.ensures h.so_far h.total) ∙ e)

-- one byte more is followed
pub loop-b-preserved : goal.loop-b-preserved
loop-b-preserved c =
    let h = c.loop-b.invariant in
    let e : c.turn.result ≡ Ok (Some c.in-Some.next, c.in_ok-target.sum) = grind arith in
    walking_step h (omega arith) c.in-Some.next c.in_ok-target.sum (sym (c.turn.ensures h.so_far h.total) ∙ e)

-- the string ends
pub returns : goal.returns
returns c = walking_end c.loop-b.invariant (omega arith) _ (c.at_end.ensures c.args.counts.now c.loop-b.invariant.so_far c.loop-b.invariant.total)
