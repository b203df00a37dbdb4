-- `stream_descend::follow` meets its contract: one law for each way out.
-- Assumes nothing.
use Rattle.std.proofs.Common.{◌≡◌, Err, arith, ◌+◌, ◌<◌, ◌≤◌, get_or}
use Rattle.std.proofs.lemmas.Result.{err_from_is_err_and}
use Rattle.format.specs.Limits.{max_sum, SUM}
use Rattle.node.specs.ReadLaws.{answer_sound, answer_unsound}
use Rattle.stream_descend.proofs.FollowLaws.{at_level, place_fits, target_fits, follows_sum, follows_bad, follows_to}
use Rattle.stream_descend.proofs.follow.Goals as goal

-- the sum up to the target does not fit
pub returns-in_err-sum : goal.returns-in_err-sum
returns-in_err-sum c =
    let s = c.args.stack.now in
    let past : max_sum < get_or s.outs c.args.k 0 + c.output-out.result = grind arith in
    let told : c.from_residual.result ≡ Err SUM = grind arith in
    rw told (follows_sum (at_level c.requires.room.0 c.are_arrays.ensures c.requires.ready) c.from-i.ensures c.output-out.ensures past)

-- the target is not sound
pub returns-in_err-n : goal.returns-in_err-n
returns-in_err-n c =
    let s = c.args.stack.now in
    let fits : get_or s.outs c.args.k 0 + c.output-out.result ≤ max_sum = grind arith in
    let p = err_from_is_err_and c.from_residual-in_err-n.result c.from_residual-in_err-n.ensures.1 in
    rw (p.1, p.2)
    (follows_bad (at_level c.requires.room.0 c.are_arrays.ensures c.requires.ready) c.from-i.ensures c.output-out.ensures fits c.transition_addr-target.ensures
    (answer_unsound c.node_at.ensures _ c.in_err-n.was))

pub overflow_cast-stack : goal.overflow_cast-stack
overflow_cast-stack c = omega (arith, place_fits c.requires.ready c.from-i.ensures (λ i. c.are_bytes.ensures i))

pub overflow_cast-target : goal.overflow_cast-target
overflow_cast-target c = omega (arith, target_fits c.requires.ready c.from-i.ensures c.transition_addr-target.ensures c.requires.room.1)

-- the target's level is written
pub returns : goal.returns
returns c =
    let s = c.args.stack.now in
    let fits : get_or s.outs c.args.k 0 + c.output-out.result ≤ max_sum = grind arith in
    let is : c.in_ok-sum.sum ≡ get_or s.outs c.args.k 0 + c.output-out.result = grind arith in
    follows_to (at_level c.requires.room.0 c.are_arrays.ensures c.requires.ready) c.from-i.ensures c.output-out.ensures fits c.transition_addr-target.ensures
    c.input-inp.ensures c.in_ok-n.n (answer_sound c.node_at.ensures c.in_ok-n.n c.in_ok-n.was) (c.node_at.ensures.readable c.in_ok-n.n c.in_ok-n.was) is
    c.put.ensures
