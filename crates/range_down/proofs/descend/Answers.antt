-- `range_down::descend` meets its contract: nothing is followed yet; each way out of a turn; a level more.
-- Assumes nothing.
use Rattle.std.proofs.Common.{rules, Err, ◌≡◌, refl, sym, ◌∙◌, arith, ◌+◌, ◌<◌, ◌≤◌, get_or}
use Rattle.std.proofs.lemmas.Result.{err_from_is_err_and}
use Rattle.format.specs.Limits.{max_sum}
use Rattle.format.specs.declared.Refusal.TheVariants.{Sum}
use Rattle.range_node.specs.EntriesLaws.{met_sound, met_unsound, ending_final, ending_inner}
use Rattle.range_down.proofs.GoingDown.{going_none, going_deep, place_fits, target_fits, going_sum, going_bad, further, going_passed, going_final, going_on, found_fits, found_past}
use Rattle.range_down.proofs.descend.Goals as goal

-- nothing is followed yet, and every level up to top is that of a judged node
pub loop-k-init : goal.loop-k-init
loop-k-init c =
    let r = c.requires.top_lt_max_levels in
    let k = c.args.stack.now in
    going_none _ _ _ k.addrs k.inps k.trans k.outs c.args.top c.args.standing.same c.args.standing.over r.0
    (record { addrs_len = omega arith; inps_len = omega arith; trans_len = omega arith; outs_len = omega arith }) r.2 r.3 r.4

-- the sum up to the target does not fit
pub returns-in_err-sum : goal.returns-in_err-sum
returns-in_err-sum c =
    let g = c.loop-k.invariant in
    let past : max_sum < get_or c.loop-k.stack.outs c.loop-k.k 0 + c.take-edge.result.out = grind arith in
    let told : c.from_residual.result ≡ Err Sum = grind arith in
    rw told (going_sum g refl (c.take-edge.ensures g.leads.node g.leads.is) c.loop-k-test.true past)

-- the target is not sound
pub returns-in_err-ending : goal.returns-in_err-ending
returns-in_err-ending c =
    let g = c.loop-k.invariant in
    let fits : get_or c.loop-k.stack.outs c.loop-k.k 0 + c.take-edge.result.out ≤ max_sum = grind arith in
    let p = err_from_is_err_and c.from_residual-in_err-ending.result c.from_residual-in_err-ending.ensures.1 in
    rw (p.1, p.2)
    (going_bad g refl (c.take-edge.ensures g.leads.node g.leads.is) c.loop-k-test.true fits (met_unsound _ (sym c.in_err-ending.was ∙ c.meet.ensures)))

-- the key of the new level passes the upper bound
pub returns-in_default : goal.returns-in_default
returns-in_default c =
    let g = c.loop-k.invariant in
    let e = c.take-edge.ensures g.leads.node g.leads.is in
    let fits : get_or c.loop-k.stack.outs c.loop-k.k 0 + c.take-edge.result.out ≤ max_sum = grind arith in
    let is : c.in_ok-sum.sum ≡ get_or c.loop-k.stack.outs c.loop-k.k 0 + c.take-edge.result.out = grind arith in
    let met = met_sound _ c.in_ok-ending.ending (sym c.in_ok-ending.was ∙ c.meet.ensures) in
    going_passed g refl e c.loop-k-test.true fits met.node met.is is
    ((further g refl e c.loop-k-test.true fits met.node met.is is c.follow.ensures).past c.in_default.is)

pub overflow_cast-stack : goal.overflow_cast-stack
overflow_cast-stack c = search (rules, place_fits c.loop-k.invariant refl (λ i. c.are_bytes.ensures i))

pub overflow_cast-stack-in-loop-k : goal.overflow_cast-stack-in-loop-k
overflow_cast-stack-in-loop-k c =
    let g = c.loop-k.invariant in
    search (rules, target_fits g refl (c.take-edge.ensures g.leads.node g.leads.is) c.requires.top_lt_max_levels.1)

-- the new level's node is final: a key ends here, or its value does not fit
pub returns-in-Some-ending : goal.returns-in-Some-ending
returns-in-Some-ending c =
    let g = c.loop-k.invariant in
    let e = c.take-edge.ensures g.leads.node g.leads.is in
    let fits : get_or c.loop-k.stack.outs c.loop-k.k 0 + c.take-edge.result.out ≤ max_sum = grind arith in
    let is : c.in_ok-sum.sum ≡ get_or c.loop-k.stack.outs c.loop-k.k 0 + c.take-edge.result.out = grind arith in
    let met = met_sound _ c.in_ok-ending.ending (sym c.in_ok-ending.was ∙ c.meet.ensures) in
    let within =
    (further g refl e c.loop-k-test.true fits met.node met.is is c.follow.ensures).within c.in-Some.same c.in-Some.is in
    going_final g refl e c.loop-k-test.true fits met.node met.is is within c.in-Some-ending.end
    (ending_final met.node c.in-Some-ending.end (sym c.in-Some-ending.is ∙ met.ending)) _
    (let room : c.in_ok-sum.sum + c.in-Some-ending.end ≤ max_sum = grind arith in let told : c.in_ok-value.value ≡ c.in_ok-sum.sum + c.in-Some-ending.end = grind arith in
    found_fits _ _ _ _ _ room told)

pub returns-in_err-value : goal.returns-in_err-value
returns-in_err-value c =
    let g = c.loop-k.invariant in
    let e = c.take-edge.ensures g.leads.node g.leads.is in
    let fits : get_or c.loop-k.stack.outs c.loop-k.k 0 + c.take-edge.result.out ≤ max_sum = grind arith in
    let is : c.in_ok-sum.sum ≡ get_or c.loop-k.stack.outs c.loop-k.k 0 + c.take-edge.result.out = grind arith in
    let met = met_sound _ c.in_ok-ending.ending (sym c.in_ok-ending.was ∙ c.meet.ensures) in
    let within =
    (further g refl e c.loop-k-test.true fits met.node met.is is c.follow.ensures).within c.in-Some.same c.in-Some.is in
    going_final g refl e c.loop-k-test.true fits met.node met.is is within c.in-Some-ending.end
    (ending_final met.node c.in-Some-ending.end (sym c.in-Some-ending.is ∙ met.ending)) _
    (let past : max_sum < c.in_ok-sum.sum + c.in-Some-ending.end = grind arith in let told : c.from_residual-in_err-value.result ≡ Err Sum = grind arith in
    told ∙ found_past _ _ _ _ past)

-- one transition more is followed, and its target is judged
pub loop-k-preserved : goal.loop-k-preserved
loop-k-preserved c =
    let g = c.loop-k.invariant in
    let e = c.take-edge.ensures g.leads.node g.leads.is in
    let fits : get_or c.loop-k.stack.outs c.loop-k.k 0 + c.take-edge.result.out ≤ max_sum = grind arith in
    let is : c.in_ok-sum.sum ≡ get_or c.loop-k.stack.outs c.loop-k.k 0 + c.take-edge.result.out = grind arith in
    let met = met_sound _ c.in_ok-ending.ending (sym c.in_ok-ending.was ∙ c.meet.ensures) in
    let within =
    (further g refl e c.loop-k-test.true fits met.node met.is is c.follow.ensures).within c.in-Some.same c.in-Some.is in
    going_on g refl e c.loop-k-test.true fits met.node met.is is within (ending_inner met.node (sym c.in_default-ending.is ∙ met.ending))

-- no room for another level: DEEP
pub returns : goal.returns
returns c = going_deep c.loop-k.invariant c.loop-k-test.false
