-- `stream_upto::turn` meets its contract: the node is judged, its own key added, then the keys by smaller inputs, as many as the place of the
-- byte says. Its targets' entries stand in the table, since they lie below it.
-- Assumes nothing.
use Rattle.std.proofs.Common.{◌≡◌, ◌+◌, Err, ap, ◌∙◌, arith}
use Rattle.format.specs.Paths.{fst_with}
use Rattle.format.specs.Tables.{one}
use Rattle.node.specs.Read.{meaning}
use Rattle.node.specs.ReadLaws.{answer_sound, answer_unsound, search_is_lem, search_gone, place_lt, gone_le}
use Rattle.stream_upto.specs.Counts.{total_as, added_to}
use Rattle.stream_upto.proofs.TotalLaws.{added_total}
use Rattle.stream_upto.proofs.Summing.{has_entries}
use Rattle.stream_upto.proofs.Walking.{turn_unsound, turn_gone, turn_on}
use Rattle.stream_upto.proofs.turn.Goals as goal

-- the node is not sound
pub returns-in_err-m : goal.returns-in_err-m
returns-in_err-m c =
    let a = c.args in
    let told : c.from_residual.result ≡ Err (record {}) = grind arith in
    λ n e.
    rw told (turn_unsound (fst_with a.fst.bytes.now a.fst.version a.fst.root) a.counts.now a.addr a.b n (answer_unsound c.node_at.ensures c.in_err-m.field-0.0 c.in_err-m.was))

-- the judged node can be read
pub find_input-found-requires : goal.find_input-found-requires
find_input-found-requires c = c.node_at.ensures.readable c.in_ok-m.m c.in_ok-m.was

-- as many transitions as the place of the absent byte says
pub below-requires : goal.below-requires
below-requires c =
    let s = c.args.fst.bytes.now in
    let m = c.in_ok-m.m in
    let r = c.node_at.ensures.readable m c.in_ok-m.was in
    let gone = search_gone _ c.find_input-found.result c.find_input-found.ensures c.in-Err.p c.in-Err.is in (
      r,
      gone_le s m r c.args.b c.in-Err.p gone,
      has_entries (fst_with s c.args.fst.version c.args.fst.root) c.args.addr (meaning s m) (answer_sound c.node_at.ensures m c.in_ok-m.was) c.args.counts.now c.requires,
    )

-- the node has the transition
pub transition_addr-target-requires : goal.transition_addr-target-requires
transition_addr-target-requires c =
    let s = c.args.fst.bytes.now in
    let m = c.in_ok-m.m in
    let r = c.node_at.ensures.readable m c.in_ok-m.was in
    let found = search_is_lem _ c.find_input-found.result c.find_input-found.ensures c.in-Ok.p c.in-Ok.is in
    (r, place_lt s m r c.args.b c.in-Ok.p found)

-- as many transitions as the place of the byte says
pub below-sum-requires : goal.below-sum-requires
below-sum-requires c =
    let s = c.args.fst.bytes.now in
    let m = c.in_ok-m.m in
    let r = c.node_at.ensures.readable m c.in_ok-m.was in
    let found = search_is_lem _ c.find_input-found.result c.find_input-found.ensures c.in-Ok.p c.in-Ok.is in (
      r,
      omega (arith, place_lt s m r c.args.b c.in-Ok.p found),
      has_entries (fst_with s c.args.fst.version c.args.fst.root) c.args.addr (meaning s m) (answer_sound c.node_at.ensures m c.in_ok-m.was) c.args.counts.now c.requires,
    )

-- the byte is absent
pub returns-in-Err : goal.returns-in-Err
returns-in-Err c =
    let a = c.args in
    let m = c.in_ok-m.m in
    let gone = search_gone _ c.find_input-found.result c.find_input-found.ensures c.in-Err.p c.in-Err.is in
    λ n e.
    let kept : c.added-kept.result ≡ total_as (n + one m.is_final) =
    c.added-kept.ensures ∙ ap (λ t. added_to t c.own_key.result) e ∙ added_total n c.own_key.result ∙ ap (λ k. total_as (n + k)) c.own_key.ensures in
    turn_gone (fst_with a.fst.bytes.now a.fst.version a.fst.root) a.counts.now a.addr a.b n (meaning a.fst.bytes.now m) (answer_sound c.node_at.ensures m c.in_ok-m.was) c.in-Err.p _
    (c.below.ensures (n + one m.is_final) kept) gone

-- the byte is found
pub returns-in-Ok : goal.returns-in-Ok
returns-in-Ok c =
    let a = c.args in
    let m = c.in_ok-m.m in
    let found = search_is_lem _ c.find_input-found.result c.find_input-found.ensures c.in-Ok.p c.in-Ok.is in
    λ n e.
    let kept : c.added-kept.result ≡ total_as (n + one m.is_final) =
    c.added-kept.ensures ∙ ap (λ t. added_to t c.own_key.result) e ∙ added_total n c.own_key.result ∙ ap (λ k. total_as (n + k)) c.own_key.ensures in
    turn_on (fst_with a.fst.bytes.now a.fst.version a.fst.root) a.counts.now a.addr a.b n (meaning a.fst.bytes.now m) (answer_sound c.node_at.ensures m c.in_ok-m.was) c.in-Ok.p _
    (c.below-sum.ensures (n + one m.is_final) kept) _ c.transition_addr-target.ensures found
