-- `stream_seek::enter` meets its contract: the node is judged, then the byte is found or not. The numbers of a level fit, since the root fits
-- and a node has at most 256 transitions.
-- Assumes nothing.
use Rattle.std.proofs.Common.{◌≡◌, Err, sym, arith}
use Rattle.format.specs.Paths.{fst_with}
use Rattle.node.specs.Read.{meaning}
use Rattle.node.specs.ReadLaws.{answer_sound, answer_unsound, search_is_lem, search_gone, place_lt}
use Rattle.stream_seek.proofs.SeekCases.{enter_unsound, enter_miss, enter_hit}
use Rattle.stream_seek.proofs.Seeking.{place_fits, target_fits, gone_fits}
use Rattle.stream_seek.proofs.enter.Goals as goal

-- the node is not sound
pub returns-in_err-m : goal.returns-in_err-m
returns-in_err-m c =
    let a = c.args in
    let told : c.from_residual.result ≡ Err (record {}) = grind arith in
    rw told (
      sym (enter_unsound (fst_with a.fst.bytes.now a.fst.version a.fst.root) a.addr a.b (answer_unsound c.node_at.ensures c.in_err-m.field-0.0 c.in_err-m.was)),
      omega arith,
    )

-- a node has at most 256 transitions, so the place of an absent byte fits in 16 bits
pub overflow_cast-result : goal.overflow_cast-result
overflow_cast-result c =
    let a = c.args in
    let m = c.in_ok-m.m in
    let gone = search_gone _ c.find_input-found.result c.find_input-found.ensures c.in-Err.p c.in-Err.is in
    omega (
      arith,
      gone_fits (fst_with a.fst.bytes.now a.fst.version a.fst.root) a.addr (meaning a.fst.bytes.now m) (answer_sound c.node_at.ensures m c.in_ok-m.was) a.b c.in-Err.p gone
          (λ j. omega (arith, c.are_bytes.ensures j)),
    )

-- the judged node can be read, and it has the transition
pub transition_addr-requires : goal.transition_addr-requires
transition_addr-requires c =
    let m = c.in_ok-m.m in
    let r = c.node_at.ensures.readable m c.in_ok-m.was in
    let found = search_is_lem _ c.find_input-found.result c.find_input-found.ensures c.in-Ok.p c.in-Ok.is in
    (r, place_lt c.args.fst.bytes.now m r c.args.b c.in-Ok.p found)

-- the same of its output
pub output-requires : goal.output-requires
output-requires c =
    let m = c.in_ok-m.m in
    let r = c.node_at.ensures.readable m c.in_ok-m.was in
    let found = search_is_lem _ c.find_input-found.result c.find_input-found.ensures c.in-Ok.p c.in-Ok.is in
    (r, place_lt c.args.fst.bytes.now m r c.args.b c.in-Ok.p found)

-- the place of a byte fits in 16 bits
pub overflow_cast-result-in-Ok : goal.overflow_cast-result-in-Ok
overflow_cast-result-in-Ok c =
    let a = c.args in
    let m = c.in_ok-m.m in
    let found = search_is_lem _ c.find_input-found.result c.find_input-found.ensures c.in-Ok.p c.in-Ok.is in
    omega (
      arith,
      place_fits (fst_with a.fst.bytes.now a.fst.version a.fst.root) a.addr (meaning a.fst.bytes.now m) (answer_sound c.node_at.ensures m c.in_ok-m.was) a.b c.in-Ok.p found
          (λ j. omega (arith, c.are_bytes.ensures j)),
    )

-- the target is below the root, so it fits in 32 bits
pub overflow_cast-result-in-Ok-2 : goal.overflow_cast-result-in-Ok-2
overflow_cast-result-in-Ok-2 c =
    let a = c.args in
    let m = c.in_ok-m.m in
    let found = search_is_lem _ c.find_input-found.result c.find_input-found.ensures c.in-Ok.p c.in-Ok.is in
    omega (
      arith,
      target_fits (fst_with a.fst.bytes.now a.fst.version a.fst.root) a.addr (meaning a.fst.bytes.now m) (answer_sound c.node_at.ensures m c.in_ok-m.was) a.b c.in-Ok.p found,
      c.transition_addr.ensures,
    )

-- the byte is absent
pub returns-in-Err : goal.returns-in-Err
returns-in-Err c =
    let a = c.args in
    let f = fst_with a.fst.bytes.now a.fst.version a.fst.root in
    let m = c.in_ok-m.m in
    let is = answer_sound c.node_at.ensures m c.in_ok-m.was in
    let gone = search_gone _ c.find_input-found.result c.find_input-found.ensures c.in-Err.p c.in-Err.is in (
      sym (enter_miss f a.addr a.b (meaning a.fst.bytes.now m) is c.in-Err.p gone),
      omega (arith, gone_fits f a.addr (meaning a.fst.bytes.now m) is a.b c.in-Err.p gone (λ j. omega (arith, c.are_bytes.ensures j))),
    )

-- the byte is found
pub returns-in-Ok : goal.returns-in-Ok
returns-in-Ok c =
    let a = c.args in
    let f = fst_with a.fst.bytes.now a.fst.version a.fst.root in
    let m = c.in_ok-m.m in
    let is = answer_sound c.node_at.ensures m c.in_ok-m.was in
    let found = search_is_lem _ c.find_input-found.result c.find_input-found.ensures c.in-Ok.p c.in-Ok.is in (
      rw (c.transition_addr.ensures, c.output.ensures) (sym (enter_hit f a.addr a.b (meaning a.fst.bytes.now m) is c.in-Ok.p found)),
      omega (arith, place_fits f a.addr (meaning a.fst.bytes.now m) is a.b c.in-Ok.p found (λ j. omega (arith, c.are_bytes.ensures j))),
    )
