-- `ops_page::fill` meets its contract: one law for each way out of a round.
-- Assumes nothing.
use Rattle.std.proofs.Common.{map, refl, arith}
use Rattle.stream_start.specs.Views.{bound_of}
use Rattle.ops_decide.specs.Verdicts.{op_is}
use Rattle.ops_page.proofs.LiveTurns.{live_none, live_refused, live_on, live_ready, live_place, live_pairs, live_room, live_end, live_again, live_item, live_more, steps_fall, again_falls, item_falls}
use Rattle.ops_page.proofs.fill.Goals as goal

pub loop-done-init : goal.loop-done-init
loop-done-init c =
    let a = c.args in
    live_none (map (λ f. f.now) a.files) (op_is a.op) a.count (bound_of a.upper) a.lives.now a.keys.now a.seen.now a.most a.rows.now a.counts.now a.numbers.now a.values.now
    c.requires.count_nonzero.1

-- the readings stand for some cards
pub step_lives-requires : goal.step_lives-requires
step_lives-requires c =
    let B = c.requires.began in
    let F = c.loop-done.invariant.from B.cards B.begun in
    (c.requires.count_nonzero.1, record { cards = F.all; stand = F.stand })

pub returns-in-Err : goal.returns-in-Err
returns-in-Err c = live_refused c.loop-done.invariant c.requires.count_nonzero.0 c.requires.count_nonzero.1 refl c.step_lives.ensures c.loop-done-test.true _ c.in-Err.is

pub decide-verdict-requires : goal.decide-verdict-requires
decide-verdict-requires c = live_ready (live_on c.loop-done.invariant c.requires.count_nonzero.0 c.requires.count_nonzero.1 refl c.step_lives.ensures _ c.in_default.is) c.requires.count_nonzero.0 c.requires.count_nonzero.1 (omega arith) c.requires.began

pub returns-in-NoMore : goal.returns-in-NoMore
returns-in-NoMore c =
    let d = c.decide-verdict in
    live_end (live_on c.loop-done.invariant c.requires.count_nonzero.0 c.requires.count_nonzero.1 refl c.step_lives.ensures _ c.in_default.is) c.requires.count_nonzero.0 c.requires.count_nonzero.1 (omega arith) d.new.cards d.result d.ensures c.loop-done-test.true c.in-NoMore.is

pub head_at-key-requires : goal.head_at-key-requires
head_at-key-requires c =
    let d = c.decide-verdict in
    live_place (live_on c.loop-done.invariant c.requires.count_nonzero.0 c.requires.count_nonzero.1 refl c.step_lives.ensures _ c.in_default.is) c.requires.count_nonzero.0 c.requires.count_nonzero.1 (omega arith) d.new.cards d.result d.ensures c.in-This.place c.in-This.pairs c.in-This.is c.requires.began

pub put_item-requires : goal.put_item-requires
put_item-requires c =
    let d = c.decide-verdict in
    let fits = (live_place (live_on c.loop-done.invariant c.requires.count_nonzero.0 c.requires.count_nonzero.1 refl c.step_lives.ensures _ c.in_default.is) c.requires.count_nonzero.0 c.requires.count_nonzero.1 (omega arith) d.new.cards d.result d.ensures c.in-This.place c.in-This.pairs c.in-This.is c.requires.began).few in (
      omega (arith, c.head_at-key.ensures.0),
      live_pairs (live_on c.loop-done.invariant c.requires.count_nonzero.0 c.requires.count_nonzero.1 refl c.step_lives.ensures _ c.in_default.is) c.requires.count_nonzero.0 c.requires.count_nonzero.1 (omega arith) d.new.cards d.result d.ensures c.in-This.place c.in-This.pairs c.in-This.is c.requires.began,
      live_room c.loop-done.invariant c.requires.began c.requires.has_room c.loop-done-test.true,
    )

pub loop-done-smaller-in-This : goal.loop-done-smaller-in-This
loop-done-smaller-in-This c =
    let d = c.decide-verdict in
    let steps = steps_fall c.loop-done.invariant c.requires.count_nonzero.0 c.requires.count_nonzero.1 refl c.step_lives.ensures _ c.in_default.is c.requires.began in
    let B = c.requires.began in
    let next = live_item (live_on c.loop-done.invariant c.requires.count_nonzero.0 c.requires.count_nonzero.1 refl c.step_lives.ensures _ c.in_default.is) c.requires.count_nonzero.0 c.requires.count_nonzero.1 (omega arith) d.new.cards d.result d.ensures c.in-This.place c.in-This.pairs c.in-This.is c.loop-done-test.true c.requires.has_room
    c.head_at-key.result c.head_at-key.ensures.0 c.head_at-key.ensures.1 c.put_item.ensures in
    let round = item_falls (live_on c.loop-done.invariant c.requires.count_nonzero.0 c.requires.count_nonzero.1 refl c.step_lives.ensures _ c.in_default.is) c.requires.count_nonzero.0 c.requires.count_nonzero.1 (omega arith) d.new.cards d.result d.ensures c.in-This.place c.in-This.pairs c.in-This.is B (next.from B.cards B.begun).filling.turning.seen_len in
    omega arith

pub loop-done-preserved-in-This : goal.loop-done-preserved-in-This
loop-done-preserved-in-This c =
    let d = c.decide-verdict in
    live_item (live_on c.loop-done.invariant c.requires.count_nonzero.0 c.requires.count_nonzero.1 refl c.step_lives.ensures _ c.in_default.is) c.requires.count_nonzero.0 c.requires.count_nonzero.1 (omega arith) d.new.cards d.result d.ensures c.in-This.place c.in-This.pairs c.in-This.is c.loop-done-test.true c.requires.has_room
    c.head_at-key.result c.head_at-key.ensures.0 c.head_at-key.ensures.1 c.put_item.ensures

pub loop-done-smaller : goal.loop-done-smaller
loop-done-smaller c =
    let d = c.decide-verdict in
    let steps = steps_fall c.loop-done.invariant c.requires.count_nonzero.0 c.requires.count_nonzero.1 refl c.step_lives.ensures _ c.in_default.is c.requires.began in
    let round = again_falls (live_on c.loop-done.invariant c.requires.count_nonzero.0 c.requires.count_nonzero.1 refl c.step_lives.ensures _ c.in_default.is) c.requires.count_nonzero.0 c.requires.count_nonzero.1 (omega arith) d.new.cards d.result d.ensures c.requires.began c.in-Another.is in
    omega arith

pub loop-done-preserved : goal.loop-done-preserved
loop-done-preserved c =
    let d = c.decide-verdict in
    live_again (live_on c.loop-done.invariant c.requires.count_nonzero.0 c.requires.count_nonzero.1 refl c.step_lives.ensures _ c.in_default.is) c.requires.count_nonzero.0 c.requires.count_nonzero.1 (omega arith) d.new.cards d.result d.ensures c.in-Another.is

pub returns : goal.returns
returns c = live_more c.loop-done.invariant c.loop-done-test.false
