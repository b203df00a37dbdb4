-- `ops_rounds::rounds` meets its contract: one law for each way out of a round.
-- Assumes nothing.
use Rattle.std.specs.Prelude.{Err}
use Rattle.std.proofs.Common.{◌≡◌, map, sym, ◌∙◌, arith}
use Rattle.ops_decide.specs.Verdicts.{op_is}
use Rattle.ops_rounds.proofs.RoundsLaws.{rounds_none, rounds_on, steps_less, called_refused, called_short, rounds_ready, called_end, item_within, called_item, rounds_again, round_less}
use Rattle.ops_rounds.proofs.rounds.Goals as goal

pub loop-stepped-init : goal.loop-stepped-init
loop-stepped-init c =
    let a = c.args in
    rounds_none (map (λ f. f.now) a.files) (op_is a.op) a.count a.space a.cards.now _ c.see-seen.result c.requires.1 c.see-seen.ensures

pub step_cards-requires : goal.step_cards-requires
step_cards-requires c = c.requires.1

pub returns-in_err-stepped : goal.returns-in_err-stepped
returns-in_err-stepped c =
    let told : c.from_residual.result ≡ Err c.in_err-stepped.field-0.0 = grind arith in
    rw told (called_refused c.loop-stepped.invariant c.step_cards.ensures _ c.in_err-stepped.was)

pub returns-then-not-has_room : goal.returns-then-not-has_room
returns-then-not-has_room c =
    called_short (rounds_on c.loop-stepped.invariant c.step_cards.ensures _ c.in_ok-stepped.was) c.requires.0 c.requires.1 (omega arith) (sym c.has_room.ensures ∙ c.if-not-has_room.true)

pub decide-verdict-requires : goal.decide-verdict-requires
decide-verdict-requires c = rounds_ready (rounds_on c.loop-stepped.invariant c.step_cards.ensures _ c.in_ok-stepped.was) c.requires.0 c.requires.1 (omega arith)

pub returns-in-NoMore : goal.returns-in-NoMore
returns-in-NoMore c =
    let d = c.decide-verdict in
    let room = sym c.has_room.ensures ∙ c.if-not-has_room.false in
    called_end (rounds_on c.loop-stepped.invariant c.step_cards.ensures _ c.in_ok-stepped.was) c.requires.0 c.requires.1 (omega arith) room d.new.cards d.result d.ensures c.in-NoMore.is _ c.deal.ensures

pub head_at-key-requires : goal.head_at-key-requires
head_at-key-requires c =
    let d = c.decide-verdict in
    let room = sym c.has_room.ensures ∙ c.if-not-has_room.false in
    item_within (rounds_on c.loop-stepped.invariant c.step_cards.ensures _ c.in_ok-stepped.was) c.requires.0 c.requires.1 (omega arith) room d.new.cards d.result d.ensures c.in-This.place c.in-This.pairs c.in-This.is

pub returns-in-This : goal.returns-in-This
returns-in-This c =
    let d = c.decide-verdict in
    let room = sym c.has_room.ensures ∙ c.if-not-has_room.false in
    called_item (rounds_on c.loop-stepped.invariant c.step_cards.ensures _ c.in_ok-stepped.was) c.requires.0 c.requires.1 (omega arith) room d.new.cards d.result d.ensures c.in-This.place c.in-This.pairs c.in-This.is
    c.head_at-key.result c.head_at-key.ensures.0 c.head_at-key.ensures.1 _ c.deal-in-This.ensures

pub loop-stepped-smaller : goal.loop-stepped-smaller
loop-stepped-smaller c =
    let d = c.decide-verdict in
    let room = sym c.has_room.ensures ∙ c.if-not-has_room.false in
    let steps = steps_less c.loop-stepped.invariant c.step_cards.ensures _ c.in_ok-stepped.was in
    let round = round_less (rounds_on c.loop-stepped.invariant c.step_cards.ensures _ c.in_ok-stepped.was) c.requires.0 c.requires.1 (omega arith) room d.new.cards d.result d.ensures c.in-Another.is in
    omega arith

pub loop-stepped-preserved : goal.loop-stepped-preserved
loop-stepped-preserved c =
    let d = c.decide-verdict in
    let room = sym c.has_room.ensures ∙ c.if-not-has_room.false in
    rounds_again (rounds_on c.loop-stepped.invariant c.step_cards.ensures _ c.in_ok-stepped.was) c.requires.0 c.requires.1 (omega arith) room d.new.cards d.result d.ensures c.in-Another.is
