-- `ops::next_item` meets its contract: a law of MergeCases for each answer.
-- Assumes nothing.
use Rattle.std.proofs.Common.{map, length, ap, arith}
use Rattle.ops_rounds.specs.Turns.{called_with}
use Rattle.ops.proofs.MergeCases.{count_wrong, merged_cards, merged_refused, merged_end, item_room, item_fits, merged_item}
use Rattle.ops.proofs.next_item.Goals as goal

pub returns-then-not-is_count : goal.returns-then-not-is_count
returns-then-not-is_count c =
    let a = c.args in
    merged_cards (map (λ f. f.now) a.files) a.cards (length a.key.now) a.key.now (count_wrong a.cards.count (c.is_count.ensures.no c.if-not-is_count.true)) c.refused.result
    c.refused.ensures

pub returns-in-Err : goal.returns-in-Err
returns-in-Err c =
    let a = c.args in
    let d = c.rounds in
    merged_refused (map (λ f. f.now) a.files) a.cards (length a.key.now) a.key.now (c.is_count.ensures.yes c.if-not-is_count.false).0 (c.is_count.ensures.yes c.if-not-is_count.false).1 _ d.ensures _
    (ap (called_with d.new.cards) c.in-Err.is) c.refused-in-Err.result c.refused-in-Err.ensures

pub returns-in_default : goal.returns-in_default
returns-in_default c =
    let a = c.args in
    let d = c.rounds in
    merged_end (map (λ f. f.now) a.files) a.cards (length a.key.now) a.key.now (c.is_count.ensures.yes c.if-not-is_count.false).0 (c.is_count.ensures.yes c.if-not-is_count.false).1 _ d.ensures
    (record { item = c.in-Ok.called; cards = d.new.cards }) (ap (called_with d.new.cards) c.in-Ok.is) c.in_default.is

pub put_key-len-requires : goal.put_key-len-requires
put_key-len-requires c =
    let a = c.args in
    let d = c.rounds in
    let counted = c.is_count.ensures.yes c.if-not-is_count.false in
    let room = item_room (map (λ f. f.now) a.files) a.cards (length a.key.now) a.key.now counted.0 counted.1 _ d.ensures
    (record { item = c.in-Ok.called; cards = d.new.cards }) (ap (called_with d.new.cards) c.in-Ok.is) c.in-Some.head c.in-Some.pairs c.in-Some.is in
    let fits = item_fits (map (λ f. f.now) a.files) a.cards (length a.key.now) a.key.now counted.0 counted.1 _ d.ensures
    (record { item = c.in-Ok.called; cards = d.new.cards }) (ap (called_with d.new.cards) c.in-Ok.is) c.in-Some.head c.in-Some.pairs c.in-Some.is in
    (fits, omega arith)

pub returns : goal.returns
returns c =
    let a = c.args in
    let d = c.rounds in
    let k = c.put_key-len in
    merged_item (map (λ f. f.now) a.files) a.cards (length a.key.now) a.key.now (c.is_count.ensures.yes c.if-not-is_count.false).0 (c.is_count.ensures.yes c.if-not-is_count.false).1 _ d.ensures
    (record { item = c.in-Ok.called; cards = d.new.cards }) (ap (called_with d.new.cards) c.in-Ok.is) c.in-Some.head c.in-Some.pairs c.in-Some.is k.result k.ensures.0 _ k.ensures.1
