-- `ops_page::items` meets its contract: one law for each refusal before the starts, and one for the calls. Assumes nothing.
use Rattle.std.proofs.Common.{map, sym, ◌∙◌, length}
use Rattle.ops_paging.proofs.ItemsLaws.{items_no_cards, items_no_room, items_from}
use Rattle.stream_start.specs.Views.{bound_of}
use Rattle.ops_decide.specs.Verdicts.{op_is}
use Rattle.ops_page.specs.PageLaws.{paged_as, refused_by, room_of}
use Rattle.ops_page.proofs.items.Goals as goal

pub returns-then-not-is_count : goal.returns-then-not-is_count
returns-then-not-is_count c =
    let a = c.args in
    refused_by _ a.rows.now a.counts.now a.numbers.now a.values.now (items_no_cards (op_is a.op) a.count (map (λ f. f.now) a.files) (bound_of a.lower) (bound_of a.upper) a.most
    (length a.rows.now) (length a.counts.now) (length a.numbers.now) (length a.values.now) (c.is_count.ensures.no c.if-not-is_count.true)) c.refused.ensures

pub returns-then-not-has_room : goal.returns-then-not-has_room
returns-then-not-has_room c =
    let a = c.args in
    refused_by _ a.rows.now a.counts.now a.numbers.now a.values.now (items_no_room (op_is a.op) a.count (map (λ f. f.now) a.files) (bound_of a.lower) (bound_of a.upper) a.most
    (length a.rows.now) (length a.counts.now) (length a.numbers.now) (length a.values.now) (c.is_count.ensures.yes c.if-not-is_count.false).0 (c.is_count.ensures.yes c.if-not-is_count.false).1
    (sym c.has_room.ensures ∙ c.if-not-has_room.true)) c.refused-then-not-has_room.ensures

pub items_from-requires : goal.items_from-requires
items_from-requires c =
    let a = c.args in
    record {
      count_nonzero = c.is_count.ensures.yes c.if-not-is_count.false;
      has_room = room_of a.most a.rows.now a.counts.now a.numbers.now a.values.now (sym c.has_room.ensures ∙ c.if-not-has_room.false);
    }

pub returns : goal.returns
returns c =
    let a = c.args in
    paged_as (sym (items_from (op_is a.op) a.count (map (λ f. f.now) a.files) (bound_of a.lower) (bound_of a.upper) a.most
    (length a.rows.now) (length a.counts.now) (length a.numbers.now) (length a.values.now) (c.is_count.ensures.yes c.if-not-is_count.false).0 (c.is_count.ensures.yes c.if-not-is_count.false).1
    (sym c.has_room.ensures ∙ c.if-not-has_room.false))) c.items_from.ensures
