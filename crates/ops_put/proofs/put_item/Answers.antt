-- `ops_put::put_item` meets its contract: each of the four is written by its own call, or by one place set.
-- Assumes nothing.
use Rattle.std.proofs.Common.{◌≡◌, ap, ◌∙◌, length, refl, ◌*◌, rules}
use Rattle.buffers.specs.Put.{put}
use Rattle.ops_put.proofs.EightWrites.{eight_put, key_row}
use Rattle.ops_put.proofs.put_item.Goals as goal

pub returns : goal.returns
returns c =
    let a = c.args in
    let files_long : length a.pairs.files ≡ 8 = search rules in
    let values_long : length a.pairs.values ≡ 8 = search rules in
    record {
      row = c.put_row.ensures ∙ ap (put a.rows.now (a.place * 256)) (key_row a.head c.key_len-n.result c.key_len-n.ensures);
      count = refl;
      number = eight_put a.numbers.now (a.place * 8) a.pairs.files c.copy_from_slice.new.self files_long c.copy_from_slice.ensures.after;
      value = eight_put a.values.now (a.place * 8) a.pairs.values c.copy_from_slice-2.new.self values_long c.copy_from_slice-2.ensures.after;
    }
