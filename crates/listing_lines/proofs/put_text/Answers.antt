-- `listing_lines::put_text` meets its contract: the text is copied into a part of the line, and the place is the one past it.
-- Assumes nothing.
use Rattle.std.proofs.Common.{refl, arith}
use Rattle.listing_lines.proofs.LineParts.{put_part}
use Rattle.listing_lines.proofs.put_text.Goals as goal

pub returns : goal.returns
returns c = record {
  is = put_part c.args.at _ c.args.line.now c.copy_from_slice.new.self c.args.text.now c.copy_from_slice.ensures.after (omega arith);
  next = refl;
}
