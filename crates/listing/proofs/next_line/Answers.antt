-- `listing::next_line` meets its contract: a short buffer stays, and the line in the first bytes of another is a line in the whole of it.
-- Assumes nothing.
use Rattle.std.proofs.Common.{◌≡◌, ◌<◌, ◌≤◌, refl, length, take}
use Rattle.listing.specs.Lined.{Wrote}
use Rattle.listing.specs.Listing.{line_of, state}
use Rattle.stream.specs.Plains.{plain_is}
use Rattle.listing.proofs.LinedLaws.{wrote_whole}
use Rattle.listing.proofs.next_line.Goals as goal

-- the line in the buffer's first bytes
pub returns-in-Some : goal.returns-in-Some
returns-in-Some c =
    let w = line_of c.args.file.now (state (plain_is c.args.plain) c.args.keys) in
    let q : Wrote w c.in-Some.line.now c.write_line.new.line c.write_line.result = c.write_line.ensures in
    let front : c.in-Some.line.now ≡ take 532 c.args.line.now = c.in-Some.ensures.cases.same in
    let room : 532 ≤ length c.args.line.now = c.in-Some.ensures.cases.enough in
    (wrote_whole w c.args.line.now c.write_line.new.line _ _ room (rw front at q) refl, room)

-- the buffer is too short for the longest line
pub returns-in-None : goal.returns-in-None
returns-in-None c =
    let short : length c.args.line.now < 532 = c.in-None.ensures.cases in
    (refl, refl, short)
