-- The index says the place, or the inputs are searched.
use Rattle.std.proofs.Common.{◌+◌, take, drop, arith}
use Rattle.format.specs.Node.{bytes_down}
use Rattle.format.specs.Laws.StoredLaws.{length_bytes_down}
use Rattle.node.specs.ReadLaws.{entry_finds}
use Rattle.node.proofs.InputSearch.{entry_is_lem, slice_down}
use Rattle.node.proofs.find_in.Goals as goal

-- by the index
pub returns-then-is_place : goal.returns-then-is_place
returns-then-is_place c =
    let a = c.args in
    let s = a.file.now in
    entry_finds (bytes_down s a.at a.n) (take 256 (drop (a.at + a.n) s)) a.b c.from-e.result (c.requires.index c.if-index_len-ne0.true) c.ranges.b.fits
    (rw (length_bytes_down s a.at a.n) c.if-is_place.true)
    (entry_is_lem s (a.at + a.n) a.b c.from-e.result c.ranges.b.fits c.from-e.ensures)

-- the slice is that part of the file
pub seek-requires : goal.seek-requires
seek-requires c = rw (slice_down c.args.file.now c.args.at c.args.n (omega (arith, c.requires.room))) c.requires.ascending

pub returns : goal.returns
returns c = rw (slice_down c.args.file.now c.args.at c.args.n (omega (arith, c.requires.room))) at c.seek.ensures
