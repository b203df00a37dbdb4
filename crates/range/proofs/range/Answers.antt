-- `range::range` meets its contract: one law for each refusal before the walk, and one for the walk. Assumes nothing.
use Rattle.std.proofs.Common.{refl, sym, ap, ◌∙◌, ◌*◌, leb, length}
use Rattle.buffers.specs.DecideLaws.{decides_and, decides_le}
use Rattle.fst.specs.Open.{meta_is, opening_is}
use Rattle.paging.specs.Paging.{row_len}
use Rattle.stream_start.specs.Views.{bound_of}
use Rattle.range_fill.specs.FillLaws.{ranged_as, refused_by}
use Rattle.range.proofs.RangeCases.{range_unopened, range_bound, range_space, range_walk}
use Rattle.range.proofs.range.Goals as goal

-- the file does not open
pub returns-in-Err : goal.returns-in-Err
returns-in-Err c =
    let a = c.args in
    refused_by _ a.rows.now a.values.now
    (range_unopened a.file.now (bound_of a.lower) (bound_of a.upper) a.most (length a.rows.now)
    (length a.values.now) _ (sym c.open.ensures ∙ ap opening_is c.in-Err.is))
    c.refused.ensures

-- a bound over 255 bytes
pub returns-then-not-bounds_right : goal.returns-then-not-bounds_right
returns-then-not-bounds_right c =
    let a = c.args in
    refused_by _ a.rows.now a.values.now
    (range_bound a.file.now (bound_of a.lower) (bound_of a.upper) a.most (length a.rows.now) (length a.values.now)
    (meta_is c.in-Ok.m) (sym c.open.ensures ∙ ap opening_is c.in-Ok.is) (sym c.bounds_right.ensures ∙ c.if-not-bounds_right.true))
    c.refused-then-not-bounds_right.ensures

-- no room for `most` keys
pub returns-then-not-has_room : goal.returns-then-not-has_room
returns-then-not-has_room c =
    let a = c.args in
    refused_by _ a.rows.now a.values.now
    (range_space a.file.now (bound_of a.lower) (bound_of a.upper) a.most (length a.rows.now) (length a.values.now)
    (meta_is c.in-Ok.m) (sym c.open.ensures ∙ ap opening_is c.in-Ok.is) (sym c.bounds_right.ensures ∙ c.if-not-bounds_right.false)
    (sym c.has_room.ensures ∙ c.if-not-has_room.true))
    c.refused-then-not-has_room.ensures

-- the room was tested, and the file opens
pub range_from-requires-clause-most_in_bounds : goal.range_from-requires-clause-most_in_bounds
range_from-requires-clause-most_in_bounds c =
    let a = c.args in
    (decides_and (leb (row_len * a.most) (length a.rows.now)) (leb a.most (length a.values.now)) (decides_le (row_len * a.most) (length a.rows.now))
    (decides_le a.most (length a.values.now))).yes (sym c.has_room.ensures ∙ c.if-not-has_room.false)

pub range_from-requires-clause-opens_as : goal.range_from-requires-clause-opens_as
range_from-requires-clause-opens_as c = rw c.over.ensures (
  record { meta = meta_is c.in-Ok.m; opens = sym c.open.ensures ∙ ap opening_is c.in-Ok.is; version_is = refl; root_is = refl },
  sym c.bounds_right.ensures ∙ c.if-not-bounds_right.false,
)

-- the walk
pub returns-else-not-has_room : goal.returns-else-not-has_room
returns-else-not-has_room c =
    let a = c.args in
    ranged_as
    (sym (range_walk a.file.now (bound_of a.lower) (bound_of a.upper) a.most (length a.rows.now)
    (length a.values.now) (meta_is c.in-Ok.m) (sym c.open.ensures ∙ ap opening_is c.in-Ok.is)
    (sym c.bounds_right.ensures ∙ c.if-not-bounds_right.false) (sym c.has_room.ensures ∙ c.if-not-has_room.false)))
    (rw c.over.ensures at c.range_from.ensures)
