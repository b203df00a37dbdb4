-- `find::find` meets its contract: one law for each refusal before the walk, and one for the walk. Assumes nothing.
use Rattle.std.proofs.Common.{sym, ap, ◌∙◌, ◌*◌, ◌≤◌, leb, length, arith}
use Rattle.std.proofs.lemmas.List.{length-map}
use Rattle.buffers.specs.DecideLaws.{decides_and, decides_le}
use Rattle.format.specs.Limits.{max_path}
use Rattle.fst.specs.Open.{meta_is, opening_is}
use Rattle.paging.specs.Paging.{row_len}
use Rattle.stream_start.specs.Views.{bound_of}
use Rattle.patterned_fit.specs.Positions.{position_is}
use Rattle.patterned_held.specs.HeldPatterns.{given_is}
use Rattle.range_fill.specs.FillLaws.{ranged_as, refused_by}
use Rattle.find.proofs.FindCases.{find_unopened, find_pattern, find_bound, find_space, find_walk}
use Rattle.find.proofs.find.Goals as goal

-- the file does not open
pub returns-in-Err : goal.returns-in-Err
returns-in-Err c =
    let a = c.args in
    refused_by _ a.rows.now a.values.now
    (find_unopened a.file.now (given_is a.positions.now a.rest) (bound_of a.lower) (bound_of a.upper) a.most
    (length a.rows.now) (length a.values.now) _ (sym c.open.ensures ∙ ap opening_is c.in-Err.is))
    c.refused.ensures

-- over 255 positions: the pattern has as many as were given
pub returns-then-positions-gt-MAX_KEY : goal.returns-then-positions-gt-MAX_KEY
returns-then-positions-gt-MAX_KEY c =
    let a = c.args in
    refused_by _ a.rows.now a.values.now
    (find_pattern a.file.now (given_is a.positions.now a.rest) (bound_of a.lower) (bound_of a.upper) a.most
    (length a.rows.now) (length a.values.now) (meta_is c.in_default.field-0) (sym c.open.ensures ∙ ap opening_is c.in_default.is)
    (omega (arith, c.if-positions-gt-MAX_KEY.true, length-map a.positions.now position_is)))
    c.refused-then-positions-gt-MAX_KEY.ensures

-- a bound over 255 bytes
pub returns-then-not-bounds_right : goal.returns-then-not-bounds_right
returns-then-not-bounds_right c =
    let a = c.args in
    let p = given_is a.positions.now a.rest in
    let few : length p.positions ≤ max_path = omega (arith, c.if-positions-gt-MAX_KEY.false, length-map a.positions.now position_is) in
    refused_by _ a.rows.now a.values.now
    (find_bound a.file.now p (bound_of a.lower) (bound_of a.upper) a.most (length a.rows.now) (length a.values.now)
    (meta_is c.in_default.field-0) (sym c.open.ensures ∙ ap opening_is c.in_default.is) few
    (sym c.bounds_right.ensures ∙ c.if-not-bounds_right.true))
    c.refused-then-not-bounds_right.ensures

-- no room for `most` keys
pub returns-then-not-has_room : goal.returns-then-not-has_room
returns-then-not-has_room c =
    let a = c.args in
    let p = given_is a.positions.now a.rest in
    let few : length p.positions ≤ max_path = omega (arith, c.if-positions-gt-MAX_KEY.false, length-map a.positions.now position_is) in
    refused_by _ a.rows.now a.values.now
    (find_space a.file.now p (bound_of a.lower) (bound_of a.upper) a.most (length a.rows.now) (length a.values.now)
    (meta_is c.in_default.field-0) (sym c.open.ensures ∙ ap opening_is c.in_default.is) few
    (sym c.bounds_right.ensures ∙ c.if-not-bounds_right.false) (sym c.has_room.ensures ∙ c.if-not-has_room.true))
    c.refused-then-not-has_room.ensures

-- the room was tested
pub find_from-requires : goal.find_from-requires
find_from-requires c =
    let a = c.args in
    (decides_and (leb (row_len * a.most) (length a.rows.now)) (leb a.most (length a.values.now)) (decides_le (row_len * a.most) (length a.rows.now))
    (decides_le a.most (length a.values.now))).yes (sym c.has_room.ensures ∙ c.if-not-has_room.false)

-- the walk
pub returns : goal.returns
returns c =
    let a = c.args in
    let p = given_is a.positions.now a.rest in
    let few : length p.positions ≤ max_path = omega (arith, c.if-positions-gt-MAX_KEY.false, length-map a.positions.now position_is) in
    ranged_as
    (sym (find_walk a.file.now p (bound_of a.lower) (bound_of a.upper) a.most (length a.rows.now)
    (length a.values.now) (meta_is c.in_default.field-0) (sym c.open.ensures ∙ ap opening_is c.in_default.is) few
    (sym c.bounds_right.ensures ∙ c.if-not-bounds_right.false) (sym c.has_room.ensures ∙ c.if-not-has_room.false)))
    c.find_from.ensures
