-- `oracle_range::oracle_range` meets its contract: what range answered is the definition's answer. Assumes nothing.
use Rattle.std.proofs.Common.{refl, ap₂, length}
use Rattle.paging.specs.Paging as P
use Rattle.range_fill.specs.FillLaws.{ranged_as}
use Rattle.oracle_range.proofs.TellingRange.{range_told}
use Rattle.oracle_range.proofs.oracle_range.Goals as goal

pub returns : goal.returns
returns c =
    let a = c.args in
    range_told
    (ranged_as (ap₂ (λ lo hi. P.range a.file.now lo hi a.most (length a.rows.now) (length a.values.now)) c.bound_with.ensures c.bound_with-2.ensures) c.range-ranged.ensures)
    _ refl _ c.stop_number.ensures
