-- What is promised of a reading by pattern with marks that is carried to its file's conversion, and of marks set there (document 02, N10 with N8 and N1):
-- `CarriedMarkedRun` of marks_carry, by pattern, without the limit on a call. Proved in CarriedRunByLaws.
-- Assumes nothing.
use Rattle.std.specs.Prelude.{◌≡◌, List, [], ℕ}
use Rattle.format.specs.Admitted.{Admitted}
use Rattle.format.specs.Strings.{Bound}
use Rattle.reading.specs.Demand.{Call}
use Rattle.pattern.specs.Pattern.{Pattern}
use Rattle.converting.specs.Converting.{converted}
use Rattle.carrying.specs.Carry.{carried}
use Rattle.carrying_own.specs.CarryOwn.{Convertible}
use Rattle.carrying_own.specs.CarryOwnLaws.{new_admitted}
use Rattle.marking.specs.MarksDemand.{Did}
use Rattle.marking_by.specs.MarksByDemand.{now_from_by, MarkedRunBy}
use Rattle.marks_carry.specs.MarksCarry.{carry_marked_by}

-- bs are operations on the old file, ds on the new; cs' are the calls in force on the old file, as calls on the new
pub record CarriedMarkedRunBy {s : List ℕ} (A : Admitted s) (can : Convertible A) (q : Pattern) (lo hi : Bound)
    (bs : List (Did s)) (cs' : List (Call (converted A))) (ds : List (Did (converted A))) : Type 0 where
  pub before : MarkedRunBy A q lo hi [] bs
  pub after : MarkedRunBy (new_admitted A can) q lo hi cs' ds
  -- not refused with the marks of the old file, and the reading with which the run on the new file begins
  pub carries : carry_marked_by s (converted A) q (now_from_by q before.first [] bs).reading (now_from_by q before.first [] bs).marks
      ≡ carried (now_from_by q after.first cs' []).reading
  pub no_marks_lem : (now_from_by q after.first cs' []).marks ≡ []
