-- What the loop of the listing program leans on: the unbounded reading of an admitted file, on its way.
-- Assumes nothing.
use Rattle.std.specs.Prelude.{List, ℕ}
use Rattle.format.specs.Admitted.{Admitted}
use Rattle.format.specs.Strings.{unbounded}
use Rattle.reading.specs.Reading.{View}
use Rattle.reading.proofs.WholeLaws.{OnWay}

pub record Stands (s : List ℕ) (r : View) : Type 0 where
  pub admitted : Admitted s
  pub on_way : OnWay admitted unbounded unbounded r
