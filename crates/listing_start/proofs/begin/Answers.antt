-- The answer of counting, and the start on a file whose keys are counted. Assumes nothing.
use Rattle.std.proofs.Common.{◌≡◌, Err, arith}
use Rattle.listing_start.specs.Begun.{not_counted}
use Rattle.listing_start.proofs.BegunLaws.{begins_counted}
use Rattle.listing_start.proofs.begin.Goals as goal

-- the keys are not counted
pub returns-in_err-count_keys : goal.returns-in_err-count_keys
returns-in_err-count_keys c =
    let told : c.from_residual.result ≡ Err c.in_err-count_keys.field-0.0 = grind arith in
    not_counted c.if-file-gt-LARGEST.false _ told c.in_err-count_keys.ensures

-- they are: the unbounded reading begins
pub returns : goal.returns
returns c = begins_counted _ c.if-file-gt-LARGEST.false c.in_ok-count_keys.ensures c.start.ensures
