-- Opening's refusals, and then the answer for a file that opens.
-- Assumes nothing.
use Rattle.std.proofs.Common.{◌≡◌, arith}
use Rattle.std.specs.Prelude.{Err}
use Rattle.counting.proofs.Leaving.{opening_refused, opening_opens}
use Rattle.counting.proofs.count_keys.Goals as goal

-- the file opens
pub count_opened-requires : goal.count_opened-requires
count_opened-requires c = rw c.over.ensures (opening_opens c.open.ensures c.in_ok-m.m c.in_ok-m.was)

-- refused by opening
pub returns-in_err-m : goal.returns-in_err-m
returns-in_err-m c =
    let told : c.from_residual.result ≡ Err c.in_err-m.field-0.0 = grind arith in
    rw told (opening_refused c.open.ensures _ _ _ c.in_err-m.field-0.0 c.in_err-m.was)
