-- Room in the third table, then admission's refusals, then what the pass answers.
-- Assumes nothing.
use Rattle.std.proofs.Common.{◌≡◌, arith}
use Rattle.std.specs.Prelude.{Err}
use Rattle.counting.proofs.Leaving.{admitted_countable, admitted_counted, admission_refused, space_refused}
use Rattle.counting.proofs.count_opened.Goals as goal

-- no room in the third table
pub returns-then-short : goal.returns-then-short
returns-then-short c = space_refused _ _ _ c.requires c.if-short.true

-- refused by admission
pub returns-in_err-admit : goal.returns-in_err-admit
returns-in_err-admit c =
    let told : c.from_residual.result ≡ Err c.in_err-admit.field-0.0 = grind arith in
    rw told (admission_refused c.args.counts.now c.requires c.if-short.false c.in_err-admit.ensures)

-- the depths have entries at the reached nodes
pub count_nodes-requires : goal.count_nodes-requires
count_nodes-requires c = admitted_countable c.args.counts.now c.requires c.if-short.false c.in_ok-admit.ensures

-- admitted, and what the pass answers
pub returns : goal.returns
returns c = admitted_counted c.args.counts.now c.requires c.if-short.false _ _ c.in_ok-admit.ensures c.count_nodes.ensures
