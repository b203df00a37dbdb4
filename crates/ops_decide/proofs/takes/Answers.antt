-- `ops_decide::takes` meets its contract: of a difference, a key that one file alone has.
-- Assumes nothing.
use Rattle.ops_decide.proofs.DecideCases.{takes_one}
use Rattle.ops_decide.proofs.takes.Goals as goal

pub returns-then-alone : goal.returns-then-alone
returns-then-alone c = λ ps are. takes_one c.args.op c.args.count c.args.pairs ps are c.in-Difference.is c.if-alone.true
