-- No key is handed out by the call that ends the loop, and one more by each of the others. Assumes nothing.
use Rattle.std.proofs.Common.{◌≡◌, false, true}
use Rattle.oracle_stream.specs.Runs.{key_test}
use Rattle.oracle_stream.proofs.Telling.{plain_called, reached_next, reached_stop, reached_end}
use Rattle.oracle_stream.proofs.keys_from.Goals as goal

-- a call hands out no key
pub returns-then-not-is_key : goal.returns-then-not-is_key
returns-then-not-is_key c =
    let none : key_test c.next-step.result.answer ≡ false = cc in
    reached_stop _ _ _ _ c.loop-n-test.true c.loop-n.invariant (plain_called _ _ c.next-step.ensures) none

-- one key more is handed out
pub loop-n-preserved : goal.loop-n-preserved
loop-n-preserved c =
    let one : key_test c.next-step.result.answer ≡ true = cc in
    reached_next _ _ _ _ c.loop-n-test.true c.loop-n.invariant (plain_called _ _ c.next-step.ensures) one

-- as many keys as were asked for
pub returns : goal.returns
returns c = reached_end _ _ _ _ c.loop-n-test.false c.loop-n.invariant
