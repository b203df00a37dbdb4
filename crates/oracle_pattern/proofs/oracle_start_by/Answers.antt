-- `oracle_pattern::oracle_start_by`: what start answered is the definition's answer, and the arrays hold its reading.
-- Assumes nothing.
use Rattle.oracle_pattern.proofs.TellingBy.{start_by_refused, start_by_told}
use Rattle.oracle_pattern.proofs.oracle_start_by.Goals as goal

-- the start is refused
pub returns-in-Err : goal.returns-in-Err
returns-in-Err c =
    let h = rw (c.bound_with-from.ensures, c.bound_with-to.ensures) at c.start.ensures in
    rw (c.from-in-Err.ensures, c.from.ensures) (start_by_refused h _ _ c.in-Err.is)

-- a reading begins, and the arrays hold it
pub returns-in-Ok : goal.returns-in-Ok
returns-in-Ok c =
    let h = rw (c.bound_with-from.ensures, c.bound_with-to.ensures) at c.start.ensures in
    start_by_told h c.in-Ok.patterned _ _ c.in-Ok.is c.put.ensures
