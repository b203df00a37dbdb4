-- `ops_round::step_used` meets its contract: of the caller's buffer it matters only whether it has room for every key.
-- Assumes nothing.
use Rattle.std.proofs.Common.{sym, le-leb}
use Rattle.std.proofs.lemmas.Bool.{lt-leb}
use Rattle.format.specs.Limits.{max_path}
use Rattle.stream.specs.Plains.{plain_is}
use Rattle.ops_round.specs.StepLaws.{gave_room}
use Rattle.ops_round.proofs.step_used.Goals as goal

pub returns-then-room : goal.returns-then-room
returns-then-room c = let a = c.args in gave_room a.file.now (plain_is a.reading) max_path a.space _ (sym (le-leb max_path a.space c.if-room.true)) c.next.ensures.gave

pub returns : goal.returns
returns c = let a = c.args in gave_room a.file.now (plain_is a.reading) 1 a.space _ (sym (lt-leb max_path a.space c.if-room.false)) c.next-2.ensures.gave
