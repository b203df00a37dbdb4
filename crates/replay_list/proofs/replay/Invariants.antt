-- The measure is what is left of the list.
use Rattle.std.proofs.Common.{◌-◌, length}
use Rattle.replay_list.proofs.replay.Given as goal

abbrev pub decreases-loop-at : goal.decreases-loop-at
decreases-loop-at g l = length l.list - l.at
