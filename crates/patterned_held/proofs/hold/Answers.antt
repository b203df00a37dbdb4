-- The positions stand at the front of what is held.
-- Assumes nothing.
use Rattle.std.proofs.Common.{◌≡◌, ℕ, Bool, List, ◌++◌, length}
use Rattle.patterned_fit.specs.PositionLaws.{positions_front}
use Rattle.patterned_held.specs.HeldPatterns.{held_is, given_is}
use Rattle.patterned_held.proofs.hold.Goals as goal

held_front : (xs copied past : List ℕ) (rest : Bool) → copied ≡ xs
    → held_is (record { len = length xs; rest = rest; positions = copied ++ past }) ≡ given_is xs rest
held_front xs copied past rest e = rw (e, positions_front xs past)

pub returns : goal.returns
returns c = held_front c.args.positions.now c.copy_from_slice.new.self _ c.args.rest c.copy_from_slice.ensures.after
