-- Laws of the numbers of keys: over 2^64 - 1 from some reached node is the same as from the root.
--     many_root, root_many   the two ways
--     few_not_many           both are not
-- Assumes nothing.
use Rattle.std.specs.Prelude.{◌<◌}
use Rattle.std.proofs.Common.{arith}
use Rattle.format.specs.Limits.{max_sum}
use Rattle.format.specs.Paths.{Fst}
use Rattle.format.specs.Tables.{keys_from}
use Rattle.format.specs.Laws.KeysLaws.{over_root, root_over}
use Rattle.counting.specs.CountOutcomes.{FewKeys, ManyKeys}

pub many_root : {f : Fst} → ManyKeys f → max_sum < keys_from f f.root
many_root {f} m = over_root f m.at m.in_table m.over

pub root_many : (f : Fst) → max_sum < keys_from f f.root → ManyKeys f
root_many f over = record { at = f.root; in_table = root_over f over; over = over }

pub few_not_many : {f : Fst} → FewKeys f → ¬ ManyKeys f
unfolding FewKeys
few_not_many few m = omega (arith, m.over, few m.at m.in_table.reached)
