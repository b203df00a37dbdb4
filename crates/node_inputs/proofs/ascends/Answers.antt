-- The pairs fall where two groups that cover them do.
use Rattle.std.proofs.Common.{◌+◌, ◌-◌, refl, arith}
use Rattle.buffers.specs.DecideLaws.{decides_true}
use Rattle.node_inputs.specs.AscentLaws.{ascending_few, decides_ascending, decides_two, grouped_more, grouped_all}
use Rattle.node_inputs.proofs.ascends.Goals as goal

-- fewer than two inputs
pub returns-then-n-lt2 : goal.returns-then-n-lt2
returns-then-n-lt2 c = decides_true (ascending_few c.args.file.now c.args.at c.args.n c.if-n-lt2.true)

-- one group of fewer than four pairs
pub returns-then-pairs-lt4 : goal.returns-then-pairs-lt4
returns-then-pairs-lt4 c = decides_ascending c.args.n c.falls.ensures

-- two groups of four cover the pairs
pub returns-then-pairs-lt8 : goal.returns-then-pairs-lt8
returns-then-pairs-lt8 c =
    decides_ascending c.args.n
    (decides_two _ (c.args.n - 1) 4 (omega arith) (omega arith) (omega arith) refl c.falls-then-pairs-lt8.ensures c.falls-then-pairs-lt8-2.ensures)

-- two groups of eight
pub returns-then-pairs-lt16 : goal.returns-then-pairs-lt16
returns-then-pairs-lt16 c =
    decides_ascending c.args.n
    (decides_two _ (c.args.n - 1) 8 (omega arith) (omega arith) (omega arith) refl c.falls-then-pairs-lt16.ensures c.falls-then-pairs-lt16-2.ensures)

-- sixteen pairs more
pub loop-j-preserved : goal.loop-j-preserved
loop-j-preserved c = (omega arith, grouped_more _ refl c.loop-j.invariant.1 c.falls-good-in-loop-j.ensures)

-- the groups reach the last sixteen pairs
pub returns-else-pairs-lt16 : goal.returns-else-pairs-lt16
returns-else-pairs-lt16 c =
    decides_ascending c.args.n
    (grouped_all (c.args.n - 1) (omega arith) (omega arith) c.loop-j.invariant.0 (omega arith) c.loop-j.invariant.1)

-- so does the last turn
pub returns-else-pairs-lt16-2 : goal.returns-else-pairs-lt16-2
returns-else-pairs-lt16-2 c =
    decides_ascending c.args.n
    (grouped_all {j = c.loop-j.j + 16} (c.args.n - 1) (omega arith) (omega arith) (omega arith) (omega arith)
    (grouped_more _ refl c.loop-j.invariant.1 c.falls-good-in-loop-j.ensures))
