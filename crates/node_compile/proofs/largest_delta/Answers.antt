-- One delta more is seen, and after the last turn all are.
use Rattle.std.proofs.Common.{◌∙◌, sym, map, arith}
use Rattle.format.specs.Packed.{delta_of}
use Rattle.format.specs.Laws.PackedLaws.{length_deltas, get_d_deltas}
use Rattle.node_compile.proofs.Record.{targets_le}
use Rattle.node_compile.proofs.Largest.{largest_none, largest_step, largest_all}
use Rattle.node_compile.proofs.largest_delta.Goals as goal

pub loop-target-init : goal.loop-target-init
loop-target-init c = largest_none (map (delta_of c.args.first) c.args.targets.now)

-- the target is not above F
pub delta_of-requires : goal.delta_of-requires
delta_of-requires c = targets_le c.args.first c.args.targets.now c.requires _ c.loop-target-test.true

pub loop-target-preserved : goal.loop-target-preserved
loop-target-preserved c =
    largest_step c.max-most.result c.delta_of.result (omega (arith, length_deltas c.args.first c.args.targets.now))
    (c.delta_of.ensures ∙ sym (get_d_deltas c.args.first c.args.targets.now _)) c.max-most.ensures c.loop-target.invariant

pub returns : goal.returns
returns c = largest_all (omega (arith, length_deltas c.args.first c.args.targets.now)) c.loop-target.invariant
