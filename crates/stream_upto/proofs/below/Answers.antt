-- `stream_upto::below` meets its contract. Assumes nothing.
use mathlib.Core.Path.{subst}
use Rattle.std.proofs.Common.{◌≡◌, ◌+◌, ◌<◌, length, arith}
use Rattle.node.specs.Read.{transitions_in}
use Rattle.node.specs.ReadLaws.{length_node_transitions}
use Rattle.stream_upto.specs.Counts.{total_as}
use Rattle.stream_upto.proofs.Summing.{first_keys, summed_none, summed_step, has_entry}
use Rattle.stream_upto.proofs.below.Goals as goal

-- nothing is added yet
pub loop-i-init : goal.loop-i-init
loop-i-init c = summed_none _ _ _

-- the table has an entry for each target
pub keys_at-k-requires : goal.keys_at-k-requires
keys_at-k-requires c =
    let in_list : c.loop-i.i < length (transitions_in c.args.file.now c.args.node) = omega (arith, length_node_transitions _ _ c.requires.0) in
    has_entry c.requires.2 c.loop-i.i in_list _ c.transition_addr-t.ensures

-- one target more
pub loop-i-preserved : goal.loop-i-preserved
loop-i-preserved c =
    let in_list : c.loop-i.i < length (transitions_in c.args.file.now c.args.node) = omega (arith, length_node_transitions _ _ c.requires.0) in
    summed_step c.loop-i.invariant in_list _ c.transition_addr-t.ensures _ c.keys_at-k.ensures _ c.added-sum.ensures

-- all of them are added
pub returns : goal.returns
returns c = λ n e.
    let z : c.loop-i.i ≡ c.args.p = omega arith in
    subst (λ j. c.loop-i.sum ≡ total_as (n + first_keys c.args.counts.now j (transitions_in c.args.file.now c.args.node))) z (c.loop-i.invariant.is n e)
