-- `convert_size::most_of` meets its contract.
-- Assumes nothing.
use Rattle.std.proofs.Common.{◌≡◌, ℕ, ◌-◌, ◌<◌, max, cond, ltb, length, refl, sym, ◌∙◌, arith}
use native.Mathlib.Decide.{dec_lt}
use borrow.Author.Tests.{lt-ltb, le-ltb}
use Rattle.node.specs.Read.{transitions_in}
use Rattle.node.specs.ReadLaws.{length_node_transitions}
use Rattle.convert_size.specs.SingleLaws.{target_in, target_le}
use Rattle.convert_size.proofs.Sizing.{seen_none, seen_step, seen_all}
use Rattle.convert_size.proofs.most_of.Goals as goal

-- the library's larger number is the definition's
max_is : (n m : ℕ) → max n m ≡ cond (ltb n m) m n
max_is n m = elim (dec_lt n m) [ yes p ↦ rw (lt-ltb n m p) (omega arith) | no p ↦ rw (le-ltb n m (omega arith)) (omega arith) ]

-- no transition is seen yet
pub loop-i-init : goal.loop-i-init
loop-i-init c = seen_none c.args.node.ntrans (sym (length_node_transitions c.args.file.now c.args.node c.requires.0))

-- the target has an entry
pub new_target-target-requires : goal.new_target-target-requires
new_target-target-requires c =
    let in_list : c.loop-i.i - 1 < length (transitions_in c.args.file.now c.args.node) = omega (arith, length_node_transitions _ _ c.requires.0) in
    target_in c.requires.1 _ in_list _ c.transition_addr-to.ensures

-- the target went below the node
pub delta_of-requires : goal.delta_of-requires
delta_of-requires c =
    let in_list : c.loop-i.i - 1 < length (transitions_in c.args.file.now c.args.node) = omega (arith, length_node_transitions _ _ c.requires.0) in
    target_le c.requires.1 _ in_list _ _ c.transition_addr-to.ensures c.new_target-target.ensures

-- one transition more is seen
pub loop-i-preserved : goal.loop-i-preserved
loop-i-preserved c =
    seen_step c.max-output.result c.max-delta.result c.output-out.result c.transition_addr-to.result c.new_target-target.result c.delta_of.result
    (omega arith) (omega (arith, length_node_transitions c.args.file.now c.args.node c.requires.0)) c.output-out.ensures c.transition_addr-to.ensures
    c.new_target-target.ensures c.delta_of.ensures (c.max-output.ensures ∙ max_is _ _) (c.max-delta.ensures ∙ max_is _ _) c.loop-i.invariant

-- all transitions are seen
pub returns : goal.returns
returns c = seen_all _ (omega arith) (c.max.ensures ∙ max_is _ _) refl c.loop-i.invariant
