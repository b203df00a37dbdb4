-- Rows of different lengths differ; of rows as long as each other every place decides.
-- Assumes nothing.
use Rattle.std.proofs.Common.{rules, ◌≡◌, length, ℕ, ◌<◌, true, false, ◌&&◌, eqb, get_or, sym, ◌∙◌, ap, ne_eqb, arith}
use Rattle.std.proofs.iter.runs.Sources.{ranges}
use Rattle.format.specs.Node.{transitions_of, transition_at}
use Rattle.format.specs.Laws.TransitionLaws.{length_transitions_of, transition_at_of}
use Rattle.node.specs.Read.{transitions_in}
use Rattle.node.specs.ReadLaws.{length_node_transitions}
use Rattle.registry.proofs.NodeComparing.{same_at, lengths_differ, rows_same}
use Rattle.registry.proofs.same_transitions.Goals as goal

pub returns-then-node-stored : goal.returns-then-node-stored
returns-then-node-stored c =
    let a = c.args in
    let is = a.node.inputs.now in
    let os = a.node.outputs.now in
    let as' = a.node.targets.now in
    let ts = transitions_in a.file.now a.stored in
    let count = length_node_transitions a.file.now a.stored c.requires.0 in
    let outs = c.requires.1.outputs_len in
    let addrs = c.requires.1.targets_len in
    let here : (i : ℕ) → i < length is → same_at (transition_at ts i) (transition_at (transitions_of is os as') i)
    ≡ ((eqb (transition_at ts i).inp (get_or is i 0) && eqb (transition_at ts i).out (get_or os i 0)) && eqb (transition_at ts i).addr (get_or as' i 0)) =
    λ i l. ap (same_at (transition_at ts i)) (transition_at_of is os as' i outs addrs l) in
    let yes : c.all.result ≡ true → (i : ℕ) → i < a.stored.ntrans
    → ((eqb (transition_at ts i).inp (get_or is i 0) && eqb (transition_at ts i).out (get_or os i 0)) && eqb (transition_at ts i).addr (get_or as' i 0)) ≡ true = search (rules, ranges) in
    let no : ((i : ℕ) → i < a.stored.ntrans
    → ((eqb (transition_at ts i).inp (get_or is i 0) && eqb (transition_at ts i).out (get_or os i 0)) && eqb (transition_at ts i).addr (get_or as' i 0)) ≡ true) → c.all.result ≡ true = search (rules, ranges) in
    rows_same ts (transitions_of is os as') (length_transitions_of is os as' outs addrs ∙ c.if-node-stored.true ∙ sym count) c.all.result
    (λ e i l. here i (omega (arith, count, c.if-node-stored.true)) ∙ yes e i (omega (arith, count)))
    (λ f. no (λ i l. sym (here i (omega (arith, c.if-node-stored.true))) ∙ f i (omega (arith, count))))

pub returns-else-node-stored : goal.returns-else-node-stored
returns-else-node-stored c =
    let a = c.args in
    ne_eqb _ _ c.if-node-stored.false
    ∙ sym (lengths_differ (transitions_in a.file.now a.stored) (transitions_of a.node.inputs.now a.node.outputs.now a.node.targets.now)
    (λ e. c.if-node-stored.false (sym (length_transitions_of a.node.inputs.now a.node.outputs.now a.node.targets.now c.requires.1.outputs_len c.requires.1.targets_len) ∙ sym e
    ∙ length_node_transitions a.file.now a.stored c.requires.0)))
