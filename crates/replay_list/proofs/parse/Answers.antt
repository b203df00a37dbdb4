-- The head is split off the list at its place, and the part off what is behind it.
use native.Mathlib.Numerals.{unary_clauses}
use Rattle.std.proofs.Common.{◌≡◌, ap, ◌∙◌, arith, length, drop, length-drop}
use Rattle.std.proofs.lemmas.List.{take_rest}
use Rattle.replay_list.specs.Records.{parsed_is}
use Rattle.replay_list.proofs.Head.{parsed, cut_short}
use Rattle.replay_list.proofs.parse.Goals as goal

pub returns-in_err-part-clause-value : goal.returns-in_err-part-clause-value
returns-in_err-part-clause-value c =
    let s = c.args.list.now in
    let rest : c.in_ok-get.field-0.now ≡ drop c.args.at s = c.in_ok-get.ensures.lookup.0.2 ∙ take_rest s c.args.at in
    let split = c.in_ok-head.ensures.cases in
    ap parsed_is c.from_residual-in_err-part.ensures
    ∙ cut_short s c.in_ok-head.head.now c.in_ok-head.behind.now c.args.at c.number-len.result (split.1 ∙ rw rest) (split.2 ∙ rw rest) c.number-len.ensures
    (omega (arith, split.0, split.4, ap length rest, length-drop c.args.at s, c.in_err-part.ensures.lookup))

pub returns-clause-value : goal.returns-clause-value
returns-clause-value c =
    let s = c.args.list.now in
    let rest : c.in_ok-get.field-0.now ≡ drop c.args.at s = c.in_ok-get.ensures.lookup.0.2 ∙ take_rest s c.args.at in
    let split = c.in_ok-head.ensures.cases in
    parsed s c.in_ok-head.head.now c.in_ok-head.behind.now c.args.at c.number-len.result (split.1 ∙ rw rest) (split.2 ∙ rw rest) c.number-len.ensures
    c.number-kind.result c.number-a.result c.number-b.result c.number-c.result c.in_ok-part.part.now
    (omega (arith, split.0, split.4, ap length rest, length-drop c.args.at s, c.in_ok-part.ensures.lookup.0.1))
    c.number-kind.ensures c.number-a.ensures c.number-b.ensures c.number-c.ensures (simp unary_clauses at c.in_ok-part.ensures.lookup.0.2)
