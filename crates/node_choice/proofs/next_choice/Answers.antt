-- The one transition has no output, so it fits, and its target is the byte before the first.
use Rattle.std.proofs.Common.{refl, arith, ◌+◌, ◌-◌}
use Rattle.format.specs.Laws.StoredLaws.{length_numbers_down}
use Rattle.node.specs.AccessorLaws.{input_one}
use Rattle.node_way.specs.FormLaws.{no_number, next_judged}
use Rattle.node_choice.specs.FitOfLaws.{single_fits, choice_to, fit_on}
use Rattle.node_choice.proofs.next_choice.Goals as goal

pub returns : goal.returns
returns c =
    let a = c.args in
    let s = a.fst.bytes.now in
    let first = a.addr + 1 - c.head_len-len.result in
    let j = next_judged _ a.fst.version _ _ c.requires.0 _ c.head_len-len.ensures.is _ c.input_of-inp.ensures c.requires.1 in
    let r = j.readable _ refl in
    fit_on s a.fst.version a.fst.root a.addr a.left _ _ j refl
    (choice_to s _ r a.left 1 c.input_of-inp.result 0 (a.addr - c.head_len-len.result) (λ z. omega arith) (single_fits 0 (length_numbers_down s first 0 1) (no_number s first) (omega arith))
    (input_one s _ r 0 (omega arith) refl) (no_number s first) (omega arith))
