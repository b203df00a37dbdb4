-- `ops_seen::see` meets its contract: one card more is seen.
-- Assumes nothing.
use Rattle.std.proofs.Common.{◌≡◌, length, subst, rules, arith}
use lib.Seq.{get_or-take, length-take-le}
use Rattle.ops_round.specs.declared.Card.{Card}
use Rattle.ops_seen.specs.Sights.{SeenOf}
use Rattle.ops_seen.proofs.SeeLoops.{seeing_on, seeing_all}
use Rattle.ops_seen.proofs.see.Goals as goal

pub show-requires : goal.show-requires
show-requires c =
    let a = c.args in
    let given : length a.cards.now ≡ 8 = search rules in
    let used = length-take-le a.count a.cards.now (omega (arith, given, c.requires)) in
    omega (arith, used, c.requires)

pub loop-i-preserved : goal.loop-i-preserved
loop-i-preserved c =
    let l = c.loop-i in
    let a = c.args in
    let given : length a.cards.now ≡ 8 = search rules in
    let used = length-take-le a.count a.cards.now (omega (arith, given, c.requires)) in
    seeing_on a.count a.cards.now l.keys _ l.seen l.i _ c.show.result c.requires given l.invariant (omega (arith, used))
    (subst (λ (x : Card). SeenOf x l.i l.keys c.show.new.keys c.show.result) (get_or-take a.count a.cards.now l.i _ (omega (arith, used))) c.show.ensures)

pub returns : goal.returns
returns c =
    let l = c.loop-i in
    let a = c.args in
    let given : length a.cards.now ≡ 8 = search rules in
    let used = length-take-le a.count a.cards.now (omega (arith, given, c.requires)) in
    seeing_all a.count a.cards.now l.keys l.seen l.i given (omega (arith, used)) l.invariant
