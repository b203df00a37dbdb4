-- The key and the bytes along the open nodes part at the first place where they differ, or at the end of the shorter.
-- Assumes nothing.
use Rattle.std.proofs.Common.{◌≡◌, ap, ◌∙◌, take, drop, zip, position, ◌+◌, ◌-◌, rules, tests, arith}
use Rattle.std.proofs.lemmas.Iterator.{YieldsList-from_slice, YieldsList-from_zip}
use Rattle.std.proofs.lemmas.Iterator.Search.{position_from_yields_List}
use Rattle.pack_insert.specs.OpenKeyLaws.{parted, common_is}
use Rattle.pack_insert.proofs.common.Goals as goal

pub returns : goal.returns
returns c =
    let a = c.args in
    let found = position_from_yields_List parted c.position.new.self _ c.position.result c.position.ensures.ran
    (YieldsList-from_zip (YieldsList-from_slice a.key.now cc) (YieldsList-from_slice (take (a.k + 1 - 1) (drop 1 a.nodes.now.led)) (cc (c.iter-2.ensures.rest, c.zip.ensures.second)))) (λ x b q k. search (rules, tests)) in
    let deep : a.k + 1 - 1 ≡ a.k = omega arith in
    let first = found ∙ ap (λ (n : _). position parted (zip a.key.now (take n (drop 1 a.nodes.now.led)))) deep in
    rw c.unwrap_or.ensures (common_is a.key.now a.nodes.now.led a.k c.requires (omega arith) c.position.result first c.min.result c.min.ensures)
