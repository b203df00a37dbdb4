-- A node more is opened along the key, which ends at the deepest.
-- Assumes nothing.
use Rattle.std.proofs.Common.{refl, arith}
use Rattle.pack_insert.specs.OpenKeyLaws.{led_none, led_step, opened_all}
use Rattle.pack_insert.proofs.open_key.Goals as goal

pub loop-d-init : goal.loop-d-init
loop-d-init c = (led_none _ _ _ c.requires.0 (omega arith), refl, refl, refl)

pub loop-d-preserved : goal.loop-d-preserved
loop-d-preserved c = let i = c.loop-d.invariant in (led_step i.0 (omega arith) c.requires.1, i.1, i.2, i.3)

pub returns : goal.returns
returns c inputs leasts targets =
    let a = c.args in
    let l = c.loop-d in
    let i = l.invariant in
    let zeros = rw i.1 at (c.fill.ensures.after (λ y e. e)) in
    let falses = rw i.2 at (c.fill-2.ensures.after (λ y e. e)) in
    rw (i.1, i.2, i.3)
    (opened_all a.key.now a.m a.value inputs leasts targets a.nodes.now.counts a.nodes.now.led a.nodes.now.finals a.nodes.now.values l.nodes.led l.d _
    i.0 (omega arith) c.requires.1 (omega arith) (omega arith) (omega arith) (omega arith) c.fill.new.self zeros c.fill-2.new.self falses)
