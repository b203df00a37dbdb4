-- A turn opens a key more; no key is left at the end, or a node is to be finished.
-- Assumes nothing.
use Rattle.std.proofs.Common.{◌≡◌, ◌<◌, inl, inr, refl, arith}
use Rattle.packing.specs.Lists.{count_in}
use Rattle.std.specs.Prelude.{[]}
use Rattle.pack_ahead.specs.AheadLaws.{gone_none, key_goes, gone_on}
use Rattle.pack_ahead.proofs.ahead.Goals as goal

pub loop-i-init : goal.loop-i-init
loop-i-init c = (gone_none _ _ _, refl)

pub returns-then-finishes : goal.returns-then-finishes
returns-then-finishes c = record { gone = c.loop-i.invariant.0; stops = inl c.if-finishes.true }

pub open_one-way-requires : goal.open_one-way-requires
open_one-way-requires c =
    let e : c.loop-i.way.keys ≡ c.loop-i.i = c.loop-i.invariant.1 in
    let l : c.loop-i.i < count_in c.args.list.now = omega (arith, c.key_count-n.ensures.0) in
    let l' : c.loop-i.way.keys < count_in c.args.list.now = omega (arith, l, e) in
    let k = key_goes c.loop-i.invariant.0 c.requires.0 l' c.if-finishes.false c.requires.1 in
    (c.requires.0, l, rw e at k.0)

pub loop-i-preserved : goal.loop-i-preserved
loop-i-preserved c =
    let e : c.loop-i.way.keys ≡ c.loop-i.i = c.loop-i.invariant.1 in
    let l : c.loop-i.i < count_in c.args.list.now = omega (arith, c.key_count-n.ensures.0) in
    let l' : c.loop-i.way.keys < count_in c.args.list.now = omega (arith, l, e) in
    (gone_on c.loop-i.invariant.0 c.requires.0 l' c.if-finishes.false e c.open_one-way.ensures, (c.open_one-way.ensures [] [] []).more)

pub returns : goal.returns
returns c =
    record {
      gone = c.loop-i.invariant.0;
      stops = inr (omega (arith, c.loop-i.invariant.1, c.key_count-n.ensures.0, c.loop-i.auto.i-end));
    }
