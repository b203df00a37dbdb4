-- A key is opened below the depth where it leaves the open nodes.
-- Assumes nothing.
use Rattle.std.proofs.Common.{refl, arith}
use Rattle.pack_ahead.specs.AheadLaws.{opens_key}
use Rattle.pack_ahead.proofs.open_one.Goals as goal

pub returns : goal.returns
returns c = λ inputs leasts targets.
    opens_key c.args.list.now c.args.i _ c.key_at-key.ensures c.value_at-value.ensures (c.open_key.ensures inputs leasts targets)
    (λ j. omega (arith, c.type_inv.list j)) refl refl c.leaves_at-leaves.ensures
