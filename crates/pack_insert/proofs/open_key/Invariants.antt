-- The bytes that led to the open nodes down to depth d are the key's; the rest stays.
-- Assumes nothing.
use Rattle.std.specs.Prelude.{◌≡◌}
use Rattle.pack_insert.specs.OpenKeyLaws.{LedTo}
use Rattle.pack_insert.proofs.open_key.Given as goal

abbrev pub invariant-loop-d : goal.invariant-loop-d
invariant-loop-d l =
    LedTo l.key l.m l.d l.initial.nodes.led l.nodes.led × (l.nodes.counts ≡ l.initial.nodes.counts) × (l.nodes.finals ≡ l.initial.nodes.finals)
    × (l.nodes.values ≡ l.initial.nodes.values)
