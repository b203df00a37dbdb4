-- A key's bytes lie within the list.
-- Assumes nothing.
use Rattle.std.proofs.Common.{rules}
use Rattle.pack_keys.specs.AddKeysLaws.{cut_is, cut_bounds}
use Rattle.pack_ahead.proofs.key_at.Goals as goal

pub slice_bounds-result-end : goal.slice_bounds-result-end
slice_bounds-result-end c =
    let w = cut_bounds c.args.list.now c.requires.0 c.args.i _ _ _ c.requires.1 c.key_count.ensures.0 c.begin_at.ensures.0 c.end_at.ensures.0 in
    search rules

pub returns : goal.returns
returns c = cut_is c.args.list.now c.requires.0 c.args.i _ _ _ c.requires.1 c.key_count.ensures.0 c.begin_at.ensures.0 c.end_at.ensures.0
