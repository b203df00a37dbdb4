-- `ops_keys::compare` meets its contract: the two parts that are compared are the two keys.
-- Assumes nothing.
use Rattle.std.proofs.Common.{ap₂, ◌∙◌}
use Rattle.std.specs.Ordering.{nat_cmp}
use Rattle.std.specs.Cmp.Lexicographic.{slice_cmp}
use Rattle.ops_keys.proofs.CompareLaws.{compared_cmp, key_between}
use Rattle.ops_keys.proofs.compare.Goals as goal

pub returns : goal.returns
returns c =
    let a = c.args in
    compared_cmp _ _ c.cmp.result
    (c.cmp.ensures ∙ ap₂ (slice_cmp nat_cmp) (key_between a.keys.now a.a c.key_len-j.result c.key_len-j.ensures) (key_between a.keys.now a.b c.key_len-k.result c.key_len-k.ensures))
