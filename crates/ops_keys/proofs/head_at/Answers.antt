-- `ops_keys::head_at` meets its contract: the 256 bytes are taken out.
-- Assumes nothing.
use Rattle.std.proofs.Common.{◌≡◌, refl, ◌+◌, ◌-◌, ◌*◌, rules, arith}
use Rattle.ops_keys.proofs.PlaceLaws.{taken_all}
use Rattle.ops_keys.proofs.head_at.Goals as goal

pub returns : goal.returns
returns c =
    let a = c.args in
    let pre = c.requires in
    let n : a.place.at * 256 + 256 - a.place.at * 256 ≡ 256 = omega arith in
    (refl, taken_all a.keys.now a.place _ (search rules) pre (rw n at c.copy_from_slice.ensures.after))
