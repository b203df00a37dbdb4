-- The bytes that a name states are those that it holds.
-- Assumes nothing.
use Rattle.std.proofs.Common.{◌≡◌, length, rules, arith, sym}
use Rattle.marks_held.specs.MarkViewsLaws.{stated_take}
use Rattle.marks_held.proofs.Mark.stated.Goals as goal

pub returns : goal.returns
returns c =
    let m = c.args.self.now in
    let eight : length m.name ≡ 8 = search rules in
    sym (stated_take m.name_len 0 m.name (omega arith))
