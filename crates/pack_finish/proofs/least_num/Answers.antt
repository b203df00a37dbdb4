-- The library's fold, by the smaller of two numbers, is the least number.
-- Assumes nothing.
use Rattle.std.proofs.Common.{◌≡◌, ◌∙◌, min, rules}
use Rattle.std.specs.List.{fold}
use Rattle.pack_finish.specs.LeastLaws.{num_fold}
use Rattle.pack_finish.proofs.least_num.Goals as goal

pub returns : goal.returns
returns c =
    let told : c.fold.result ≡ fold min c.args.v c.args.numbers.now = search rules in
    told ∙ num_fold c.args.numbers.now c.args.v
