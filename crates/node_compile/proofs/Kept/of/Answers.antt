-- The input itself stands beside what is kept of it.
use Rattle.std.proofs.Common.{refl}
use Rattle.node_compile.proofs.Kept.of.Goals as goal

pub returns : goal.returns
returns c = (record { is = c.common_idx.ensures.is; rare_is = λ _. refl }, refl)
