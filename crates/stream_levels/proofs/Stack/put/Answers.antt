-- The four entries make level k.
use Rattle.std.proofs.Common.{arith}
use Rattle.stream_levels.proofs.LevelWrites.{level_put}
use Rattle.stream_levels.proofs.Stack.put.Goals as goal

pub returns : goal.returns
returns c = let s = c.args.self.now in
    level_put c.args.k s.addrs s.inps s.trans s.outs (omega arith)
    (record { addrs_len = omega arith; inps_len = omega arith; trans_len = omega arith; outs_len = omega arith })
    c.args.addr c.args.inp c.args.place c.args.out
