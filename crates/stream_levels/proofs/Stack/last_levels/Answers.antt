-- A bound that is included goes back by one transition, and any other, or one of no bytes, gets a level more.
use Rattle.std.proofs.Common.{◌∙◌, ◌-◌, sym, arith, length-set}
use Rattle.stream_levels.proofs.LevelWrites.{level_back, level_over}
use Rattle.stream_levels.proofs.Stack.last_levels.Goals as goal
use Rattle.stream_levels.proofs.Stack.last_levels.Goals.{else-inclusive-via-then-inclusive+else-k-gt0, else-inclusive-via-else-inclusive}

pub returns-then-k-gt0 : goal.returns-then-k-gt0
returns-then-k-gt0 c = let s = c.args.self.now in
    record {
      arrays = record { addrs_len = omega arith; inps_len = omega arith; trans_len = length-set s.trans (c.args.k - 1) _ ∙ omega arith; outs_len = omega arith };
      levels = level_back c.args.k s.addrs s.inps s.trans s.outs c.if-k-gt0.true (omega arith) c.args.inclusive _ c.if-inclusive.true;
    }

pub returns : goal.returns
returns c = let s = c.args.self.now in
    record {
      arrays = c.put.ensures.arrays;
      levels = c.put.ensures.levels ∙ sym (level_over c.args.k s.addrs s.inps s.trans s.outs c.args.inclusive _
          (elim c.else-inclusive.branch [
            | else-inclusive-via-then-inclusive+else-k-gt0 w ↦ λ e p. omega arith
            | else-inclusive-via-else-inclusive w ↦ λ e p. let q = w.if-inclusive.false in cc
          ]));
    }
