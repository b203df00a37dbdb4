-- `range_turn::step_on` meets its contract: one law for each answer of the pops and of the descent.
-- Assumes nothing.
use Rattle.std.proofs.Common.{◌+◌, ◌-◌, drop, arith}
use Rattle.range_node.specs.EntriesLaws.{sound_less}
use Rattle.range_turn.proofs.TurnCases.{turn_empty, turn_went}
use Rattle.range_turn.proofs.step_on.Goals as goal

-- no level has a transition left
pub returns-in_default : goal.returns-in_default
returns-in_default c = λ len n t.
    turn_empty _ len _ _ n t c.args.levels c.args.stack.now.addrs c.args.stack.now.inps c.args.stack.now.trans c.args.stack.now.outs _ _ _ _
    (c.highest.ensures.none_left c.in_default.is c.args.stack.now.inps c.args.stack.now.outs)

-- the level at top has a transition left
pub descend-requires : goal.descend-requires
descend-requires c =
    let r = c.requires.levels_le_max_levels in
    let at = c.highest.ensures.at c.in-Some.top c.in-Some.is in record {
      top_lt_max_levels = (
        omega (arith, at.low, r.0),
        r.1,
        sound_less _ c.args.stack.now.addrs (c.in-Some.top + 1) c.args.levels r.2 (omega (arith, at.low)),
        record { node = at.node; is = at.is; has = at.has },
        c.cut.ensures _ _ (drop 1 c.args.stack.now.inps) (c.args.levels - 1) (omega (arith, at.low)) r.3,
      );
    }

-- what the descent answers
pub returns : goal.returns
returns c = λ len n t.
    turn_went _ len _ _ n t c.args.levels c.args.stack.now.addrs c.args.stack.now.inps c.args.stack.now.trans c.args.stack.now.outs _ _ _ _
    (c.highest.ensures.at c.in-Some.top c.in-Some.is) c.descend.result c.descend.ensures
