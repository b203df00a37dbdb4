-- `done` items are written, and the page goes on by a call in which a round begins. The measure is what the readings have still to do.
use Rattle.std.proofs.Common.{map}
use Rattle.stream_start.specs.Views.{bound_of}
use Rattle.ops_decide.specs.Verdicts.{op_is}
use Rattle.ops_lives.specs.LiveRounds.{to_do_of}
use Rattle.ops_page.proofs.LiveTurns.{LiveFilling}
use Rattle.ops_page.proofs.fill.Given as goal

abbrev pub invariant-loop-done : goal.invariant-loop-done
invariant-loop-done l =
    LiveFilling (map (λ f. f.now) l.files) (op_is l.op) l.count (bound_of l.upper) l.initial.lives l.initial.keys l.initial.seen l.lives l.keys l.seen 0 l.most
    l.initial.rows l.rows l.initial.counts l.counts l.initial.numbers l.numbers l.initial.values l.values l.done

abbrev pub decreases-loop-done : goal.decreases-loop-done
decreases-loop-done l = to_do_of (map (λ f. f.now) l.files) l.count (bound_of l.upper) l.lives l.seen
