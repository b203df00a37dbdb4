-- A file without bytes gives no level.
use Rattle.std.proofs.Common.{◌∙◌, ap}
use Rattle.format.specs.View.{fst_is}
use Rattle.reading.specs.Reading.{got}
use Rattle.stream_levels.specs.StackLaws.{stack_none}
use Rattle.stream_start.specs.StartLaws.{walk_blank}
use Rattle.stream_start.specs.Views.{bound_of}
use Rattle.stream_start.proofs.start_levels.Goals as goal

pub returns-then-fst-eq0 : goal.returns-then-fst-eq0
returns-then-fst-eq0 c = let s = c.args.stack.now in
    record {
      arrays = c.are_arrays.ensures;
      found =
          ap got (stack_none s.addrs s.inps s.trans s.outs)
          ∙ walk_blank (fst_is c.args.fst) (bound_of c.args.lower) (c.requires.1.blank c.if-fst-eq0.true);
    }
