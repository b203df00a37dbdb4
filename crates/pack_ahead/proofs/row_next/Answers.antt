-- The row's entries are those that its count says.
-- Assumes nothing.
use Rattle.pack_close.specs.OpenNodes.{tables_in}
use Rattle.pack_ahead.specs.AheadLaws.{row_given}
use Rattle.pack_ahead.proofs.row_next.Goals as goal

pub row_at-requires : goal.row_at-requires
row_at-requires c = row_given c.args.cells c.args.d (tables_in c.args.tables.now) c.base_at-base.result c.requires c.base_at-base.ensures
