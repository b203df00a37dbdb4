-- The empty key meets an included bound of no bytes.
use Rattle.std.proofs.Common.{◌∙◌}
use Rattle.stream_start.specs.StartLaws.{meets_empty_included, meets_empty_excluded}
use Rattle.stream_start.proofs.meets_empty.Goals as goal

pub returns-in-Included : goal.returns-in-Included
returns-in-Included c = rw c.in-Included.is (c.is_empty.ensures ∙ meets_empty_included c.in-Included.bytes.now)

pub returns-in-Excluded : goal.returns-in-Excluded
returns-in-Excluded c = rw c.in-Excluded.is (meets_empty_excluded c.in-Excluded.field-0.now)
