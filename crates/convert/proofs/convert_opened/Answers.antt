use Rattle.convert.proofs.Again.{edition_again, old_of, restored}
use Rattle.convert.proofs.convert_opened.Goals as goal

-- another version
pub returns-then-other_version : goal.returns-then-other_version
returns-then-other_version c = edition_again c.requires.0 c.requires.1 _ _ _ c.if-other_version.true

pub convert_old-done-requires : goal.convert_old-done-requires
convert_old-done-requires c = old_of c.requires.0 c.requires.1 c.if-other_version.false

-- the second admission restores the tables
pub returns : goal.returns
returns c = restored c.restore.result c.requires.0 c.convert_old-done.ensures c.restore.ensures
