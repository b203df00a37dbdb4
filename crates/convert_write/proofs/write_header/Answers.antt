-- `convert_write::write_header` meets its contract.
-- Assumes nothing.
use Rattle.std.proofs.Common.{refl}
use Rattle.convert_write.proofs.Writing.{header_written}
use Rattle.convert_write.proofs.write_header.Goals as goal

pub returns : goal.returns
returns c = header_written c.args.file.now _ _ _ _ c.requires.0 c.requires.1 c.pack_uint_in.ensures c.copy_from_slice.ensures.after refl
