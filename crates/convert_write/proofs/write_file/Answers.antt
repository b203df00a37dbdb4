use Rattle.convert_write.proofs.Writing.{file_written}
use Rattle.convert_write.proofs.write_file.Goals as goal

-- the parts one after the other
pub returns : goal.returns
returns c =
    file_written c.args.fst.bytes.now _ _ _ _ _ _ _ _ _ c.requires.long c.requires.writable.room_out c.write_header.ensures c.write_out-end.ensures
    c.pack_uint_in.ensures c.pack_uint_in-2.ensures
