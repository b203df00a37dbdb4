-- What is gathered is the node's record, which is as the packer asks and has room.
use Rattle.std.proofs.Common.{sym}
use Rattle.node.specs.Read.{meaning}
use Rattle.node.specs.ReadLaws.{length_node_transitions}
use Rattle.convert_node.proofs.Packing.{few, pack_fits, pack_done, pack_never}
use Rattle.convert_node.proofs.pack.Goals as goal

-- each array has an entry for each of the node's transitions
pub shared_ref_as_front-record : goal.shared_ref_as_front-record
shared_ref_as_front-record c = few c.requires.0 c.requires.1

pub shared_ref_as_front-record-2 : goal.shared_ref_as_front-record-2
shared_ref_as_front-record-2 c = few c.requires.0 c.requires.1

pub shared_ref_as_front-record-3 : goal.shared_ref_as_front-record-3
shared_ref_as_front-record-3 c = few c.requires.0 c.requires.1

pub compile_record-requires : goal.compile_record-requires
compile_record-requires c =
    pack_fits (meaning c.args.file.now c.args.node) c.args.node.ntrans (sym (length_node_transitions _ _ c.requires.0)) c.gather.ensures c.requires.1

pub returns-in-Ok : goal.returns-in-Ok
returns-in-Ok c =
    pack_done (meaning c.args.file.now c.args.node) c.args.node.ntrans (sym (length_node_transitions _ _ c.requires.0)) c.gather.ensures c.requires.1
    c.compile_record.ensures c.in-Ok.len c.in-Ok.is

-- there is room
pub returns-in-Err : goal.returns-in-Err
returns-in-Err c =
    absurd
    (pack_never (meaning c.args.file.now c.args.node) c.args.node.ntrans (sym (length_node_transitions _ _ c.requires.0)) c.gather.ensures c.requires.1
    c.compile_record.ensures c.in-Err.field-0 c.in-Err.is)
