use Rattle.std.proofs.Common.{refl}
use Rattle.convert.proofs.Finishing.{finish_short_out, finish_short_table, finish_narrow, finish_done}
use Rattle.convert.proofs.finish.Goals as goal
use Rattle.convert.proofs.finish.Goals.{then-out-len-via-then-out-len, then-out-len-via-else-out-len+then-table-entries}

-- the output is short, or the table is
pub returns-then-out-len : goal.returns-then-out-len
returns-then-out-len c =
    elim c.then-out-len.branch [
      | then-out-len-via-then-out-len w ↦ finish_short_out c.requires c.args.count _ _ w.if-out-len.true (refl, refl, refl)
      | then-out-len-via-else-out-len+then-table-entries w ↦
          finish_short_table c.requires c.args.count _ _ w.if-out-len.false w.if-table-entries.true (refl, refl, refl)
    ]

-- new addresses have 32 bits
pub put_table-requires : goal.put_table-requires
put_table-requires c = finish_narrow c.requires c.args.count c.args.out.now _ c.if-table-entries.false

-- both are written
pub returns : goal.returns
returns c = finish_done c.requires c.args.count _ _ c.if-out-len.false c.if-table-entries.false c.write_file.ensures c.put_table.ensures
