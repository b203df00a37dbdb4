use Rattle.std.specs.Prelude.{Err}
use Rattle.std.proofs.Common.{◌≡◌, arith}
use Rattle.format.specs.View.{fst_is}
use Rattle.convert.proofs.Old.{old_markable, old_layable, lays_some, lays_none, old_over, old_finishable, old_finished}
use Rattle.convert.proofs.convert_old.Goals as goal

pub mark-requires : goal.mark-requires
mark-requires c = old_markable c.requires

pub lay_out-requires : goal.lay_out-requires
lay_out-requires c = old_layable c.requires c.mark.ensures (omega arith)

pub finish-requires : goal.finish-requires
finish-requires c =
    old_finishable c.requires c.mark.ensures (omega arith) c.lay_out.ensures.kept c.args.out.now c.args.table.now
    (lays_some (fst_is c.args.fst) c.mark.new.depths c.lay_out.new.sums c.lay_out.result c.ok_or.ensures.value c.in_ok-next.was c.lay_out.ensures.lays)

-- the new file passes the limit
pub returns-in_err-next : goal.returns-in_err-next
returns-in_err-next c =
    let over = lays_none (fst_is c.args.fst) c.mark.new.depths c.lay_out.new.sums c.lay_out.result c.ok_or.ensures.value c.in_err-next.was c.lay_out.ensures.lays in
    let told : c.from_residual.result ≡ Err c.in_err-next.field-0.0 = grind arith in
    rw (told, over.1) (old_over c.requires c.mark.ensures (omega arith) c.lay_out.ensures.kept _ _ over.0)

pub returns : goal.returns
returns c =
    old_finished c.requires c.mark.ensures (omega arith) c.lay_out.ensures.kept _ _
    (lays_some (fst_is c.args.fst) c.mark.new.depths c.lay_out.new.sums c.lay_out.result c.ok_or.ensures.value c.in_ok-next.was c.lay_out.ensures.lays) c.finish.ensures
