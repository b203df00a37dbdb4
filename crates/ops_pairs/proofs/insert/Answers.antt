-- `ops_pairs::insert` meets its contract: one place more is settled.
-- Assumes nothing.
use Rattle.std.proofs.Common.{refl, sym, ◌∙◌, arith}
use Rattle.ops_pairs.proofs.InsertLaws.{placing_put, placing_pass, placing_all}
use Rattle.ops_pairs.proofs.insert.Goals as goal
use Rattle.ops_pairs.proofs.insert.Goals.{then-goes_before, else-goes_before}

pub loop-j-preserved : goal.loop-j-preserved
loop-j-preserved c =
    let l = c.loop-j in
    let a = c.args in
    elim c.if-goes_before.branch [
      | then-goes_before w ↦ rw (w.values-is, w.files-is, w.v-is, w.f-is, w.found-is)
          (placing_put a.value a.file a.pairs.count a.pairs.values a.pairs.files l.values l.files l.v l.f l.found l.j l.invariant (omega arith) (sym c.goes_before.ensures ∙ w.if-goes_before.true))
      | else-goes_before w ↦ rw (w.values-is, w.files-is, w.v-is, w.f-is, w.found-is)
          (placing_pass a.value a.file a.pairs.count a.pairs.values a.pairs.files l.values l.files l.v l.f l.found l.j l.invariant (omega arith) (sym c.goes_before.ensures ∙ w.if-goes_before.false))
    ]

pub returns : goal.returns
returns c =
    let l = c.loop-j in
    let a = c.args in
    placing_all a.value a.file a.pairs.count a.pairs.values a.pairs.files l.values l.files l.v l.f l.found l.j l.invariant (omega arith) a.pairs refl refl refl
