-- Each end of packing, of every table of cells.
-- Assumes nothing.
use Rattle.std.proofs.Common.{length, refl, arith, rules}
use Rattle.std.proofs.lemmas.Result.{err_from_is_err_and}
use Rattle.pack_blank.specs.PackBlankLaws.{answer_refused, short_answer, over_answer, done_answer}
use Rattle.pack_end.proofs.ends.Goals as goal

pub returns-in_err-root : goal.returns-in_err-root
returns-in_err-root c = λ tables cells table e.
    let p = err_from_is_err_and c.from_residual.result c.from_residual.ensures.1 in
    rw (p.1, p.2) (answer_refused (e.refuses _ c.in_err-root.was c.args.limit) c.args.output.now table)

pub overflow_sub-output : goal.overflow_sub-output
overflow_sub-output c = let h = (c.requires.ended.done _ c.in_ok-root.was).1.laid.high in search rules

pub returns-then-output-next-lt16 : goal.returns-then-output-next-lt16
returns-then-output-next-lt16 c = λ tables cells table e.
    let a = c.args in
    let d = e.done _ c.in_ok-root.was in
    short_answer a.limit a.list.now tables cells (length a.output.now) d.0.list d.0.fit d.0.two d.1 refl c.if-output-next-lt16.true

pub returns-then-limit-next : goal.returns-then-limit-next
returns-then-limit-next c = λ tables cells table e.
    let a = c.args in
    let d = e.done _ c.in_ok-root.was in
    over_answer a.limit a.list.now tables cells (length a.output.now) d.0.list d.0.fit d.0.two d.1 refl (λ z. omega (arith, c.if-output-next-lt16.false)) c.if-limit-next.true

pub key_count-n-requires : goal.key_count-n-requires
key_count-n-requires c = (c.requires.ended.done _ c.in_ok-root.was).0.list.long

pub write_ends-requires : goal.write_ends-requires
write_ends-requires c =
    let l = (c.requires.ended.done _ c.in_ok-root.was).1.laid in
    (l.low, omega (arith, l.high, c.if-output-next-lt16.false))

pub returns : goal.returns
returns c = λ tables cells table e.
    let a = c.args in
    let d = e.done _ c.in_ok-root.was in
    done_answer a.limit a.list.now tables cells (length a.output.now) d.0.list d.0.fit d.0.two d.1 refl (λ z. omega (arith, c.if-output-next-lt16.false)) (λ z. omega (arith, c.if-limit-next.false))
    _ c.key_count-n.ensures.0 _ c.write_ends.ensures c.write_ends.auto.output
