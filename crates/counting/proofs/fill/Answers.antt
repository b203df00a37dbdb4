-- `counting::fill` meets its contract. Assumes nothing.
use Rattle.std.proofs.Common.{◌≡◌, ◌<◌, length, arith}
use Rattle.std.specs.Prelude.{Err}
use Rattle.admission_node.specs.KeptLaws.{kept_set, kept_then, kept_lt}
use Rattle.counting.proofs.Passing.{passing_zeros, passing_over, passing_step, counted_some, counted_none}
use Rattle.counting.proofs.fill.Goals as goal

-- a number that does not fit
pub returns-in_err-keys : goal.returns-in_err-keys
returns-in_err-keys c =
    let told : c.from_residual.result ≡ Err c.in_err-keys.field-0.0 = grind arith in
    let none = counted_none c.count_at.result c.ok_or.ensures.value c.in_err-keys.was in
    rw told
    (record {
      kept = c.loop-a.invariant.0;
      found = record { is = none.1; one = passing_over c.loop-a.invariant.1 c.requires c.loop-a-test.true _ c.count_at.ensures none.0 };
    })

-- one entry more, and zeros up to the next
pub loop-a-preserved : goal.loop-a-preserved
loop-a-preserved c =
    let room : c.loop-a.a < length c.loop-a.counts = kept_lt c.loop-a.invariant.0 c.requires.room_counts c.loop-a-test.true in
    let some = counted_some c.count_at.result c.ok_or.ensures.value c.in_ok-keys.was in (
      kept_then (kept_set _ _ c.loop-a-test.true c.loop-a.invariant.0) c.zeros_to-a-in-loop-a.ensures.kept,
      passing_zeros (passing_step c.loop-a.invariant.1 c.requires c.loop-a-test.true _ c.count_at.ensures c.in_ok-keys.keys room some)
          c.zeros_to-a-in-loop-a.ensures,
    )
