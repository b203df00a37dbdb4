-- A key that ends before it begins, or is too long, decides; a turn takes a key more.
-- Assumes nothing.
use Rattle.std.proofs.Common.{arith}
use Rattle.pack_list.proofs.Ends.{rose_none, rose_falls, rose_long, rose_step, rose_all}
use Rattle.pack_list.proofs.ends_ok.Goals as goal

pub loop-i-init : goal.loop-i-init
loop-i-init c = rose_none _ _

pub returns-then-end-last : goal.returns-then-end-last
returns-then-end-last c = rose_falls c.loop-i.invariant c.args.total c.end_at-end.result (omega arith) c.end_at-end.ensures.0 c.if-end-last.true

pub returns-then-end-last-gt-MAX_KEY : goal.returns-then-end-last-gt-MAX_KEY
returns-then-end-last-gt-MAX_KEY c =
    rose_long c.loop-i.invariant c.args.total c.end_at-end.result (omega arith) c.end_at-end.ensures.0 c.if-end-last-gt-MAX_KEY.true

pub loop-i-preserved : goal.loop-i-preserved
loop-i-preserved c =
    rose_step c.loop-i.invariant c.args.total c.end_at-end.result (omega arith) c.end_at-end.ensures.0 c.if-end-last.false c.if-end-last-gt-MAX_KEY.false

pub returns : goal.returns
returns c = rose_all c.args.total (omega arith) c.loop-i.invariant
