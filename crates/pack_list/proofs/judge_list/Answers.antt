-- Length, ends, keys decide, one after the other.
-- Assumes nothing.
use Rattle.std.proofs.Common.{arith}
use Rattle.pack_list.proofs.Ascents.{not_sized, not_ends, list_decided}
use Rattle.buffers.specs.DecideLaws.{decides_false}
use Rattle.pack_list.proofs.judge_list.Goals as goal
use Rattle.pack_list.proofs.judge_list.Goals.{then-list-n-via-then-list-n, then-list-n-via-else-list-n+then-not-ends_ok}

pub returns-then-list-lt8 : goal.returns-then-list-lt8
returns-then-list-lt8 c = decides_false (λ ok. let long = ok.long in omega arith)

pub returns-then-list-n : goal.returns-then-list-n
returns-then-list-n c =
    elim c.then-list-n.branch [
      | then-list-n-via-then-list-n w ↦ not_sized _ _ c.key_count-n.ensures.0 c.key_bytes-total.ensures.0 w.if-list-n.true
      | then-list-n-via-else-list-n+then-not-ends_ok w ↦ not_ends _ _ c.key_count-n.ensures.0 c.key_bytes-total.ensures.0 (w.ends_ok.ensures.no w.if-not-ends_ok.true)
    ]

pub keys_ascend-requires : goal.keys_ascend-requires
keys_ascend-requires c =
    (record { few = c.key_count-n.ensures.1; count_is = c.key_count-n.ensures.0; length_is = c.if-list-n.false }, c.ends_ok.ensures.yes c.if-not-ends_ok.false)

pub returns : goal.returns
returns c =
    list_decided _ _ c.key_count-n.ensures.0 c.key_bytes-total.ensures.0 c.if-list-lt8.false c.if-list-n.false (c.ends_ok.ensures.yes c.if-not-ends_ok.false) c.keys_ascend.result c.keys_ascend.ensures
