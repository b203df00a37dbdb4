-- A count of 1 to 63 goes into the state byte, and any other before it.
use Rattle.std.proofs.Common.{arith, length-set}
use Rattle.node_parts.proofs.Heads.{head_short_room, head_short_put, head_long_room, head_long_put}
use Rattle.node_parts.proofs.put_head.Goals as goal
use Rattle.node_parts.proofs.put_head.Goals.{else-n-gt0-via-then-n-gt0+else-n-lt64, else-n-gt0-via-else-n-gt0}

pub bounds-out-at : goal.bounds-out-at
bounds-out-at c =
    omega (arith, head_short_room c.args.out.now c.args.at c.args.is_final c.args.n c.requires.0 c.if-n-gt0.true c.if-n-lt64.true)

pub returns-then-n-lt64 : goal.returns-then-n-lt64
returns-then-n-lt64 c =
    head_short_put c.args.out.now c.args.at c.args.is_final c.args.n c.requires.0 c.if-n-gt0.true c.if-n-lt64.true c.flag_of-flag.result
    c.flag_of-flag.ensures

-- the buffer has room for the count byte
pub bounds-out-at-2 : goal.bounds-out-at-2
bounds-out-at-2 c =
    omega (
      arith,
      head_long_room c.args.out.now c.args.at c.args.is_final c.args.n c.requires.0
          (λ h. elim c.else-n-gt0.branch [ else-n-gt0-via-then-n-gt0+else-n-lt64 w ↦ omega arith | else-n-gt0-via-else-n-gt0 w ↦ omega arith ]),
    )

-- and for the state byte behind it
pub bounds-out-at-3 : goal.bounds-out-at-3
bounds-out-at-3 c =
    simp length-set
    (omega (
      arith,
      head_long_room c.args.out.now c.args.at c.args.is_final c.args.n c.requires.0
          (λ h. elim c.else-n-gt0.branch [ else-n-gt0-via-then-n-gt0+else-n-lt64 w ↦ omega arith | else-n-gt0-via-else-n-gt0 w ↦ omega arith ]),
    ))

pub returns : goal.returns
returns c =
    head_long_put c.args.out.now c.args.at c.args.is_final c.args.n c.requires.0
    (λ h. elim c.else-n-gt0.branch [ else-n-gt0-via-then-n-gt0+else-n-lt64 w ↦ omega arith | else-n-gt0-via-else-n-gt0 w ↦ omega arith ])
    c.count_byte.result c.flag_of-flag.result c.count_byte.ensures c.flag_of-flag.ensures
