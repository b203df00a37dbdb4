-- The pass, and zeros over the file's length where it refuses.
use Rattle.std.proofs.Common.{◌≡◌, List, ℕ, ◌++◌, ap, sym, ◌∙◌, length, take, drop, replicate, length-take-le, arith}
use Rattle.counting.proofs.Passing.{fills_leave, refusal_leaves}
use Rattle.counting.proofs.count_nodes.Goals as goal

-- every number fits
pub returns-else-is_err : goal.returns-else-is_err
returns-else-is_err c = fills_leave c.fill-filled.result c.fill-filled.ensures (sym c.is_err.ensures.value ∙ c.if-is_err.false)

-- COUNT
pub returns-then-is_err : goal.returns-then-is_err
returns-then-is_err c =
    let n = length c.args.fst.bytes.now in
    let counts = c.fill-filled.new.counts in
    let long : length (take n counts) ≡ n = length-take-le n counts (omega (arith, c.requires.room_counts, c.fill-filled.ensures.kept.long)) in
    refusal_leaves c.fill-filled.result c.fill-filled.ensures
    (ap (λ (x : List ℕ). x ++ drop n counts) (c.fill.ensures.after (λ y e. e) ∙ ap (λ (i : ℕ). replicate i 0) long))
    (sym c.is_err.ensures.value ∙ c.if-is_err.true)
