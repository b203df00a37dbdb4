-- Each way out is a condition of soundness, at the shape that was read.
use Rattle.std.proofs.Common.{refl, arith}
use Rattle.node_sound.specs.JudgingLaws.{parts, shape_sound, shape_right, right_parts, judged_parts, judged_none}
use Rattle.node_sound.proofs.any_parts.Goals as goal

-- its parts lie within the node, which lies from 16 on
pub parts-parts-requires : goal.parts-parts-requires
parts-parts-requires c =
    let p = parts c.args.fst.bytes.now c.args.fst.version c.args.fst.root c.args.addr _ c.shape_of-shape.ensures.0 (λ z. omega (arith, c.requires.0.low)) in
    (omega arith, omega (arith, p.whole, c.shape_of-shape.ensures.1), c.shape_of-shape.ensures.1)

pub parts_right-right-requires : goal.parts_right-right-requires
parts_right-right-requires c =
    let p = parts c.args.fst.bytes.now c.args.fst.version c.args.fst.root c.args.addr _ c.shape_of-shape.ensures.0 (λ z. omega (arith, c.requires.0.low)) in
    let right = c.sizes_right.ensures.yes c.if-not-sizes_right.false in
    rw c.parts-parts.ensures (omega (arith, p.whole, c.requires.0.inside, c.if-addr-shape.false), right.0, omega (arith, c.requires.0.low, c.if-addr-shape.false), p.entries)

-- all tests passed
pub returns-then-right : goal.returns-then-right
returns-then-right c =
    let a = c.args in
    let right = rw c.parts-parts.ensures at (c.parts_right-right.ensures.yes c.if-right.true) in
    judged_parts a.fst.bytes.now a.fst.version a.fst.root a.addr _ c.shape_of-shape.ensures.0 (λ z. omega (arith, c.requires.0.low)) _ c.parts-parts.ensures
    (shape_right a.fst.bytes.now a.fst.root a.addr _ refl c.requires.0 c.if-addr-shape.false (c.sizes_right.ensures.yes c.if-not-sizes_right.false)
    (c.useful.ensures.yes c.if-not-useful.false) right)

-- the inputs, the deltas or the index are wrong
pub returns-else-right : goal.returns-else-right
returns-else-right c =
    let a = c.args in
    judged_none (λ sound.
    c.parts_right-right.ensures.no c.if-right.false
    (rw c.parts-parts.ensures (right_parts a.fst.bytes.now a.fst.root a.addr _ refl (shape_sound a.fst.bytes.now a.fst.version a.fst.root a.addr _ c.shape_of-shape.ensures.0 (λ z. omega (arith, c.requires.0.low)) sound))))
