use Rattle.std.proofs.Common.{◌<◌, refl, length, ap, ◌∙◌, List, ℕ, arith}
use Rattle.node.specs.Read.{transitions_in}
use Rattle.convert_size.specs.SingleLaws.{kept_packed, kept_moves, target_le}
use Rattle.convert_size.proofs.len_single.Goals as goal

pub first_moved-arc-requires : goal.first_moved-arc-requires
first_moved-arc-requires c = kept_moves c.requires.0 c.requires.1 c.requires.2

-- the target went below the node
pub one_len-requires : goal.one_len-requires
one_len-requires c =
    let listed : 0 < length (transitions_in c.args.file.now c.args.node) = omega (arith, c.requires.1.one) in
    (c.requires.2.fits.first_low, target_le c.requires.2 0 listed _ _ refl c.first_moved-arc.ensures.1)

pub returns : goal.returns
returns c =
    let a = c.args in
    let arc = c.first_moved-arc in
    c.one_len.ensures
    ∙ ap (λ (l : List ℕ). length l) (kept_packed c.requires.1 a.first a.moved.now _ _ _ arc.ensures.0 refl arc.ensures.1)
