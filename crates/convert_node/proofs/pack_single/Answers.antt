use Rattle.std.proofs.Common.{◌≡◌, ◌<◌, refl, ℕ, List, length, ap, arith}
use Rattle.format.specs.Packed.{packed}
use Rattle.node.specs.Read.{meaning, transitions_in}
use Rattle.converting.specs.Converting.{record_by}
use Rattle.node_compile.specs.One.{one_bytes}
use Rattle.convert_size.specs.Sizes.{entry_in}
use Rattle.convert_size.specs.SingleLaws.{kept_packed, kept_moves, target_le}
use Rattle.convert_node.proofs.Packing.{front_put}
use Rattle.convert_node.proofs.pack_single.Goals as goal

pub first_moved-arc-requires : goal.first_moved-arc-requires
first_moved-arc-requires c = kept_moves c.requires.0 c.requires.1 c.requires.2.sizable

-- the target went below the node, and there is room
pub pack_one-requires : goal.pack_one-requires
pack_one-requires c =
    let a = c.args in
    let arc = c.first_moved-arc in
    let listed : 0 < length (transitions_in a.file.now a.node) = omega (arith, c.requires.1.one) in
    let packs : one_bytes a.first a.kept.idx a.kept.input arc.result.output arc.result.target ≡ packed a.first (record_by (entry_in a.moved.now) (meaning a.file.now a.node)) =
    kept_packed c.requires.1 a.first a.moved.now _ _ _ arc.ensures.0 refl arc.ensures.1 in (
      c.requires.2.sizable.fits.first_low,
      target_le c.requires.2.sizable 0 listed _ _ refl arc.ensures.1,
      omega (arith, ap (λ (l : List ℕ). length l) packs, c.requires.2.fits),
    )

pub returns : goal.returns
returns c =
    let arc = c.first_moved-arc in
    front_put (kept_packed c.requires.1 c.args.first c.args.moved.now _ _ _ arc.ensures.0 refl arc.ensures.1) c.pack_one.ensures
