-- The parts are written one after the other; w0 to w4 say what is still to be written before each.
use Rattle.std.proofs.Common.{refl, List, [], ◌∷◌, ◌++◌, ℕ, ◌≤◌, length, arith}
use Rattle.buffers.specs.WritingLaws.{Writing, writing_none, part_room, part_written}
use Rattle.listing_lines.specs.Lines.{decimal, end_line}
use Rattle.listing_lines.specs.LinesLaws.{length_end_line}
use Rattle.listing_lines.proofs.LineParts.{line_written}
use Rattle.listing_lines.proofs.end_line.Goals as goal

-- nothing is written, and `end ` is next
end_start : (keys followed : ℕ) (out₀ : List ℕ) → 532 ≤ length out₀
    → Writing out₀ (end_line keys followed) ((101 ∷ 110 ∷ 100 ∷ 32 ∷ []) ++ (decimal keys ++ ((32 ∷ []) ++ (decimal followed ++ (10 ∷ []))))) out₀ 0
unfolding end_line
end_start keys followed out₀ room = writing_none out₀ (end_line keys followed) _ refl (omega (arith, length_end_line keys followed))

-- the line has room for the number of keys
pub put_number-space_at-requires : goal.put_number-space_at-requires
put_number-space_at-requires c =
    let w0 = end_start c.args.keys c.args.followed c.args.line.now c.requires in
    let w1 = part_written _ _ _ _ w0 c.put_text-keys_at.ensures in
    part_room _ _ w1

-- for the space
pub put_text-followed_at-requires : goal.put_text-followed_at-requires
put_text-followed_at-requires c =
    let w0 = end_start c.args.keys c.args.followed c.args.line.now c.requires in
    let w1 = part_written _ _ _ _ w0 c.put_text-keys_at.ensures in
    let w2 = part_written _ _ _ _ w1 c.put_number-space_at.ensures in
    part_room (32 ∷ []) _ w2

-- for the number of transitions followed
pub put_number-newline_at-requires : goal.put_number-newline_at-requires
put_number-newline_at-requires c =
    let w0 = end_start c.args.keys c.args.followed c.args.line.now c.requires in
    let w1 = part_written _ _ _ _ w0 c.put_text-keys_at.ensures in
    let w2 = part_written _ _ _ _ w1 c.put_number-space_at.ensures in
    let w3 = part_written _ _ _ _ w2 c.put_text-followed_at.ensures in
    part_room _ _ w3

-- and for the newline
pub put_text-requires : goal.put_text-requires
put_text-requires c =
    let w0 = end_start c.args.keys c.args.followed c.args.line.now c.requires in
    let w1 = part_written _ _ _ _ w0 c.put_text-keys_at.ensures in
    let w2 = part_written _ _ _ _ w1 c.put_number-space_at.ensures in
    let w3 = part_written _ _ _ _ w2 c.put_text-followed_at.ensures in
    let w4 = part_written _ _ _ _ w3 c.put_number-newline_at.ensures in
    part_room (10 ∷ []) [] w4

-- all five parts are written
pub returns : goal.returns
returns c =
    let w0 = end_start c.args.keys c.args.followed c.args.line.now c.requires in
    let w1 = part_written _ _ _ _ w0 c.put_text-keys_at.ensures in
    let w2 = part_written _ _ _ _ w1 c.put_number-space_at.ensures in
    let w3 = part_written _ _ _ _ w2 c.put_text-followed_at.ensures in
    let w4 = part_written _ _ _ _ w3 c.put_number-newline_at.ensures in
    line_written c.put_text.new.line c.put_text.result (length_end_line c.args.keys c.args.followed) w4 c.put_text.ensures
