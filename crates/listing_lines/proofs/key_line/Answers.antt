-- `listing_lines::key_line` meets its contract: its parts are written one after the other.
-- Assumes nothing.
use Rattle.std.proofs.Common.{refl, List, [], ◌∷◌, ◌++◌, ℕ, ◌≤◌, length, arith}
use Rattle.buffers.specs.Put.{PutAt}
use Rattle.buffers.specs.WritingLaws.{Writing, writing_none, part_room, part_written}
use Rattle.listing_lines.specs.Lines.{key_text, decimal, key_line}
use Rattle.listing_lines.specs.LinesLaws.{length_key_line}
use Rattle.listing_lines.proofs.LineParts.{line_written}
use Rattle.listing_lines.proofs.key_line.Goals as goal

-- the key is written, and the space is next
at_space : (k : List ℕ) (v : ℕ) (out₀ out : List ℕ) (p : ℕ) → length k ≤ 255 → 532 ≤ length out₀ → PutAt out₀ 0 (key_text k) out p
    → Writing out₀ (key_line k v) ((32 ∷ []) ++ (decimal v ++ (10 ∷ []))) out p
unfolding key_line
at_space k v out₀ out p low room put_is =
    let rest : List ℕ = (32 ∷ []) ++ (decimal v ++ (10 ∷ [])) in
    part_written (key_text k) rest out p (writing_none out₀ (key_line k v) (key_text k ++ rest) refl (omega (arith, length_key_line k v low, room))) put_is

-- the line has room for the space
pub put_text-value_at-requires : goal.put_text-value_at-requires
put_text-value_at-requires c =
    part_room (32 ∷ []) (decimal c.args.value ++ (10 ∷ []))
    (at_space c.args.key.now c.args.value c.args.line.now _ _ c.requires.0 c.requires.1 c.put_key-space_at.ensures)

-- for the value
pub put_number-newline_at-requires : goal.put_number-newline_at-requires
put_number-newline_at-requires c =
    part_room (decimal c.args.value) (10 ∷ [])
    (part_written (32 ∷ []) (decimal c.args.value ++ (10 ∷ [])) _ _
    (at_space c.args.key.now c.args.value c.args.line.now _ _ c.requires.0 c.requires.1 c.put_key-space_at.ensures) c.put_text-value_at.ensures)

-- and for the newline
pub put_text-requires : goal.put_text-requires
put_text-requires c =
    part_room (10 ∷ []) []
    (part_written (decimal c.args.value) (10 ∷ []) _ _
    (part_written (32 ∷ []) (decimal c.args.value ++ (10 ∷ [])) _ _
    (at_space c.args.key.now c.args.value c.args.line.now _ _ c.requires.0 c.requires.1 c.put_key-space_at.ensures) c.put_text-value_at.ensures)
    c.put_number-newline_at.ensures)

-- all four parts are written
pub returns : goal.returns
returns c =
    line_written c.put_text.new.line c.put_text.result (length_key_line c.args.key.now c.args.value c.requires.0)
    (part_written (decimal c.args.value) (10 ∷ []) _ _
    (part_written (32 ∷ []) (decimal c.args.value ++ (10 ∷ [])) _ _
    (at_space c.args.key.now c.args.value c.args.line.now _ _ c.requires.0 c.requires.1 c.put_key-space_at.ensures) c.put_text-value_at.ensures)
    c.put_number-newline_at.ensures)
    c.put_text.ensures
