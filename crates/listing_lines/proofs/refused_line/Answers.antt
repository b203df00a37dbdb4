-- `listing_lines::refused_line` meets its contract: its parts are written one after the other.
-- Assumes nothing.
use Rattle.std.proofs.Common.{◌≡◌, List, [], ◌∷◌, ◌++◌, ℕ, ◌≤◌, length, ap, ◌∙◌, arith}
use Rattle.format.specs.declared.Refusal.{Refusal}
use Rattle.format.specs.Limits.{number}
use Rattle.buffers.specs.Put.{PutAt}
use Rattle.buffers.specs.WritingLaws.{Writing, writing_none, part_room, part_written}
use Rattle.listing_lines.specs.Lines.{decimal, refused_line}
use Rattle.listing_lines.specs.LinesLaws.{length_refused_line}
use Rattle.listing_lines.proofs.LineParts.{line_written}
use Rattle.listing_lines.proofs.refused_line.Goals as goal

-- `refused `
abbrev word : List ℕ
word = 114 ∷ 101 ∷ 102 ∷ 117 ∷ 115 ∷ 101 ∷ 100 ∷ 32 ∷ []

-- the word is written, and the number is next
at_number : (why : Refusal) (n : ℕ) → n ≡ number why → (out₀ out : List ℕ) (p : ℕ) → 532 ≤ length out₀ → PutAt out₀ 0 word out p
    → Writing out₀ (refused_line why) (decimal n ++ (10 ∷ [])) out p
unfolding refused_line
at_number why n is out₀ out p room put_is =
    let all : word ++ (decimal n ++ (10 ∷ [])) ≡ refused_line why = ap (λ (m : ℕ). word ++ (decimal m ++ (10 ∷ []))) is in
    part_written word (decimal n ++ (10 ∷ [])) out p (writing_none out₀ (refused_line why) (word ++ (decimal n ++ (10 ∷ []))) all (omega (arith, length_refused_line why, room))) put_is

-- the line has room for the refusal's number
pub put_number-newline_at-requires : goal.put_number-newline_at-requires
put_number-newline_at-requires c =
    part_room (decimal c.from-2.result) (10 ∷ [])
    (at_number c.args.why c.from-2.result (c.from-2.ensures ∙ c.from.ensures) c.args.line.now _ _ c.requires c.put_text-number_at.ensures)

-- and for the newline
pub put_text-requires : goal.put_text-requires
put_text-requires c =
    part_room (10 ∷ []) []
    (part_written (decimal c.from-2.result) (10 ∷ []) _ _
    (at_number c.args.why c.from-2.result (c.from-2.ensures ∙ c.from.ensures) c.args.line.now _ _ c.requires c.put_text-number_at.ensures) c.put_number-newline_at.ensures)

-- all three parts are written
pub returns : goal.returns
returns c =
    line_written c.put_text.new.line c.put_text.result (length_refused_line c.args.why)
    (part_written (decimal c.from-2.result) (10 ∷ []) _ _
    (at_number c.args.why c.from-2.result (c.from-2.ensures ∙ c.from.ensures) c.args.line.now _ _ c.requires c.put_text-number_at.ensures) c.put_number-newline_at.ensures)
    c.put_text.ensures
