-- `listing_lines::put_key` meets its contract.
-- Assumes nothing.
use Rattle.std.proofs.Common.{◌≡◌, [], ◌∷◌, length, sym, ◌∙◌, eqb-true, arith}
use Rattle.std.proofs.lemmas.Bool.{eqb-false}
use Rattle.std.proofs.Math.Seq.{take-length}
use Rattle.listing_lines.specs.Lines.{hex_of, key_text}
use Rattle.listing_lines.specs.LinesLaws.{key_text_none, key_text_some}
use Rattle.listing_lines.proofs.put_key.Goals as goal

-- the empty key is a dash
pub returns-then-is_empty : goal.returns-then-is_empty
returns-then-is_empty c =
    let k = c.args.key.now in
    let none = eqb-true (length k) 0 (sym c.is_empty.ensures ∙ c.if-is_empty.true) in
    let dash : key_text k ≡ 45 ∷ [] = rw (take-length k) at (key_text_none k (length k) none) in
    rw dash c.put_text.ensures

-- any other key is its digits
pub returns : goal.returns
returns c =
    let k = c.args.key.now in
    let some = eqb-false (length k) 0 (sym c.is_empty.ensures ∙ c.if-is_empty.false) in
    let digits : key_text k ≡ hex_of k = rw (take-length k) at (key_text_some k (length k) some (omega arith)) in
    rw digits c.put_hex.ensures
