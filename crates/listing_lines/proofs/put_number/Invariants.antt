-- `listing_lines::put_number`: what is left, the i lowest digits of rest, makes of the line what the whole number makes of the line at entry.
-- Assumes nothing.
use Rattle.listing_lines.proofs.Digits.{Filling}
use Rattle.listing_lines.proofs.put_number.Given as goal

abbrev pub invariant-loop-i : goal.invariant-loop-i
invariant-loop-i l = Filling l.initial.line l.at l.n l.line l.rest l.i
