-- A row that is subtracted from, by the parts of the tables.
--     part_high            what subtracting asks of a row, n' being its length by its ends
-- Assumes nothing.
use Rattle.std.specs.Prelude.{◌≡◌, List, ℕ, ◌+◌, ◌*◌, take, drop}
use Rattle.std.proofs.Common.{◌∙◌, arith, length-drop, length-take-le, get_or-take, get_or-drop}
use Rattle.pack_finish.specs.FinishRow.{EachAtLeast, AllAtLeast}

pub part_high : (d n n' base : ℕ) (leasts : List ℕ) → n' ≡ n → AllAtLeast base leasts (256 * d) n → EachAtLeast base (take n' (drop (256 * d) leasts))
part_high d n n' base leasts same h = record {
  high = λ j l.
      let long = length-take-le n' (drop (256 * d) leasts) (omega (arith, length-drop (256 * d) leasts, h.within)) in
      let e = get_or-take n' (drop (256 * d) leasts) j 0 (omega (arith, long)) ∙ get_or-drop (256 * d) leasts j 0 in
      omega (arith, e, h.high (256 * d + j) (omega arith) (omega (arith, long)));
}
