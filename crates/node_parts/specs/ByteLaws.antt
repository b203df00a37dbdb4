-- Laws of one byte and of two, written.
-- Assumes nothing.
use Rattle.std.specs.Prelude.{refl, List, [], ◌∷◌, ℕ, ◌+◌, ◌≤◌, length, set}
use Rattle.std.proofs.Common.{◌∙◌, arith, length-set}
use Rattle.buffers.specs.PutLaws.{set_put, put_next}
use Rattle.buffers.specs.Put.{PutAt}

pub put_one_byte : (out : List ℕ) (at b : ℕ) → at + 1 ≤ length out → PutAt out at (b ∷ []) (set out at b) (at + 1)
put_one_byte out at b room = record { is = set_put out at b (omega arith); next = refl }

pub put_two_bytes : (out : List ℕ) (at a b : ℕ) → at + 2 ≤ length out → PutAt out at (a ∷ b ∷ []) (set (set out at a) (at + 1) b) (at + 2)
put_two_bytes out at a b room =
    let l = length-set out at a in
    let one = set_put out at a (omega arith) in
    record {
      is = set_put (set out at a) (at + 1) b (omega arith) ∙ put_next out at (a ∷ []) (b ∷ []) one refl (omega arith);
      next = refl;
    }
