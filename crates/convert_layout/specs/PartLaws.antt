-- A part of a buffer, from a place to its end, that comes back with bytes at its front.
--     placed                 it is those bytes put at that place
--     part_is, none_after    such a part as it is lent, and what lies after it
-- Assumes nothing.
use Rattle.std.specs.Prelude.{◌≡◌, List, ◌++◌, ℕ, ◌+◌, ◌-◌, length, take, drop}
use Rattle.std.proofs.Common.{sym, ap, ◌∙◌, append-nil, append_assoc, arith, length-drop, take_all, drop-drop}
use Rattle.std.proofs.Math.Seq.{drop-length}
use Rattle.buffers.specs.Put.{put}

-- a part that starts with v, put back behind the first n bytes
pub placed : (n : ℕ) (o v x x' : List ℕ) → x ≡ drop n o → x' ≡ v ++ drop (length v) x → take n o ++ x' ≡ put o n v
unfolding put
placed n o v x x' is is' = ap (λ (l : List ℕ). take n o ++ l) (is' ∙ ap (λ (l : List ℕ). v ++ l) (ap (drop (length v)) is ∙ drop-drop (length v) n o))
    ∙ sym (append_assoc (take n o) v (drop (n + length v) o))

-- a part from n to the end
pub part_is : (n : ℕ) (o : List ℕ) → take (length o - n) (drop n o) ≡ drop n o
part_is n o = take_all (length o - n) (drop n o) (omega (arith, length-drop n o))

pub none_after : (n : ℕ) (o x : List ℕ) → x ++ drop (length o - n) (drop n o) ≡ x
none_after n o x =
    let e : length o - n ≡ length (drop n o) = omega (arith, length-drop n o) in
    ap (λ (k : ℕ). x ++ drop k (drop n o)) e ∙ ap (λ (l : List ℕ). x ++ l) (drop-length (drop n o)) ∙ append-nil x
