-- A line's parts, written one after the other.
-- Assumes nothing.
use mathlib.Core.Path.{◌≡◌, refl, sym, ap, ◌∙◌}
use mathlib.Core.List.{List, [], ◌∷◌, ◌++◌, append_assoc}
use Prim.Native.Nat.{ℕ, suc, ◌+◌, ◌≤◌, ◌<◌}
use native.Mathlib.Omega.{arith}
use borrow.Rule.Slice.PartMut.{put_mid}
use Rattle.std.proofs.Common.{drop-drop}
use lib.ListN.{length, take, drop, set, length-append, length-set}
use lib.Seq.{drop_at, set_split, take-set-le, length-take-le}
use Rattle.buffers.specs.Put.{put, PutAt}
use Rattle.buffers.specs.PutLaws.{put_zero, put_next, set_put}
use Rattle.buffers.specs.WritingLaws.{Writing, last_written}
use Rattle.listing_lines.specs.Lines.{Written}

-- a part of the line, lent on and back
pub put_part : (at k : ℕ) (out part v : List ℕ) → part ≡ v → k ≡ length v → put_mid at k out part ≡ put out at v
unfolding put
put_part at k out part v holds l =
    rw (holds, ← l) (ap (λ (rest : List ℕ). take at out ++ (v ++ rest)) (drop-drop k at out) ∙ sym (append_assoc (take at out) v (drop (at + k) out)))

-- two bytes
pub put_two_bytes : (o : List ℕ) (at a b : ℕ) → at + 2 ≤ length o → set (set o at a) (at + 1) b ≡ put o at (a ∷ b ∷ [])
put_two_bytes o at a b room =
    let l = length-set o at a in
    let one = set_put o at a (omega arith) in
    set_put (set o at a) (at + 1) b (omega arith) ∙ put_next o at (a ∷ []) (b ∷ []) one refl (omega arith)

-- a byte that is written before the part that ends where it stands
pub put_before : (o : List ℕ) (at : ℕ) (v : List ℕ) (b : ℕ) → at + length v < length o
    → put (set o (at + length v) b) at v ≡ put o at (v ++ (b ∷ []))
unfolding put
put_before o at v b room =
    let p : ℕ = at + length v in
    let whole : set o p b ≡ take p o ++ (b ∷ drop (suc p) o) = set_split o p b room in
    let head : take at (set o p b) ≡ take at o = take-set-le at o p b (omega arith) in
    let tail : drop p (set o p b) ≡ b ∷ drop (suc p) o =
    ap (drop p) whole ∙ drop_at (take p o) (b ∷ drop (suc p) o) p (length-take-le p o (omega arith)) in
    let l : at + length (v ++ (b ∷ [])) ≡ suc p = omega (arith, length-append v (b ∷ [])) in
    rw (head, tail, l) (simp append_assoc)

-- ---- a line, part by part

-- the whole line, once its last part is written
pub line_written : {out₀ whole v out : List ℕ} {p : ℕ} (out' : List ℕ) (p' : ℕ) → length whole ≤ 532 → Writing out₀ whole v out p
    → PutAt out p v out' p' → Written whole out₀ out' p'
line_written {out₀} {whole} {v} {out} {p} out' p' short w next =
    let all : PutAt out₀ 0 whole out' p' = last_written out' p' w next in
    record {
      buffer = all.is ∙ put_zero out₀ whole;
      answer = omega (arith, all.next);
      short = omega (arith, all.next);
    }
