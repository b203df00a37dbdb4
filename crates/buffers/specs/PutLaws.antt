-- Laws of `put`: two writes in a row are one, so a function that writes parts is proved part by part.
-- Assumes nothing.
use Rattle.std.specs.Prelude.{◌≡◌, List, [], ◌∷◌, ◌++◌, ℕ, suc, ◌+◌, ◌≤◌, ◌<◌, length, take, drop, set}
use Rattle.std.proofs.Common.{sym, ap, ◌∙◌, append_assoc, append-nil, add-zero, zero-add, add_assoc, add-one, arith, length-append, length-drop, length-set, take-append-drop, take_at, drop_at, drop-drop, length-take-le}
use Rattle.std.proofs.lemmas.List.{set-append_left, set_split}
use Rattle.std.proofs.lemmas.List.Edits.{sets, sets-eq}
use borrow.Rule.Slice.PartMut.{put_mid}
use Rattle.buffers.specs.Put.{put}

pub put_nil : (out : List ℕ) (at : ℕ) → put out at [] ≡ out
unfolding put
put_nil out at = rw (add-zero, append-nil, take-append-drop)

pub length_put : (out : List ℕ) (at : ℕ) (v : List ℕ) → at + length v ≤ length out → length (put out at v) ≡ length out
unfolding put
length_put out at v h =
    let a = length-take-le at out (omega arith) in
    simp (length-append, length-drop) (omega arith)

-- the second part starts where the first ends
pub put_append : (out : List ℕ) (at : ℕ) (v w : List ℕ) → at + (length v + length w) ≤ length out
    → put (put out at v) (at + length v) w ≡ put out at (v ++ w)
unfolding put
put_append out at v w h =
    let a = length-take-le at out (omega arith) in
    let head : length (take at out ++ v) ≡ at + length v = length-append (take at out) v ∙ rw a in
    let l : length (v ++ w) ≡ length v + length w = length-append v w in
    rw (take_at (take at out ++ v) (drop (at + length v) out) (at + length v) head)
    (rw (← drop-drop (length w) (at + length v), drop_at (take at out ++ v) (drop (at + length v) out) (at + length v) head)
    (rw (drop-drop, l) (simp (append_assoc, add_assoc))))

-- from the buffer's first byte
pub put_zero : (out v : List ℕ) → put out 0 v ≡ v ++ drop (length v) out
unfolding put
put_zero out v = rw zero-add

-- one byte
pub set_put : (out : List ℕ) (at b : ℕ) → at < length out → set out at b ≡ put out at (b ∷ [])
unfolding put
set_put out at b h = set_split out at b h ∙ rw add-one (simp append_assoc)

pub sets_put : (out : List ℕ) (at : ℕ) (v : List ℕ) → at + length v ≤ length out → sets out at v ≡ put out at v
unfolding put
sets_put out at v h = sets-eq v out at h

-- a loop's turn: out has v already, and w follows
pub put_next : (out₀ : List ℕ) (at : ℕ) (v w : List ℕ) {out : List ℕ} {p : ℕ} → out ≡ put out₀ at v → p ≡ at + length v
    → at + (length v + length w) ≤ length out₀ → put out p w ≡ put out₀ at (v ++ w)
put_next out₀ at v w is place room = rw (is, place) (put_append out₀ at v w room)

set_append_right : (xs ys : List ℕ) (i a : ℕ) → set (xs ++ ys) (length xs + i) a ≡ xs ++ set ys i a
set_append_right [] ys i a = rw zero-add
set_append_right (x ∷ xs) ys i a = let e : suc (length xs) + i ≡ suc (length xs + i) = omega arith in rw e (ap (λ (l : List ℕ). x ∷ l) (set_append_right xs ys i a))

-- a byte within what was written
pub set_in_put : (out : List ℕ) (at : ℕ) (v : List ℕ) (i a : ℕ) → at + length v ≤ length out → i < length v → set (put out at v) (at + i) a ≡ put out at (set v i a)
unfolding put
set_in_put out at v i a h l =
    let t = length-take-le at out (omega arith) in
    let s = set_append_right (take at out) (v ++ drop (at + length v) out) i a in
    let left = set-append_left v (drop (at + length v) out) i a l in
    let rest = drop (at + length v) out in
    ap (λ (l : List ℕ). set l (at + i) a) (append_assoc (take at out) v rest)
    ∙ ap (λ (n : ℕ). set (take at out ++ (v ++ rest)) (n + i) a) (sym t)
    ∙ s ∙ ap (λ (l : List ℕ). take at out ++ l) left ∙ sym (append_assoc (take at out) (set v i a) rest) ∙ rw (length-set v i a)

-- a part of the buffer, lent on and back, that now holds v
pub put_part : (at k : ℕ) (out part v : List ℕ) → part ≡ v → k ≡ length v → put_mid at k out part ≡ put out at v
unfolding put
put_part at k out part v holds l =
    rw (holds, ← l) (ap (λ (rest : List ℕ). take at out ++ (v ++ rest)) (drop-drop k at out) ∙ sym (append_assoc (take at out) v (drop (at + k) out)))
