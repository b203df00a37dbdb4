-- Eight numbers written one after the other, and an item's room.
--     eight_put                   a part of eight overwritten, as a run of writes
--     key_row                     a key's bytes as they stand in a head
-- Assumes nothing.
use mathlib.Core.Path.{◌≡◌, sym, ap, ◌∙◌}
use mathlib.Core.List.{List, ◌∷◌, ◌++◌}
use Prim.Native.Nat.{ℕ, ◌+◌, ◌-◌}
use native.Mathlib.Omega.{arith}
use borrow.Rule.Slice.PartMut.{put_mid}
use lib.ListN.{length, take, drop}
use lib.Seq.{take-length}
use Rattle.std.proofs.lemmas.Slice.{put_mid-paste}
use Rattle.buffers.specs.Put.{put}
use Rattle.ops_keys.specs.declared.Head.{Head}
use Rattle.ops_keys.specs.Heads.{head_key}

pub eight_put : (out : List ℕ) (at : ℕ) (v w : List ℕ) → length v ≡ 8 → w ≡ v → put_mid at (at + 8 - at) out w ≡ put out at v
unfolding put
eight_put out at v w held e =
    let whole : take 8 v ≡ v = ap (λ (n : ℕ). take n v) (sym held) ∙ take-length v in
    let p = rw whole at (put_mid-paste at (at + 8 - at) out w v 8 e (omega arith) (sym held)) in
    p ∙ ap (λ (n : ℕ). (take at out ++ v) ++ drop (at + n) out) (sym held)

-- ---- the key of a head

pub key_row : (h : Head) (n : ℕ) → n ≡ h.levels - 1
    → ◌≡◌ {A = List ℕ} (length (take (n + 1 - 1) (drop 1 h.inps)) ∷ take (n + 1 - 1) (drop 1 h.inps)) (length (head_key h) ∷ head_key h)
key_row h n is =
    let same : n + 1 - 1 ≡ h.levels - 1 = omega arith in
    ap (λ (j : ℕ). length (take j (drop 1 h.inps)) ∷ take j (drop 1 h.inps)) same
