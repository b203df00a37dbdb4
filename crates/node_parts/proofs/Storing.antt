-- Bytes written last first: what a turn of the loop knows.
-- Assumes nothing.
use mathlib.Core.Path.{◌≡◌, refl, sym, ◌∙◌}
use mathlib.Core.List.{List, [], ◌∷◌, ◌++◌}
use Prim.Native.Nat.{ℕ, ◌+◌, ◌-◌, ◌≤◌, ◌<◌}
use native.Mathlib.Omega.{arith}
use lib.ListN.{length, get_or, drop, set, length-drop, length-set}
use Rattle.buffers.specs.Put.{put, PutAt}
use Rattle.buffers.specs.PutLaws.{put_nil, put_next, set_put}
use Rattle.format.specs.Packed.{stored_bytes}
use Rattle.format.specs.Laws.PackedLaws.{length_stored_bytes, stored_bytes_drop, stored_bytes_none}

-- ---- bytes

-- the bytes from i on are written, up to place p
pub record BytesFrom (out₀ : List ℕ) (at : ℕ) (bytes out : List ℕ) (p i : ℕ) : Type 0 where
  pub within : i ≤ length bytes
  pub place : p + i ≡ at + length bytes
  pub len : length out ≡ length out₀
  pub is : out ≡ put out₀ at (stored_bytes (drop i bytes))

pub bytes_none : (out₀ : List ℕ) (at : ℕ) (bytes : List ℕ) → BytesFrom out₀ at bytes out₀ at (length bytes)
bytes_none out₀ at bytes = record {
  within = omega arith;
  place = refl;
  len = refl;
  is = sym (rw stored_bytes_none (put_nil out₀ at));
}

-- there is room for one more
pub bytes_room : {out₀ : List ℕ} {at : ℕ} {bytes out : List ℕ} {p i : ℕ} → at + length (stored_bytes bytes) ≤ length out₀ → 0 < i
    → BytesFrom out₀ at bytes out p i → p < length out
bytes_room {out₀} {at} {bytes} {out} {p} {i} room pos w = omega (arith, length_stored_bytes bytes, w.place, w.len)

pub bytes_step : {out₀ : List ℕ} {at : ℕ} {bytes out : List ℕ} {p i : ℕ} → at + length (stored_bytes bytes) ≤ length out₀ → 0 < i
    → BytesFrom out₀ at bytes out p i → BytesFrom out₀ at bytes (set out p (get_or bytes (i - 1) 0)) (p + 1) (i - 1)
bytes_step {out₀} {at} {bytes} {out} {p} {i} room pos w =
    let within = w.within in
    let place = w.place in
    let len = w.len in
    let fits = bytes_room room pos w in
    let b = get_or bytes (i - 1) 0 in
    let l : length (stored_bytes (drop i bytes)) ≡ length bytes - i = length_stored_bytes (drop i bytes) ∙ length-drop i bytes in
    let one : set out p b ≡ put out p (b ∷ []) = set_put out p b fits in
    let more : put out p (b ∷ []) ≡ put out₀ at (stored_bytes (drop i bytes) ++ (b ∷ [])) =
    put_next out₀ at (stored_bytes (drop i bytes)) (b ∷ []) w.is (omega arith) (omega arith) in
    record {
      within = omega arith;
      place = omega arith;
      len = length-set out p b ∙ len;
      is = one ∙ more ∙ rw (stored_bytes_drop bytes i);
    }

pub bytes_all : {out₀ : List ℕ} {at : ℕ} {bytes out : List ℕ} {p i : ℕ} → i ≤ 0 → BytesFrom out₀ at bytes out p i
    → PutAt out₀ at (stored_bytes bytes) out p
bytes_all {out₀} {at} {bytes} {out} {p} {i} none w =
    let z : i ≡ 0 = omega arith in
    record { is = w.is ∙ rw z; next = omega (arith, w.place, length_stored_bytes bytes) }
