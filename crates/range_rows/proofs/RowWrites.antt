-- A key's bytes written into a row one after the other, and the row with its length in front.
--     KeyCopied rows₀ first key rows i       the first i of the key's bytes stand from place first on
--     key_none, key_step                     before the first byte, after a byte
--     row_put                                after the last, with the length's byte before them
-- Assumes nothing.
use mathlib.Core.Path.{◌≡◌, refl, sym, ap, ◌∙◌}
use mathlib.Core.List.{List, [], ◌∷◌, ◌++◌}
use Prim.Native.Nat.{ℕ, ◌+◌, ◌≤◌, ◌<◌}
use native.Mathlib.Numerals.{add-one}
use native.Mathlib.Omega.{arith}
use lib.ListN.{length, get_or, take, set, length-set}
use lib.Seq.{take-suc, length-take-le, take-length}
use Rattle.buffers.specs.Put.{put}
use Rattle.buffers.specs.PutLaws.{put_nil, put_next, put_append, set_put}

pub record KeyCopied (rows₀ : List ℕ) (first : ℕ) (key rows : List ℕ) (i : ℕ) : Type 0 where
  pub within : i ≤ length key
  pub len : length rows ≡ length rows₀
  pub is : rows ≡ put rows₀ first (take i key)

pub key_none : (rows₀ : List ℕ) (first : ℕ) (key : List ℕ) → KeyCopied rows₀ first key rows₀ 0
key_none rows₀ first key = record { within = omega arith; len = refl; is = sym (put_nil rows₀ first) }

pub key_step : {rows₀ : List ℕ} {first : ℕ} {key rows : List ℕ} {i : ℕ} → first + length key ≤ length rows₀ → i < length key
    → KeyCopied rows₀ first key rows i → KeyCopied rows₀ first key (set rows (first + i) (get_or key i 0)) (i + 1)
key_step {rows₀} {first} {key} {rows} {i} room l w =
    let len = w.len in
    let x = get_or key i 0 in
    let t : length (take i key) ≡ i = length-take-le i key (omega arith) in
    let more : put rows (first + i) (x ∷ []) ≡ put rows₀ first (take i key ++ (x ∷ [])) =
    put_next rows₀ first (take i key) (x ∷ []) w.is (omega arith) (omega arith) in
    record {
      within = omega arith;
      len = length-set rows (first + i) x ∙ len;
      is = set_put rows (first + i) x (omega arith) ∙ more ∙ rw (add-one, take-suc key i 0 (omega arith));
    }

pub row_put : (rows₀ : List ℕ) (at : ℕ) (key : List ℕ) {rows : List ℕ} {i : ℕ} → at + 256 ≤ length rows₀ → length key ≤ 255 → length key ≤ i
    → KeyCopied (set rows₀ at (length key)) (at + 1) key rows i → rows ≡ put rows₀ at (length key ∷ key)
row_put rows₀ at key {rows} {i} room short past w =
    let e : i ≡ length key = omega (arith, w.within) in
    w.is
    ∙ ap (put (set rows₀ at (length key)) (at + 1)) (ap (λ (j : ℕ). take j key) e ∙ take-length key)
    ∙ ap (λ (l : List ℕ). put l (at + 1) key) (set_put rows₀ at (length key) (omega arith))
    ∙ put_append rows₀ at (length key ∷ []) key (omega arith)
