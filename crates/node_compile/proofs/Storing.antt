-- Numbers written last first: what a turn of the loop knows.
-- Assumes nothing.
use mathlib.Core.Path.{◌≡◌, refl, sym, ap, ◌∙◌}
use mathlib.Core.List.{List, ◌++◌}
use Prim.Native.Nat.{ℕ, suc, ◌+◌, ◌-◌, ◌*◌, ◌≤◌, ◌<◌}
use native.Mathlib.Nat.{suc-mul}
use native.Mathlib.Omega.{arith}
use lib.ListN.{length, get_or, drop, length-append}
use Rattle.format.specs.Bytes.{bytes_of}
use Rattle.format.specs.Laws.BytesLaws.{length_bytes_of}
use Rattle.buffers.specs.Put.{put, PutAt}
use Rattle.buffers.specs.PutLaws.{put_nil, put_next, length_put}
use Rattle.format.specs.Packed.{stored_numbers}
use Rattle.format.specs.Laws.PackedLaws.{length_stored_numbers, stored_numbers_drop, stored_numbers_none}

-- the numbers from i on are written, up to place p
pub record NumbersFrom (out₀ : List ℕ) (at : ℕ) (numbers : List ℕ) (size : ℕ) (out : List ℕ) (p i : ℕ) : Type 0 where
  pub within : i ≤ length numbers
  pub place : p + i * size ≡ at + length numbers * size
  pub len : length out ≡ length out₀
  pub is : out ≡ put out₀ at (stored_numbers size (drop i numbers))
  pub past : p ≡ at + length (stored_numbers size (drop i numbers))

pub numbers_none : (out₀ : List ℕ) (at : ℕ) (numbers : List ℕ) (size n : ℕ) → n ≡ length numbers → NumbersFrom out₀ at numbers size out₀ at n
numbers_none out₀ at numbers size n all = record {
  within = omega arith;
  place = rw all;
  len = refl;
  is = sym (rw (all, stored_numbers_none) (put_nil out₀ at));
  past = rw (all, stored_numbers_none) (omega arith);
}

-- one number fewer is left
one_less : (i size : ℕ) → 0 < i → i * size ≡ (i - 1) * size + size
one_less i size pos = let e : suc (i - 1) ≡ i = omega arith in ap (λ (x : ℕ). x * size) (sym e) ∙ suc-mul (i - 1) size

pub numbers_room : {out₀ : List ℕ} {at : ℕ} {numbers : List ℕ} {size : ℕ} {out : List ℕ} {p i : ℕ}
    → at + length (stored_numbers size numbers) ≤ length out₀ → 0 < i → NumbersFrom out₀ at numbers size out p i → p + size ≤ length out
numbers_room {out₀} {at} {numbers} {size} {out} {p} {i} room pos w =
    omega (arith, length_stored_numbers size numbers, one_less i size pos, w.place, w.len)

pub numbers_step : {out₀ : List ℕ} {at : ℕ} {numbers : List ℕ} {size : ℕ} {out : List ℕ} {p i : ℕ} (out' : List ℕ) (n : ℕ)
    → at + length (stored_numbers size numbers) ≤ length out₀ → 0 < i → n ≡ get_or numbers (i - 1) 0 → out' ≡ put out p (bytes_of size n)
    → NumbersFrom out₀ at numbers size out p i → NumbersFrom out₀ at numbers size out' (p + size) (i - 1)
numbers_step {out₀} {at} {numbers} {size} {out} {p} {i} out' n room pos is_n one w =
    let within = w.within in
    let past = w.past in
    let fits = numbers_room room pos w in
    let k : length (bytes_of size n) ≡ size = length_bytes_of size n in
    let more : put out p (bytes_of size n) ≡ put out₀ at (stored_numbers size (drop i numbers) ++ bytes_of size n) =
    put_next out₀ at (stored_numbers size (drop i numbers)) (bytes_of size n) w.is past (omega (arith, w.len)) in
    let next : stored_numbers size (drop (i - 1) numbers) ≡ stored_numbers size (drop i numbers) ++ bytes_of size n =
    stored_numbers_drop size numbers i pos within ∙ rw is_n in
    record {
      within = omega arith;
      place = omega (arith, one_less i size pos, w.place);
      len = ap length one ∙ length_put out p (bytes_of size n) (omega arith) ∙ w.len;
      is = one ∙ more ∙ rw next;
      past = rw next (simp length-append (omega arith));
    }

pub numbers_all : {out₀ : List ℕ} {at : ℕ} {numbers : List ℕ} {size : ℕ} {out : List ℕ} {p i : ℕ} → i ≤ 0
    → NumbersFrom out₀ at numbers size out p i → PutAt out₀ at (stored_numbers size numbers) out p
numbers_all {out₀} {at} {numbers} {size} {out} {p} {i} none w =
    let z : i ≡ 0 = omega arith in
    record { is = w.is ∙ rw z; next = w.past ∙ rw z }
