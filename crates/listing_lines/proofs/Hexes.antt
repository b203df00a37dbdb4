-- Bytes written in hexadecimal: what a turn of the loop knows.
-- Assumes nothing.
use mathlib.Core.Path.{◌≡◌, refl, sym, ◌∙◌}
use mathlib.Core.List.{List, [], ◌∷◌, ◌++◌}
use Prim.Native.Nat.{ℕ, ◌+◌, ◌*◌, ◌/◌, ◌%◌, ◌≤◌, ◌<◌}
use native.Mathlib.Omega.{arith}
use lib.ListN.{length, get_or, take, set, length-set}
use lib.Seq.{length-take-le}
use Rattle.buffers.specs.Put.{put, PutAt}
use Rattle.buffers.specs.PutLaws.{put_nil, put_next}
use Rattle.listing_lines.specs.Lines.{hex_digit, hex_of}
use Rattle.listing_lines.specs.LinesLaws.{length_hex_of, hex_of_take}
use Rattle.listing_lines.proofs.LineParts.{put_two_bytes}

-- the first i bytes are written
pub record HexTo (out₀ : List ℕ) (at : ℕ) (key : List ℕ) (n : ℕ) (out : List ℕ) (i : ℕ) : Type 0 where
  pub within : i ≤ n
  pub len : length out ≡ length out₀
  pub is : out ≡ put out₀ at (hex_of (take i key))

pub hex_none : (out₀ : List ℕ) (at : ℕ) (key : List ℕ) (n : ℕ) → HexTo out₀ at key n out₀ 0
unfolding hex_of
hex_none out₀ at key n = record { within = omega arith; len = refl; is = sym (put_nil out₀ at) }

-- there is room for two more
pub hex_room : {out₀ : List ℕ} {at : ℕ} {key : List ℕ} {n : ℕ} {out : List ℕ} {i : ℕ} → at + 2 * n ≤ length out₀ → i < n
    → HexTo out₀ at key n out i → at + 2 * i + 2 ≤ length out
hex_room room l w = omega (arith, w.len)

-- a byte's two digits, as the callee answers them
pub hex_step : {out₀ : List ℕ} {at : ℕ} {key : List ℕ} {n : ℕ} {out : List ℕ} {i : ℕ} (high low : ℕ) → n ≤ length key
    → at + 2 * n ≤ length out₀ → i < n → high ≡ hex_digit (get_or key i 0 / 16) → low ≡ hex_digit (get_or key i 0 % 16)
    → HexTo out₀ at key n out i → HexTo out₀ at key n (set (set out (at + 2 * i) high) (at + 2 * i + 1) low) (i + 1)
hex_step {out₀} {at} {key} {n} {out} {i} high low all room l is_high is_low w =
    let p : ℕ = at + 2 * i in
    let len = w.len in
    let fits = hex_room room l w in
    let t : length (hex_of (take i key)) ≡ 2 * i = omega (arith, length_hex_of (take i key), length-take-le i key (omega arith)) in
    let more : put out p (high ∷ low ∷ []) ≡ put out₀ at (hex_of (take i key) ++ (high ∷ low ∷ [])) =
    put_next out₀ at (hex_of (take i key)) (high ∷ low ∷ []) w.is (omega arith) (omega arith) in
    record {
      within = omega arith;
      len = length-set (set out p high) (p + 1) low ∙ length-set out p high ∙ len;
      is = put_two_bytes out p high low fits ∙ more ∙ rw (hex_of_take key i (omega arith), is_high, is_low);
    }

pub hex_all : {out₀ : List ℕ} {at : ℕ} {key : List ℕ} {n : ℕ} {out : List ℕ} {i : ℕ} → n ≤ length key → n ≤ i
    → HexTo out₀ at key n out i → PutAt out₀ at (hex_of (take n key)) out (at + 2 * n)
hex_all {out₀} {at} {key} {n} {out} {i} all past w =
    let e : i ≡ n = omega (arith, w.within) in
    record { is = w.is ∙ rw e; next = omega (arith, length_hex_of (take n key), length-take-le n key all) }
