-- Ends that rise, key by key.
--     Rose s n last i      the first i of the n keys end in order and are not too long; last is where the next begins
--     begin_next           the next key begins where this one ends
--     begin_le             no key begins past the total
-- Assumes nothing.
use mathlib.Core.Path.{◌≡◌, refl, sym, ap, ◌∙◌}
use mathlib.Core.Bool.{false}
use mathlib.Core.List.{List}
use Prim.Native.Nat.{ℕ, zero, suc, ◌+◌, ◌-◌, ◌≤◌, ◌<◌}
use native.Mathlib.Decide.{ℕ_discrete}
use native.Mathlib.Omega.{arith}
use borrow.Author.Tests.{ne_eqb}
use lib.Dec.{eqb}
use Rattle.buffers.specs.Decide.{Decides}
use Rattle.buffers.specs.DecideLaws.{decides_false, decides_eq, decides_iff}
use Rattle.format.specs.Limits.{max_path}
use Rattle.packing.specs.Lists.{end_at, begin_at}
use Rattle.pack_list.specs.Judging.{EndsOk}

pub begin_next : (s : List ℕ) (i : ℕ) → begin_at s (i + 1) ≡ end_at s i
begin_next s i = let e : i + 1 - 1 ≡ i = omega arith in rw (ne_eqb (i + 1) 0 (λ z. omega arith), e)

pub record Rose (s : List ℕ) (n last i : ℕ) : Type 0 where
  pub within : i ≤ n
  pub last_is : last ≡ begin_at s i
  pub rise : (j : ℕ) → j < i → begin_at s j ≤ end_at s j
  pub short : (j : ℕ) → j < i → end_at s j - begin_at s j ≤ max_path

pub rose_none : (s : List ℕ) (n : ℕ) → Rose s n 0 0
rose_none s n = record { within = omega arith; last_is = refl; rise = λ j l. absurd (omega arith); short = λ j l. absurd (omega arith) }

module _ {s : List ℕ} {n last i : ℕ} (w : Rose s n last i) (total end : ℕ) (l : i < n) (is : end ≡ end_at s i) where
  pub rose_falls : end < last → Decides false (EndsOk s n total)
  rose_falls h = decides_false (λ ok. omega (arith, ok.rise i l, w.last_is, is))

  pub rose_long : max_path < end - last → Decides false (EndsOk s n total)
  rose_long h =
      let e : end - last ≡ end_at s i - begin_at s i = rw (is, w.last_is) in
      decides_false (λ ok. omega (arith, ok.short i l, e))

  pub rose_step : last ≤ end → end - last ≤ max_path → Rose s n end (i + 1)
  rose_step h k =
      let e : end - last ≡ end_at s i - begin_at s i = rw (is, w.last_is) in
      record {
        within = omega arith;
        last_is = is ∙ sym (begin_next s i);
        rise = λ j m. elim (ℕ_discrete j i) [ yes z ↦ rw z (omega (arith, w.last_is, is)) | no z ↦ w.rise j (omega arith) ];
        short = λ j m. elim (ℕ_discrete j i) [ yes z ↦ rw z (omega (arith, e)) | no z ↦ w.short j (omega arith) ];
      }

pub rose_all : {s : List ℕ} {n last i : ℕ} (total : ℕ) → n ≤ i → Rose s n last i → Decides (eqb last total) (EndsOk s n total)
rose_all {s} {n} {last} {i} total h w =
    let all : i ≡ n = omega (arith, w.within) in
    let at : begin_at s i ≡ begin_at s n = ap (begin_at s) all in
    decides_iff
    (λ e. record { rise = λ j l. w.rise j (omega arith); whole = sym at ∙ sym w.last_is ∙ e; short = λ j l. w.short j (omega arith) })
    (λ ok. w.last_is ∙ at ∙ ok.whole) (decides_eq last total)

-- ---- no key begins past the total

pub begin_le : (s : List ℕ) (n total : ℕ) → EndsOk s n total → (d i : ℕ) → i + d ≡ n → begin_at s i ≤ total
begin_le s n total ok zero i e = let is : i ≡ n = omega arith in rw is (omega (arith, ok.whole))
begin_le s n total ok (suc d) i e =
    let up = begin_le s n total ok d (i + 1) (omega arith) in
    omega (arith, up, begin_next s i, ok.rise i (omega arith))

pub end_le : (s : List ℕ) (n total : ℕ) → EndsOk s n total → (i : ℕ) → i < n → end_at s i ≤ total
end_le s n total ok i l = omega (arith, begin_next s i, begin_le s n total ok (n - (i + 1)) (i + 1) (omega arith))
