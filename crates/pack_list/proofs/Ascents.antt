-- Keys that ascend, key by key.
--     Ascended s n keys i      of the first i keys each comes before the next; the key bytes start at keys
--     Bounds                   where two keys in a row lie
-- Assumes nothing.
use mathlib.Core.Path.{◌≡◌, refl, sym, ap, ap₂, ◌∙◌, subst}
use mathlib.Core.Bool.{Bool, true, false}
use mathlib.Core.List.{List}
use Prim.Native.Nat.{ℕ, ◌+◌, ◌-◌, ◌*◌, ◌≤◌, ◌<◌}
use native.Mathlib.Decide.{ℕ_discrete}
use native.Mathlib.Omega.{arith}
use lib.ListN.{length, take, drop}
use Rattle.buffers.specs.Decide.{Decides}
use Rattle.buffers.specs.DecideLaws.{decides_true, decides_false, decides_iff}
use Rattle.format.specs.Strings.{Before, before_test}
use Rattle.format.specs.Laws.StringLaws.{decides_before}
use Rattle.packing.specs.Lists.{count_in, total_in, end_at, begin_at, key_at, IsList}
use Rattle.pack_list.specs.Judging.{EndsOk, Ascend, Sized}
use Rattle.pack_list.proofs.Ends.{begin_next, end_le}

pub record Ascended (s : List ℕ) (n keys i : ℕ) : Type 0 where
  pub low : 1 ≤ i
  pub keys_is : keys ≡ 8 + 12 * n
  pub so_far : (j : ℕ) → j + 1 < i → Before (key_at s j) (key_at s (j + 1))

pub ascended_none : (s : List ℕ) (n : ℕ) → Ascended s n (8 + 12 * n) 1
ascended_none s n = record { low = omega arith; keys_is = refl; so_far = λ j l. absurd (omega arith) }

pub record Bounds (len keys from middle to : ℕ) : Type 0 where
  pub first : from ≤ middle
  pub second : middle ≤ to
  pub inside : keys + to ≤ len

-- bytes from one place to another, counted from the same start
part_is : (s : List ℕ) (keys f m : ℕ) → take (keys + m - (keys + f)) (drop (keys + f) s) ≡ take (m - f) (drop (keys + f) s)
part_is s keys f m = let e : keys + m - (keys + f) ≡ m - f = omega arith in rw e

module _ {s : List ℕ} {n total keys i : ℕ} (sized : Sized s n total) (ends : EndsOk s n total) (w : Ascended s n keys i) (l : i < n) (from middle to : ℕ)
    (from_is : from ≡ begin_at s (i - 1)) (middle_is : middle ≡ end_at s (i - 1)) (to_is : to ≡ end_at s i) where
  middle_begins : middle ≡ begin_at s i
  middle_begins = let e : i - 1 + 1 ≡ i = omega (arith, w.low) in middle_is ∙ sym (begin_next s (i - 1)) ∙ ap (begin_at s) e

  pub bounds : Bounds (length s) keys from middle to
  bounds = record {
    first = omega (arith, ends.rise (i - 1) (omega (arith, w.low)), from_is, middle_is);
    second = omega (arith, ends.rise i l, middle_begins, to_is);
    inside = omega (arith, end_le s n total ends i l, to_is, sized.length_is, w.keys_is);
  }

  first_key : take (keys + middle - (keys + from)) (drop (keys + from) s) ≡ key_at s (i - 1)
  first_key = part_is s keys from middle ∙ (rw (w.keys_is, sized.count_is, from_is, middle_is))

  second_key : take (keys + to - (keys + middle)) (drop (keys + middle) s) ≡ key_at s i
  second_key = part_is s keys middle to ∙ (rw (w.keys_is, sized.count_is, middle_begins, to_is))

  module _ (r : Bool) (is : r ≡ before_test (take (keys + middle - (keys + from)) (drop (keys + from) s)) (take (keys + to - (keys + middle)) (drop (keys + middle) s))) where
    decided : Decides r (Before (key_at s (i - 1)) (key_at s i))
    decided =
        subst (λ (b : Bool). Decides b (Before (key_at s (i - 1)) (key_at s i))) (sym (is ∙ ap₂ before_test first_key second_key)) (decides_before (key_at s (i - 1)) (key_at s i))

    pub ascended_step : r ≡ true → Ascended s n keys (i + 1)
    ascended_step e = record {
      low = omega arith;
      keys_is = w.keys_is;
      so_far = λ j h.
          elim (ℕ_discrete (j + 1) i) [
            | yes z ↦
                let j_is : j ≡ i - 1 = omega arith in
                subst (λ (x : ℕ). Before (key_at s j) (key_at s x)) (sym z) (subst (λ (x : ℕ). Before (key_at s x) (key_at s i)) (sym j_is) (decided.yes e))
            | no z ↦ w.so_far j (omega arith)
          ];
    }

    pub ascended_not : r ≡ false → Decides false (Ascend s n)
    ascended_not e =
        let back : i - 1 + 1 ≡ i = omega (arith, w.low) in
        decides_false (λ all. decided.no e (subst (λ (x : ℕ). Before (key_at s (i - 1)) (key_at s x)) back (all (i - 1) (omega (arith, w.low)))))

pub ascended_all : {s : List ℕ} {n keys i : ℕ} → n ≤ i → Ascended s n keys i → Decides true (Ascend s n)
ascended_all h w = decides_true (λ j l. w.so_far j (omega arith))

-- ---- the whole list

module _ {s : List ℕ} (n total : ℕ) (n_is : n ≡ count_in s) (total_is : total ≡ total_in s) where
  -- a length that the numbers do not say
  pub not_sized : ¬ (length s ≡ 8 + 12 * n + total) → Decides false (IsList s)
  not_sized ne = decides_false (λ ok. ne (rw (n_is, total_is) ok.sized))

  pub not_ends : ¬ EndsOk s n total → Decides false (IsList s)
  not_ends ne = decides_false (λ ok. ne (rw (n_is, total_is) (record { rise = ok.rise; whole = ok.whole; short = ok.short })))

  pub list_decided : 8 ≤ length s → length s ≡ 8 + 12 * n + total → EndsOk s n total → (r : Bool) → Decides r (Ascend s n) → Decides r (IsList s)
  list_decided long sized ends r d =
      let ends' : EndsOk s (count_in s) (total_in s) = subst (λ (t : ℕ). EndsOk s (count_in s) t) total_is (subst (λ (m : ℕ). EndsOk s m total) n_is ends) in
      decides_iff
      (λ up. record {
        long = long;
        sized = sized ∙ ap₂ (λ (m t : ℕ). 8 + 12 * m + t) n_is total_is;
        rise = ends'.rise;
        whole = ends'.whole;
        short = ends'.short;
        ascend = subst (Ascend s) n_is up;
      })
      (λ ok. subst (Ascend s) (sym n_is) ok.ascend) d
