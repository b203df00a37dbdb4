-- Laws of `Lists`: the test decides what a list is, and a list's pairs are as packing asks.
--     decides_list         the test decides
--     length_pairs         as many pairs as the list says
--     list_listed          keys ascend, of bytes, not too long, values of 64 bits
-- Assumes nothing.
use Prim.{Unit, tt}
use Rattle.std.specs.Prelude.{◌≡◌, refl, ◌⊎◌, leb, get_or, take, drop}
use Rattle.std.proofs.Common.{sym, ap, inl, inr, lt_of_lt_of_le, arith, get_or-take, get_or-drop}
use Rattle.std.proofs.Math.Path.{subst}
use mathlib.Core.List.Memᴰ
use mathlib.Core.List.{List, [], ◌∷◌, map, Memᴰ}
use Prim.Native.Nat.{ℕ, zero, suc, ◌+◌, ◌-◌, ◌*◌, ◌^◌, ◌≤◌, ◌<◌}
use Rattle.std.proofs.Math.ListN.{length, length-take}
use Rattle.buffers.specs.Decide.{Decides}
use Rattle.buffers.specs.DecideLaws.{decides_le, decides_eq, decides_iff, decides_and, decides_below}
use Rattle.format.specs.Limits.{max_path}
use Rattle.format.specs.Laws.BytesLaws.{pow_256_le, le_lt}
use Rattle.format.specs.Opening.{number_at}
use Rattle.format.specs.Strings.{Before, AllAfter, Rising, before_test}
use Rattle.format.specs.Laws.StringLaws.{before_trans, decides_before}
use Rattle.packing.specs.Lists.{Pair, count_in, total_in, end_at, begin_at, key_at, value_at, IsList, list_test, pair_at, pairs_from, pairs_of}
use Rattle.packing.specs.Promise.{Bytes, PairOk, Listed}

pub decides_list : (s : List ℕ) → Decides (list_test s) (IsList s)
unfolding list_test
decides_list s =
    decides_iff
    (λ q. record { long = q.0; sized = q.1.0; rise = q.1.1.0; whole = q.1.1.1.0; short = q.1.1.1.1.0; ascend = q.1.1.1.1.1 })
    (λ q. (q.long, (q.sized, (q.rise, (q.whole, (q.short, q.ascend))))))
    (decides_and _ _ (decides_le 8 (length s))
    (decides_and _ _ (decides_eq (length s) (8 + 12 * count_in s + total_in s))
    (decides_and _ _ (decides_below (λ i. leb (begin_at s i) (end_at s i)) (λ i. begin_at s i ≤ end_at s i) (λ i. decides_le (begin_at s i) (end_at s i)) (count_in s))
    (decides_and _ _ (decides_eq (begin_at s (count_in s)) (total_in s))
    (decides_and _ _ (decides_below (λ i. leb (end_at s i - begin_at s i) max_path) (λ i. end_at s i - begin_at s i ≤ max_path) (λ i. decides_le (end_at s i - begin_at s i) max_path) (count_in s))
    (decides_below (λ i. before_test (key_at s i) (key_at s (i + 1))) (λ i. Before (key_at s i) (key_at s (i + 1))) (λ i. decides_before (key_at s i) (key_at s (i + 1))) (count_in s - 1)))))))

-- ---- the pairs of a list

pub length_pairs_from : (s : List ℕ) (i n : ℕ) → length (pairs_from s i n) ≡ n
unfolding pairs_from
length_pairs_from s i zero = refl
length_pairs_from s i (suc n) = ap suc (length_pairs_from s (i + 1) n)

pub length_pairs : (s : List ℕ) → length (pairs_of s) ≡ count_in s
unfolding pairs_of
length_pairs s = length_pairs_from s 0 (count_in s)

pub record PlaceOf (s : List ℕ) (i n : ℕ) (p : Pair) : Type 0 where
  pub place : ℕ
  pub low : i ≤ place
  pub high : place < i + n
  pub is : p ≡ pair_at s place

pub place_of : (s : List ℕ) (i n : ℕ) (p : Pair) → Memᴰ p (pairs_from s i n) → PlaceOf s i n p
unfolding pairs_from
place_of s i zero p mem = absurd (Memᴰ.not-nil mem)
place_of s i (suc n) p mem = by (Memᴰ.cases_cons mem) (λ m. place_of s (i + 1) n p m)
  where
    by : (p ≡ pair_at s i) ⊎ Memᴰ p (pairs_from s (i + 1) n) → (Memᴰ p (pairs_from s (i + 1) n) → PlaceOf s (i + 1) n p) → PlaceOf s i (suc n) p
    by (inl z) rec = record { place = i; low = omega arith; high = omega arith; is = z }
    by (inr m) rec = let r = rec m in record { place = r.place; low = omega (arith, r.low); high = omega (arith, r.high); is = r.is }

-- each key before the next
abbrev Steps : List ℕ → ℕ → ℕ → Type 0
Steps s i n = (j : ℕ) → i ≤ j → j + 1 < i + n → Before (key_at s j) (key_at s (j + 1))

abbrev keys_of : List Pair → List (List ℕ)
keys_of ps = map (λ (p : Pair). p.key) ps

after_all_lem : (s k : List ℕ) (i n : ℕ) → Before k (key_at s i) → Steps s i n → AllAfter k (keys_of (pairs_from s i n))
unfolding pairs_from
after_all_lem s k i zero h steps = tt
after_all_lem s k i (suc zero) h steps = (h, tt)
after_all_lem s k i (suc (suc n)) h steps =
    (h, after_all_lem s k (i + 1) (suc n) (before_trans h (steps i (omega arith) (omega arith))) (λ j low high. steps j (omega arith) (omega arith)))

rising_from : (s : List ℕ) (i n : ℕ) → Steps s i n → Rising (keys_of (pairs_from s i n))
unfolding pairs_from
rising_from s i zero steps = tt
rising_from s i (suc zero) steps = (tt, tt)
rising_from s i (suc (suc n)) steps = (
  after_all_lem s (key_at s i) (i + 1) (suc n) (steps i (omega arith) (omega arith)) (λ j low high. steps j (omega arith) (omega arith)),
  rising_from s (i + 1) (suc n) (λ j low high. steps j (omega arith) (omega arith)),
)

bytes_of_list : (l : List ℕ) → ((i : ℕ) → i < length l → get_or l i 0 < 256) → Bytes l
bytes_of_list [] low = tt
bytes_of_list (b ∷ l) low = (low 0 (omega arith), bytes_of_list l (λ i h. low (suc i) (omega arith)))

module _ (s : List ℕ) (bytes : (i : ℕ) → get_or s i 0 < 256) where
  part_lt : (at n i : ℕ) → i < length (take n (drop at s)) → get_or (take n (drop at s)) i 0 < 256
  part_lt at n i l =
      let within : length (take n (drop at s)) ≤ n = rw length-take (omega arith) in
      rw (get_or-take n (drop at s) i 0 (omega arith), get_or-drop at s i 0) (bytes (at + i))

  number_lt : (at k : ℕ) → number_at s at k < 256 ^ k
  number_lt at k =
      let within : length (take k (drop at s)) ≤ k = rw length-take (omega arith) in
      lt_of_lt_of_le (le_lt (take k (drop at s)) (part_lt at k)) (pow_256_le within)

  pub count_lt : length (pairs_of s) < 256 ^ 8
  count_lt = omega (arith, length_pairs s, number_lt 0 4)

  -- what a list's pairs are
  pub list_listed : IsList s → Listed (pairs_of s)
  unfolding pairs_of
  list_listed ok = record {
    rising = rising_from s 0 (count_in s) (λ j low high. ok.ascend j (omega arith));
    pairs = λ p mem.
        let w = place_of s 0 (count_in s) p mem in
        let i : ℕ = w.place in
        subst (PairOk max_path) (sym w.is) (record {
          bytes = bytes_of_list (key_at s i) (part_lt (8 + 12 * count_in s + begin_at s i) (end_at s i - begin_at s i));
          short = key_short i (ok.short i (omega (arith, w.high)));
          fits = omega (arith, number_lt (8 + 4 * count_in s + 8 * i) 8);
        });
  }
    where
      key_short : (i : ℕ) → end_at s i - begin_at s i ≤ max_path → length (key_at s i) ≤ max_path
      key_short i h = rw length-take (omega arith)
