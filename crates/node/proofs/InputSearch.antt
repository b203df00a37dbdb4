-- The place of a byte among ascending inputs, by how many are above it.
-- Assumes nothing.
use mathlib.Core.Path.{◌≡◌, refl, sym, ◌∙◌}
use mathlib.Core.Logic.{◌⊎◌, inl, inr}
use mathlib.Core.List.{List}
use Prim.Native.Nat.{ℕ, zero, suc, ◌+◌, ◌-◌, ◌≤◌, ◌<◌}
use native.Mathlib.Nat.{le_refl, eq-or-lt_of_le}
use native.Mathlib.Omega.{arith}
use borrow.Author.Count.{below_more}
use lib.ListN.{length, get_or, take, drop, length-take, length-drop}
use lib.Seq.{get_or-take, get_or-drop}
use Rattle.format.specs.Node.{down_from, bytes_down, Ascending}
use Rattle.format.specs.Laws.StoredLaws.{length_bytes_down, get_d_bytes_down}
use Rattle.std.specs.Prelude.{Ok, Err}
use Rattle.node.specs.Read.{Finds}
use Rattle.node.specs.ReadLaws.{finds_at, finds_missing}
use Rattle.node_inputs.specs.AscentLaws.{falls_ascending, falls_by}

-- ---- a part of a file

same_down : (f g : ℕ → ℕ) (n : ℕ) → ((j : ℕ) → j < n → f j ≡ g j) → down_from f n ≡ down_from g n
unfolding down_from
same_down f g zero same = refl
same_down f g (suc n) same = rw (same n (omega arith), same_down f g n (λ j l. same j (omega arith)))

-- what stands in n bytes from place at on is what stands in the slice of them
part_down : (s : List ℕ) (at n : ℕ) → bytes_down (take n (drop at s)) 0 n ≡ bytes_down s at n
unfolding bytes_down
part_down s at n =
    same_down (λ j. get_or (take n (drop at s)) (0 + j) 0) (λ j. get_or s (at + j) 0) n
    (λ j l. let z : 0 + j ≡ j = omega arith in rw z (get_or-take n (drop at s) j 0 l ∙ get_or-drop at s j 0))

pub slice_down : (s : List ℕ) (at n : ℕ) → at + n ≤ length s
    → bytes_down (take (at + n - at) (drop at s)) 0 (length (take (at + n - at) (drop at s))) ≡ bytes_down s at n
slice_down s at n h =
    let w : at + n - at ≡ n = omega arith in
    let len : length (take n (drop at s)) ≡ n = simp (length-take, length-drop) (omega arith) in
    rw (w, len) (part_down s at n)

-- ---- the inputs above a byte

-- of the first j bytes from at on, `over` are above b, and they stand first
pub record Over (s : List ℕ) (at n b over j : ℕ) : Type 0 where
  pub within : j ≤ n
  pub few : over ≤ j
  pub above : (k : ℕ) → k < over → b < get_or s (at + k) 0
  pub rest : (k : ℕ) → over ≤ k → k < j → get_or s (at + k) 0 ≤ b

pub over_none : (s : List ℕ) (at n b : ℕ) → Over s at n b 0 0
over_none s at n b = record { within = omega arith; few = omega arith; above = λ k l. absurd (omega arith); rest = λ k h m. absurd (omega arith) }

module _ {s : List ℕ} {at n b over j : ℕ} (asc : Ascending (bytes_down s at n)) (l : j < n) (o : Over s at n b over j) where
  -- a byte above b follows none that is not
  over_all : b < get_or s (at + j) 0 → over ≡ j
  over_all up = go (eq-or-lt_of_le o.few)
    where
      go : (over ≡ j) ⊎ (over < j) → over ≡ j
      go (inl e) = e
      go (inr m) =
          let e : over + (j - over) ≡ j = omega arith in
          let low = o.rest over (le_refl over) m in
          let by = falls_by over (j - over) (omega arith) (falls_ascending s at n asc) in
          absurd (omega (arith, rw e at by))

  pub over_more : b < get_or s (at + j) 0 → Over s at n b (over + 1) (j + 1)
  over_more up =
      let e = over_all up in
      record {
        within = omega arith;
        few = omega arith;
        above = below_more (λ k. b < get_or s (at + k) 0) over o.above (rw e up);
        rest = λ k h m. absurd (omega arith);
      }

  pub over_same : get_or s (at + j) 0 ≤ b → Over s at n b over (j + 1)
  over_same low =
      record {
        within = omega arith;
        few = omega (arith, o.few);
        above = o.above;
        rest = λ k h m. below_more (λ i. over ≤ i → get_or s (at + i) 0 ≤ b) j (λ i q g. o.rest i g q) (λ _. low) k m h;
      }

  -- the first byte is above b by more than the count
  pub over_fits : ((i : ℕ) → get_or s i 0 < 256) → b < get_or s (at + j) 0 → over + 1 < 256
  over_fits bytes up =
      let e = over_all up in
      let z : 0 + j ≡ j = omega arith in
      let by = falls_by 0 j (omega arith) (falls_ascending s at n asc) in
      omega (arith, rw z at by, bytes (at + 0))

pub found_at : (s : List ℕ) (at n b i : ℕ) → i < n → get_or s (at + (n - 1 - i)) 0 ≡ b → Finds (bytes_down s at n) b (Ok i)
found_at s at n b i l e = finds_at i (omega (arith, length_bytes_down s at n)) (get_d_bytes_down s at n i l ∙ e)

-- the first byte that is not above b is b itself
pub over_found : (s : List ℕ) (at n b p : ℕ) → p < n → get_or s (at + p) 0 ≡ b → Finds (bytes_down s at n) b (Ok (n - 1 - p))
over_found s at n b p l e =
    let back : n - 1 - (n - 1 - p) ≡ p = omega arith in
    found_at s at n b (n - 1 - p) (omega arith) (rw back e)

-- b is none of the inputs: those that are not above it are below it
pub over_missing : {s : List ℕ} {at n b over j : ℕ} (p : ℕ) → p ≡ over → Ascending (bytes_down s at n) → n ≤ j → Over s at n b over j
    → (p < n → ¬ (get_or s (at + p) 0 ≡ b)) → Finds (bytes_down s at n) b (Err (n - p))
over_missing {s} {at} {n} {b} {over} {j} p is_p asc past o ne =
    finds_missing (n - p) (record {
      within = omega (arith, length_bytes_down s at n);
      below = λ i l. rw (get_d_bytes_down s at n i (omega arith)) (low (n - 1 - i) (omega arith) (omega arith));
      above = λ i l h.
          let m : i < n = omega (arith, length_bytes_down s at n) in
          rw (get_d_bytes_down s at n i m) (o.above (n - 1 - i) (omega (arith, o.few)));
    })
  where
    low : (k : ℕ) → p ≤ k → k < n → get_or s (at + k) 0 < b
    low k h l = go (eq-or-lt_of_le h)
      where
        at_p : p < n → get_or s (at + p) 0 < b
        at_p m = omega (arith, o.rest p (omega arith) (omega arith), ne m)

        go : (p ≡ k) ⊎ (p < k) → get_or s (at + k) 0 < b
        go (inl e) = rw (← e) (at_p (omega arith))
        go (inr m) =
            let f : p + (k - p) ≡ k = omega arith in
            let by = falls_by p (k - p) (omega arith) (falls_ascending s at n asc) in
            omega (arith, rw f at by, at_p (omega arith))

-- the entry of b, as the code reads it
pub entry_is_lem : (s : List ℕ) (index b e : ℕ) → b < 256 → e ≡ get_or s (index + b) 0 → e ≡ get_or (take 256 (drop index s)) b 0
entry_is_lem s index b e byte is = is ∙ sym (get_or-take 256 (drop index s) b 0 byte ∙ get_or-drop index s b 0)
