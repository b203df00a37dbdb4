-- Inputs stored last first ascend where the stored bytes fall, pair by pair. Pairs may be tested in groups that overlap.
-- Assumes nothing.
use Rattle.std.specs.Prelude.{◌≡◌, refl, Bool, true, false, ◌&&◌, ◌⊎◌, List, ℕ, zero, suc, ◌+◌, ◌-◌, ◌≤◌, ◌<◌, ltb, get_or}
use Rattle.std.proofs.Common.{◌∙◌, inl, inr, arith, below_more, ltb-true, ltb-false}
use Rattle.buffers.specs.Decide.{Decides}
use Rattle.buffers.specs.DecideLaws.{decides_iff, decides_and}
use Rattle.format.specs.Node.{Ascending, bytes_down}
use Rattle.format.specs.Laws.StoredLaws.{length_bytes_down, get_d_bytes_down}
use Rattle.node_inputs.specs.Inputs.{Falls}

-- ---- one pair more

pub falls_none : (s : List ℕ) (at : ℕ) → Falls s at 0
falls_none s at = record { down = λ k l. absurd (omega arith) }

pub falls_more : {s : List ℕ} {at j : ℕ} → Falls s at j → get_or s (at + j + 1) 0 < get_or s (at + j) 0 → Falls s at (j + 1)
falls_more {s} {at} {j} f last = record { down = below_more _ j f.down last }

-- fewer pairs
pub falls_less : {s : List ℕ} {at n : ℕ} (j : ℕ) → j ≤ n → Falls s at n → Falls s at j
falls_less j h f = record { down = λ k l. f.down k (omega arith) }

-- ---- groups of pairs

-- a group within the pairs
pub falls_part : {s : List ℕ} {at n : ℕ} (p k : ℕ) → at ≤ p → p + k ≤ at + n → Falls s at n → Falls s p k
falls_part {s} {at} {n} p k low high f =
    record { down = λ j l. let e : at + (p - at + j) ≡ p + j = omega arith in rw e at (f.down (p - at + j) (omega arith)) }

pub lt_or : (a b : ℕ) → (a < b) ⊎ (b ≤ a)
lt_or a b = go (ltb a b) refl
  where
    go : (t : Bool) → ltb a b ≡ t → (a < b) ⊎ (b ≤ a)
    go true e = inl (ltb-true a b e)
    go false e = inr (ltb-false a b e)

-- a group that starts no later than the first pairs end
pub falls_join : {s : List ℕ} {at p : ℕ} (n j k : ℕ) → at ≤ p → p ≤ at + j → p + k ≡ at + n → Falls s at j → Falls s p k → Falls s at n
falls_join {s} {at} {p} n j k low meet same f g = record { down = λ i l. go i l (lt_or i j) }
  where
    go : (i : ℕ) → i < n → (i < j) ⊎ (j ≤ i) → get_or s (at + i + 1) 0 < get_or s (at + i) 0
    go i l (inl before) = f.down i before
    go i l (inr past) = let e : p + (at + i - p) ≡ at + i = omega arith in rw e at (g.down (at + i - p) (omega arith))

-- two groups of k pairs, the last of which ends with the pairs
pub decides_two : {s : List ℕ} {at p : ℕ} {a b : Bool} (r : Bool) (n k : ℕ) → p + k ≡ at + n → k ≤ n → n ≤ k + k → r ≡ (a && b)
    → Decides a (Falls s at k) → Decides b (Falls s p k) → Decides r (Falls s at n)
decides_two {s} {at} {p} {a} {b} r n k same low high is_r d e =
    rw is_r
    (decides_iff (λ fg. falls_join n k k (omega arith) (omega arith) same fg.0 fg.1)
    (λ f. (falls_less k low f, falls_part p k (omega arith) (omega arith) f)) (decides_and a b d e))

-- a loop over groups of k pairs, with the last group tested first
abbrev pub Grouped : List ℕ → ℕ → ℕ → ℕ → ℕ → Type 0
Grouped s at p k j = Falls s p k × Falls s at j

pub grouped_none : {s : List ℕ} {at p k : ℕ} {a : Bool} → Decides a (Falls s p k) → Decides a (Grouped s at p k 0)
grouped_none {s} {at} d = decides_iff (λ f. (f, falls_none s at)) (λ g. g.0) d

pub grouped_more : {s : List ℕ} {at p k j : ℕ} {a b : Bool} (r : Bool) → r ≡ (a && b) → Decides a (Grouped s at p k j) → Decides b (Falls s (at + j) k)
    → Decides r (Grouped s at p k (j + k))
grouped_more {s} {at} {p} {k} {j} {a} {b} r is_r d e =
    rw is_r
    (decides_iff (λ h. (h.0.0, falls_join (j + k) j k (omega arith) (omega arith) (omega arith) h.0.1 h.1))
    (λ g. ((g.0, falls_less j (omega arith) g.1), falls_part (at + j) k (omega arith) (omega arith) g.1)) (decides_and a b d e))

pub grouped_all : {s : List ℕ} {at p k j : ℕ} {a : Bool} (n : ℕ) → p + k ≡ at + n → k ≤ n → j ≤ n → n ≤ j + k → Decides a (Grouped s at p k j)
    → Decides a (Falls s at n)
grouped_all {s} {at} {p} {k} {j} n same low within past d =
    decides_iff (λ g. falls_join n j k (omega arith) (omega arith) same g.1 g.0)
    (λ f. (falls_part p k (omega arith) (omega arith) f, falls_less j within f)) d

-- ---- the inputs

-- two neighbours of the inputs, as the bytes have them
pub neighbours : (s : List ℕ) (at n k : ℕ) → k + 1 < n
    → (get_or (bytes_down s at n) (n - 2 - k) 0 ≡ get_or s (at + k + 1) 0) × (get_or (bytes_down s at n) (n - 2 - k + 1) 0 ≡ get_or s (at + k) 0)
neighbours s at n k l =
    let e : at + (n - 1 - (n - 2 - k)) ≡ at + k + 1 = omega arith in
    let f : at + (n - 1 - (n - 2 - k + 1)) ≡ at + k = omega arith in
    (get_d_bytes_down s at n (n - 2 - k) (omega arith) ∙ rw e, get_d_bytes_down s at n (n - 2 - k + 1) (omega arith) ∙ rw f)

pub ascending_falls : {s : List ℕ} {at : ℕ} (n : ℕ) → Falls s at (n - 1) → Ascending (bytes_down s at n)
unfolding Ascending
ascending_falls {s} {at} n f i l =
    let len = length_bytes_down s at n in
    let m : n - 2 - (n - 2 - i) ≡ i = omega arith in
    let two = neighbours s at n (n - 2 - i) (omega arith) in
    let below = f.down (n - 2 - i) (omega arith) in
    rw m at (rw (← two.0, ← two.1) at below)

pub ascending_few : (s : List ℕ) (at n : ℕ) → n < 2 → Ascending (bytes_down s at n)
ascending_few s at n few = ascending_falls n (falls_less (n - 1) (omega arith) (falls_none s at))

pub falls_ascending : (s : List ℕ) (at n : ℕ) → Ascending (bytes_down s at n) → Falls s at (n - 1)
unfolding Ascending
falls_ascending s at n asc = record { down = λ k l. down k l }
  where
    down : (k : ℕ) → k < n - 1 → get_or s (at + k + 1) 0 < get_or s (at + k) 0
    down k l =
        let len = length_bytes_down s at n in
        let two = neighbours s at n k (omega arith) in
        rw (two.0, two.1) at (asc (n - 2 - k) (omega arith))

pub decides_ascending : {s : List ℕ} {at : ℕ} {r : Bool} (n : ℕ) → Decides r (Falls s at (n - 1)) → Decides r (Ascending (bytes_down s at n))
decides_ascending {s} {at} n d = decides_iff (λ f. ascending_falls n f) (λ asc. falls_ascending s at n asc) d

-- a byte falls by 1 at least with each place
pub falls_by : {s : List ℕ} {at n : ℕ} (j k : ℕ) → j + k ≤ n → Falls s at n → get_or s (at + (j + k)) 0 + k ≤ get_or s (at + j) 0
falls_by {s} {at} {n} j zero h f = let e : at + (j + 0) ≡ at + j = omega arith in rw e (omega arith)
falls_by {s} {at} {n} j (suc k) h f =
    let ih = falls_by {s = s} {at = at} {n = n} j k (omega arith) f in
    let e : at + (j + k) + 1 ≡ at + (j + suc k) = omega arith in
    let last = f.down (j + k) (omega arith) in
    let last2 : get_or s (at + (j + suc k)) 0 < get_or s (at + (j + k)) 0 = rw e at last in
    omega arith
