-- The index is right where each input's entry is its place and exactly as many entries as there are inputs are below their count.
-- Assumes nothing.
use mathlib.Core.Path.{◌≡◌, refl, sym, ◌∙◌}
use mathlib.Core.Bool.{Bool, true, false}
use mathlib.Core.Logic.{◌⊎◌, inl, inr, ⊎_elim}
use mathlib.Core.List.{List, [], ◌∷◌, ◌++◌}
use Prim.Native.Nat.{ℕ, zero, suc, ◌+◌, ◌-◌, ◌≤◌, ◌<◌}
use native.Mathlib.Nat.{le_refl, eq-or-lt_of_le, le_of_suc-le-suc}
use native.Mathlib.Omega.{arith}
use borrow.Author.Tests.{lt-ltb, le-ltb, ltb-true, ltb-false, eqb-true, eqb-false}
use lib.Dec.{ltb, eqb}
use lib.ListN.{length, get_or, take, drop, set, length-set, length-drop}
use Rattle.std.proofs.lemmas.List.{take_more}
use lib.Seq.{get_or-set_same, get_or-set_other, get_or-take, get_or-drop, drop-drop, take-add, length-take-le}
use Rattle.buffers.specs.Decide.{Decides}
use Rattle.buffers.specs.DecideLaws.{decides_eq, decides_iff}
use Rattle.format.specs.Node.{bytes_down, Absent, Indexed}
use Rattle.format.specs.Laws.StoredLaws.{length_bytes_down, get_d_bytes_down}
use Rattle.node_inputs.specs.Inputs.{Probed, below}

-- the 256 entries from place at on
abbrev pub entries_of : List ℕ → ℕ → List ℕ
entries_of s at = take 256 (drop at s)

eq_or_ne : (a b : ℕ) → (a ≡ b) ⊎ (¬ (a ≡ b))
eq_or_ne a b = go (eqb a b) refl
  where
    go : (t : Bool) → eqb a b ≡ t → (a ≡ b) ⊎ (¬ (a ≡ b))
    go true e = inl (eqb-true a b e)
    go false e = inr (eqb-false a b e)

-- ---- counting

pub below_lt : {n e : ℕ} (es : List ℕ) → e < n → below n (e ∷ es) ≡ 1 + below n es
unfolding below
below_lt {n} {e} es h = rw (lt-ltb e n h)

pub below_ge : {n e : ℕ} (es : List ℕ) → n ≤ e → below n (e ∷ es) ≡ below n es
unfolding below
below_ge {n} {e} es h = rw (le-ltb e n h) (omega arith)

-- an entry below n that is raised to n is one less
below_raise : (n : ℕ) (es : List ℕ) (b : ℕ) → b < length es → get_or es b 0 < n → below n es ≡ suc (below n (set es b n))
below_raise n [] b l h = absurd (omega arith)
below_raise n (e ∷ es) zero l h = let one = below_lt es h in let none = below_ge {n = n} {e = n} es (le_refl n) in omega arith
below_raise n (e ∷ es) (suc b) l h =
    let ih = below_raise n es b (omega arith) h in go (ltb e n) refl ih
  where
    go : (t : Bool) → ltb e n ≡ t → below n es ≡ suc (below n (set es b n)) → below n (e ∷ es) ≡ suc (below n (e ∷ set es b n))
    go true t ih = let p = below_lt es (ltb-true e n t) in let q = below_lt (set es b n) (ltb-true e n t) in omega arith
    go false t ih = let p = below_ge es (ltb-false e n t) in let q = below_ge (set es b n) (ltb-false e n t) in omega arith

none_below : (n : ℕ) (es : List ℕ) → ((b : ℕ) → b < length es → n ≤ get_or es b 0) → below n es ≡ 0
unfolding below
none_below n [] h = refl
none_below n (e ∷ es) h = below_ge es (h 0 (omega arith)) ∙ none_below n es (λ b l. h (suc b) (omega arith))

below_none : (n : ℕ) (es : List ℕ) → below n es ≡ 0 → (b : ℕ) → b < length es → n ≤ get_or es b 0
below_none n [] z b l = absurd (omega arith)
below_none n (e ∷ es) z b l = go (λ z' b l. below_none n es z' b l) (ltb e n) refl b l
  where
    go : (below n es ≡ 0 → (b : ℕ) → b < length es → n ≤ get_or es b 0) → (t : Bool) → ltb e n ≡ t → (b : ℕ) → b < length (e ∷ es)
        → n ≤ get_or (e ∷ es) b 0
    go rest true t b l = let p = below_lt es (ltb-true e n t) in absurd (omega arith)
    go rest false t zero l = ltb-false e n t
    go rest false t (suc b) l = let p = below_ge es (ltb-false e n t) in rest (omega arith) b (omega arith)

-- ---- the inputs' entries raised to n, one input after the other

abbrev raised : List ℕ → List ℕ → ℕ → ℕ → List ℕ
raised es bs n zero = es
raised es bs n (suc k) = set (raised es bs n k) (get_or bs k 0) n

length_raised : (es bs : List ℕ) (n k : ℕ) → length (raised es bs n k) ≡ length es
length_raised es bs n zero = refl
length_raised es bs n (suc k) = length-set (raised es bs n k) (get_or bs k 0) n ∙ length_raised es bs n k

-- the entry of another byte stays
raised_other : (es bs : List ℕ) (n k b : ℕ) → ((j : ℕ) → j < k → ¬ (get_or bs j 0 ≡ b)) → get_or (raised es bs n k) b 0 ≡ get_or es b 0
raised_other es bs n zero b h = refl
raised_other es bs n (suc k) b h =
    get_or-set_other (raised es bs n k) (get_or bs k 0) b n 0 (λ e. h k (omega arith) (sym e)) ∙ raised_other es bs n k b (λ j l. h j (omega arith))

module _ (es bs : List ℕ) (bytes : (i : ℕ) → i < length bs → get_or bs i 0 < length es) (probed : Probed bs es) where
  -- an entry is raised, or its byte is none of the first k inputs
  raised_or : (k b : ℕ) → k ≤ length bs → (length bs ≤ get_or (raised es bs (length bs) k) b 0) ⊎ ((j : ℕ) → j < k → ¬ (get_or bs j 0 ≡ b))
  raised_or zero b h = inr (λ j l e. omega arith)
  raised_or (suc k) b h = go (eq_or_ne (get_or bs k 0) b) (raised_or k b (omega arith))
    where
      n : ℕ
      n = length bs

      go : (get_or bs k 0 ≡ b) ⊎ (¬ (get_or bs k 0 ≡ b)) → (n ≤ get_or (raised es bs n k) b 0) ⊎ ((j : ℕ) → j < k → ¬ (get_or bs j 0 ≡ b))
          → (n ≤ get_or (raised es bs n (suc k)) b 0) ⊎ ((j : ℕ) → j < suc k → ¬ (get_or bs j 0 ≡ b))
      go (inl e) rest = inl (let p : get_or (raised es bs n (suc k)) b 0 ≡ n = rw (← e) (get_or-set_same (raised es bs n k) (get_or bs k 0) n 0 (omega (arith, length_raised es bs n k, bytes k (omega arith)))) in omega arith)
      go (inr ne) (inl above) = inl (let p = get_or-set_other (raised es bs n k) (get_or bs k 0) b n 0 (λ e. ne (sym e)) in omega arith)
      go (inr ne) (inr other) = inr (λ j l. ⊎_elim (λ e q. ne (rw (← e) q)) (λ m. other j m) (eq-or-lt_of_le (le_of_suc-le-suc l)))

  -- each input's entry is one of those below the count
  below_raised : (k : ℕ) → k ≤ length bs → below (length bs) es ≡ k + below (length bs) (raised es bs (length bs) k)
  unfolding Probed
  below_raised zero h = omega arith
  below_raised (suc k) h =
      let ih = below_raised k (omega arith) in
      let at_k = probed k (omega arith) in
      let kept = raised_other es bs (length bs) k (get_or bs k 0) (λ j l e. let at_j = probed j (omega arith) in let f : get_or es (get_or bs j 0) 0 ≡ get_or es (get_or bs k 0) 0 = rw e in omega arith) in
      let len = length_raised es bs (length bs) k in
      let one = below_raise (length bs) (raised es bs (length bs) k) (get_or bs k 0) (omega (arith, bytes k (omega arith))) (omega arith) in
      omega arith

  pub indexed_count : length es ≡ 256 → below (length bs) es ≡ length bs → Indexed bs es
  unfolding Absent Probed
  indexed_count len count = record {
    present = λ i l. probed i l;
    absent = λ b l away.
        let all = below_raised (length bs) (le_refl (length bs)) in
        let rlen = length_raised es bs (length bs) (length bs) in
        let above = below_none (length bs) (raised es bs (length bs) (length bs)) (omega arith) b (omega arith) in
        rw (raised_other es bs (length bs) (length bs) b away) at above;
  }

  pub count_indexed : length es ≡ 256 → Indexed bs es → below (length bs) es ≡ length bs
  unfolding Absent
  count_indexed len right =
      let all = below_raised (length bs) (le_refl (length bs)) in
      let rlen = length_raised es bs (length bs) (length bs) in
      let none = none_below (length bs) (raised es bs (length bs) (length bs)) (λ b l. above b l) in
      omega arith
    where
      above : (b : ℕ) → b < length (raised es bs (length bs) (length bs)) → length bs ≤ get_or (raised es bs (length bs) (length bs)) b 0
      above b l = ⊎_elim (λ h. h) (λ away. rw (raised_other es bs (length bs) (length bs) b away) (right.absent b (omega (arith, length_raised es bs (length bs) (length bs))) away)) (raised_or (length bs) b (le_refl (length bs)))

-- ---- the loops

-- the entry of input i, as the code reads it
pub entry_of : (s : List ℕ) (at n index i : ℕ) → i < n → get_or s (at + (n - 1 - i)) 0 < 256
    → get_or (entries_of s index) (get_or (bytes_down s at n) i 0) 0 ≡ get_or s (index + get_or s (at + (n - 1 - i)) 0) 0
entry_of s at n index i l byte = rw (get_d_bytes_down s at n i l, get_or-take 256 (drop index s) (get_or s (at + (n - 1 - i)) 0) 0 byte, get_or-drop)

-- the bytes from at on, up to j of them, have the entries that their places ask for: the byte at k is input n - 1 - k
pub record PlacedTo (s : List ℕ) (at n index j : ℕ) : Type 0 where
  pub right : (k : ℕ) → k < j → get_or s (index + get_or s (at + k) 0) 0 + k ≡ n - 1

-- every byte has its entry where every input's entry is its place
pub placed_all : {s : List ℕ} {at n index j : ℕ} {good : Bool} → j ≤ n → n ≤ j → ((i : ℕ) → get_or s i 0 < 256) → Decides good (PlacedTo s at n index j)
    → Decides good (Probed (bytes_down s at n) (entries_of s index))
unfolding Probed
placed_all {s} {at} {n} {index} {j} within past bytes d = decides_iff to from d
  where
    to : PlacedTo s at n index j → (i : ℕ) → i < length (bytes_down s at n) → get_or (entries_of s index) (get_or (bytes_down s at n) i 0) 0 ≡ i
    to p i l =
        let few : i < n = omega (arith, length_bytes_down s at n) in
        let here = p.right (n - 1 - i) (omega arith) in
        entry_of s at n index i few (bytes (at + (n - 1 - i))) ∙ omega arith

    from : ((i : ℕ) → i < length (bytes_down s at n) → get_or (entries_of s index) (get_or (bytes_down s at n) i 0) 0 ≡ i) → PlacedTo s at n index j
    from p = record { right = λ k l. back k l }
      where
        back : (k : ℕ) → k < j → get_or s (index + get_or s (at + k) 0) 0 + k ≡ n - 1
        back k l =
            let e : n - 1 - (n - 1 - k) ≡ k = omega arith in
            let here = p (n - 1 - k) (omega (arith, length_bytes_down s at n)) in
            let there = entry_of s at n index (n - 1 - k) (omega arith) (bytes (at + (n - 1 - (n - 1 - k)))) in
            let both = rw e at there in
            omega arith

-- more than 256 places cannot all be entries
pub probed_few : (s : List ℕ) (at n index : ℕ) → 256 < n → ((i : ℕ) → get_or s i 0 < 256) → ¬ Probed (bytes_down s at n) (entries_of s index)
unfolding Probed
probed_few s at n index many bytes p =
    let here = p 256 (omega (arith, length_bytes_down s at n)) in
    let there = entry_of s at n index 256 many (bytes (at + (n - 1 - 256))) in
    omega (arith, bytes (index + get_or s (at + (n - 1 - 256)) 0))

-- ---- counting in parts

length_entries_of : (s : List ℕ) (index : ℕ) → index + 256 ≤ length s → length (entries_of s index) ≡ 256
length_entries_of s index h = length-take-le 256 (drop index s) (simp length-drop (omega arith))

below_append : (n : ℕ) (xs ys : List ℕ) → below n (xs ++ ys) ≡ below n xs + below n ys
unfolding below
below_append n [] ys = omega arith
below_append n (x ∷ xs) ys = omega (arith, below_append n xs ys)

-- one entry more
pub below_take : {n i count : ℕ} (es : List ℕ) → i < length es → count ≡ below n (take i es) → get_or es i 0 < n → count + 1 ≡ below n (take (i + 1) es)
unfolding below
below_take {n} {i} {count} es l e h =
    rw (take_more es i 0 l, below_append n (take i es) (get_or es i 0 ∷ [])) (omega (arith, below_lt [] h))

pub below_skip : {n i count : ℕ} (es : List ℕ) → i < length es → count ≡ below n (take i es) → n ≤ get_or es i 0 → count ≡ below n (take (i + 1) es)
unfolding below
below_skip {n} {i} {count} es l e h =
    rw (take_more es i 0 l, below_append n (take i es) (get_or es i 0 ∷ [])) (omega (arith, below_ge [] h))

-- the entries are two halves
pub below_halves : (s : List ℕ) (index n : ℕ) → below n (entries_of s index) ≡ below n (take 128 (drop index s)) + below n (take 128 (drop (index + 128) s))
below_halves s index n =
    (rw (take-add 128 128 (drop index s), drop-drop 128 index s)) ∙ below_append n (take 128 (drop index s)) (take 128 (drop (index + 128) s))

every_below : (n : ℕ) (es : List ℕ) → ((b : ℕ) → b < length es → get_or es b 0 < n) → below n es ≡ length es
unfolding below
every_below n [] h = refl
every_below n (e ∷ es) h = omega (arith, below_lt es (h 0 (omega arith)), every_below n es (λ b l. h (suc b) (omega arith)))

-- every byte is below 256
pub below_every : (s : List ℕ) (index n : ℕ) → index + 256 ≤ length s → ((i : ℕ) → get_or s i 0 < 256) → 256 ≤ n → 256 ≡ below n (entries_of s index)
below_every s index n h bytes many =
    let len = length_entries_of s index h in
    sym (every_below n (entries_of s index) (λ b l. rw (get_or-take 256 (drop index s) b 0 (omega arith), get_or-drop) (omega (arith, bytes (index + b)))) ∙ len)

-- ---- both ways

pub index_decides : (s : List ℕ) (at n index count : ℕ) → index + 256 ≤ length s → ((i : ℕ) → get_or s i 0 < 256)
    → Probed (bytes_down s at n) (entries_of s index) → count ≡ below n (entries_of s index)
    → Decides (eqb count n) (Indexed (bytes_down s at n) (entries_of s index))
index_decides s at n index count h bytes probed is_count =
    let len = length_entries_of s index h in
    let many = length_bytes_down s at n in
    let below_many : below (length (bytes_down s at n)) (entries_of s index) ≡ below n (entries_of s index) = rw many in
    let byte : (i : ℕ) → i < length (bytes_down s at n) → get_or (bytes_down s at n) i 0 < length (entries_of s index) =
    λ i l. omega (arith, get_d_bytes_down s at n i (omega arith), bytes (at + (n - 1 - i))) in
    decides_iff (λ e. indexed_count (entries_of s index) (bytes_down s at n) byte probed len (omega arith))
    (λ right. omega (arith, count_indexed (entries_of s index) (bytes_down s at n) byte probed len right)) (decides_eq count n)
