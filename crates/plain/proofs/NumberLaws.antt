-- Laws of `number` (Numbers): what a start works out is the number of held keys between its bounds, for every admitted file and every two
-- bounds, with a table as filled for that file or where none of its entries is read.
--     within_right, below_right      the keys that do not pass the upper bound; that do not meet the lower
--     decides_crosses                the test and the words
--     crosses_none, crosses_not      no string lies between bounds that cross; otherwise what does not meet the lower does not pass the upper
--     number_right                   the number of held keys between the bounds
-- Assumes nothing.
use Prim.{tt}
use Rattle.std.specs.Prelude.{◌≡◌, refl, Bool, true, false, not, ◌⊎◌, ℕ, ◌+◌, ◌*◌, ◌-◌, ◌≤◌, ◌<◌, length}
use Rattle.std.proofs.Common.{sym, ap, ◌∙◌, true≢false, inl, inr, ⊎_elim, arith, eq-eqb, ne_eqb, le-leb}
use Rattle.std.proofs.lemmas.Bool.{false≢true}
use mathlib.Core.List.Memᴰ
use mathlib.Core.List.{List, [], ◌++◌, Memᴰ}
use Rattle.std.proofs.Math.Decide.{ℕ_discrete}
use Rattle.format.specs.Limits.{max_sum}
use Rattle.format.specs.Laws.OpeningLaws.{opened_facts, root_inside}
use Rattle.format.specs.Paths.{Fst, fst_of, here, Held, KeyFrom}
use Rattle.format.specs.Admitted.{Admitted}
use Rattle.format.specs.Laws.PathLaws.{blank_held}
use Rattle.format.specs.Laws.ReachedLaws.{path_reached, held_from, from_held}
use Rattle.buffers.specs.Decide.{Decides}
use Rattle.buffers.specs.DecideLaws.{decides_false, decides_iff, decides_not}
use Rattle.format.specs.Strings.{Before, Bound, unbounded, included, excluded, MeetsLower, no_lower, from_on, beyond, PassesUpper, above, from_off, Between, NumberOf, before_test}
use Rattle.format.specs.Laws.StringLaws.{before_irrefl, before_trans, before_asym, before_total, decides_before}
use Rattle.format.specs.Tables.{keys_from, InTable, keys_at}
use Rattle.format.specs.Laws.NumberOfLaws.{number_iff, number_none, number_le, number_less}
use Rattle.format.specs.Laws.KeysLaws.{keys_zero_le, keys_right, root_in_table}
use Rattle.reading.specs.Reading.{bound_bytes, meets_test}
use Rattle.reading.proofs.BoundLaws.{decides_meets}
use Rattle.plain.specs.Numbers.{comes_to, Given, Excludes, Crosses, greater, equal, crosses, up_to, within, below_lower, less, number, entry_at, reads_to, reads_within, none_read, reads_of, TableFits}
use Rattle.plain.proofs.UpToLaws.{UpTo, Right, NoneRead, AllSound, keys_at_right, up_to_right, up_to_comes, up_to_few, reads_in_table}

-- ---- strings against one bound

-- the string of a bound, and those beyond it
not_beyond : (x k : List ℕ) → UpTo true x k → ¬ Before x k
not_beyond x k (inl l) h = before_asym l h
not_beyond x k (inr (e, o)) h = before_irrefl x (rw e at h)

beyond_not : (x k : List ℕ) → ¬ Before x k → UpTo true x k
beyond_not x k h = ⊎_elim (λ e. inr (e, refl)) (λ l. ⊎_elim (λ g. inl g) (λ g. absurd (h g)) l) (before_total k x)

not_from : (x k : List ℕ) → UpTo false x k → ¬ ((Before x k) ⊎ (k ≡ x))
not_from x k (inl l) (inl h) = before_asym l h
not_from x k (inl l) (inr e) = before_irrefl x (rw e at l)
not_from x k (inr (e, o)) h = false≢true o

from_not : (x k : List ℕ) → ¬ ((Before x k) ⊎ (k ≡ x)) → UpTo false x k
from_not x k h = ⊎_elim (λ e. absurd (h (inr e))) (λ l. ⊎_elim (λ g. inl g) (λ g. absurd (h (inl g))) l) (before_total k x)

passes_included : {b k : List ℕ} → PassesUpper (included b) k → Before b k
passes_included (above h) = h

passes_excluded : {b k : List ℕ} → PassesUpper (excluded b) k → (Before b k) ⊎ (k ≡ b)
passes_excluded (from_off h) = h

passes_unbounded : {k : List ℕ} → ¬ PassesUpper unbounded k
passes_unbounded h = elim h [ ]

meets_included : {b k : List ℕ} → MeetsLower (included b) k → (Before b k) ⊎ (k ≡ b)
meets_included (from_on h) = h

meets_excluded : {b k : List ℕ} → MeetsLower (excluded b) k → Before b k
meets_excluded (beyond h) = h

-- ---- the keys within the upper bound, and those before the lower

number_up_to : (f : Fst) (c : List ℕ) (own : Bool) (x : List ℕ) (a n : ℕ) (Q : List ℕ → Type 0) → ((k : List ℕ) → UpTo own x k → Q k)
    → ((k : List ℕ) → Q k → UpTo own x k) → Right f c (reads_to f a x) → up_to f c own a x ≡ comes_to n → NumberOf (λ k. KeyFrom f a k × Q k) n
number_up_to f c own x a n Q to from right is =
    number_iff (λ k. KeyFrom f a k × UpTo own x k) (λ k. KeyFrom f a k × Q k) n (λ k h. (h.0, to k h.1)) (λ k h. (h.0, from k h.1))
    (up_to_right f c own x a n right is)

entry_read : (a : ℕ) → ¬ (a ≡ 0) → Memᴰ a (entry_at a)
entry_read a ne = rw (ne_eqb a 0 ne) (Memᴰ.head refl)

pub within_right : (f : Fst) (c : List ℕ) (hi : Bound) (w : ℕ) → 0 < length f.bytes → Right f c (reads_within f hi) → within f c hi ≡ comes_to w
    → NumberOf (λ k. KeyFrom f f.root k × ¬ PassesUpper hi k) w
unfolding within
within_right f c unbounded w pos right is =
    let e : keys_at c f.root ≡ w = cc in
    let q : w ≡ keys_from f f.root = sym e ∙ keys_at_right f c f.root pos (λ ne. right f.root (entry_read f.root ne)) in
    rw q
    (number_iff (KeyFrom f f.root) (λ k. KeyFrom f f.root k × ¬ PassesUpper unbounded k) (keys_from f f.root) (λ k h. (h, passes_unbounded)) (λ k h. h.0)
    (keys_right f f.root))
within_right f c (included x) w pos right is =
    number_up_to f c true x f.root w (λ k. ¬ PassesUpper (included x) k) (λ k u p. not_beyond x k u (passes_included p))
    (λ k h. beyond_not x k (λ l. h (above l))) right is
within_right f c (excluded x) w pos right is =
    number_up_to f c false x f.root w (λ k. ¬ PassesUpper (excluded x) k) (λ k u p. not_from x k u (passes_excluded p))
    (λ k h. from_not x k (λ l. h (from_off l))) right is

pub below_right : (f : Fst) (c : List ℕ) (lo : Bound) (b : ℕ) → Right f c (reads_to f f.root (bound_bytes lo)) → below_lower f c lo ≡ comes_to b
    → NumberOf (λ k. KeyFrom f f.root k × ¬ MeetsLower lo k) b
unfolding below_lower
below_right f c unbounded b right is =
    let q : 0 ≡ b = cc in
    rw (sym q) (number_none (λ k. KeyFrom f f.root k × ¬ MeetsLower unbounded k) (λ k h. h.1 no_lower))
below_right f c (included x) b right is =
    number_up_to f c false x f.root b (λ k. ¬ MeetsLower (included x) k) (λ k u p. not_from x k u (meets_included p))
    (λ k h. from_not x k (λ l. h (from_on l))) right is
below_right f c (excluded x) b right is =
    number_up_to f c true x f.root b (λ k. ¬ MeetsLower (excluded x) k) (λ k u p. not_beyond x k u (meets_excluded p))
    (λ k h. beyond_not x k (λ l. h (beyond l))) right is

within_comes : (f : Fst) (c : List ℕ) (hi : Bound) → AllSound f f.root → (w : ℕ) × (within f c hi ≡ comes_to w)
unfolding within
within_comes f c unbounded all = (keys_at c f.root, refl)
within_comes f c (included x) all = up_to_comes f c true x f.root all
within_comes f c (excluded x) all = up_to_comes f c false x f.root all

below_comes : (f : Fst) (c : List ℕ) (lo : Bound) → AllSound f f.root → (b : ℕ) × (below_lower f c lo ≡ comes_to b)
unfolding below_lower
below_comes f c unbounded all = (0, refl)
below_comes f c (included x) all = up_to_comes f c false x f.root all
below_comes f c (excluded x) all = up_to_comes f c true x f.root all

-- where nothing is read the keys within are few
within_few : (f : Fst) (c : List ℕ) (hi : Bound) (w : ℕ) → NoneRead (reads_within f hi) → within f c hi ≡ comes_to w → w ≤ 2 * (f.root + 1)
unfolding within
within_few f c unbounded w none is =
    let e : keys_at c f.root ≡ w = cc in
    elim (ℕ_discrete f.root 0) [
      | yes z ↦ let q : keys_at c f.root ≡ 1 = rw (eq-eqb f.root 0 z) in omega arith
      | no z ↦ absurd (none f.root (entry_read f.root z))
    ]
within_few f c (included x) w none is = up_to_few f c true x f.root w none is
within_few f c (excluded x) w none is = up_to_few f c false x f.root w none is

-- ---- bounds that cross

not-true : (b : Bool) → not b ≡ true → b ≡ false
not-true true e = absurd (false≢true e)
not-true false e = refl

not-false : (b : Bool) → not b ≡ false → b ≡ true
not-false true e = refl
not-false false e = absurd (true≢false e)

-- a string from x on, or beyond it, that comes before y or is y
from_to : {x y k : List ℕ} → (Before x k) ⊎ (k ≡ x) → Before k y → Before x y
from_to (inl l) h = before_trans l h
from_to (inr e) h = rw e at h

after_to : {x y k : List ℕ} → Before x k → (Before k y) ⊎ ((k ≡ y) × (true ≡ true)) → Before x y
after_to l (inl h) = before_trans l h
after_to l (inr (e, o)) = rw e at l

-- from x on to y
not_apart : {x y k : List ℕ} → Before y x → (Before x k) ⊎ (k ≡ x) → Before y k
not_apart h (inl l) = before_trans h l
not_apart h (inr e) = rw e h

before_of : (x y : List ℕ) → not (before_test x y) ≡ false → Before x y
before_of x y e = (decides_before x y).yes (not-false (before_test x y) e)

not_before_of : (x y : List ℕ) → not (before_test x y) ≡ true → ¬ Before x y
not_before_of x y e = (decides_before x y).no (not-true (before_test x y) e)

up_to_false : {x k : List ℕ} → UpTo false x k → Before k x
up_to_false (inl l) = l
up_to_false (inr (e, o)) = absurd (false≢true o)

up_to_before : {x y k : List ℕ} → UpTo true x k → Before x y → Before k y
up_to_before (inl l) h = before_trans l h
up_to_before (inr (e, o)) h = rw e h

-- equal or greater bytes, one bound excluded
crosses_from : {lo hi : Bound} → Given lo → Given hi → (Excludes lo) ⊎ (Excludes hi) → Decides (not (before_test (bound_bytes lo) (bound_bytes hi))) (Crosses lo hi)
crosses_from {lo} {hi} g h one = decides_iff to from (decides_not (before_test (bound_bytes lo) (bound_bytes hi)) (decides_before (bound_bytes lo) (bound_bytes hi)))
  where
    to : ¬ Before (bound_bytes lo) (bound_bytes hi) → Crosses lo hi
    to n = ⊎_elim (λ e. equal g h e one) (λ l. ⊎_elim (λ m. absurd (n m)) (λ m. greater g h m) l) (before_total (bound_bytes lo) (bound_bytes hi))

    from : Crosses lo hi → ¬ Before (bound_bytes lo) (bound_bytes hi)
    from (greater i j l) m = before_asym l m
    from (equal i j e o) m = before_irrefl (bound_bytes hi) (rw e at m)

pub decides_crosses : (lo hi : Bound) → Decides (crosses lo hi) (Crosses lo hi)
decides_crosses unbounded hi = decides_false none
  where
    none : ¬ Crosses unbounded hi
    none (greater i j l) = i
    none (equal i j e o) = i
decides_crosses (included x) unbounded = decides_false none
  where
    none : ¬ Crosses (included x) unbounded
    none (greater i j l) = j
    none (equal i j e o) = j
decides_crosses (included x) (included y) = decides_iff (λ l. greater tt tt l) from (decides_before y x)
  where
    from : Crosses (included x) (included y) → Before y x
    from (greater i j l) = l
    from (equal i j e o) = ⊎_elim (λ z. absurd z) (λ z. absurd z) o
decides_crosses (included x) (excluded y) = crosses_from tt tt (inr tt)
decides_crosses (excluded x) unbounded = decides_false none
  where
    none : ¬ Crosses (excluded x) unbounded
    none (greater i j l) = j
    none (equal i j e o) = j
decides_crosses (excluded x) (included y) = crosses_from tt tt (inl tt)
decides_crosses (excluded x) (excluded y) = crosses_from tt tt (inl tt)

pub crosses_none : (lo hi : Bound) → crosses lo hi ≡ true → (k : List ℕ) → ¬ Between lo hi k
crosses_none unbounded hi is k h = false≢true is
crosses_none (included x) unbounded is k h = false≢true is
crosses_none (included x) (included y) is k h = h.within (above (not_apart ((decides_before y x).yes is) (meets_included h.meets)))
crosses_none (included x) (excluded y) is k h =
    not_before_of x y is (from_to (meets_included h.meets) (up_to_false (from_not y k (λ g. h.within (from_off g)))))
crosses_none (excluded x) unbounded is k h = false≢true is
crosses_none (excluded x) (included y) is k h =
    not_before_of x y is (after_to (meets_excluded h.meets) (beyond_not y k (λ g. h.within (above g))))
crosses_none (excluded x) (excluded y) is k h =
    not_before_of x y is (before_trans (meets_excluded h.meets) (up_to_false (from_not y k (λ g. h.within (from_off g)))))

pub crosses_not : (lo hi : Bound) → crosses lo hi ≡ false → (k : List ℕ) → ¬ MeetsLower lo k → ¬ PassesUpper hi k
crosses_not unbounded hi is k n p = n no_lower
crosses_not (included x) unbounded is k n p = passes_unbounded p
crosses_not (included x) (included y) is k n p =
    (decides_before y x).no is (before_trans (passes_included p) (up_to_false (from_not x k (λ g. n (from_on g)))))
crosses_not (included x) (excluded y) is k n p =
    before_asym (before_of x y is) (from_to (passes_excluded p) (up_to_false (from_not x k (λ g. n (from_on g)))))
crosses_not (excluded x) unbounded is k n p = passes_unbounded p
crosses_not (excluded x) (included y) is k n p =
    before_asym (before_of x y is) (after_to (passes_included p) (beyond_not x k (λ g. n (beyond g))))
crosses_not (excluded x) (excluded y) is k n p =
    not_from y k (inl (up_to_before (beyond_not x k (λ g. n (beyond g))) (before_of x y is))) (passes_excluded p)

-- ---- the keys between the bounds

-- in a file that has bytes
none_read_crossed : (f : Fst) (lo hi : Bound) → 0 < length f.bytes → none_read f lo hi ≡ crosses lo hi
none_read_crossed f lo hi pos = rw (ne_eqb (length f.bytes) 0 (omega arith))

none_read_blank : (f : Fst) (lo hi : Bound) → length f.bytes ≡ 0 → none_read f lo hi ≡ true
none_read_blank f lo hi z = rw (eq-eqb (length f.bytes) 0 z)

pub number_none_read : (f : Fst) (c : List ℕ) (lo hi : Bound) → none_read f lo hi ≡ true → number f c lo hi ≡ comes_to 0
unfolding number
number_none_read f c lo hi is = rw is

less_fits : (w b : ℕ) → w ≤ max_sum → b ≤ max_sum → b ≤ w → less (comes_to w) (comes_to b) ≡ comes_to (w - b)
less_fits w b i j l = rw (le-leb w max_sum i, le-leb b max_sum j, le-leb b w l)

pub number_less_of : (f : Fst) (c : List ℕ) (lo hi : Bound) → none_read f lo hi ≡ false → (w b : ℕ) → within f c hi ≡ comes_to w → below_lower f c lo ≡ comes_to b
    → w ≤ max_sum → b ≤ w → number f c lo hi ≡ comes_to (w - b)
unfolding number
number_less_of f c lo hi is w b ew eb i l = rw (is, ew, eb) (less_fits w b i (omega arith) l)

-- the held keys between the bounds
abbrev pub HeldBetween : Fst → Bound → Bound → List ℕ → Type 0
HeldBetween f lo hi k = (v : ℕ) × Held f k v × Between lo hi k

pub record NumberRight (f : Fst) (c : List ℕ) (lo hi : Bound) : Type 0 where
  pub keys : ℕ
  pub comes : number f c lo hi ≡ comes_to keys
  pub right : NumberOf (HeldBetween f lo hi) keys

-- of the keys within the upper bound, those that meet the lower
less_number : (f : Fst) (lo hi : Bound) → crosses lo hi ≡ false → (w b : ℕ) → NumberOf (λ k. KeyFrom f f.root k × ¬ PassesUpper hi k) w
    → NumberOf (λ k. KeyFrom f f.root k × ¬ MeetsLower lo k) b → NumberOf (HeldBetween f lo hi) (w - b)
less_number f lo hi is w b W B =
    number_iff (λ k. (KeyFrom f f.root k × ¬ PassesUpper hi k) × MeetsLower lo k) (HeldBetween f lo hi) (w - b)
    (λ k h. (h.0.0.0, from_held h.0.0.1, record { meets = h.1; within = h.0.1 }))
    (λ k h. (((h.0, held_from h.1), h.2.within), h.2.meets))
    (number_less (λ k. KeyFrom f f.root k × ¬ PassesUpper hi k) (MeetsLower lo) (meets_test lo) (decides_meets lo) w b W
    (number_iff (λ k. KeyFrom f f.root k × ¬ MeetsLower lo k) (λ k. (KeyFrom f f.root k × ¬ PassesUpper hi k) × ¬ MeetsLower lo k) b
    (λ k h. ((h.0, crosses_not lo hi is k h.1), h.1)) (λ k h. (h.0.0, h.1)) B))

-- fewer keys stand before the lower bound than within the upper
below_le : (f : Fst) (lo hi : Bound) → crosses lo hi ≡ false → (w b : ℕ) → NumberOf (λ k. KeyFrom f f.root k × ¬ PassesUpper hi k) w
    → NumberOf (λ k. KeyFrom f f.root k × ¬ MeetsLower lo k) b → b ≤ w
below_le f lo hi is w b W B =
    number_le (λ k. KeyFrom f f.root k × ¬ MeetsLower lo k) (λ k. KeyFrom f f.root k × ¬ PassesUpper hi k) b w
    (λ k h. (h.0, crosses_not lo hi is k h.1)) B W

reads_of_lem : (f : Fst) (lo hi : Bound) → none_read f lo hi ≡ false → reads_of f lo hi ≡ reads_within f hi ++ reads_to f f.root (bound_bytes lo)
unfolding reads_of
reads_of_lem f lo hi is = rw is

-- every entry that is read stands in the table
read_in_table : (f : Fst) (hi : Bound) (d : ℕ) → Memᴰ d (reads_within f hi) → InTable f d
read_in_table f unbounded d mem =
    elim (ℕ_discrete f.root 0) [
      | yes z ↦ absurd (Memᴰ.not-nil (rw (eq-eqb f.root 0 z) at mem))
      | no z ↦
          ⊎_elim {A = d ≡ f.root} {B = Memᴰ d []}
          (λ q. rw q (root_in_table f z))
          (λ n. absurd (Memᴰ.not-nil n))
          (Memᴰ.cases_cons (rw (ne_eqb f.root 0 z) at mem))
    ]
read_in_table f (included x) d mem = reads_in_table f x f.root [] 0 here d mem
read_in_table f (excluded x) d mem = reads_in_table f x f.root [] 0 here d mem

-- the reads of both bounds are right
fits_right : (f : Fst) (c : List ℕ) (lo hi : Bound) → none_read f lo hi ≡ false → TableFits f lo hi c
    → Right f c (reads_within f hi) × Right f c (reads_to f f.root (bound_bytes lo))
fits_right f c lo hi is (inl filled) = (
  λ d mem. (filled d (read_in_table f hi d mem)).entry,
  λ d mem. (filled d (reads_in_table f (bound_bytes lo) f.root [] 0 here d mem)).entry,
)
fits_right f c lo hi is (inr none) =
    let nil : reads_within f hi ++ reads_to f f.root (bound_bytes lo) ≡ [] = sym (reads_of_lem f lo hi is) ∙ none in (
      λ d mem. absurd (Memᴰ.not-nil (rw nil at (Memᴰ.append_left (reads_to f f.root (bound_bytes lo)) mem))),
      λ d mem. absurd (Memᴰ.not-nil (rw nil at (Memᴰ.append_right (reads_within f hi) mem))),
    )

-- the keys within the upper bound fit 64 bits
fits_within : (f : Fst) (c : List ℕ) (lo hi : Bound) → 2 * (f.root + 1) ≤ max_sum → none_read f lo hi ≡ false → TableFits f lo hi c → (w : ℕ) → within f c hi ≡ comes_to w
    → NumberOf (λ k. KeyFrom f f.root k × ¬ PassesUpper hi k) w → w ≤ max_sum
fits_within f c lo hi low is (inl filled) w e W =
    let most = number_le (λ k. KeyFrom f f.root k × ¬ PassesUpper hi k) (KeyFrom f f.root) w (keys_from f f.root) (λ k h. h.0) W (keys_right f f.root) in
    elim (ℕ_discrete f.root 0) [
      | yes z ↦ let q : keys_from f f.root ≡ keys_from f 0 = ap (keys_from f) z in omega (arith, keys_zero_le f)
      | no z ↦ omega (arith, (filled f.root (root_in_table f z)).fits)
    ]
fits_within f c lo hi low is (inr none) w e W =
    let nil : reads_within f hi ++ reads_to f f.root (bound_bytes lo) ≡ [] = sym (reads_of_lem f lo hi is) ∙ none in
    omega (arith, within_few f c hi w (λ d mem. Memᴰ.not-nil (rw nil at (Memᴰ.append_left (reads_to f f.root (bound_bytes lo)) mem))) e)

-- in a file that has bytes and whose reached nodes are sound
pub number_right_of : (f : Fst) (c : List ℕ) (lo hi : Bound) → 0 < length f.bytes → AllSound f f.root → 2 * (f.root + 1) ≤ max_sum → TableFits f lo hi c
    → NumberRight f c lo hi
number_right_of f c lo hi pos all low fits = go (crosses lo hi) refl
  where
    go : (b : Bool) → crosses lo hi ≡ b → NumberRight f c lo hi
    go true is =
        record {
          keys = 0;
          comes = number_none_read f c lo hi (none_read_crossed f lo hi pos ∙ is);
          right = number_none (HeldBetween f lo hi) (λ k h. crosses_none lo hi is k h.2);
        }
    go false is =
        let read = none_read_crossed f lo hi pos ∙ is in
        let w = within_comes f c hi all in
        let b = below_comes f c lo all in
        let r = fits_right f c lo hi read fits in
        let W = within_right f c hi w.0 pos r.0 w.1 in
        let B = below_right f c lo b.0 r.1 b.1 in
        record {
          keys = w.0 - b.0;
          comes =
              number_less_of f c lo hi read w.0 b.0 w.1 b.1 (fits_within f c lo hi low read fits w.0 w.1 W)
              (below_le f lo hi is w.0 b.0 W B);
          right = less_number f lo hi is w.0 b.0 W B;
        }

-- a file without bytes holds no key
number_right_blank : (f : Fst) (c : List ℕ) (lo hi : Bound) → length f.bytes ≡ 0 → NumberRight f c lo hi
number_right_blank f c lo hi z =
    record {
      keys = 0;
      comes = number_none_read f c lo hi (none_read_blank f lo hi z);
      right = number_none (HeldBetween f lo hi) (λ k h. blank_held z h.1);
    }

pub number_right : {s : List ℕ} (A : Admitted s) (c : List ℕ) (lo hi : Bound) → TableFits (fst_of s A.meta) lo hi c
    → NumberRight (fst_of s A.meta) c lo hi
number_right {s} A c lo hi fits =
    elim (ℕ_discrete (length s) 0) [
      | yes z ↦ number_right_blank (fst_of s A.meta) c lo hi z
      | no ne ↦
          let o = opened_facts s A.meta A.opens in
          let pos : 0 < length s = omega arith in
          number_right_of (fst_of s A.meta) c lo hi pos (λ k sum b p. let r = path_reached A pos p in (r.node, r.judged))
          (omega (arith, root_inside s A.meta A.opens pos, o.high)) fits
    ]
