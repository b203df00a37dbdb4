-- Laws of `NumberOf` (Strings): a number of strings is one number, and numbers of strings add up.
--     number_most                    strings such that P, each before all that follow, are no more than the number of them
--     number_unique, number_le       one number; more strings, no smaller number
--     number_iff, number_none        the same strings; no string
--     number_one, number_when        one string; one where a test holds
--     number_append, number_under    strings that all come before others; the same with a first byte more
--     number_less                    of n strings i are not such that Q, so n - i are
--     number_rest                    of n strings those of a list are taken
-- Assumes nothing.
use Prim.{tt}
use Rattle.std.specs.Prelude.{◌≡◌, refl, Bool, true, false, cond, not, ◌||◌, ◌⊎◌, ℕ, suc, ◌+◌, ◌-◌, ◌≤◌, length}
use Rattle.std.proofs.Common.{sym, ◌∙◌, subst, true≢false, inl, inr, ⊎_elim, arith, length-append}
use Rattle.std.proofs.lemmas.Bool.{false≢true}
use mathlib.Core.List.Memᴰ
use mathlib.Core.List.{List, [], ◌∷◌, ◌++◌, map, Memᴰ}
use Rattle.std.proofs.lemmas.List.{length-map}
use Rattle.buffers.specs.Decide.{Decides}
use Rattle.buffers.specs.DecideLaws.{decides_true, decides_false, decides_iff, decides_or, decides_not, true_of}
use Rattle.format.specs.Strings.{Before, later, AllAfter, Rising, NumberOf}
use Rattle.format.specs.Tables.{one}
use Rattle.format.specs.Laws.StringLaws.{before_irrefl, before_asym, before_total}

-- ---- lists of strings

pub after_mem : (k : List ℕ) (xs : List (List ℕ)) → AllAfter k xs → (x : List ℕ) → Memᴰ x xs → Before k x
after_mem k [] h x m = absurd (Memᴰ.not-nil m)
after_mem k (y ∷ xs) h x m = ⊎_elim (λ e. rw e h.0) (λ n. after_mem k xs h.1 x n) (Memᴰ.cases_cons m)

pub mem_after : (k : List ℕ) (xs : List (List ℕ)) → ((x : List ℕ) → Memᴰ x xs → Before k x) → AllAfter k xs
mem_after k [] h = tt
mem_after k (y ∷ xs) h = (h y (Memᴰ.head refl), mem_after k xs (λ x m. h x (Memᴰ.tail m)))

strings_append : (xs ys : List (List ℕ)) → Rising xs → Rising ys → ((x y : List ℕ) → Memᴰ x xs → Memᴰ y ys → Before x y) → Rising (xs ++ ys)
strings_append [] ys h g a = g
strings_append (x ∷ xs) ys h g a = (
  mem_after x (xs ++ ys) (λ y m. ⊎_elim (λ n. after_mem x xs h.0 y n) (λ n. a x y (Memᴰ.head refl) n) (Memᴰ.append_cases xs m)),
  strings_append xs ys h.1 g (λ y z m n. a y z (Memᴰ.tail m) n),
)

abbrev begun : ℕ → List ℕ → List ℕ
begun b x = b ∷ x

strings_under : (b : ℕ) (xs : List (List ℕ)) → Rising xs → Rising (map (begun b) xs)
strings_under b [] h = tt
strings_under b (x ∷ xs) h = (
  mem_after (b ∷ x) (map (begun b) xs)
      (λ y m. let r = Memᴰ.of_map (begun b) xs m in subst (λ (z : List ℕ). Before (b ∷ x) z) r.2 (later (after_mem x xs h.0 r.0 r.1))),
  strings_under b xs h.1,
)

-- ---- one number

in_tail : {y z : List ℕ} {ys : List (List ℕ)} → Memᴰ z (y ∷ ys) → ¬ (z ≡ y) → Memᴰ z ys
in_tail m ne = ⊎_elim (λ e. absurd (ne e)) (λ n. n) (Memᴰ.cases_cons m)

-- a rising list that stands in another is not longer
rising_most : (ys xs : List (List ℕ)) → Rising ys → Rising xs → ((x : List ℕ) → Memᴰ x xs → Memᴰ x ys) → length xs ≤ length ys
rising_most ys [] ry rx h = omega arith
rising_most [] (x ∷ xs) ry rx h = absurd (Memᴰ.not-nil (h x (Memᴰ.head refl)))
rising_most (y ∷ ys) (x ∷ xs) ry rx h =
    ⊎_elim {A = x ≡ y} {B = Memᴰ x ys}
    (λ e.
    omega (
      arith,
      rising_most ys xs ry.1 rx.1
          (λ z m. in_tail (h z (Memᴰ.tail m)) (λ q. let same : z ≡ x = q ∙ sym e in before_irrefl x (rw same at (after_mem x xs rx.0 z m)))),
    ))
    (λ n.
    omega (
      arith,
      rising_most ys (x ∷ xs) ry.1 rx
          (λ z m.
          ⊎_elim {A = z ≡ x} {B = Memᴰ z xs} (λ q. rw q n)
          (λ k. in_tail (h z m) (λ (q : z ≡ y). before_asym (after_mem y ys ry.0 x n) (rw q at (after_mem x xs rx.0 z k))))
          (Memᴰ.cases_cons m)),
    ))
    (Memᴰ.cases_cons (h x (Memᴰ.head refl)))

pub number_most : (P : List ℕ → Type 0) (n : ℕ) → NumberOf P n → (xs : List (List ℕ)) → Rising xs → ((x : List ℕ) → Memᴰ x xs → P x) → length xs ≤ n
number_most P n N xs r h = omega (arith, N.number, rising_most N.strings xs N.rising r (λ x m. N.all x (h x m)))

pub number_le : (P Q : List ℕ → Type 0) (m n : ℕ) → ((x : List ℕ) → P x → Q x) → NumberOf P m → NumberOf Q n → m ≤ n
number_le P Q m n i M N = omega (arith, M.number, number_most Q n N M.strings M.rising (λ x k. i x (M.such x k)))

pub number_unique : (P : List ℕ → Type 0) (m n : ℕ) → NumberOf P m → NumberOf P n → m ≡ n
number_unique P m n M N = omega (arith, number_le P P m n (λ x p. p) M N, number_le P P n m (λ x p. p) N M)

-- ---- the same strings, no string, one string

pub number_iff : (P Q : List ℕ → Type 0) (n : ℕ) → ((x : List ℕ) → P x → Q x) → ((x : List ℕ) → Q x → P x) → NumberOf P n → NumberOf Q n
number_iff P Q n to from N =
    record { strings = N.strings; rising = N.rising; such = λ x m. to x (N.such x m); all = λ x q. N.all x (from x q); number = N.number }

pub number_none : (P : List ℕ → Type 0) → ((x : List ℕ) → ¬ P x) → NumberOf P 0
number_none P none = record { strings = []; rising = tt; such = λ x m. absurd (Memᴰ.not-nil m); all = λ x p. absurd (none x p); number = refl }

pub number_one : (k : List ℕ) → NumberOf (λ x. x ≡ k) 1
number_one k =
    record {
      strings = k ∷ [];
      rising = (tt, tt);
      such = λ x m. ⊎_elim (λ e. e) (λ n. absurd (Memᴰ.not-nil n)) (Memᴰ.cases_cons m);
      all = λ x e. Memᴰ.head e;
      number = refl;
    }

pub number_when : (b : Bool) (k : List ℕ) → NumberOf (λ x. (x ≡ k) × (b ≡ true)) (one b)
number_when true k = number_iff (λ x. x ≡ k) (λ x. (x ≡ k) × (true ≡ true)) 1 (λ x e. (e, refl)) (λ x h. h.0) (number_one k)
number_when false k = number_none (λ x. (x ≡ k) × (false ≡ true)) (λ x h. false≢true h.1)

-- ---- numbers add up

pub number_append : (P Q : List ℕ → Type 0) (m n : ℕ) → ((x y : List ℕ) → P x → Q y → Before x y) → NumberOf P m → NumberOf Q n
    → NumberOf (λ x. (P x) ⊎ (Q x)) (m + n)
number_append P Q m n order M N =
    record {
      strings = M.strings ++ N.strings;
      rising = strings_append M.strings N.strings M.rising N.rising (λ x y i j. order x y (M.such x i) (N.such y j));
      such = λ x i. ⊎_elim (λ j. inl (M.such x j)) (λ j. inr (N.such x j)) (Memᴰ.append_cases M.strings i);
      all = λ x h. ⊎_elim (λ p. Memᴰ.append_left N.strings (M.all x p)) (λ q. Memᴰ.append_right M.strings (N.all x q)) h;
      number = length-append M.strings N.strings ∙ omega (arith, M.number, N.number);
    }

-- x is the byte b and then a string such that P
abbrev pub Under : ℕ → (List ℕ → Type 0) → List ℕ → Type 0
Under b P x = (y : List ℕ) × (x ≡ b ∷ y) × P y

pub number_under : (b : ℕ) (P : List ℕ → Type 0) (n : ℕ) → NumberOf P n → NumberOf (Under b P) n
number_under b P n N =
    record {
      strings = map (begun b) N.strings;
      rising = strings_under b N.strings N.rising;
      such = λ x m. let r = Memᴰ.of_map (begun b) N.strings m in (r.0, sym r.2, N.such r.0 r.1);
      all = λ x h. Memᴰ.cast h.1 (Memᴰ.map (begun b) (N.all h.0 h.2));
      number = length-map N.strings (begun b) ∙ N.number;
    }

-- ---- strings taken away

-- the strings that pass a test
abbrev kept_by : (List ℕ → Bool) → List (List ℕ) → List (List ℕ)
kept_by t [] = []
kept_by t (x ∷ xs) = cond (t x) (x ∷ kept_by t xs) (kept_by t xs)

kept_mem : (t : List ℕ → Bool) (xs : List (List ℕ)) (x : List ℕ) → Memᴰ x (kept_by t xs) → Memᴰ x xs × (t x ≡ true)
kept_mem t [] x m = absurd (Memᴰ.not-nil m)
kept_mem t (y ∷ xs) x m = go (t y) refl (kept_mem t xs x) m
  where
    go : (b : Bool) → t y ≡ b → (Memᴰ x (kept_by t xs) → Memᴰ x xs × (t x ≡ true)) → Memᴰ x (cond b (y ∷ kept_by t xs) (kept_by t xs))
        → Memᴰ x (y ∷ xs) × (t x ≡ true)
    go true e rest m = ⊎_elim (λ q. (Memᴰ.head q, rw q e)) (λ n. let r = rest n in (Memᴰ.tail r.0, r.1)) (Memᴰ.cases_cons m)
    go false e rest m = let r = rest m in (Memᴰ.tail r.0, r.1)

mem_kept : (t : List ℕ → Bool) (xs : List (List ℕ)) (x : List ℕ) → Memᴰ x xs → t x ≡ true → Memᴰ x (kept_by t xs)
mem_kept t [] x m is = absurd (Memᴰ.not-nil m)
mem_kept t (y ∷ xs) x m is = go (t y) refl (λ n. mem_kept t xs x n is) (Memᴰ.cases_cons m)
  where
    go : (b : Bool) → t y ≡ b → (Memᴰ x xs → Memᴰ x (kept_by t xs)) → (x ≡ y) ⊎ Memᴰ x xs → Memᴰ x (cond b (y ∷ kept_by t xs) (kept_by t xs))
    go true e rest (inl q) = Memᴰ.head q
    go true e rest (inr n) = Memᴰ.tail (rest n)
    go false e rest (inl q) = absurd (true≢false (sym is ∙ rw q e))
    go false e rest (inr n) = rest n

kept_rising : (t : List ℕ → Bool) (xs : List (List ℕ)) → Rising xs → Rising (kept_by t xs)
kept_rising t [] h = tt
kept_rising t (y ∷ xs) h = go (t y) (kept_rising t xs h.1)
  where
    go : (b : Bool) → Rising (kept_by t xs) → Rising (cond b (y ∷ kept_by t xs) (kept_by t xs))
    go true g = (mem_after y (kept_by t xs) (λ x m. after_mem y xs h.0 x (kept_mem t xs x m).0), g)
    go false g = g

-- what passes and what does not are all
kept_length : (t : List ℕ → Bool) (xs : List (List ℕ)) → length (kept_by t xs) + length (kept_by (λ x. not (t x)) xs) ≡ length xs
kept_length t [] = refl
kept_length t (y ∷ xs) = go (t y) (kept_length t xs)
  where
    go : (b : Bool) → length (kept_by t xs) + length (kept_by (λ x. not (t x)) xs) ≡ length xs
        → length (cond b (y ∷ kept_by t xs) (kept_by t xs)) + length (cond (not b) (y ∷ kept_by (λ x. not (t x)) xs) (kept_by (λ x. not (t x)) xs)) ≡ suc (length xs)
    go true h = omega arith
    go false h = omega arith

number_kept : (P Q : List ℕ → Type 0) (t : List ℕ → Bool) → ((x : List ℕ) → Decides (t x) (Q x)) → (n : ℕ) (N : NumberOf P n)
    → NumberOf (λ x. P x × Q x) (length (kept_by t N.strings))
number_kept P Q t d n N =
    record {
      strings = kept_by t N.strings;
      rising = kept_rising t N.strings N.rising;
      such = λ x m. let r = kept_mem t N.strings x m in (N.such x r.0, (d x).yes r.1);
      all = λ x h. mem_kept t N.strings x (N.all x h.0) (true_of (t x) (d x) h.1);
      number = refl;
    }

pub number_less : (P Q : List ℕ → Type 0) (t : List ℕ → Bool) → ((x : List ℕ) → Decides (t x) (Q x)) → (n i : ℕ) → NumberOf P n
    → NumberOf (λ x. P x × ¬ Q x) i → NumberOf (λ x. P x × Q x) (n - i)
number_less P Q t d n i N I =
    let J = number_kept P (λ x. ¬ Q x) (λ x. not (t x)) (λ x. decides_not (t x) (d x)) n N in
    let same = number_unique (λ x. P x × ¬ Q x) i (length (kept_by (λ x. not (t x)) N.strings)) I J in
    let left : length (kept_by t N.strings) ≡ n - i = omega (arith, same, kept_length t N.strings, N.number) in
    subst (λ l. NumberOf (λ x. P x × Q x) l) left (number_kept P Q t d n N)

-- ---- the strings of a list taken away

abbrev eq_test : List ℕ → List ℕ → Bool
eq_test x y = ⊎_elim (λ e. true) (λ l. false) (before_total x y)

decides_eq_strings : (x y : List ℕ) → Decides (eq_test x y) (x ≡ y)
decides_eq_strings x y = go (before_total x y)
  where
    go : (b : (x ≡ y) ⊎ ((Before x y) ⊎ (Before y x))) → Decides (⊎_elim (λ e. true) (λ l. false) b) (x ≡ y)
    go (inl e) = decides_true e
    go (inr (inl l)) = decides_false (λ e. before_irrefl y (rw e at l))
    go (inr (inr l)) = decides_false (λ e. before_irrefl y (rw e at l))

abbrev mem_test : List ℕ → List (List ℕ) → Bool
mem_test x [] = false
mem_test x (y ∷ ys) = eq_test x y || mem_test x ys

decides_mem : (x : List ℕ) (ys : List (List ℕ)) → Decides (mem_test x ys) (Memᴰ x ys)
decides_mem x [] = decides_false (λ m. Memᴰ.not-nil m)
decides_mem x (y ∷ ys) =
    decides_iff (λ h. ⊎_elim (λ e. Memᴰ.head e) (λ m. Memᴰ.tail m) h) (λ m. Memᴰ.cases_cons m)
    (decides_or (eq_test x y) (mem_test x ys) (decides_eq_strings x y) (decides_mem x ys))

-- the strings that a rising list has not taken
pub number_rest : (P : List ℕ → Type 0) (n : ℕ) → NumberOf P n → (xs : List (List ℕ)) → Rising xs → ((x : List ℕ) → Memᴰ x xs → P x)
    → NumberOf (λ x. P x × ¬ Memᴰ x xs) (n - length xs)
number_rest P n N xs r h =
    number_less P (λ x. ¬ Memᴰ x xs) (λ x. not (mem_test x xs)) (λ x. decides_not (mem_test x xs) (decides_mem x xs)) n (length xs) N
    (record {
      strings = xs;
      rising = r;
      such = λ x m. (h x m, λ out. out m);
      all = λ x q. here_or x (mem_test x xs) (decides_mem x xs) q.1;
      number = refl;
    })
  where
    here_or : (x : List ℕ) (b : Bool) → Decides b (Memᴰ x xs) → ¬ (¬ Memᴰ x xs) → Memᴰ x xs
    here_or x true d q = d.yes refl
    here_or x false d q = absurd (q (d.no refl))
