-- A pair put among others, place after place.
--     rest_of b x ys             what is still to be placed: x first where its place was found, else where it belongs
--     Inserting ..              the first j places are settled, and the rest decides
--     inserting-..              at the start, after each of two turns, and at the end
--     Placing .., placing-..    the same of two arrays
-- Assumes nothing.
use mathlib.Core.Path.{◌≡◌, refl, sym, ap, ap₂, ◌∙◌}
use mathlib.Core.Bool.{Bool, true, false, cond, ◌||◌}
use mathlib.Core.List.{List, [], ◌∷◌, ◌++◌, append_assoc}
use Prim.Native.Nat.{ℕ, zero, suc, ◌+◌, ◌-◌, ◌<◌, ◌≤◌}
use native.Mathlib.Omega.{arith}
use native.Mathlib.Numerals.{add-one}
use borrow.Author.Tests.{lt-ltb, le-ltb, eq-eqb, ne_eqb}
use lib.Dec.{ltb}
use lib.ListN.{length, take, drop, get_or, set, replicate, length-set, get_or-append, drop_of_length-le}
use lib.Seq.{drop-cons, get_or-drop, take-suc, take-suc-set, drop-set-lt, set_split, drop-drop, drop_at, append_snoc, length-take-le}
use Rattle.ops_spec.specs.Ops.{Indexed, indexed, sooner, insert}
use Rattle.ops_spec.specs.OpsPairsLaws.{insert_length}
use Rattle.ops_pairs.specs.declared.Pairs.{Pairs}
use Rattle.ops_pairs.specs.Pairs.{padded, pairs_in, PairsAre}
use Rattle.ops_pairs.specs.PairsLaws.{in_length, in_at, in_set}

abbrev pub rest_of : Bool → Indexed → List Indexed → List Indexed
rest_of true x ys = x ∷ ys
rest_of false x ys = insert x ys

pub record Inserting (x : Indexed) (ps Z : List Indexed) (found : Bool) (y : Indexed) (j : ℕ) : Type 0 where
  pub eight : length Z ≡ 8
  pub rest : insert x ps ≡ take j Z ++ rest_of found y (drop j ps)
  pub back : drop j Z ≡ drop j (padded ps)

pub inserting_none : (x : Indexed) (ps Z : List Indexed) → length Z ≡ 8 → Z ≡ padded ps → Inserting x ps Z false x 0
inserting_none x ps Z len e = record { eight = len; rest = refl; back = e }

module _ (x : Indexed) (ps Z : List Indexed) (found : Bool) (y : Indexed) (j : ℕ) (small : length ps < 8) (I : Inserting x ps Z found y j) where
  -- the pair at place j
  at_place : j < length ps → get_or Z j (indexed 0 0) ≡ get_or ps j (indexed 0 0)
  at_place h =
      let zero_more : j + 0 ≡ j = omega arith in
      let one = get_or-drop j Z 0 (indexed 0 0) in
      let two = get_or-drop j (padded ps) 0 (indexed 0 0) in
      ap (λ (i : ℕ). get_or Z i (indexed 0 0)) (sym zero_more) ∙ sym one ∙ ap (λ (l : List Indexed). get_or l 0 (indexed 0 0)) I.back ∙ two
      ∙ ap (λ (i : ℕ). get_or (padded ps) i (indexed 0 0)) zero_more ∙ get_or-append ps (replicate (8 - length ps) (indexed 0 0)) (indexed 0 0) j h

  rest_cons : j < length ps → drop j ps ≡ get_or Z j (indexed 0 0) ∷ drop (j + 1) ps
  rest_cons h = drop-cons ps j (indexed 0 0) h ∙ rw (at_place h, ← add-one j)

  back_on : j < length ps → drop (j + 1) Z ≡ drop (j + 1) (padded ps)
  back_on h = sym (drop-drop 1 j Z) ∙ ap (drop 1) I.back ∙ drop-drop 1 j (padded ps)

  -- its place is found
  put_first : (z : Indexed) (zs : List Indexed) → (found || sooner y z) ≡ true → rest_of found y (z ∷ zs) ≡ y ∷ z ∷ zs
  unfolding insert
  put_first z zs e = by found e
    where
      by : (b : Bool) → (b || sooner y z) ≡ true → rest_of b y (z ∷ zs) ≡ y ∷ z ∷ zs
      by true q = refl
      by false q = ap (λ (t : Bool). cond t (y ∷ z ∷ zs) (z ∷ insert y zs)) q

  pub inserting_put : j < length ps → (found || sooner y (get_or Z j (indexed 0 0))) ≡ true → Inserting x ps (set Z j y) true (get_or Z j (indexed 0 0)) (j + 1)
  inserting_put h e =
      let eight = I.eight in
      record {
        eight = length-set Z j y ∙ eight;
        rest =
            I.rest
            ∙ ap (λ (l : List Indexed). take j Z ++ rest_of found y l) (rest_cons h)
            ∙ ap (λ (l : List Indexed). take j Z ++ l) (put_first (get_or Z j (indexed 0 0)) (drop (j + 1) ps) e)
            ∙ sym (append_assoc (take j Z) (y ∷ []) (get_or Z j (indexed 0 0) ∷ drop (j + 1) ps))
            ∙ ap (λ (l : List Indexed). l ++ (get_or Z j (indexed 0 0) ∷ drop (j + 1) ps)) (sym (take-suc-set Z j y (omega arith)) ∙ ap (λ (i : ℕ). take i (set Z j y)) (sym (add-one j)));
        back = drop-set-lt (j + 1) Z j y (omega arith) ∙ back_on h;
      }

  -- it comes later
  put_later : (z : Indexed) (zs : List Indexed) → (found || sooner y z) ≡ false → rest_of found y (z ∷ zs) ≡ z ∷ rest_of found y zs
  unfolding insert
  put_later z zs e = by found e
    where
      by : (b : Bool) → (b || sooner y z) ≡ false → rest_of b y (z ∷ zs) ≡ z ∷ rest_of b y zs
      by true q = let w : ◌≡◌ {A = ℕ} 0 1 = cc in absurd (omega arith)
      by false q = ap (λ (t : Bool). cond t (y ∷ z ∷ zs) (z ∷ insert y zs)) q

  pub inserting_pass : j < length ps → (found || sooner y (get_or Z j (indexed 0 0))) ≡ false → Inserting x ps Z found y (j + 1)
  inserting_pass h e =
      let eight = I.eight in
      record {
        eight = eight;
        rest =
            I.rest
            ∙ ap (λ (l : List Indexed). take j Z ++ rest_of found y l) (rest_cons h)
            ∙ ap (λ (l : List Indexed). take j Z ++ l) (put_later (get_or Z j (indexed 0 0)) (drop (j + 1) ps) e)
            ∙ sym (append_assoc (take j Z) (get_or Z j (indexed 0 0) ∷ []) (rest_of found y (drop (j + 1) ps)))
            ∙ ap (λ (l : List Indexed). l ++ rest_of found y (drop (j + 1) ps)) (sym (take-suc Z j (indexed 0 0) (omega arith)) ∙ ap (λ (i : ℕ). take i Z) (sym (add-one j)));
        back = back_on h;
      }

  rest_none : rest_of found y [] ≡ y ∷ []
  unfolding insert
  rest_none = by found
    where
      by : (b : Bool) → rest_of b y [] ≡ y ∷ []
      by true = refl
      by false = refl

  pub inserting_all : j ≡ length ps → set Z j y ≡ padded (insert x ps)
  inserting_all same =
      let eight = I.eight in
      let none_left : drop j ps ≡ [] = drop_of_length-le ps {i = j} (omega arith) in
      let whole : insert x ps ≡ take j Z ++ (y ∷ []) = I.rest ∙ ap (λ (l : List Indexed). take j Z ++ rest_of found y l) none_left ∙ ap (λ (l : List Indexed). take j Z ++ l) rest_none in
      let zeros : drop j Z ≡ replicate (8 - length ps) (indexed 0 0) = I.back ∙ drop_at ps (replicate (8 - length ps) (indexed 0 0)) j (sym same) in
      let one : 8 - length ps ≡ suc (8 - length (insert x ps)) = omega (arith, insert_length x ps) in
      let back : drop (suc j) Z ≡ replicate (8 - length (insert x ps)) (indexed 0 0) =
      ap (λ (i : ℕ). drop i Z) (sym (add-one j)) ∙ sym (drop-drop 1 j Z) ∙ ap (drop 1) (zeros ∙ ap (λ (i : ℕ). replicate i (indexed 0 0)) one) in
      set_split Z j y (omega arith)
      ∙ sym (append_assoc (take j Z) (y ∷ []) (drop (suc j) Z))
      ∙ ap₂ (λ (a b : List Indexed). a ++ b) (sym whole) back

-- ---- in two arrays

pub record Placing (value file n : ℕ) (vs₀ fs₀ vs fs : List ℕ) (v f : ℕ) (found : Bool) (j : ℕ) : Type 0 where
  pub within : j ≤ n
  pub small : n < 8
  pub values_len : length vs ≡ 8
  pub files_len : length fs ≡ 8
  pub inserting : (ps : List Indexed) → n ≡ length ps → pairs_in vs₀ fs₀ ≡ padded ps → Inserting (indexed value file) ps (pairs_in vs fs) found (indexed v f) j

pub placing_none : (value file n : ℕ) (vs fs : List ℕ) → n < 8 → length vs ≡ 8 → length fs ≡ 8 → Placing value file n vs fs vs fs value file false 0
placing_none value file n vs fs small lv lf =
    record {
      within = omega arith;
      small = small;
      values_len = lv;
      files_len = lf;
      inserting = λ ps is e. inserting_none (indexed value file) ps (pairs_in vs fs) (in_length vs fs (lv ∙ sym lf) ∙ lv) e;
    }

module _ (value file n : ℕ) (vs₀ fs₀ vs fs : List ℕ) (v f : ℕ) (found : Bool) (j : ℕ) (P : Placing value file n vs₀ fs₀ vs fs v f found j) where
  place_is : j < n → get_or (pairs_in vs fs) j (indexed 0 0) ≡ indexed (get_or vs j 0) (get_or fs j 0)
  place_is h =
      let small = P.small in
      let a = P.values_len in
      let b = P.files_len in
      in_at vs fs j (indexed 0 0) (omega arith) (omega arith)

  pub placing_put : j < n → (found || sooner (indexed v f) (indexed (get_or vs j 0) (get_or fs j 0))) ≡ true
      → Placing value file n vs₀ fs₀ (set vs j v) (set fs j f) (get_or vs j 0) (get_or fs j 0) true (j + 1)
  placing_put h e =
      record {
        within = omega arith;
        small = P.small;
        values_len = length-set vs j v ∙ P.values_len;
        files_len = length-set fs j f ∙ P.files_len;
        inserting = λ ps is z.
            let small = P.small in
            let I = P.inserting ps is z in
            let at = place_is h in
            let t : (found || sooner (indexed v f) (get_or (pairs_in vs fs) j (indexed 0 0))) ≡ true = rw at e in
            let w = inserting_put (indexed value file) ps (pairs_in vs fs) found (indexed v f) j (omega arith) I (omega arith) t in
            rw (in_set vs fs j v f) (rw at at w);
      }

  pub placing_pass : j < n → (found || sooner (indexed v f) (indexed (get_or vs j 0) (get_or fs j 0))) ≡ false → Placing value file n vs₀ fs₀ vs fs v f found (j + 1)
  placing_pass h e =
      record {
        within = omega arith;
        small = P.small;
        values_len = P.values_len;
        files_len = P.files_len;
        inserting = λ ps is z.
            let small = P.small in
            let I = P.inserting ps is z in
            let at = place_is h in
            let t : (found || sooner (indexed v f) (get_or (pairs_in vs fs) j (indexed 0 0))) ≡ false = rw at e in
            inserting_pass (indexed value file) ps (pairs_in vs fs) found (indexed v f) j (omega arith) I (omega arith) t;
      }

  pub placing_all : n ≤ j → (p : Pairs) → p.count ≡ n → p.values ≡ vs₀ → p.files ≡ fs₀ → (ps : List Indexed) → PairsAre ps p
      → PairsAre (insert (indexed value file) ps) (record { count = n + 1; values = set vs n v; files = set fs n f })
  placing_all h p c a b ps are =
      let within = P.within in
      let small = P.small in
      let same : j ≡ n = omega arith in
      let is : n ≡ length ps = sym c ∙ are.count in
      let I = P.inserting ps is (ap₂ pairs_in (sym a) (sym b) ∙ are.pairs) in
      record {
        count = omega (arith, insert_length (indexed value file) ps);
        values_len = length-set vs n v ∙ P.values_len;
        files_len = length-set fs n f ∙ P.files_len;
        pairs = in_set vs fs n v f ∙ ap (λ (i : ℕ). set (pairs_in vs fs) i (indexed v f)) (sym same)
            ∙ inserting_all (indexed value file) ps (pairs_in vs fs) found (indexed v f) j (omega arith) I (same ∙ is);
      }
