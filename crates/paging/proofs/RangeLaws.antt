-- A range of an admitted file: `range_exact`, and its refusals.
--     FoldIs, fold_run              the fold over a reading that runs to its end
--     held_short                    a held key has at most 255 bytes
--     range_fold                    where a range comes to the fold
--     range_exact                   the claim (`RangeExact`)
--     range_long_bound, range_no_room     the only refusals on an admitted file
-- Assumes nothing.
use Rattle.std.specs.Prelude.{◌≡◌, refl, Bool, true, false, cond, ◌&&◌, ◌⊎◌, ℕ, zero, suc, ◌+◌, ◌*◌, ◌≤◌, ◌<◌, leb, length, take, drop}
use Rattle.std.proofs.Common.{sym, ◌∙◌, ap, subst, ⊎_elim, inl, inr, le_refl, arith, take-append-drop, length-take-le, take_all}
use Rattle.format.specs.declared.Refusal.{Refusal}
use mathlib.Core.List.Memᴰ
use mathlib.Core.List.{List, [], ◌∷◌, ◌++◌, map, Memᴰ}
use Prim.{tt}
use borrow.Author.Tests.{le-leb, lt-leb}
use Rattle.format.specs.Limits.{max_path, BOUND, SPACE}
use Rattle.format.specs.Paths.{Fst, fst_of, Held}
use Rattle.format.specs.Admitted.{Admitted, Shallow}
use Rattle.format.specs.Laws.ReachedLaws.{reached_root}
use Rattle.format.specs.Strings.{Before, Bound, Between, AllAfter, Rising}
use Rattle.reading.specs.Reading.{View, bound_bytes, bounds_test, Started, started, start, Answer, end, Step, next}
use Rattle.reading.proofs.RunLaws.{lt_or}
use Rattle.reading.specs.Demand.{Entry, entry, hand_out}
use Rattle.reading.specs.WholeRun.{Runs, run_end, run_key, Whole}
use Rattle.reading.proofs.WholeLaws.{whole, both_false}
use Rattle.reading.proofs.CutLaws.{keys_out}
use Rattle.paging.specs.Paging.{Stop, ended, more, Page, page, refused_page, fold, row_len, room_test, page_from, range}
use Rattle.paging.specs.RangeExact.{RangeExact}
use Rattle.paging.proofs.FoldLaws.{fold_none, fold_key, fold_end}

-- ---- ascending entries, in two parts

after_front : (k : List ℕ) (xs ys : List Entry) → AllAfter k (keys_out (xs ++ ys)) → AllAfter k (keys_out xs)
after_front k [] ys h = tt
after_front k (x ∷ xs) ys h = (h.0, after_front k xs ys h.1)

pub rising_front : (xs ys : List Entry) → Rising (keys_out (xs ++ ys)) → Rising (keys_out xs)
rising_front [] ys h = tt
rising_front (x ∷ xs) ys h = (after_front x.key xs ys h.0, rising_front xs ys h.1)

after_back_lem : (k : List ℕ) (xs ys : List Entry) → AllAfter k (keys_out (xs ++ ys)) → (y : Entry) → Memᴰ y ys → Before k y.key
after_back_lem k [] [] h y on = absurd (Memᴰ.not-nil on)
after_back_lem k [] (z ∷ ys) h y on =
    ⊎_elim (λ (q : y ≡ z). rw q h.0) (λ (g : Memᴰ y ys). after_back_lem k [] ys h.1 y g) (Memᴰ.cases_cons on)
after_back_lem k (x ∷ xs) ys h y on = after_back_lem k xs ys h.1 y on

-- each of the first part comes before each of the second
pub rising_parts : (xs ys : List Entry) → Rising (keys_out (xs ++ ys)) → (x y : Entry) → Memᴰ x xs → Memᴰ y ys → Before x.key y.key
rising_parts [] ys h x y mx my = absurd (Memᴰ.not-nil mx)
rising_parts (z ∷ xs) ys h x y mx my =
    ⊎_elim
    (λ (q : x ≡ z). rw q (after_back_lem z.key xs ys h.0 y my))
    (λ (g : Memᴰ x xs). rising_parts xs ys h.1 x y g my)
    (Memᴰ.cases_cons mx)

pub rising_back : (xs ys : List Entry) → Rising (keys_out (xs ++ ys)) → Rising (keys_out ys)
rising_back [] ys h = h
rising_back (x ∷ xs) ys h = rising_back xs ys h.1

-- ---- the fold over a reading that runs to its end

pub record FoldIs (es : List Entry) (n : ℕ) (p : Page) : Type 0 where
  pub entries : p.entries ≡ take n es
  pub stops : length es < n → p.stop ≡ ended
  pub goes_on : n ≤ length es → p.stop ≡ more

fold_is : {es : List Entry} {n : ℕ} {p q : Page} → p ≡ q → FoldIs es n q → FoldIs es n p
fold_is {es} {n} e h = subst (FoldIs es n) (sym e) h

pub fold_run : {s : List ℕ} {r r' : View} {es : List Entry} → Runs s max_path r es r' → (n : ℕ) → FoldIs es n (fold s r n)
fold_run {s} {r} {r'} {es} runs zero = fold_is (fold_none s r) (record { entries = refl; stops = λ h. absurd (omega arith); goes_on = λ h. refl })
fold_run {s} {r} (run_end is) (suc n) =
    fold_is (fold_end s r n (ap (λ (o : Step). o.answer) is)) (record { entries = refl; stops = λ h. refl; goes_on = λ h. absurd (omega arith) })
fold_run {s} {r} (run_key {r₁ = r₁} e is rest) (suc n) =
    let w = fold_run rest n in
    fold_is (fold_key s r n e.key e.value r₁ (ap (λ (o : Step). o.answer) is) (ap (λ (o : Step). o.reading) is))
    (record { entries = ap (λ (l : List Entry). e ∷ l) w.entries; stops = λ h. w.stops (omega arith); goes_on = λ h. w.goes_on (omega arith) })

-- ---- where a range comes to the fold

pub held_short : {s : List ℕ} (A : Admitted s) {k : List ℕ} {v : ℕ} → Held (fst_of s A.meta) k v → length k ≤ max_path
unfolding Shallow
held_short {s} A {k} h = A.shallow (fst_of s A.meta).root k h.sum h.to (reached_root (fst_of s A.meta)) h.path

-- all the keys between the bounds
abbrev pub all_of : {s : List ℕ} (A : Admitted s) (lo hi : Bound) → length (bound_bytes lo) ≤ max_path → length (bound_bytes hi) ≤ max_path → Whole A lo hi max_path
all_of A lo hi short_lo short_hi = whole A lo hi short_lo short_hi max_path (le_refl max_path)

module _ {s : List ℕ} (A : Admitted s) (lo hi : Bound) (most a b : ℕ) where
  pub range_long_bound : (max_path < length (bound_bytes lo)) ⊎ (max_path < length (bound_bytes hi)) → range s lo hi most a b ≡ refused_page BOUND
  unfolding range
  range_long_bound (inl h) = let x = lt-leb (length (bound_bytes lo)) max_path h in rw (A.opens, x)
  range_long_bound (inr h) =
      let x = lt-leb (length (bound_bytes hi)) max_path h in
      rw (A.opens, x, both_false (leb (length (bound_bytes lo)) max_path))

  module _ (short_lo : length (bound_bytes lo) ≤ max_path) (short_hi : length (bound_bytes hi) ≤ max_path) where
    pub range_no_room : (a < row_len * most) ⊎ (b < most) → range s lo hi most a b ≡ refused_page SPACE
    unfolding range
    range_no_room (inl h) =
        let x = le-leb (length (bound_bytes lo)) max_path short_lo in
        let y = le-leb (length (bound_bytes hi)) max_path short_hi in
        let z = lt-leb (row_len * most) a h in
        rw (A.opens, x, y, z)
    range_no_room (inr h) =
        let x = le-leb (length (bound_bytes lo)) max_path short_lo in
        let y = le-leb (length (bound_bytes hi)) max_path short_hi in
        let z = lt-leb most b h in
        rw (A.opens, x, y, z, both_false (leb (row_len * most) a))

    module _ (row_room : row_len * most ≤ a) (value_room : most ≤ b) where
      pub range_fold : (r : View) → start s lo hi ≡ started r → range s lo hi most a b ≡ fold s r most
      unfolding range
      range_fold r starts =
          let x = le-leb (length (bound_bytes lo)) max_path short_lo in
          let y = le-leb (length (bound_bytes hi)) max_path short_hi in
          let z = le-leb (row_len * most) a row_room in
          let w = le-leb most b value_room in
          rw (A.opens, x, y, z, w, starts)

      abbrev W : Whole A lo hi max_path
      W = all_of A lo hi short_lo short_hi

      -- the first of all the keys between the bounds
      pub range_is : FoldIs W.entries most (range s lo hi most a b)
      range_is = subst (FoldIs W.entries most) (sym (range_fold W.reading W.starts)) (fold_run W.runs most)

      abbrev parts : take most W.entries ++ drop most W.entries ≡ W.entries
      parts = take-append-drop most W.entries

      rising_cut : Rising (keys_out (take most W.entries ++ drop most W.entries))
      rising_cut = subst (λ (l : List Entry). Rising (keys_out l)) (sym parts) W.ascending

      cut_in : (e : Entry) → Memᴰ e (take most W.entries) → Memᴰ e W.entries
      cut_in e on = subst (Memᴰ e) parts (Memᴰ.append_left (drop most W.entries) on)

      in_cut : (k : List ℕ) (v : ℕ) → Memᴰ (entry k v) W.entries → (e : Entry) → Memᴰ e (take most W.entries) → ¬ Before e.key k
          → Memᴰ (entry k v) (take most W.entries)
      in_cut k v on e in_front low =
          ⊎_elim
          (λ (h : Memᴰ (entry k v) (take most W.entries)). h)
          (λ (h : Memᴰ (entry k v) (drop most W.entries)).
          absurd (low (rising_parts (take most W.entries) (drop most W.entries) rising_cut e (entry k v) in_front h)))
          (Memᴰ.append_cases (take most W.entries) (subst (Memᴰ (entry k v)) (sym parts) on))

      exact_by : (p : Page) → FoldIs W.entries most p → RangeExact A lo hi most p
      exact_by p f =
          ⊎_elim (λ (h : length W.entries < most). by_ended h) (λ (h : most ≤ length W.entries). by_more h) (lt_or (length W.entries) most)
        where
          front : (e : Entry) → Memᴰ e p.entries → Memᴰ e (take most W.entries)
          front e on = subst (Memᴰ e) f.entries on

          no_refusal : {why : Stop} → p.stop ≡ why → ((n : Refusal) → ¬ (why ≡ Stop.refused n)) → (n : Refusal) → ¬ (p.stop ≡ Stop.refused n)
          no_refusal is not_it n e = not_it n (sym is ∙ e)

          held_front : (e : Entry) → Memᴰ e p.entries → Held (fst_of s A.meta) e.key e.value × Between lo hi e.key
          held_front e on = W.held e (cut_in e (front e on))

          rising_of : Rising (keys_out p.entries)
          rising_of =
              subst (λ (l : List Entry). Rising (keys_out l)) (sym f.entries) (rising_front (take most W.entries) (drop most W.entries) rising_cut)

          left_out : (k : List ℕ) (v : ℕ) → Held (fst_of s A.meta) k v → Between lo hi k → (e : Entry) → Memᴰ e p.entries → ¬ Before e.key k
              → Memᴰ (entry k v) p.entries
          left_out k v h b e on low = subst (Memᴰ (entry k v)) (sym f.entries) (in_cut k v (W.none_left k v h b) e (front e on) low)

          by_ended : length W.entries < most → RangeExact A lo hi most p
          by_ended h =
              let all : p.entries ≡ W.entries = f.entries ∙ take_all most W.entries (omega arith) in
              let n_is : length p.entries ≡ length W.entries = ap length all in
              let why : p.stop ≡ ended = f.stops h in
              record {
                held = held_front;
                ascending = rising_of;
                none_left_out = left_out;
                at_most = omega arith;
                not_refused = no_refusal why (λ n e. let z : ◌≡◌ {A = ℕ} 0 1 = cc in omega arith);
                ended_fewer = λ e. omega arith;
                fewer_ended = λ l. why;
                ended_none_left = λ e k v held between. subst (Memᴰ (entry k v)) (sym all) (W.none_left k v held between);
                more_all = λ e. let z : ◌≡◌ {A = ℕ} 0 1 = cc in absurd (omega arith);
                all_more = λ l. absurd (omega arith);
              }

          by_more : most ≤ length W.entries → RangeExact A lo hi most p
          by_more h =
              let n_is : length p.entries ≡ most = ap length f.entries ∙ length-take-le most W.entries h in
              let why : p.stop ≡ more = f.goes_on h in
              record {
                held = held_front;
                ascending = rising_of;
                none_left_out = left_out;
                at_most = omega arith;
                not_refused = no_refusal why (λ n e. let z : ◌≡◌ {A = ℕ} 0 1 = cc in omega arith);
                ended_fewer = λ e. let z : ◌≡◌ {A = ℕ} 0 1 = cc in absurd (omega arith);
                fewer_ended = λ l. absurd (omega arith);
                ended_none_left = λ e. let z : ◌≡◌ {A = ℕ} 0 1 = cc in absurd (omega arith);
                more_all = λ e. n_is;
                all_more = λ l. why;
              }

      pub range_exact : RangeExact A lo hi most (range s lo hi most a b)
      range_exact = exact_by (range s lo hi most a b) range_is
