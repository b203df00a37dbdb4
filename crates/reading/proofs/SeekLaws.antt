-- A start from a lower bound, on a fine file: it is not refused, and it has still to make the visits that meet the bound.
--     meets c lo k             the string k meets the lower bound lo, which is included (c = true) or excluded
--     Over x v                 the first byte of a visit's string is above x
--     kept-..                  what is kept of lists of visits
--     Here, Away, kept_row     what is kept of a row: the bound's first byte is an input of it, or is not
--     Stands, Comes            a node on the bound's way, and what a start that goes on from there has still to visit
--     SeekCome, start_come     the whole start
-- Assumes nothing.
use Prim.{tt}
use Rattle.std.specs.Prelude.{◌≡◌, Bool, true, false, not, ◌⊎◌, ltb, length, drop}
use Rattle.std.proofs.Math.Path.{refl, sym, ap}
use Rattle.std.proofs.Common.{◌∙◌, ⊎_elim, zero-add, add_assoc, drop-cons}
use Rattle.std.proofs.Math.Bool.{cond}
use Rattle.std.proofs.Math.Logic.{inl, inr}
use mathlib.Core.List.{List, [], ◌∷◌, ◌++◌, map, append_assoc, append-nil}
use Prim.Native.Nat.{ℕ, zero, suc, ◌+◌, ◌-◌, ◌≤◌, ◌<◌}
use Rattle.std.proofs.Math.Decide.{dec_lt}
use Rattle.std.proofs.Math.Numerals.{add-one}
use native.Mathlib.Omega.{arith}
use borrow.Author.Tests.{lt-ltb, le-ltb, le-leb, eq-eqb, ne_eqb}
use Rattle.format.specs.declared.Transition.{Transition}
use Rattle.format.specs.Limits.{max_path, max_sum}
use Rattle.format.specs.Node.{Node, sound, Place, at, absent, find_from, first_above, Search, find_input, transition_at}
use Rattle.format.specs.Laws.NodeFacts.{node_ascending}
use Rattle.format.specs.Paths.{Fst, node_in}
use Rattle.format.specs.Strings.{Bound, unbounded, included, excluded, before_test}
use Rattle.format.specs.Laws.TransitionLaws.{Ascend, AllAbove, ascend_tail, ascend_head, above_tail, above_all, search_none, at_member, find_input_member}
use Rattle.reading.specs.Reading.{meets_test, bound_bytes, is_inclusive, Level, level_with, path_of, key_of, got, last_levels, seek}
use Rattle.reading.specs.Visits.{Visit, under, visit_by, row, transitions_at, below, rest, to_come, Fine, Sane, AllV, kept}
use Rattle.reading.proofs.VisitLaws.{below_full}
use Rattle.reading.specs.VisitLists.{all_append, all_imp, all_under, map_append, map_under, map_nil, key_push, below_rest, fine_node}

-- ---- a fact of every visit

abbrev pub Over : ℕ → Visit → Type 0
Over x v = (y : ℕ) × (ys : List ℕ) × (v.key ≡ y ∷ ys) × (x < y)

-- ---- transitions by their inputs

find_above : (k : ℕ) (ts : List Transition) (b : ℕ) → AllAbove b ts → find_from k ts b ≡ absent
unfolding find_from
find_above k [] b h = refl
find_above k (t ∷ ts) b h = rw (ne_eqb t.inp b (λ e. omega (arith, h 0 (omega arith)))) (find_above (k + 1) ts b (above_tail t ts b h))

module _ (sub : ℕ → List Visit) (f : Fst) where
  pub row_over : (x : ℕ) (ts : List Transition) → AllAbove x ts → AllV (Over x) (row sub f ts)
  row_over x [] h = tt
  row_over x (t ∷ ts) h =
      let l : x < t.inp = h 0 (omega arith) in (
        (t.inp, [], refl, l),
        all_append (Over x) (map (under (t.inp ∷ []) t.out) (sub t.addr)) (row sub f ts)
            (all_under (Over x) (t.inp ∷ []) t.out (λ v. (t.inp, v.key, refl, l)) (sub t.addr))
            (row_over x ts (above_tail t ts x h)),
      )

-- ---- a string and a lower bound, byte by byte

abbrev pub meets : Bool → List ℕ → List ℕ → Bool
meets true lo k = not (before_test k lo)
meets false lo k = before_test lo k

meets_low : (c : Bool) (b x : ℕ) (lo k : List ℕ) → x < b → meets c (b ∷ lo) (x ∷ k) ≡ false
unfolding before_test
meets_low true b x lo k h = simp (lt-ltb x b h)
meets_low false b x lo k h =
    let g : ltb b x ≡ false = le-ltb b x (omega arith) in
    simp (g, lt-ltb x b h)

meets_high : (c : Bool) (b x : ℕ) (lo k : List ℕ) → b < x → meets c (b ∷ lo) (x ∷ k) ≡ true
unfolding before_test
meets_high true b x lo k h =
    let g : ltb x b ≡ false = le-ltb x b (omega arith) in
    simp (g, lt-ltb b x h)
meets_high false b x lo k h = simp (lt-ltb b x h)

meets_same : (c : Bool) (b : ℕ) (lo k : List ℕ) → meets c (b ∷ lo) (b ∷ k) ≡ meets c lo k
unfolding before_test
meets_same true b lo k = let g : ltb b b ≡ false = le-ltb b b (omega arith) in simp g
meets_same false b lo k = let g : ltb b b ≡ false = le-ltb b b (omega arith) in simp g

-- every string but the empty one meets an empty bound, and the empty one meets no other bound
meets_all : (c : Bool) (k : List ℕ) → ¬ (k ≡ []) → meets c [] k ≡ true
unfolding before_test
meets_all c [] h = absurd (h refl)
meets_all true (x ∷ k) h = refl
meets_all false (x ∷ k) h = refl

meets_nil : (c : Bool) (b : ℕ) (lo : List ℕ) → meets c (b ∷ lo) [] ≡ false
unfolding before_test
meets_nil true b lo = refl
meets_nil false b lo = refl

-- ---- what is kept

pub kept_append : (P : List ℕ → Bool) (xs ys : List Visit) → kept P (xs ++ ys) ≡ kept P xs ++ kept P ys
kept_append P [] ys = refl
kept_append P (x ∷ xs) ys = by (P x.key) (kept_append P xs ys)
  where
    by : (b : Bool) → kept P (xs ++ ys) ≡ kept P xs ++ kept P ys → cond b (x ∷ kept P (xs ++ ys)) (kept P (xs ++ ys)) ≡ cond b (x ∷ kept P xs) (kept P xs) ++ kept P ys
    by true e = ap (λ (r : List Visit). x ∷ r) e
    by false e = e

pub kept_all : (P : List ℕ → Bool) (xs : List Visit) → AllV (λ v. P v.key ≡ true) xs → kept P xs ≡ xs
kept_all P [] h = refl
kept_all P (x ∷ xs) h = rw (h.0, kept_all P xs h.1)

pub kept_unbounded : (xs : List Visit) → kept (meets_test unbounded) xs ≡ xs
kept_unbounded [] = refl
kept_unbounded (x ∷ xs) = ap (λ (r : List Visit). x ∷ r) (kept_unbounded xs)

-- under a byte below the bound's first none, under that byte those that meet the rest, and above it all
kept_low : (c : Bool) (b x o : ℕ) (lo : List ℕ) → x < b → (xs : List Visit) → kept (meets c (b ∷ lo)) (map (under (x ∷ []) o) xs) ≡ []
kept_low c b x o lo h [] = refl
kept_low c b x o lo h (v ∷ vs) = rw (meets_low c b x lo v.key h, kept_low c b x o lo h vs)

kept_same : (c : Bool) (b o : ℕ) (lo : List ℕ) (xs : List Visit)
    → kept (meets c (b ∷ lo)) (map (under (b ∷ []) o) xs) ≡ map (under (b ∷ []) o) (kept (meets c lo) xs)
kept_same c b o lo [] = refl
kept_same c b o lo (x ∷ xs) = rw (meets_same c b lo x.key) (by (meets c lo x.key) (kept_same c b o lo xs))
  where
    by : (t : Bool) → kept (meets c (b ∷ lo)) (map (under (b ∷ []) o) xs) ≡ map (under (b ∷ []) o) (kept (meets c lo) xs)
        → cond t (under (b ∷ []) o x ∷ kept (meets c (b ∷ lo)) (map (under (b ∷ []) o) xs)) (kept (meets c (b ∷ lo)) (map (under (b ∷ []) o) xs))
        ≡ map (under (b ∷ []) o) (cond t (x ∷ kept (meets c lo) xs) (kept (meets c lo) xs))
    by true e = ap (λ (r : List Visit). under (b ∷ []) o x ∷ r) e
    by false e = e

kept_over : (c : Bool) (b : ℕ) (lo : List ℕ) (xs : List Visit) → AllV (Over b) xs → kept (meets c (b ∷ lo)) xs ≡ xs
kept_over c b lo xs h =
    kept_all (meets c (b ∷ lo)) xs (all_imp (Over b) (λ v. meets c (b ∷ lo) v.key ≡ true) (λ v o. rw o.2 (meets_high c b o.0 lo o.1 o.3)) xs h)

kept_below : (c : Bool) (d : ℕ) (f : Fst) (a : ℕ) → kept (meets c []) (below d f a) ≡ below d f a
kept_below c d f a = kept_all (meets c []) (below d f a) (all_imp (λ v. ¬ (v.key ≡ [])) (λ v. meets c [] v.key ≡ true) (λ v. meets_all c v.key) (below d f a) (below_full d f a))

-- ---- what is kept of a row

module _ (sub : ℕ → List Visit) (f : Fst) (c : Bool) (b : ℕ) (lo : List ℕ) where
  -- by the transition t that takes the bound's first byte, and the transitions ts after it: t's own visit where it meets the bound,
  -- what meets the rest of the bound below t, and all by ts
  abbrev onward : Transition → List Transition → List Visit
  onward t ts = cond (meets c lo []) (visit_by f t ∷ []) [] ++ (map (under (b ∷ []) t.out) (kept (meets c lo) (sub t.addr)) ++ row sub f ts)

  record Here (k : ℕ) (ts : List Transition) : Type 0 where
    place : ℕ
    within : place < length ts
    found : find_from k ts b ≡ at (k + place)
    keeps : kept (meets c (b ∷ lo)) (row sub f ts) ≡ onward (transition_at ts place) (drop (suc place) ts)

  record Away (k : ℕ) (ts : List Transition) : Type 0 where
    none : find_from k ts b ≡ absent
    keeps : kept (meets c (b ∷ lo)) (row sub f ts) ≡ row sub f (drop (first_above ts b) ts)

  row_low : (t : Transition) (ts : List Transition) → t.inp < b → kept (meets c (b ∷ lo)) (row sub f (t ∷ ts)) ≡ kept (meets c (b ∷ lo)) (row sub f ts)
  row_low t ts h =
      rw (meets_low c b t.inp lo [] h)
      (kept_append (meets c (b ∷ lo)) (map (under (t.inp ∷ []) t.out) (sub t.addr)) (row sub f ts)
      ∙ ap (λ (r : List Visit). r ++ kept (meets c (b ∷ lo)) (row sub f ts)) (kept_low c b t.inp t.out lo h (sub t.addr)))

  row_high : (ts : List Transition) → AllAbove b ts → kept (meets c (b ∷ lo)) (row sub f ts) ≡ row sub f ts
  row_high ts h = kept_over c b lo (row sub f ts) (row_over sub f b ts h)

  cond_front : (t : Bool) (v : Visit) (vs : List Visit) → cond t (v ∷ vs) vs ≡ cond t (v ∷ []) [] ++ vs
  cond_front true v vs = refl
  cond_front false v vs = refl

  row_same : (t : Transition) (ts : List Transition) → t.inp ≡ b → AllAbove b ts → kept (meets c (b ∷ lo)) (row sub f (t ∷ ts)) ≡ onward t ts
  row_same t ts z h =
      let later : List Visit = map (under (b ∷ []) t.out) (kept (meets c lo) (sub t.addr)) ++ row sub f ts in
      let o : kept (meets c (b ∷ lo)) (map (under (t.inp ∷ []) t.out) (sub t.addr) ++ row sub f ts) ≡ later =
      kept_append (meets c (b ∷ lo)) (map (under (t.inp ∷ []) t.out) (sub t.addr)) (row sub f ts)
      ∙ ap (λ (r : List Visit). kept (meets c (b ∷ lo)) (map (under (t.inp ∷ []) t.out) (sub t.addr)) ++ r) (row_high ts h)
      ∙ ap (λ (x : ℕ). kept (meets c (b ∷ lo)) (map (under (x ∷ []) t.out) (sub t.addr)) ++ row sub f ts) z
      ∙ ap (λ (r : List Visit). r ++ row sub f ts) (kept_same c b t.out lo (sub t.addr)) in
      let m : meets c (b ∷ lo) (t.inp ∷ []) ≡ meets c lo [] = ap (λ (x : ℕ). meets c (b ∷ lo) (x ∷ [])) z ∙ meets_same c b lo [] in
      ap (λ (r : List Visit). cond (meets c (b ∷ lo) (t.inp ∷ [])) (visit_by f t ∷ r) r) o
      ∙ ap (λ (x : Bool). cond x (visit_by f t ∷ later) later) m
      ∙ cond_front (meets c lo []) (visit_by f t) later

  kept_row : (k : ℕ) (ts : List Transition) → Ascend ts → Here k ts ⊎ Away k ts
  unfolding find_from first_above
  kept_row k [] asc = inr (record { none = refl; keeps = refl })
  kept_row k (t ∷ ts) asc = go (kept_row (k + 1) ts (ascend_tail t ts asc)) (dec_lt t.inp b) (dec_lt b t.inp)
    where
      go : Here (k + 1) ts ⊎ Away (k + 1) ts → Dec (t.inp < b) → Dec (b < t.inp) → Here k (t ∷ ts) ⊎ Away k (t ∷ ts)
      go (inl w) (yes h) q =
          let e : k + 1 + w.place ≡ k + suc w.place = omega arith in
          inl (record {
            place = suc w.place;
            within = omega (arith, w.within);
            found = rw (ne_eqb t.inp b (λ z. omega arith)) (w.found ∙ ap Place.at e);
            keeps = row_low t ts h ∙ w.keeps;
          })
      go (inr w) (yes h) q =
          inr (record {
            none = rw (ne_eqb t.inp b (λ z. omega arith)) w.none;
            keeps = row_low t ts h ∙ rw (le-ltb b t.inp (omega arith)) w.keeps;
          })
      go w (no h) (yes q) =
          inr (record {
            none = find_above k (t ∷ ts) b (above_all t ts b q asc);
            keeps = rw (lt-ltb b t.inp q) (row_high (t ∷ ts) (above_all t ts b q asc));
          })
      go w (no h) (no q) =
          let z : t.inp ≡ b = omega arith in
          let e : k ≡ k + 0 = omega arith in
          inl (record {
            place = 0;
            within = omega arith;
            found = rw (eq-eqb t.inp b z) (ap Place.at e);
            keeps = row_same t ts z (λ i l. omega (arith, ascend_head t ts asc i l));
          })

-- ---- a node on the bound's way

-- s are the levels below it, each left behind one place further on. own is the visit to the node itself, and nothing at the root: where
-- an included bound ends here, own comes next.
record Stands (f : Fst) (a i sum : ℕ) (s : List Level) (own : List Visit) : Type 0 where
  short : length s ≤ max_path
  fine : Fine (max_path - length s) f a sum
  sane : Sane f s
  end_sane : Sane f (last_levels true (level_with a i 0 sum) s)
  end_come : to_come f (last_levels true (level_with a i 0 sum) s)
      ≡ own ++ (map (under (key_of (level_with a i 0 sum ∷ s)) sum) (below (max_path - length s) f a) ++ to_come f s)

-- own where it meets the bound, what meets the rest of the bound below the node, and then what the levels s have
record Comes (f : Fst) (c : Bool) (a i sum : ℕ) (s : List Level) (lo : List ℕ) (own : List Visit) : Type 0 where
  levels : List Level
  seeks : seek f c a i sum s lo ≡ got levels
  sane : Sane f levels
  comes : to_come f levels
      ≡ cond (meets c lo []) own [] ++ (map (under (key_of (level_with a i 0 sum ∷ s)) sum) (kept (meets c lo) (below (max_path - length s) f a)) ++ to_come f s)

-- the bound ends at the node
seek_end : (f : Fst) (c : Bool) (a i sum : ℕ) (s : List Level) (own : List Visit) → Stands f a i sum s own → Comes f c a i sum s [] own
unfolding seek path_of before_test
seek_end f true a i sum s own st =
    let m = fine_node (max_path - length s) f a sum st.fine in
    let fits : sum ≤ max_sum = omega (arith, m.2) in
    record {
      levels = last_levels true (level_with a i 0 sum) s;
      seeks = rw (m.1, le-leb sum max_sum fits);
      sane = st.end_sane;
      comes = rw (kept_below true (max_path - length s) f a) st.end_come;
    }
seek_end f false a i sum s own st =
    let m = fine_node (max_path - length s) f a sum st.fine in
    let fits : sum ≤ max_sum = omega (arith, m.2) in
    record {
      levels = level_with a i 0 sum ∷ s;
      seeks = rw (m.1, le-leb sum max_sum fits);
      sane = (st.short, st.fine, st.sane);
      comes = rw (kept_below false (max_path - length s) f a, below_rest (max_path - length s) f a);
    }

own_map : (x : Bool) (p : List ℕ) (o : ℕ) (v : Visit) (vs ws : List Visit)
    → cond x (under p o v ∷ []) [] ++ (map (under p o) vs ++ ws) ≡ map (under p o) (cond x (v ∷ []) [] ++ vs) ++ ws
own_map true p o v vs ws = refl
own_map false p o v vs ws = refl

-- the way goes on by the transition at place p, which takes the bound's next byte
module _ (f : Fst) (a i sum : ℕ) (s : List Level) (d : ℕ) (deep : max_path - length s ≡ suc d) (m : Node) (e : node_in f a ≡ sound m) (b p : ℕ)
    (l : p < length m.transitions) (is : (transition_at m.transitions p).inp ≡ b) where
  abbrev by_p : Transition
  by_p = transition_at m.transitions p

  abbrev left : List Level
  left = level_with a i (p + 1) sum ∷ s

  abbrev later : List Visit
  later = row (below d f) f (drop (suc p) m.transitions)

  abbrev key_here : List ℕ
  key_here = key_of (level_with a i 0 sum ∷ s)

  abbrev own_p : List Visit
  own_p = under key_here sum (visit_by f by_p) ∷ []

  left_come : to_come f left ≡ map (under key_here sum) later ++ to_come f s
  unfolding path_of
  left_come = rw (deep, e, add-one p)

  go_on : (xs : List Visit)
      → map (under (key_of (level_with by_p.addr b 0 (sum + by_p.out) ∷ left)) (sum + by_p.out)) xs ++ to_come f left
      ≡ map (under key_here sum) (map (under (b ∷ []) by_p.out) xs ++ later) ++ to_come f s
  unfolding path_of
  go_on xs =
      ap (λ (k : List ℕ). map (under k (sum + by_p.out)) xs ++ to_come f left) (key_push (level_with by_p.addr b 0 (sum + by_p.out)) (level_with a i (p + 1) sum) s)
      ∙ ap (λ (r : List Visit). r ++ to_come f left) (sym (map_under key_here (b ∷ []) sum by_p.out xs))
      ∙ ap (λ (r : List Visit). map (under key_here sum) (map (under (b ∷ []) by_p.out) xs) ++ r) left_come
      ∙ sym (append_assoc (map (under key_here sum) (map (under (b ∷ []) by_p.out) xs)) (map (under key_here sum) later) (to_come f s))
      ∙ ap (λ (r : List Visit). r ++ to_come f s) (sym (map_append key_here sum (map (under (b ∷ []) by_p.out) xs) later))

  here_rest : rest (max_path - length s) f a p ≡ visit_by f by_p ∷ (map (under (b ∷ []) by_p.out) (below d f by_p.addr) ++ later)
  here_rest =
      rw (deep, e, drop-cons m.transitions p (record { inp = 0; out = 0; addr = 0 }) l)
      (ap (λ (x : ℕ). visit_by f by_p ∷ (map (under (x ∷ []) by_p.out) (below d f by_p.addr) ++ later)) is)

  stands_on : Fine d f by_p.addr (sum + by_p.out) → Sane f (level_with a i 0 sum ∷ s) → Stands f by_p.addr b (sum + by_p.out) left own_p
  unfolding path_of
  stands_on fine sane =
      let deeper : max_path - suc (length s) ≡ d = omega arith in
      let back : p + 1 - 1 ≡ p = omega arith in
      record {
        short = omega arith;
        fine = rw deeper fine;
        sane = sane;
        end_sane = sane;
        end_come =
            ap (λ (q : ℕ). to_come f (level_with a i q sum ∷ s)) back
            ∙ ap (λ (r : List Visit). map (under key_here sum) r ++ to_come f s) here_rest
            ∙ ap (λ (r : List Visit). own_p ++ r) (sym (go_on (below d f by_p.addr)))
            ∙ rw deeper;
      }

  comes_on : (c : Bool) (lo : List ℕ) (own : List Visit) → sum ≤ max_sum → find_input m.transitions b ≡ Search.at p
      → kept (meets c (b ∷ lo)) (row (below d f) f m.transitions) ≡ onward (below d f) f c b lo by_p (drop (suc p) m.transitions)
      → Comes f c by_p.addr b (sum + by_p.out) left lo own_p
      → Comes f c a i sum s (b ∷ lo) own
  unfolding seek path_of
  comes_on c lo own fits found keeps w =
      let deeper : max_path - suc (length s) ≡ d = omega arith in
      let xs : List Visit = kept (meets c lo) (below d f by_p.addr) in
      record {
        levels = w.levels;
        seeks = rw (e, le-leb sum max_sum fits, found) w.seeks;
        sane = w.sane;
        comes =
            w.comes
            ∙ ap
            (λ (q : ℕ).
            cond (meets c lo []) own_p []
            ++ (map (under (key_of (level_with by_p.addr b 0 (sum + by_p.out) ∷ left)) (sum + by_p.out)) (kept (meets c lo) (below q f by_p.addr)) ++ to_come f left))
            deeper
            ∙ ap (λ (r : List Visit). cond (meets c lo []) own_p [] ++ r) (go_on xs)
            ∙ own_map (meets c lo []) key_here sum (visit_by f by_p) (map (under (b ∷ []) by_p.out) xs ++ later) (to_come f s)
            ∙ sym (rw (meets_nil c b lo, deep, e, keeps));
      }

-- no transition takes the bound's next byte
comes_away : (f : Fst) (c : Bool) (a i sum : ℕ) (s : List Level) (m : Node) (b p : ℕ) (lo : List ℕ) (own : List Visit)
    → Sane f (level_with a i 0 sum ∷ s) → node_in f a ≡ sound m → sum ≤ max_sum → find_input m.transitions b ≡ Search.absent p
    → kept (meets c (b ∷ lo)) (below (max_path - length s) f a) ≡ rest (max_path - length s) f a p
    → Comes f c a i sum s (b ∷ lo) own
unfolding seek path_of
comes_away f c a i sum s m b p lo own sane e fits none keeps =
    record {
      levels = level_with a i p sum ∷ s;
      seeks = rw (e, le-leb sum max_sum fits, none);
      sane = sane;
      comes = sym (rw (meets_nil c b lo, keeps));
    }

-- a byte more of the bound; next is the start that goes on from the node which it leads to
seek_step : (f : Fst) (c : Bool) (a i sum : ℕ) (s : List Level) (b : ℕ) (lo : List ℕ) (own : List Visit) → Stands f a i sum s own
    → ((a' sum' : ℕ) (s' : List Level) (own' : List Visit) → Stands f a' b sum' s' own' → Comes f c a' b sum' s' lo own')
    → Comes f c a i sum s (b ∷ lo) own
seek_step f c a i sum s b lo own st next = by (max_path - length s) refl
  where
    sane : Sane f (level_with a i 0 sum ∷ s)
    sane = (st.short, st.fine, st.sane)

    by : (d : ℕ) → max_path - length s ≡ d → Comes f c a i sum s (b ∷ lo) own
    by zero deep =
        let m : Fine 0 f a sum = rw deep at st.fine in
        comes_away f c a i sum s m.0 b 0 lo own sane m.1 (omega (arith, m.2)) (rw m.3 (search_none b)) (rw deep)
    by (suc d) deep =
        let m : Fine (suc d) f a sum = rw deep at st.fine in
        let fits : sum ≤ max_sum = omega (arith, m.2) in
        let ts : List Transition = m.0.transitions in
        ⊎_elim
        (λ (w : Here (below d f) f c b lo 0 ts).
        let p : ℕ = w.place in
        let found : find_input ts b ≡ Search.at p = let here : find_from 0 ts b ≡ at p = w.found ∙ ap Place.at (zero-add p) in rw here in
        let is : (transition_at ts p).inp ≡ b = (find_input_member ts b p found).1 in
        let t : Transition = transition_at ts p in
        comes_on f a i sum s d deep m.0 m.1 b p w.within is c lo own fits found w.keeps
        (next t.addr (sum + t.out) _ _ (stands_on f a i sum s d deep m.0 m.1 b p w.within is (m.3 t (at_member ts p w.within)) sane)))
        (λ (w : Away (below d f) f c b lo 0 ts). comes_away f c a i sum s m.0 b (first_above ts b) lo own sane m.1 fits (rw w.none) (rw (deep, m.1) w.keeps))
        (kept_row (below d f) f c b lo 0 ts (node_ascending f a m.0 m.1))

seek_come : (lo : List ℕ) (f : Fst) (c : Bool) (a i sum : ℕ) (s : List Level) (own : List Visit) → Stands f a i sum s own → Comes f c a i sum s lo own
seek_come [] f c a i sum s own st = seek_end f c a i sum s own st
seek_come (b ∷ lo) f c a i sum s own st = seek_step f c a i sum s b lo own st (λ a' sum' s' own' st'. seek_come lo f c a' b sum' s' own' st')

-- ---- the whole start

stands_root : (f : Fst) (a : ℕ) → Fine max_path f a 0 → Stands f a 0 0 [] []
unfolding path_of
stands_root f a fine =
    record {
      short = omega arith;
      fine = fine;
      sane = tt;
      end_sane = (omega arith, fine, tt);
      end_come = rw (below_rest max_path f a);
    }

pub record SeekCome (f : Fst) (a : ℕ) (lo : Bound) : Type 0 where
  pub levels : List Level
  pub seeks : seek f (is_inclusive lo) a 0 0 [] (bound_bytes lo) ≡ got levels
  pub sane : Sane f levels
  pub comes : to_come f levels ≡ kept (meets_test lo) (below max_path f a)

cond_nil : (x : Bool) → ◌≡◌ {A = List Visit} (cond x [] []) []
cond_nil true = refl
cond_nil false = refl

come_root : (f : Fst) (c : Bool) (a : ℕ) (lo : List ℕ) (w : Comes f c a 0 0 [] lo []) → to_come f w.levels ≡ kept (meets c lo) (below max_path f a)
unfolding path_of
come_root f c a lo w =
    let xs : List Visit = kept (meets c lo) (below max_path f a) in
    w.comes ∙ ap (λ (r : List Visit). r ++ (map (under [] 0) xs ++ [])) (cond_nil (meets c lo [])) ∙ append-nil (map (under [] 0) xs) ∙ map_nil xs

-- on a fine file a start is not refused, and has still to make exactly the visits that meet the bound
pub start_come : (f : Fst) (a : ℕ) (lo : Bound) → Fine max_path f a 0 → SeekCome f a lo
start_come f a unbounded h =
    let w = seek_come [] f true a 0 0 [] [] (stands_root f a h) in
    record {
      levels = w.levels;
      seeks = w.seeks;
      sane = w.sane;
      comes = come_root f true a [] w ∙ kept_below true max_path f a ∙ sym (kept_unbounded (below max_path f a));
    }
start_come f a (included b) h =
    let w = seek_come b f true a 0 0 [] [] (stands_root f a h) in
    record { levels = w.levels; seeks = w.seeks; sane = w.sane; comes = come_root f true a b w }
start_come f a (excluded b) h =
    let w = seek_come b f false a 0 0 [] [] (stands_root f a h) in
    record { levels = w.levels; seeks = w.seeks; sane = w.sane; comes = come_root f false a b w }
