-- The values that an item has are exactly those of its key in the lanes, by value and then by lane number.
--     HasIn L i k v          lane i of L has k with v
--     LanePairs L k ps       ps are the values of k with their lane numbers, in order: all of them
--     pairs_right            `pairs_in` is these
-- Assumes nothing.
use Prim.{Unit, tt}
use Rattle.std.specs.Prelude.{◌≡◌, refl, Bool, true, false, cond, ◌&&◌, ◌||◌, ◌⊎◌, ℕ, zero, suc, ◌+◌, ◌<◌, ◌≤◌, ltb, eqb, length}
use Rattle.std.proofs.Common.{sym, ◌∙◌, ap, ap₂, subst, ⊎_elim, inl, inr, arith}
use Rattle.std.proofs.Math.Option.{Option, none, some}
use mathlib.Core.List.Memᴰ
use mathlib.Core.List.{List, [], ◌∷◌, map, Memᴰ}
use Rattle.buffers.specs.Decide.{Decides}
use Rattle.buffers.specs.DecideLaws.{decides_and, decides_or, decides_lt, decides_eq}
use Rattle.format.specs.Strings.{Before, AllAfter, Rising}
use Rattle.format.specs.Laws.StringLaws.{before_irrefl}
use Rattle.reading.proofs.RunLaws.{lt_or}
use Rattle.reading.specs.Demand.{Entry, entry}
use Rattle.ops_spec.specs.Ops.{Slot, used, holds, ended, Card, card_key, Indexed, indexed, if_holds, same_test, insert, sooner, pairs_from}
use Rattle.ops_spec.specs.OpsDemand.{Sooner, SoonerThanAll, InOrder}
use Rattle.ops_spec.specs.OpsLists.{Lanes, lane_keys, AllRising, value_in, put, pairs_in}
use Rattle.ops_spec.specs.OpsListsLaws.{decides_same_key, same_true, same_false}
use Rattle.ops_spec.specs.OpsRoundLaws.{FromOn, insert_index, pairs_index}

pub data HasIn : Lanes → ℕ → List ℕ → ℕ → Type 0 where
  first : {es : List Entry} {L : Lanes} {k : List ℕ} {v : ℕ} → Memᴰ (entry k v) es → HasIn (es ∷ L) 0 k v
  further : {es : List Entry} {L : Lanes} {i : ℕ} {k : List ℕ} {v : ℕ} → HasIn L i k v → HasIn (es ∷ L) (suc i) k v

pub record LanePairs (L : Lanes) (k : List ℕ) (ps : List Indexed) : Type 0 where
  pub in_order : InOrder ps
  pub such : (x : Indexed) → Memᴰ x ps → HasIn L x.index k x.value
  pub all : (i v : ℕ) → HasIn L i k v → Memᴰ (indexed v i) ps

-- ---- insertion

decides_sooner : (x y : Indexed) → Decides (sooner x y) (Sooner x y)
decides_sooner x y =
    decides_or (ltb x.value y.value) (eqb x.value y.value && ltb x.index y.index) (decides_lt x.value y.value)
    (decides_and (eqb x.value y.value) (ltb x.index y.index) (decides_eq x.value y.value) (decides_lt x.index y.index))

pub sooner_trans : (x y z : Indexed) → Sooner x y → Sooner y z → Sooner x z
sooner_trans x y z (inl a) (inl b) = inl (omega arith)
sooner_trans x y z (inl a) (inr b) = inl (omega (arith, b.0))
sooner_trans x y z (inr a) (inl b) = inl (omega (arith, a.0))
sooner_trans x y z (inr a) (inr b) = inr (a.0 ∙ b.0, omega (arith, a.1, b.1))

sooner_all : (x y : Indexed) (ps : List Indexed) → Sooner x y → SoonerThanAll y ps → SoonerThanAll x ps
sooner_all x y [] s a = tt
sooner_all x y (z ∷ ps) s a = (sooner_trans x y z s a.0, sooner_all x y ps s a.1)

-- of two with different numbers one is sooner
sooner_other : (x y : Indexed) → x.index < y.index → ¬ Sooner x y → Sooner y x
sooner_other x y h ns =
    ⊎_elim (λ (a : y.value < x.value). inl a)
    (λ (a : x.value ≤ y.value). ⊎_elim (λ (b : x.value < y.value). absurd (ns (inl b))) (λ (b : y.value ≤ x.value). absurd (ns (inr (omega arith, h)))) (lt_or x.value y.value))
    (lt_or y.value x.value)

insert_sooner : (z x : Indexed) (ps : List Indexed) → Sooner z x → SoonerThanAll z ps → SoonerThanAll z (insert x ps)
unfolding insert
insert_sooner z x [] s a = (s, tt)
insert_sooner z x (y ∷ ys) s a = by (insert_sooner z x ys s a.1) (sooner x y)
  where
    by : SoonerThanAll z (insert x ys) → (b : Bool) → SoonerThanAll z (cond b (x ∷ y ∷ ys) (y ∷ insert x ys))
    by more true = (s, (a.0, a.1))
    by more false = (a.0, more)

insert_in_order : (x : Indexed) (ps : List Indexed) → FromOn (x.index + 1) ps → InOrder ps → InOrder (insert x ps)
unfolding insert
insert_in_order x [] f h = (tt, tt)
insert_in_order x (y ∷ ys) f h = by (insert_in_order x ys f.1 h.1) (sooner x y) (decides_sooner x y)
  where
    by : InOrder (insert x ys) → (b : Bool) → Decides b (Sooner x y) → InOrder (cond b (x ∷ y ∷ ys) (y ∷ insert x ys))
    by more true d = let s = d.yes refl in ((s, sooner_all x y ys s h.0), (h.0, h.1))
    by more false d = (insert_sooner y x ys (sooner_other x y (omega (arith, f.0)) (d.no refl)) h.0, more)

insert_cases : (x z : Indexed) (ps : List Indexed) → Memᴰ z (insert x ps) → (z ≡ x) ⊎ Memᴰ z ps
unfolding insert
insert_cases x z [] m = Memᴰ.cases_cons m
insert_cases x z (y ∷ ys) m = by (λ n. insert_cases x z ys n) (sooner x y) m
  where
    by : (Memᴰ z (insert x ys) → (z ≡ x) ⊎ Memᴰ z ys) → (b : Bool) → Memᴰ z (cond b (x ∷ y ∷ ys) (y ∷ insert x ys)) → (z ≡ x) ⊎ Memᴰ z (y ∷ ys)
    by more true n = Memᴰ.cases_cons n
    by more false n = ⊎_elim (λ (e : z ≡ y). inr (Memᴰ.head e)) (λ q. ⊎_elim (λ e. inl e) (λ r. inr (Memᴰ.tail r)) (more q)) (Memᴰ.cases_cons n)

insert_here : (x : Indexed) (ps : List Indexed) → Memᴰ x (insert x ps)
unfolding insert
insert_here x [] = Memᴰ.head refl
insert_here x (y ∷ ys) = by (insert_here x ys) (sooner x y)
  where
    by : Memᴰ x (insert x ys) → (b : Bool) → Memᴰ x (cond b (x ∷ y ∷ ys) (y ∷ insert x ys))
    by more true = Memᴰ.head refl
    by more false = Memᴰ.tail more

insert_still : (x z : Indexed) (ps : List Indexed) → Memᴰ z ps → Memᴰ z (insert x ps)
unfolding insert
insert_still x z [] m = absurd (Memᴰ.not-nil m)
insert_still x z (y ∷ ys) m = by (λ n. insert_still x z ys n) (sooner x y)
  where
    by : (Memᴰ z ys → Memᴰ z (insert x ys)) → (b : Bool) → Memᴰ z (cond b (x ∷ y ∷ ys) (y ∷ insert x ys))
    by more true = Memᴰ.tail m
    by more false = ⊎_elim (λ (e : z ≡ y). Memᴰ.head e) (λ n. Memᴰ.tail (more n)) (Memᴰ.cases_cons m)

-- ---- one lane

value_mem : (k : List ℕ) (v : ℕ) (es : List Entry) → value_in k es ≡ some v → Memᴰ (entry k v) es
value_mem k v [] h = let z : ◌≡◌ {A = ℕ} 0 1 = cc in absurd (omega arith)
value_mem k v (e ∷ es) h = by (λ q. value_mem k v es q) (same_test e.key k) (decides_same_key e.key k) h
  where
    by : (value_in k es ≡ some v → Memᴰ (entry k v) es) → (b : Bool) → Decides b (e.key ≡ k) → cond b (some e.value) (value_in k es) ≡ some v → Memᴰ (entry k v) (e ∷ es)
    by more true d q = let w : e.value ≡ v = cc in Memᴰ.head (sym (ap₂ entry (d.yes refl) w))
    by more false d q = Memᴰ.tail (more q)

after_mem : (k l : List ℕ) (v : ℕ) (es : List Entry) → AllAfter k (lane_keys es) → Memᴰ (entry l v) es → Before k l
after_mem k l v [] a m = absurd (Memᴰ.not-nil m)
after_mem k l v (e ∷ es) a m =
    ⊎_elim (λ (q : entry l v ≡ e). subst (λ (x : List ℕ). Before k x) (sym (ap (λ (x : Entry). x.key) q)) a.0) (λ n. after_mem k l v es a.1 n) (Memᴰ.cases_cons m)

mem_value : (k : List ℕ) (v : ℕ) (es : List Entry) → Rising (lane_keys es) → Memᴰ (entry k v) es → value_in k es ≡ some v
mem_value k v [] h m = absurd (Memᴰ.not-nil m)
mem_value k v (e ∷ es) h m = by (λ n. mem_value k v es h.1 n) (same_test e.key k) (decides_same_key e.key k) (Memᴰ.cases_cons m)
  where
    by : (Memᴰ (entry k v) es → value_in k es ≡ some v) → (b : Bool) → Decides b (e.key ≡ k) → (entry k v ≡ e) ⊎ Memᴰ (entry k v) es
        → cond b (some e.value) (value_in k es) ≡ some v
    by more true d (inl q) = ap (λ (x : Entry). some x.value) (sym q)
    by more true d (inr n) = absurd (before_irrefl k (subst (λ (x : List ℕ). Before x k) (d.yes refl) (after_mem e.key k v es h.0 n)))
    by more false d (inl q) = absurd (d.no refl (ap (λ (x : Entry). x.key) (sym q)))
    by more false d (inr n) = more n

-- ---- all lanes

pub pairs_in_order : (i : ℕ) (k : List ℕ) (L : Lanes) → InOrder (pairs_in i k L)
pairs_in_order i k [] = tt
pairs_in_order i k (es ∷ L) = by (pairs_in_order (i + 1) k L) (value_in k es)
  where
    by : InOrder (pairs_in (i + 1) k L) → (o : Option ℕ) → InOrder (put i o (pairs_in (i + 1) k L))
    by more none = more
    by more (some v) = insert_in_order (indexed v i) (pairs_in (i + 1) k L) (pairs_index (i + 1) k L) more

pub pairs_such : (i : ℕ) (k : List ℕ) (L : Lanes) (x : Indexed) → Memᴰ x (pairs_in i k L) → (j : ℕ) × (x.index ≡ i + j) × HasIn L j k x.value
pairs_such i k [] x m = absurd (Memᴰ.not-nil m)
pairs_such i k (es ∷ L) x m = by (λ n. pairs_such (i + 1) k L x n) (value_in k es) refl m
  where
    later : (j : ℕ) × (x.index ≡ i + 1 + j) × HasIn L j k x.value → (j : ℕ) × (x.index ≡ i + j) × HasIn (es ∷ L) j k x.value
    later w = (suc w.0, omega (arith, w.1), further w.2)

    by : (Memᴰ x (pairs_in (i + 1) k L) → (j : ℕ) × (x.index ≡ i + 1 + j) × HasIn L j k x.value) → (o : Option ℕ) → value_in k es ≡ o
        → Memᴰ x (put i o (pairs_in (i + 1) k L)) → (j : ℕ) × (x.index ≡ i + j) × HasIn (es ∷ L) j k x.value
    by more none q n = later (more n)
    by more (some v) q n =
        ⊎_elim
        (λ (e : x ≡ indexed v i).
        let a : x.index ≡ i = ap (λ (y : Indexed). y.index) e in
        let b : v ≡ x.value = ap (λ (y : Indexed). y.value) (sym e) in
        (0, omega arith, first (value_mem k x.value es (q ∙ ap (λ (y : ℕ). some y) b))))
        (λ r. later (more r))
        (insert_cases (indexed v i) x (pairs_in (i + 1) k L) n)

put_still : (i : ℕ) (o : Option ℕ) (x : Indexed) (ps : List Indexed) → Memᴰ x ps → Memᴰ x (put i o ps)
put_still i none x ps m = m
put_still i (some v) x ps m = insert_still (indexed v i) x ps m

pub pairs_all : (i : ℕ) (L : Lanes) (j : ℕ) (k : List ℕ) (v : ℕ) → AllRising L → HasIn L j k v → Memᴰ (indexed v (i + j)) (pairs_in i k L)
pairs_all i _ _ k v h (first {es} {L} m) =
    let e = mem_value k v es h.0 m in
    let z : i + 0 ≡ i = omega arith in
    rw (e, z) (insert_here (indexed v i) (pairs_in (i + 1) k L))
pairs_all i _ _ k v h (further {es} {L} {i = j} w) =
    let z : i + 1 + j ≡ i + suc j = omega arith in
    put_still i (value_in k es) (indexed v (i + suc j)) (pairs_in (i + 1) k L) (subst (λ (y : ℕ). Memᴰ (indexed v y) (pairs_in (i + 1) k L)) z (pairs_all (i + 1) L j k v h.1 w))

pub pairs_right : (k : List ℕ) (L : Lanes) → AllRising L → LanePairs L k (pairs_in 0 k L)
pairs_right k L h =
    record {
      in_order = pairs_in_order 0 k L;
      such = λ x m.
          let w = pairs_such 0 k L x m in
          let e : w.0 ≡ x.index = omega (arith, w.1) in
          subst (λ (j : ℕ). HasIn L j k x.value) e w.2;
      all = λ i v w. let z : 0 + i ≡ i = omega arith in subst (λ (y : ℕ). Memᴰ (indexed v y) (pairs_in 0 k L)) z (pairs_all 0 L i k v h w);
    }

-- ---- how many there are

pub insert_length : (x : Indexed) (ps : List Indexed) → length (insert x ps) ≡ suc (length ps)
unfolding insert
insert_length x [] = refl
insert_length x (y ∷ ys) = by (sooner x y) (insert_length x ys)
  where
    by : (b : Bool) → length (insert x ys) ≡ suc (length ys) → length (cond b (x ∷ y ∷ ys) (y ∷ insert x ys)) ≡ suc (suc (length ys))
    by true h = refl
    by false h = ap suc h

-- a value for each card at most
pub pairs_most : (i : ℕ) (k : List ℕ) (cs : List Card) → length (pairs_from i k cs) ≤ length cs
unfolding pairs_from
pairs_most i k [] = omega arith
pairs_most i k (c ∷ cs) = by c.slot (pairs_most (i + 1) k cs)
  where
    more : (b : Bool) (v : ℕ) → length (pairs_from (i + 1) k cs) ≤ length cs
        → length (cond b (insert (indexed v i) (pairs_from (i + 1) k cs)) (pairs_from (i + 1) k cs)) ≤ suc (length cs)
    more true v h = omega (arith, insert_length (indexed v i) (pairs_from (i + 1) k cs))
    more false v h = omega arith

    by : (x : Slot) → length (pairs_from (i + 1) k cs) ≤ length cs
        → length
        (if_holds x (λ v. cond (same_test (card_key c) k) (insert (indexed v i) (pairs_from (i + 1) k cs)) (pairs_from (i + 1) k cs)) (pairs_from (i + 1) k cs))
        ≤ suc (length cs)
    by used h = omega arith
    by (holds v) h = more (same_test (card_key c) k) v h
    by ended h = omega arith
