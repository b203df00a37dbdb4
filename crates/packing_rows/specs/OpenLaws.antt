-- Laws of open nodes as levels: the deepest is finished first, and a new key leaves at the depth up to which it goes along them.
--     close_deepest        finishing the deepest node leaves what closing gives as it is
--     insert_levels        a key more, by the depth where it leaves
--     levels_same          levels that agree
-- Assumes nothing.
use Rattle.std.specs.Prelude.{◌≡◌, refl, Bool, true, false, cond, ◌⊎◌, List, [], ◌∷◌, ◌++◌, map, eqb, ltb, drop}
use Rattle.std.proofs.Common.{sym, ap₂, ◌∙◌, inl, inr, add-zero, zero-add, length-drop, drop-cons}
use Rattle.std.proofs.Math.Path.{ap, subst}
use Rattle.std.proofs.Math.Logic.{⊎_elim}
use Rattle.std.proofs.Math.Option.{Option, none, some}
use Prim.Native.Nat.{ℕ, zero, suc, ◌+◌, ◌-◌, ◌≤◌, ◌<◌}
use Rattle.std.proofs.Math.Nat.{sub-zero}
use native.Mathlib.Omega.{arith}
use borrow.Author.Tests.{eq-eqb, ne_eqb, lt-ltb, le-ltb}
use Rattle.std.proofs.Math.ListN.{length, get_or}
use Rattle.std.proofs.Math.Seq.{drop-length}
use Rattle.packing.specs.Registry.{Build, Interned, intern}
use Rattle.packing.specs.Packing.{Arc, Open, least_at, record_of, with_arc, Closed, finish, finish_with, close, State, state_with, open_key, under, branch, insert}
use Rattle.packing.proofs.CloseLaws.{Grows, grows_trans, grows_none, close_grows}
use Rattle.packing_rows.specs.WorkTables.{levels, Joined, joined, join, close_into}

-- ---- levels

pub levels_same : (f g : ℕ → Open) (d n : ℕ) → ((j : ℕ) → d ≤ j → j < d + n → f j ≡ g j) → levels f d n ≡ levels g d n
unfolding levels
levels_same f g d zero same = refl
levels_same f g d (suc n) same =
    ap₂ (λ (o : Open) (s : List Open). o ∷ s) (same d (omega arith) (omega arith)) (levels_same f g (d + 1) n (λ j l h. same j (omega arith) (omega arith)))

pub levels_suc : (f : ℕ → Open) (d n : ℕ) → 0 < n → levels f d n ≡ f d ∷ levels f (d + 1) (n - 1)
unfolding levels
levels_suc f d zero h = absurd (omega arith)
levels_suc f d (suc n) h = let e : suc n - 1 ≡ n = omega arith in rw e

-- the bytes that lead along the levels
pub levels_inputs : (f : ℕ → Open) (d : ℕ) (bs : List ℕ) → ((j : ℕ) → j < length bs → (f (d + j)).inp ≡ get_or bs j 0)
    → map (λ (o : Open). o.inp) (levels f d (length bs)) ≡ bs
unfolding levels
levels_inputs f d [] same = refl
levels_inputs f d (b ∷ bs) same =
    let first : (f d).inp ≡ b = subst (λ (i : ℕ). (f i).inp ≡ b) (add-zero d) (same 0 (omega arith)) in
    ap₂ (λ (x : ℕ) (l : List ℕ). x ∷ l) first
    (levels_inputs f (d + 1) bs (λ j h. let e : d + suc j ≡ d + 1 + j = omega arith in subst (λ (i : ℕ). (f i).inp ≡ get_or bs j 0) e (same (suc j) (omega arith))))

-- ---- the deepest node is finished first

abbrev pub closed_with : Build → Arc → Closed
closed_with B a = record { build = B; arc = a }

module _ (f g : ℕ → Open) (B B' : Build) (a : Arc) (k e : ℕ) (done : finish B (f k) ≡ closed_with B' a) (added : g e ≡ with_arc (f e) a)
    (same : (j : ℕ) → j < e → g j ≡ f j) where
  close_levels : (m n : ℕ) → m + suc n ≡ k → m + n ≡ e → close B (f m) (levels f (m + 1) (suc n)) ≡ close B' (g m) (levels g (m + 1) n)
  unfolding close levels
  close_levels m zero at above =
      let here : m + 1 ≡ k = omega arith in
      let there : m ≡ e = omega arith in
      ap (finish_with (f m)) (subst (λ (i : ℕ). finish B (f i) ≡ closed_with B' a) (sym here) done)
      ∙ ap (finish B') (sym (subst (λ (i : ℕ). g i ≡ with_arc (f i) a) (sym there) added))
  close_levels m (suc n) at above =
      ap (finish_with (f m)) (close_levels (m + 1) n (omega arith) (omega arith))
      ∙ ap (λ (o : Open). finish_with o (close B' (g (m + 1)) (levels g (m + 1 + 1) n))) (sym (same m (omega arith)))

  pub close_deepest : (m n : ℕ) → m + suc n ≡ k → m + n ≡ e → close_into B (f m) (levels f (m + 1) (suc n)) ≡ close_into B' (g m) (levels g (m + 1) n)
  unfolding close levels
  close_deepest m zero at above =
      let here : m + 1 ≡ k = omega arith in
      let there : m ≡ e = omega arith in
      ap (join (f m)) (subst (λ (i : ℕ). finish B (f i) ≡ closed_with B' a) (sym here) done)
      ∙ ap (joined B') (sym (subst (λ (i : ℕ). g i ≡ with_arc (f i) a) (sym there) added))
  close_deepest m (suc n) at above =
      ap (join (f m)) (close_levels (m + 1) n (omega arith) (omega arith))
      ∙ ap (λ (o : Open). join o (close B' (g (m + 1)) (levels g (m + 1 + 1) n))) (sym (same m (omega arith)))

-- nodes are only added
pub close_into_grows : (B : Build) (o : Open) (s : List Open) → Grows B.nodes (close_into B o s).build.nodes
close_into_grows B o [] = grows_none B.nodes
close_into_grows B o (p ∷ s) = close_grows B p s

-- what finishing the deepest node writes is among the nodes at the end
pub finish_into_grows : (f : ℕ → Open) (B : Build) (m n k : ℕ) → m + suc n ≡ k → Grows (finish B (f k)).build.nodes (close_into B (f m) (levels f (m + 1) (suc n))).build.nodes
finish_into_grows f B m n k at =
    let c : Closed = finish B (f k) in
    let e : ℕ = m + n in
    let g : ℕ → Open = λ (j : ℕ). cond (eqb j e) (with_arc (f e) c.arc) (f j) in
    subst (λ (J : Joined). Grows c.build.nodes J.build.nodes)
    (sym (close_deepest f g B c.build c.arc k e refl (rw (eq-eqb e e refl)) (λ j l. rw (ne_eqb j e (λ z. omega arith))) m n at refl))
    (close_into_grows c.build (g m) (levels g (m + 1) n))

-- ---- a key more

drop_one : (l : List ℕ) (j : ℕ) → j < length l → drop j l ≡ get_or l j 0 ∷ drop (j + 1) l
drop_one l j h = let e : j + 1 ≡ suc j = omega arith in rw e (drop-cons l j 0 h)

-- the open node at depth j along a new key
abbrev pub new_open : List ℕ → ℕ → ℕ → Open
new_open key v j = record { inp = get_or key (j - 1) 0; value = cond (eqb j (length key)) (some v) none; arcs = [] }

pub levels_new : (g : ℕ → Open) (key : List ℕ) (v : ℕ) (q d : ℕ) → d + suc q ≡ length key → ((j : ℕ) → d < j → j ≤ length key → g j ≡ new_open key v j)
    → levels g (d + 1) (suc q) ≡ open_key (get_or key d 0) (drop (d + 1) key) v
unfolding levels open_key
levels_new g key v zero d at new =
    let e : d + 1 - 1 ≡ d = omega arith in
    let last : eqb (d + 1) (length key) ≡ true = eq-eqb (d + 1) (length key) (omega arith) in
    let none_left : drop (d + 1) key ≡ [] = subst (λ (n : ℕ). drop n key ≡ []) (let w : length key ≡ d + 1 = omega arith in w) (drop-length key) in
    rw (none_left, new (d + 1) (omega arith) (omega arith), e, last)
levels_new g key v (suc q) d at new =
    let e : d + 1 - 1 ≡ d = omega arith in
    let more : eqb (d + 1) (length key) ≡ false = ne_eqb (d + 1) (length key) (λ z. omega arith) in
    let rest = levels_new g key v q (d + 1) (omega arith) (λ j l h. new j (omega arith) h) in
    rw (drop_one key (d + 1) (omega arith), new (d + 1) (omega arith) (omega arith), e, more)
    (ap (λ (s : List Open). record { inp = get_or key d 0; value = none; arcs = [] } ∷ s) rest)

module _ (B : Build) (f h : ℕ → Open) (key : List ℕ) (v : ℕ) (e n : ℕ) (J : Joined) (low : e ≤ n) (goes : e < length key)
    (leaves : (e ≡ n) ⊎ ¬ ((f (e + 1)).inp ≡ get_or key e 0)) (agree : (j : ℕ) → j < e → (f (j + 1)).inp ≡ get_or key j 0)
    (same : (j : ℕ) → j < e → h j ≡ f j) (closed : close_into B (f e) (levels f (e + 1) (n - e)) ≡ J) (top : h e ≡ J.top)
    (new : levels h (e + 1) (length key - e) ≡ open_key (get_or key e 0) (drop (e + 1) key) v) where
  leave : (r : ℕ) → n - e ≡ r → insert B (f e) (levels f (e + 1) r) (get_or key e 0 ∷ drop (e + 1) key) v ≡ state_with J.build (h e) (levels h (e + 1) (length key - e))
  unfolding insert levels
  leave zero is =
      let j : joined B (f e) ≡ J = subst (λ (r : ℕ). close_into B (f e) (levels f (e + 1) r) ≡ J) is closed in
      rw (new, top) (ap (λ (t : Joined). state_with t.build t.top (open_key (get_or key e 0) (drop (e + 1) key) v)) j)
  leave (suc r) is =
      let j : join (f e) (close B (f (e + 1)) (levels f (e + 1 + 1) r)) ≡ J = subst (λ (r : ℕ). close_into B (f e) (levels f (e + 1) r) ≡ J) is closed in
      let other : ¬ ((f (e + 1)).inp ≡ get_or key e 0) = ⊎_elim (λ z. absurd (omega arith)) (λ z. z) leaves in
      rw (ne_eqb (f (e + 1)).inp (get_or key e 0) other, new, top) (ap (λ (t : Joined). state_with t.build t.top (open_key (get_or key e 0) (drop (e + 1) key) v)) j)

  insert_from : (m d : ℕ) → d + m ≡ e → insert B (f d) (levels f (d + 1) (n - d)) (drop d key) v ≡ state_with J.build (h d) (levels h (d + 1) (length key - d))
  unfolding insert levels
  insert_from zero d at =
      let is : d ≡ e = omega arith in
      rw (is, drop_one key e goes) (leave (n - e) refl)
  insert_from (suc m) d at =
      let r : n - d ≡ suc (n - (d + 1)) = omega arith in
      let q : length key - d ≡ suc (length key - (d + 1)) = omega arith in
      rw (r, q, drop_one key d (omega arith), eq-eqb (f (d + 1)).inp (get_or key d 0) (agree d (omega arith)))
      (ap (under (f d)) (insert_from m (d + 1) (omega arith)) ∙ ap (λ (o : Open). state_with J.build o (h (d + 1) ∷ levels h (d + 1 + 1) (length key - (d + 1)))) (sym (same d (omega arith))))

  pub insert_levels : insert B (f 0) (levels f 1 n) key v ≡ state_with J.build (h 0) (levels h 1 (length key))
  insert_levels = rw (sub-zero, sub-zero, zero-add) at (insert_from e 0 (zero-add e))

-- what is written by then
module _ (B : Build) (f : ℕ → Open) (key : List ℕ) (v : ℕ) (e n : ℕ) (low : e ≤ n) (goes : e < length key) (leaves : (e ≡ n) ⊎ ¬ ((f (e + 1)).inp ≡ get_or key e 0))
    (agree : (j : ℕ) → j < e → (f (j + 1)).inp ≡ get_or key j 0) where
  abbrev J₀ : Joined
  J₀ = close_into B (f e) (levels f (e + 1) (n - e))

  abbrev after : ℕ → Open
  after j = cond (ltb j e) (f j) (cond (eqb j e) J₀.top (new_open key v j))

  after_new : (j : ℕ) → e < j → j ≤ length key → after j ≡ new_open key v j
  after_new j l h = rw (le-ltb j e (omega arith), ne_eqb j e (λ z. omega arith))

  after_top : after e ≡ J₀.top
  after_top = rw (le-ltb e e (omega arith), eq-eqb e e refl)

  pub insert_build : (insert B (f 0) (levels f 1 n) key v).build ≡ J₀.build
  insert_build =
      let q : length key - e ≡ suc (length key - e - 1) = omega arith in
      ap (λ (t : State). t.build)
      (insert_levels B f after key v e n J₀ low goes leaves agree (λ j l. rw (lt-ltb j e l)) refl after_top
      (ap (levels after (e + 1)) q ∙ levels_new after key v (length key - e - 1) e (omega arith) after_new))
