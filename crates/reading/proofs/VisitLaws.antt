-- Laws of `Visits`: the visits below a fine node strictly ascend, and they are the non-empty paths from it; on an admitted file the root is
-- fine, its visits are the strings that begin held keys, and the final ones are the held keys.
--     all-.., kept-..                         facts of each visit; the visits that pass a test
--     By, row_by, by_row                      a visit of a row: by one transition, to its target or further below
--     below_full, below_rising                no visit is empty; they strictly ascend
--     PathTo, visit_path, path_visit          visits and paths
--     fine_root                               the nodes of an admitted file
--     visit_begins, begins_visit, visit_held, held_visit     visits and held keys of an admitted file
-- Assumes nothing.
use Prim.{Unit, tt}
use Rattle.std.specs.Prelude.{◌≡◌, refl, Bool, true, false, cond, ◌⊎◌, ℕ, zero, suc, ◌+◌, ◌<◌, length}
use Rattle.std.proofs.Common.{sym, ap, ◌∙◌, subst, inl, inr, ⊎_elim, add-zero, arith, length-append}
use mathlib.Core.List.{List, [], ◌∷◌, ◌++◌, map, Memᴰ}
use Rattle.std.proofs.Math.Decide.{ℕ_discrete}
use Rattle.format.specs.declared.Transition.{Transition}
use Rattle.format.specs.Limits.{max_path}
use Rattle.format.specs.Node.{Node, sound, transition_at}
use Rattle.format.specs.Paths.{Fst, fst_of, node_in, Path, here, follow, Held}
use Rattle.format.specs.Admitted.{Admitted}
use Rattle.format.specs.Strings.{Before, shorter, lower, later, Begins, nothing, byte}
use Rattle.format.specs.Laws.NodeLaws.{node_at_blank}
use Rattle.format.specs.Laws.StringLaws.{begins_append}
use Rattle.format.specs.Laws.TransitionLaws.{member_at}
use Rattle.format.specs.Laws.NodeFacts.{node_ascending}
use Rattle.format.specs.Laws.PathLaws.{path_nil, path_step, path_append, path_snoc, path_split, path_ends_low}
use Rattle.format.specs.Laws.ChainLaws.{root_chain_root, root_chain_low}
use Rattle.format.specs.Laws.LiveLaws.{FinalFrom, final_zero, target_below_root, live_below_root, leads_to_final, path_stays}
use Rattle.format.specs.Laws.ReachedLaws.{path_reached}
use Rattle.reading.specs.Visits.{Visit, under, visit_by, row, transitions_at, below, Fine, AllV, RisingV, kept}
use Rattle.reading.specs.VisitLists.{fine_node}

-- ---- a fact of each visit

pub all_mem : (P : Visit → Type 0) (vs : List Visit) → AllV P vs → (v : Visit) → Memᴰ v vs → P v
all_mem P [] h v m = absurd (mathlib.Core.List.Memᴰ.not-nil m)
all_mem P (w ∷ vs) h v m = ⊎_elim (λ e. rw e h.0) (λ n. all_mem P vs h.1 v n) (mathlib.Core.List.Memᴰ.cases_cons m)

pub mem_all : (P : Visit → Type 0) (vs : List Visit) → ((v : Visit) → Memᴰ v vs → P v) → AllV P vs
mem_all P [] h = tt
mem_all P (w ∷ vs) h = (h w (mathlib.Core.List.Memᴰ.head refl), mem_all P vs (λ v m. h v (mathlib.Core.List.Memᴰ.tail m)))

-- ---- the visits that pass a test

pub kept_mem : (P : List ℕ → Bool) (vs : List Visit) (v : Visit) → Memᴰ v (kept P vs) → Memᴰ v vs × (P v.key ≡ true)
kept_mem P [] v m = absurd (mathlib.Core.List.Memᴰ.not-nil m)
kept_mem P (w ∷ vs) v m = go (P w.key) refl (kept_mem P vs v) m
  where
    go : (b : Bool) → P w.key ≡ b → (Memᴰ v (kept P vs) → Memᴰ v vs × (P v.key ≡ true))
        → Memᴰ v (cond b (w ∷ kept P vs) (kept P vs)) → Memᴰ v (w ∷ vs) × (P v.key ≡ true)
    go true e rest m =
        ⊎_elim (λ q. (mathlib.Core.List.Memᴰ.head q, rw q e)) (λ n. let r = rest n in (mathlib.Core.List.Memᴰ.tail r.0, r.1)) (mathlib.Core.List.Memᴰ.cases_cons m)
    go false e rest m = let r = rest m in (mathlib.Core.List.Memᴰ.tail r.0, r.1)

pub mem_kept : (P : List ℕ → Bool) (vs : List Visit) (v : Visit) → Memᴰ v vs → P v.key ≡ true → Memᴰ v (kept P vs)
mem_kept P [] v m is = absurd (mathlib.Core.List.Memᴰ.not-nil m)
mem_kept P (w ∷ vs) v m is = go (P w.key) refl (λ n. mem_kept P vs v n is) (mathlib.Core.List.Memᴰ.cases_cons m)
  where
    go : (b : Bool) → P w.key ≡ b → (Memᴰ v vs → Memᴰ v (kept P vs)) → (v ≡ w) ⊎ Memᴰ v vs
        → Memᴰ v (cond b (w ∷ kept P vs) (kept P vs))
    go true e rest (inl q) = mathlib.Core.List.Memᴰ.head q
    go true e rest (inr n) = mathlib.Core.List.Memᴰ.tail (rest n)
    go false e rest (inl q) = let z : true ≡ false = sym is ∙ rw q e in let y : ◌≡◌ {A = ℕ} 0 1 = cc in absurd (omega arith)
    go false e rest (inr n) = rest n

pub kept_rising : (P : List ℕ → Bool) (vs : List Visit) → RisingV vs → RisingV (kept P vs)
kept_rising P [] h = tt
kept_rising P (w ∷ vs) h = go (P w.key) (kept_rising P vs h.1)
  where
    go : (b : Bool) → RisingV (kept P vs) → RisingV (cond b (w ∷ kept P vs) (kept P vs))
    go true g =
        let after : Visit → Type 0 = λ x. Before w.key x.key in
        (mem_all after (kept P vs) (λ v m. all_mem after vs h.0 v (kept_mem P vs v m).0), g)
    go false g = g

-- ---- a row

-- a visit by the transition t: its target, or a visit below that
abbrev By : (ℕ → List Visit) → Fst → Visit → Transition → Type 0
By sub f v t = (v ≡ visit_by f t) ⊎ ((w : Visit) × Memᴰ w (sub t.addr) × (under (t.inp ∷ []) t.out w ≡ v))

-- inputs each below all that follow
abbrev Ascends : List Transition → Type 0
Ascends [] = Unit {0}
Ascends (t ∷ ts) = ((u : Transition) → Memᴰ u ts → t.inp < u.inp) × Ascends ts

ascends : (ts : List Transition) → ((i j : ℕ) → i < j → j < length ts → (transition_at ts i).inp < (transition_at ts j).inp) → Ascends ts
ascends [] h = tt
ascends (t ∷ ts) h = (
  λ u m. let p = member_at m in rw p.2 at (h 0 (suc p.0) (omega arith) (omega (arith, p.1))),
  ascends ts (λ i j l n. h (suc i) (suc j) (omega arith) (omega arith)),
)

rising_append : (xs ys : List Visit) → RisingV xs → RisingV ys
    → ((v w : Visit) → Memᴰ v xs → Memᴰ w ys → Before v.key w.key) → RisingV (xs ++ ys)
rising_append [] ys h g a = g
rising_append (x ∷ xs) ys h g a =
    let after : Visit → Type 0 = λ v. Before x.key v.key in (
      mem_all after (xs ++ ys) (λ v m. ⊎_elim (λ n. all_mem after xs h.0 v n) (λ n. a x v (mathlib.Core.List.Memᴰ.head refl) n) (mathlib.Core.List.Memᴰ.append_cases xs m)),
      rising_append xs ys h.1 g (λ v w m n. a v w (mathlib.Core.List.Memᴰ.tail m) n),
    )

rising_under : (i o : ℕ) (vs : List Visit) → RisingV vs → RisingV (map (under (i ∷ []) o) vs)
rising_under i o [] h = tt
rising_under i o (x ∷ vs) h =
    let after : Visit → Type 0 = λ v. Before (i ∷ x.key) v.key in (
      mem_all after (map (under (i ∷ []) o) vs)
          (λ v m.
          let r = mathlib.Core.List.Memᴰ.of_map (under (i ∷ []) o) vs m in
          subst after r.2 (later (all_mem (λ w. Before x.key w.key) vs h.0 r.0 r.1))),
      rising_under i o vs h.1,
    )

pub before_full : (k : List ℕ) → ¬ (k ≡ []) → Before [] k
before_full [] ne = absurd (ne refl)
before_full (x ∷ k) ne = shorter

module _ (sub : ℕ → List Visit) (f : Fst) where
  by_key : (v : Visit) (t : Transition) → By sub f v t → (k : List ℕ) × (v.key ≡ t.inp ∷ k)
  by_key v t (inl e) = ([], ap (λ (x : Visit). x.key) e)
  by_key v t (inr (w, m, e)) = (w.key, ap (λ (x : Visit). x.key) (sym e))

  row_by : (ts : List Transition) (v : Visit) → Memᴰ v (row sub f ts) → (t : Transition) × Memᴰ t ts × By sub f v t
  row_by [] v m = absurd (mathlib.Core.List.Memᴰ.not-nil m)
  row_by (t ∷ ts) v m = go (row_by ts v) (mathlib.Core.List.Memᴰ.cases_cons m)
    where
      further : ((u : Transition) × Memᴰ u ts × By sub f v u) → (u : Transition) × Memᴰ u (t ∷ ts) × By sub f v u
      further (u, n, b) = (u, mathlib.Core.List.Memᴰ.tail n, b)

      go : (Memᴰ v (row sub f ts) → (u : Transition) × Memᴰ u ts × By sub f v u)
          → (v ≡ visit_by f t) ⊎ Memᴰ v (map (under (t.inp ∷ []) t.out) (sub t.addr) ++ row sub f ts)
          → (u : Transition) × Memᴰ u (t ∷ ts) × By sub f v u
      go rest (inl e) = (t, mathlib.Core.List.Memᴰ.head refl, inl e)
      go rest (inr n) =
          ⊎_elim (λ x. (t, mathlib.Core.List.Memᴰ.head refl, inr (mathlib.Core.List.Memᴰ.of_map (under (t.inp ∷ []) t.out) (sub t.addr) x))) (λ x. further (rest x))
          (mathlib.Core.List.Memᴰ.append_cases (map (under (t.inp ∷ []) t.out) (sub t.addr)) n)

  by_row : (ts : List Transition) (v : Visit) (t : Transition) → Memᴰ t ts → By sub f v t → Memᴰ v (row sub f ts)
  by_row [] v t m b = absurd (mathlib.Core.List.Memᴰ.not-nil m)
  by_row (u ∷ ts) v t m b = go (λ n. by_row ts v t n b) (mathlib.Core.List.Memᴰ.cases_cons m)
    where
      first : By sub f v u → Memᴰ v (row sub f (u ∷ ts))
      first (inl e) = mathlib.Core.List.Memᴰ.head e
      first (inr (w, n, e)) =
          mathlib.Core.List.Memᴰ.tail (mathlib.Core.List.Memᴰ.append_left (row sub f ts) (mathlib.Core.List.Memᴰ.cast (sym e) (mathlib.Core.List.Memᴰ.map (under (u.inp ∷ []) u.out) n)))

      go : (Memᴰ t ts → Memᴰ v (row sub f ts)) → (t ≡ u) ⊎ Memᴰ t ts → Memᴰ v (row sub f (u ∷ ts))
      go rest (inl e) = first (subst (By sub f v) e b)
      go rest (inr n) = mathlib.Core.List.Memᴰ.tail (mathlib.Core.List.Memᴰ.append_right (map (under (u.inp ∷ []) u.out) (sub u.addr)) (rest n))

  row_over : (x : ℕ) (k : List ℕ) (ts : List Transition) → ((u : Transition) → Memᴰ u ts → x < u.inp) → (v : Visit) → Memᴰ v (row sub f ts)
      → Before (x ∷ k) v.key
  row_over x k ts h v m =
      let r = row_by ts v m in
      rw (by_key v r.0 r.2).1 (lower (h r.0 r.1))

  module _ (full : (a : ℕ) → AllV (λ v. ¬ (v.key ≡ [])) (sub a)) where
    row_rising : (ts : List Transition) → Ascends ts → ((t : Transition) → Memᴰ t ts → RisingV (sub t.addr)) → RisingV (row sub f ts)
    row_rising [] asc rise = tt
    row_rising (t ∷ ts) asc rise =
        let after : Visit → Type 0 = λ v. Before (t.inp ∷ []) v.key in
        let deeper : List Visit = map (under (t.inp ∷ []) t.out) (sub t.addr) in (
          mem_all after (deeper ++ row sub f ts)
              (λ v m.
              ⊎_elim
              (λ n.
              let r = mathlib.Core.List.Memᴰ.of_map (under (t.inp ∷ []) t.out) (sub t.addr) n in
              subst after r.2 (later (before_full r.0.key (all_mem (λ v. ¬ (v.key ≡ [])) (sub t.addr) (full t.addr) r.0 r.1))))
              (λ n. row_over t.inp [] ts asc.0 v n)
              (mathlib.Core.List.Memᴰ.append_cases deeper m)),
          rising_append deeper (row sub f ts) (rising_under t.inp t.out (sub t.addr) (rise t (mathlib.Core.List.Memᴰ.head refl)))
              (row_rising ts asc.1 (λ u n. rise u (mathlib.Core.List.Memᴰ.tail n)))
              (λ v w m n.
              let r = mathlib.Core.List.Memᴰ.of_map (under (t.inp ∷ []) t.out) (sub t.addr) m in
              subst (λ (x : Visit). Before x.key w.key) r.2 (row_over t.inp r.0.key ts asc.0 w n)),
        )

-- ---- the visits below a node

pub below_full : (d : ℕ) (f : Fst) (a : ℕ) → AllV (λ v. ¬ (v.key ≡ [])) (below d f a)
below_full zero f a = tt
below_full (suc d) f a =
    mem_all (λ v. ¬ (v.key ≡ [])) (below (suc d) f a)
    (λ v m e.
    let r = row_by (below d f) f (transitions_at f a) v m in
    let is = (by_key (below d f) f v r.0 r.2).1 in
    let z : ◌≡◌ {A = ℕ} 0 1 = cc in
    omega arith)

pub below_rising : (d : ℕ) (f : Fst) (a sum : ℕ) → Fine d f a sum → RisingV (below d f a)
below_rising zero f a sum h = tt
below_rising (suc d) f a sum (m, e, light, targets) =
    rw e
    (row_rising (below d f) f (below_full d f) m.transitions (ascends m.transitions (node_ascending f a m e))
    (λ t mem. below_rising d f t.addr (sum + t.out) (targets t mem)))

-- ---- a visit is a path

pub record PathTo (f : Fst) (a : ℕ) (v : Visit) : Type 0 where
  pub sum : ℕ
  pub to : ℕ
  pub node : Node
  pub path : Path f a v.key sum to
  pub judged : node_in f to ≡ sound node
  pub final_is : v.final ≡ node.final
  pub value_is : v.value ≡ sum + node.final_output

-- a fine node is sound
module _ (f : Fst) (a : ℕ) (m : Node) (e : node_in f a ≡ sound m) (t : Transition) (mem : Memᴰ t m.transitions) where
  -- to the target
  path_to_target : (n : Node) → node_in f t.addr ≡ sound n → PathTo f a (visit_by f t)
  path_to_target n g =
      record {
        sum = t.out;
        to = t.addr;
        node = n;
        path = rw add-zero at (follow m t e mem (here {a = t.addr}));
        judged = g;
        final_is = rw g;
        value_is = rw g;
      }

  -- and on from it
  path_to_below : (w : Visit) → PathTo f t.addr w → PathTo f a (under (t.inp ∷ []) t.out w)
  path_to_below w p =
      record {
        sum = t.out + p.sum;
        to = p.to;
        node = p.node;
        path = follow m t e mem p.path;
        judged = p.judged;
        final_is = p.final_is;
        value_is = omega (arith, p.value_is);
      }

pub visit_path : (d : ℕ) (f : Fst) (a sum : ℕ) → Fine d f a sum → (v : Visit) → Memᴰ v (below d f a) → PathTo f a v
visit_path zero f a sum h v on = absurd (mathlib.Core.List.Memᴰ.not-nil on)
visit_path (suc d) f a sum (m, e, light, targets) v on =
    go (λ t mem w. visit_path d f t.addr (sum + t.out) (targets t mem) w) (row_by (below d f) f m.transitions v (rw e at on))
  where
    go : ((t : Transition) → Memᴰ t m.transitions → (w : Visit) → Memᴰ w (below d f t.addr) → PathTo f t.addr w)
        → (t : Transition) × Memᴰ t m.transitions × By (below d f) f v t → PathTo f a v
    go rest (t, mem, inl q) =
        let n = fine_node d f t.addr (sum + t.out) (targets t mem) in
        subst (PathTo f a) (sym q) (path_to_target f a m e t mem n.0 n.1)
    go rest (t, mem, inr (w, n, q)) = subst (PathTo f a) q (path_to_below f a m e t mem w (rest t mem w n))

-- ---- a path that is not empty is a visit

-- the visit at the end of a path to the node n
abbrev visit_to : List ℕ → ℕ → Node → Visit
visit_to k o n = record { key = k; value = o + n.final_output; final = n.final }

pub path_visit : (d : ℕ) (f : Fst) (a sum : ℕ) → Fine d f a sum → (x : ℕ) (k : List ℕ) (o b : ℕ) → Path f a (x ∷ k) o b → (n : Node)
    → node_in f b ≡ sound n → Memᴰ (record { key = x ∷ k; value = o + n.final_output; final = n.final }) (below d f a)
path_visit zero f a sum (m, e, light, none) x k o b p n g =
    let s = path_step p in
    let judged = s.judged in
    let same : s.node ≡ m = cc in
    absurd (mathlib.Core.List.Memᴰ.not-nil (rw (same, none) at s.member))
path_visit (suc d) f a sum (m, e, light, targets) x k o b p n g =
    let s = path_step p in
    let judged = s.judged in
    let same : s.node ≡ m = cc in
    let mem : Memᴰ s.by m.transitions = rw same at s.member in
    rw e
    (by_row (below d f) f m.transitions (visit_to (x ∷ k) o n) s.by mem
    (go k s.by s.more s.rest s.inp_is s.sum_is
    (λ y k p. path_visit d f s.by.addr (sum + s.by.out) (targets s.by mem) y k s.more b p n g)))
  where
    go : (k : List ℕ) (t : Transition) (more : ℕ) → Path f t.addr k more b → t.inp ≡ x → o ≡ t.out + more
        → ((y : ℕ) (k : List ℕ) → Path f t.addr (y ∷ k) more b → Memᴰ (visit_to (y ∷ k) more n) (below d f t.addr))
        → By (below d f) f (visit_to (x ∷ k) o n) t
    go [] t more p i q rest =
        let z = path_nil p in
        let at_target : node_in f t.addr ≡ sound n = rw z.1 at g in
        let value : o + n.final_output ≡ t.out + n.final_output = omega (arith, z.0) in
        inl (rw (at_target, value, i))
    go (y ∷ k) t more p i q rest =
        let value : o + n.final_output ≡ t.out + (more + n.final_output) = omega arith in
        inr (visit_to (y ∷ k) more n, rest y k p, rw (value, i))

-- ---- an admitted file

begins_rest : {x k : List ℕ} → Begins x k → (r : List ℕ) × (k ≡ x ++ r)
begins_rest (nothing {t = t}) = (t, refl)
begins_rest (byte {x = x} h) = let r = begins_rest h in (r.0, ap (λ k. x ∷ k) r.1)

-- a file without bytes has no visit
pub below_blank : (d : ℕ) (f : Fst) (a : ℕ) → length f.bytes ≡ 0 → below d f a ≡ []
below_blank zero f a z = refl
below_blank (suc d) f a z = rw (node_at_blank f.bytes f.version f.root a z)

module _ {s : List ℕ} (A : Admitted s) (pos : 0 < length s) where
  abbrev fst : Fst
  fst = fst_of s A.meta

  -- a node that a path from the root reaches, with so many steps left
  fine_reached : (d : ℕ) (k : List ℕ) (sum b : ℕ) → Path fst A.meta.root k sum b → length k + d ≡ max_path → Fine d fst b sum
  fine_reached zero k sum b p h =
      let r = path_reached A pos p in
      (r.node, r.judged, r.light, go r.node r.judged r.node.transitions refl)
    where
      go : (m : Node) → node_in fst b ≡ sound m → (ts : List Transition) → m.transitions ≡ ts → ts ≡ []
      go m e [] q = refl
      go m e (t ∷ ts) q =
          let longer = (path_reached A pos (path_snoc m t p e (rw q (mathlib.Core.List.Memᴰ.head refl)))).short in
          absurd (omega (arith, simp length-append at longer))
  fine_reached (suc d) k sum b p h =
      let r = path_reached A pos p in (
        r.node,
        r.judged,
        r.light,
        λ t mem.
            fine_reached d (k ++ (t.inp ∷ [])) (sum + t.out) t.addr (path_snoc r.node t p r.judged mem) (simp length-append (omega arith)),
      )

  pub fine_root : Fine max_path (fst_of s A.meta) A.meta.root 0
  fine_root = fine_reached max_path [] 0 A.meta.root here refl

  -- a path that is not empty leads below the root, to a node that leads to a final one
  path_to_final : (x : ℕ) (k : List ℕ) (sum b : ℕ) → Path fst A.meta.root (x ∷ k) sum b → FinalFrom fst b
  path_to_final x k sum b p =
      go (path_stays A.chained (elim (ℕ_discrete A.meta.root 0) [ yes z ↦ inl z | no z ↦ inr (root_chain_root A.chained.chain z) ]) p)
    where
      go : (b ≡ 0) ⊎ Memᴰ b A.nodes → FinalFrom fst b
      go (inl z) = final_zero fst b pos z
      go (inr on) =
          let step = path_step p in
          let r = path_reached A pos p in
          let low = target_below_root fst A.meta.root step.node step.by step.judged step.member in
          leads_to_final A.chained b on r.node r.judged
          (live_below_root fst b r.node r.judged (λ z. omega (arith, root_chain_low A.chained.chain b on)) (λ same. omega (arith, low, path_ends_low step.rest)))

  -- every visit begins a held key
  pub visit_begins : (v : Visit) → Memᴰ v (below max_path (fst_of s A.meta) A.meta.root)
      → (k : List ℕ) × (w : ℕ) × Held (fst_of s A.meta) k w × Begins v.key k
  visit_begins v on =
      let p = visit_path max_path fst A.meta.root 0 fine_root v on in
      go v.key (all_mem (λ v. ¬ (v.key ≡ [])) (below max_path fst A.meta.root) (below_full max_path fst A.meta.root) v on) p.sum p.to p.path
    where
      go : (x : List ℕ) → ¬ (x ≡ []) → (sum b : ℕ) → Path fst A.meta.root x sum b → (k : List ℕ) × (w : ℕ) × Held fst k w × Begins x k
      go [] ne sum b p = absurd (ne refl)
      go (x ∷ k) ne sum b p =
          let r = path_to_final x k sum b p in (
            (x ∷ k) ++ r.key,
            sum + r.sum + r.last.final_output,
            record {
              sum = sum + r.sum;
              to = r.to;
              last = r.last;
              path = path_append p r.path;
              ends = r.ends;
              final = r.final;
              value = refl;
            },
            begins_append (x ∷ k) r.key,
          )

  -- what begins a held key is a visit, unless it is empty
  pub begins_visit : (x k : List ℕ) (w : ℕ) → Held (fst_of s A.meta) k w → Begins x k → ¬ (x ≡ [])
      → (v : Visit) × Memᴰ v (below max_path (fst_of s A.meta) A.meta.root) × (v.key ≡ x)
  begins_visit [] k w h g ne = absurd (ne refl)
  begins_visit (x ∷ y) k w h g ne =
      let r = begins_rest g in
      let p : Path fst A.meta.root ((x ∷ y) ++ r.0) h.sum h.to = rw r.1 at h.path in
      let c = path_split (x ∷ y) r.0 p in
      let n = path_reached A pos c.to in (
        visit_to (x ∷ y) c.sum_to n.node,
        path_visit max_path fst A.meta.root 0 fine_root x y c.sum_to c.middle c.to n.node n.judged,
        refl,
      )

  -- a final visit is a held key
  pub visit_held : (v : Visit) → Memᴰ v (below max_path (fst_of s A.meta) A.meta.root) → v.final ≡ true
      → Held (fst_of s A.meta) v.key v.value
  visit_held v on is =
      let p = visit_path max_path fst A.meta.root 0 fine_root v on in
      record { sum = p.sum; to = p.to; last = p.node; path = p.path; ends = p.judged; final = sym p.final_is ∙ is; value = p.value_is }

  -- a held key is a final visit, unless it is empty
  pub held_visit : (k : List ℕ) (w : ℕ) → Held (fst_of s A.meta) k w → ¬ (k ≡ [])
      → Memᴰ (record { key = k; value = w; final = true }) (below max_path (fst_of s A.meta) A.meta.root)
  held_visit [] w h ne = absurd (ne refl)
  held_visit (x ∷ k) w h ne =
      let final = h.final in
      let value = h.value in
      mathlib.Core.List.Memᴰ.cast (rw (final, value))
      (path_visit max_path fst A.meta.root 0 fine_root x k h.sum h.to h.path h.last h.ends)
