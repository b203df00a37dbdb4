-- What open nodes hold in a file that has the nodes so far.
--     ArcHolds g a k v         the finished transition a holds the key k with the value v
--     OpenHolds, StackHolds    an open node does, by its own value or a finished transition; with the open nodes below it
--     Base o base              base is no larger than the node's values; least_base: its least value is such a one
--     held_open, open_held     a finished node holds what it held open, with base taken off
-- Assumes nothing.
use Rattle.std.specs.Prelude.{◌≡◌, Bool, false, ◌⊎◌, ℕ, ◌+◌, ◌-◌, ◌≤◌, ◌<◌, min}
use Rattle.std.proofs.Math.Path.{refl, sym, ap, subst}
use Rattle.std.proofs.Common.{ap₂, ◌∙◌, inl, inr, ⊎_elim, le_trans, arith}
use Rattle.std.proofs.Math.Bool.{true}
use Rattle.std.proofs.Math.Option.{Option, none, some}
use mathlib.Core.List.Memᴰ
use mathlib.Core.List.{List, [], ◌∷◌, ◌++◌, map, Memᴰ}
use Rattle.std.proofs.Math.Nat.{min-le_left, min-le_right}
use Rattle.format.specs.declared.Transition.{Transition}
use Rattle.format.specs.Node.{Node, sound, transitions_of}
use Rattle.format.specs.Packed.{BuilderNode}
use Rattle.format.specs.Paths.{Fst, node_in, Path, here, follow, HeldFrom}
use Rattle.format.specs.Laws.PathLaws.{PathStep, path_nil, path_step}
use Rattle.packing.specs.Registry.{transitions_in}
use Rattle.packing.specs.Packing.{Arc, Open, least_of, least_in, least_at, is_some, final_out, record_of, with_arc, with_value}
use Rattle.packing.proofs.FileLaws.{node_with, Reads}

pub record ArcHolds (g : Fst) (a : Arc) (k : List ℕ) (v : ℕ) : Type 0 where
  pub rest : List ℕ
  pub more : ℕ
  pub key_is_lem : k ≡ a.inp ∷ rest
  pub value_is : v ≡ a.least + more
  pub held : HeldFrom g a.addr rest more

pub data OpenHolds (g : Fst) (o : Open) (k : List ℕ) (v : ℕ) : Type 0 where
  ends : k ≡ [] → o.value ≡ some v → OpenHolds g o k v
  along : (a : Arc) → Memᴰ a o.arcs → ArcHolds g a k v → OpenHolds g o k v

-- below the byte that leads to the next open node
abbrev pub StackHolds : Fst → Open → List Open → List ℕ → ℕ → Type 0
StackHolds g o [] k v = OpenHolds g o k v
StackHolds g o (p ∷ s) k v = (OpenHolds g o k v) ⊎ ((l : List ℕ) × (k ≡ p.inp ∷ l) × StackHolds g p s l v)

-- ---- a record's transitions

abbrev transition_by : ℕ → Arc → Transition
transition_by base a = record { inp = a.inp; out = a.least - base; addr = a.addr }

transitions_are : (base : ℕ) (arcs : List Arc)
    → transitions_of (map (λ (a : Arc). a.inp) arcs) (map (λ (a : Arc). a.least - base) arcs) (map (λ (a : Arc). a.addr) arcs) ≡ map (transition_by base) arcs
unfolding transitions_of
transitions_are base [] = refl
transitions_are base (a ∷ arcs) = ap (λ (ts : List Transition). transition_by base a ∷ ts) (transitions_are base arcs)

pub record OfArc (base : ℕ) (arcs : List Arc) (t : Transition) : Type 0 where
  pub arc : Arc
  pub member : Memᴰ arc arcs
  pub is : t ≡ transition_by base arc

of_arc : (base : ℕ) (arcs : List Arc) (t : Transition) → Memᴰ t (map (transition_by base) arcs) → OfArc base arcs t
of_arc base [] t mem = absurd (Memᴰ.not-nil mem)
of_arc base (a ∷ arcs) t mem = by (Memᴰ.cases_cons mem) (λ m. of_arc base arcs t m)
  where
    by : (t ≡ transition_by base a) ⊎ Memᴰ t (map (transition_by base) arcs) → (Memᴰ t (map (transition_by base) arcs) → OfArc base arcs t)
        → OfArc base (a ∷ arcs) t
    by (inl z) rec = record { arc = a; member = Memᴰ.head refl; is = z }
    by (inr m) rec = let r = rec m in record { arc = r.arc; member = Memᴰ.tail r.member; is = r.is }

pub transition_of_arc : (o : Open) (base : ℕ) (t : Transition) → Memᴰ t (transitions_in (record_of o base)) → OfArc base o.arcs t
unfolding record_of
transition_of_arc o base t mem = of_arc base o.arcs t (subst (Memᴰ t) (transitions_are base o.arcs) mem)

pub arc_transition : (o : Open) (base : ℕ) (a : Arc) → Memᴰ a o.arcs → Memᴰ (transition_by base a) (transitions_in (record_of o base))
unfolding record_of
arc_transition o base a mem = subst (Memᴰ (transition_by base a)) (sym (transitions_are base o.arcs)) (Memᴰ.map (transition_by base) mem)

-- ---- values and the least of them

pub record Base (o : Open) (base : ℕ) : Type 0 where
  pub arcs_high : (a : Arc) → Memᴰ a o.arcs → base ≤ a.least
  pub value_high : (v : ℕ) → o.value ≡ some v → base ≤ v

pub zero_base : (o : Open) → Base o 0
zero_base o = record { arcs_high = λ a mem. omega arith; value_high = λ v e. omega arith }

least_of_start : (arcs : List Arc) (v : ℕ) → least_of arcs v ≤ v
unfolding least_of
least_of_start [] v = omega arith
least_of_start (a ∷ more) v = le_trans (least_of_start more (min v a.least)) (min-le_left v a.least)

least_of_arc : (arcs : List Arc) (v : ℕ) (a : Arc) → Memᴰ a arcs → least_of arcs v ≤ a.least
unfolding least_of
least_of_arc [] v a mem = absurd (Memᴰ.not-nil mem)
least_of_arc (b ∷ more) v a mem = by (Memᴰ.cases_cons mem) (λ m. least_of_arc more (min v b.least) a m)
  where
    by : (a ≡ b) ⊎ Memᴰ a more → (Memᴰ a more → least_of more (min v b.least) ≤ a.least) → least_of more (min v b.least) ≤ a.least
    by (inl z) rec = rw z (le_trans (least_of_start more (min v b.least)) (min-le_right v b.least))
    by (inr m) rec = rec m

some_inj : {v w : ℕ} → ◌≡◌ {A = Option ℕ} (some v) (some w) → v ≡ w
some_inj e = cc

least_in_lem : (value : Option ℕ) (arcs : List Arc) → ((a : Arc) → Memᴰ a arcs → least_in value arcs ≤ a.least) × ((v : ℕ) → value ≡ some v → least_in value arcs ≤ v)
least_in_lem (some w) arcs = (λ a mem. least_of_arc arcs w a mem, λ v e. subst (λ (n : ℕ). least_of arcs w ≤ n) (some_inj e) (least_of_start arcs w))
least_in_lem none [] = (λ a mem. absurd (Memᴰ.not-nil mem), λ v e. omega arith)
least_in_lem none (a ∷ more) = (
  λ b mem. ⊎_elim (λ z. rw z (least_of_start more a.least)) (λ m. least_of_arc more a.least b m) (Memᴰ.cases_cons mem),
  λ v e. absurd (let z : ◌≡◌ {A = ℕ} 0 1 = cc in omega arith),
)

pub least_base : (o : Open) → Base o (least_at o)
unfolding least_at
least_base o = record { arcs_high = (least_in_lem o.value o.arcs).0; value_high = (least_in_lem o.value o.arcs).1 }

-- ---- a finished node

some_is : (value : Option ℕ) (base : ℕ) → is_some value ≡ true → (v : ℕ) × (value ≡ some v) × (final_out value base ≡ v - base)
some_is (some v) base e = (v, refl, refl)
some_is none base e = absurd (let z : ◌≡◌ {A = ℕ} 0 1 = cc in omega arith)

module _ {g : Fst} {at : ℕ} (o : Open) (base : ℕ) (low : Base o base) (r : Reads g at (record_of o base)) where
  abbrev node : Node
  node = node_with r.first (record_of o base)

  same_node_lem : (m : Node) → node_in g at ≡ sound m → m ≡ node
  same_node_lem m e = let e' = r.is in let q : m ≡ node = cc in q

  pub held_open : (k : List ℕ) (w : ℕ) → HeldFrom g at k w → OpenHolds g o k (base + w)
  unfolding record_of
  held_open [] w h =
      let p = path_nil h.path in
      let is = same_node_lem h.last (sym (ap (node_in g) p.1) ∙ h.ends) in
      let final : is_some o.value ≡ true = sym (ap (λ (m : Node). m.final) is) ∙ h.final in
      let s = some_is o.value base final in
      let out : h.last.final_output ≡ s.0 - base = ap (λ (m : Node). m.final_output) is ∙ s.2 in
      let whole : s.0 ≡ base + w = omega (arith, h.value, p.0, out, low.value_high s.0 s.1) in
      ends refl (s.1 ∙ ap (λ (n : ℕ). some n) whole)
  held_open (x ∷ k) w h =
      let s = path_step h.path in
      let is = same_node_lem s.node s.judged in
      let t = transition_of_arc o base s.by (subst (λ (m : Node). Memᴰ s.by m.transitions) is s.member) in
      let inp_is : x ≡ t.arc.inp = sym s.inp_is ∙ ap (λ (u : Transition). u.inp) t.is in
      let out_is : s.by.out ≡ t.arc.least - base = ap (λ (u : Transition). u.out) t.is in
      let addr_is : s.by.addr ≡ t.arc.addr = ap (λ (u : Transition). u.addr) t.is in
      along t.arc t.member (record {
        rest = k;
        more = s.more + h.last.final_output;
        key_is_lem = ap (λ (b : ℕ). b ∷ k) inp_is;
        value_is = omega (arith, h.value, s.sum_is, out_is, low.arcs_high t.arc t.member);
        held = record {
          sum = s.more;
          to = h.to;
          last = h.last;
          path = subst (λ (b : ℕ). Path g b k s.more h.to) addr_is s.rest;
          ends = h.ends;
          final = h.final;
          value = refl;
        };
      })

  pub open_held : (k : List ℕ) (v : ℕ) → OpenHolds g o k v → (base ≤ v) × HeldFrom g at k (v - base)
  unfolding record_of
  open_held k v (ends e is) = (low.value_high v is, subst (λ (l : List ℕ). HeldFrom g at l (v - base)) (sym e) whole)
    where
      final_is : (value : Option ℕ) → value ≡ some v → (is_some value ≡ true) × (final_out value base ≡ v - base)
      final_is value e = rw e (refl, refl)

      whole : HeldFrom g at [] (v - base)
      whole = record {
        sum = 0;
        to = at;
        last = node;
        path = here;
        ends = r.is;
        final = (final_is o.value is).0;
        value = omega (arith, (final_is o.value is).1);
      }
  open_held k v (along a mem w) =
      let high = low.arcs_high a mem in
      let h = w.held in (
        omega (arith, w.value_is),
        subst (λ (l : List ℕ). HeldFrom g at l (v - base)) (sym w.key_is_lem) (record {
          sum = a.least - base + h.sum;
          to = h.to;
          last = h.last;
          path = follow node (transition_by base a) r.is (arc_transition o base a mem) h.path;
          ends = h.ends;
          final = h.final;
          value = omega (arith, w.value_is, h.value);
        }),
      )
