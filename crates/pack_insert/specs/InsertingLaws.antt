-- Laws of a key more: from the tables to the definition's `insert`.
--     insert_done, insert_full     what adding a key leaves
-- Assumes nothing.
use Rattle.std.specs.Prelude as std
use Rattle.std.specs.Prelude.{◌≡◌, None, Some, refl, Bool, true, cond, ◌⊎◌, eqb, length, take, drop}
use Rattle.std.proofs.Math.Path.{sym, ap, ap₂, subst}
use Rattle.std.proofs.Common.{◌∙◌, inl, inr, ⊎_elim, suc-add, length-append, length-drop, length-take-le, get_or-take, get_or-drop, ext_get_or}
use Rattle.std.proofs.Math.Bool.{false}
use mathlib.Core.List.{List, [], ◌∷◌, ◌++◌, map}
use Prim.Native.Nat.{ℕ, zero, suc, ◌+◌, ◌-◌, ◌*◌, ◌≤◌, ◌<◌}
use Rattle.std.proofs.Math.Decide.{ℕ_discrete}
use native.Mathlib.Omega.{arith}
use borrow.Author.Tests.{eq-eqb, ne_eqb}
use Rattle.std.proofs.Math.ListN.{get_or}
use Rattle.format.specs.Node.{Ascending}
use Rattle.format.specs.Packed.{TargetsOk}
use Rattle.packing.specs.Registry.{Build}
use Rattle.packing.specs.Packing.{Arc, Open, with_value, close, State, state_with, insert}
use Rattle.packing.proofs.InsertLaws.{insert_grows}
use Rattle.packing_rows.specs.WorkTables.{Tables, row_in, zip_arcs, count_at, open_at, levels, Joined, joined, close_into, Sized, Orderly, SameAbove}
use Rattle.packing_rows.specs.OpenLaws.{new_open, levels_new, insert_levels, insert_build}
use Rattle.packing_rows.specs.WorkTableLaws.{length_row, open_inputs, open_same}
use Rattle.pack_cell.specs.declared.Cell.{Cell}
use Rattle.pack_intern.specs.Interning.{build_is}
use Rattle.pack_close.specs.Closing.{Closable, closed_to, JoinedAt, ClosesTo}
use Rattle.pack_insert.specs.Inserting.{CommonIs, OpenedTo, Opened, last_key, state_of, Follows, Insertable, InsertedAt, Inserts}
use Rattle.pack_insert.specs.OpenKeyLaws.{before_rises, before_ends}

-- ---- lists that ascend

snoc_two : (xs : List ℕ) (l b : ℕ) → Ascending (xs ++ (l ∷ [])) → l < b → Ascending ((xs ++ (l ∷ [])) ++ (b ∷ []))
unfolding Ascending
snoc_two [] l b up lt zero h = lt
snoc_two [] l b up lt (suc i) h = absurd (omega arith)
snoc_two (x ∷ []) l b up lt zero h = up 0 (omega arith)
snoc_two (x ∷ []) l b up lt (suc zero) h = lt
snoc_two (x ∷ []) l b up lt (suc (suc i)) h = absurd (omega arith)
snoc_two (x ∷ y ∷ xs) l b up lt zero h = up 0 (omega (arith, length-append xs (l ∷ [])))
snoc_two (x ∷ y ∷ xs) l b up lt (suc i) h =
    rw suc-add (snoc_two (y ∷ xs) l b (λ j q. rw suc-add at (up (suc j) (omega arith))) lt i (omega arith))

one_ascends : (b : ℕ) → Ascending (b ∷ [])
unfolding Ascending
one_ascends b i h = absurd (omega arith)

none_ascends : Ascending []
unfolding Ascending
none_ascends i h = absurd (omega arith)

none_targets : (first : ℕ) → TargetsOk first []
unfolding TargetsOk
none_targets first i h = absurd (omega arith)

-- ---- the last key

get_d_last : (led : List ℕ) (k j : ℕ) → j < k → get_or (last_key led k) j 0 ≡ get_or led (j + 1) 0
get_d_last led k j l = get_or-take k (drop 1 led) j 0 l ∙ get_or-drop 1 led j 0 ∙ ap (λ (i : ℕ). get_or led i 0) (let e : 1 + j ≡ j + 1 = omega arith in e)

length_last : (led : List ℕ) (k : ℕ) → k < length led → length (last_key led k) ≡ k
length_last led k l = length-take-le k (drop 1 led) (omega (arith, length-drop 1 led))

-- a finished node keeps the byte that leads to it
close_inp : (B : Build) (o : Open) (s : List Open) → (close B o s).arc.inp ≡ o.inp
unfolding close
close_inp B o [] = refl
close_inp B o (p ∷ s) = refl

map_snoc : (arcs : List Arc) (a : Arc) → map (λ (c : Arc). c.inp) (arcs ++ (a ∷ [])) ≡ map (λ (c : Arc). c.inp) arcs ++ (a.inp ∷ [])
map_snoc [] a = refl
map_snoc (c ∷ arcs) a = ap (λ (l : List ℕ). c.inp ∷ l) (map_snoc arcs a)

inp_of : (T : Tables) (d : ℕ) → (open_at T d).inp ≡ get_or T.led d 0
unfolding open_at
inp_of T d = refl

nil_of : (l : List ℕ) → length l ≡ 0 → l ≡ []
nil_of [] e = refl
nil_of (x ∷ l) e = absurd (omega arith)

empty_insert : (B : Build) (o : Open) (s : List Open) (l : List ℕ) (v : ℕ) → l ≡ [] → s ≡ [] → insert B o s l v ≡ state_with B (with_value o v) []
unfolding insert
empty_insert B o s l v p q = rw (p, q)

-- ---- one key

module _ (out : List ℕ) (first : ℕ) (cells : List Cell) (T : Tables) (k : ℕ) (key : List ℕ) (v : ℕ) (I : Insertable out first cells T k key) (m : ℕ)
    (shared : CommonIs key T.led k m) where
  abbrev B : Build
  B = build_is out first cells

  abbrev t : State
  t = insert B (open_at T 0) (levels (open_at T) 1 k) key v

  C : Closable out first cells T k
  C = I.between.closable

  P-length : length (last_key T.led k) ≡ k
  P-length = length_last T.led k (omega (arith, C.low, C.sized.led_long))

  agree_last : (j : ℕ) → j < m → get_or (last_key T.led k) j 0 ≡ get_or key j 0
  agree_last j l = get_d_last T.led k j (omega (arith, shared.low)) ∙ shared.agree j l

  -- the key is used up: it is the first, and empty
  used_up : m ≡ length key → (k ≡ 0) × (length key ≡ 0)
  used_up e = go I.follows
    where
      go : Follows (last_key T.led k) key → (k ≡ 0) × (length key ≡ 0)
      go (inl b) = absurd (before_ends b m (omega (arith, P-length, shared.low)) e agree_last)
      go (inr (p, q)) = (omega (arith, P-length, ap length p), ap length q)

  -- the key goes on, at a byte above the one that led on
  goes_up : m < k → m < length key → get_or T.led (m + 1) 0 < get_or key m 0
  goes_up l h = go I.follows
    where
      ne : ¬ (get_or T.led (m + 1) 0 ≡ get_or key m 0)
      ne = ⊎_elim (λ z. absurd (omega arith)) (λ w. ⊎_elim (λ z. absurd (omega arith)) (λ z. z) w) shared.leaves

      go : Follows (last_key T.led k) key → get_or T.led (m + 1) 0 < get_or key m 0
      go (inl b) =
          let at = get_d_last T.led k m l in
          let up = before_rises b m (omega (arith, P-length)) h agree_last (λ z. ne (sym at ∙ z)) in
          omega (arith, up, at)
      go (inr (p, q)) = absurd (omega (arith, ap length q))

  module _ (out' : List ℕ) (cells' : List Cell) (T₁ : Tables) (next : ℕ) (J : JoinedAt (closed_to B T m k) T m out' cells' T₁ next) (T₂ : Tables) (O : Opened key m v T₁ T₂)
      (led_kept : T₁.led ≡ T.led) (bytes : (i : ℕ) → get_or key i 0 < 256) where
    C₁ : Closable out' next cells' T₁ m
    C₁ = J.closable

    o : OpenedTo key m (length key) T₁.counts T₁.led T₁.finals T₂.counts T₂.led O.finals₁
    o = O.opened

    -- open nodes above where the key leaves, where it goes on
    same_at : m < length key → SameAbove (m + 1) T₁ T₂
    same_at h = record {
      inputs_same = ap (take (256 * (m + 1))) O.inputs_same;
      leasts_same = ap (take (256 * (m + 1))) O.leasts_same;
      targets_same = ap (take (256 * (m + 1))) O.targets_same;
      counts_same = λ j l. o.counts_same j (omega arith);
      led_same = λ j l. o.led_same j (omega arith);
      finals_same = λ j l. O.final_else j (λ z. omega arith) ∙ o.finals_same j (omega arith);
      values_same = λ j l. O.value_else j (λ z. omega arith);
    }

    few₁ : (j : ℕ) → j ≤ m → count_at T₁ j ≤ 256
    few₁ j l = C₁.orderly.few j l

    new_open_lem : (j : ℕ) → m < j → j ≤ length key → open_at T₂ j ≡ new_open key v j
    unfolding open_at zip_arcs
    new_open_lem j l h = elim (ℕ_discrete j (length key)) [
      | yes z ↦ rw (
        o.counts_new j l h,
        o.led_new j l h,
        subst (λ (i : ℕ). get_or T₂.finals i false ≡ true) (sym z) O.final_here,
        subst (λ (i : ℕ). get_or T₂.values i 0 ≡ v) (sym z) O.value_here,
        eq-eqb j (length key) z,
      )
      | no z ↦ rw (o.counts_new j l h, o.led_new j l h, O.final_else j z ∙ o.finals_new j l h, ne_eqb j (length key) z)
    ]

    -- the key goes on
    state_on : m < length key → t ≡ state_of (build_is out' next cells') T₂ (length key)
    state_on h =
        let q : length key - m ≡ suc (length key - m - 1) = omega arith in
        let top : open_at T₂ m ≡ open_at T₁ m = open_same T₁ T₂ (m + 1) m (omega arith) (few₁ m (omega arith)) (same_at h) in
        insert_levels B (open_at T) (open_at T₂) key v m k (joined (build_is out' next cells') (open_at T₁ m)) shared.low h
        (⊎_elim (λ z. inl z) (λ w. ⊎_elim (λ z. absurd (omega arith)) (λ z. inr (λ e. z (sym (inp_of T (m + 1)) ∙ e))) w) shared.leaves)
        (λ j l. inp_of T (j + 1) ∙ shared.agree j l)
        (λ j l. open_same T₁ T₂ (m + 1) j (omega arith) (few₁ j (omega arith)) (same_at h) ∙ J.same j l)
        J.is top
        (ap (levels (open_at T₂) (m + 1)) q ∙ levels_new (open_at T₂) key v (length key - m - 1) m (omega arith) new_open_lem)

    -- the first key, and empty
    value_at_root : length key ≡ 0 → m ≡ 0 → open_at T₂ 0 ≡ with_value (open_at T₁ 0) v
    unfolding open_at
    value_at_root z m0 =
        let c = o.counts_same 0 (omega arith) in
        let l = o.led_same 0 (omega arith) in
        let f = subst (λ (i : ℕ). get_or T₂.finals i false ≡ true) z O.final_here in
        let w = subst (λ (i : ℕ). get_or T₂.values i 0 ≡ v) z O.value_here in
        rw (c, l, f, w, O.inputs_same, O.leasts_same, O.targets_same)

    joined_root : k ≡ 0 → m ≡ 0 → joined B (open_at T 0) ≡ joined (build_is out' next cells') (open_at T₁ 0)
    unfolding levels
    joined_root k0 m0 =
        let none_left : k - m ≡ 0 = omega arith in
        subst (λ (i : ℕ). joined B (open_at T i) ≡ joined (build_is out' next cells') (open_at T₁ i)) m0
        (subst (λ (r : ℕ). close_into B (open_at T m) (levels (open_at T) (m + 1) r) ≡ joined (build_is out' next cells') (open_at T₁ m)) none_left J.is)

    state_empty : m ≡ length key → t ≡ state_of (build_is out' next cells') T₂ (length key)
    unfolding levels
    state_empty e =
        let u = used_up e in
        let m0 : m ≡ 0 = omega arith in
        empty_insert B (open_at T 0) (levels (open_at T) 1 k) key v (nil_of key u.1) (ap (levels (open_at T) 1) u.0)
        ∙ ap (λ (j : Joined). state_with j.build (with_value j.top v) []) (joined_root u.0 m0)
        ∙ ap (λ (x : Open). state_with (build_is out' next cells') x []) (sym (value_at_root u.1 m0))
        ∙ sym (ap (λ (r : ℕ). state_with (build_is out' next cells') (open_at T₂ 0) (levels (open_at T₂) 1 r)) u.1)

    -- ---- the rows are orderly

    ends_or_on : (m ≡ length key) ⊎ (m < length key)
    ends_or_on = elim (ℕ_discrete m (length key)) [ yes z ↦ inl z | no z ↦ inr (omega (arith, shared.within)) ]

    -- the inputs of the row where the key leaves, by the definition
    row_by : (d : ℕ) → d < 256 → count_at T₁ d ≤ 256 → map (λ (a : Arc). a.inp) (open_at T₁ d).arcs ≡ row_in T₁.inputs d (count_at T₁ d)
    row_by d l f = open_inputs T₁ C₁.sized d l f

    row_bare : m ≡ k → row_in T₁.inputs m (count_at T₁ m) ≡ []
    unfolding levels
    row_bare e =
        let none_left : k - m ≡ 0 = omega arith in
        let j = subst (λ (r : ℕ). close_into B (open_at T m) (levels (open_at T) (m + 1) r) ≡ joined (build_is out' next cells') (open_at T₁ m)) none_left J.is in
        let bare : count_at T m ≡ 0 = subst (λ (i : ℕ). count_at T i ≡ 0) (sym e) I.between.bare in
        sym (row_by m C₁.low (few₁ m (omega arith)))
        ∙ sym (ap (λ (x : Joined). map (λ (a : Arc). a.inp) x.top.arcs) j)
        ∙ open_inputs T C.sized m C₁.low (omega (arith, bare)) ∙ ap (row_in T.inputs m) bare

    row_one : m < k → row_in T₁.inputs m (count_at T₁ m) ≡ row_in T.inputs m (count_at T m) ++ (get_or T.led (m + 1) 0 ∷ [])
    unfolding levels
    row_one l =
        let some_left : k - m ≡ suc (k - m - 1) = omega arith in
        let c = close B (open_at T (m + 1)) (levels (open_at T) (m + 1 + 1) (k - m - 1)) in
        let j = subst (λ (r : ℕ). close_into B (open_at T m) (levels (open_at T) (m + 1) r) ≡ joined (build_is out' next cells') (open_at T₁ m)) some_left J.is in
        sym (row_by m C₁.low (few₁ m (omega arith)))
        ∙ sym (ap (λ (x : Joined). map (λ (a : Arc). a.inp) x.top.arcs) j)
        ∙ map_snoc (open_at T m).arcs c.arc
        ∙ ap₂ (λ (xs : List ℕ) (b : ℕ). xs ++ (b ∷ [])) (open_inputs T C.sized m C₁.low (C.orderly.few m (omega arith)))
        (close_inp B (open_at T (m + 1)) (levels (open_at T) (m + 1 + 1) (k - m - 1)) ∙ inp_of T (m + 1))

    -- the byte where the key leaves comes after the row's
    leaves_up : m < length key → Ascending (row_in T₁.inputs m (count_at T₁ m) ++ (get_or key m 0 ∷ []))
    leaves_up h = elim (ℕ_discrete m k) [
      | yes z ↦ subst (λ (r : List ℕ). Ascending (r ++ (get_or key m 0 ∷ []))) (sym (row_bare z)) (one_ascends (get_or key m 0))
      | no z ↦
          let l : m < k = omega (arith, shared.low) in
          subst (λ (r : List ℕ). Ascending (r ++ (get_or key m 0 ∷ []))) (sym (row_one l))
          (snoc_two (row_in T.inputs m (count_at T m)) (get_or T.led (m + 1) 0) (get_or key m 0) (C.orderly.next m l) (goes_up l h))
    ]

    counts_at : (d : ℕ) → d ≤ m → count_at T₂ d ≡ count_at T₁ d
    counts_at d l = o.counts_same d l

    row_at : (d : ℕ) → d ≤ m → row_in T₂.inputs d (count_at T₂ d) ≡ row_in T₁.inputs d (count_at T₁ d)
    row_at d l = ap₂ (λ (s : List ℕ) (n : ℕ). row_in s d n) O.inputs_same (counts_at d l)

    targets_at : (d : ℕ) → d ≤ m → row_in T₂.targets d (count_at T₂ d) ≡ row_in T₁.targets d (count_at T₁ d)
    targets_at d l = ap₂ (λ (s : List ℕ) (n : ℕ). row_in s d n) O.targets_same (counts_at d l)

    split : (d : ℕ) → (d ≤ m) ⊎ (m < d)
    split d = elim (ℕ_discrete (d - m) 0) [ yes z ↦ inl (omega arith) | no z ↦ inr (omega arith) ]

    bare₂ : count_at T₂ (length key) ≡ 0
    bare₂ = ⊎_elim
        (λ e.
        let u = used_up e in
        let c = counts_at (length key) (omega arith) in
        let l = length_row T₁.inputs m (count_at T₁ m) (omega (arith, C₁.sized.inputs_long, C₁.low, few₁ m (omega arith))) in
        let z = ap length (row_bare (omega (arith, u.0, shared.low))) in
        c ∙ subst (λ (i : ℕ). count_at T₁ i ≡ 0) e (omega (arith, l, z)))
        (λ l. o.counts_new (length key) l (omega arith)) ends_or_on

    led_at : (d : ℕ) → d ≤ m → get_or T₂.led d 0 ≡ get_or T₁.led d 0
    led_at d l = o.led_same d l

    orderly₂ : Orderly next T₂ (length key)
    orderly₂ = record {
      few = λ d l. ⊎_elim (λ h. omega (arith, counts_at d h, few₁ d h)) (λ h. omega (arith, o.counts_new d h l)) (split d);
      deepest = subst (λ (n : ℕ). Ascending (row_in T₂.inputs (length key) n)) (sym bare₂) none_ascends;
      next = λ d l. ⊎_elim (λ h. next_at d l h (same_or d h)) (λ h. rw (o.counts_new d h (omega arith)) (one_ascends (get_or T₂.led (d + 1) 0))) (split d);
      byte = λ d l. ⊎_elim (λ h. omega (arith, led_at (d + 1) h, C₁.orderly.byte d (omega arith))) (λ h. omega (arith, o.led_new (d + 1) h (omega arith), bytes (d + 1 - 1))) (split (d + 1));
      targets_ok = λ d l.
          ⊎_elim (λ h. subst (TargetsOk next) (sym (targets_at d h)) (C₁.orderly.targets_ok d h)) (λ h. rw (o.counts_new d h l) (none_targets next)) (split d);
    }
      where
        same_or : (d : ℕ) → d ≤ m → (d ≡ m) ⊎ (d < m)
        same_or d h = elim (ℕ_discrete d m) [ yes z ↦ inl z | no z ↦ inr (omega arith) ]

        next_at : (d : ℕ) → d < length key → d ≤ m → (d ≡ m) ⊎ (d < m) → Ascending (row_in T₂.inputs d (count_at T₂ d) ++ (get_or T₂.led (d + 1) 0 ∷ []))
        next_at d l h (inl z) =
            let e : d + 1 - 1 ≡ d = omega arith in
            subst (λ (i : ℕ). Ascending (row_in T₂.inputs i (count_at T₂ i) ++ (get_or T₂.led (i + 1) 0 ∷ []))) (sym z)
            (subst Ascending
            (sym (ap₂ (λ (r : List ℕ) (x : ℕ). r ++ (x ∷ [])) (row_at m (omega arith)) (o.led_new (m + 1) (omega arith) (omega arith) ∙ ap (λ (i : ℕ). get_or key i 0) (let q : m + 1 - 1 ≡ m = omega arith in q))))
            (leaves_up (omega arith)))
        next_at d l h (inr z) =
            subst Ascending (sym (ap₂ (λ (r : List ℕ) (x : ℕ). r ++ (x ∷ [])) (row_at d h) (led_at (d + 1) (omega arith)))) (C₁.orderly.next d z)

    sized₂ : Sized T₂
    sized₂ =
        let s = C₁.sized in
        record {
          inputs_long = omega (arith, s.inputs_long, ap length O.inputs_same);
          leasts_long = omega (arith, s.leasts_long, ap length O.leasts_same);
          targets_long = omega (arith, s.targets_long, ap length O.targets_same);
          counts_long = o.counts_long;
          led_long = o.led_long;
          finals_long = O.finals_long;
          values_long = O.values_long;
        }

    -- the bytes that lead to the deepest open node are the key's
    last₂ : last_key T₂.led (length key) ≡ key
    last₂ =
        let n = length_last T₂.led (length key) (omega (arith, I.short, o.led_long)) in
        ext_get_or 0 (last_key T₂.led (length key)) key n
        (λ j l.
        get_d_last T₂.led (length key) j (omega (arith, n))
        ∙ ⊎_elim (λ h. led_at (j + 1) h ∙ ap (λ (x : List ℕ). get_or x (j + 1) 0) led_kept ∙ shared.agree j (omega arith))
        (λ h. o.led_new (j + 1) h (omega (arith, n)) ∙ ap (λ (i : ℕ). get_or key i 0) (let e : j + 1 - 1 ≡ j = omega arith in e)) (split (j + 1)))

    pub inserted : InsertedAt t key out' cells' T₂ next
    inserted = record {
      is = ⊎_elim state_empty state_on ends_or_on;
      between = record { closable = record { ready = C₁.ready; sized = sized₂; orderly = orderly₂; low = I.short }; bare = bare₂ };
      last = last₂;
    }

  -- ---- no room

  closed_none : (r : ℕ) → r ≡ 0 → (close_into B (open_at T m) (levels (open_at T) (m + 1) r)).build ≡ B
  unfolding levels
  closed_none r e = rw e

  insert_grown : length (closed_to B T m k).build.nodes ≤ length t.build.nodes
  insert_grown = elim (ℕ_discrete m (length key)) [
    | yes z ↦
        let u = used_up z in
        let g = insert_grows B (open_at T 0) (levels (open_at T) 1 k) key v in
        omega (arith, ap length g.is, length-append B.nodes g.added, ap (λ (b : Build). length b.nodes) (closed_none (k - m) (omega (arith, u.0))))
    | no z ↦
        let e = insert_build B (open_at T) key v m k shared.low (omega (arith, shared.within))
        (⊎_elim (λ q. inl q) (λ w. ⊎_elim (λ q. absurd (z q)) (λ q. inr (λ e. q (sym (inp_of T (m + 1)) ∙ e))) w) shared.leaves) (λ j l. inp_of T (j + 1) ∙ shared.agree j l) in
        omega (arith, ap (λ (b : Build). length b.nodes) e)
  ]

  pub insert_full : (out' : List ℕ) (cells' : List Cell) (T₁ T₂ : Tables) (r : std.Option ℕ) → ClosesTo (closed_to B T m k) T m out' cells' T₁ r → r ≡ None → Inserts t key out' cells' T₂ None
  insert_full out' cells' T₁ T₂ r c e = record { at = λ n q. cc; full = λ q. omega (arith, c.full e, insert_grown) }

pub insert_done : {t : State} {key out : List ℕ} {cells : List Cell} {T : Tables} {next : ℕ} → InsertedAt t key out cells T next → Inserts t key out cells T (Some next)
insert_done {t} {key} {out} {cells} {T} {next} w = record {
  at = λ n q. let p : next ≡ n = cc in subst (λ (x : ℕ). InsertedAt t key out cells T x) p w;
  full = λ q. cc;
}
