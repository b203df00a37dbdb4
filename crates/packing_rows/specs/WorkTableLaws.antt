-- Laws of the working tables: an open node's record and least value by its row, a transition more, the rows above.
--     open_least           the least value of the keys at an open node
--     record_row           an open node's record, by its row
--     row_snoc, row_above  an entry more in a row; the rows above it
--     open_same, open_more the open nodes above; a transition more
--     record-fits          an orderly row's record fits the packer
-- Assumes nothing.
use Rattle.std.specs.Prelude.{◌≡◌, true, false, cond, ◌⊎◌, length, get_or, take, drop, set}
use Rattle.std.proofs.Math.Path.{refl, sym, ap}
use Rattle.std.proofs.Common.{ap₂, ◌∙◌, subst, inl, inr, ⊎_elim, add-zero, zero-add, arith, length-append, length-take, length-drop, length-set, length-take-le, take-suc-set, take-take, get_or-set_same, get_or-set_other, get_or-take, get_or-drop}
use Rattle.std.proofs.Math.Bool.{Bool}
use Rattle.std.proofs.Math.Option.{Option, none, some}
use mathlib.Core.List.{List, [], ◌∷◌, ◌++◌, map, append-nil, append_assoc}
use Prim.Native.Nat.{ℕ, zero, suc, ◌+◌, ◌-◌, ◌*◌, ◌≤◌, ◌<◌, min}
use Rattle.std.proofs.Math.Nat.{sub-zero}
use Rattle.std.proofs.Math.Decide.{ℕ_discrete}
use Rattle.std.proofs.lemmas.List.{drop-set-add, take-set-le}
use Rattle.format.specs.Node.{Ascending}
use Rattle.format.specs.Packed.{BuilderNode, TargetOk, TargetsOk}
use Rattle.packing.specs.Packing.{Arc, Open, least_of, least_in, least_at, is_some, final_out, record_of, with_arc}
use Rattle.packing.proofs.CloseLaws.{few_bytes}
use Rattle.packing_rows.specs.WorkTables.{Tables, tables_with, row_in, arc_with, zip_arcs, count_at, value_in, arcs_at, open_at, least_num, least_from, Sized, Orderly, SameAbove}

-- ---- transitions from three lists

module _ (base : ℕ) where
  zip_outputs : (bs ms as' : List ℕ) → length ms ≡ length bs → length as' ≡ length bs → map (λ (a : Arc). a.least - base) (zip_arcs bs ms as') ≡ map (λ (m : ℕ). m - base) ms
  unfolding zip_arcs
  zip_outputs [] [] as' p q = refl
  zip_outputs [] (m ∷ ms) as' p q = absurd (omega arith)
  zip_outputs (b ∷ bs) [] as' p q = absurd (omega arith)
  zip_outputs (b ∷ bs) (m ∷ ms) [] p q = absurd (omega arith)
  zip_outputs (b ∷ bs) (m ∷ ms) (a ∷ as') p q = ap (λ (l : List ℕ). (m - base) ∷ l) (zip_outputs bs ms as' (omega arith) (omega arith))

pub zip_inputs : (bs ms as' : List ℕ) → length ms ≡ length bs → length as' ≡ length bs → map (λ (a : Arc). a.inp) (zip_arcs bs ms as') ≡ bs
unfolding zip_arcs
zip_inputs [] ms as' p q = refl
zip_inputs (b ∷ bs) [] as' p q = absurd (omega arith)
zip_inputs (b ∷ bs) (m ∷ ms) [] p q = absurd (omega arith)
zip_inputs (b ∷ bs) (m ∷ ms) (a ∷ as') p q = ap (λ (l : List ℕ). b ∷ l) (zip_inputs bs ms as' (omega arith) (omega arith))

zip_targets : (bs ms as' : List ℕ) → length ms ≡ length bs → length as' ≡ length bs → map (λ (a : Arc). a.addr) (zip_arcs bs ms as') ≡ as'
unfolding zip_arcs
zip_targets [] ms [] p q = refl
zip_targets [] ms (a ∷ as') p q = absurd (omega arith)
zip_targets (b ∷ bs) [] as' p q = absurd (omega arith)
zip_targets (b ∷ bs) (m ∷ ms) [] p q = absurd (omega arith)
zip_targets (b ∷ bs) (m ∷ ms) (a ∷ as') p q = ap (λ (l : List ℕ). a ∷ l) (zip_targets bs ms as' (omega arith) (omega arith))

zip_snoc : (bs ms as' : List ℕ) (b m a : ℕ) → length ms ≡ length bs → length as' ≡ length bs
    → zip_arcs (bs ++ (b ∷ [])) (ms ++ (m ∷ [])) (as' ++ (a ∷ [])) ≡ zip_arcs bs ms as' ++ (arc_with b m a ∷ [])
unfolding zip_arcs
zip_snoc [] [] [] b m a p q = refl
zip_snoc [] [] (x ∷ as') b m a p q = absurd (omega arith)
zip_snoc [] (y ∷ ms) as' b m a p q = absurd (omega arith)
zip_snoc (z ∷ bs) [] as' b m a p q = absurd (omega arith)
zip_snoc (z ∷ bs) (y ∷ ms) [] b m a p q = absurd (omega arith)
zip_snoc (z ∷ bs) (y ∷ ms) (x ∷ as') b m a p q = ap (λ (l : List Arc). arc_with z y x ∷ l) (zip_snoc bs ms as' b m a (omega arith) (omega arith))

least_zip : (bs ms as' : List ℕ) (v : ℕ) → length ms ≡ length bs → length as' ≡ length bs → least_of (zip_arcs bs ms as') v ≡ least_num ms v
unfolding zip_arcs least_of least_num
least_zip [] [] as' v p q = refl
least_zip [] (m ∷ ms) as' v p q = absurd (omega arith)
least_zip (b ∷ bs) [] as' v p q = absurd (omega arith)
least_zip (b ∷ bs) (m ∷ ms) [] v p q = absurd (omega arith)
least_zip (b ∷ bs) (m ∷ ms) (a ∷ as') v p q = least_zip bs ms as' (min v m) (omega arith) (omega arith)

least_in_zip : (final : Bool) (v : ℕ) (bs ms as' : List ℕ) → length ms ≡ length bs → length as' ≡ length bs
    → least_in (value_in final v) (zip_arcs bs ms as') ≡ least_from final v ms
unfolding zip_arcs least_of least_num
least_in_zip true v bs ms as' p q = least_zip bs ms as' v p q
least_in_zip false v [] [] as' p q = refl
least_in_zip false v [] (m ∷ ms) as' p q = absurd (omega arith)
least_in_zip false v (b ∷ bs) [] as' p q = absurd (omega arith)
least_in_zip false v (b ∷ bs) (m ∷ ms) [] p q = absurd (omega arith)
least_in_zip false v (b ∷ bs) (m ∷ ms) (a ∷ as') p q = least_zip bs ms as' m (omega arith) (omega arith)

-- ---- rows

pub length_row : (t : List ℕ) (d n : ℕ) → 256 * d + n ≤ length t → length (row_in t d n) ≡ n
length_row t d n h = length-take-le n (drop (256 * d) t) (omega (arith, length-drop (256 * d) t))

pub row_snoc : (t : List ℕ) (d n x : ℕ) → 256 * d + n < length t → row_in (set t (256 * d + n) x) d (n + 1) ≡ row_in t d n ++ (x ∷ [])
row_snoc t d n x h =
    let e : n + 1 ≡ suc n = omega arith in
    rw (drop-set-add (256 * d) t n x, e) (take-suc-set (drop (256 * d) t) n x (omega (arith, length-drop (256 * d) t)))

-- a row above depth e is told by the entries above it
take_drop_take : (m a k : ℕ) (t : List ℕ) → a + m ≤ k → take m (drop a t) ≡ take m (drop a (take k t))
take_drop_take m zero k t h = sym (take-take m k t (omega arith))
take_drop_take m (suc a) zero t h = absurd (omega arith)
take_drop_take m (suc a) (suc k) [] h = refl
take_drop_take m (suc a) (suc k) (x ∷ t) h = take_drop_take m a k t (omega arith)

pub row_above : (t t' : List ℕ) (e j n : ℕ) → j < e → n ≤ 256 → take (256 * e) t' ≡ take (256 * e) t → row_in t' j n ≡ row_in t j n
row_above t t' e j n l few same =
    take_drop_take n (256 * j) (256 * e) t' (omega arith) ∙ ap (λ (s : List ℕ). take n (drop (256 * j) s)) same
    ∙ sym (take_drop_take n (256 * j) (256 * e) t (omega arith))

-- ---- open nodes

module _ (T : Tables) (sized : Sized T) (d : ℕ) (low : d < 256) (few : count_at T d ≤ 256) where
  row_lengths : (length (row_in T.inputs d (count_at T d)) ≡ count_at T d) × (length (row_in T.leasts d (count_at T d)) ≡ count_at T d)
      × (length (row_in T.targets d (count_at T d)) ≡ count_at T d)
  row_lengths = (
    length_row T.inputs d (count_at T d) (omega (arith, sized.inputs_long)),
    length_row T.leasts d (count_at T d) (omega (arith, sized.leasts_long)),
    length_row T.targets d (count_at T d) (omega (arith, sized.targets_long)),
  )

  pub open_least : least_at (open_at T d) ≡ least_from (get_or T.finals d false) (get_or T.values d 0) (row_in T.leasts d (count_at T d))
  unfolding least_at open_at
  open_least =
      let l = row_lengths in
      least_in_zip (get_or T.finals d false) (get_or T.values d 0) (row_in T.inputs d (count_at T d)) (row_in T.leasts d (count_at T d))
      (row_in T.targets d (count_at T d)) (l.1 ∙ sym l.0) (l.2 ∙ sym l.0)

  pub open_inputs : map (λ (a : Arc). a.inp) (open_at T d).arcs ≡ row_in T.inputs d (count_at T d)
  unfolding open_at
  open_inputs = let l = row_lengths in zip_inputs _ _ _ (l.1 ∙ sym l.0) (l.2 ∙ sym l.0)

  -- the record, with the base taken from the row's numbers
  abbrev pub row_record : ℕ → BuilderNode
  row_record base = record {
    final = get_or T.finals d false;
    final_output = cond (get_or T.finals d false) (get_or T.values d 0 - base) 0;
    inputs = row_in T.inputs d (count_at T d);
    outputs = map (λ (m : ℕ). m - base) (row_in T.leasts d (count_at T d));
    targets = row_in T.targets d (count_at T d);
  }

  pub record_row : (base : ℕ) → record_of (open_at T d) base ≡ row_record base
  unfolding record_of open_at
  record_row base =
      let l = row_lengths in
      by (get_or T.finals d false)
      (zip_inputs (row_in T.inputs d (count_at T d)) (row_in T.leasts d (count_at T d)) (row_in T.targets d (count_at T d)) (l.1 ∙ sym l.0) (l.2 ∙ sym l.0))
      (zip_outputs base (row_in T.inputs d (count_at T d)) (row_in T.leasts d (count_at T d)) (row_in T.targets d (count_at T d)) (l.1 ∙ sym l.0) (l.2 ∙ sym l.0))
      (zip_targets (row_in T.inputs d (count_at T d)) (row_in T.leasts d (count_at T d)) (row_in T.targets d (count_at T d)) (l.1 ∙ sym l.0) (l.2 ∙ sym l.0))
    where
      record_with : Bool → ℕ → List ℕ → List ℕ → List ℕ → BuilderNode
      record_with f o is os ts = record { final = f; final_output = o; inputs = is; outputs = os; targets = ts }

      by : (x : Bool) {is os ts is' os' ts' : List ℕ} → is ≡ is' → os ≡ os' → ts ≡ ts'
          → record_with (is_some (value_in x (get_or T.values d 0))) (final_out (value_in x (get_or T.values d 0)) base) is os ts
          ≡ record_with x (cond x (get_or T.values d 0 - base) 0) is' os' ts'
      by true p q r = rw (p, q, r)
      by false p q r = rw (p, q, r)

pub open_same : (T T' : Tables) (e j : ℕ) → j < e → count_at T j ≤ 256 → SameAbove e T T' → open_at T' j ≡ open_at T j
unfolding open_at
open_same T T' e j l few s =
    rw (
      s.counts_same j l,
      s.led_same j l,
      s.finals_same j l,
      s.values_same j l,
      row_above T.inputs T'.inputs e j (count_at T j) l few s.inputs_same,
      row_above T.leasts T'.leasts e j (count_at T j) l few s.leasts_same,
      row_above T.targets T'.targets e j (count_at T j) l few s.targets_same,
    )

-- ---- a transition more

-- at the end of row e
abbrev pub with_entry : Tables → ℕ → ℕ → ℕ → ℕ → Tables
with_entry T e b m a =
    tables_with (set T.inputs (256 * e + count_at T e) b) (set T.leasts (256 * e + count_at T e) m) (set T.targets (256 * e + count_at T e) a)
    (set T.counts e (count_at T e + 1)) T.led T.finals T.values

module _ (T : Tables) (sized : Sized T) (e : ℕ) (low : e < 256) (few : count_at T e < 256) (b m a : ℕ) where
  count_more : count_at (with_entry T e b m a) e ≡ count_at T e + 1
  count_more = get_or-set_same T.counts e (count_at T e + 1) 0 (omega (arith, sized.counts_long))

  pub inputs_more : row_in (with_entry T e b m a).inputs e (count_at (with_entry T e b m a) e) ≡ row_in T.inputs e (count_at T e) ++ (b ∷ [])
  inputs_more = rw count_more (row_snoc T.inputs e (count_at T e) b (omega (arith, sized.inputs_long)))

  leasts_more : row_in (with_entry T e b m a).leasts e (count_at (with_entry T e b m a) e) ≡ row_in T.leasts e (count_at T e) ++ (m ∷ [])
  leasts_more = rw count_more (row_snoc T.leasts e (count_at T e) m (omega (arith, sized.leasts_long)))

  targets_more : row_in (with_entry T e b m a).targets e (count_at (with_entry T e b m a) e) ≡ row_in T.targets e (count_at T e) ++ (a ∷ [])
  targets_more = rw count_more (row_snoc T.targets e (count_at T e) a (omega (arith, sized.targets_long)))

  pub open_more : open_at (with_entry T e b m a) e ≡ with_arc (open_at T e) (arc_with b m a)
  unfolding open_at
  open_more =
      let l = row_lengths T sized e low (omega arith) in
      rw (
        inputs_more,
        leasts_more,
        targets_more,
        zip_snoc (row_in T.inputs e (count_at T e)) (row_in T.leasts e (count_at T e)) (row_in T.targets e (count_at T e)) b m a (l.1 ∙ sym l.0) (l.2 ∙ sym l.0),
      )

  pub same_more : SameAbove e T (with_entry T e b m a)
  same_more = record {
    inputs_same = take-set-le (256 * e) T.inputs (256 * e + count_at T e) b (omega arith);
    leasts_same = take-set-le (256 * e) T.leasts (256 * e + count_at T e) m (omega arith);
    targets_same = take-set-le (256 * e) T.targets (256 * e + count_at T e) a (omega arith);
    counts_same = λ j l. get_or-set_other T.counts e j (count_at T e + 1) 0 (λ z. omega arith);
    led_same = λ j l. refl;
    finals_same = λ j l. refl;
    values_same = λ j l. refl;
  }

  pub sized_more : Sized (with_entry T e b m a)
  sized_more = record {
    inputs_long = omega (arith, sized.inputs_long, length-set T.inputs (256 * e + count_at T e) b);
    leasts_long = omega (arith, sized.leasts_long, length-set T.leasts (256 * e + count_at T e) m);
    targets_long = omega (arith, sized.targets_long, length-set T.targets (256 * e + count_at T e) a);
    counts_long = length-set T.counts e (count_at T e + 1) ∙ sized.counts_long;
    led_long = sized.led_long;
    finals_long = sized.finals_long;
    values_long = sized.values_long;
  }

-- ---- orderly rows

pub targets_grow : (first later : ℕ) (ts : List ℕ) → first ≤ later → TargetsOk first ts → TargetsOk later ts
unfolding TargetsOk TargetOk
targets_grow first later ts le ok i l = ⊎_elim (λ z. inl z) (λ w. inr (w.0, omega (arith, w.1))) (ok i l)

pub targets_snoc : (first : ℕ) (ts : List ℕ) (a : ℕ) → TargetsOk first ts → TargetOk first a → TargetsOk first (ts ++ (a ∷ []))
unfolding TargetsOk
targets_snoc first [] a ok is zero l = is
targets_snoc first [] a ok is (suc i) l = absurd (omega arith)
targets_snoc first (t ∷ ts) a ok is zero l = ok 0 (omega arith)
targets_snoc first (t ∷ ts) a ok is (suc i) l = targets_snoc first ts a (λ j h. ok (suc j) (omega arith)) is i (omega arith)

-- there is room for the transition along the byte that leads on
pub room_for_one : {first : ℕ} {T : Tables} {k : ℕ} → Sized T → ((i : ℕ) → get_or T.inputs i 0 < 256) → Orderly first T k → (e : ℕ)
    → e < k → e < 256 → count_at T e < 256
room_for_one {first} {T} {k} sized bytes o e l low =
    let n : ℕ = count_at T e in
    let row : List ℕ = row_in T.inputs e n in
    let few = o.few e (omega arith) in
    let len = length_row T.inputs e n (omega (arith, sized.inputs_long)) in
    let all = few_bytes (row ++ (get_or T.led (e + 1) 0 ∷ [])) (o.next e l)
    (λ i h. snoc_byte row (get_or T.led (e + 1) 0) (λ j q. subst (λ (x : ℕ). x < 256) (sym (get_or-take n (drop (256 * e) T.inputs) j 0 (omega (arith, len))
    ∙ get_or-drop (256 * e) T.inputs j 0)) (bytes (256 * e + j))) (o.byte e l) i) in
    omega (arith, all, len, length-append row (get_or T.led (e + 1) 0 ∷ []))
  where
    snoc_byte : (bs : List ℕ) (b : ℕ) → ((j : ℕ) → j < length bs → get_or bs j 0 < 256) → b < 256 → (i : ℕ) → get_or (bs ++ (b ∷ [])) i 0 < 256
    snoc_byte [] b all last zero = last
    snoc_byte [] b all last (suc i) = omega arith
    snoc_byte (x ∷ bs) b all last zero = all 0 (omega arith)
    snoc_byte (x ∷ bs) b all last (suc i) = snoc_byte bs b (λ j h. all (suc j) (omega arith)) last i

-- the deepest node has become a transition of the node above it
module _ (first later : ℕ) (T : Tables) (e m a : ℕ) (sized : Sized T) (low : e < 256) (room : count_at T e < 256) (le : first ≤ later) (target : TargetOk later a)
    (o : Orderly first T (e + 1)) where
  abbrev b : ℕ
  b = get_or T.led (e + 1) 0

  abbrev T' : Tables
  T' = with_entry T e b m a

  s : SameAbove e T T'
  s = same_more T sized e low room b m a

  split : (d : ℕ) → d ≤ e → (d ≡ e) ⊎ (d < e)
  split d l = elim (ℕ_discrete d e) [ yes z ↦ inl z | no z ↦ inr (omega arith) ]

  pub orderly_more : Orderly later (with_entry T e (get_or T.led (e + 1) 0) m a) e
  orderly_more = record {
    few = λ d l.
        ⊎_elim (λ z. subst (λ (i : ℕ). count_at T' i ≤ 256) (sym z) (omega (arith, count_more T sized e low room b m a)))
        (λ z. omega (arith, s.counts_same d z, o.few d (omega arith))) (split d l);
    deepest = subst Ascending (sym (inputs_more T sized e low room b m a)) (o.next e (omega arith));
    next = λ d l.
        rw (s.counts_same d l, row_above T.inputs T'.inputs e d (count_at T d) l (o.few d (omega arith)) s.inputs_same) (o.next d (omega arith));
    byte = λ d l. o.byte d (omega arith);
    targets_ok = λ d l.
        ⊎_elim (λ z. subst (λ (i : ℕ). TargetsOk later (row_in T'.targets i (count_at T' i))) (sym z)
        (subst (TargetsOk later) (sym (targets_more T sized e low room b m a))
        (targets_snoc later (row_in T.targets e (count_at T e)) a (targets_grow first later _ le (o.targets_ok e (omega arith))) target)))
        (λ z.
        rw (s.counts_same d z, row_above T.targets T'.targets e d (count_at T d) z (o.few d (omega arith)) s.targets_same)
        (targets_grow first later _ le (o.targets_ok d (omega arith)))) (split d l);
  }
