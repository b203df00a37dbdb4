-- Laws of the loops over a key: how far it goes along the open nodes, and the open nodes along the rest of it.
--     common_is             where the key and the bytes along the open nodes part, or the end of the shorter
--     led_none, led_step, opened_all    the loop of `open_key`, and what it leaves
--     before_rises, before_ends    what the order of two keys says where they part
-- Assumes nothing.
use Rattle.std.specs.Prelude.{◌≡◌, refl, Bool, true, false, cond, not, eqb, ltb, ◌⊎◌, Option, None, Some, is_some, List, [], ◌∷◌, ℕ, zero, suc, ◌+◌, ◌-◌, ◌≤◌, ◌<◌, min, length, get_or, set, take, drop, replicate, ◌++◌, zip, position, unwrap_or}
use Rattle.std.specs.List.{position_or_len}
use Rattle.std.proofs.Common.{sym, ap, ◌∙◌, inl, inr, ⊎_elim, arith, true≢false, length-set, length-append, length-drop, length-take-le, get_or-take, get_or-drop, get_or-set_same, get_or-set_other}
use Rattle.std.proofs.lemmas.List.{length-replicate, get_or_append_left, get_or-append_right, get_or-replicate}
use Rattle.std.proofs.lemmas.List.Sums.{fails_before_first}
use Rattle.std.proofs.lemmas.List.Quantifiers.{position-Some}
use borrow.Author.Tests.{ltb-false, eqb-true, eqb-false, not-true, not-false}
use Rattle.std.proofs.Math.Decide.{ℕ_discrete}
use Rattle.format.specs.Strings.{Before, shorter, lower, later}
use Rattle.packing_rows.specs.WorkTables.{tables_with}
use Rattle.pack_insert.specs.Inserting.{CommonIs, OpenedTo, Opened}

-- ---- how far

-- two lists side by side
zip_at : (xs ys : List ℕ) (k : ℕ) → k < length (zip xs ys) → (k < length xs) × (k < length ys) × (get_or (zip xs ys) k (0, 0) ≡ (get_or xs k 0, get_or ys k 0))
zip_at [] ys k l = absurd (omega arith)
zip_at (x ∷ xs) [] k l = absurd (omega arith)
zip_at (x ∷ xs) (y ∷ ys) zero l = (omega arith, omega arith, refl)
zip_at (x ∷ xs) (y ∷ ys) (suc k) l = let z = zip_at xs ys k (omega arith) in (omega (arith, z.0), omega (arith, z.1), z.2)

zip_past : (xs ys : List ℕ) (k : ℕ) → k < length xs → k < length ys → k < length (zip xs ys)
zip_past [] ys k l h = absurd (omega arith)
zip_past (x ∷ xs) [] k l h = absurd (omega arith)
zip_past (x ∷ xs) (y ∷ ys) zero l h = omega arith
zip_past (x ∷ xs) (y ∷ ys) (suc k) l h = let z = zip_past xs ys k (omega arith) (omega arith) in omega (arith, z)

-- two bytes that differ
abbrev pub parted : ℕ × ℕ → Bool
parted p = not (eqb p.0 p.1)

not_parted : (a b : ℕ) → parted (a, b) ≡ false → a ≡ b
not_parted a b e = eqb-true a b (not-false (eqb a b) e)

is_parted : (a b : ℕ) → parted (a, b) ≡ true → ¬ (a ≡ b)
is_parted a b e z = eqb-false a b (not-true (eqb a b) e) z

none_first : (xs : List (ℕ × ℕ)) (b : Bool) → ltb (position_or_len parted xs) (length xs) ≡ b → position parted xs ≡ None → length xs ≤ position_or_len parted xs
none_first xs true q e = absurd (true≢false (ap is_some (sym (ap (λ (t : Bool). cond t (Some (position_or_len parted xs)) None) q) ∙ e)))
none_first xs false q e = ltb-false (position_or_len parted xs) (length xs) q

module _ (key led : List ℕ) (k : ℕ) (deep : k < 256) (long : length led ≡ 256) where
  abbrev way : List ℕ
  way = take k (drop 1 led)

  way_long : length way ≡ k
  way_long = length-take-le k (drop 1 led) (omega (arith, length-drop 1 led, long))

  way_at : (j : ℕ) → j < k → get_or way j 0 ≡ get_or led (j + 1) 0
  way_at j l = get_or-take k (drop 1 led) j 0 l ∙ get_or-drop 1 led j 0 ∙ ap (λ (i : ℕ). get_or led i 0) (omega arith)

  same_at : (j : ℕ) → j < length (zip key way) → parted (get_or (zip key way) j (0, 0)) ≡ false → get_or led (j + 1) 0 ≡ get_or key j 0
  same_at j l e =
      let z = zip_at key way j l in
      sym (way_at j (omega (arith, z.1, way_long))) ∙ sym (not_parted (get_or key j 0) (get_or way j 0) (ap parted (sym z.2) ∙ e))

  common_parts : (i : ℕ) → position parted (zip key way) ≡ Some i → CommonIs key led k i
  common_parts i e =
      let p = position-Some parted (zip key way) i (0, 0) e in
      let z = zip_at key way i p.0 in
      record {
        low = omega (arith, z.1, way_long);
        within = omega (arith, z.0);
        agree = λ j l. same_at j (omega (arith, p.0)) (p.2 j l);
        leaves =
            inr (inr (λ q. is_parted (get_or key i 0) (get_or way i 0) (ap parted (sym z.2) ∙ p.1)
            (sym q ∙ sym (way_at i (omega (arith, z.1, way_long))))));
      }

  common_whole : position parted (zip key way) ≡ None → (m : ℕ) → (m ≤ k) × (m ≤ length key) × ((m ≡ k) ⊎ (m ≡ length key)) → CommonIs key led k m
  common_whole e m w =
      let all : length (zip key way) ≤ position_or_len parted (zip key way) = none_first (zip key way) _ refl e in
      record {
        low = w.0;
        within = w.1;
        agree = λ j l.
            let h = zip_past key way j (omega (arith, w.1)) (omega (arith, w.0, way_long)) in
            same_at j h (fails_before_first parted (zip key way) j (0, 0) (omega (arith, all, h)));
        leaves = ⊎_elim (λ q. inl q) (λ q. inr (inl q)) w.2;
      }

  shorter_end : (d : ℕ) → d ≡ min k (length key) → (d ≤ k) × (d ≤ length key) × ((d ≡ k) ⊎ (d ≡ length key))
  shorter_end d e = (omega (arith, e), omega (arith, e), elim (ℕ_discrete d k) [ yes z ↦ inl z | no z ↦ inr (omega (arith, e, z)) ])

  pub common_is : (r : Option ℕ) → r ≡ position parted (zip key way) → (d : ℕ) → d ≡ min k (length key) → CommonIs key led k (unwrap_or r d)
  common_is (Some i) e d s = common_parts i (sym e)
  common_is None e d s = common_whole (sym e) d (shorter_end d s)

-- ---- the order where two keys part

pub before_rises : {s t : List ℕ} → Before s t → (m : ℕ) → m < length s → m < length t → ((j : ℕ) → j < m → get_or s j 0 ≡ get_or t j 0)
    → ¬ (get_or s m 0 ≡ get_or t m 0) → get_or s m 0 < get_or t m 0
before_rises shorter m l h agree ne = absurd (omega arith)
before_rises (lower lt) zero l h agree ne = lt
before_rises (lower lt) (suc m) l h agree ne = absurd (omega (arith, lt, agree 0 (omega arith)))
before_rises (later b) zero l h agree ne = absurd (ne refl)
before_rises (later b) (suc m) l h agree ne = before_rises b m (omega arith) (omega arith) (λ j q. agree (suc j) (omega arith)) ne

pub before_ends : {s t : List ℕ} → Before s t → (m : ℕ) → m ≤ length s → m ≡ length t → ((j : ℕ) → j < m → get_or s j 0 ≡ get_or t j 0) → ⊥
before_ends shorter m l e agree = omega arith
before_ends (lower lt) zero l e agree = omega arith
before_ends (lower lt) (suc m) l e agree = omega (arith, lt, agree 0 (omega arith))
before_ends (later b) zero l e agree = omega arith
before_ends (later b) (suc m) l e agree = before_ends b m (omega arith) (omega arith) (λ j q. agree (suc j) (omega arith))

-- ---- the open nodes along the key

-- the bytes before and after, down to depth d; those of depth m and above stay
pub record LedTo (key : List ℕ) (m d : ℕ) (led₀ led : List ℕ) : Type 0 where
  pub low : m ≤ d
  pub within : d ≤ length key
  pub led_long : length led ≡ 256
  pub led_same : (j : ℕ) → j ≤ m → get_or led j 0 ≡ get_or led₀ j 0
  pub led_new : (j : ℕ) → m < j → j ≤ d → get_or led j 0 ≡ get_or key (j - 1) 0

pub led_none : (key : List ℕ) (m : ℕ) (led : List ℕ) → m ≤ length key → length led ≡ 256 → LedTo key m m led led
led_none key m led le b = record { low = omega arith; within = le; led_long = b; led_same = λ j l. refl; led_new = λ j l h. absurd (omega arith) }

pub led_step : {key : List ℕ} {m d : ℕ} {led₀ led : List ℕ} → LedTo key m d led₀ led → d < length key → length key < 256
    → LedTo key m (d + 1) led₀ (set led (d + 1) (get_or key d 0))
led_step {key} {m} {d} {led₀} {led} o l few =
    let ll = o.led_long in
    record {
      low = omega (arith, o.low);
      within = omega arith;
      led_long = length-set led (d + 1) (get_or key d 0) ∙ ll;
      led_same = λ j h. get_or-set_other led (d + 1) j (get_or key d 0) 0 (λ z. omega (arith, o.low)) ∙ o.led_same j h;
      led_new = λ j h q.
          elim (ℕ_discrete j (d + 1)) [
            | yes z ↦ ap (λ (i : ℕ). get_or (set led (d + 1) (get_or key d 0)) i 0) z ∙ get_or-set_same led (d + 1) (get_or key d 0) 0 (omega (arith, ll)) ∙ ap (λ (i : ℕ). get_or key i 0) (omega arith)
            | no ne ↦ get_or-set_other led (d + 1) j (get_or key d 0) 0 ne ∙ o.led_new j h (omega (arith, ne))
          ];
    }

-- w places from place a on filled with x
module _ {A : Type 0} (x d₀ : A) (xs part : List A) (a w : ℕ) (room : a + w ≤ length xs) (is : part ≡ replicate (length (take w (drop a xs))) x) where
  abbrev filled : List A
  filled = take a xs ++ (part ++ drop w (drop a xs))

  front_long : length (take a xs) ≡ a
  front_long = length-take-le a xs (omega arith)

  part_is : part ≡ replicate w x
  part_is = is ∙ ap (λ (k : ℕ). replicate k x) (length-take-le w (drop a xs) (omega (arith, length-drop a xs)))

  part_long : length part ≡ w
  part_long = ap length part_is ∙ length-replicate w x

  filled_long : length filled ≡ length xs
  filled_long =
      omega (arith, room, front_long, part_long, length-append (take a xs) (part ++ drop w (drop a xs)), length-append part (drop w (drop a xs)), length-drop w (drop a xs), length-drop a xs)

  filled_before : (j : ℕ) → j < a → get_or filled j d₀ ≡ get_or xs j d₀
  filled_before j l = get_or_append_left (take a xs) (part ++ drop w (drop a xs)) d₀ j (omega (arith, front_long)) ∙ get_or-take a xs j d₀ l

  filled_in : (j : ℕ) → a ≤ j → j < a + w → get_or filled j d₀ ≡ x
  filled_in j l h =
      get_or-append_right (take a xs) (part ++ drop w (drop a xs)) a j d₀ front_long l
      ∙ get_or_append_left part (drop w (drop a xs)) d₀ (j - a) (omega (arith, part_long))
      ∙ ap (λ (p : List A). get_or p (j - a) d₀) part_is
      ∙ get_or-replicate w (j - a) x d₀ (omega arith)

module _ (key : List ℕ) (m v : ℕ) (inputs leasts targets counts₀ led₀ : List ℕ) (finals₀ : List Bool) (values led : List ℕ) (d w : ℕ) (o : LedTo key m d led₀ led)
    (end_is : length key ≤ d) (few : length key < 256) (cl : length counts₀ ≡ 256) (fl : length finals₀ ≡ 256) (vl : length values ≡ 256) (w_is : w ≡ length key - m)
    (zeros : List ℕ) (zeros_is : zeros ≡ replicate (length (take w (drop (m + 1) counts₀))) 0)
    (falses : List Bool) (falses_is : falses ≡ replicate (length (take w (drop (m + 1) finals₀))) false) where
  abbrev counts : List ℕ
  counts = take (m + 1) counts₀ ++ (zeros ++ drop w (drop (m + 1) counts₀))

  abbrev finals : List Bool
  finals = take (m + 1) finals₀ ++ (falses ++ drop w (drop (m + 1) finals₀))

  room_c : m + 1 + w ≤ length counts₀
  room_c = omega (arith, o.low, o.within)

  room_f : m + 1 + w ≤ length finals₀
  room_f = omega (arith, o.low, o.within)

  opened_to : OpenedTo key m (length key) counts₀ led₀ finals₀ counts led finals
  opened_to = record {
    low = omega (arith, o.low, o.within);
    within = omega arith;
    counts_long = filled_long 0 0 counts₀ zeros (m + 1) w room_c zeros_is ∙ cl;
    led_long = o.led_long;
    finals_long = filled_long false false finals₀ falses (m + 1) w room_f falses_is ∙ fl;
    counts_same = λ j l. filled_before 0 0 counts₀ zeros (m + 1) w room_c zeros_is j (omega arith);
    led_same = o.led_same;
    finals_same = λ j l. filled_before false false finals₀ falses (m + 1) w room_f falses_is j (omega arith);
    counts_new = λ j l h. filled_in 0 0 counts₀ zeros (m + 1) w room_c zeros_is j (omega arith) (omega (arith, o.low, o.within));
    led_new = λ j l h. o.led_new j l (omega arith);
    finals_new = λ j l h. filled_in false false finals₀ falses (m + 1) w room_f falses_is j (omega arith) (omega (arith, o.low, o.within));
  }

  pub opened_all : Opened key m v (tables_with inputs leasts targets counts₀ led₀ finals₀ values)
      (tables_with inputs leasts targets counts led (set finals (length key) true) (set values (length key) v))
  opened_all = record {
    finals₁ = finals;
    opened = opened_to;
    final_here = get_or-set_same finals (length key) true false (omega (arith, few, opened_to.finals_long));
    final_else = λ j ne. get_or-set_other finals (length key) j true false ne;
    value_here = get_or-set_same values (length key) v 0 (omega (arith, vl, few));
    value_else = λ j ne. get_or-set_other values (length key) j v 0 ne;
    finals_long = length-set finals (length key) true ∙ opened_to.finals_long;
    values_long = length-set values (length key) v ∙ vl;
    inputs_same = refl;
    leasts_same = refl;
    targets_same = refl;
  }
