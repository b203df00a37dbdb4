-- What a cut between two bounds does to the strings between them, to the extra one of demand 3, and so to three readings that were run to their end.
--     first_in, second_in, in_one, apart     what lies between the bounds lies on one side of the cut
--     number_cut             the numbers of strings on both sides
--     KeysBetween f lo hi m, keys_cut     m is the number of held keys between the bounds; it is that of both sides together
--     extra_same, greater_extra, no_greater_extra     the extra one of the whole is that of the second; that of the first tells of a string above the cut
--     Full f lo hi es n      es are the held keys between the bounds, ascending, and n is the total at the end
--     in_two                 three such readings, the second and the third cut from the first
-- Assumes nothing.
use Rattle.std.specs.Prelude.{◌≡◌, refl, ◌⊎◌, ℕ, ◌+◌, ◌<◌, ◌≤◌}
use Rattle.std.proofs.Common.{sym, ◌∙◌, subst, ⊎_elim, inl, inr, arith}
use mathlib.Core.List.{List, [], ◌++◌, Memᴰ}
use Rattle.buffers.specs.DecideLaws.{true_of}
use Rattle.format.specs.Limits.{max_sum}
use Rattle.format.specs.Paths.{Fst, Held}
use Rattle.format.specs.Strings.{Before, Bound, included, excluded, MeetsLower, beyond, PassesUpper, above, Between, Rising, NumberOf}
use Rattle.format.specs.Laws.StringLaws.{before_nil, before_irrefl, before_asym, before_trans, before_total}
use Rattle.format.specs.Laws.NumberOfLaws.{number_unique, number_iff, number_append}
use Rattle.reading.proofs.BoundLaws.{decides_meets, decides_passes, meets_up, passes_up}
use Rattle.reading.proofs.RunLaws.{lt_or, capped_low, capped_high}
use Rattle.reading.specs.Demand.{BeginsHeld, Within, Beyond, Extra, one_more, no_more, EmptyExcluded, Entry, NoneLeft, capped}
use Rattle.plain.specs.PlainDemand.{keys_out}
use Rattle.sittings.proofs.RisingLaws.{rising_append, rising_unique}
use Rattle.sittings.specs.Sittings.{up_to_cut, from_cut, Greater, InTwo}

-- ---- strings and bounds

meets_after : (b : Bound) (k l : List ℕ) → Before k l → MeetsLower b k → MeetsLower b l
meets_after b k l h m = (decides_meets b l).yes (meets_up b k l h (true_of _ (decides_meets b k) m))

passes_after : (b : Bound) (k l : List ℕ) → Before k l → PassesUpper b k → PassesUpper b l
passes_after b k l h p = (decides_passes b l).yes (passes_up b k l h (true_of _ (decides_passes b k) p))

beyond_cut : {c x : List ℕ} → MeetsLower (excluded c) x → Before c x
beyond_cut (beyond h) = h

above_cut : {c x : List ℕ} → PassesUpper (included c) x → Before c x
above_cut (above h) = h

-- a string not above c comes before every one above it
around : (c x y : List ℕ) → ¬ Before c x → Before c y → Before x y
around c x y low high =
    ⊎_elim
    (λ (e : x ≡ c). subst (λ (z : List ℕ). Before z y) (sym e) high)
    (λ h. ⊎_elim (λ (l : Before x c). before_trans l high) (λ (l : Before c x). absurd (low l)) h)
    (before_total x c)

-- ---- the cut of a range

module _ (lo hi : Bound) (c : List ℕ) (cut : Between lo hi c) where
  -- what passes the upper bound is above the cut
  past_cut : (x : List ℕ) → PassesUpper hi x → Before c x
  past_cut x p =
      ⊎_elim
      (λ (e : x ≡ c). absurd (cut.within (subst (PassesUpper hi) e p)))
      (λ h. ⊎_elim (λ (l : Before x c). absurd (cut.within (passes_after hi x c l p))) (λ (l : Before c x). l) h)
      (before_total x c)

  first_in : (x : List ℕ) → Between lo (up_to_cut c) x → Between lo hi x
  first_in x b = record { meets = b.meets; within = λ p. b.within (above (past_cut x p)) }

  second_in : (x : List ℕ) → Between (from_cut c) hi x → Between lo hi x
  second_in x b = record { meets = meets_after lo c x (beyond_cut b.meets) cut.meets; within = b.within }

  in_one : (x : List ℕ) → Between lo hi x → (Between lo (up_to_cut c) x) ⊎ (Between (from_cut c) hi x)
  in_one x b =
      ⊎_elim
      (λ (e : x ≡ c). inl (record { meets = b.meets; within = λ p. before_irrefl c (subst (Before c) e (above_cut p)) }))
      (λ h.
      ⊎_elim
      (λ (l : Before x c). inl (record { meets = b.meets; within = λ p. before_asym l (above_cut p) }))
      (λ (l : Before c x). inr (record { meets = beyond l; within = b.within }))
      h)
      (before_total x c)

  apart : (x y : List ℕ) → Between lo (up_to_cut c) x → Between (from_cut c) hi y → Before x y
  apart x y b d = around c x y (λ l. b.within (above l)) (beyond_cut d.meets)

  -- the empty key is not excluded in any of the three
  module _ (f : Fst) where
    whole_open : ¬ EmptyExcluded f lo hi
    whole_open x = before_nil c (past_cut [] x.passes)

    pub first_open : ¬ EmptyExcluded f lo (up_to_cut c)
    first_open x = before_nil c (above_cut x.passes)

    second_open : ¬ EmptyExcluded f (from_cut c) hi
    second_open x = before_nil c (beyond_cut x.meets)

-- ---- the numbers of strings, and the extra one

module _ (lo hi : Bound) (c : List ℕ) (cut : Between lo hi c) where
  -- the strings such that Q, on either side of the cut
  number_cut : (Q : List ℕ → Type 0) (m₁ m₂ : ℕ) → NumberOf (λ x. Q x × Between lo (up_to_cut c) x) m₁ → NumberOf (λ x. Q x × Between (from_cut c) hi x) m₂
      → NumberOf (λ x. Q x × Between lo hi x) (m₁ + m₂)
  number_cut Q m₁ m₂ N₁ N₂ =
      number_iff (λ x. (Q x × Between lo (up_to_cut c) x) ⊎ (Q x × Between (from_cut c) hi x)) (λ x. Q x × Between lo hi x) (m₁ + m₂)
      (λ x h. ⊎_elim (λ b. (b.0, first_in lo hi c cut x b.1)) (λ b. (b.0, second_in lo hi c cut x b.1)) h)
      (λ x h. ⊎_elim (λ b. inl (h.0, b)) (λ b. inr (h.0, b)) (in_one lo hi c cut x h.1))
      (number_append (λ x. Q x × Between lo (up_to_cut c) x) (λ x. Q x × Between (from_cut c) hi x) m₁ m₂ (λ x y h g. apart lo hi c cut x y h.1 g.1) N₁ N₂)

abbrev pub KeysBetween : Fst → Bound → Bound → ℕ → Type 0
KeysBetween f lo hi m = NumberOf (λ k. ((v : ℕ) × Held f k v) × Between lo hi k) m

module _ (f : Fst) (lo hi : Bound) (c : List ℕ) (cut : Between lo hi c) where
  pub keys_cut : (m m₁ m₂ : ℕ) → KeysBetween f lo hi m → KeysBetween f lo (up_to_cut c) m₁ → KeysBetween f (from_cut c) hi m₂ → m₁ + m₂ ≡ m
  keys_cut m m₁ m₂ N N₁ N₂ =
      number_unique (λ k. ((v : ℕ) × Held f k v) × Between lo hi k) (m₁ + m₂) m (number_cut lo hi c cut (λ k. (v : ℕ) × Held f k v) m₁ m₂ N₁ N₂) N

  -- the extra one: that of the second and of the whole are the same
  extra_same : {e e₂ : ℕ} → Extra f lo hi e → Extra f (from_cut c) hi e₂ → e ≡ e₂
  extra_same (one_more x h) (one_more y g) = refl
  extra_same (one_more x h) (no_more no_string) = absurd (no_string x (h.0, (beyond (past_cut lo hi c cut x h.1.1), h.1.1)))
  extra_same (no_more no_string) (one_more y g) = absurd (no_string y (g.0, (meets_after lo c y (beyond_cut g.1.0) cut.meets, g.1.1)))
  extra_same (no_more no_string) (no_more no_other) = refl

  -- that of the first is there where a string is above the cut
  greater_extra : {e₁ : ℕ} → Extra f lo (up_to_cut c) e₁ → Greater f c → e₁ ≡ 1
  greater_extra (one_more x h) g = refl
  greater_extra (no_more no_string) g =
      absurd
      (no_string g.string (
        record {
          not_empty = λ e. before_nil c (subst (Before c) e g.after);
          whole = g.whole;
          value = g.value;
          held = g.held;
          begins = g.begins;
        },
        (meets_after lo c g.string g.after cut.meets, above g.after),
      ))

  beyond_greater : {x : List ℕ} → Beyond f lo (up_to_cut c) x → Greater f c
  beyond_greater {x} h =
      record { string = x; whole = h.0.whole; value = h.0.value; held = h.0.held; begins = h.0.begins; after = above_cut h.1.1 }

  no_greater_extra : {e₁ : ℕ} → Extra f lo (up_to_cut c) e₁ → ¬ Greater f c → e₁ ≡ 0
  no_greater_extra (one_more x h) ng = absurd (ng (beyond_greater h))
  no_greater_extra (no_more no_string) ng = refl

  -- the extra one tells which
  pub greater_or : {e₁ : ℕ} → Extra f lo (up_to_cut c) e₁ → (Greater f c) ⊎ (¬ Greater f c)
  greater_or (one_more x h) = inl (beyond_greater h)
  greater_or (no_more no_string) = inr (λ g. let q = greater_extra (no_more no_string) g in omega arith)

-- a total below the largest was not cut off
uncapped : (m n : ℕ) → n ≡ capped m → n < max_sum → (n ≡ m) × (m < max_sum)
uncapped m n is low =
    ⊎_elim (λ (h : m < max_sum). (is ∙ capped_low m (omega arith), h)) (λ (h : max_sum ≤ m). absurd (omega (arith, is ∙ capped_high m h))) (lt_or m max_sum)

-- ---- a reading to its end

pub record Full (f : Fst) (lo hi : Bound) (es : List Entry) (n : ℕ) : Type 0 where
  pub ascending : Rising (keys_out es)
  pub held : (e : Entry) → Memᴰ e es → Held f e.key e.value × Between lo hi e.key
  pub none_left : NoneLeft f lo hi es
  pub total : ¬ EmptyExcluded f lo hi → (m e : ℕ) × NumberOf (Within f lo hi) m × Extra f lo hi e × (n ≡ capped (m + e))

module _ (f : Fst) (lo hi : Bound) (c : List ℕ) (cut : Between lo hi c) {es es₁ es₂ : List Entry} {n n₁ n₂ : ℕ}
    (W : Full f lo hi es n) (W₁ : Full f lo (up_to_cut c) es₁ n₁) (W₂ : Full f (from_cut c) hi es₂ n₂) where
  into : (e : Entry) → Memᴰ e (es₁ ++ es₂) → Memᴰ e es
  into e on =
      ⊎_elim
      (λ (h : Memᴰ e es₁). let w = W₁.held e h in W.none_left e.key e.value w.0 (first_in lo hi c cut e.key w.1))
      (λ (h : Memᴰ e es₂). let w = W₂.held e h in W.none_left e.key e.value w.0 (second_in lo hi c cut e.key w.1))
      (mathlib.Core.List.Memᴰ.append_cases es₁ on)

  out_of : (e : Entry) → Memᴰ e es → Memᴰ e (es₁ ++ es₂)
  out_of e on =
      let w = W.held e on in
      ⊎_elim
      (λ b. mathlib.Core.List.Memᴰ.append_left es₂ (W₁.none_left e.key e.value w.0 b))
      (λ b. mathlib.Core.List.Memᴰ.append_right es₁ (W₂.none_left e.key e.value w.0 b))
      (in_one lo hi c cut e.key w.1)

  entries_cut : es₁ ++ es₂ ≡ es
  entries_cut =
      rising_unique (λ (e : Entry). e.key) (es₁ ++ es₂) es
      (rising_append (λ (e : Entry). e.key) es₁ es₂ W₁.ascending W₂.ascending
      (λ x y mx my. apart lo hi c cut x.key y.key (W₁.held x mx).1 (W₂.held y my).1))
      W.ascending into out_of

  -- with i for the extra one of the first
  totals_cut : n < max_sum → (i : ℕ) → i ≤ 1 → ((e₁ : ℕ) → Extra f lo (up_to_cut c) e₁ → e₁ ≡ i) → n₁ + n₂ ≡ n + i
  totals_cut low i small is =
      let a = W.total (whole_open lo hi c cut f) in
      let a₁ = W₁.total (first_open lo hi c cut f) in
      let a₂ = W₂.total (second_open lo hi c cut f) in
      let m_is : a.0 ≡ a₁.0 + a₂.0 =
      number_unique (Within f lo hi) a.0 (a₁.0 + a₂.0) a.2 (number_cut lo hi c cut (BeginsHeld f) a₁.0 a₂.0 a₁.2 a₂.2) in
      let e_is : a.1 ≡ a₂.1 = extra_same f lo hi c cut a.3 a₂.3 in
      let i_is : a₁.1 ≡ i = is a₁.1 a₁.3 in
      let u = uncapped (a.0 + a.1) n a.4 low in
      let n_is : n ≡ a.0 + a.1 = u.0 in
      let fits : a.0 + a.1 < max_sum = u.1 in
      let n₁_is : n₁ ≡ a₁.0 + a₁.1 = a₁.4 ∙ capped_low (a₁.0 + a₁.1) (omega arith) in
      let n₂_is : n₂ ≡ a₂.0 + a₂.1 = a₂.4 ∙ capped_low (a₂.0 + a₂.1) (omega arith) in
      omega arith

  pub in_two : InTwo f c es es₁ es₂ n n₁ n₂
  in_two =
      record {
        same_keys = entries_cut;
        one_more = λ low g. totals_cut low 1 (omega arith) (λ e₁ x. greater_extra f lo hi c cut x g);
        no_more = λ low ng. totals_cut low 0 (omega arith) (λ e₁ x. no_greater_extra f lo hi c cut x ng) ∙ omega arith;
      }
