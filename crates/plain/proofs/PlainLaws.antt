-- Demand 3 of plain readings and the number of keys to come, proved: `demand_3_plain`, for every admitted file, every two bounds of at most 255 bytes, every table as filled for
-- that file or of which no entry is read, and every list of calls. The keys handed out are held keys between the bounds that strictly ascend
-- (demand 3), so they are at most the number that the start works out (`number_most`): a key never meets the number 0, and lowers it by one.
--     handed_of                    the keys that demand 3 speaks of are those of the answers
--     step_plain, run_plain        a call, and a list of calls, where no list of calls hands out more than K keys
--     handed_most                  none does
--     start_numbered               what a start gives
--     demand_3_plain               the claim
--     start_plain_only             a start is refused only for a bound or a short table
-- Assumes nothing.
use Rattle.std.specs.Prelude.{◌≡◌, refl, ◌⊎◌, ℕ, zero, suc, ◌+◌, ◌-◌, ◌≤◌, ◌<◌, leb, length, replicate}
use Rattle.std.proofs.Common.{sym, ap, ◌∙◌, subst, inl, inr, ⊎_elim, arith}
use mathlib.Core.List.Memᴰ
use mathlib.Core.List.{List, [], ◌∷◌, ◌++◌, map, append_assoc, append-nil, Memᴰ}
use borrow.Author.Tests.{le-leb, lt-leb, ne_eqb}
use Rattle.std.proofs.lemmas.List.{length-map}
use Rattle.format.specs.Limits.{max_path, BOUND, SPACE}
use Rattle.format.specs.Paths.{Fst, fst_of, Held}
use Rattle.format.specs.Admitted.{Admitted}
use Rattle.format.specs.Strings.{Bound, Between, NumberOf}
use Rattle.format.specs.Laws.NumberOfLaws.{number_most, number_iff, number_rest}
use Rattle.reading.specs.Reading.{bound_bytes, View, Answer, key, end}
use Rattle.reading.specs.Demand.{Call, call, reading_after, answers, unrefused, Entry, entry, hand_out, handed_in, handed_then, Demand3}
use Rattle.reading.proofs.RunLaws.{lt_or}
use Rattle.reading.proofs.WholeLaws.{both_false}
use Rattle.reading.proofs.DemandLaws.{reading₀, start_given, demand_3}
use Rattle.plain.specs.Numbers.{TableFits}
use Rattle.plain.proofs.NumberLaws.{HeldBetween, NumberRight, number_right}
use Rattle.plain.specs.Plain.{Plain, plain_with, Begun, begun, start_plain, PlainStep, counting, call_plain, plain_after, answers_plain}
use Rattle.plain.specs.PlainDemand.{keys_out, StillToCome, DemandPlain}

-- ---- the keys of the answers

handed_unrefused : (xs : List Answer) → handed_in (unrefused xs) ≡ handed_in xs
handed_unrefused [] = refl
handed_unrefused (key k v ∷ xs) = ap (λ (es : List Entry). entry k v ∷ es) (handed_unrefused xs)
handed_unrefused (end ∷ xs) = handed_unrefused xs
handed_unrefused (Answer.refused n ∷ xs) = handed_unrefused xs

handed_ends : (n : ℕ) → handed_in (replicate n end) ≡ []
handed_ends zero = refl
handed_ends (suc n) = handed_ends n

handed_out : (es : List Entry) (n : ℕ) → handed_in (map hand_out es ++ replicate n end) ≡ es
handed_out [] n = handed_ends n
handed_out (e ∷ es) n = ap (λ (r : List Entry). e ∷ r) (handed_out es n)

pub handed_of : {s : List ℕ} {A : Admitted s} {lo hi : Bound} {cs : List (Call s)} (D : Demand3 A lo hi cs) → handed_in (answers D.reading cs) ≡ D.handed
handed_of {cs = cs} D =
    sym (handed_unrefused (answers D.reading cs)) ∙ ap handed_in D.one_a_call ∙ handed_out D.handed D.ends

-- ---- one call more

after_snoc : {s : List ℕ} (r : View) (pre : List (Call s)) (c : Call s) → reading_after r (pre ++ (c ∷ [])) ≡ (call (reading_after r pre) c).reading
after_snoc r [] c = refl
after_snoc r (d ∷ pre) c = after_snoc (call r d).reading pre c

handed_more : (a : Answer) (es : List Entry) → length (handed_then a es) ≡ length (handed_then a []) + length es
handed_more (key k v) es = omega arith
handed_more end es = omega arith
handed_more (Answer.refused n) es = omega arith

handed_snoc : {s : List ℕ} (r : View) (pre : List (Call s)) (c : Call s)
    → length (handed_in (answers r (pre ++ (c ∷ [])))) ≡ length (handed_in (answers r pre)) + length (handed_then (call (reading_after r pre) c).answer [])
handed_snoc r [] c = omega arith
handed_snoc r (d ∷ pre) c =
    let rest = handed_snoc (call r d).reading pre c in
    let one = handed_more (call r d).answer (handed_in (answers (call r d).reading (pre ++ (c ∷ [])))) in
    let two = handed_more (call r d).answer (handed_in (answers (call r d).reading pre)) in
    omega arith

-- ---- where no list of calls hands out more than K keys

module _ {s : List ℕ} (r₀ : View) (K : ℕ) (most : (cs : List (Call s)) → length (handed_in (answers r₀ cs)) ≤ K) where
  -- the reading after these calls
  abbrev plain_at : List (Call s) → Plain
  plain_at pre = plain_with (reading_after r₀ pre) (K - length (handed_in (answers r₀ pre)))

  step_plain : (pre : List (Call s)) (c : Call s)
      → call_plain (plain_at pre) c ≡ record { answer = (call (reading_after r₀ pre) c).answer; reading = plain_at (pre ++ (c ∷ [])) }
  step_plain pre c = by (call (reading_after r₀ pre) c).answer refl
    where
      by : (a : Answer) → length (handed_then (call (reading_after r₀ pre) c).answer []) ≡ length (handed_then a [])
          → counting (plain_at pre) (call (reading_after r₀ pre) c).reading a ≡ record { answer = a; reading = plain_at (pre ++ (c ∷ [])) }
      by (key k v) one =
          let total = handed_snoc r₀ pre c in
          let fits = most (pre ++ (c ∷ [])) in
          let left : ¬ (K - length (handed_in (answers r₀ pre)) ≡ 0) = λ z. omega arith in
          let less : K - length (handed_in (answers r₀ (pre ++ (c ∷ [])))) ≡ K - length (handed_in (answers r₀ pre)) - 1 = omega arith in
          rw (ne_eqb (K - length (handed_in (answers r₀ pre))) 0 left, after_snoc r₀ pre c, less)
      by end none =
          let same : K - length (handed_in (answers r₀ (pre ++ (c ∷ [])))) ≡ K - length (handed_in (answers r₀ pre)) = omega (arith, handed_snoc r₀ pre c) in
          rw (after_snoc r₀ pre c, same)
      by (Answer.refused k) none =
          let same : K - length (handed_in (answers r₀ (pre ++ (c ∷ [])))) ≡ K - length (handed_in (answers r₀ pre)) = omega (arith, handed_snoc r₀ pre c) in
          rw (after_snoc r₀ pre c, same)

  run_plain : (cs pre : List (Call s))
      → (answers_plain (plain_at pre) cs ≡ answers (reading_after r₀ pre) cs) × (plain_after (plain_at pre) cs ≡ plain_at (pre ++ cs))
  run_plain [] pre = (refl, ap plain_at (sym (append-nil pre)))
  run_plain (c ∷ cs) pre =
      let step = step_plain pre c in
      let rest = run_plain cs (pre ++ (c ∷ [])) in (
        ap (λ (o : PlainStep). o.answer ∷ answers_plain o.reading cs) step
            ∙ ap (λ (xs : List Answer). (call (reading_after r₀ pre) c).answer ∷ xs) (rest.0 ∙ ap (λ (r : View). answers r cs) (after_snoc r₀ pre c)),
        ap (λ (o : PlainStep). plain_after o.reading cs) step ∙ rest.1 ∙ ap plain_at (append_assoc pre (c ∷ []) cs),
      )

-- ---- the refusals of a start, one by one

pub plain_long_bound : {s : List ℕ} → Admitted s → (lo hi : Bound) (c : List ℕ) → (max_path < length (bound_bytes lo)) ⊎ (max_path < length (bound_bytes hi))
    → start_plain s lo hi c ≡ Begun.refused BOUND
unfolding start_plain
plain_long_bound A lo hi c (inl h) = let a = lt-leb (length (bound_bytes lo)) max_path h in rw (A.opens, a)
plain_long_bound A lo hi c (inr h) =
    let b = lt-leb (length (bound_bytes hi)) max_path h in
    rw (A.opens, b, both_false (leb (length (bound_bytes lo)) max_path))

pub plain_short : {s : List ℕ} → Admitted s → (lo hi : Bound) → length (bound_bytes lo) ≤ max_path → length (bound_bytes hi) ≤ max_path → (c : List ℕ)
    → length c < length s → start_plain s lo hi c ≡ Begun.refused SPACE
unfolding start_plain
plain_short {s} A lo hi a b c h =
    let one = le-leb (length (bound_bytes lo)) max_path a in
    let two = le-leb (length (bound_bytes hi)) max_path b in
    rw (A.opens, one, two, lt-leb (length s) (length c) h)

-- ---- the claim

pub keys_mem : {f : Fst} {lo hi : Bound} (es : List Entry) → ((e : Entry) → Memᴰ e es → Held f e.key e.value × Between lo hi e.key) → (k : List ℕ)
    → Memᴰ k (keys_out es) → HeldBetween f lo hi k
keys_mem {f} {lo} {hi} es held k mem =
    let r = Memᴰ.of_map (λ (e : Entry). e.key) es mem in
    let h = held r.0 r.1 in
    subst (HeldBetween f lo hi) r.2 (r.0.value, h.0, h.1)

pub handed_most : {s : List ℕ} {A : Admitted s} {lo hi : Bound} {cs : List (Call s)} (K : ℕ) → NumberOf (HeldBetween (fst_of s A.meta) lo hi) K
    → (D : Demand3 A lo hi cs) → length D.handed ≤ K
handed_most {s} {A} {lo} {hi} K N D =
    omega (
      arith,
      length-map D.handed (λ (e : Entry). e.key),
      number_most (HeldBetween (fst_of s A.meta) lo hi) K N (keys_out D.handed) D.ascending (keys_mem D.handed D.held),
    )

module _ {s : List ℕ} (A : Admitted s) (lo hi : Bound) (short_lo : length (bound_bytes lo) ≤ max_path) (short_hi : length (bound_bytes hi) ≤ max_path)
    (c : List ℕ) (long : length s ≤ length c) (fits : TableFits (fst_of s A.meta) lo hi c) where
  abbrev fst : Fst
  fst = fst_of s A.meta

  pub right : NumberRight (fst_of s A.meta) c lo hi
  right = number_right A c lo hi fits

  abbrev view₀ : View
  view₀ = reading₀ A lo hi short_lo short_hi

  demand : (cs : List (Call s)) → Demand3 A lo hi cs
  demand cs = demand_3 A lo hi short_lo short_hi cs

  pub start_numbered : start_plain s lo hi c ≡ begun (plain_with (reading₀ A lo hi short_lo short_hi) right.keys)
  unfolding start_plain
  start_numbered =
      let a = le-leb (length (bound_bytes lo)) max_path short_lo in
      let b = le-leb (length (bound_bytes hi)) max_path short_hi in
      rw (A.opens, a, b, le-leb (length s) (length c) long, start_given A lo hi short_lo short_hi, right.comes)

  demand_handed : (cs : List (Call s)) → handed_in (answers view₀ cs) ≡ (demand cs).handed
  demand_handed cs =
      let given = start_given A lo hi short_lo short_hi in
      let starts = (demand cs).starts in
      let same : (demand cs).reading ≡ view₀ = cc in
      ap (λ (r : View). handed_in (answers r cs)) (sym same) ∙ handed_of (demand cs)

  most : (cs : List (Call s)) → length (handed_in (answers view₀ cs)) ≤ right.keys
  most cs = rw (demand_handed cs) (handed_most right.keys right.right (demand cs))

  run : (cs : List (Call s)) → (answers_plain (plain_with view₀ right.keys) cs ≡ answers view₀ cs)
      × (plain_after (plain_with view₀ right.keys) cs ≡ plain_with (reading_after view₀ cs) (right.keys - length (handed_in (answers view₀ cs))))
  run cs = let whole : right.keys - 0 ≡ right.keys = omega arith in rw whole at (run_plain view₀ right.keys most cs [])

  rest_number : (cs : List (Call s))
      → NumberOf (StillToCome fst lo hi (keys_out (handed_in (answers view₀ cs)))) (right.keys - length (handed_in (answers view₀ cs)))
  rest_number cs =
      let D = demand cs in
      let count : length (keys_out D.handed) ≡ length D.handed = length-map D.handed (λ (e : Entry). e.key) in
      rw (demand_handed cs)
      (number_iff (λ k. HeldBetween fst lo hi k × ¬ Memᴰ k (keys_out D.handed)) (StillToCome fst lo hi (keys_out D.handed))
      (right.keys - length D.handed) (λ k h. (h.0.0, h.0.1, h.0.2, h.1)) (λ k h. ((h.0, h.1, h.2), h.3))
      (rw count at (number_rest (HeldBetween fst lo hi) right.keys right.right (keys_out D.handed) D.ascending (keys_mem D.handed D.held))))

  reading_same : (cs : List (Call s)) → view₀ ≡ (demand cs).reading
  reading_same cs =
      let given = start_given A lo hi short_lo short_hi in
      let starts = (demand cs).starts in
      cc

  pub demand_3_plain : (cs : List (Call s)) → DemandPlain A lo hi c cs
  demand_3_plain cs =
      let r = run cs in
      let same = r.0 in
      let after = r.1 in
      let is = reading_same cs in
      record {
        reading = plain_with view₀ right.keys;
        starts = start_numbered;
        demand = demand cs;
        same_reading = is;
        same_answers = same ∙ ap (λ (v : View). answers v cs) is;
        same_readings = ap (λ (p : Plain). p.view) after ∙ ap (λ (v : View). reading_after v cs) is;
        same_call = λ d.
            rw after (ap (λ (o : PlainStep). o.answer) (step_plain view₀ right.keys most cs d)) ∙ ap (λ (v : View). (call (reading_after v cs) d).answer) is;
        keys_to_come = rw (same, after) (rest_number cs);
      }

-- ---- the refusals of a start

-- a reading, BOUND for a bound over 255 bytes, or SPACE for a table that is shorter than the file
pub start_plain_only : {s : List ℕ} (A : Admitted s) (lo hi : Bound) (c : List ℕ) → TableFits (fst_of s A.meta) lo hi c
    → ((p : Plain) × (start_plain s lo hi c ≡ begun p))
    ⊎ (((start_plain s lo hi c ≡ Begun.refused BOUND) × ((max_path < length (bound_bytes lo)) ⊎ (max_path < length (bound_bytes hi))))
    ⊎ ((start_plain s lo hi c ≡ Begun.refused SPACE) × (length c < length s)))
start_plain_only {s} A lo hi c fits =
    ⊎_elim
    (λ (h : max_path < length (bound_bytes lo)). inr (inl (plain_long_bound A lo hi c (inl h), inl h)))
    (λ (a : length (bound_bytes lo) ≤ max_path).
    ⊎_elim
    (λ (h : max_path < length (bound_bytes hi)). inr (inl (plain_long_bound A lo hi c (inr h), inr h)))
    (λ (b : length (bound_bytes hi) ≤ max_path).
    ⊎_elim
    (λ (h : length c < length s). inr (inr (plain_short A lo hi a b c h, h)))
    (λ (long : length s ≤ length c). inl (plain_with (reading₀ A lo hi a b) (right A lo hi a b c long fits).keys, start_numbered A lo hi a b c long fits))
    (lt_or (length c) (length s)))
    (lt_or max_path (length (bound_bytes hi))))
    (lt_or max_path (length (bound_bytes lo)))
