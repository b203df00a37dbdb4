-- A long list in two sittings, proved: `two_sittings`, from the fields of `DemandPlain` and of the `Demand3` in it; no walk and no definition of
-- next enters. TwoPartsLaws has what a cut does to three readings that were run to their end.
--     full_of, full_plain    a list of calls with an "end" among its answers is such a reading, by demand 3
--     keys_started           at a start all held keys between its bounds are to come
--     two_sittings           of lists of calls, for every cut of at most 255 bytes between the bounds and tables that fit
--     two_sittings_runs      of runs from the start to "end", each with one buffer; PlainRunLaws, `whole_plain`, gives such runs
--     keys_add_starts        the numbers of keys to come, of any three starts
--     greater_or_not         a string above the cut is there, or not
-- Assumes nothing.
use Rattle.std.specs.Prelude.{◌≡◌, refl, ◌⊎◌, ℕ, zero, suc, ◌+◌, ◌<◌, ◌≤◌, length, replicate}
use Rattle.std.proofs.Common.{sym, ◌∙◌, ap, subst, ⊎_elim, inl, arith}
use Rattle.std.proofs.Math.Option.{none}
use Rattle.format.specs.declared.Refusal.{Refusal}
use mathlib.Core.List.Memᴰ
use mathlib.Core.List.{List, [], ◌∷◌, ◌++◌, map, Memᴰ}
use Rattle.format.specs.Limits.{max_path}
use Rattle.format.specs.Paths.{Fst, fst_of, Held}
use Rattle.format.specs.Admitted.{Admitted}
use Rattle.format.specs.Strings.{Bound, unbounded, Between}
use Rattle.format.specs.Laws.NumberOfLaws.{number_iff}
use Rattle.reading.specs.Reading.{bound_bytes, View, Answer, key, end, Step}
use Rattle.reading.specs.Demand.{Call, Allowed, call, reading_after, answers, unrefused, Entry, entry, hand_out, handed_in, handed_then, NoneLeft, Demand3}
use Rattle.reading.proofs.ProgressLaws.{dec_allowed}
use Rattle.reading.proofs.WholeLaws.{whole, between_all}
use Rattle.plain.specs.Numbers.{TableFits}
use Rattle.plain.specs.Plain.{Plain, begun, start_plain, PlainStep, plain_after, answers_plain}
use Rattle.plain.specs.PlainDemand.{StillToCome, DemandPlain}
use Rattle.plain.proofs.PlainLaws.{handed_of, demand_3_plain}
use Rattle.plain.specs.PlainRun.{RunsPlain, run_end, run_key}
use Rattle.sittings.specs.Sittings.{up_to_cut, from_cut, Greater, InTwo, Ends, total_after, TwoSittings}
use Rattle.sittings.proofs.TwoPartsLaws.{first_open, KeysBetween, keys_cut, greater_or, Full, in_two}

-- ---- lists of answers

handed_append : (xs ys : List Answer) → handed_in (xs ++ ys) ≡ handed_in xs ++ handed_in ys
handed_append [] ys = refl
handed_append (key k v ∷ xs) ys = ap (λ (r : List Entry). entry k v ∷ r) (handed_append xs ys)
handed_append (end ∷ xs) ys = handed_append xs ys
handed_append (Answer.refused n ∷ xs) ys = handed_append xs ys

end_not_key : {k : List ℕ} {v : ℕ} → ¬ (◌≡◌ {A = Answer} end (key k v))
end_not_key e = let z : ◌≡◌ {A = ℕ} 0 1 = cc in omega arith

end_not_refused : {n : Refusal} → ¬ (◌≡◌ {A = Answer} end (Answer.refused n))
end_not_refused e = let z : ◌≡◌ {A = ℕ} 0 1 = cc in omega arith

end_unrefused : (xs : List Answer) → Memᴰ end xs → Memᴰ end (unrefused xs)
end_unrefused [] on = on
end_unrefused (key k v ∷ xs) on = ⊎_elim (λ e. absurd (end_not_key e)) (λ h. Memᴰ.tail (end_unrefused xs h)) (Memᴰ.cases_cons on)
end_unrefused (end ∷ xs) on = Memᴰ.head refl
end_unrefused (Answer.refused n ∷ xs) on = ⊎_elim (λ e. absurd (end_not_refused e)) (λ h. end_unrefused xs h) (Memᴰ.cases_cons on)

end_counted : (es : List Entry) (n : ℕ) → Memᴰ end (map hand_out es ++ replicate n end) → 0 < n
end_counted [] zero on = absurd (Memᴰ.not-nil on)
end_counted [] (suc n) on = omega arith
end_counted (e ∷ es) n on = ⊎_elim (λ q. absurd (end_not_key q)) (λ h. end_counted es n h) (Memᴰ.cases_cons on)

-- ---- lists of calls

answers_append : {s : List ℕ} (r : View) (cs ds : List (Call s)) → answers r (cs ++ ds) ≡ answers r cs ++ answers (reading_after r cs) ds
answers_append r [] ds = refl
answers_append r (c ∷ cs) ds = ap (λ (xs : List Answer). (call r c).answer ∷ xs) (answers_append (call r c).reading cs ds)

-- the call that answers "end"
record EndAt {s : List ℕ} (r : View) (cs : List (Call s)) : Type 0 where
  earlier : List (Call s)
  later : List (Call s)
  at : Call s
  split : cs ≡ earlier ++ (at ∷ later)
  answer_is_lem : (call (reading_after r earlier) at).answer ≡ end

end_at_lem : {s : List ℕ} (r : View) (cs : List (Call s)) → Memᴰ end (answers r cs) → EndAt r cs
end_at_lem r [] on = absurd (Memᴰ.not-nil on)
end_at_lem {s} r (c ∷ cs) on =
    ⊎_elim
    (λ (e : end ≡ (call r c).answer). record { earlier = []; later = cs; at = c; split = refl; answer_is_lem = sym e })
    (λ (h : Memᴰ end (answers (call r c).reading cs)). later_at (end_at_lem (call r c).reading cs h))
    (Memᴰ.cases_cons on)
  where
    later_at : EndAt (call r c).reading cs → EndAt r (c ∷ cs)
    later_at w =
        record {
          earlier = c ∷ w.earlier;
          later = w.later;
          at = w.at;
          split = ap (λ (x : List (Call s)). c ∷ x) w.split;
          answer_is_lem = w.answer_is_lem;
        }

-- ---- by demand 3

module _ {s : List ℕ} (A : Admitted s) (lo hi : Bound) (cs : List (Call s)) (D : Demand3 A lo hi cs) (ends : Memᴰ end (answers D.reading cs)) where
  abbrev f₀ : Fst
  f₀ = fst_of s A.meta

  some_end : 0 < D.ends
  some_end = end_counted D.handed D.ends (subst (Memᴰ end) D.one_a_call (end_unrefused (answers D.reading cs) ends))

  -- a call that answers "end" is allowed, since any other is refused
  end_allowed : (w : EndAt D.reading cs) → Allowed w.at
  end_allowed w =
      ⊎_elim
      (λ (h : Allowed w.at). h)
      (λ (out : ¬ Allowed w.at).
      let q = (D.refused_exactly w.earlier w.later w.at w.split).1 out in
      absurd (end_not_refused (sym w.answer_is_lem ∙ ap (λ (o : Step). o.answer) q.1)))
      (dec_allowed s A.meta A.opens unbounded 0 (omega arith) [] none w.at)

  -- what was handed out before it is among what was handed out in all
  earlier_in : (w : EndAt D.reading cs) (e : Entry) → Memᴰ e (handed_in (answers D.reading w.earlier)) → Memᴰ e D.handed
  earlier_in w e on =
      subst (Memᴰ e)
      (sym (handed_append (answers D.reading w.earlier) (answers (reading_after D.reading w.earlier) (w.at ∷ w.later)))
      ∙ ap handed_in (sym (answers_append D.reading w.earlier (w.at ∷ w.later)))
      ∙ ap (λ (x : List (Call s)). handed_in (answers D.reading x)) (sym w.split)
      ∙ handed_of D)
      (Memᴰ.append_left (handed_in (answers (reading_after D.reading w.earlier) (w.at ∷ w.later))) on)

  none_left_at : NoneLeft f₀ lo hi D.handed
  none_left_at k v h b =
      let w = end_at_lem D.reading cs ends in
      earlier_in w (entry k v) ((D.end_exactly w.earlier w.later w.at w.split (end_allowed w)).0 w.answer_is_lem k v h b)

  full_of : Full f₀ lo hi D.handed (reading_after D.reading cs).total
  full_of = record { ascending = D.ascending; held = D.held; none_left = none_left_at; total = λ not_shut. D.total_ended not_shut some_end }

-- ---- of plain readings

module _ {s : List ℕ} (A : Admitted s) (lo hi : Bound) (t : List ℕ) where
  pub full_plain : (cs : List (Call s)) (D : DemandPlain A lo hi t cs) → Ends D.reading cs
      → Full (fst_of s A.meta) lo hi (handed_in (answers_plain D.reading cs)) (total_after D.reading cs)
  full_plain cs D ends =
      let es_are : handed_in (answers_plain D.reading cs) ≡ D.demand.handed = ap handed_in D.same_answers ∙ handed_of D.demand in
      let total_is : total_after D.reading cs ≡ (reading_after D.demand.reading cs).total = ap (λ (v : View). v.total) D.same_readings in
      subst (λ (n : ℕ). Full (fst_of s A.meta) lo hi (handed_in (answers_plain D.reading cs)) n) (sym total_is)
      (subst (λ (es : List Entry). Full (fst_of s A.meta) lo hi es (reading_after D.demand.reading cs).total) (sym es_are)
      (full_of A lo hi cs D.demand (subst (Memᴰ end) D.same_answers ends)))

  -- before any call all held keys between the bounds are to come
  pub keys_started : (D : DemandPlain A lo hi t []) → KeysBetween (fst_of s A.meta) lo hi D.reading.keys
  keys_started D =
      number_iff (StillToCome (fst_of s A.meta) lo hi []) (λ k. ((v : ℕ) × Held (fst_of s A.meta) k v) × Between lo hi k) D.reading.keys
      (λ k h. ((h.0, h.1), h.2)) (λ k h. (h.0.0, h.0.1, h.1, λ on. Memᴰ.not-nil on)) D.keys_to_come

begun_same : {p p' : Plain} → begun p ≡ begun p' → p ≡ p'
begun_same e = cc

-- ---- a run as a list of calls

record RunCalls (s : List ℕ) (p : Plain) (es : List Entry) (p' : Plain) : Type 0 where
  calls : List (Call s)
  hands : handed_in (answers_plain p calls) ≡ es
  leaves : plain_after p calls ≡ p'
  ends : Ends p calls

run_calls : {s : List ℕ} {space : ℕ} {p p' : Plain} {es : List Entry} → RunsPlain s space p es p' → RunCalls s p es p'
run_calls {s} {space} (run_end e) =
    record {
      calls = record { file = s; space = space; which = inl refl } ∷ [];
      hands = ap (λ (o : PlainStep). handed_then o.answer []) e;
      leaves = ap (λ (o : PlainStep). o.reading) e;
      ends = Memᴰ.head (ap (λ (o : PlainStep). o.answer) (sym e));
    }
run_calls {s} {space} (run_key e is more) =
    let w = run_calls more in
    record {
      calls = record { file = s; space = space; which = inl refl } ∷ w.calls;
      hands = ap (λ (o : PlainStep). handed_then o.answer (handed_in (answers_plain o.reading w.calls))) is ∙ ap (λ (l : List Entry). e ∷ l) w.hands;
      leaves = ap (λ (o : PlainStep). plain_after o.reading w.calls) is ∙ w.leaves;
      ends = Memᴰ.tail (subst (λ (o : PlainStep). Ends o.reading w.calls) (sym is) w.ends);
    }

-- ---- the claim

module _ {s : List ℕ} (A : Admitted s) (lo hi : Bound) (short_lo : length (bound_bytes lo) ≤ max_path) (short_hi : length (bound_bytes hi) ≤ max_path)
    (t : List ℕ) (long : length s ≤ length t) (fits : TableFits (fst_of s A.meta) lo hi t) where
  demanded : (cs : List (Call s)) → DemandPlain A lo hi t cs
  demanded cs = demand_3_plain A lo hi short_lo short_hi t long fits cs

  -- a start has one reading
  start_keys : {p : Plain} → start_plain s lo hi t ≡ begun p → KeysBetween (fst_of s A.meta) lo hi p.keys
  start_keys {p} starts =
      let same : (demanded []).reading ≡ p = begun_same (sym (demanded []).starts ∙ starts) in
      subst (λ (q : Plain). KeysBetween (fst_of s A.meta) lo hi q.keys) same (keys_started A lo hi t (demanded []))

  full_run : {space : ℕ} {p p' : Plain} {es : List Entry} → start_plain s lo hi t ≡ begun p → RunsPlain s space p es p'
      → Full (fst_of s A.meta) lo hi es p'.view.total
  full_run {space} {p} {p'} {es} starts runs =
      let w = run_calls runs in
      let D = demanded w.calls in
      let same : D.reading ≡ p = begun_same (sym D.starts ∙ starts) in
      let full : Ends p w.calls → Full (fst_of s A.meta) lo hi (handed_in (answers_plain p w.calls)) (total_after p w.calls) =
      subst (λ (q : Plain). Ends q w.calls → Full (fst_of s A.meta) lo hi (handed_in (answers_plain q w.calls)) (total_after q w.calls)) same
      (full_plain A lo hi t w.calls D) in
      subst (λ (n : ℕ). Full (fst_of s A.meta) lo hi es n) (ap (λ (q : Plain). q.view.total) w.leaves)
      (subst (λ (l : List Entry). Full (fst_of s A.meta) lo hi l (total_after p w.calls)) w.hands (full w.ends))

module _ {s : List ℕ} (A : Admitted s) (lo hi : Bound) (short_lo : length (bound_bytes lo) ≤ max_path) (short_hi : length (bound_bytes hi) ≤ max_path) (c : List ℕ)
    (short_c : length c ≤ max_path) (cut : Between lo hi c) (t t₁ t₂ : List ℕ) (long : length s ≤ length t) (long₁ : length s ≤ length t₁)
    (long₂ : length s ≤ length t₂) (fits : TableFits (fst_of s A.meta) lo hi t) (fits₁ : TableFits (fst_of s A.meta) lo (up_to_cut c) t₁)
    (fits₂ : TableFits (fst_of s A.meta) (from_cut c) hi t₂) where
  pub keys_add_starts : {p p₁ p₂ : Plain} → start_plain s lo hi t ≡ begun p → start_plain s lo (up_to_cut c) t₁ ≡ begun p₁
      → start_plain s (from_cut c) hi t₂ ≡ begun p₂ → p₁.keys + p₂.keys ≡ p.keys
  keys_add_starts {p} {p₁} {p₂} starts starts₁ starts₂ =
      keys_cut (fst_of s A.meta) lo hi c cut p.keys p₁.keys p₂.keys (start_keys A lo hi short_lo short_hi t long fits starts)
      (start_keys A lo (up_to_cut c) short_lo short_c t₁ long₁ fits₁ starts₁) (start_keys A (from_cut c) hi short_c short_hi t₂ long₂ fits₂ starts₂)

  pub two_sittings : (cs cs₁ cs₂ : List (Call s)) → TwoSittings A lo hi c t t₁ t₂ cs cs₁ cs₂
  two_sittings cs cs₁ cs₂ =
      let D = demanded A lo hi short_lo short_hi t long fits cs in
      let D₁ = demanded A lo (up_to_cut c) short_lo short_c t₁ long₁ fits₁ cs₁ in
      let D₂ = demanded A (from_cut c) hi short_c short_hi t₂ long₂ fits₂ cs₂ in
      record {
        whole = D.reading;
        first = D₁.reading;
        second = D₂.reading;
        starts_whole = D.starts;
        starts_first = D₁.starts;
        starts_second = D₂.starts;
        keys_add = keys_add_starts D.starts D₁.starts D₂.starts;
        in_two = λ z.
            in_two (fst_of s A.meta) lo hi c cut (full_plain A lo hi t cs D z.whole_ends) (full_plain A lo (up_to_cut c) t₁ cs₁ D₁ z.first_ends)
            (full_plain A (from_cut c) hi t₂ cs₂ D₂ z.second_ends);
      }

  pub two_sittings_runs : {space space₁ space₂ : ℕ} {p p₁ p₂ p' p₁' p₂' : Plain} {es es₁ es₂ : List Entry} → start_plain s lo hi t ≡ begun p
      → start_plain s lo (up_to_cut c) t₁ ≡ begun p₁ → start_plain s (from_cut c) hi t₂ ≡ begun p₂ → RunsPlain s space p es p' → RunsPlain s space₁ p₁ es₁ p₁'
      → RunsPlain s space₂ p₂ es₂ p₂' → InTwo (fst_of s A.meta) c es es₁ es₂ p'.view.total p₁'.view.total p₂'.view.total
  two_sittings_runs starts starts₁ starts₂ runs runs₁ runs₂ =
      in_two (fst_of s A.meta) lo hi c cut (full_run A lo hi short_lo short_hi t long fits starts runs)
      (full_run A lo (up_to_cut c) short_lo short_c t₁ long₁ fits₁ starts₁ runs₁) (full_run A (from_cut c) hi short_c short_hi t₂ long₂ fits₂ starts₂ runs₂)

-- on an admitted file it is one of the two: the reading up to the cut tells which
pub greater_or_not : {s : List ℕ} (A : Admitted s) (c : List ℕ) → length c ≤ max_path → (Greater (fst_of s A.meta) c) ⊎ (¬ Greater (fst_of s A.meta) c)
greater_or_not {s} A c short =
    let f = fst_of s A.meta in
    let cut = between_all c in
    let W = whole A unbounded (up_to_cut c) (omega arith) short max_path (omega arith) in
    greater_or f unbounded unbounded c cut (W.total (first_open unbounded unbounded c cut f)).3
