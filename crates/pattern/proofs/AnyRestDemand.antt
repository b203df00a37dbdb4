-- The demand by pattern with no positions and any rest is demand 3: each of its sentences but the limit on a call, which is for plain readings
-- only (`demand_of_any`). So the demand by pattern says no less than demand 3.
-- Assumes nothing.
use Rattle.std.specs.Prelude.{◌≡◌, refl, List, [], ◌∷◌, ◌++◌, ℕ, ◌≤◌, length}
use Rattle.std.proofs.Common.{sym, ◌∙◌, ap, subst, inr, arith}
use Rattle.format.specs.Paths.{Fst, fst_of, Held}
use Rattle.format.specs.Admitted.{Admitted}
use Rattle.format.specs.Strings.{Bound, Between}
use Rattle.reading.specs.Reading.{View, Answer, Step, refuse}
use Rattle.reading.specs.Demand.{Within, Extra, Call, call, reading_after, answers, unrefused, at_zero, followed, Entry, handed_in, NotAfterLast, NoneLeft, Demand3}
use Rattle.reading.specs.Demand as Demand
use Rattle.pattern.specs.Pattern.{FitsStart}
use Rattle.pattern.specs.PatternDemand.{StartFits, Followed, ExtraBy, one_more, no_more, Wanted, call_by, reading_after_by, answers_by, NoneLeftBy, DemandBy}
use Rattle.pattern.proofs.ViableLaws.{most}
use Rattle.pattern.proofs.FitLaws.{snoc_of}
use Rattle.pattern.proofs.AnyRestLaws.{any_rest, plain_is_any_rest}
use Rattle.pattern.proofs.DemandByLaws.{start_few, number_of}

-- ---- calls

call_any : {s : List ℕ} (r : View) (c : Call s) → call_by any_rest r c ≡ call r c
call_any r c = plain_is_any_rest c.file r c.space

reading_any : {s : List ℕ} (r : View) (cs : List (Call s)) → reading_after_by any_rest r cs ≡ reading_after r cs
reading_any r [] = refl
reading_any r (c ∷ cs) = reading_any (call_by any_rest r c).reading cs ∙ ap (λ (o : Step). reading_after o.reading cs) (call_any r c)

answers_any : {s : List ℕ} (r : View) (cs : List (Call s)) → answers_by any_rest r cs ≡ answers r cs
answers_any r [] = refl
answers_any r (c ∷ cs) =
    ap (λ (l : List Answer). (call_by any_rest r c).answer ∷ l) (answers_any (call_by any_rest r c).reading cs)
    ∙ ap (λ (o : Step). o.answer ∷ answers o.reading cs) (call_any r c)

after_any : {s : List ℕ} (r : View) (cs : List (Call s)) (c : Call s) → call_by any_rest (reading_after_by any_rest r cs) c ≡ call (reading_after r cs) c
after_any r cs c = ap (λ (x : View). call_by any_rest x c) (reading_any r cs) ∙ call_any (reading_after r cs) c

-- ---- strings

start_any : (s : List ℕ) → FitsStart any_rest s
start_any s = record { short = inr refl; bytes = λ i h g. absurd (omega arith) }

starts_any : (x : List ℕ) → ¬ (x ≡ []) → StartFits any_rest x
starts_any x ne = let w = snoc_of x ne in record { most = most x; last = w.last; is = w.is; fits = start_any (most x) }

module _ (f : Fst) (lo hi : Bound) where
  want : (k : List ℕ) (v : ℕ) → Held f k v → Between lo hi k → Wanted f any_rest lo hi k v
  want k v h b = record { held = h; between = b; fits = record { start = start_any k; whole = omega arith } }

  none_left_to : (handed : List Entry) → NoneLeftBy f any_rest lo hi handed → NoneLeft f lo hi handed
  none_left_to handed h k v held b = h k v (want k v held b)

  none_left_from : (handed : List Entry) → NoneLeft f lo hi handed → NoneLeftBy f any_rest lo hi handed
  none_left_from handed h k v w = h k v w.held w.between

  within_to : (x : List ℕ) → Followed f any_rest lo hi x → Within f lo hi x
  within_to x h = (h.0, h.1.1)

  within_from : (x : List ℕ) → Within f lo hi x → Followed f any_rest lo hi x
  within_from x h = (h.0, (starts_any x h.0.not_empty, h.1))

  extra_to : {n : ℕ} → ExtraBy f any_rest lo hi n → Extra f lo hi n
  extra_to (one_more x b) = Demand.one_more x (b.0, b.1.1)
  extra_to (no_more h) = Demand.no_more (λ x b. h x (b.0, (starts_any x b.0.not_empty, b.1)))

-- ---- the claim

module _ {s : List ℕ} (A : Admitted s) (lo hi : Bound) (cs : List (Call s)) (D : DemandBy A any_rest lo hi cs) where
  abbrev f : Fst
  f = fst_of s A.meta

  abbrev Limit : Type 0
  Limit = (cs₁ cs₂ : List (Call s)) (c : Call s) → cs ≡ cs₁ ++ (c ∷ cs₂) → (n : ℕ)
      → ((k : List ℕ) (v : ℕ) → Held f k v → length k ≤ n) → followed (reading_after D.reading cs₁) c ≤ n

  total_any : (reading_after D.reading cs).total ≡ (reading_after_by any_rest D.reading cs).total
  total_any = ap (λ (r : View). r.total) (sym (reading_any D.reading cs))

  pub demand_of_any : Limit → Demand3 A lo hi cs
  demand_of_any limit =
      record {
        reading = D.reading;
        starts = sym (start_few A any_rest lo hi (omega arith)) ∙ D.starts;
        handed = D.handed;
        ends = D.ends;
        one_a_call = ap unrefused (sym (answers_any D.reading cs)) ∙ D.one_a_call;
        held = λ e on. let w = D.wanted e on in (w.held, w.between);
        ascending = D.ascending;
        none_left_out = λ k v h b. D.none_left_out k v (want f lo hi k v h b);
        end_exactly = λ cs₁ cs₂ c is h.
            let w = D.end_exactly cs₁ cs₂ c is h in
            let q = ap (λ (o : Step). o.answer) (after_any D.reading cs₁ c) in
            let a = answers_any D.reading cs₁ in (
              (λ e.
                  none_left_to f lo hi (handed_in (answers D.reading cs₁))
                  (subst (λ (l : List Answer). NoneLeftBy f any_rest lo hi (handed_in l)) a (w.0 (q ∙ e)))),
              (λ n.
                  sym q
                  ∙ w.1 (subst (λ (l : List Answer). NoneLeftBy f any_rest lo hi (handed_in l)) (sym a) (none_left_from f lo hi (handed_in (answers D.reading cs₁)) n))),
            );
        refused_exactly = λ cs₁ cs₂ c is.
            let w = D.refused_exactly cs₁ cs₂ c is in
            let q = after_any D.reading cs₁ c in
            let r = reading_any D.reading cs₁ in (
              (λ h n e. w.0 h n (ap (λ (o : Step). o.answer) q ∙ e)),
              (λ out. let k = w.1 out in (k.0, sym q ∙ k.1 ∙ ap (λ (x : View). refuse x k.0) r)),
            );
        total_ended = λ not_shut pos.
            let w = D.total_ended not_shut pos in
            (w.0, w.1, number_of (Followed f any_rest lo hi) (Within f lo hi) w.0 (within_to f lo hi) (within_from f lo hi) w.2, extra_to f lo hi w.3, total_any ∙ w.4);
        total_before = λ z.
            let w = D.total_before z in (
              w.0,
              number_of (λ x. Followed f any_rest lo hi x × NotAfterLast D.handed x) (λ x. Within f lo hi x × NotAfterLast D.handed x) w.0
                  (λ x h. (within_to f lo hi x h.0, h.1)) (λ x h. (within_from f lo hi x h.0, h.1)) w.1,
              total_any ∙ w.2,
            );
        total_excluded = λ x. total_any ∙ D.total_excluded x;
        limit = limit;
        none_followed = λ x cs₁ cs₂ c is.
            ap (λ (r : View). followed r c) (sym (reading_any D.reading cs₁))
            ∙ ap (λ (o : Step). o.reading.total) (sym (call_any (at_zero (reading_after_by any_rest D.reading cs₁)) c))
            ∙ D.none_followed x cs₁ cs₂ c is;
      }
