-- Demand 3 for patterned readings, proved: `demand_3_by`. The viable visits of a start are the strings that the demand speaks of
-- (PatternFacts), and a list of calls is a cut in them (PatternProgress), so that each sentence is a fact about one ascending list (CutLaws).
--     demand_3_by              the claim
--     start_by_only            a start is refused only for PATTERN or BOUND
-- Assumes nothing.
use Prim.{tt}
use Rattle.std.specs.Prelude.{◌≡◌, refl, true, false, ◌⊎◌, ℕ, suc, ◌+◌, ◌<◌, ◌≤◌, length}
use Rattle.std.proofs.Common.{sym, ◌∙◌, ap, ⊎_elim, inl, inr, add-zero, arith}
use Rattle.std.proofs.Math.Option.{Option, none, some}
use Rattle.format.specs.declared.Refusal.{Refusal}
use mathlib.Core.List.{List, [], ◌∷◌, ◌++◌, map, append-nil, Memᴰ}
use borrow.Author.Tests.{le-leb, lt-leb}
use Rattle.format.specs.Limits.{max_path, BOUND, PATTERN}
use Rattle.format.specs.Paths.{Fst, fst_of}
use Rattle.format.specs.Admitted.{Admitted}
use Rattle.format.specs.Strings.{Before, shorter, Bound, Between, Rising, NumberOf}
use Rattle.format.specs.Laws.StringLaws.{before_irrefl}
use Rattle.reading.specs.Reading.{meets_test, passes_test, bound_bytes, Level, View, Started, started, Answer, key, end, Step}
use Rattle.reading.proofs.BoundLaws.{decides_passes, passes_up}
use Rattle.reading.specs.Visits.{Visit, below, kept, Sane, AllV, RisingV}
use Rattle.reading.proofs.VisitLaws.{all_mem}
use Rattle.reading.proofs.RunLaws.{lt_or}
use Rattle.reading.proofs.NextLaws.{view_at}
use Rattle.reading.specs.Demand.{EmptyExcluded, Call, Allowed, Entry, entry, NotAfterLast, capped}
use Rattle.reading.proofs.ProgressLaws.{entries_of, no_visit, Pre, no_empty}
use Rattle.reading.proofs.DemandLaws.{Facts, facts, begun, reading₀, start_given}
use Rattle.reading.proofs.WholeLaws.{start_only_bound}
use Rattle.reading.proofs.CutLaws.{FactsOf, none_some, Cut, keys_out, cut_held, cut_rising, cut_none_left_out, cut_none_left, cut_number, cut_number_before, snoc_not_nil, snoc_mem, rising_last, rising_right}
use Rattle.pattern.specs.Pattern.{Pattern, next_by, start_by}
use Rattle.pattern.specs.PatternDemand.{Followed, ExtraBy, one_more, no_more, call_by, reading_after_by, followed_by, NoneLeftBy, DemandBy}
use Rattle.pattern.proofs.ViableLaws.{viable, judged_by, come_by}
use Rattle.pattern.proofs.NextByLaws.{by_pending_off}
use Rattle.pattern.proofs.ProgressByLaws.{fitting, Progress, fresh, going, finished, beyond, shut, Called, hands, ended, end_again, file_same, view_refused, progress_step, progress_refused, dec_allowed, Ran, progress_run}
use Rattle.pattern.proofs.FactsByLaws.{Begun, Out, visits_by, pend_by, facts_by}

-- the same strings in other words
pub number_of : (P Q : List ℕ → Type 0) (n : ℕ) → ((x : List ℕ) → P x → Q x) → ((x : List ℕ) → Q x → P x) → NumberOf P n → NumberOf Q n
number_of P Q n there back w =
    record { strings = w.strings; rising = w.rising; such = λ x on. there x (w.such x on); all = λ x h. w.all x (back x h); number = w.number }

-- ---- the sentences of the demand, from how far the calls have come

module _ {s : List ℕ} (A : Admitted s) (lo hi : Bound) (short : length (bound_bytes hi) ≤ max_path) (p : Pattern) (few : length p.positions ≤ max_path) where
  abbrev f : Fst
  f = fst_of s A.meta

  abbrev visits : List Visit
  visits = visits_by A lo p

  abbrev pend : Option ℕ
  pend = pend_by A lo p

  abbrev Comes : List Entry → ℕ → View → Type 0
  Comes handed ends r = Progress s A.meta A.opens hi (length (bound_bytes hi)) short p few visits pend handed ends r

  F : FactsOf (Begun f p) (Out f p) lo visits (fitting p pend)
  F = facts_by A lo p

  F₀ : Facts f lo (kept (meets_test lo) (below max_path f A.meta.root)) pend
  F₀ = facts A lo

  abbrev CutAt : List Entry → List Visit → List Visit → Type 0
  CutAt pre taken rest = Cut (Begun f p) (Out f p) lo hi visits (fitting p pend) F pre taken rest

  cut_at : (pre : List Entry) (taken rest : List Visit) → Pre hi (fitting p pend) pre → visits ≡ taken ++ rest → AllV (λ v. passes_test hi v.key ≡ false) taken
      → CutAt pre taken rest
  cut_at pre taken rest hpre split under = record { before = hpre; split = split; under = under }

  whole_cut : (pre : List Entry) → Pre hi (fitting p pend) pre → AllV (λ v. passes_test hi v.key ≡ false) visits → CutAt pre visits []
  whole_cut pre hpre under = record { before = hpre; split = sym (append-nil visits); under = under }

  beyond_past : (taken : List Visit) (v : Visit) (more : List Visit) → visits ≡ taken ++ (v ∷ more) → passes_test hi v.key ≡ true
      → (w : Visit) → Memᴰ w (v ∷ more) → passes_test hi w.key ≡ true
  beyond_past taken v more split ps w on =
      ⊎_elim
      (λ (q : w ≡ v). rw q ps)
      (λ (h : Memᴰ w more).
      let r : RisingV (v ∷ more) = rising_right taken (v ∷ more) (rw split at F.rising) in
      passes_up hi v.key w.key (all_mem (λ x. Before v.key x.key) more r.0 w h) ps)
      (mathlib.Core.List.Memᴰ.cases_cons on)

  -- a state with a cut, once for all the sentences that speak of one
  data Stands (handed : List Entry) : Type 0 where
    stands : (pre : List Entry) (taken rest : List Visit) → CutAt pre taken rest → handed ≡ pre ++ entries_of taken → Stands handed
    nothing_yet : handed ≡ [] → Stands handed

  comes_stands : (handed : List Entry) (ends : ℕ) (r : View) → Comes handed ends r → Stands handed
  comes_stands handed ends r (fresh levels v sane w is) = nothing_yet refl
  comes_stands handed ends r (going pre taken levels hpre unshut sane w under last) = stands pre taken (come_by f p levels) (cut_at pre taken (come_by f p levels) hpre w under) refl
  comes_stands handed ends r (finished pre n hpre unshut under) = stands pre visits [] (whole_cut pre hpre under) refl
  comes_stands handed ends r (beyond pre n taken v more hpre unshut w under ps) = stands pre taken (v ∷ more) (cut_at pre taken (v ∷ more) hpre w under) refl
  comes_stands handed ends r (shut n v is q) = nothing_yet refl

  stands_held : (handed : List Entry) → Stands handed → (e : Entry) → Memᴰ e handed → Out f p e.key e.value × Between lo hi e.key
  stands_held handed (stands pre taken rest C is) e on = cut_held (Begun f p) (Out f p) lo hi visits (fitting p pend) F C e (rw is at on)
  stands_held handed (nothing_yet is) e on = absurd (mathlib.Core.List.Memᴰ.not-nil (rw is at on))

  stands_rising : (handed : List Entry) → Stands handed → Rising (keys_out handed)
  stands_rising handed (stands pre taken rest C is) = rw is (cut_rising (Begun f p) (Out f p) lo hi visits (fitting p pend) F C)
  stands_rising handed (nothing_yet is) = rw is tt

  stands_none_left_out : (handed : List Entry) → Stands handed → (k : List ℕ) (v : ℕ) → Out f p k v → Between lo hi k → (e : Entry) → Memᴰ e handed → ¬ Before e.key k
      → Memᴰ (entry k v) handed
  stands_none_left_out handed (stands pre taken rest C is) k v h b e on na =
      rw is (cut_none_left_out (Begun f p) (Out f p) lo hi visits (fitting p pend) F C k v h b e (rw is at on) na)
  stands_none_left_out handed (nothing_yet is) k v h b e on na = absurd (mathlib.Core.List.Memᴰ.not-nil (rw is at on))

  -- where the empty string passes the upper bound, every string does
  all_pass : passes_test hi [] ≡ true → (k : List ℕ) → passes_test hi k ≡ true
  all_pass q [] = q
  all_pass q (x ∷ k) = passes_up hi [] (x ∷ k) shorter q

  comes_none_left : (handed : List Entry) (ends : ℕ) (r : View) → Comes handed ends r → 0 < ends → (k : List ℕ) (v : ℕ) → Out f p k v → Between lo hi k
      → Memᴰ (entry k v) handed
  comes_none_left handed ends r (fresh levels v sane w is) pos = absurd (omega arith)
  comes_none_left handed ends r (going pre taken levels hpre unshut sane w under last) pos = absurd (omega arith)
  comes_none_left handed ends r (finished pre n hpre unshut under) pos =
      cut_none_left (Begun f p) (Out f p) lo hi visits (fitting p pend) F (whole_cut pre hpre under) (λ w on. absurd (mathlib.Core.List.Memᴰ.not-nil on))
  comes_none_left handed ends r (beyond pre n taken v more hpre unshut w under ps) pos =
      cut_none_left (Begun f p) (Out f p) lo hi visits (fitting p pend) F (cut_at pre taken (v ∷ more) hpre w under) (beyond_past taken v more w ps)
  comes_none_left handed ends r (shut n v is q) pos = λ k u h b. absurd (b.within ((decides_passes hi k).yes (all_pass q k)))

  -- ---- totals

  abbrev Counted : List ℕ → Type 0
  Counted x = Begun f p x × Between lo hi x

  followed_number : (n : ℕ) → NumberOf Counted n → NumberOf (Followed f p lo hi) n
  followed_number n w = number_of Counted (Followed f p lo hi) n (λ x h. (h.0.0, (h.0.1, h.1))) (λ x h. ((h.0, h.1.0), h.1.1)) w

  comes_total_ended : (handed : List Entry) (ends : ℕ) (r : View) → Comes handed ends r → ¬ EmptyExcluded f lo hi → 0 < ends
      → (n e : ℕ) × NumberOf (Followed f p lo hi) n × ExtraBy f p lo hi e × (r.total ≡ capped (n + e))
  comes_total_ended handed ends r (fresh levels v sane w is) not_shut pos = absurd (omega arith)
  comes_total_ended handed ends r (going pre taken levels hpre unshut sane w under last) not_shut pos = absurd (omega arith)
  comes_total_ended handed ends r (finished pre n hpre unshut under) not_shut pos = (
    length visits,
    0,
    followed_number (length visits)
        (cut_number (Begun f p) (Out f p) lo hi visits (fitting p pend) F (whole_cut pre hpre under) (λ w on. absurd (mathlib.Core.List.Memᴰ.not-nil on))),
    no_more (λ x b.
        let w = F.whole x (b.0, b.1.0) b.1.1.0 in
        (decides_passes hi x).no (rw w.2 at (all_mem (λ v. passes_test hi v.key ≡ false) visits under w.0 w.1)) b.1.1.1),
    ap capped (sym (add-zero (length visits))),
  )
  comes_total_ended handed ends r (beyond pre n taken v more hpre unshut w under ps) not_shut pos =
      let on : Memᴰ v visits = rw w (mathlib.Core.List.Memᴰ.append_right taken (mathlib.Core.List.Memᴰ.head refl)) in
      let b = F.begins v on in
      let q : suc (length taken) ≡ length taken + 1 = omega arith in (
        length taken,
        1,
        followed_number (length taken)
            (cut_number (Begun f p) (Out f p) lo hi visits (fitting p pend) F (cut_at pre taken (v ∷ more) hpre w under) (beyond_past taken v more w ps)),
        one_more v.key (b.0, (b.1, (F.meets v on, (decides_passes hi v.key).yes ps))),
        ap capped q,
      )
  comes_total_ended handed ends r (shut n v is q) not_shut pos =
      let h = F₀.empty_held v is in
      absurd (not_shut (record { value = v; held = h.0; meets = h.1; passes = (decides_passes hi []).yes q }))

  comes_total_before : (handed : List Entry) (ends : ℕ) (r : View) → Comes handed ends r → ends ≡ 0
      → (n : ℕ) × NumberOf (λ x. Followed f p lo hi x × NotAfterLast handed x) n × (r.total ≡ capped n)
  comes_total_before handed ends r (fresh levels v sane w is) z = (
    0,
    record {
      strings = [];
      rising = tt;
      such = λ x on. absurd (mathlib.Core.List.Memᴰ.not-nil on);
      all = λ x h. absurd (snoc_not_nil h.1.before h.1.last h.1.is_last);
      number = refl;
    },
    refl,
  )
  comes_total_before handed ends r (going pre taken levels hpre unshut sane w under last) z = (
    length taken,
    number_of (λ x. Counted x × NotAfterLast (pre ++ entries_of taken) x) (λ x. Followed f p lo hi x × NotAfterLast (pre ++ entries_of taken) x) (length taken)
        (λ x h. ((h.0.0.0, (h.0.0.1, h.0.1)), h.1)) (λ x h. (((h.0.0, h.0.1.0), h.0.1.1), h.1))
        (cut_number_before (Begun f p) (Out f p) lo hi visits (fitting p pend) F (cut_at pre taken (come_by f p levels) hpre w under) last),
    refl,
  )
  comes_total_before handed ends r (finished pre n hpre unshut under) z = absurd (omega arith)
  comes_total_before handed ends r (beyond pre n taken v more hpre unshut w under ps) z = absurd (omega arith)
  comes_total_before handed ends r (shut n v is q) z = absurd (omega arith)

  -- where the upper bound excludes the empty key, whether or not it fits, no call comes to walk
  excluded_shut : EmptyExcluded f lo hi → ¬ ((v : ℕ) → pend ≡ some v → passes_test hi [] ≡ false)
  excluded_shut x unshut = (decides_passes hi []).no (unshut x.value (F₀.empty_pending x.value x.held x.meets)) x.passes

  excluded_passes : EmptyExcluded f lo hi → passes_test hi [] ≡ true
  excluded_passes x = Rattle.buffers.specs.DecideLaws.true_of (passes_test hi []) (decides_passes hi []) x.passes

  comes_total_excluded : (handed : List Entry) (ends : ℕ) (r : View) → Comes handed ends r → EmptyExcluded f lo hi → r.total ≡ 0
  comes_total_excluded handed ends r (fresh levels v sane w is) x = refl
  comes_total_excluded handed ends r (going pre taken levels hpre unshut sane w under last) x = absurd (excluded_shut x unshut)
  comes_total_excluded handed ends r (finished pre n hpre unshut under) x = absurd (excluded_shut x unshut)
  comes_total_excluded handed ends r (beyond pre n taken v more hpre unshut w under ps) x = absurd (excluded_shut x unshut)
  comes_total_excluded handed ends r (shut n v is q) x = refl

  abbrev view : List Level → Option ℕ → ℕ → View
  view levels e n = view_at s A.meta A.opens hi (length (bound_bytes hi)) short levels e n

  -- a call from levels and a pending key follows none, if an allowed one ends
  none_from : (levels : List Level) (e : Option ℕ) → Sane f levels → (c : Call s)
      → (Allowed c → next_by s p (view levels e 0) c.space ≡ record { answer = end; reading = view [] none 0 }) → (call_by p (view levels e 0) c).reading.total ≡ 0
  none_from levels e sane c go =
      ⊎_elim
      (λ (h : Allowed c).
      ap (λ (file : List ℕ). (next_by file p (view levels e 0) c.space).reading.total)
      (file_same s A.meta A.opens hi (length (bound_bytes hi)) short p few visits pend c h)
      ∙ ap (λ (o : Step). o.reading.total) (go h))
      (λ (out : ¬ Allowed c).
      let w = view_refused s A.meta A.opens hi (length (bound_bytes hi)) short p few visits pend levels e 0 sane c out in
      ap (λ (o : Step). o.reading.total) w.1)
      (dec_allowed s A.meta A.opens hi (length (bound_bytes hi)) short p few visits pend c)

  comes_none_followed : (handed : List Entry) (ends : ℕ) (r : View) → Comes handed ends r → EmptyExcluded f lo hi → (c : Call s) → followed_by p r c ≡ 0
  comes_none_followed handed ends r (fresh levels v sane w is) x c =
      none_from levels (some v) sane c
      (λ h. by_pending_off s A.meta A.opens hi (length (bound_bytes hi)) short p few c.space h.room levels v 0 sane (excluded_passes x))
  comes_none_followed handed ends r (going pre taken levels hpre unshut sane w under last) x c = absurd (excluded_shut x unshut)
  comes_none_followed handed ends r (finished pre n hpre unshut under) x c = absurd (excluded_shut x unshut)
  comes_none_followed handed ends r (beyond pre n taken v more hpre unshut w under ps) x c = absurd (excluded_shut x unshut)
  comes_none_followed handed ends r (shut n v is q) x c =
      none_from [] none tt c (λ h. end_again s A.meta A.opens hi (length (bound_bytes hi)) short p few visits pend c.space h.room 0)

  -- ---- one call more

  key_not_end : {k : List ℕ} {v : ℕ} → ¬ (◌≡◌ {A = Answer} (key k v) end)
  key_not_end e = let z : ◌≡◌ {A = ℕ} 0 1 = cc in omega arith

  key_not_refused : {k : List ℕ} {v : ℕ} {n : Refusal} → ¬ (◌≡◌ {A = Answer} (key k v) (Answer.refused n))
  key_not_refused e = let z : ◌≡◌ {A = ℕ} 0 1 = cc in omega arith

  end_not_refused : {n : Refusal} → ¬ (◌≡◌ {A = Answer} end (Answer.refused n))
  end_not_refused e = let z : ◌≡◌ {A = ℕ} 0 1 = cc in omega arith

  abbrev CalledAt : List Entry → ℕ → Step → Type 0
  CalledAt handed ends o = Called s A.meta A.opens hi (length (bound_bytes hi)) short p few visits pend handed ends o

  end_none_left : (handed : List Entry) (ends : ℕ) (o : Step) → CalledAt handed ends o → o.answer ≡ end → NoneLeftBy f p lo hi handed
  end_none_left handed ends o (hands e z is q) at_end = absurd (key_not_end (sym is ∙ at_end))
  end_none_left handed ends o (ended is q) at_end = λ k v w. comes_none_left handed (suc ends) o.reading q (omega arith) k v (w.held, w.fits) w.between

  none_left_end : (handed : List Entry) (ends : ℕ) (o : Step) → CalledAt handed ends o → NoneLeftBy f p lo hi handed → o.answer ≡ end
  none_left_end handed ends o (hands e z is q) none_left =
      let on = comes_stands (handed ++ (e ∷ [])) 0 o.reading q in
      let h = stands_held (handed ++ (e ∷ [])) on e (snoc_mem handed e) in
      let before = none_left e.key e.value (record { held = h.0.0; between = h.1; fits = h.0.1 }) in
      absurd (before_irrefl e.key (rising_last handed e (entry e.key e.value) (stands_rising (handed ++ (e ∷ [])) on) before))
  none_left_end handed ends o (ended is q) none_left = is

  not_refused : (handed : List Entry) (ends : ℕ) (o : Step) → CalledAt handed ends o → (n : Refusal) → ¬ (o.answer ≡ Answer.refused n)
  not_refused handed ends o (hands e z is q) n r = key_not_refused (sym is ∙ r)
  not_refused handed ends o (ended is q) n r = end_not_refused (sym is ∙ r)

  start_comes : (levels : List Level) (e : Option ℕ) → e ≡ pend → Sane f levels → come_by f p levels ≡ visits → Comes [] 0 (view levels e 0)
  start_comes levels none is sane comes =
      going [] [] levels (no_empty (ap (fitting p) (sym is))) (λ v q. absurd (none_some (is ∙ q))) sane (sym comes) tt no_visit
  start_comes levels (some v) is sane comes = fresh levels v sane (sym comes) (sym is)

-- ---- the claim

module _ {s : List ℕ} (A : Admitted s) (lo hi : Bound) (short_lo : length (bound_bytes lo) ≤ max_path) (short_hi : length (bound_bytes hi) ≤ max_path)
    (p : Pattern) (few : length p.positions ≤ max_path) where
  abbrev reading : View
  reading = reading₀ A lo hi short_lo short_hi

  pub start_by_given : start_by s p lo hi ≡ started reading
  unfolding start_by
  start_by_given = let b = le-leb (length p.positions) max_path few in rw (A.opens, b) (start_given A lo hi short_lo short_hi)

  run : (cs : List (Call s)) → Ran s A.meta A.opens hi (length (bound_bytes hi)) short_hi p few (visits_by A lo p) (pend_by A lo p) [] 0 reading cs
  run cs =
      let w = begun A lo hi short_lo short_hi in
      progress_run s A.meta A.opens hi (length (bound_bytes hi)) short_hi p few (visits_by A lo p) (pend_by A lo p) cs [] 0 reading
      (start_comes A lo hi short_hi p few w.levels (pend_by A lo p) refl w.sane (ap (λ (vs : List Visit). map (judged_by p) (kept (viable p) vs)) w.comes))

  -- one call after others
  called : (cs : List (Call s)) (c : Call s) → Allowed c → CalledAt A lo hi short_hi p few (run cs).new (0 + (run cs).more) (call_by p (reading_after_by p reading cs) c)
  called cs c h =
      progress_step s A.meta A.opens hi (length (bound_bytes hi)) short_hi p few (visits_by A lo p) (pend_by A lo p) c h (run cs).new
      (0 + (run cs).more) (reading_after_by p reading cs) (run cs).progress

  where_at : (cs : List (Call s)) → Stands A lo hi short_hi p few (run cs).new
  where_at cs = comes_stands A lo hi short_hi p few (run cs).new (0 + (run cs).more) (reading_after_by p reading cs) (run cs).progress

  pub demand_3_by : (cs : List (Call s)) → DemandBy A p lo hi cs
  demand_3_by cs =
      record {
        reading = reading;
        starts = start_by_given;
        handed = (run cs).new;
        ends = (run cs).more;
        one_a_call = (run cs).answered;
        wanted = λ e on.
            let h = stands_held A lo hi short_hi p few (run cs).new (where_at cs) e on in
            record { held = h.0.0; between = h.1; fits = h.0.1 };
        ascending = stands_rising A lo hi short_hi p few (run cs).new (where_at cs);
        none_left_out = λ k v w. stands_none_left_out A lo hi short_hi p few (run cs).new (where_at cs) k v (w.held, w.fits) w.between;
        end_exactly = λ cs₁ cs₂ c is h. (
          (λ q. rw (run cs₁).handing (end_none_left A lo hi short_hi p few (run cs₁).new (0 + (run cs₁).more) (call_by p (reading_after_by p reading cs₁) c) (called cs₁ c h) q)),
          (λ q. none_left_end A lo hi short_hi p few (run cs₁).new (0 + (run cs₁).more) (call_by p (reading_after_by p reading cs₁) c) (called cs₁ c h) (rw (run cs₁).handing at q)),
        );
        refused_exactly = λ cs₁ cs₂ c is. (
          (λ h. not_refused A lo hi short_hi p few (run cs₁).new (0 + (run cs₁).more) (call_by p (reading_after_by p reading cs₁) c) (called cs₁ c h)),
          (λ out.
              progress_refused s A.meta A.opens hi (length (bound_bytes hi)) short_hi p few (visits_by A lo p) (pend_by A lo p) c out (run cs₁).new
              (0 + (run cs₁).more) (reading_after_by p reading cs₁) (run cs₁).progress),
        );
        total_ended = λ not_shut pos.
            comes_total_ended A lo hi short_hi p few (run cs).new (0 + (run cs).more) (reading_after_by p reading cs) (run cs).progress not_shut (omega arith);
        total_before = λ z. comes_total_before A lo hi short_hi p few (run cs).new (0 + (run cs).more) (reading_after_by p reading cs) (run cs).progress (omega arith);
        total_excluded = λ x. comes_total_excluded A lo hi short_hi p few (run cs).new (0 + (run cs).more) (reading_after_by p reading cs) (run cs).progress x;
        none_followed = λ x cs₁ cs₂ c is.
            comes_none_followed A lo hi short_hi p few (run cs₁).new (0 + (run cs₁).more) (reading_after_by p reading cs₁) (run cs₁).progress x c;
      }

-- ---- the refusals of a start

pub start_many : {s : List ℕ} → Admitted s → (p : Pattern) (lo hi : Bound) → max_path < length p.positions → start_by s p lo hi ≡ Started.refused PATTERN
unfolding start_by
start_many A p lo hi h = let b = lt-leb (length p.positions) max_path h in rw (A.opens, b)

pub start_few : {s : List ℕ} → Admitted s → (p : Pattern) (lo hi : Bound) → length p.positions ≤ max_path → start_by s p lo hi ≡ Rattle.reading.specs.Reading.start s lo hi
unfolding start_by
start_few A p lo hi h = let b = le-leb (length p.positions) max_path h in rw (A.opens, b)

-- a reading; PATTERN for over 255 positions; or BOUND for a bound over 255 bytes
pub start_by_only : {s : List ℕ} (A : Admitted s) (p : Pattern) (lo hi : Bound)
    → ((r : View) × (start_by s p lo hi ≡ started r))
    ⊎ (((start_by s p lo hi ≡ Started.refused PATTERN) × (max_path < length p.positions))
    ⊎ ((start_by s p lo hi ≡ Started.refused BOUND) × ((max_path < length (bound_bytes lo)) ⊎ (max_path < length (bound_bytes hi)))))
start_by_only A p lo hi =
    ⊎_elim
    (λ (h : max_path < length p.positions). inr (inl (start_many A p lo hi h, h)))
    (λ (h : length p.positions ≤ max_path).
    ⊎_elim
    (λ w. inl (w.0, start_few A p lo hi h ∙ w.1))
    (λ w. inr (inr (start_few A p lo hi h ∙ w.0, w.1)))
    (start_only_bound A lo hi))
    (lt_or max_path (length p.positions))
