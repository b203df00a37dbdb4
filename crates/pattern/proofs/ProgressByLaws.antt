-- How far a list of calls by pattern has come: the viable visits of a start, cut in two.
--     fitting p e             the pending empty key, if it fits
--     Progress handed ends r  a reading after calls that handed out these keys and then answered "end" so many times
--     progress_step, progress_refused, progress_run     a call, a refused call, a list of calls
-- Assumes nothing.
use Prim.{tt}
use Rattle.std.specs.Prelude.{◌≡◌, refl, Bool, true, false, cond, ◌⊎◌, List, [], ◌∷◌, ◌++◌, map, ℕ, suc, ◌+◌, ◌<◌, ◌≤◌, length, replicate}
use Rattle.std.proofs.Common.{sym, ◌∙◌, ap, subst, ⊎_elim, inl, inr, append_assoc, append-nil, arith, length-append}
use Rattle.std.proofs.Math.Option.{Option, none, some}
use Rattle.format.specs.declared.Refusal.{Refusal}
use Rattle.format.specs.Limits.{max_path, SPACE}
use Rattle.format.specs.Opening.{Meta, opened, opening}
use Rattle.format.specs.Paths.{fst_of}
use Rattle.format.specs.Strings.{Bound}
use Rattle.reading.specs.Reading.{passes_test, Level, View, Answer, end, Step, refuse}
use Rattle.reading.specs.Visits.{Visit, Sane, AllV}
use Rattle.reading.specs.VisitLists.{all_append}
use Rattle.reading.proofs.RunLaws.{Idle, lt_or}
use Rattle.reading.proofs.NextLaws.{view_at}
use Rattle.reading.specs.Demand.{Call, Allowed, unrefused, unrefused_then, Entry, entry, hand_out, handed_in, handed_then}
use Rattle.reading.proofs.ProgressLaws.{all_idle, entries_of, entries_append, entries_idle, entries_one, LastFinal, no_visit, last_visit, Pre, no_empty, empty_key}
use Rattle.pattern.specs.Pattern.{Pattern, fits_test, next_by}
use Rattle.pattern.specs.PatternDemand.{call_by, reading_after_by, answers_by}
use Rattle.pattern.proofs.ViableLaws.{come_by}
use Rattle.pattern.proofs.NextByLaws.{by_short, by_other, by_pending_on, by_pending_off, by_open, by_dropped, WaysBy, at_end, over_at, handed_at, next_by_come}

-- a pending empty key that does not fit is never handed out
abbrev pub fitting : Pattern → Option ℕ → Option ℕ
fitting p none = none
fitting p (some v) = cond (fits_test p.positions p.rest []) (some v) none

-- W are the viable visits of the start, pend its pending empty key
module _ (s : List ℕ) (m : Meta) (opens : opening s ≡ opened m) (hi : Bound) (bl : ℕ) (short : bl ≤ max_path) (p : Pattern) (few : length p.positions ≤ max_path)
    (W : List Visit) (pend : Option ℕ) where
  abbrev view : List Level → Option ℕ → ℕ → View
  view levels e n = view_at s m opens hi bl short levels e n

  abbrev come : List Level → List Visit
  come levels = come_by (fst_of s m) p levels

  abbrev Under : Visit → Type 0
  Under v = passes_test hi v.key ≡ false

  -- the upper bound does not exclude a pending empty key
  abbrev Unshut : Type 0
  Unshut = (v : ℕ) → pend ≡ some v → passes_test hi [] ≡ false

  pub data Progress : List Entry → ℕ → View → Type 0 where
    -- the empty key is pending
    fresh : (levels : List Level) (v : ℕ) → Sane (fst_of s m) levels → W ≡ come levels → pend ≡ some v → Progress [] 0 (view levels (some v) 0)
    -- the visits taken are counted, and none of them passes the upper bound
    going : (pre : List Entry) (taken : List Visit) (levels : List Level) → Pre hi (fitting p pend) pre → Unshut → Sane (fst_of s m) levels → W ≡ taken ++ come levels
        → AllV Under taken → LastFinal taken → Progress (pre ++ entries_of taken) 0 (view levels none (length taken))
    -- the end: no visit is left
    finished : (pre : List Entry) (n : ℕ) → Pre hi (fitting p pend) pre → Unshut → AllV Under W → Progress (pre ++ entries_of W) (suc n) (view [] none (length W))
    -- or one passes the upper bound, and is counted too
    beyond : (pre : List Entry) (n : ℕ) (taken : List Visit) (v : Visit) (more : List Visit) → Pre hi (fitting p pend) pre → Unshut → W ≡ taken ++ (v ∷ more)
        → AllV Under taken → passes_test hi v.key ≡ true → Progress (pre ++ entries_of taken) (suc n) (view [] none (suc (length taken)))
    -- or the upper bound excludes the empty key
    shut : (n v : ℕ) → pend ≡ some v → passes_test hi [] ≡ true → Progress [] (suc n) (view [] none 0)

  -- ---- a call

  pub data Called (handed : List Entry) (ends : ℕ) (o : Step) : Type 0 where
    hands : (e : Entry) → ends ≡ 0 → o.answer ≡ hand_out e → Progress (handed ++ (e ∷ [])) 0 o.reading → Called handed ends o
    ended : o.answer ≡ end → Progress handed (suc ends) o.reading → Called handed ends o

  called_hands : (handed : List Entry) (o : Step) (e : Entry) (r : View) → o ≡ record { answer = hand_out e; reading = r } → Progress (handed ++ (e ∷ [])) 0 r
      → Called handed 0 o
  called_hands handed o e r is q =
      hands e refl (ap (λ (x : Step). x.answer) is) (subst (λ (x : Step). Progress (handed ++ (e ∷ [])) 0 x.reading) (sym is) q)

  called_ends : (handed : List Entry) (ends : ℕ) (o : Step) (r : View) → o ≡ record { answer = end; reading = r } → Progress handed (suc ends) r
      → Called handed ends o
  called_ends handed ends o r is q = ended (ap (λ (x : Step). x.answer) is) (subst (λ (x : Step). Progress handed (suc ends) x.reading) (sym is) q)

  -- the cuts of a call: the visits before it, those that it passes over, and where it stops
  cut : (taken t : List Visit) (v : Visit) (more rest : List Visit) → W ≡ taken ++ rest → rest ≡ t ++ (v ∷ more) → W ≡ (taken ++ t) ++ (v ∷ more)
  cut taken t v more rest w e = w ∙ ap (λ (r : List Visit). taken ++ r) e ∙ sym (append_assoc taken t (v ∷ more))

  snoc : (xs : List Visit) (v : Visit) (more : List Visit) → xs ++ (v ∷ more) ≡ (xs ++ (v ∷ [])) ++ more
  snoc xs v more = sym (append_assoc xs (v ∷ []) more)

  over_entries : (taken t : List Visit) → AllV (Idle hi) t → entries_of (taken ++ t) ≡ entries_of taken
  over_entries taken t idle = entries_append taken t ∙ ap (λ (r : List Entry). entries_of taken ++ r) (entries_idle hi t idle) ∙ append-nil (entries_of taken)

  key_entries : (pre : List Entry) (taken t : List Visit) (v : Visit) → AllV (Idle hi) t → v.final ≡ true
      → pre ++ entries_of ((taken ++ t) ++ (v ∷ [])) ≡ (pre ++ entries_of taken) ++ (entry v.key v.value ∷ [])
  key_entries pre taken t v idle fin =
      ap (λ (r : List Entry). pre ++ r)
      (entries_append (taken ++ t) (v ∷ [])
      ∙ ap (λ (r : List Entry). r ++ entries_of (v ∷ [])) (over_entries taken t idle)
      ∙ ap (λ (r : List Entry). entries_of taken ++ r) (entries_one v fin))
      ∙ sym (append_assoc pre (entries_of taken) (entry v.key v.value ∷ []))

  module _ (space : ℕ) (room : max_path ≤ space) where
    abbrev ask : View → Step
    ask r = next_by s p r space

    -- a call that walks, whether nothing is pending or an empty key is dropped
    going_step : (pre : List Entry) (taken : List Visit) (levels : List Level) (e : Option ℕ) → Pre hi (fitting p pend) pre → Unshut → W ≡ taken ++ come levels
        → AllV Under taken → WaysBy s m opens hi bl short p few space room levels e → Called (pre ++ entries_of taken) 0 (ask (view levels e (length taken)))
    going_step pre taken levels e hpre unshut w under (at_end t idle split go) =
        let whole : W ≡ taken ++ t = w ∙ ap (λ (r : List Visit). taken ++ r) split in
        let count : length W ≡ length taken + length t = ap length whole ∙ length-append taken t in
        let same : entries_of W ≡ entries_of taken = ap entries_of whole ∙ over_entries taken t idle in
        let q : Progress (pre ++ entries_of W) 1 (view [] none (length W)) =
        finished pre 0 hpre unshut (subst (AllV Under) (sym whole) (all_append Under taken t under (all_idle hi t idle))) in
        called_ends (pre ++ entries_of taken) 0 _ _ (go (length taken))
        (subst (λ (n : ℕ). Progress (pre ++ entries_of taken) 1 (view [] none n)) count
        (subst (λ (es : List Entry). Progress (pre ++ es) 1 (view [] none (length W))) same q))
    going_step pre taken levels e hpre unshut w under (over_at t v more idle split ps go) =
        let count : suc (length (taken ++ t)) ≡ length taken + suc (length t) = ap suc (length-append taken t) ∙ omega arith in
        let q : Progress (pre ++ entries_of (taken ++ t)) 1 (view [] none (suc (length (taken ++ t)))) =
        beyond pre 0 (taken ++ t) v more hpre unshut (cut taken t v more _ w split) (all_append Under taken t under (all_idle hi t idle)) ps in
        called_ends (pre ++ entries_of taken) 0 _ _ (go (length taken))
        (subst (λ (n : ℕ). Progress (pre ++ entries_of taken) 1 (view [] none n)) count
        (subst (λ (es : List Entry). Progress (pre ++ es) 1 (view [] none (suc (length (taken ++ t))))) (over_entries taken t idle) q))
    going_step pre taken levels e hpre unshut w under (handed_at t v to idle split sane np fin go) =
        let count : length ((taken ++ t) ++ (v ∷ [])) ≡ length taken + suc (length t) = length-append (taken ++ t) (v ∷ []) ∙ omega (arith, length-append taken t) in
        let q : Progress (pre ++ entries_of ((taken ++ t) ++ (v ∷ []))) 0 (view to none (length ((taken ++ t) ++ (v ∷ [])))) =
        going pre ((taken ++ t) ++ (v ∷ [])) to hpre unshut sane (cut taken t v (come to) _ w split ∙ snoc (taken ++ t) v (come to))
        (all_append Under (taken ++ t) (v ∷ []) (all_append Under taken t under (all_idle hi t idle)) (np, tt)) (last_visit (taken ++ t) v fin) in
        called_hands (pre ++ entries_of taken) _ (entry v.key v.value) _ (go (length taken))
        (subst (λ (n : ℕ). Progress ((pre ++ entries_of taken) ++ (entry v.key v.value ∷ [])) 0 (view to none n)) count
        (subst (λ (es : List Entry). Progress es 0 (view to none (length ((taken ++ t) ++ (v ∷ []))))) (key_entries pre taken t v idle fin) q))

    -- after the end
    pub end_again : (n : ℕ) → ask (view [] none n) ≡ record { answer = end; reading = view [] none n }
    end_again n = by (next_by_come s m opens hi bl short p few space room [] none tt (by_open s m opens hi bl short p few space room [] tt))
      where
        nil_cut : (t : List Visit) (v : Visit) (more : List Visit) → ¬ (◌≡◌ {A = List Visit} [] (t ++ (v ∷ more)))
        nil_cut [] v more e = let z : ◌≡◌ {A = ℕ} 0 1 = cc in omega arith
        nil_cut (x ∷ t) v more e = let z : ◌≡◌ {A = ℕ} 0 1 = cc in omega arith

        by : WaysBy s m opens hi bl short p few space room [] none → ask (view [] none n) ≡ record { answer = end; reading = view [] none n }
        by (at_end t idle split go) =
            let z : n + length t ≡ n = ap (λ (x : List Visit). n + length x) (sym split) ∙ omega arith in
            go n ∙ ap (λ (k : ℕ). record { answer = end; reading = view [] none k }) z
        by (over_at t v more idle split ps go) = absurd (nil_cut t v more split)
        by (handed_at t v to idle split sane np fin go) = absurd (nil_cut t v (come to) split)

    -- a pending empty key: it ends the reading, it is handed out, or it is dropped and the call walks
    fresh_step : (levels : List Level) (v : ℕ) → Sane (fst_of s m) levels → W ≡ come levels → pend ≡ some v → (b : Bool) → passes_test hi [] ≡ b
        → (c : Bool) → fits_test p.positions p.rest [] ≡ c → Called [] 0 (ask (view levels (some v) 0))
    fresh_step levels v sane w is true q c t = called_ends [] 0 _ _ (by_pending_off s m opens hi bl short p few space room levels v 0 sane q) (shut 0 v is q)
    fresh_step levels v sane w is false q true t =
        let out : fitting p pend ≡ some v = ap (fitting p) is ∙ rw t in
        called_hands [] _ (entry [] v) _ (by_pending_on s m opens hi bl short p few space room levels v 0 sane q t)
        (going (entry [] v ∷ []) [] levels (empty_key v out q) (λ _ _. q) sane w tt no_visit)
    fresh_step levels v sane w is false q false t =
        let out : fitting p pend ≡ none = ap (fitting p) is ∙ rw t in
        going_step [] [] levels (some v) (no_empty out) (λ _ _. q) w tt
        (next_by_come s m opens hi bl short p few space room levels (some v) sane (by_dropped s m opens hi bl short p few space room levels v sane q t))

    pub ask_step : (handed : List Entry) (ends : ℕ) (r : View) → Progress handed ends r → Called handed ends (ask r)
    ask_step handed ends r (fresh levels v sane w is) = fresh_step levels v sane w is (passes_test hi []) refl (fits_test p.positions p.rest []) refl
    ask_step handed ends r (going pre taken levels hpre unshut sane w under last) =
        going_step pre taken levels none hpre unshut w under
        (next_by_come s m opens hi bl short p few space room levels none sane (by_open s m opens hi bl short p few space room levels sane))
    ask_step handed ends r (finished pre n hpre unshut under) = called_ends _ _ _ _ (end_again (length W)) (finished pre (suc n) hpre unshut under)
    ask_step handed ends r (beyond pre n taken v more hpre unshut w under ps) =
        called_ends _ _ _ _ (end_again (suc (length taken))) (beyond pre (suc n) taken v more hpre unshut w under ps)
    ask_step handed ends r (shut n v is q) = called_ends _ _ _ _ (end_again 0) (shut (suc n) v is q)

  -- ---- a call with the file or another, and any buffer

  pub file_same : (c : Call s) → Allowed c → c.file ≡ s
  file_same c h = ⊎_elim (λ (e : c.file ≡ s). e) (λ ne. absurd (ne h.same)) c.which

  pub progress_step : (c : Call s) → Allowed c → (handed : List Entry) (ends : ℕ) (r : View) → Progress handed ends r → Called handed ends (call_by p r c)
  progress_step c h handed ends r q =
      subst (λ (file : List ℕ). Called handed ends (next_by file p r c.space)) (sym (file_same c h)) (ask_step c.space h.room handed ends r q)

  -- a refused call changes nothing
  pub view_refused : (levels : List Level) (e : Option ℕ) (n : ℕ) → Sane (fst_of s m) levels → (c : Call s) → ¬ Allowed c
      → (k : Refusal) × (call_by p (view levels e n) c ≡ refuse (view levels e n) k)
  view_refused levels e n sane c not_allowed =
      ⊎_elim
      (λ (same : c.file ≡ s).
      ⊎_elim
      (λ (lt : c.space < max_path). (
        SPACE,
        ap (λ (file : List ℕ). next_by file p (view levels e n) c.space) same ∙ by_short s m opens hi bl short p few levels e n sane c.space lt,
      ))
      (λ (ge : max_path ≤ c.space). absurd (not_allowed (record { same = ap length same; room = ge })))
      (lt_or c.space max_path))
      (λ ne. by_other s m opens hi bl short p few levels e n c.file ne c.space)
      c.which

  pub progress_refused : (c : Call s) → ¬ Allowed c → (handed : List Entry) (ends : ℕ) (r : View) → Progress handed ends r → (k : Refusal) × (call_by p r c ≡ refuse r k)
  progress_refused c out handed ends r (fresh levels v sane w is) = view_refused levels (some v) 0 sane c out
  progress_refused c out handed ends r (going pre taken levels hpre unshut sane w under last) = view_refused levels none (length taken) sane c out
  progress_refused c out handed ends r (finished pre n hpre unshut under) = view_refused [] none (length W) tt c out
  progress_refused c out handed ends r (beyond pre n taken v more hpre unshut w under ps) = view_refused [] none (suc (length taken)) tt c out
  progress_refused c out handed ends r (shut n v is q) = view_refused [] none 0 tt c out

  pub dec_allowed : (c : Call s) → (Allowed c) ⊎ (¬ Allowed c)
  dec_allowed c =
      ⊎_elim
      (λ (lt : c.space < max_path). inr (λ h. omega (arith, h.room)))
      (λ (ge : max_path ≤ c.space).
      ⊎_elim (λ (e : c.file ≡ s). inl (record { same = ap length e; room = ge })) (λ ne. inr (λ h. ne h.same)) c.which)
      (lt_or c.space max_path)

  -- ---- a list of calls

  pub record Ran (handed : List Entry) (ends : ℕ) (r : View) (cs : List (Call s)) : Type 0 where
    pub new : List Entry
    pub more : ℕ
    pub answered : unrefused (answers_by p r cs) ≡ map hand_out new ++ replicate more end
    pub handing : handed_in (answers_by p r cs) ≡ new
    pub after_end : 0 < ends → new ≡ []
    pub progress : Progress (handed ++ new) (ends + more) (reading_after_by p r cs)

  ran_none : (handed : List Entry) (ends : ℕ) (r : View) → Progress handed ends r → Ran handed ends r []
  ran_none handed ends r q =
      let e : ends + 0 ≡ ends = omega arith in
      record {
        new = [];
        more = 0;
        answered = refl;
        handing = refl;
        after_end = λ _. refl;
        progress = rw (append-nil handed, e) q;
      }

  ran_refused : (handed : List Entry) (ends : ℕ) (r : View) (c : Call s) (cs : List (Call s)) (k : Refusal) → call_by p r c ≡ refuse r k → Ran handed ends r cs → Ran handed ends r (c ∷ cs)
  ran_refused handed ends r c cs k is w =
      record {
        new = w.new;
        more = w.more;
        answered = ap (λ (o : Step). unrefused (o.answer ∷ answers_by p o.reading cs)) is ∙ w.answered;
        handing = ap (λ (o : Step). handed_in (o.answer ∷ answers_by p o.reading cs)) is ∙ w.handing;
        after_end = w.after_end;
        progress = subst (λ (o : Step). Progress (handed ++ w.new) (ends + w.more) (reading_after_by p o.reading cs)) (sym is) w.progress;
      }

  ran_hands : (handed : List Entry) (ends : ℕ) (r : View) (c : Call s) (cs : List (Call s)) (e : Entry) → ends ≡ 0 → (call_by p r c).answer ≡ hand_out e
      → Ran (handed ++ (e ∷ [])) 0 (call_by p r c).reading cs → Ran handed ends r (c ∷ cs)
  ran_hands handed ends r c cs e z is w =
      record {
        new = e ∷ w.new;
        more = w.more;
        answered =
            ap (λ (a : Answer). unrefused_then a (unrefused (answers_by p (call_by p r c).reading cs))) is
            ∙ ap (λ (l : List Answer). hand_out e ∷ l) w.answered;
        handing =
            ap (λ (a : Answer). handed_then a (handed_in (answers_by p (call_by p r c).reading cs))) is
            ∙ ap (λ (l : List Entry). e ∷ l) w.handing;
        after_end = λ pos. absurd (omega arith);
        progress = rw z (subst (λ (l : List Entry). Progress l (0 + w.more) (reading_after_by p (call_by p r c).reading cs)) (append_assoc handed (e ∷ []) w.new) w.progress);
      }

  ran_ends : (handed : List Entry) (ends : ℕ) (r : View) (c : Call s) (cs : List (Call s)) → (call_by p r c).answer ≡ end
      → Ran handed (suc ends) (call_by p r c).reading cs → Ran handed ends r (c ∷ cs)
  ran_ends handed ends r c cs is w =
      let nothing : w.new ≡ [] = w.after_end (omega arith) in
      let e : suc ends + w.more ≡ ends + suc w.more = omega arith in
      record {
        new = [];
        more = suc w.more;
        answered =
            ap (λ (a : Answer). unrefused_then a (unrefused (answers_by p (call_by p r c).reading cs))) is
            ∙ ap (λ (l : List Answer). end ∷ l) (w.answered ∙ ap (λ (l : List Entry). map hand_out l ++ replicate w.more end) nothing);
        handing =
            ap (λ (a : Answer). handed_then a (handed_in (answers_by p (call_by p r c).reading cs))) is ∙ w.handing ∙ nothing;
        after_end = λ _. refl;
        progress = rw (← e) (subst (λ (l : List Entry). Progress (handed ++ l) (suc ends + w.more) (reading_after_by p (call_by p r c).reading cs)) nothing w.progress);
      }

  pub progress_run : (cs : List (Call s)) (handed : List Entry) (ends : ℕ) (r : View) → Progress handed ends r → Ran handed ends r cs
  progress_run [] handed ends r q = ran_none handed ends r q
  progress_run (c ∷ cs) handed ends r q =
      ⊎_elim
      (λ (h : Allowed c). by (progress_step c h handed ends r q) (λ handed ends r q. progress_run cs handed ends r q))
      (λ (out : ¬ Allowed c). let w = progress_refused c out handed ends r q in ran_refused handed ends r c cs w.0 w.1 (progress_run cs handed ends r q))
      (dec_allowed c)
    where
      by : Called handed ends (call_by p r c) → ((handed : List Entry) (ends : ℕ) (r : View) → Progress handed ends r → Ran handed ends r cs) → Ran handed ends r (c ∷ cs)
      by (hands e z is q) ih = ran_hands handed ends r c cs e z is (ih (handed ++ (e ∷ [])) 0 (call_by p r c).reading q)
      by (ended is q) ih = ran_ends handed ends r c cs is (ih handed (suc ends) (call_by p r c).reading q)
