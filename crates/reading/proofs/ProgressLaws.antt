-- How far a list of calls has come: the visits of a start, cut in two.
--     entries_of vs            the keys among the visits, with their values
--     Progress handed ends r  a reading after calls that handed out these keys and then answered "end" so many times
--     progress_step, progress_refused, progress_run     a call, a refused call, a list of calls
-- Assumes nothing.
use Prim.{Unit, tt}
use Rattle.std.specs.Prelude.{◌≡◌, refl, Bool, true, false, cond, ◌⊎◌, ℕ, zero, suc, ◌+◌, ◌-◌, ◌<◌, ◌≤◌, length, replicate}
use Rattle.std.proofs.Common.{sym, ◌∙◌, ap, subst, ⊎_elim, inl, inr, zero-add, arith, length-append}
use Rattle.std.proofs.Math.Option.{Option, none, some}
use mathlib.Core.List.{List, [], ◌∷◌, ◌++◌, map, append_assoc, append-nil, Memᴰ}
use Rattle.std.proofs.Math.Decide.{ℕ_discrete}
use Rattle.format.specs.declared.Refusal.{Refusal}
use Rattle.format.specs.Limits.{max_path}
use Rattle.format.specs.Opening.{Meta, opened, opening}
use Rattle.format.specs.Paths.{Fst, fst_of, Held}
use Rattle.format.specs.Strings.{Before, Bound, MeetsLower, PassesUpper, Between}
use Rattle.reading.specs.Reading.{passes_test, Level, View, Answer, key, end, Step, refuse}
use Rattle.reading.specs.Visits.{Visit, to_come, Sane, AllV, RisingV}
use Rattle.reading.specs.VisitLists.{all_append}
use Rattle.reading.proofs.VisitLaws.{all_mem, mem_all}
use Rattle.reading.proofs.RunLaws.{Idle, lt_or}
use Rattle.reading.proofs.NextLaws.{view_at, next_short, next_other, next_pending_on, next_pending_off, Ways, at_end, over_at, handed_at, next_come}
use Rattle.reading.specs.Demand.{Call, Allowed, call, reading_after, answers, unrefused, unrefused_then, Entry, entry, hand_out, handed_in, handed_then, capped}

-- ---- the keys among visits

abbrev pub entries_of : List Visit → List Entry
entries_of [] = []
entries_of (v ∷ vs) = cond v.final (entry v.key v.value ∷ entries_of vs) (entries_of vs)

pub entries_append : (xs ys : List Visit) → entries_of (xs ++ ys) ≡ entries_of xs ++ entries_of ys
entries_append [] ys = refl
entries_append (x ∷ xs) ys = by x.final (entries_append xs ys)
  where
    by : (b : Bool) → entries_of (xs ++ ys) ≡ entries_of xs ++ entries_of ys
        → cond b (entry x.key x.value ∷ entries_of (xs ++ ys)) (entries_of (xs ++ ys)) ≡ cond b (entry x.key x.value ∷ entries_of xs) (entries_of xs) ++ entries_of ys
    by true e = ap (λ (r : List Entry). entry x.key x.value ∷ r) e
    by false e = e

pub entries_idle : (hi : Bound) (xs : List Visit) → AllV (Idle hi) xs → entries_of xs ≡ []
entries_idle hi [] h = refl
entries_idle hi (x ∷ xs) h = rw h.0.1 (entries_idle hi xs h.1)

pub entries_one : (v : Visit) → v.final ≡ true → entries_of (v ∷ []) ≡ entry v.key v.value ∷ []
entries_one v e = rw e

-- ---- a fact of each visit, over two lists

pub all_idle : (hi : Bound) (xs : List Visit) → AllV (Idle hi) xs → AllV (λ v. passes_test hi v.key ≡ false) xs
all_idle hi [] h = tt
all_idle hi (x ∷ xs) h = (h.0.0, all_idle hi xs h.1)

-- ---- how far

-- the last of the visits made is a key
pub data LastFinal : List Visit → Type 0 where
  no_visit : LastFinal []
  last_visit : (vs : List Visit) (v : Visit) → v.final ≡ true → LastFinal (vs ++ (v ∷ []))

pub data Pre (hi : Bound) (e₀ : Option ℕ) : List Entry → Type 0 where
  no_empty : e₀ ≡ none → Pre hi e₀ []
  empty_key : (v : ℕ) → e₀ ≡ some v → passes_test hi [] ≡ false → Pre hi e₀ (entry [] v ∷ [])

abbrev pub pending_count : Option ℕ → ℕ
pending_count none = 0
pending_count (some v) = 1

-- the visits that are left, and the pending empty key
abbrev pub left : Fst → View → ℕ
left f r = pending_count r.empty + length (to_come f r.levels)

-- W are the visits of the start, e₀ its pending empty key
module _ (s : List ℕ) (m : Meta) (opens : opening s ≡ opened m) (hi : Bound) (bl : ℕ) (short : bl ≤ max_path) (W : List Visit) (e₀ : Option ℕ) where
  abbrev view : List Level → Option ℕ → ℕ → View
  view levels e n = view_at s m opens hi bl short levels e n

  abbrev Under : Visit → Type 0
  Under v = passes_test hi v.key ≡ false

  pub data Progress : List Entry → ℕ → View → Type 0 where
    -- the empty key is pending
    fresh : (levels : List Level) (v : ℕ) → Sane (fst_of s m) levels → W ≡ to_come (fst_of s m) levels → e₀ ≡ some v → Progress [] 0 (view levels (some v) 0)
    -- the visits taken are counted, and none of them passes the upper bound
    going : (pre : List Entry) (taken : List Visit) (levels : List Level) → Pre hi e₀ pre → Sane (fst_of s m) levels → W ≡ taken ++ to_come (fst_of s m) levels
        → AllV Under taken → LastFinal taken → Progress (pre ++ entries_of taken) 0 (view levels none (length taken))
    -- the end: no visit is left
    finished : (pre : List Entry) (n : ℕ) → Pre hi e₀ pre → AllV Under W → Progress (pre ++ entries_of W) (suc n) (view [] none (length W))
    -- or one passes the upper bound, and is counted too
    beyond : (pre : List Entry) (n : ℕ) (taken : List Visit) (v : Visit) (more : List Visit) → Pre hi e₀ pre → W ≡ taken ++ (v ∷ more) → AllV Under taken
        → passes_test hi v.key ≡ true → Progress (pre ++ entries_of taken) (suc n) (view [] none (suc (length taken)))
    -- or the upper bound excludes the empty key
    shut : (n v : ℕ) → e₀ ≡ some v → passes_test hi [] ≡ true → Progress [] (suc n) (view [] none 0)

  -- ---- a call

  -- each key that is handed out leaves fewer
  pub data Called (handed : List Entry) (ends : ℕ) (r₀ : View) (o : Step) : Type 0 where
    hands : (e : Entry) → ends ≡ 0 → o.answer ≡ hand_out e → Progress (handed ++ (e ∷ [])) 0 o.reading → left (fst_of s m) o.reading < left (fst_of s m) r₀
        → Called handed ends r₀ o
    ended : o.answer ≡ end → Progress handed (suc ends) o.reading → Called handed ends r₀ o

  called_hands : (handed : List Entry) (r₀ : View) (o : Step) (e : Entry) (r : View) → o ≡ record { answer = hand_out e; reading = r } → Progress (handed ++ (e ∷ [])) 0 r
      → left (fst_of s m) r < left (fst_of s m) r₀ → Called handed 0 r₀ o
  called_hands handed r₀ o e r is p less =
      hands e refl (ap (λ (x : Step). x.answer) is) (subst (λ (x : Step). Progress (handed ++ (e ∷ [])) 0 x.reading) (sym is) p)
      (subst (λ (x : Step). left (fst_of s m) x.reading < left (fst_of s m) r₀) (sym is) less)

  called_ends : (handed : List Entry) (ends : ℕ) (r₀ : View) (o : Step) (r : View) → o ≡ record { answer = end; reading = r } → Progress handed (suc ends) r
      → Called handed ends r₀ o
  called_ends handed ends r₀ o r is p = ended (ap (λ (x : Step). x.answer) is) (subst (λ (x : Step). Progress handed (suc ends) x.reading) (sym is) p)

  -- the cuts of a call: the visits before it, those that it passes over, and where it stops
  cut : (taken t : List Visit) (v : Visit) (more rest : List Visit) → W ≡ taken ++ rest → rest ≡ t ++ (v ∷ more) → W ≡ (taken ++ t) ++ (v ∷ more)
  cut taken t v more rest w e = w ∙ ap (λ (r : List Visit). taken ++ r) e ∙ sym (append_assoc taken t (v ∷ more))

  snoc : (xs : List Visit) (v : Visit) (more : List Visit) → xs ++ (v ∷ more) ≡ (xs ++ (v ∷ [])) ++ more
  snoc xs v more = sym (append_assoc xs (v ∷ []) more)

  over_entries : (taken t : List Visit) → AllV (Idle hi) t → entries_of (taken ++ t) ≡ entries_of taken
  over_entries taken t idle = entries_append taken t ∙ ap (λ (r : List Entry). entries_of taken ++ r) (entries_idle hi t idle) ∙ append-nil (entries_of taken)

  key_entries : (pre : List Entry) (taken t : List Visit) (v : Visit) → AllV (Idle hi) t → v.final ≡ true
      → pre ++ entries_of ((taken ++ t) ++ (v ∷ [])) ≡ (pre ++ entries_of taken) ++ (entry v.key v.value ∷ [])
  key_entries pre taken t v idle fin =
      ap (λ (r : List Entry). pre ++ r)
      (entries_append (taken ++ t) (v ∷ [])
      ∙ ap (λ (r : List Entry). r ++ entries_of (v ∷ [])) (over_entries taken t idle)
      ∙ ap (λ (r : List Entry). entries_of taken ++ r) (entries_one v fin))
      ∙ sym (append_assoc pre (entries_of taken) (entry v.key v.value ∷ []))

  module _ (space : ℕ) (room : max_path ≤ space) where
    abbrev ask : View → Step
    ask r = Rattle.reading.specs.Reading.next s r space

    going_step : (pre : List Entry) (taken : List Visit) (levels : List Level) → Pre hi e₀ pre → W ≡ taken ++ to_come (fst_of s m) levels
        → AllV Under taken → Ways s m opens hi bl short space room levels → Called (pre ++ entries_of taken) 0 (view levels none (length taken)) (ask (view levels none (length taken)))
    going_step pre taken levels hpre w under (at_end e go) =
        let whole : W ≡ taken = w ∙ ap (λ (r : List Visit). taken ++ r) e ∙ append-nil taken in
        called_ends (pre ++ entries_of taken) 0 _ _ _ (go (length taken))
        (subst (λ (x : List Visit). Progress (pre ++ entries_of x) 1 (view [] none (length x))) whole (finished pre 0 hpre (subst (AllV Under) (sym whole) under)))
    going_step pre taken levels hpre w under (over_at t v more idle split ps len go) =
        let count : suc (length (taken ++ t)) ≡ length taken + suc (length t) = ap suc (length-append taken t) ∙ omega arith in
        let p : Progress (pre ++ entries_of (taken ++ t)) 1 (view [] none (suc (length (taken ++ t)))) =
        beyond pre 0 (taken ++ t) v more hpre (cut taken t v more _ w split) (all_append Under taken t under (all_idle hi t idle)) ps in
        called_ends (pre ++ entries_of taken) 0 _ _ _ (go (length taken))
        (subst (λ (n : ℕ). Progress (pre ++ entries_of taken) 1 (view [] none n)) count
        (subst (λ (es : List Entry). Progress (pre ++ es) 1 (view [] none (suc (length (taken ++ t))))) (over_entries taken t idle) p))
    going_step pre taken levels hpre w under (handed_at t v to idle split sane np fin len go) =
        let count : length ((taken ++ t) ++ (v ∷ [])) ≡ length taken + suc (length t) = length-append (taken ++ t) (v ∷ []) ∙ omega (arith, length-append taken t) in
        let p : Progress (pre ++ entries_of ((taken ++ t) ++ (v ∷ []))) 0 (view to none (length ((taken ++ t) ++ (v ∷ [])))) =
        going pre ((taken ++ t) ++ (v ∷ [])) to hpre sane (cut taken t v (to_come (fst_of s m) to) _ w split ∙ snoc (taken ++ t) v (to_come (fst_of s m) to))
        (all_append Under (taken ++ t) (v ∷ []) (all_append Under taken t under (all_idle hi t idle)) (np, tt)) (last_visit (taken ++ t) v fin) in
        called_hands (pre ++ entries_of taken) _ _ (entry v.key v.value) _ (go (length taken))
        (subst (λ (n : ℕ). Progress ((pre ++ entries_of taken) ++ (entry v.key v.value ∷ [])) 0 (view to none n)) count
        (subst (λ (es : List Entry). Progress es 0 (view to none (length ((taken ++ t) ++ (v ∷ []))))) (key_entries pre taken t v idle fin) p))
        (omega (arith, ap length split, length-append t (v ∷ to_come (fst_of s m) to)))

    -- after the end
    end_again : (n : ℕ) → ask (view [] none n) ≡ record { answer = end; reading = view [] none n }
    end_again n = by (next_come s m opens hi bl short space room [] tt)
      where
        nil_cut : (t : List Visit) (v : Visit) (more : List Visit) → ¬ (◌≡◌ {A = List Visit} [] (t ++ (v ∷ more)))
        nil_cut [] v more e = let z : ◌≡◌ {A = ℕ} 0 1 = cc in omega arith
        nil_cut (x ∷ t) v more e = let z : ◌≡◌ {A = ℕ} 0 1 = cc in omega arith

        by : Ways s m opens hi bl short space room [] → ask (view [] none n) ≡ record { answer = end; reading = view [] none n }
        by (at_end e go) = go n
        by (over_at t v more idle split ps len go) = absurd (nil_cut t v more split)
        by (handed_at t v to idle split sane np fin len go) = absurd (nil_cut t v (to_come (fst_of s m) to) split)

    pub ask_step : (handed : List Entry) (ends : ℕ) (r : View) → Progress handed ends r → Called handed ends r (ask r)
    ask_step handed ends r (fresh levels v sane w is) = by (passes_test hi []) refl
      where
        by : (b : Bool) → passes_test hi [] ≡ b → Called [] 0 (view levels (some v) 0) (ask (view levels (some v) 0))
        by true p = called_ends [] 0 _ _ _ (next_pending_off s m opens hi bl short space room levels v 0 sane p) (shut 0 v is p)
        by false p =
            called_hands [] _ _ (entry [] v) _ (next_pending_on s m opens hi bl short space room levels v 0 sane p)
            (going (entry [] v ∷ []) [] levels (empty_key v is p) sane w tt no_visit) (omega arith)
    ask_step handed ends r (going pre taken levels hpre sane w under last) =
        going_step pre taken levels hpre w under (next_come s m opens hi bl short space room levels sane)
    ask_step handed ends r (finished pre n hpre under) = called_ends _ _ _ _ _ (end_again (length W)) (finished pre (suc n) hpre under)
    ask_step handed ends r (beyond pre n taken v more hpre w under ps) = called_ends _ _ _ _ _ (end_again (suc (length taken))) (beyond pre (suc n) taken v more hpre w under ps)
    ask_step handed ends r (shut n v is p) = called_ends _ _ _ _ _ (end_again 0) (shut (suc n) v is p)

  -- ---- a call with the file or another, and any buffer

  pub file_same : (c : Call s) → Allowed c → c.file ≡ s
  file_same c h = ⊎_elim (λ (e : c.file ≡ s). e) (λ ne. absurd (ne h.same)) c.which

  pub progress_step : (c : Call s) → Allowed c → (handed : List Entry) (ends : ℕ) (r : View) → Progress handed ends r → Called handed ends r (call r c)
  progress_step c h handed ends r p =
      subst (λ (file : List ℕ). Called handed ends r (Rattle.reading.specs.Reading.next file r c.space)) (sym (file_same c h))
      (ask_step c.space h.room handed ends r p)

  -- a refused call changes nothing
  pub view_refused : (levels : List Level) (e : Option ℕ) (n : ℕ) → Sane (fst_of s m) levels → (c : Call s) → ¬ Allowed c
      → (k : Refusal) × (call (view levels e n) c ≡ refuse (view levels e n) k)
  view_refused levels e n sane c not_allowed =
      ⊎_elim
      (λ (same : c.file ≡ s).
      ⊎_elim
      (λ (lt : c.space < max_path). (
        Rattle.format.specs.Limits.SPACE,
        ap (λ (file : List ℕ). Rattle.reading.specs.Reading.next file (view levels e n) c.space) same
            ∙ next_short s m opens hi bl short levels e n sane c.space lt,
      ))
      (λ (ge : max_path ≤ c.space). absurd (not_allowed (record { same = ap length same; room = ge })))
      (lt_or c.space max_path))
      (λ ne. next_other s m opens hi bl short levels e n c.file ne c.space)
      c.which

  pub progress_refused : (c : Call s) → ¬ Allowed c → (handed : List Entry) (ends : ℕ) (r : View) → Progress handed ends r → (k : Refusal) × (call r c ≡ refuse r k)
  progress_refused c out handed ends r (fresh levels v sane w is) = view_refused levels (some v) 0 sane c out
  progress_refused c out handed ends r (going pre taken levels hpre sane w under last) = view_refused levels none (length taken) sane c out
  progress_refused c out handed ends r (finished pre n hpre under) = view_refused [] none (length W) tt c out
  progress_refused c out handed ends r (beyond pre n taken v more hpre w under ps) = view_refused [] none (suc (length taken)) tt c out
  progress_refused c out handed ends r (shut n v is p) = view_refused [] none 0 tt c out

  pub dec_allowed : (c : Call s) → (Allowed c) ⊎ (¬ Allowed c)
  dec_allowed c =
      ⊎_elim
      (λ (lt : c.space < max_path). inr (λ h. omega (arith, h.room)))
      (λ (ge : max_path ≤ c.space).
      ⊎_elim (λ (e : c.file ≡ s). inl (record { same = ap length e; room = ge })) (λ ne. inr (λ h. ne h.same)) c.which)
      (lt_or c.space max_path)

  -- ---- a list of calls

  pub record Ran (handed : List Entry) (ends : ℕ) (r : View) (cs : List (Call s)) : Type 0 where
    pub new : List Entry
    pub more : ℕ
    pub answered : unrefused (answers r cs) ≡ map hand_out new ++ replicate more end
    pub handing : handed_in (answers r cs) ≡ new
    pub after_end : 0 < ends → new ≡ []
    pub progress : Progress (handed ++ new) (ends + more) (reading_after r cs)

  ran_none : (handed : List Entry) (ends : ℕ) (r : View) → Progress handed ends r → Ran handed ends r []
  ran_none handed ends r p =
      let e : ends + 0 ≡ ends = omega arith in
      record {
        new = [];
        more = 0;
        answered = refl;
        handing = refl;
        after_end = λ _. refl;
        progress = rw (append-nil handed, e) p;
      }

  ran_refused : (handed : List Entry) (ends : ℕ) (r : View) (c : Call s) (cs : List (Call s)) (k : Refusal) → call r c ≡ refuse r k → Ran handed ends r cs → Ran handed ends r (c ∷ cs)
  ran_refused handed ends r c cs k is w =
      record {
        new = w.new;
        more = w.more;
        answered = ap (λ (o : Step). unrefused (o.answer ∷ answers o.reading cs)) is ∙ w.answered;
        handing = ap (λ (o : Step). handed_in (o.answer ∷ answers o.reading cs)) is ∙ w.handing;
        after_end = w.after_end;
        progress = subst (λ (o : Step). Progress (handed ++ w.new) (ends + w.more) (reading_after o.reading cs)) (sym is) w.progress;
      }

  ran_hands : (handed : List Entry) (ends : ℕ) (r : View) (c : Call s) (cs : List (Call s)) (e : Entry) → ends ≡ 0 → (call r c).answer ≡ hand_out e
      → Ran (handed ++ (e ∷ [])) 0 (call r c).reading cs → Ran handed ends r (c ∷ cs)
  ran_hands handed ends r c cs e z is w =
      record {
        new = e ∷ w.new;
        more = w.more;
        answered =
            ap (λ (a : Answer). unrefused_then a (unrefused (answers (call r c).reading cs))) is
            ∙ ap (λ (l : List Answer). hand_out e ∷ l) w.answered;
        handing =
            ap (λ (a : Answer). handed_then a (handed_in (answers (call r c).reading cs))) is
            ∙ ap (λ (l : List Entry). e ∷ l) w.handing;
        after_end = λ pos. absurd (omega arith);
        progress = rw z (subst (λ (l : List Entry). Progress l (0 + w.more) (reading_after (call r c).reading cs)) (append_assoc handed (e ∷ []) w.new) w.progress);
      }

  ran_ends : (handed : List Entry) (ends : ℕ) (r : View) (c : Call s) (cs : List (Call s)) → (call r c).answer ≡ end
      → Ran handed (suc ends) (call r c).reading cs → Ran handed ends r (c ∷ cs)
  ran_ends handed ends r c cs is w =
      let nothing : w.new ≡ [] = w.after_end (omega arith) in
      let e : suc ends + w.more ≡ ends + suc w.more = omega arith in
      record {
        new = [];
        more = suc w.more;
        answered =
            ap (λ (a : Answer). unrefused_then a (unrefused (answers (call r c).reading cs))) is
            ∙ ap (λ (l : List Answer). end ∷ l) (w.answered ∙ ap (λ (l : List Entry). map hand_out l ++ replicate w.more end) nothing);
        handing =
            ap (λ (a : Answer). handed_then a (handed_in (answers (call r c).reading cs))) is ∙ w.handing ∙ nothing;
        after_end = λ _. refl;
        progress = rw (← e) (subst (λ (l : List Entry). Progress (handed ++ l) (suc ends + w.more) (reading_after (call r c).reading cs)) nothing w.progress);
      }

  pub progress_run : (cs : List (Call s)) (handed : List Entry) (ends : ℕ) (r : View) → Progress handed ends r → Ran handed ends r cs
  progress_run [] handed ends r p = ran_none handed ends r p
  progress_run (c ∷ cs) handed ends r p =
      ⊎_elim
      (λ (h : Allowed c). by (progress_step c h handed ends r p) (λ handed ends r p. progress_run cs handed ends r p))
      (λ (out : ¬ Allowed c). let w = progress_refused c out handed ends r p in ran_refused handed ends r c cs w.0 w.1 (progress_run cs handed ends r p))
      (dec_allowed c)
    where
      by : Called handed ends r (call r c) → ((handed : List Entry) (ends : ℕ) (r : View) → Progress handed ends r → Ran handed ends r cs) → Ran handed ends r (c ∷ cs)
      by (hands e z is q less) ih = ran_hands handed ends r c cs e z is (ih (handed ++ (e ∷ [])) 0 (call r c).reading q)
      by (ended is q) ih = ran_ends handed ends r c cs is (ih handed (suc ends) (call r c).reading q)
