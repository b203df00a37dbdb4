-- Demand 3 by pattern with marks (MarksByDemand), proved, in the way of marking `MarksLaws`.
--     state_at             after any list of calls the reading's own state is within its limits
--     KeptBy               what holds after each operation: reading and marks are those of the history, and within their limits
--     next_as, mark_as, back_as     what each call answers where that holds
--     marked_run_by        the claim
-- Assumes nothing.
use Rattle.std.specs.Prelude.{◌≡◌, Bool, ◌&&◌, List, [], ◌∷◌, ◌++◌, map, ℕ, ◌≤◌, leb, eqb, length}
use Rattle.std.proofs.Math.Path.{refl}
use Rattle.std.proofs.Common.{sym, ◌∙◌, ap, subst, ⊎_elim, inl, le-leb, eq-eqb, ne_eqb, eqb-true}
use Rattle.std.proofs.Math.Bool.{true, false, cond}
use Rattle.std.proofs.Math.Option.{Option, none, some}
use Rattle.std.proofs.lemmas.Bool.{and_parts, and_from}
use Rattle.format.specs.declared.Refusal.{Refusal}
use native.Mathlib.Omega.{arith}
use Rattle.format.specs.Limits.{max_path, max_levels, STATE, NAME, FULL}
use Rattle.format.specs.Opening.{Meta, Opening, opened, opening}
use Rattle.format.specs.Admitted.{Admitted}
use Rattle.format.specs.Strings.{Bound}
use Rattle.reading.specs.Reading.{bound_bytes, View, Started, started, Answer, Step, refuse, state_test}
use Rattle.reading.specs.Demand.{Call, Allowed}
use Rattle.plain.specs.Plain.{Plain}
use Rattle.pattern.specs.Pattern.{Pattern, next_by}
use Rattle.pattern.specs.PatternDemand.{call_by, reading_after_by, DemandBy}
use Rattle.pattern.proofs.DemandByLaws.{demand_3_by}
use Rattle.marking.specs.MarkCalls.{name_test, marked, put, room_for, Mark, each_right, marks_test, Marking, has_marks, Return, at, found}
use Rattle.marking.specs.MarksDemand.{Given, Did, reads, marks, returns, marks_after, History, history_is, takes, or_else, recorded, recorded_all, history_of, MarkTold, Replaced}
use Rattle.marking.proofs.NamedLaws.{put_this, put_other, put_in_place, put_added, put_few, put_right, same_not, on_some, marked_map, put_map, room_map}
use Rattle.marks.specs.MarkAnswers.{set_in, back_in}
use Rattle.marks_by.specs.MarksBy.{pattern_test, mark_by, back_by, next_marked_by}
use Rattle.marking_by.specs.MarksByDemand.{NowBy, now_by_is, view_at, stored, stored_now, next_now_by, mark_now_by, back_now_by, one_more_by, now_after_by, now_from_by, as_mark_by, BackToldBy, MarkedRunBy}

-- ---- lists

reading_snoc : {s : List ℕ} (q : Pattern) (r : View) (cs : List (Call s)) (c : Call s)
    → reading_after_by q r (cs ++ (c ∷ [])) ≡ (call_by q (reading_after_by q r cs) c).reading
reading_snoc q r [] c = refl
reading_snoc q r (b ∷ cs) c = reading_snoc q (call_by q r b).reading cs c

now_snoc : {s : List ℕ} (q : Pattern) (w : NowBy) (ds : List (Did s)) (d : Did s) → now_after_by q w (ds ++ (d ∷ [])) ≡ one_more_by q (now_after_by q w ds) d
now_snoc q w [] d = refl
now_snoc q w (b ∷ ds) d = now_snoc q (one_more_by q w b) ds d

-- ---- the calls, where all is right, and with a file of another length

both_false : (a b : Bool) → (a && (b && false)) ≡ false
both_false true true = refl
both_false true false = refl
both_false false b = refl

state_other : (r : View) (len other : ℕ) → state_test r len ≡ true → ¬ (other ≡ len) → state_test r other ≡ false
state_other r len other right ne =
    let same : r.len ≡ len =
    eqb-true r.len len
    (and_parts (leb r.bound_len max_path) (eqb r.len len) (and_parts (leb (length r.levels) max_levels) (leb r.bound_len max_path && eqb r.len len) right).1).1 in
    rw (ne_eqb r.len other (λ q. ne (sym q ∙ same))) (both_false (leb (length r.levels) max_levels) (leb r.bound_len max_path))

module _ (q : Pattern) (s : List ℕ) (v : View) (ms : List Mark) where
  module _ (m : Meta) (opens : opening s ≡ opened m) (state : state_test v (length s) ≡ true) (right : marks_test (length s) ms ≡ true)
      (few : pattern_test q ≡ true) where
    next_right : (space : ℕ) → next_marked_by s q v ms space ≡ next_by s q v space
    unfolding next_marked_by
    next_right space = rw (opens, right)

    mark_right : (n : List ℕ) → mark_by s q v ms n ≡ set_in (stored v) ms n
    unfolding mark_by
    mark_right n = rw (opens, state, right, few)

    back_right : (n : List ℕ) → back_by s q (stored v) ms n ≡ back_in ms n
    unfolding back_by
    back_right n = rw (opens, state, right, few)

  module _ (wrong : state_test v (length s) ≡ false) where
    next_wrong : (space : ℕ) → next_marked_by s q v ms space ≡ next_by s q v space
    unfolding next_marked_by next_by
    next_wrong space = by (opening s) refl
      where
        by_marks : (t : Bool) → cond t (refuse v STATE) (refuse v STATE) ≡ refuse v STATE
        by_marks true = refl
        by_marks false = refl

        by : (o : Opening) → opening s ≡ o → next_marked_by s q v ms space ≡ next_by s q v space
        by (opened m) e = rw (e, wrong) (by_marks (marks_test (length s) ms))
        by (Opening.refused c) e = rw e

    mark_wrong : (n : List ℕ) → (c : Refusal) × (mark_by s q v ms n ≡ Marking.refused c)
    unfolding mark_by
    mark_wrong n = by (opening s) refl
      where
        by : (o : Opening) → opening s ≡ o → (c : Refusal) × (mark_by s q v ms n ≡ Marking.refused c)
        by (opened m) e = (STATE, rw (e, wrong))
        by (Opening.refused c) e = (c, rw e)

    back_wrong : (n : List ℕ) → (c : Refusal) × (back_by s q (stored v) ms n ≡ Return.refused c)
    unfolding back_by
    back_wrong n = by (opening s) refl
      where
        by : (o : Opening) → opening s ≡ o → (c : Refusal) × (back_by s q (stored v) ms n ≡ Return.refused c)
        by (opened m) e = (STATE, rw (e, wrong))
        by (Opening.refused c) e = (c, rw e)

next_state : (q : Pattern) (s : List ℕ) (m : Meta) (r : View) → opening s ≡ opened m → state_test r (length s) ≡ false → next_by s q r max_path ≡ refuse r STATE
unfolding next_by
next_state q s m r opens e = rw (opens, e)

started_same : {b : Started} {r r' : View} → b ≡ started r → b ≡ started r' → r ≡ r'
started_same is also = cc

-- ---- operations

module _ {s : List ℕ} (A : Admitted s) (lo hi : Bound) (short_lo : length (bound_bytes lo) ≤ max_path) (short_hi : length (bound_bytes hi) ≤ max_path) (q : Pattern)
    (short : length q.positions ≤ max_path) where
  pub demand : (cs : List (Call s)) → DemandBy A q lo hi cs
  demand cs = demand_3_by A lo hi short_lo short_hi q short cs

  abbrev pub r₀ : View
  r₀ = (demand []).reading

  pub demand_first : (cs : List (Call s)) → (demand cs).reading ≡ r₀
  demand_first cs = started_same (demand cs).starts (demand []).starts

  few_positions : pattern_test q ≡ true
  few_positions = le-leb (length q.positions) max_path short

  abbrev RefusedExactly : View → Call s → Type 0
  RefusedExactly r c = (Allowed c → (n : Refusal) → ¬ ((call_by q r c).answer ≡ Answer.refused n)) × (¬ Allowed c → (n : Refusal) × (call_by q r c ≡ refuse r n))

  refused_at : (cs : List (Call s)) (c : Call s) → RefusedExactly (reading_after_by q r₀ cs) c
  refused_at cs c =
      let more = cs ++ (c ∷ []) in
      subst (λ (r : View). RefusedExactly (reading_after_by q r cs) c) (demand_first more) ((demand more).refused_exactly cs [] c refl)

  -- a reading out of its limits would refuse the file itself
  state_at : (cs : List (Call s)) → state_test (reading_after_by q r₀ cs) (length s) ≡ true
  state_at cs = by (state_test (reading_after_by q r₀ cs) (length s)) refl
    where
      whole : Call s
      whole = record { file = s; space = max_path; which = inl refl }

      allowed : Allowed whole
      allowed = record { same = refl; room = omega arith }

      by : (b : Bool) → state_test (reading_after_by q r₀ cs) (length s) ≡ b → b ≡ true
      by true e = refl
      by false e =
          absurd ((refused_at cs whole).0 allowed STATE (ap (λ (o : Step). o.answer) (next_state q s A.meta (reading_after_by q r₀ cs) A.opens e)))

  -- what a mark of the calls cs holds
  abbrev stored_at : List (Call s) → Plain
  stored_at cs = stored (reading_after_by q r₀ cs)

  pub record KeptBy (w : NowBy) (h : History s) : Type 0 where
    pub reading_is : w.reading ≡ reading_after_by q r₀ h.calls
    pub marks_are : w.marks ≡ map (as_mark_by q r₀) h.noted
    pub right : each_right (length s) w.marks ≡ true
    pub few : length w.marks ≤ 16

  module _ (w : NowBy) (h : History s) (k : KeptBy w h) where
    state : state_test w.reading (length s) ≡ true
    state = subst (λ (v : View). state_test v (length s) ≡ true) (sym k.reading_is) (state_at h.calls)

    marks_right : marks_test (length s) w.marks ≡ true
    marks_right = and_from (leb (length w.marks) 16) (each_right (length s) w.marks) (le-leb (length w.marks) 16 k.few) k.right

    wrong : (other : List ℕ) → ¬ (length other ≡ length s) → state_test w.reading (length other) ≡ false
    wrong other ne = state_other w.reading (length s) (length other) state ne

    room_same : (n : List ℕ) → room_for n w.marks ≡ room_for n h.noted
    room_same n = ap (λ (ms : List Mark). room_for n ms) k.marks_are ∙ room_map stored_at n h.noted

    pub next_as : (c : Call s) → next_now_by q w c ≡ call_by q w.reading c
    next_as c =
        ⊎_elim
        (λ (same : c.file ≡ s).
        subst (λ (file : List ℕ). next_marked_by file q w.reading w.marks c.space ≡ next_by file q w.reading c.space) (sym same)
        (next_right q s w.reading w.marks A.meta A.opens state marks_right few_positions c.space))
        (λ ne. next_wrong q c.file w.reading w.marks (wrong c.file ne) c.space)
        c.which

    mark_as : (g : Given s) (n : List ℕ) → MarkTold h g n (stored_now w) (mark_now_by q w g n)
    mark_as g n =
        ⊎_elim
        (λ (same : g.file ≡ s).
        subst (λ (m : Marking). MarkTold h g n (stored_now w) m)
        (sym (ap (λ (file : List ℕ). mark_by file q w.reading w.marks n) same
        ∙ mark_right q s w.reading w.marks A.meta A.opens state marks_right few_positions n
        ∙ ap (λ (t : Bool). ways (name_test n) t) (room_same n)))
        (by (ap length same) (name_test n) refl (room_for n h.noted) refl))
        (λ ne.
        let z = mark_wrong q g.file w.reading w.marks (wrong g.file ne) n in
        subst (λ (m : Marking). MarkTold h g n (stored_now w) m) (sym z.1) (MarkTold.other_file ne z.0))
        g.which
      where
        ways : Bool → Bool → Marking
        ways a b = cond a (cond b (has_marks (put n (stored w.reading) w.marks)) (Marking.refused FULL)) (Marking.refused NAME)

        by : length g.file ≡ length s → (a : Bool) → name_test n ≡ a → (b : Bool) → room_for n h.noted ≡ b → MarkTold h g n (stored_now w) (ways a b)
        by same true p true e = MarkTold.taken same p e
        by same true p false e = MarkTold.full same p e
        by same false p b e = MarkTold.no_name same p

    back_as : (g : Given s) (n : List ℕ) → BackToldBy q r₀ h g n (back_now_by q w g n)
    back_as g n =
        ⊎_elim
        (λ (same : g.file ≡ s).
        subst (λ (m : Return). BackToldBy q r₀ h g n m)
        (sym (ap (λ (file : List ℕ). back_by file q (stored w.reading) w.marks n) same
        ∙ back_right q s w.reading w.marks A.meta A.opens state marks_right few_positions n
        ∙ ap (λ (o : Option Plain). ways (name_test n) o) (ap (λ (ms : List Mark). marked n ms) k.marks_are ∙ marked_map stored_at n h.noted)))
        (by (ap length same) (name_test n) refl (marked n h.noted) refl))
        (λ ne.
        let z = back_wrong q g.file w.reading w.marks (wrong g.file ne) n in
        subst (λ (m : Return). BackToldBy q r₀ h g n m) (sym z.1) (BackToldBy.other_file ne z.0))
        g.which
      where
        ways : Bool → Option Plain → Return
        ways a o = cond a (found o) (Return.refused NAME)

        by : length g.file ≡ length s → (a : Bool) → name_test n ≡ a → (o : Option (List (Call s))) → marked n h.noted ≡ o
            → BackToldBy q r₀ h g n (ways a (on_some stored_at o))
        by same true p (some cs) e = BackToldBy.returned same p cs e
        by same true p none e = BackToldBy.not_marked same p e
        by same false p o e = BackToldBy.no_name same p

    -- ---- one operation more

    kept_next : (c : Call s) → KeptBy (one_more_by q w (reads c)) (recorded h (reads c))
    kept_next c =
        record {
          reading_is = ap (λ (o : Step). o.reading) (next_as c) ∙ ap (λ (r : View). (call_by q r c).reading) k.reading_is ∙ sym (reading_snoc q r₀ h.calls c);
          marks_are = k.marks_are;
          right = k.right;
          few = k.few;
        }

    module _ (g : Given s) (n : List ℕ) where
      abbrev Noting : Bool → Marking → Type 0
      Noting t m = KeptBy (now_by_is w.reading (marks_after w.marks m)) (history_is h.calls (cond t (put n h.calls h.noted) h.noted))

      same_kept : KeptBy (now_by_is w.reading w.marks) (history_is h.calls h.noted)
      same_kept = record { reading_is = k.reading_is; marks_are = k.marks_are; right = k.right; few = k.few }

      kept_told : (m : Marking) → MarkTold h g n (stored_now w) m → Noting (takes h g n) m
      kept_told m (MarkTold.taken same name room) =
          let t : takes h g n ≡ true =
          and_from (eqb (length g.file) (length s)) _ (eq-eqb (length g.file) (length s) same) (and_from (name_test n) (room_for n h.noted) name room) in
          subst (λ (t : Bool). Noting t (has_marks (put n (stored w.reading) w.marks))) (sym t)
          (record {
            reading_is = k.reading_is;
            marks_are =
                ap (λ (v : View). put n (stored v) w.marks) k.reading_is
                ∙ ap (λ (ms : List Mark). put n (stored_at h.calls) ms) k.marks_are
                ∙ put_map stored_at n h.calls h.noted;
            right = put_right (length s) n (stored w.reading) name state w.marks k.right;
            few = put_few n (stored w.reading) w.marks k.few (room_same n ∙ room);
          })
      kept_told m (MarkTold.other_file ne c) =
          let t : takes h g n ≡ false = rw (ne_eqb (length g.file) (length s) ne) in
          subst (λ (t : Bool). Noting t (Marking.refused c)) (sym t) same_kept
      kept_told m (MarkTold.no_name same name) =
          let t : takes h g n ≡ false = rw (eq-eqb (length g.file) (length s) same, name) in
          subst (λ (t : Bool). Noting t (Marking.refused NAME)) (sym t) same_kept
      kept_told m (MarkTold.full same name room) =
          let t : takes h g n ≡ false = rw (eq-eqb (length g.file) (length s) same, name, room) in
          subst (λ (t : Bool). Noting t (Marking.refused FULL)) (sym t) same_kept

      abbrev Going : Bool → Option (List (Call s)) → Return → Type 0
      Going t o m = KeptBy (now_by_is (view_at w.reading m) w.marks) (history_is (cond t (or_else h.calls o) h.calls) h.noted)

      abbrev asked : Bool
      asked = eqb (length g.file) (length s) && name_test n

      asked_true : length g.file ≡ length s → name_test n ≡ true → asked ≡ true
      asked_true same name = and_from (eqb (length g.file) (length s)) (name_test n) (eq-eqb (length g.file) (length s) same) name

      kept_back : (m : Return) → BackToldBy q r₀ h g n m → Going asked (marked n h.noted) m
      kept_back m (BackToldBy.returned same name cs is) =
          subst (λ (t : Bool). Going t (marked n h.noted) (at (stored_at cs))) (sym (asked_true same name))
          (subst (λ (o : Option (List (Call s))). Going true o (at (stored_at cs))) (sym is)
          (record { reading_is = refl; marks_are = k.marks_are; right = k.right; few = k.few }))
      kept_back m (BackToldBy.not_marked same name is) =
          subst (λ (t : Bool). Going t (marked n h.noted) (Return.refused NAME)) (sym (asked_true same name))
          (subst (λ (o : Option (List (Call s))). Going true o (Return.refused NAME)) (sym is) same_kept)
      kept_back m (BackToldBy.other_file ne c) =
          let t : asked ≡ false = rw (ne_eqb (length g.file) (length s) ne) in
          subst (λ (t : Bool). Going t (marked n h.noted) (Return.refused c)) (sym t) same_kept
      kept_back m (BackToldBy.no_name same name) =
          let t : asked ≡ false = rw (eq-eqb (length g.file) (length s) same, name) in
          subst (λ (t : Bool). Going t (marked n h.noted) (Return.refused NAME)) (sym t) same_kept

    pub kept_one : (d : Did s) → KeptBy (one_more_by q w d) (recorded h d)
    kept_one (reads c) = kept_next c
    kept_one (marks g n) = kept_told g n (mark_now_by q w g n) (mark_as g n)
    kept_one (returns g n) = kept_back g n (back_now_by q w g n) (back_as g n)

  kept_all : (ds : List (Did s)) (w : NowBy) (h : History s) → KeptBy w h → KeptBy (now_after_by q w ds) (recorded_all h ds)
  kept_all [] w h k = k
  kept_all (d ∷ ds) w h k = kept_all ds (one_more_by q w d) (recorded h d) (kept_one w h k d)

  -- ---- the whole list

  abbrev pub after : List (Call s) → List (Did s) → NowBy
  after cs ds = now_from_by q r₀ cs ds

  pub kept : (cs : List (Call s)) (ds : List (Did s)) → KeptBy (after cs ds) (history_of cs ds)
  unfolding each_right
  kept cs ds = kept_all ds (now_by_is (reading_after_by q r₀ cs) []) (history_is cs []) (record { reading_is = refl; marks_are = refl; right = refl; few = omega arith })

  next_at : (cs : List (Call s)) (ds : List (Did s)) (c : Call s) → next_now_by q (after cs ds) c ≡ call_by q (reading_after_by q r₀ (history_of cs ds).calls) c
  next_at cs ds c = next_as (after cs ds) (history_of cs ds) (kept cs ds) c ∙ ap (λ (r : View). call_by q r c) (kept cs ds).reading_is

  replaced_at : {h : History s} {g : Given s} {n : List ℕ} {w : NowBy} (m : Marking) → MarkTold h g n (stored_now w) m → (ms : List Mark) → m ≡ has_marks ms
      → Replaced n (stored w.reading) w.marks ms
  replaced_at {h} {g} {n} {w} m (MarkTold.taken same name room) ms is =
      let e : put n (stored w.reading) w.marks ≡ ms = cc in
      subst (λ (l : List Mark). Replaced n (stored w.reading) w.marks l) e
      (record {
        this = put_this n (stored w.reading) w.marks;
        others = λ k ne. put_other n k (stored w.reading) w.marks (same_not n k (λ z. ne (sym z)));
        in_place = put_in_place n (stored w.reading) w.marks;
        added = put_added n (stored w.reading) w.marks;
      })
  replaced_at m (MarkTold.other_file ne c) ms is = let z : ◌≡◌ {A = ℕ} 0 1 = cc in absurd (omega arith)
  replaced_at m (MarkTold.no_name same name) ms is = let z : ◌≡◌ {A = ℕ} 0 1 = cc in absurd (omega arith)
  replaced_at m (MarkTold.full same name room) ms is = let z : ◌≡◌ {A = ℕ} 0 1 = cc in absurd (omega arith)

  pub marked_run_by : (cs : List (Call s)) (ds : List (Did s)) → MarkedRunBy A q lo hi cs ds
  marked_run_by cs ds =
      record {
        first = r₀;
        starts = (demand []).starts;
        reading_is = (kept cs ds).reading_is;
        marks_are = (kept cs ds).marks_are;
        demand = demand (history_of cs ds).calls;
        demand_first = demand_first (history_of cs ds).calls;
        nexts = λ ds₁ ds₂ c is. next_at cs ds₁ c;
        next_refused = λ ds₁ ds₂ c is.
            subst (λ (o : Step). (Allowed c → (n : Refusal) → ¬ (o.answer ≡ Answer.refused n)) × (¬ Allowed c → (n : Refusal) × (o ≡ refuse (after cs ds₁).reading n)))
            (sym (next_as (after cs ds₁) (history_of cs ds₁) (kept cs ds₁) c))
            (subst (λ (r : View). RefusedExactly r c) (sym (kept cs ds₁).reading_is) (refused_at (history_of cs ds₁).calls c));
        mark_told = λ ds₁ ds₂ g n is. mark_as (after cs ds₁) (history_of cs ds₁) (kept cs ds₁) g n;
        back_told = λ ds₁ ds₂ g n is. back_as (after cs ds₁) (history_of cs ds₁) (kept cs ds₁) g n;
        survive = λ ds₁ ds₂ g n is. ap (λ (w : NowBy). w.marks) (now_snoc q (now_by_is (reading_after_by q r₀ cs) []) ds₁ (returns g n));
        next_keeps = λ ds₁ ds₂ c is. ap (λ (w : NowBy). w.marks) (now_snoc q (now_by_is (reading_after_by q r₀ cs) []) ds₁ (reads c));
        replaced = λ ds₁ ds₂ g n is ms e. replaced_at (mark_now_by q (after cs ds₁) g n) (mark_as (after cs ds₁) (history_of cs ds₁) (kept cs ds₁) g n) ms e;
        mark_keeps = λ ds₁ ds₂ g n is. ap (λ (w : NowBy). w.reading) (now_snoc q (now_by_is (reading_after_by q r₀ cs) []) ds₁ (marks g n));
      }
