-- Demand 3 with marks (MarksDemand), proved.
--     state_at             after any list of calls the reading's own state is within its limits
--     Kept                 what holds after each operation: reading and marks are those of the history, and within their limits
--     next_as, mark_as, back_as     what each call answers where that holds
--     marked_run           the claim
-- Readings are only stored and taken back, so each operation is one case; the limit is that of demand 3 for the calls in force.
-- Assumes nothing.
use Rattle.std.specs.Prelude.{◌≡◌, Bool, ◌&&◌, ◌⊎◌, List, [], ◌∷◌, ◌++◌, map, ℕ, ◌≤◌, leb, eqb, length}
use Rattle.std.proofs.Math.Path.{refl}
use Rattle.std.proofs.Common.{sym, ◌∙◌, ap, subst, ⊎_elim, inl, le-leb, eq-eqb, ne_eqb, eqb-true}
use Rattle.std.proofs.Math.Bool.{true, false, cond}
use Rattle.std.proofs.Math.Option.{Option, none, some}
use Rattle.std.proofs.lemmas.Bool.{and_parts, and_from}
use Rattle.format.specs.declared.Refusal.{Refusal}
use native.Mathlib.Omega.{arith}
use Rattle.format.specs.Limits.{max_path, max_levels, STATE, NAME, FULL}
use Rattle.format.specs.Opening.{Meta, Opening, opened, opening}
use Rattle.format.specs.Opening as Opening
use Rattle.format.specs.Paths.{fst_of, Held}
use Rattle.format.specs.Admitted.{Admitted}
use Rattle.format.specs.Strings.{Bound, NumberOf}
use Rattle.reading.specs.Reading.{bound_bytes, View, Answer, Step, refuse, state_test, next}
use Rattle.reading.specs.Demand.{Call, Allowed, call, reading_after, followed, handed_in}
use Rattle.reading.proofs.DemandLaws.{reading₀}
use Rattle.plain.specs.Numbers.{TableFits}
use Rattle.plain.specs.Plain.{Plain, plain_with, Begun, begun, start_plain, PlainStep, counted_step, next_plain, call_plain, plain_after, answers_plain}
use Rattle.plain.specs.PlainDemand.{keys_out, StillToCome, DemandPlain}
use Rattle.plain.proofs.PlainLaws.{right, start_numbered, demand_3_plain}
use Rattle.marking.specs.MarkCalls.{name_test, marked, put, room_for, Mark, each_right, marks_test, Marking, has_marks, mark, Return, at, found, back, refuse_with, next_marked}
use Rattle.marking.specs.MarksDemand.{Given, Did, reads, marks, returns, Now, now_is, marks_after, reading_at, next_now, mark_now, back_now, one_more, now_after, now_from, History, history_is, takes, or_else, recorded, recorded_all, history_of, as_mark, MarkTold, BackTold, returned, not_marked, Replaced, MarkedRun}
use Rattle.marking.proofs.NamedLaws.{put_this, put_other, put_in_place, put_added, put_few, put_right, same_not, on_some, marked_map, put_map, room_map}

-- ---- lists

reading_snoc : {s : List ℕ} (r : Plain) (cs : List (Call s)) (c : Call s) → plain_after r (cs ++ (c ∷ [])) ≡ (call_plain (plain_after r cs) c).reading
reading_snoc r [] c = refl
reading_snoc r (b ∷ cs) c = reading_snoc (call_plain r b).reading cs c

now_snoc : {s : List ℕ} (w : Now) (ds : List (Did s)) (d : Did s) → now_after w (ds ++ (d ∷ [])) ≡ one_more (now_after w ds) d
now_snoc w [] d = refl
now_snoc w (b ∷ ds) d = now_snoc (one_more w b) ds d

-- ---- the calls, where all is right, and with a file of another length

both_false : (a b : Bool) → (a && (b && false)) ≡ false
both_false true true = refl
both_false true false = refl
both_false false b = refl

module _ (s : List ℕ) (r : Plain) (ms : List Mark) where
  module _ (m : Meta) (opens : opening s ≡ opened m) (state : state_test r.view (length s) ≡ true) (right : marks_test (length s) ms ≡ true) where
    next_right : (space : ℕ) → next_marked s r ms space ≡ next_plain s r space
    unfolding next_marked
    next_right space = rw (opens, right)

    mark_right : (n : List ℕ) → mark s r ms n ≡ cond (name_test n) (cond (room_for n ms) (has_marks (put n r ms)) (Marking.refused FULL)) (Marking.refused NAME)
    unfolding mark
    mark_right n = rw (opens, state, right)

    back_right : (n : List ℕ) → back s r ms n ≡ cond (name_test n) (found (marked n ms)) (Return.refused NAME)
    unfolding back
    back_right n = rw (opens, state, right)

  module _ (wrong : state_test r.view (length s) ≡ false) where
    next_wrong : (space : ℕ) → next_marked s r ms space ≡ next_plain s r space
    unfolding next_marked next
    next_wrong space = by (opening s) refl
      where
        by_marks : (t : Bool) → cond t (refuse_with r STATE) (refuse_with r STATE) ≡ refuse_with r STATE
        by_marks true = refl
        by_marks false = refl

        by : (o : Opening) → opening s ≡ o → next_marked s r ms space ≡ next_plain s r space
        by (opened m) q = rw (q, wrong) (by_marks (marks_test (length s) ms))
        by (Opening.refused c) q = rw q

    mark_wrong : (n : List ℕ) → (c : Refusal) × (mark s r ms n ≡ Marking.refused c)
    unfolding mark
    mark_wrong n = by (opening s) refl
      where
        by : (o : Opening) → opening s ≡ o → (c : Refusal) × (mark s r ms n ≡ Marking.refused c)
        by (opened m) q = (STATE, rw (q, wrong))
        by (Opening.refused c) q = (c, rw q)

    back_wrong : (n : List ℕ) → (c : Refusal) × (back s r ms n ≡ Return.refused c)
    unfolding back
    back_wrong n = by (opening s) refl
      where
        by : (o : Opening) → opening s ≡ o → (c : Refusal) × (back s r ms n ≡ Return.refused c)
        by (opened m) q = (STATE, rw (q, wrong))
        by (Opening.refused c) q = (c, rw q)

state_other : (r : View) (len other : ℕ) → state_test r len ≡ true → ¬ (other ≡ len) → state_test r other ≡ false
state_other r len other right ne =
    let same : r.len ≡ len =
    eqb-true r.len len
    (and_parts (leb r.bound_len max_path) (eqb r.len len) (and_parts (leb (length r.levels) max_levels) (leb r.bound_len max_path && eqb r.len len) right).1).1 in
    rw (ne_eqb r.len other (λ q. ne (sym q ∙ same))) (both_false (leb (length r.levels) max_levels) (leb r.bound_len max_path))

next_state : (s : List ℕ) (m : Meta) (r : Plain) → opening s ≡ opened m → state_test r.view (length s) ≡ false → next_plain s r max_path ≡ refuse_with r STATE
unfolding next
next_state s m r opens e = rw (opens, e)

-- a refused call of the reading without the number is one of the plain reading
refused_plain : (p : Plain) (o : Step) (n : Refusal) → o ≡ refuse p.view n → counted_step p o ≡ refuse_with p n
refused_plain p o n e = ap (counted_step p) e

-- ---- operations

module _ {s : List ℕ} (A : Admitted s) (lo hi : Bound) (short_lo : length (bound_bytes lo) ≤ max_path) (short_hi : length (bound_bytes hi) ≤ max_path) (t : List ℕ)
    (long : length s ≤ length t) (fits : TableFits (fst_of s A.meta) lo hi t) where
  abbrev pub r₀ : Plain
  r₀ = plain_with (reading₀ A lo hi short_lo short_hi) (right A lo hi short_lo short_hi t long fits).keys

  pub demand : (cs : List (Call s)) → DemandPlain A lo hi t cs
  demand cs = demand_3_plain A lo hi short_lo short_hi t long fits cs

  pub demand_first : (cs : List (Call s)) → (demand cs).reading ≡ r₀
  demand_first cs =
      let a : start_plain s lo hi t ≡ begun (demand cs).reading = (demand cs).starts in
      let b : start_plain s lo hi t ≡ begun r₀ = start_numbered A lo hi short_lo short_hi t long fits in
      cc

  -- the reading without the number, after the calls
  view_at_lem : (cs ds : List (Call s)) → reading_after (demand ds).demand.reading cs ≡ (plain_after r₀ cs).view
  view_at_lem cs ds =
      let same : (demand ds).demand.reading ≡ (demand cs).demand.reading =
      sym (demand ds).same_reading ∙ ap (λ (p : Plain). p.view) (demand_first ds ∙ sym (demand_first cs)) ∙ (demand cs).same_reading in
      ap (λ (v : View). reading_after v cs) same ∙ sym (demand cs).same_readings ∙ ap (λ (p : Plain). (plain_after p cs).view) (demand_first cs)

  limit_at : (cs : List (Call s)) (c : Call s) (n : ℕ) → ((k : List ℕ) (v : ℕ) → Held (fst_of s A.meta) k v → length k ≤ n)
      → followed (plain_after r₀ cs).view c ≤ n
  limit_at cs c n longest =
      subst (λ (v : View). followed v c ≤ n) (view_at_lem cs (cs ++ (c ∷ []))) ((demand (cs ++ (c ∷ []))).demand.limit cs [] c refl n longest)

  abbrev RefusedExactly : Plain → Call s → Type 0
  RefusedExactly r c = (Allowed c → (n : Refusal) → ¬ ((call_plain r c).answer ≡ Answer.refused n)) × (¬ Allowed c → (n : Refusal) × (call_plain r c ≡ refuse_with r n))

  answer_at : (cs : List (Call s)) (c : Call s) → (call_plain (plain_after r₀ cs) c).answer ≡ (call (reading_after (demand cs).demand.reading cs) c).answer
  answer_at cs c = ap (λ (p : Plain). (call_plain (plain_after p cs) c).answer) (sym (demand_first cs)) ∙ (demand cs).same_call c

  refused_at : (cs : List (Call s)) (c : Call s) → RefusedExactly (plain_after r₀ cs) c
  refused_at cs c =
      let more = cs ++ (c ∷ []) in
      let exactly = (demand more).demand.refused_exactly cs [] c refl in
      let view : reading_after (demand more).demand.reading cs ≡ (plain_after r₀ cs).view = view_at_lem cs more in
      let same : reading_after (demand cs).demand.reading cs ≡ reading_after (demand more).demand.reading cs = view_at_lem cs cs ∙ sym view in (
        λ a n e. exactly.0 a n (ap (λ (v : View). (call v c).answer) (sym same) ∙ sym (answer_at cs c) ∙ e),
        λ no.
            let q = exactly.1 no in
            (q.0, refused_plain (plain_after r₀ cs) (call (plain_after r₀ cs).view c) q.0 (subst (λ (v : View). call v c ≡ refuse v q.0) view q.1)),
      )

  -- a reading out of its limits would refuse the file itself
  state_at : (cs : List (Call s)) → state_test (plain_after r₀ cs).view (length s) ≡ true
  state_at cs = by (state_test (plain_after r₀ cs).view (length s)) refl
    where
      whole : Call s
      whole = record { file = s; space = max_path; which = inl refl }

      allowed : Allowed whole
      allowed = record { same = refl; room = omega arith }

      by : (b : Bool) → state_test (plain_after r₀ cs).view (length s) ≡ b → b ≡ true
      by true e = refl
      by false e =
          absurd ((refused_at cs whole).0 allowed STATE (ap (λ (o : PlainStep). o.answer) (next_state s A.meta (plain_after r₀ cs) A.opens e)))

  pub record Kept (w : Now) (h : History s) : Type 0 where
    pub reading_is : w.reading ≡ plain_after r₀ h.calls
    pub marks_are : w.marks ≡ map (as_mark r₀) h.noted
    pub right : each_right (length s) w.marks ≡ true
    pub few : length w.marks ≤ 16

  module _ (w : Now) (h : History s) (k : Kept w h) where
    state : state_test w.reading.view (length s) ≡ true
    state = subst (λ (v : Plain). state_test v.view (length s) ≡ true) (sym k.reading_is) (state_at h.calls)

    marks_right : marks_test (length s) w.marks ≡ true
    marks_right = and_from (leb (length w.marks) 16) (each_right (length s) w.marks) (le-leb (length w.marks) 16 k.few) k.right

    wrong : (other : List ℕ) → ¬ (length other ≡ length s) → state_test w.reading.view (length other) ≡ false
    wrong other ne = state_other w.reading.view (length s) (length other) state ne

    room_same : (n : List ℕ) → room_for n w.marks ≡ room_for n h.noted
    room_same n = ap (λ (ms : List Mark). room_for n ms) k.marks_are ∙ room_map (plain_after r₀) n h.noted

    pub next_as : (c : Call s) → next_now w c ≡ call_plain w.reading c
    next_as c =
        ⊎_elim
        (λ (same : c.file ≡ s).
        subst (λ (file : List ℕ). next_marked file w.reading w.marks c.space ≡ next_plain file w.reading c.space) (sym same)
        (next_right s w.reading w.marks A.meta A.opens state marks_right c.space))
        (λ ne. next_wrong c.file w.reading w.marks (wrong c.file ne) c.space)
        c.which

    mark_as : (g : Given s) (n : List ℕ) → MarkTold h g n w (mark_now w g n)
    mark_as g n =
        ⊎_elim
        (λ (same : g.file ≡ s).
        subst (λ (m : Marking). MarkTold h g n w m)
        (sym (ap (λ (file : List ℕ). mark file w.reading w.marks n) same
        ∙ mark_right s w.reading w.marks A.meta A.opens state marks_right n
        ∙ ap (λ (t : Bool). ways (name_test n) t) (room_same n)))
        (by (ap length same) (name_test n) refl (room_for n h.noted) refl))
        (λ ne.
        let q = mark_wrong g.file w.reading w.marks (wrong g.file ne) n in
        subst (λ (m : Marking). MarkTold h g n w m) (sym q.1) (MarkTold.other_file ne q.0))
        g.which
      where
        ways : Bool → Bool → Marking
        ways a b = cond a (cond b (has_marks (put n w.reading w.marks)) (Marking.refused FULL)) (Marking.refused NAME)

        by : length g.file ≡ length s → (a : Bool) → name_test n ≡ a → (b : Bool) → room_for n h.noted ≡ b → MarkTold h g n w (ways a b)
        by same true p true q = MarkTold.taken same p q
        by same true p false q = MarkTold.full same p q
        by same false p b q = MarkTold.no_name same p

    back_as : (g : Given s) (n : List ℕ) → BackTold r₀ h g n (back_now w g n)
    back_as g n =
        ⊎_elim
        (λ (same : g.file ≡ s).
        subst (λ (m : Return). BackTold r₀ h g n m)
        (sym (ap (λ (file : List ℕ). back file w.reading w.marks n) same
        ∙ back_right s w.reading w.marks A.meta A.opens state marks_right n
        ∙ ap (λ (o : Option Plain). ways (name_test n) o) (ap (λ (ms : List Mark). marked n ms) k.marks_are ∙ marked_map (plain_after r₀) n h.noted)))
        (by (ap length same) (name_test n) refl (marked n h.noted) refl))
        (λ ne.
        let q = back_wrong g.file w.reading w.marks (wrong g.file ne) n in
        subst (λ (m : Return). BackTold r₀ h g n m) (sym q.1) (BackTold.other_file ne q.0))
        g.which
      where
        ways : Bool → Option Plain → Return
        ways a o = cond a (found o) (Return.refused NAME)

        by : length g.file ≡ length s → (a : Bool) → name_test n ≡ a → (o : Option (List (Call s))) → marked n h.noted ≡ o
            → BackTold r₀ h g n (ways a (on_some (plain_after r₀) o))
        by same true p (some cs) q = returned same p cs q
        by same true p none q = not_marked same p q
        by same false p o q = BackTold.no_name same p

    -- ---- one operation more

    kept_next : (c : Call s) → Kept (one_more w (reads c)) (recorded h (reads c))
    kept_next c =
        record {
          reading_is = ap (λ (o : PlainStep). o.reading) (next_as c) ∙ ap (λ (r : Plain). (call_plain r c).reading) k.reading_is ∙ sym (reading_snoc r₀ h.calls c);
          marks_are = k.marks_are;
          right = k.right;
          few = k.few;
        }

    module _ (g : Given s) (n : List ℕ) where
      abbrev Noting : Bool → Marking → Type 0
      Noting t m = Kept (now_is w.reading (marks_after w.marks m)) (history_is h.calls (cond t (put n h.calls h.noted) h.noted))

      same_kept : Kept (now_is w.reading w.marks) (history_is h.calls h.noted)
      same_kept = record { reading_is = k.reading_is; marks_are = k.marks_are; right = k.right; few = k.few }

      kept_told : (m : Marking) → MarkTold h g n w m → Noting (takes h g n) m
      kept_told m (MarkTold.taken same name room) =
          let t : takes h g n ≡ true =
          and_from (eqb (length g.file) (length s)) _ (eq-eqb (length g.file) (length s) same) (and_from (name_test n) (room_for n h.noted) name room) in
          subst (λ (t : Bool). Noting t (has_marks (put n w.reading w.marks))) (sym t)
          (record {
            reading_is = k.reading_is;
            marks_are =
                ap (λ (r : Plain). put n r w.marks) k.reading_is
                ∙ ap (λ (ms : List Mark). put n (plain_after r₀ h.calls) ms) k.marks_are
                ∙ put_map (plain_after r₀) n h.calls h.noted;
            right = put_right (length s) n w.reading name state w.marks k.right;
            few = put_few n w.reading w.marks k.few (room_same n ∙ room);
          })
      kept_told m (MarkTold.other_file ne c) =
          let t : takes h g n ≡ false = rw (ne_eqb (length g.file) (length s) ne) in
          subst (λ (t : Bool). Noting t (Marking.refused c)) (sym t) same_kept
      kept_told m (MarkTold.no_name same name) =
          let t : takes h g n ≡ false = rw (eq-eqb (length g.file) (length s) same, name) in
          subst (λ (t : Bool). Noting t (Marking.refused NAME)) (sym t) same_kept
      kept_told m (MarkTold.full same name room) =
          let t : takes h g n ≡ false = rw (eq-eqb (length g.file) (length s) same, name, room) in
          subst (λ (t : Bool). Noting t (Marking.refused FULL)) (sym t) same_kept

      abbrev Going : Bool → Option (List (Call s)) → Return → Type 0
      Going t o m = Kept (now_is (reading_at w.reading m) w.marks) (history_is (cond t (or_else h.calls o) h.calls) h.noted)

      abbrev asked : Bool
      asked = eqb (length g.file) (length s) && name_test n

      asked_true : length g.file ≡ length s → name_test n ≡ true → asked ≡ true
      asked_true same name = and_from (eqb (length g.file) (length s)) (name_test n) (eq-eqb (length g.file) (length s) same) name

      kept_back : (m : Return) → BackTold r₀ h g n m → Going asked (marked n h.noted) m
      kept_back m (returned same name cs is) =
          subst (λ (t : Bool). Going t (marked n h.noted) (at (plain_after r₀ cs))) (sym (asked_true same name))
          (subst (λ (o : Option (List (Call s))). Going true o (at (plain_after r₀ cs))) (sym is)
          (record { reading_is = refl; marks_are = k.marks_are; right = k.right; few = k.few }))
      kept_back m (not_marked same name is) =
          subst (λ (t : Bool). Going t (marked n h.noted) (Return.refused NAME)) (sym (asked_true same name))
          (subst (λ (o : Option (List (Call s))). Going true o (Return.refused NAME)) (sym is) same_kept)
      kept_back m (BackTold.other_file ne c) =
          let t : asked ≡ false = rw (ne_eqb (length g.file) (length s) ne) in
          subst (λ (t : Bool). Going t (marked n h.noted) (Return.refused c)) (sym t) same_kept
      kept_back m (BackTold.no_name same name) =
          let t : asked ≡ false = rw (eq-eqb (length g.file) (length s) same, name) in
          subst (λ (t : Bool). Going t (marked n h.noted) (Return.refused NAME)) (sym t) same_kept

    pub kept_one : (d : Did s) → Kept (one_more w d) (recorded h d)
    kept_one (reads c) = kept_next c
    kept_one (marks g n) = kept_told g n (mark_now w g n) (mark_as g n)
    kept_one (returns g n) = kept_back g n (back_now w g n) (back_as g n)

  kept_all : (ds : List (Did s)) (w : Now) (h : History s) → Kept w h → Kept (now_after w ds) (recorded_all h ds)
  kept_all [] w h k = k
  kept_all (d ∷ ds) w h k = kept_all ds (one_more w d) (recorded h d) (kept_one w h k d)

  -- ---- the whole list

  abbrev pub after : List (Call s) → List (Did s) → Now
  after cs ds = now_from r₀ cs ds

  pub kept : (cs : List (Call s)) (ds : List (Did s)) → Kept (after cs ds) (history_of cs ds)
  unfolding each_right
  kept cs ds = kept_all ds (now_is (plain_after r₀ cs) []) (history_is cs []) (record { reading_is = refl; marks_are = refl; right = refl; few = omega arith })

  next_at : (cs : List (Call s)) (ds : List (Did s)) (c : Call s) → next_now (after cs ds) c ≡ call_plain (plain_after r₀ (history_of cs ds).calls) c
  next_at cs ds c = next_as (after cs ds) (history_of cs ds) (kept cs ds) c ∙ ap (λ (r : Plain). call_plain r c) (kept cs ds).reading_is

  replaced_at : {h : History s} {g : Given s} {n : List ℕ} {w : Now} (m : Marking) → MarkTold h g n w m → (ms : List Mark) → m ≡ has_marks ms
      → Replaced n w.reading w.marks ms
  replaced_at {h} {g} {n} {w} m (MarkTold.taken same name room) ms is =
      let q : put n w.reading w.marks ≡ ms = cc in
      subst (λ (l : List Mark). Replaced n w.reading w.marks l) q
      (record {
        this = put_this n w.reading w.marks;
        others = λ k ne. put_other n k w.reading w.marks (same_not n k (λ q. ne (sym q)));
        in_place = put_in_place n w.reading w.marks;
        added = put_added n w.reading w.marks;
      })
  replaced_at m (MarkTold.other_file ne c) ms is = let z : ◌≡◌ {A = ℕ} 0 1 = cc in absurd (omega arith)
  replaced_at m (MarkTold.no_name same name) ms is = let z : ◌≡◌ {A = ℕ} 0 1 = cc in absurd (omega arith)
  replaced_at m (MarkTold.full same name room) ms is = let z : ◌≡◌ {A = ℕ} 0 1 = cc in absurd (omega arith)

  keys_at_lem : (cs : List (Call s)) (ds : List (Did s))
      → NumberOf (StillToCome (fst_of s A.meta) lo hi (keys_out (handed_in (answers_plain r₀ (history_of cs ds).calls)))) (after cs ds).reading.keys
  keys_at_lem cs ds =
      let calls = (history_of cs ds).calls in
      subst (λ (p : Plain). NumberOf (StillToCome (fst_of s A.meta) lo hi (keys_out (handed_in (answers_plain r₀ calls)))) p.keys) (sym (kept cs ds).reading_is)
      (subst (λ (p : Plain). NumberOf (StillToCome (fst_of s A.meta) lo hi (keys_out (handed_in (answers_plain p calls)))) (plain_after p calls).keys) (demand_first calls)
      (demand calls).keys_to_come)

  pub marked_run : (cs : List (Call s)) (ds : List (Did s)) → MarkedRun A lo hi t cs ds
  marked_run cs ds =
      record {
        first = r₀;
        starts = start_numbered A lo hi short_lo short_hi t long fits;
        reading_is = (kept cs ds).reading_is;
        marks_are = (kept cs ds).marks_are;
        demand = demand (history_of cs ds).calls;
        demand_first = demand_first (history_of cs ds).calls;
        keys_to_come = keys_at_lem cs ds;
        nexts = λ ds₁ ds₂ c is. next_at cs ds₁ c;
        limit = λ ds₁ ds₂ c is n longest.
            subst (λ (r : Plain). followed r.view c ≤ n) (sym (kept cs ds₁).reading_is) (limit_at (history_of cs ds₁).calls c n longest);
        next_refused = λ ds₁ ds₂ c is.
            subst (λ (o : PlainStep). (Allowed c → (n : Refusal) → ¬ (o.answer ≡ Answer.refused n)) × (¬ Allowed c → (n : Refusal) × (o ≡ refuse_with (after cs ds₁).reading n)))
            (sym (next_as (after cs ds₁) (history_of cs ds₁) (kept cs ds₁) c))
            (subst (λ (r : Plain). RefusedExactly r c) (sym (kept cs ds₁).reading_is) (refused_at (history_of cs ds₁).calls c));
        mark_told = λ ds₁ ds₂ g n is. mark_as (after cs ds₁) (history_of cs ds₁) (kept cs ds₁) g n;
        back_told = λ ds₁ ds₂ g n is. back_as (after cs ds₁) (history_of cs ds₁) (kept cs ds₁) g n;
        survive = λ ds₁ ds₂ g n is. ap (λ (w : Now). w.marks) (now_snoc (now_is (plain_after r₀ cs) []) ds₁ (returns g n));
        next_keeps = λ ds₁ ds₂ c is. ap (λ (w : Now). w.marks) (now_snoc (now_is (plain_after r₀ cs) []) ds₁ (reads c));
        replaced = λ ds₁ ds₂ g n is ms e. replaced_at (mark_now (after cs ds₁) g n) (mark_as (after cs ds₁) (history_of cs ds₁) (kept cs ds₁) g n) ms e;
        mark_keeps = λ ds₁ ds₂ g n is. ap (λ (w : Now). w.reading) (now_snoc (now_is (plain_after r₀ cs) []) ds₁ (marks g n));
      }
