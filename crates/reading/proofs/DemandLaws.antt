-- Demand 3, proved: `demand_3`. The visits of a start are the strings that demand 3 speaks of (`facts`), and a list of calls is a cut
-- in them (ProgressLaws), so that each sentence is a fact about one ascending list (CutLaws).
-- Assumes nothing.
use Prim.{tt}
use Rattle.std.specs.Prelude.{◌≡◌, refl, Bool, true, false, cond, ℕ, suc, ◌+◌, ◌<◌, ◌≤◌, length}
use Rattle.std.proofs.Math.Path.{sym}
use Rattle.std.proofs.Common.{◌∙◌, ap, ⊎_elim, add-zero}
use Rattle.std.proofs.Math.Option.{Option, none, some}
use mathlib.Core.List.{List, [], ◌∷◌, ◌++◌, append-nil, Memᴰ}
use Rattle.std.proofs.Math.Decide.{ℕ_discrete}
use Rattle.format.specs.declared.Refusal.{Refusal}
use native.Mathlib.Omega.{arith}
use borrow.Author.Tests.{le-leb, eq-eqb, ne_eqb}
use Rattle.format.specs.Limits.{max_path, max_sum}
use Rattle.format.specs.Node.{Node, Judgement, sound, unsound}
use Rattle.format.specs.Paths.{Fst, fst_of, node_in, Held}
use Rattle.format.specs.Laws.NodeLaws.{node_at_blank}
use Rattle.format.specs.Laws.PathLaws.{held_not_empty, blank_held}
use Rattle.format.specs.Laws.ReachedLaws.{held_from, from_held, held_here, held_nil}
use Rattle.format.specs.Admitted.{Admitted}
use Rattle.buffers.specs.DecideLaws.{true_of}
use Rattle.format.specs.Strings.{Before, shorter, Begins, Bound, MeetsLower, Between, Rising, NumberOf}
use Rattle.format.specs.Laws.StringLaws.{before_irrefl}
use Rattle.reading.specs.Reading.{meets_test, passes_test, bound_bytes, Level, View, started, pending_at, start, Answer, key, end, Step}
use Rattle.reading.proofs.BoundLaws.{decides_meets, decides_passes, passes_up}
use Rattle.reading.specs.Visits.{Visit, to_come, below, kept, Sane, AllV, RisingV}
use Rattle.reading.proofs.VisitLaws.{all_mem, kept_mem, mem_kept, kept_rising, below_rising, below_full, below_blank, fine_root, visit_begins, begins_visit, visit_held, held_visit}
use Rattle.reading.proofs.SeekLaws.{SeekCome, start_come}
use Rattle.reading.proofs.RunLaws.{lt_or, capped_low, capped_high}
use Rattle.reading.proofs.NextLaws.{view_at, next_pending_on, next_pending_off, Ways, at_end, over_at, handed_at, next_come}
use Rattle.reading.specs.Demand.{BeginsHeld, Within, Extra, one_more, no_more, EmptyExcluded, Call, Allowed, call, reading_after, followed, Entry, entry, NotAfterLast, NoneLeft, Demand3, capped}
use Rattle.reading.proofs.CutLaws.{FactsOf, none_some, some_same, Cut, keys_out, cut_held, cut_rising, cut_none_left_out, cut_none_left, cut_number, cut_number_before, snoc_not_nil, snoc_mem, rising_last, rising_right}
use Rattle.reading.proofs.ProgressLaws.{no_visit, Pre, no_empty, empty_key, Progress, fresh, going, finished, beyond, shut, Called, hands, ended, file_same, view_refused, progress_step, progress_refused, dec_allowed, Ran, progress_run}

-- ---- what the visits of a start are, in the words of demand 3

abbrev pub Facts : Fst → Bound → List Visit → Option ℕ → Type 0
Facts f lo W e₀ = FactsOf (BeginsHeld f) (Held f) lo W e₀

-- a file without bytes has no visit, nothing pending and no held key
none_facts : (f : Fst) (lo : Bound) → length f.bytes ≡ 0 → Facts f lo [] none
none_facts f lo z =
    record {
      rising = tt;
      full = λ v on. absurd (mathlib.Core.List.Memᴰ.not-nil on);
      begins = λ v on. absurd (mathlib.Core.List.Memᴰ.not-nil on);
      meets = λ v on. absurd (mathlib.Core.List.Memᴰ.not-nil on);
      whole = λ x b meets. absurd (blank_held z b.held);
      held = λ v on fin. absurd (mathlib.Core.List.Memᴰ.not-nil on);
      keys = λ k w h ne meets. absurd (blank_held z h);
      empty_held = λ v e. absurd (none_some e);
      empty_pending = λ v h meets. absurd (blank_held z h);
    }

visits_blank : (f : Fst) (lo : Bound) → length f.bytes ≡ 0 → kept (meets_test lo) (below max_path f f.root) ≡ []
visits_blank f lo z = ap (kept (meets_test lo)) (below_blank max_path f f.root z)

pending_blank : (f : Fst) (lo : Bound) → length f.bytes ≡ 0 → pending_at lo (node_in f f.root) ≡ none
pending_blank f lo z = rw (node_at_blank f.bytes f.version f.root f.root z) (same (meets_test lo []))
  where
    same : (b : Bool) → ◌≡◌ {A = Option ℕ} (cond b none none) none
    same true = refl
    same false = refl

module _ {s : List ℕ} (A : Admitted s) (lo : Bound) where
  abbrev fst : Fst
  fst = fst_of s A.meta

  abbrev root_visits : List Visit
  root_visits = below max_path fst A.meta.root

  pending : (v : ℕ) → pending_at lo (node_in fst A.meta.root) ≡ some v → Held fst [] v × MeetsLower lo []
  pending v e = by (meets_test lo []) refl (node_in fst A.meta.root) refl e
    where
      on : (n : Node) → node_in fst A.meta.root ≡ sound n → (b : Bool) → n.final ≡ b → cond b (some n.final_output) none ≡ some v → Held fst [] v
      on n en true eb q = from_held (rw (some_same q) at (held_here fst A.meta.root n en eb))
      on n en false eb q = absurd (none_some q)

      by : (b : Bool) → meets_test lo [] ≡ b → (j : Judgement) → node_in fst A.meta.root ≡ j
          → cond b (Rattle.reading.specs.Reading.on_node j (λ n. cond n.final (some n.final_output) none) none) none ≡ some v → Held fst [] v × MeetsLower lo []
      by true eb (sound n) en q = (on n en n.final refl q, (decides_meets lo []).yes eb)
      by true eb unsound en q = absurd (none_some q)
      by false eb j en q = absurd (none_some q)

  pending_of : (v : ℕ) → Held fst [] v → MeetsLower lo [] → pending_at lo (node_in fst A.meta.root) ≡ some v
  pending_of v h meets =
      let t = true_of (meets_test lo []) (decides_meets lo []) meets in
      let n = Rattle.format.specs.Laws.ReachedLaws.path_reached A (held_not_empty h) (Rattle.format.specs.Paths.here {a = A.meta.root}) in
      let q = held_nil fst A.meta.root n.node n.judged (held_from h) in
      rw (t, n.judged, q.0, ← q.1)

  some_facts : 0 < length s → Facts fst lo (kept (meets_test lo) root_visits) (pending_at lo (node_in fst A.meta.root))
  some_facts pos =
      record {
        rising = kept_rising (meets_test lo) root_visits (below_rising max_path fst A.meta.root 0 (fine_root A pos));
        full = λ v on. all_mem (λ x. ¬ (x.key ≡ [])) root_visits (below_full max_path fst A.meta.root) v (kept_mem (meets_test lo) root_visits v on).0;
        begins = λ v on.
            let mem = (kept_mem (meets_test lo) root_visits v on).0 in
            let w = visit_begins A pos v mem in
            record {
              not_empty = all_mem (λ x. ¬ (x.key ≡ [])) root_visits (below_full max_path fst A.meta.root) v mem;
              whole = w.0;
              value = w.1;
              held = w.2;
              begins = w.3;
            };
        meets = λ v on. (decides_meets lo v.key).yes (kept_mem (meets_test lo) root_visits v on).1;
        whole = λ x b meets.
            let w = begins_visit A pos x b.whole b.value b.held b.begins b.not_empty in
            (w.0, mem_kept (meets_test lo) root_visits w.0 w.1 (rw w.2 (true_of (meets_test lo x) (decides_meets lo x) meets)), w.2);
        held = λ v on fin. visit_held A pos v (kept_mem (meets_test lo) root_visits v on).0 fin;
        keys = λ k w h ne meets.
            mem_kept (meets_test lo) root_visits (record { key = k; value = w; final = true }) (held_visit A pos k w h ne)
            (true_of (meets_test lo k) (decides_meets lo k) meets);
        empty_held = pending;
        empty_pending = pending_of;
      }

  pub facts : Facts fst lo (kept (meets_test lo) root_visits) (pending_at lo (node_in fst A.meta.root))
  facts =
      elim (ℕ_discrete (length s) 0) [
        | yes z ↦ rw (visits_blank fst lo z, pending_blank fst lo z) (none_facts fst lo z)
        | no z ↦ some_facts (omega arith)
      ]

begins_length : {x k : List ℕ} → Begins x k → length x ≤ length k
begins_length Begins.nothing = omega arith
begins_length (Begins.byte h) = omega (arith, begins_length h)

capped_le : (n : ℕ) → capped n ≤ n
capped_le n = ⊎_elim (λ (h : n < max_sum). rw (capped_low n (omega arith)) (omega arith)) (λ (h : max_sum ≤ n). rw (capped_high n h) h) (lt_or n max_sum)

-- ---- the sentences of demand 3, from how far the calls have come

module _ {s : List ℕ} (A : Admitted s) (lo hi : Bound) (short : length (bound_bytes hi) ≤ max_path) where
  abbrev pub f : Fst
  f = fst_of s A.meta

  abbrev pub visits : List Visit
  visits = kept (meets_test lo) (below max_path (fst_of s A.meta) A.meta.root)

  abbrev pub pend : Option ℕ
  pend = pending_at lo (node_in (fst_of s A.meta) A.meta.root)

  abbrev pub Comes : List Entry → ℕ → View → Type 0
  Comes handed ends r = Progress s A.meta A.opens hi (length (bound_bytes hi)) short visits pend handed ends r

  F : Facts (fst_of s A.meta) lo visits pend
  F = facts A lo

  abbrev CutAt : List Entry → List Visit → List Visit → Type 0
  CutAt pre taken rest = Cut (BeginsHeld (fst_of s A.meta)) (Held (fst_of s A.meta)) lo hi visits pend F pre taken rest

  cut_at : (pre : List Entry) (taken rest : List Visit) → Pre hi pend pre → visits ≡ taken ++ rest → AllV (λ v. passes_test hi v.key ≡ false) taken → CutAt pre taken rest
  cut_at pre taken rest hpre split under = record { before = hpre; split = split; under = under }

  whole_cut : (pre : List Entry) → Pre hi pend pre → AllV (λ v. passes_test hi v.key ≡ false) visits → CutAt pre visits []
  whole_cut pre hpre under = record { before = hpre; split = sym (append-nil visits); under = under }

  beyond_past : (taken : List Visit) (v : Visit) (more : List Visit) → visits ≡ taken ++ (v ∷ more) → passes_test hi v.key ≡ true
      → (w : Visit) → Memᴰ w (v ∷ more) → passes_test hi w.key ≡ true
  beyond_past taken v more split ps w on =
      ⊎_elim
      (λ (q : w ≡ v). rw q ps)
      (λ (h : Memᴰ w more).
      let r : RisingV (v ∷ more) = rising_right taken (v ∷ more) (rw split at F.rising) in
      passes_up hi v.key w.key (all_mem (λ x. Before v.key x.key) more r.0 w h) ps)
      (mathlib.Core.List.Memᴰ.cases_cons on)

  pub comes_held : (handed : List Entry) (ends : ℕ) (r : View) → Comes handed ends r → (e : Entry) → Memᴰ e handed → Held f e.key e.value × Between lo hi e.key
  comes_held handed ends r (fresh levels v sane w is) e on = absurd (mathlib.Core.List.Memᴰ.not-nil on)
  comes_held handed ends r (going pre taken levels hpre sane w under last) e on =
      cut_held (BeginsHeld f) (Held f) lo hi visits pend F (cut_at pre taken (to_come f levels) hpre w under) e on
  comes_held handed ends r (finished pre n hpre under) e on = cut_held (BeginsHeld f) (Held f) lo hi visits pend F (whole_cut pre hpre under) e on
  comes_held handed ends r (beyond pre n taken v more hpre w under ps) e on =
      cut_held (BeginsHeld f) (Held f) lo hi visits pend F (cut_at pre taken (v ∷ more) hpre w under) e on
  comes_held handed ends r (shut n v is p) e on = absurd (mathlib.Core.List.Memᴰ.not-nil on)

  pub comes_rising : (handed : List Entry) (ends : ℕ) (r : View) → Comes handed ends r → Rising (keys_out handed)
  comes_rising handed ends r (fresh levels v sane w is) = tt
  comes_rising handed ends r (going pre taken levels hpre sane w under last) =
      cut_rising (BeginsHeld f) (Held f) lo hi visits pend F (cut_at pre taken (to_come f levels) hpre w under)
  comes_rising handed ends r (finished pre n hpre under) = cut_rising (BeginsHeld f) (Held f) lo hi visits pend F (whole_cut pre hpre under)
  comes_rising handed ends r (beyond pre n taken v more hpre w under ps) =
      cut_rising (BeginsHeld f) (Held f) lo hi visits pend F (cut_at pre taken (v ∷ more) hpre w under)
  comes_rising handed ends r (shut n v is p) = tt

  comes_none_left_out : (handed : List Entry) (ends : ℕ) (r : View) → Comes handed ends r
      → (k : List ℕ) (v : ℕ) → Held f k v → Between lo hi k → (e : Entry) → Memᴰ e handed → ¬ Before e.key k → Memᴰ (entry k v) handed
  comes_none_left_out handed ends r (fresh levels v₀ sane w is) k v h b e on na = absurd (mathlib.Core.List.Memᴰ.not-nil on)
  comes_none_left_out handed ends r (going pre taken levels hpre sane w under last) k v h b e on na =
      cut_none_left_out (BeginsHeld f) (Held f) lo hi visits pend F (cut_at pre taken (to_come f levels) hpre w under) k v h b e on na
  comes_none_left_out handed ends r (finished pre n hpre under) k v h b e on na =
      cut_none_left_out (BeginsHeld f) (Held f) lo hi visits pend F (whole_cut pre hpre under) k v h b e on na
  comes_none_left_out handed ends r (beyond pre n taken v₀ more hpre w under ps) k v h b e on na =
      cut_none_left_out (BeginsHeld f) (Held f) lo hi visits pend F (cut_at pre taken (v₀ ∷ more) hpre w under) k v h b e on na
  comes_none_left_out handed ends r (shut n v₀ is p) k v h b e on na = absurd (mathlib.Core.List.Memᴰ.not-nil on)

  -- where the empty string passes the upper bound, every string does
  all_pass : passes_test hi [] ≡ true → (k : List ℕ) → passes_test hi k ≡ true
  all_pass p [] = p
  all_pass p (x ∷ k) = passes_up hi [] (x ∷ k) shorter p

  pub comes_none_left : (handed : List Entry) (ends : ℕ) (r : View) → Comes handed ends r → 0 < ends → NoneLeft f lo hi handed
  comes_none_left handed ends r (fresh levels v sane w is) pos = absurd (omega arith)
  comes_none_left handed ends r (going pre taken levels hpre sane w under last) pos = absurd (omega arith)
  comes_none_left handed ends r (finished pre n hpre under) pos =
      cut_none_left (BeginsHeld f) (Held f) lo hi visits pend F (whole_cut pre hpre under) (λ w on. absurd (mathlib.Core.List.Memᴰ.not-nil on))
  comes_none_left handed ends r (beyond pre n taken v more hpre w under ps) pos =
      cut_none_left (BeginsHeld f) (Held f) lo hi visits pend F (cut_at pre taken (v ∷ more) hpre w under) (beyond_past taken v more w ps)
  comes_none_left handed ends r (shut n v is p) pos = λ k u h b. absurd (b.within ((decides_passes hi k).yes (all_pass p k)))

  -- ---- totals

  pub comes_total_ended : (handed : List Entry) (ends : ℕ) (r : View) → Comes handed ends r → ¬ EmptyExcluded f lo hi → 0 < ends
      → (n e : ℕ) × NumberOf (Within f lo hi) n × Extra f lo hi e × (r.total ≡ capped (n + e))
  comes_total_ended handed ends r (fresh levels v sane w is) not_shut pos = absurd (omega arith)
  comes_total_ended handed ends r (going pre taken levels hpre sane w under last) not_shut pos = absurd (omega arith)
  comes_total_ended handed ends r (finished pre n hpre under) not_shut pos = (
    length visits,
    0,
    cut_number (BeginsHeld f) (Held f) lo hi visits pend F (whole_cut pre hpre under) (λ w on. absurd (mathlib.Core.List.Memᴰ.not-nil on)),
    no_more (λ x b.
        let w = F.whole x b.0 b.1.0 in
        (decides_passes hi x).no (rw w.2 at (all_mem (λ v. passes_test hi v.key ≡ false) visits under w.0 w.1)) b.1.1),
    ap capped (sym (add-zero (length visits))),
  )
  comes_total_ended handed ends r (beyond pre n taken v more hpre w under ps) not_shut pos =
      let on : Memᴰ v visits = rw w (mathlib.Core.List.Memᴰ.append_right taken (mathlib.Core.List.Memᴰ.head refl)) in
      let q : suc (length taken) ≡ length taken + 1 = omega arith in (
        length taken,
        1,
        cut_number (BeginsHeld f) (Held f) lo hi visits pend F (cut_at pre taken (v ∷ more) hpre w under) (beyond_past taken v more w ps),
        one_more v.key (F.begins v on, (F.meets v on, (decides_passes hi v.key).yes ps)),
        ap capped q,
      )
  comes_total_ended handed ends r (shut n v is p) not_shut pos =
      let h = F.empty_held v is in
      absurd (not_shut (record { value = v; held = h.0; meets = h.1; passes = (decides_passes hi []).yes p }))

  comes_total_before : (handed : List Entry) (ends : ℕ) (r : View) → Comes handed ends r → ends ≡ 0
      → (n : ℕ) × NumberOf (λ x. Within f lo hi x × NotAfterLast handed x) n × (r.total ≡ capped n)
  comes_total_before handed ends r (fresh levels v sane w is) z = (
    0,
    record {
      strings = [];
      rising = tt;
      such = λ x on. absurd (mathlib.Core.List.Memᴰ.not-nil on);
      all = λ x h. absurd (snoc_not_nil h.1.before h.1.last h.1.is_last);
      number = refl;
    },
    refl,
  )
  comes_total_before handed ends r (going pre taken levels hpre sane w under last) z =
      (length taken, cut_number_before (BeginsHeld f) (Held f) lo hi visits pend F (cut_at pre taken (to_come f levels) hpre w under) last, refl)
  comes_total_before handed ends r (finished pre n hpre under) z = absurd (omega arith)
  comes_total_before handed ends r (beyond pre n taken v more hpre w under ps) z = absurd (omega arith)
  comes_total_before handed ends r (shut n v is p) z = absurd (omega arith)

  -- where the upper bound excludes the empty key, nothing is handed out before it
  excluded_pre : EmptyExcluded f lo hi → (pre : List Entry) → ¬ Pre hi pend pre
  excluded_pre x pre (no_empty z) = none_some (sym z ∙ F.empty_pending x.value x.held x.meets)
  excluded_pre x pre (empty_key v is p) = (decides_passes hi []).no p x.passes

  comes_total_excluded : (handed : List Entry) (ends : ℕ) (r : View) → Comes handed ends r → EmptyExcluded f lo hi → r.total ≡ 0
  comes_total_excluded handed ends r (fresh levels v sane w is) x = refl
  comes_total_excluded handed ends r (going pre taken levels hpre sane w under last) x = absurd (excluded_pre x pre hpre)
  comes_total_excluded handed ends r (finished pre n hpre under) x = absurd (excluded_pre x pre hpre)
  comes_total_excluded handed ends r (beyond pre n taken v more hpre w under ps) x = absurd (excluded_pre x pre hpre)
  comes_total_excluded handed ends r (shut n v is p) x = refl

  -- ---- the transitions of a call

  abbrev pub view : List Level → Option ℕ → ℕ → View
  view levels e n = view_at s A.meta A.opens hi (length (bound_bytes hi)) short levels e n

  refused_total : (levels : List Level) (e : Option ℕ) → Sane f levels → (c : Call s) → ¬ Allowed c → (call (view levels e 0) c).reading.total ≡ 0
  refused_total levels e sane c out =
      let w = view_refused s A.meta A.opens hi (length (bound_bytes hi)) short visits pend levels e 0 sane c out in
      ap (λ (o : Step). o.reading.total) w.1

  abbrev asked : Call s → View → List ℕ → Step
  asked c r file = Rattle.reading.specs.Reading.next file r c.space

  asked_same : (c : Call s) → Allowed c → (r : View) (o : Step) → asked c r s ≡ o → (call r c).reading.total ≡ o.reading.total
  asked_same c h r o e =
      ap (λ (file : List ℕ). (asked c r file).reading.total) (file_same s A.meta A.opens hi (length (bound_bytes hi)) short visits pend c h)
      ∙ ap (λ (x : Step). x.reading.total) e

  pending_followed : (levels : List Level) (v n : ℕ) → Sane f levels → (c : Call s) → followed (view levels (some v) n) c ≡ 0
  pending_followed levels v n sane c =
      ⊎_elim
      (λ (h : Allowed c). by (passes_test hi []) refl h)
      (λ (out : ¬ Allowed c). refused_total levels (some v) sane c out)
      (dec_allowed s A.meta A.opens hi (length (bound_bytes hi)) short visits pend c)
    where
      by : (b : Bool) → passes_test hi [] ≡ b → Allowed c → followed (view levels (some v) n) c ≡ 0
      by true p h =
          asked_same c h (view levels (some v) 0) _
          (next_pending_off s A.meta A.opens hi (length (bound_bytes hi)) short c.space h.room levels v 0 sane p)
      by false p h =
          asked_same c h (view levels (some v) 0) _
          (next_pending_on s A.meta A.opens hi (length (bound_bytes hi)) short c.space h.room levels v 0 sane p)

  open_followed : (levels : List Level) (n k : ℕ) → Sane f levels → ((v : Visit) → Memᴰ v (to_come f levels) → length v.key ≤ k)
      → (c : Call s) → followed (view levels none n) c ≤ k
  open_followed levels n k sane long c =
      ⊎_elim
      (λ (h : Allowed c). by h (next_come s A.meta A.opens hi (length (bound_bytes hi)) short c.space h.room levels sane))
      (λ (out : ¬ Allowed c). rw (refused_total levels none sane c out) (omega arith))
      (dec_allowed s A.meta A.opens hi (length (bound_bytes hi)) short visits pend c)
    where
      within : (h : Allowed c) (taken : List Visit) (v : Visit) (more : List Visit) → to_come f levels ≡ taken ++ (v ∷ more) → suc (length taken) ≤ length v.key
          → (call (view levels none 0) c).reading.total ≡ capped (0 + suc (length taken)) → followed (view levels none n) c ≤ k
      within h taken v more split len e =
          let on : Memᴰ v (to_come f levels) = rw split (mathlib.Core.List.Memᴰ.append_right taken (mathlib.Core.List.Memᴰ.head refl)) in
          rw e (omega (arith, long v on, capped_le (0 + suc (length taken))))

      by : (h : Allowed c) → Ways s A.meta A.opens hi (length (bound_bytes hi)) short c.space h.room levels → followed (view levels none n) c ≤ k
      by h (at_end e go) = rw (asked_same c h (view levels none 0) _ (go 0)) (omega arith)
      by h (over_at taken v more idle split ps len go) = within h taken v more split len (asked_same c h (view levels none 0) _ (go 0))
      by h (handed_at taken v to idle split sane_to np fin len go) = within h taken v (to_come f to) split len (asked_same c h (view levels none 0) _ (go 0))

  -- a visit to come is no longer than the longest held key
  come_long : (taken rest : List Visit) → visits ≡ taken ++ rest → (k : ℕ) → ((x : List ℕ) (v : ℕ) → Held f x v → length x ≤ k)
      → (v : Visit) → Memᴰ v rest → length v.key ≤ k
  come_long taken rest split k long v on =
      let b = F.begins v (rw split (mathlib.Core.List.Memᴰ.append_right taken on)) in
      omega (arith, begins_length b.begins, long b.whole b.value b.held)

  comes_limit : (handed : List Entry) (ends : ℕ) (r : View) → Comes handed ends r → (c : Call s) (k : ℕ)
      → ((x : List ℕ) (v : ℕ) → Held f x v → length x ≤ k) → followed r c ≤ k
  comes_limit handed ends r (fresh levels v sane w is) c k long = rw (pending_followed levels v 0 sane c) (omega arith)
  comes_limit handed ends r (going pre taken levels hpre sane w under last) c k long =
      open_followed levels (length taken) k sane (come_long taken (to_come f levels) w k long) c
  comes_limit handed ends r (finished pre n hpre under) c k long = open_followed [] (length visits) k tt (λ v on. absurd (mathlib.Core.List.Memᴰ.not-nil on)) c
  comes_limit handed ends r (beyond pre n taken v more hpre w under ps) c k long =
      open_followed [] (suc (length taken)) k tt (λ v on. absurd (mathlib.Core.List.Memᴰ.not-nil on)) c
  comes_limit handed ends r (shut n v is p) c k long = open_followed [] 0 k tt (λ v on. absurd (mathlib.Core.List.Memᴰ.not-nil on)) c

  comes_none_followed : (handed : List Entry) (ends : ℕ) (r : View) → Comes handed ends r → EmptyExcluded f lo hi → (c : Call s) → followed r c ≡ 0
  comes_none_followed handed ends r (fresh levels v sane w is) x c = pending_followed levels v 0 sane c
  comes_none_followed handed ends r (going pre taken levels hpre sane w under last) x c = absurd (excluded_pre x pre hpre)
  comes_none_followed handed ends r (finished pre n hpre under) x c = absurd (excluded_pre x pre hpre)
  comes_none_followed handed ends r (beyond pre n taken v more hpre w under ps) x c = absurd (excluded_pre x pre hpre)
  comes_none_followed handed ends r (shut n v is p) x c =
      let h = open_followed [] 0 0 tt (λ v on. absurd (mathlib.Core.List.Memᴰ.not-nil on)) c in
      omega arith

  -- ---- one call more

  key_not_end : {k : List ℕ} {v : ℕ} → ¬ (◌≡◌ {A = Answer} (key k v) end)
  key_not_end e = let z : ◌≡◌ {A = ℕ} 0 1 = cc in omega arith

  key_not_refused : {k : List ℕ} {v : ℕ} {n : Refusal} → ¬ (◌≡◌ {A = Answer} (key k v) (Answer.refused n))
  key_not_refused e = let z : ◌≡◌ {A = ℕ} 0 1 = cc in omega arith

  end_not_refused : {n : Refusal} → ¬ (◌≡◌ {A = Answer} end (Answer.refused n))
  end_not_refused e = let z : ◌≡◌ {A = ℕ} 0 1 = cc in omega arith

  abbrev CalledAt : List Entry → ℕ → View → Step → Type 0
  CalledAt handed ends r o = Called s A.meta A.opens hi (length (bound_bytes hi)) short visits pend handed ends r o

  end_none_left : (handed : List Entry) (ends : ℕ) (r : View) (o : Step) → CalledAt handed ends r o → o.answer ≡ end → NoneLeft f lo hi handed
  end_none_left handed ends r o (hands e z is p less) q = absurd (key_not_end (sym is ∙ q))
  end_none_left handed ends r o (ended is p) q = comes_none_left handed (suc ends) o.reading p (omega arith)

  none_left_end : (handed : List Entry) (ends : ℕ) (r : View) (o : Step) → CalledAt handed ends r o → NoneLeft f lo hi handed → o.answer ≡ end
  none_left_end handed ends r o (hands e z is p less) none_left =
      let h = comes_held (handed ++ (e ∷ [])) 0 o.reading p e (snoc_mem handed e) in
      let on = none_left e.key e.value h.0 h.1 in
      absurd (before_irrefl e.key (rising_last handed e (entry e.key e.value) (comes_rising (handed ++ (e ∷ [])) 0 o.reading p) on))
  none_left_end handed ends r o (ended is p) none_left = is

  not_refused : (handed : List Entry) (ends : ℕ) (r : View) (o : Step) → CalledAt handed ends r o → (n : Refusal) → ¬ (o.answer ≡ Answer.refused n)
  not_refused handed ends r o (hands e z is p less) n q = key_not_refused (sym is ∙ q)
  not_refused handed ends r o (ended is p) n q = end_not_refused (sym is ∙ q)

  -- ---- the start

  abbrev RanAt : View → List (Call s) → Type 0
  RanAt r cs = Ran s A.meta A.opens hi (length (bound_bytes hi)) short visits pend [] 0 r cs

  pub start_comes : (levels : List Level) (e : Option ℕ) → e ≡ pend → Sane f levels → to_come f levels ≡ visits → Comes [] 0 (view levels e 0)
  start_comes levels none is sane comes = going [] [] levels (no_empty (sym is)) sane (sym comes) tt no_visit
  start_comes levels (some v) is sane comes = fresh levels v sane (sym comes) (sym is)

-- ---- the claim

module _ {s : List ℕ} (A : Admitted s) (lo hi : Bound) (short_lo : length (bound_bytes lo) ≤ max_path) (short_hi : length (bound_bytes hi) ≤ max_path) where
  -- the levels that a start gives, and that its visits are those still to come
  pub record Begun : Type 0 where
    pub levels : List Level
    pub gives : start s lo hi ≡ started (view A lo hi short_hi levels (pend A lo hi short_hi) 0)
    pub sane : Sane (fst_of s A.meta) levels
    pub comes : to_come (fst_of s A.meta) levels ≡ visits A lo hi short_hi

  -- on a file without bytes there is no level
  begun_blank : length s ≡ 0 → Begun
  unfolding start
  begun_blank z =
      let a = le-leb (length (bound_bytes lo)) max_path short_lo in
      let b = le-leb (length (bound_bytes hi)) max_path short_hi in
      record {
        levels = [];
        gives = rw (A.opens, a, b, eq-eqb (length s) 0 z, pending_blank (fst_of s A.meta) lo z);
        sane = tt;
        comes = sym (visits_blank (fst_of s A.meta) lo z);
      }

  begun_some : 0 < length s → Begun
  unfolding start
  begun_some pos =
      let a = le-leb (length (bound_bytes lo)) max_path short_lo in
      let b = le-leb (length (bound_bytes hi)) max_path short_hi in
      let ne : ¬ (length s ≡ 0) = λ z. omega arith in
      let q : SeekCome (fst_of s A.meta) A.meta.root lo = start_come (fst_of s A.meta) A.meta.root lo (fine_root A pos) in
      record {
        levels = q.levels;
        gives = rw (A.opens, a, b, ne_eqb (length s) 0 ne, q.seeks);
        sane = q.sane;
        comes = q.comes;
      }

  pub begun : Begun
  begun = elim (ℕ_discrete (length s) 0) [ yes z ↦ begun_blank z | no z ↦ begun_some (omega arith) ]

  -- the reading that the start gives
  abbrev pub reading₀ : View
  reading₀ = view A lo hi short_hi begun.levels (pend A lo hi short_hi) 0

  pub start_given : start s lo hi ≡ started reading₀
  start_given = begun.gives

  run : (cs : List (Call s)) → RanAt A lo hi short_hi reading₀ cs
  run cs =
      progress_run s A.meta A.opens hi (length (bound_bytes hi)) short_hi (visits A lo hi short_hi) (pend A lo hi short_hi) cs [] 0 reading₀
      (start_comes A lo hi short_hi begun.levels (pend A lo hi short_hi) refl begun.sane begun.comes)

  -- one call after others
  called : (cs : List (Call s)) (c : Call s) → Allowed c → CalledAt A lo hi short_hi (run cs).new (0 + (run cs).more) (reading_after reading₀ cs) (call (reading_after reading₀ cs) c)
  called cs c h =
      progress_step s A.meta A.opens hi (length (bound_bytes hi)) short_hi (visits A lo hi short_hi) (pend A lo hi short_hi) c h (run cs).new
      (0 + (run cs).more) (reading_after reading₀ cs) (run cs).progress

  pub demand_3 : (cs : List (Call s)) → Demand3 A lo hi cs
  demand_3 cs =
      record {
        reading = reading₀;
        starts = start_given;
        handed = (run cs).new;
        ends = (run cs).more;
        one_a_call = (run cs).answered;
        held = comes_held A lo hi short_hi (run cs).new (0 + (run cs).more) (reading_after reading₀ cs) (run cs).progress;
        ascending = comes_rising A lo hi short_hi (run cs).new (0 + (run cs).more) (reading_after reading₀ cs) (run cs).progress;
        none_left_out = comes_none_left_out A lo hi short_hi (run cs).new (0 + (run cs).more) (reading_after reading₀ cs) (run cs).progress;
        end_exactly = λ cs₁ cs₂ c is h. (
          (λ q. rw (run cs₁).handing (end_none_left A lo hi short_hi (run cs₁).new (0 + (run cs₁).more) (reading_after reading₀ cs₁) (call (reading_after reading₀ cs₁) c) (called cs₁ c h) q)),
          (λ q. none_left_end A lo hi short_hi (run cs₁).new (0 + (run cs₁).more) (reading_after reading₀ cs₁) (call (reading_after reading₀ cs₁) c) (called cs₁ c h) (rw (run cs₁).handing at q)),
        );
        refused_exactly = λ cs₁ cs₂ c is. (
          (λ h. not_refused A lo hi short_hi (run cs₁).new (0 + (run cs₁).more) (reading_after reading₀ cs₁) (call (reading_after reading₀ cs₁) c) (called cs₁ c h)),
          (λ out.
              progress_refused s A.meta A.opens hi (length (bound_bytes hi)) short_hi (visits A lo hi short_hi) (pend A lo hi short_hi) c out (run cs₁).new
              (0 + (run cs₁).more) (reading_after reading₀ cs₁) (run cs₁).progress),
        );
        total_ended = λ not_shut pos.
            comes_total_ended A lo hi short_hi (run cs).new (0 + (run cs).more) (reading_after reading₀ cs) (run cs).progress not_shut (omega arith);
        total_before = λ z. comes_total_before A lo hi short_hi (run cs).new (0 + (run cs).more) (reading_after reading₀ cs) (run cs).progress (omega arith);
        total_excluded = λ x. comes_total_excluded A lo hi short_hi (run cs).new (0 + (run cs).more) (reading_after reading₀ cs) (run cs).progress x;
        limit = λ cs₁ cs₂ c is n long.
            comes_limit A lo hi short_hi (run cs₁).new (0 + (run cs₁).more) (reading_after reading₀ cs₁) (run cs₁).progress c n long;
        none_followed = λ x cs₁ cs₂ c is.
            comes_none_followed A lo hi short_hi (run cs₁).new (0 + (run cs₁).more) (reading_after reading₀ cs₁) (run cs₁).progress x c;
      }
