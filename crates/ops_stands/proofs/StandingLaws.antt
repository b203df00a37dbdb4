-- One file alone: a reading that calls of next leave when they stop at the first key such that Stop, or at "end".
--     Goes s p es q          calls from p hand out es and leave q
--     Until s Stop p at q    calls from p stop at the first key such that Stop, or at "end", and leave q
--     until_stands           from the start of a file, with the total of demand 3
--     ended_total            a reading that was run to its end has demand 3's total
-- Assumes nothing.
use Rattle.std.specs.Prelude.{◌≡◌, refl, ◌⊎◌, ℕ, zero, suc, ◌+◌, ◌<◌, ◌≤◌, length, replicate}
use Rattle.std.proofs.Common.{sym, ap, ◌∙◌, subst, ⊎_elim, inl, inr, arith}
use Rattle.std.proofs.Math.Option.{Option, none, some}
use mathlib.Core.List.Memᴰ
use mathlib.Core.List.{List, [], ◌∷◌, ◌++◌, map, Memᴰ}
use Rattle.format.specs.Limits.{max_path}
use Rattle.format.specs.Strings.{Before, NumberOf}
use Rattle.format.specs.Laws.NumberOfLaws.{number_iff}
use Rattle.reading.specs.Reading.{View, bound_bytes, Answer, key, end}
use Rattle.reading.proofs.RunLaws.{lt_or}
use Rattle.reading.specs.Demand.{Within, Extra, EmptyExcluded, capped, Call, Allowed, Entry, entry, hand_out, handed_in, NotAfterLast, answers, reading_after, unrefused}
use Rattle.reading.proofs.CutLaws.{snoc_mem}
use Rattle.plain.specs.Plain.{Plain, PlainStep, next_plain, plain_after, answers_plain}
use Rattle.plain.specs.PlainDemand.{DemandPlain}
use Rattle.plain.proofs.PlainLaws.{plain_long_bound, plain_short, handed_of, demand_3_plain}
use Rattle.ops_spec.specs.OpsDemand.{Source}
use Rattle.ops_stands.specs.OpsStands.{Stopped, at_end, at_key, earlier, fst_in, StandsAt, NoKey}

-- ---- runs

pub data Goes (s : List ℕ) : Plain → List Entry → Plain → Type 0 where
  goes_none : {p : Plain} → Goes s p [] p
  goes_key : {p q r : Plain} {es : List Entry} (e : Entry) → Goes s p es q → next_plain s q max_path ≡ record { answer = hand_out e; reading = r } → Goes s p (es ++ (e ∷ [])) r

pub data Until (s : List ℕ) (Stop : List ℕ → Type 0) : Plain → Option (List ℕ) → Plain → Type 0 where
  until_end : {p q : Plain} → next_plain s p max_path ≡ record { answer = end; reading = q } → Until s Stop p none q
  until_key : {p q : Plain} (e : Entry) → next_plain s p max_path ≡ record { answer = hand_out e; reading = q } → Stop e.key → Until s Stop p (some e.key) q
  until_later : {p q r : Plain} {at : Option (List ℕ)} (e : Entry) → next_plain s p max_path ≡ record { answer = hand_out e; reading = q } → ¬ Stop e.key
      → Until s Stop q at r → Until s Stop p at r

pub goes_until : {s : List ℕ} {Stop : List ℕ → Type 0} {p q r : Plain} {es : List Entry} {at : Option (List ℕ)} → Goes s p es q
    → ((e : Entry) → Memᴰ e es → ¬ Stop e.key) → Until s Stop q at r → Until s Stop p at r
goes_until goes_none h u = u
goes_until (goes_key {es = es} e g is) h u = goes_until g (λ x m. h x (Memᴰ.append_left (e ∷ []) m)) (until_later e is (h e (snoc_mem es e)) u)

-- ---- their calls

abbrev own_call : (s : List ℕ) → Call s
own_call s = record { file = s; space = max_path; which = inl refl }

record Called (s : List ℕ) (Stop : List ℕ → Type 0) (p : Plain) (at : Option (List ℕ)) (q : Plain) : Type 0 where
  calls : List (Call s)
  allowed : (d : Call s) → Memᴰ d calls → Allowed d
  stopped : Stopped Stop (answers_plain p calls) at
  left : q ≡ plain_after p calls

own_allowed : (s : List ℕ) (d : Call s) → d ≡ own_call s → Allowed d
own_allowed s d e = subst (λ (x : Call s). Allowed x) (sym e) (record { same = refl; room = omega arith })

until_called : {s : List ℕ} {Stop : List ℕ → Type 0} {p q : Plain} {at : Option (List ℕ)} → Until s Stop p at q → Called s Stop p at q
until_called {s} {Stop} (until_end {q = q} is) =
    record {
      calls = own_call s ∷ [];
      allowed = λ d m. own_allowed s d (⊎_elim (λ e. e) (λ n. absurd (Memᴰ.not-nil n)) (Memᴰ.cases_cons m));
      stopped = subst (λ (o : PlainStep). Stopped Stop (o.answer ∷ []) none) (sym is) at_end;
      left = sym (ap (λ (o : PlainStep). o.reading) is);
    }
until_called {s} {Stop} (until_key {q = q} e is stop) =
    record {
      calls = own_call s ∷ [];
      allowed = λ d m. own_allowed s d (⊎_elim (λ x. x) (λ n. absurd (Memᴰ.not-nil n)) (Memᴰ.cases_cons m));
      stopped = subst (λ (o : PlainStep). Stopped Stop (o.answer ∷ []) (some e.key)) (sym is) (at_key stop);
      left = sym (ap (λ (o : PlainStep). o.reading) is);
    }
until_called {s} {Stop} (until_later {r = r} {at = at} e is on more) =
    let w = until_called more in
    record {
      calls = own_call s ∷ w.calls;
      allowed = λ d m. ⊎_elim (λ x. own_allowed s d x) (λ n. w.allowed d n) (Memᴰ.cases_cons m);
      stopped = subst (λ (o : PlainStep). Stopped Stop (o.answer ∷ answers_plain o.reading w.calls) at) (sym is) (earlier on w.stopped);
      left = w.left ∙ ap (λ (o : PlainStep). plain_after o.reading w.calls) (sym is);
    }

-- ---- the total

abbrev ends_then : Answer → ℕ → ℕ
ends_then end n = suc n
ends_then (key k v) n = n
ends_then (Answer.refused c) n = n

-- how often "end" was answered
abbrev ends_in : List Answer → ℕ
ends_in [] = 0
ends_in (a ∷ xs) = ends_then a (ends_in xs)

abbrev ends_at : Option (List ℕ) → ℕ
ends_at none = 1
ends_at (some k) = 0

ends_unrefused : (xs : List Answer) → ends_in (unrefused xs) ≡ ends_in xs
ends_unrefused [] = refl
ends_unrefused (key k v ∷ xs) = ends_unrefused xs
ends_unrefused (end ∷ xs) = ap suc (ends_unrefused xs)
ends_unrefused (Answer.refused n ∷ xs) = ends_unrefused xs

ends_replicate : (n : ℕ) → ends_in (replicate n end) ≡ n
ends_replicate zero = refl
ends_replicate (suc n) = ap suc (ends_replicate n)

ends_out : (es : List Entry) (n : ℕ) → ends_in (map hand_out es ++ replicate n end) ≡ n
ends_out [] n = ends_replicate n
ends_out (e ∷ es) n = ends_out es n

stopped_ends : {Stop : List ℕ → Type 0} {xs : List Answer} {at : Option (List ℕ)} → Stopped Stop xs at → ends_in xs ≡ ends_at at
stopped_ends at_end = refl
stopped_ends (at_key s) = refl
stopped_ends (earlier n u) = stopped_ends u

-- the key at which they stop is the last one handed out
stopped_last : {Stop : List ℕ → Type 0} {xs : List Answer} {at : Option (List ℕ)} → Stopped Stop xs at → (k : List ℕ) → at ≡ some k
    → (es : List Entry) × ((v : ℕ) × (handed_in xs ≡ es ++ (entry k v ∷ [])))
stopped_last at_end k e = let z : ◌≡◌ {A = ℕ} 0 1 = cc in absurd (omega arith)
stopped_last (at_key {k = l} {v = v} s) k e = let same : l ≡ k = cc in ([], (v, ap (λ (x : List ℕ). entry x v ∷ []) same))
stopped_last (earlier {k = l} {v = v} n u) k e = let w = stopped_last u k e in (entry l v ∷ w.0, (w.1.0, ap (λ (es : List Entry). entry l v ∷ es) w.1.1))

abbrev last_or : Entry → List Entry → Entry
last_or d [] = d
last_or d (e ∷ es) = last_or e es

last_snoc : (d : Entry) (es : List Entry) (e : Entry) → last_or d (es ++ (e ∷ [])) ≡ e
last_snoc d [] e = refl
last_snoc d (x ∷ es) e = last_snoc x es e

not_after_to : (hs es : List Entry) (k : List ℕ) (v : ℕ) → hs ≡ es ++ (entry k v ∷ []) → (x : List ℕ) → NotAfterLast hs x → ¬ Before k x
not_after_to hs es k v e x h =
    let d : Entry = entry [] 0 in
    let same : h.last ≡ entry k v =
    sym (last_snoc d h.before h.last) ∙ ap (last_or d) (sym h.is_last) ∙ ap (last_or d) e ∙ last_snoc d es (entry k v) in
    subst (λ (y : Entry). ¬ Before y.key x) same h.not_after

-- ---- the claim

not_long : (c : Source) → ¬ ((max_path < length (bound_bytes c.lower)) ⊎ (max_path < length (bound_bytes c.upper)))
not_long c h =
    let a = plain_long_bound c.admitted c.lower c.upper c.table h in
    let b = c.starts in
    let z : ◌≡◌ {A = ℕ} 0 1 = cc in
    omega arith

demand_own : (c : Source) (calls : List (Call c.file)) → DemandPlain c.admitted c.lower c.upper c.table calls
demand_own c calls =
    ⊎_elim (λ (h : max_path < length (bound_bytes c.lower)). absurd (not_long c (inl h)))
    (λ (lo : length (bound_bytes c.lower) ≤ max_path).
    ⊎_elim (λ (h : max_path < length (bound_bytes c.upper)). absurd (not_long c (inr h)))
    (λ (hi : length (bound_bytes c.upper) ≤ max_path).
    ⊎_elim (λ (h : length c.table < length c.file). absurd (not_short lo hi h))
    (λ (long : length c.file ≤ length c.table). demand_3_plain c.admitted c.lower c.upper lo hi c.table long c.fits calls)
    (lt_or (length c.table) (length c.file)))
    (lt_or max_path (length (bound_bytes c.upper))))
    (lt_or max_path (length (bound_bytes c.lower)))
  where
    not_short : length (bound_bytes c.lower) ≤ max_path → length (bound_bytes c.upper) ≤ max_path → ¬ (length c.table < length c.file)
    not_short lo hi h =
        let a = plain_short c.admitted c.lower c.upper lo hi c.table h in
        let b = c.starts in
        let z : ◌≡◌ {A = ℕ} 0 1 = cc in
        omega arith

module _ (c : Source) (Stop : List ℕ → Type 0) (at : Option (List ℕ)) (q : Plain) (w : Called c.file Stop c.reading at q)
    (D : DemandPlain c.admitted c.lower c.upper c.table w.calls) (same : D.reading ≡ c.reading) where
  abbrev Counted : List ℕ → Type 0
  Counted x = Within (fst_in c) c.lower c.upper x

  total_is : (n : ℕ) → (reading_after D.demand.reading w.calls).total ≡ n → q.view.total ≡ n
  total_is n e =
      ap (λ (p : Plain). p.view.total) (w.left ∙ ap (λ (p : Plain). plain_after p w.calls) (sym same)) ∙ ap (λ (r : View). r.total) D.same_readings ∙ e

  told : answers_plain c.reading w.calls ≡ answers D.demand.reading w.calls
  told = ap (λ (p : Plain). answers_plain p w.calls) (sym same) ∙ D.same_answers

  ends : D.demand.ends ≡ ends_at at
  ends =
      sym (ends_out D.demand.handed D.demand.ends) ∙ ap ends_in (sym D.demand.one_a_call) ∙ ends_unrefused (answers D.demand.reading w.calls)
      ∙ ap ends_in (sym told) ∙ stopped_ends w.stopped

  counted_at : (k : List ℕ) → at ≡ some k → (n : ℕ) → NumberOf (λ x. Counted x × NotAfterLast D.demand.handed x) n → NumberOf (λ x. Counted x × ¬ Before k x) n
  counted_at k e n h =
      let l = stopped_last w.stopped k e in
      let handed : D.demand.handed ≡ l.0 ++ (entry k l.1.0 ∷ []) = sym (handed_of D.demand) ∙ ap handed_in (sym told) ∙ l.1.1 in
      number_iff (λ x. Counted x × NotAfterLast D.demand.handed x) (λ x. Counted x × ¬ Before k x) n
      (λ x a. (a.0, not_after_to D.demand.handed l.0 k l.1.0 handed x a.1))
      (λ x a. (a.0, record { before = l.0; last = entry k l.1.0; is_last = handed; not_after = a.1 })) h

  called_stands : StandsAt c Stop q
  called_stands =
      record {
        calls = w.calls;
        allowed = w.allowed;
        at = at;
        stopped = w.stopped;
        left = w.left;
        total_at_lem = λ k e. let n = D.demand.total_before (ends ∙ ap ends_at e) in (n.0, counted_at k e n.0 n.1, total_is (capped n.0) n.2);
        total_ended = λ e not_excluded.
            let one : D.demand.ends ≡ 1 = ends ∙ ap ends_at e in
            let n = D.demand.total_ended not_excluded (omega arith) in
            (n.0, n.1, n.2, n.3, total_is (capped (n.0 + n.1)) n.4);
        total_excluded = λ h. total_is 0 (D.demand.total_excluded h);
      }

pub until_stands : (c : Source) (Stop : List ℕ → Type 0) (at : Option (List ℕ)) (q : Plain) → Until c.file Stop c.reading at q → StandsAt c Stop q
until_stands c Stop at q u =
    let w = until_called u in
    let D = demand_own c w.calls in
    let began = D.starts in
    let given = c.starts in
    called_stands c Stop at q w D cc

-- ---- a reading that was run to its end

stopped_none : {xs : List Answer} {at : Option (List ℕ)} → Stopped NoKey xs at → at ≡ none
stopped_none at_end = refl
stopped_none (at_key stop) = absurd stop
stopped_none (earlier on more) = stopped_none more

-- where no key stops the calls they have come to "end", and the total is demand 3's
pub ended_total : (c : Source) (p : Plain) → StandsAt c NoKey p → ¬ EmptyExcluded (fst_in c) c.lower c.upper
    → (n e : ℕ) × NumberOf (Within (fst_in c) c.lower c.upper) n × Extra (fst_in c) c.lower c.upper e × (p.view.total ≡ capped (n + e))
ended_total c p h not_excluded = h.total_ended (stopped_none h.stopped) not_excluded
