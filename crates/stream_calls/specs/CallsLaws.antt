-- Demand 3 of the code: `demand_3_code`. Each call's contract gives the definition's answer and reading, so a list of calls is the
-- definition's list.
--     answer_is_lem            a call's answer, read off the buffer
--     answers_are, reading_is      of a list of calls
--     code_as_defined              with the start: the definition's answers, and its last reading
--     demand_3_code                demand 3 and the number of keys to come, of what the code handed out
-- Assumes nothing.
use Prim.{tt}
use Rattle.std.specs.Prelude.{◌≡◌, refl, Bool, true, false, ◌⊎◌, List, [], ◌∷◌, ◌++◌, ℕ, ◌+◌, ◌<◌, ◌≤◌, eqb, length, drop, Ok, Err, None}
use Rattle.std.proofs.Common.{sym, ◌∙◌, ap, ap₂, subst, ⊎_elim, inl, inr, arith}
use Rattle.std.proofs.Math.Seq.{take-append_seam}
use Rattle.format.specs.declared.Refusal.{Refusal}
use Rattle.format.specs.Limits.{max_path}
use Rattle.format.specs.Paths.{fst_of, Held}
use Rattle.format.specs.Admitted.{Admitted}
use Rattle.format.specs.Strings as S
use Rattle.format.specs.Strings.{NumberOf}
use Rattle.reading.specs.Reading as R
use Rattle.reading.specs.Reading.{View, key, end, written, bound_bytes}
use Rattle.reading.proofs.RunLaws.{lt_or}
use Rattle.reading.specs.Demand.{Call, Allowed, call, answers, reading_after, unrefused, followed, handed_in, NoneLeft, Demand3}
use Rattle.reading.proofs.FollowedLaws.{followed_at_most}
use Rattle.reading.proofs.DemandLaws.{demand_3}
use Rattle.plain.specs.Numbers.{TableFits}
use Rattle.plain.specs.Plain as P
use Rattle.plain.specs.Plain.{Begun, begun, start_plain, next_plain, counting, call_plain, plain_after, answers_plain}
use Rattle.plain.specs.PlainDemand.{keys_out, StillToCome, DemandPlain}
use Rattle.plain.proofs.PlainLaws.{handed_of, plain_long_bound, plain_short, demand_3_plain}
use Rattle.stream_step.specs.Stepped.{answer_as}
use Rattle.stream.specs.declared.Plain.{Plain}
use Rattle.stream.specs.Plains.{plain_is}
use Rattle.stream_calls.specs.Calls.{CodeCall, CallMade, in_hand, answered, Made, code_answers, last_reading, call_is, calls_is, StartMade, AsDefined, CodeAllowed, DemandCode}

-- ---- a call

-- the key's bytes stand at the buffer's first place
pub in_hand_lem : (a : R.Answer) (buf : List ℕ) → in_hand (answer_as a) (written a buf) ≡ a
in_hand_lem (key k v) buf = ap (λ (x : List ℕ). key x v) (take-append_seam k (drop (length k) buf))
in_hand_lem end buf = refl
in_hand_lem (R.Answer.refused n) buf = refl

pub answer_is_lem : {s : List ℕ} {r : Plain} (c : CodeCall) (w : CallMade s r c) → answered c ≡ (call_plain (plain_is r) (call_is c w)).answer
answer_is_lem {s} {r} c w =
    ap₂ in_hand w.stepped.gave.answer w.stepped.buffer ∙ in_hand_lem (next_plain c.file (plain_is r) (length c.before)).answer c.before

-- ---- a list of calls

pub answers_are : (s : List ℕ) (r : Plain) (cs : List CodeCall) (w : Made s r cs) → code_answers cs ≡ answers_plain (plain_is r) (calls_is r cs w)
answers_are s r [] w = refl
answers_are s r (c ∷ cs) w =
    ap₂ ◌∷◌ (answer_is_lem c w.0)
    (answers_are s c.step.reading cs w.1 ∙ ap (λ (p : P.Plain). answers_plain p (calls_is c.step.reading cs w.1)) w.0.stepped.gave.plain)

pub reading_is : (s : List ℕ) (r : Plain) (cs : List CodeCall) (w : Made s r cs) → plain_is (last_reading r cs) ≡ plain_after (plain_is r) (calls_is r cs w)
reading_is s r [] w = refl
reading_is s r (c ∷ cs) w =
    reading_is s c.step.reading cs w.1 ∙ ap (λ (p : P.Plain). plain_after p (calls_is c.step.reading cs w.1)) w.0.stepped.gave.plain

-- the calls before one, and that one
made_apart : (s : List ℕ) (r : Plain) (cs : List CodeCall) (c : CodeCall) (more : List CodeCall) → Made s r (cs ++ (c ∷ more))
    → Made s r cs × CallMade s (last_reading r cs) c
made_apart s r [] c more w = (tt, w.0)
made_apart s r (d ∷ cs) c more w = let q = made_apart s d.step.reading cs c more w.1 in ((w.0, q.0), q.1)

-- ---- the cases of an answer

end_of : (a : R.Answer) → answer_as a ≡ Ok None → a ≡ end
end_of (key k v) e = absurd (let z : ◌≡◌ {A = ℕ} 0 1 = cc in omega arith)
end_of end e = refl
end_of (R.Answer.refused n) e = absurd (let z : ◌≡◌ {A = ℕ} 0 1 = cc in omega arith)

refused_of : (a : R.Answer) (n : Refusal) → answer_as a ≡ Err n → a ≡ R.Answer.refused n
refused_of (key k v) n e = absurd (let z : ◌≡◌ {A = ℕ} 0 1 = cc in omega arith)
refused_of end n e = absurd (let z : ◌≡◌ {A = ℕ} 0 1 = cc in omega arith)
refused_of (R.Answer.refused m) n e = let q : m ≡ n = cc in ap (λ (x : Refusal). R.Answer.refused x) q

-- ---- the start

begun_same : {p p' : P.Plain} → begun p ≡ begun p' → p ≡ p'
begun_same e = cc

not_refused : {p : P.Plain} {n : Refusal} → ¬ (begun p ≡ Begun.refused n)
not_refused e = let z : ◌≡◌ {A = ℕ} 0 1 = cc in omega arith

-- a call does not count what it does not hand out
counted_total : (p : P.Plain) (v : View) (a : R.Answer) (n : ℕ) → v.total ≤ n → p.view.total ≤ n → (counting p v a).reading.view.total ≤ n
counted_total p v (key k u) n h g = by (eqb p.keys 0) refl
  where
    by : (b : Bool) → eqb p.keys 0 ≡ b → (counting p v (key k u)).reading.view.total ≤ n
    by true e = rw e g
    by false e = rw e h
counted_total p v end n h g = h
counted_total p v (R.Answer.refused m) n h g = h

module _ {s : List ℕ} (A : Admitted s) (lo hi : S.Bound) (t : List ℕ) (fits : TableFits (fst_of s A.meta) lo hi t) (b : Plain) (first : StartMade s lo hi t b) where
  gives : begun (plain_is b) ≡ start_plain s lo hi t
  gives = first.starts

  -- a start that is not refused was given bounds of at most 255 bytes, and a table that is long enough
  bounds_short : ¬ ((max_path < length (bound_bytes lo)) ⊎ (max_path < length (bound_bytes hi)))
  bounds_short h = not_refused (gives ∙ plain_long_bound A lo hi t h)

  lo_short : length (bound_bytes lo) ≤ max_path
  lo_short = ⊎_elim (λ (h : max_path < length (bound_bytes lo)). absurd (bounds_short (inl h))) (λ h. h) (lt_or max_path (length (bound_bytes lo)))

  hi_short : length (bound_bytes hi) ≤ max_path
  hi_short = ⊎_elim (λ (h : max_path < length (bound_bytes hi)). absurd (bounds_short (inr h))) (λ h. h) (lt_or max_path (length (bound_bytes hi)))

  long : length s ≤ length t
  long = ⊎_elim (λ (h : length t < length s). absurd (not_refused (gives ∙ plain_short A lo hi lo_short hi_short t h))) (λ h. h) (lt_or (length t) (length s))

  demanded : (cs : List (Call s)) → DemandPlain A lo hi t cs
  demanded cs = demand_3_plain A lo hi lo_short hi_short t long fits cs

  same : (cs : List (Call s)) → plain_is b ≡ (demanded cs).reading
  same cs = begun_same (gives ∙ (demanded cs).starts)

  module _ (cs : List CodeCall) (made : Made s b cs) where
    abbrev calls : List (Call s)
    calls = calls_is b cs made

    pub code_as_defined : AsDefined A lo hi t b cs made
    code_as_defined =
        record {
          demand = demanded calls;
          first_reading = same calls;
          same_answers = answers_are s b cs made ∙ ap (λ (p : P.Plain). answers_plain p calls) (same calls);
          last_reading_lem = reading_is s b cs made ∙ ap (λ (p : P.Plain). plain_after p calls) (same calls);
        }

  -- one call after others
  module _ (cs : List CodeCall) (c : CodeCall) (made : Made s b cs) (at : CallMade s (last_reading b cs) c) where
    abbrev earlier : List (Call s)
    earlier = calls_is b cs made

    abbrev before : Plain
    before = last_reading b cs

    D₁ : Demand3 A lo hi (earlier ++ (call_is c at ∷ []))
    D₁ = demand_3 A lo hi lo_short hi_short (earlier ++ (call_is c at ∷ []))

    same_start : (demanded earlier).demand.reading ≡ D₁.reading
    same_start = let p = (demanded earlier).demand.starts in let q = D₁.starts in cc

    before_is : plain_is before ≡ plain_after (demanded earlier).reading earlier
    before_is = reading_is s b cs made ∙ ap (λ (p : P.Plain). plain_after p earlier) (same earlier)

    view_is_lem : (plain_is before).view ≡ reading_after D₁.reading earlier
    view_is_lem = ap (λ (p : P.Plain). p.view) before_is ∙ (demanded earlier).same_readings ∙ ap (λ (v : View). reading_after v earlier) same_start

    handed_before : handed_in (code_answers cs) ≡ handed_in (answers D₁.reading earlier)
    handed_before =
        ap handed_in
        (answers_are s b cs made
        ∙ ap (λ (p : P.Plain). answers_plain p earlier) (same earlier)
        ∙ (demanded earlier).same_answers
        ∙ ap (λ (v : View). answers v earlier) same_start)

    -- the definition's call
    abbrev asked : P.PlainStep
    asked = call_plain (plain_is before) (call_is c at)

    answer_as_lem : asked.answer ≡ (call (reading_after D₁.reading earlier) (call_is c at)).answer
    answer_as_lem =
        ap (λ (p : P.Plain). (call_plain p (call_is c at)).answer) before_is
        ∙ (demanded earlier).same_call (call_is c at)
        ∙ ap (λ (v : View). (call (reading_after v earlier) (call_is c at)).answer) same_start

    allowed : CodeAllowed s c → Allowed (call_is c at)
    allowed h = record { same = h.same; room = h.room }

    end_none : CodeAllowed s c → c.step.answer ≡ Ok None → NoneLeft (fst_of s A.meta) lo hi (handed_in (code_answers cs))
    end_none h e =
        subst (NoneLeft (fst_of s A.meta) lo hi) (sym handed_before)
        ((D₁.end_exactly earlier [] (call_is c at) refl (allowed h)).0 (sym answer_as_lem ∙ end_of asked.answer (sym at.stepped.gave.answer ∙ e)))

    none_end : CodeAllowed s c → NoneLeft (fst_of s A.meta) lo hi (handed_in (code_answers cs)) → c.step.answer ≡ Ok None
    none_end h none_left =
        let e = (D₁.end_exactly earlier [] (call_is c at) refl (allowed h)).1 (subst (NoneLeft (fst_of s A.meta) lo hi) handed_before none_left) in
        at.stepped.gave.answer ∙ ap answer_as (answer_as_lem ∙ e)

    taken : CodeAllowed s c → (n : Refusal) → ¬ (c.step.answer ≡ Err n)
    taken h n e =
        (D₁.refused_exactly earlier [] (call_is c at) refl).0 (allowed h) n
        (sym answer_as_lem ∙ refused_of asked.answer n (sym at.stepped.gave.answer ∙ e))

    not_taken : ¬ CodeAllowed s c
        → (n : Refusal) × (c.step.answer ≡ Err n) × (plain_is c.step.reading ≡ plain_is before) × (c.after ≡ c.before)
    not_taken out =
        let w = (D₁.refused_exactly earlier [] (call_is c at) refl).1 (λ h. out (record { same = h.same; room = h.room })) in
        let n : R.next c.file (plain_is before).view (length c.before) ≡ R.refuse (plain_is before).view w.0 =
        ap (λ (v : View). call v (call_is c at)) view_is_lem ∙ w.1 ∙ ap (λ (v : View). R.refuse v w.0) (sym view_is_lem) in
        let q : asked ≡ record { answer = R.Answer.refused w.0; reading = plain_is before } = ap (P.counted_step (plain_is before)) n in (
          w.0,
          at.stepped.gave.answer ∙ ap (λ (o : P.PlainStep). answer_as o.answer) q,
          at.stepped.gave.plain ∙ ap (λ (o : P.PlainStep). o.reading) q,
          at.stepped.buffer ∙ ap (λ (o : P.PlainStep). written o.answer c.before) q,
        )

    at_most : (n : ℕ) → ((k : List ℕ) (v : ℕ) → Held (fst_of s A.meta) k v → length k ≤ n)
        → c.step.reading.reading.total ≤ before.reading.total + n
    at_most n most =
        let few : followed (plain_is before).view (call_is c at) ≤ n =
        subst (λ (v : View). followed v (call_is c at) ≤ n) (sym view_is_lem) (D₁.limit earlier [] (call_is c at) refl n most) in
        let o = R.next c.file (plain_is before).view (length c.before) in
        let one : o.reading.total ≤ before.reading.total + n = omega (arith, followed_at_most (plain_is before).view (call_is c at)) in
        let two = counted_total (plain_is before) o.reading o.answer (before.reading.total + n) one (omega arith) in
        omega (arith, ap (λ (p : P.Plain). p.view.total) at.stepped.gave.plain, two)

  pub demand_3_code : (cs : List CodeCall) → Made s b cs → DemandCode A lo hi b cs
  demand_3_code cs made =
      let W = code_as_defined cs made in
      let D = W.demand in
      let total_is : (last_reading b cs).reading.total ≡ (reading_after D.demand.reading (calls_is b cs made)).total =
      ap (λ (p : P.Plain). p.view.total) W.last_reading_lem ∙ ap (λ (v : View). v.total) D.same_readings in
      let handed_is : handed_in (answers_plain D.reading (calls_is b cs made)) ≡ D.demand.handed = ap handed_in D.same_answers ∙ handed_of D.demand in
      record {
        handed = D.demand.handed;
        ends = D.demand.ends;
        one_a_call = ap unrefused (W.same_answers ∙ D.same_answers) ∙ D.demand.one_a_call;
        held = D.demand.held;
        ascending = D.demand.ascending;
        none_left_out = D.demand.none_left_out;
        end_exactly = λ cs₁ cs₂ c is h.
            let w = made_apart s b cs₁ c cs₂ (subst (Made s b) is made) in
            (end_none cs₁ c w.0 w.1 h, none_end cs₁ c w.0 w.1 h);
        refused_exactly = λ cs₁ cs₂ c is.
            let w = made_apart s b cs₁ c cs₂ (subst (Made s b) is made) in
            (taken cs₁ c w.0 w.1, not_taken cs₁ c w.0 w.1);
        total_ended = λ not_shut pos.
            let w = D.demand.total_ended not_shut pos in
            (w.0, w.1, w.2, w.3, total_is ∙ w.4);
        total_before = λ z. let w = D.demand.total_before z in (w.0, w.1, total_is ∙ w.2);
        total_excluded = λ x. total_is ∙ D.demand.total_excluded x;
        limit = λ cs₁ cs₂ c is.
            let w = made_apart s b cs₁ c cs₂ (subst (Made s b) is made) in
            at_most cs₁ c w.0 w.1;
        keys_to_come =
            let last = ap (λ (p : P.Plain). p.keys) W.last_reading_lem in
            subst (NumberOf (StillToCome (fst_of s A.meta) lo hi (keys_out D.demand.handed))) (sym last)
            (subst (λ es. NumberOf (StillToCome (fst_of s A.meta) lo hi (keys_out es)) (plain_after D.reading (calls_is b cs made)).keys) handed_is D.keys_to_come);
      }
