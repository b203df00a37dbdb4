-- Laws of plain readings, call by call.
--     plain_key                    a key comes from a call without the number, with the same reading
--     plain_started                a plain reading is one that a start without the number gives
--     runs_plain                   a run, with a number that has all of its keys
--     whole_plain                  a plain reading run to its end
--     end_stays_plain              after "end" each later call with the file and enough buffer answers "end" and changes nothing
--     end_refuses_plain            a later call that is short of buffer, or with a file of another length, is refused and changes nothing
-- Assumes nothing.
use Rattle.std.specs.Prelude.{◌≡◌, refl, Bool, true, false, cond, List, ℕ, suc, ◌-◌, ◌≤◌, eqb, leb, length}
use Rattle.std.proofs.Common.{sym, ap, ◌∙◌, subst, arith, ne_eqb}
use mathlib.Core.List.Memᴰ
use Rattle.std.proofs.lemmas.List.{length-map}
use Rattle.format.specs.declared.Refusal.{Refusal}
use Rattle.format.specs.Limits.{max_path, BOUND, SPACE}
use Rattle.format.specs.Opening.{Opening, opened, opening}
use Rattle.format.specs.Opening as Opening
use Rattle.format.specs.Paths.{fst_of, Held}
use Rattle.format.specs.Admitted.{Admitted}
use Rattle.format.specs.Strings.{Bound, Between, NumberOf}
use Rattle.format.specs.Laws.NumberOfLaws.{number_unique}
use Rattle.reading.specs.Reading.{bound_bytes, on_opened, bounds_test, View, Started, started, start, Answer, key, end, next}
use Rattle.reading.specs.Demand.{Call, Allowed, Entry, hand_out}
use Rattle.reading.proofs.DemandLaws.{reading₀, start_given}
use Rattle.reading.specs.WholeRun.{Runs, Whole}
use Rattle.reading.specs.WholeRun as W
use Rattle.reading.proofs.WholeLaws.{whole}
use Rattle.reading.proofs.EndLaws.{end_stays, end_refuses}
use Rattle.plain.specs.Numbers.{Tally, comes_to, number, TableFits}
use Rattle.plain.specs.Numbers as Numbers
use Rattle.plain.specs.Plain.{Plain, plain_with, Begun, begun, then_number, start_plain, counting, counted_step, next_plain, call_plain}
use Rattle.plain.proofs.NumberLaws.{HeldBetween}
use Rattle.plain.proofs.PlainLaws.{right, start_numbered, keys_mem}
use Rattle.plain.specs.PlainDemand.{keys_out}
use Rattle.plain.specs.PlainRun.{RunsPlain, run_end, run_key, WholePlain}

-- ---- one call

refused_not_key : {n : Refusal} {k : List ℕ} {v : ℕ} → ¬ (◌≡◌ {A = Answer} (Answer.refused n) (key k v))
refused_not_key e = let z : ◌≡◌ {A = ℕ} 0 1 = cc in omega arith

end_not_key : {k : List ℕ} {v : ℕ} → ¬ (◌≡◌ {A = Answer} end (key k v))
end_not_key e = let z : ◌≡◌ {A = ℕ} 0 1 = cc in omega arith

refused_not_end : {n : Refusal} → ¬ (◌≡◌ {A = Answer} (Answer.refused n) end)
refused_not_end e = let z : ◌≡◌ {A = ℕ} 0 1 = cc in omega arith

pub plain_key : (p : Plain) (r : View) (a : Answer) (k : List ℕ) (v : ℕ) → (counting p r a).answer ≡ key k v → (a ≡ key k v) × ((counting p r a).reading.view ≡ r)
plain_key p r (key l u) k v e = by (eqb p.keys 0) refl
  where
    by : (b : Bool) → eqb p.keys 0 ≡ b → (key l u ≡ key k v) × ((counting p r (key l u)).reading.view ≡ r)
    by true z = absurd (refused_not_key (rw z at e))
    by false z = (rw z at e, rw z)
plain_key p r end k v e = absurd (end_not_key e)
plain_key p r (Answer.refused n) k v e = absurd (refused_not_key e)

pub plain_end : (p : Plain) (r : View) (a : Answer) → (counting p r a).answer ≡ end → (a ≡ end) × ((counting p r a).reading ≡ plain_with r p.keys)
plain_end p r (key l u) e = by (eqb p.keys 0) refl
  where
    by : (b : Bool) → eqb p.keys 0 ≡ b → (key l u ≡ end) × ((counting p r (key l u)).reading ≡ plain_with r p.keys)
    by true z = absurd (refused_not_end (rw z at e))
    by false z = absurd (end_not_key (sym (rw z at e)))
plain_end p r end e = (refl, refl)
plain_end p r (Answer.refused n) e = absurd (refused_not_end e)

-- ---- a start

-- a plain reading is one that a start without the number gives
pub plain_started : (s : List ℕ) (lo hi : Bound) (c : List ℕ) (p : Plain) → start_plain s lo hi c ≡ begun p → start s lo hi ≡ started p.view
unfolding start_plain
plain_started s lo hi c p e = opens (opening s) refl e
  where
    refused_not_begun : {n : Refusal} {q : Plain} → ¬ (Begun.refused n ≡ begun q)
    refused_not_begun e = let z : ◌≡◌ {A = ℕ} 0 1 = cc in omega arith

    numbered : (w : Started) (t : Tally) → then_number w t ≡ begun p → w ≡ started p.view
    numbered (started r) (comes_to n) q = let same : r ≡ p.view = cc in ap started same
    numbered (started r) (Numbers.refused n) q = absurd (refused_not_begun q)
    numbered (Started.refused n) t q = absurd (refused_not_begun q)

    tests : (b d : Bool) (w : Begun) → cond b (cond d w (Begun.refused SPACE)) (Begun.refused BOUND) ≡ begun p → w ≡ begun p
    tests true true w q = q
    tests true false w q = absurd (refused_not_begun q)
    tests false d w q = absurd (refused_not_begun q)

    opens : (o : Opening) → opening s ≡ o
        → on_opened o
        (λ m. cond (bounds_test lo hi) (cond (leb (length s) (length c)) (then_number (start s lo hi) (number (fst_of s m) c lo hi)) (Begun.refused SPACE)) (Begun.refused BOUND))
        (λ n. Begun.refused n)
        ≡ begun p
        → start s lo hi ≡ started p.view
    opens (opened m) is q =
        numbered (start s lo hi) (number (fst_of s m) c lo hi)
        (tests (bounds_test lo hi) (leb (length s) (length c)) (then_number (start s lo hi) (number (fst_of s m) c lo hi)) q)
    opens (Opening.refused n) is q = absurd (refused_not_begun q)

-- ---- a run

pub runs_plain : {s : List ℕ} {space : ℕ} {r r' : View} {es : List Entry} → Runs s space r es r' → RunsPlain s space (plain_with r (length es)) es (plain_with r' 0)
runs_plain {r = r} (W.run_end e) = run_end (ap (counted_step (plain_with r 0)) e)
runs_plain {r = r} (W.run_key {r₁ = r₁} {es = es} e is rest) =
    let less : suc (length es) - 1 ≡ length es = omega arith in
    let some : counted_step (plain_with r (suc (length es))) (record { answer = hand_out e; reading = r₁ }) ≡ record { answer = hand_out e; reading = plain_with r₁ (length es) } =
    rw (ne_eqb (suc (length es)) 0 (λ z. omega arith), less) in
    run_key e (ap (counted_step (plain_with r (suc (length es)))) is ∙ some) (runs_plain rest)

-- the keys of a whole run are all that lie between the bounds
whole_number : {s : List ℕ} (A : Admitted s) (lo hi : Bound) (space : ℕ) (W : Whole A lo hi space) → NumberOf (HeldBetween (fst_of s A.meta) lo hi) (length (W).entries)
whole_number {s} A lo hi space W =
    record {
      strings = keys_out (W).entries;
      rising = (W).ascending;
      such = λ k on. keys_mem (W).entries (W).held k on;
      all = λ k h. Memᴰ.map (λ (e : Entry). e.key) ((W).none_left k h.0 h.1 h.2);
      number = length-map (W).entries (λ (e : Entry). e.key);
    }

module _ {s : List ℕ} (A : Admitted s) (lo hi : Bound) (short_lo : length (bound_bytes lo) ≤ max_path) (short_hi : length (bound_bytes hi) ≤ max_path)
    (c : List ℕ) (long : length s ≤ length c) (fits : TableFits (fst_of s A.meta) lo hi c) (space : ℕ) (room : max_path ≤ space) where
  pub whole_plain : WholePlain A lo hi c space
  whole_plain =
      let W : Whole A lo hi space = whole A lo hi short_lo short_hi space room in
      let n = right A lo hi short_lo short_hi c long fits in
      let all : n.keys ≡ length (W).entries =
      number_unique (HeldBetween (fst_of s A.meta) lo hi) n.keys (length (W).entries) n.right (whole_number A lo hi space W) in
      let given = start_given A lo hi short_lo short_hi in
      let began = (W).starts in
      let same : reading₀ A lo hi short_lo short_hi ≡ (W).reading = cc in
      record { whole = W; starts = start_numbered A lo hi short_lo short_hi c long fits ∙ rw (same, all); runs = runs_plain (W).runs }

-- ---- after "end"

module _ (s : List ℕ) (p : Plain) (space : ℕ) (ends : (next_plain s p space).answer ≡ end) where
  abbrev pub after : Plain
  after = (next_plain s p space).reading

  at_end : ((next s p.view space).answer ≡ end) × (after ≡ plain_with (next s p.view space).reading p.keys)
  at_end = plain_end p (next s p.view space).reading (next s p.view space).answer ends

  pub end_stays_plain : (space' : ℕ) → max_path ≤ space' → next_plain s after space' ≡ record { answer = end; reading = after }
  end_stays_plain space' room =
      subst (λ (q : Plain). next_plain s q space' ≡ record { answer = end; reading = q }) (sym at_end.1)
      (ap (counted_step (plain_with (next s p.view space).reading p.keys)) (end_stays s p.view space at_end.0 space' room))

  pub end_refuses_plain : (c : Call s) → ¬ Allowed c → (n : Refusal) × (call_plain after c ≡ record { answer = Answer.refused n; reading = after })
  end_refuses_plain c out =
      let w = end_refuses s p.view space at_end.0 c out in
      subst (λ (q : Plain). (n : Refusal) × (call_plain q c ≡ record { answer = Answer.refused n; reading = q })) (sym at_end.1)
      (w.0, ap (counted_step (plain_with (next s p.view space).reading p.keys)) w.1)
