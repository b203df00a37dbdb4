-- One step of a lookup by value: which transition of a node fits what is left, and what each way out of the judging functions says.
-- Assumes nothing.
use Rattle.std.specs.Prelude.{Ok, Err, ◌≡◌, refl, true, false, ◌&&◌, ◌⊎◌, List, ℕ, ◌+◌, ◌-◌, ◌≤◌, ◌<◌, eqb, length, get_or}
use Rattle.std.proofs.Common.{sym, ap, ◌∙◌, inl, inr, eq-or-lt_of_le, arith, below_more}
use Rattle.format.specs.declared.Transition.{Transition}
use Rattle.format.specs.Node as F
use Rattle.format.specs.Node.{numbers_down, target_of, transition_at, SoundAt, node_at}
use Rattle.format.specs.Laws.NodeLaws.{node_at_unsound, node_at_blank}
use Rattle.format.specs.Laws.StoredLaws.{length_numbers_down}
use Rattle.format.specs.Laws.LookupLaws.{Scanned, fitting_last, fitting_none, key_goes_on_value, key_goes_on_final}
use Rattle.node.specs.declared.Node.{Node}
use Rattle.node.specs.Read.{Readable, Judges, meaning, transitions_in, node_deltas, empty_node}
use Rattle.node.specs.ReadLaws.{node_transition, length_node_transitions}
use Rattle.node.specs.AccessorLaws.{output_is}
use Rattle.node.specs.JudgedLaws.{judged_empty}
use Rattle.node_choice.specs.declared.Choice.{Choice}
use Rattle.node_choice.specs.declared.Choice.TheVariants.{Ends, To as Along, Absent as Missing}
use Rattle.node_choice.specs.Choices.{Leading, fitting_in, choice_in, fit_of}

-- ---- the first i numbers are not above v

pub record Passed (os : List ℕ) (v i : ℕ) : Type 0 where
  pub within : i ≤ length os
  pub fit : (j : ℕ) → j < i → get_or os j 0 ≤ v

pub passed_none : (os : List ℕ) (v : ℕ) → Passed os v 0
passed_none os v = record { within = omega arith; fit = λ j l. absurd (omega arith) }

pub passed_step : {os : List ℕ} {v i : ℕ} (x : ℕ) → x ≡ get_or os i 0 → i < length os → x ≤ v → Passed os v i → Passed os v (i + 1)
passed_step {os} {v} {i} x is_x l fits p = record { within = omega arith; fit = below_more _ i p.fit (rw is_x at fits) }

pub leading_stop : {os : List ℕ} {v i : ℕ} (x : ℕ) → x ≡ get_or os i 0 → v < x → Passed os v i → Leading os v i
leading_stop x is_x over p = record { within = p.within; fit = p.fit; stop = inr (rw is_x at over) }

pub leading_all : {os : List ℕ} {v i : ℕ} (n : ℕ) → length os ≡ n → n ≤ i → Passed os v i → Leading os v n
leading_all n len past p = record { within = omega arith; fit = λ j l. p.fit j (omega arith); stop = inl (sym len) }

-- ---- one number

pub single_over : {os : List ℕ} {v : ℕ} (x : ℕ) → x ≡ get_or os 0 0 → v < x → Leading os v 0
single_over {os} {v} x is_x over = leading_stop x is_x over (passed_none os v)

pub single_fits : {os : List ℕ} {v : ℕ} (x : ℕ) → length os ≡ 1 → x ≡ get_or os 0 0 → x ≤ v → Leading os v 1
single_fits {os} {v} x len is_x fits = leading_all 1 len (omega arith) (passed_step x is_x (omega arith) fits (passed_none os v))

-- ---- the transition of a node that can be read

module _ (s : List ℕ) (m : Node) (r : Readable s m) (v : ℕ) where
  abbrev outs : List ℕ
  outs = numbers_down s m.outputs m.osize m.ntrans

  abbrev ts : List Transition
  ts = transitions_in s m

  outs_len : length outs ≡ m.ntrans
  outs_len = length_numbers_down s m.outputs m.osize m.ntrans

  same_len : length outs ≡ length ts
  same_len = outs_len ∙ sym (length_node_transitions s m r)

  scanned : (k : ℕ) → Leading outs v k → Scanned ts v k
  scanned k h = record {
    within = omega (arith, h.within, same_len);
    fit = λ j l. rw (← output_is s m r j (omega (arith, h.within, outs_len))) (h.fit j l);
  }

  stops : (k : ℕ) → Leading outs v k → (k ≡ length ts) ⊎ (v < (transition_at ts k).out)
  stops k h = go (eq-or-lt_of_le h.within) h.stop
    where
      go : (k ≡ length outs) ⊎ (k < length outs) → (k ≡ length outs) ⊎ (v < get_or outs k 0) → (k ≡ length ts) ⊎ (v < (transition_at ts k).out)
      go (inl e) stop = inl (e ∙ same_len)
      go (inr l) (inl e) = inl (e ∙ same_len)
      go (inr l) (inr over) = inr (rw (← output_is s m r k (omega (arith, outs_len))) over)

  -- no transition fits
  pub choice_none : (k : ℕ) → k ≡ 0 → Leading outs v k → Missing ≡ fitting_in ts v
  choice_none k z h = rw (fitting_none (scanned k h) (stops k h) z)

  pub count_lt : (k : ℕ) → ¬ (k ≡ 0) → Leading outs v k → k - 1 < m.ntrans
  count_lt k ne h = omega (arith, h.within, outs_len)

  -- the last that fits
  pub choice_to : (k inp out target : ℕ) → ¬ (k ≡ 0) → Leading outs v k → inp ≡ (transition_at ts (k - 1)).inp → out ≡ get_or outs (k - 1) 0
      → target ≡ target_of m.first (get_or (node_deltas s m) (k - 1) 0) → Along (record { inp = inp; out = out; addr = target }) ≡ fitting_in ts v
  choice_to k inp out target ne h is_inp is_out is_target =
      let l = count_lt k ne h in
      let at_out : out ≡ (transition_at ts (k - 1)).out = is_out ∙ output_is s m r (k - 1) l in
      let at_target : target ≡ (transition_at ts (k - 1)).addr = is_target ∙ sym (ap (λ (t : Transition). t.addr) (node_transition s m r (k - 1) l)) in
      rw (fitting_last (scanned k h) (stops k h) (omega arith), is_inp, at_out, at_target)

-- ---- the answers

-- the search ends at the node, or goes on
pub choice_ends : (m : F.Node) (v : ℕ) → (eqb v 0 && m.final) ≡ true → Ends ≡ choice_in m v
choice_ends m v e = rw e

pub choice_on : (m : F.Node) (v : ℕ) (c : Choice) → (eqb v 0 && m.final) ≡ false → c ≡ fitting_in m.transitions v → c ≡ choice_in m v
choice_on m v c e is_c = rw e is_c

module _ (s : List ℕ) (v root a left : ℕ) where
  pub fit_no : ¬ (a ≡ 0) → ¬ SoundAt s v root a → Err (record {}) ≡ fit_of (node_at s v root a) left
  fit_no ne not_sound = rw (node_at_unsound s v root a ne not_sound)

  pub fit_yes : (m : Node) (c : Choice) → Judges s v root a (Ok m) → c ≡ choice_in (meaning s m) left → Ok c ≡ fit_of (node_at s v root a) left
  fit_yes m c j is_c = rw (← j.answer, is_c)

  -- the search ends at the node
  pub fit_ends : (m : Node) → Judges s v root a (Ok m) → (eqb left 0 && m.is_final) ≡ true → Ok Ends ≡ fit_of (node_at s v root a) left
  fit_ends m j e = fit_yes m Ends j (choice_ends (meaning s m) left e)

  -- or goes on, as it does at each node that is not final
  pub fit_goes : (m : Node) (c : Choice) → Judges s v root a (Ok m) → (eqb left 0 && m.is_final) ≡ false → c ≡ fitting_in (transitions_in s m) left
      → Ok c ≡ fit_of (node_at s v root a) left
  fit_goes m c j e is_c = fit_yes m c j (choice_on (meaning s m) left c e is_c)

  pub fit_on : (m : Node) (c : Choice) → Judges s v root a (Ok m) → m.is_final ≡ false → c ≡ fitting_in (transitions_in s m) left → Ok c ≡ fit_of (node_at s v root a) left
  fit_on m c j not_final = fit_goes m c j (key_goes_on_final left m.is_final not_final)

-- no bytes, no node
pub fit_blank : (s : List ℕ) (v root a left : ℕ) → length s ≡ 0 → Err (record {}) ≡ fit_of (node_at s v root a) left
fit_blank s v root a left z = rw (node_at_blank s v root a z)

-- address 0 is final and has no transition
pub fit_empty_ends : (s : List ℕ) (v root left : ℕ) → ¬ (length s ≡ 0) → left ≡ 0 → Ok Ends ≡ fit_of (node_at s v root 0) left
fit_empty_ends s v root left some z = fit_yes s v root 0 left empty_node Ends (judged_empty s v root (omega arith)) (rw z)

pub fit_empty_none : (s : List ℕ) (v root left : ℕ) → ¬ (length s ≡ 0) → ¬ (left ≡ 0) → Ok Missing ≡ fit_of (node_at s v root 0) left
fit_empty_none s v root left some ne =
    let j = judged_empty s v root (omega arith) in
    let os : List ℕ = numbers_down s 0 0 0 in
    fit_yes s v root 0 left empty_node Missing j
    (choice_on (meaning s empty_node) left Missing (key_goes_on_value left true ne)
    (choice_none s empty_node (j.readable empty_node refl) left 0 refl (leading_all 0 (length_numbers_down s 0 0 0) (omega arith) (passed_none os left))))
