-- The sound node at an address whose state byte says that it has one transition.
--     Single m inp        the node m is not final, and its one transition has the input inp
--     state_single        its state has one of the two forms; single_node    such a node is one
--     single_packed       its bytes, with its target by a table; kept_packed    the same of what is kept of its input
--     target_in, target_le     where a transition leads, and where that went
--     kept_moves               what `first_moved` asks
--     judged-..                what the code read by the node's form is the node
-- Assumes nothing.
use Rattle.std.specs.Prelude.{Ok}
use Rattle.std.specs.Prelude.{◌≡◌, refl, true, false, ◌⊎◌, ℕ, ◌+◌, ◌-◌, ◌/◌, ◌%◌, ◌≤◌, ◌<◌, length, get_or}
use Rattle.std.proofs.Common.{sym, ap, ◌∙◌, subst, true≢false, inl, inr, ⊎_elim, arith}
use Rattle.std.proofs.Math.Decide.{dec_le}
use mathlib.Core.List.{List, map}
use Rattle.std.proofs.lemmas.List.{length-map}
use Rattle.format.specs.declared.Transition.{Transition}
use Rattle.format.specs.declared.State.{State}
use Rattle.format.specs.declared.State.TheVariants.{OneTransNext, OneTrans, AnyTrans}
use Rattle.format.specs.Node.{Node, sound, SoundAt, input_of, node_of, ntrans_in, ntrans_of, sizes_byte, size_of, outputs_at, state_form, is_final, transitions_of, transition_at, numbers_down, down_from, stored_transitions}
use Rattle.format.specs.Packed.{BuilderNode, TargetOk, TargetsOk, has_one, packed}
use Rattle.format.specs.Paths.{node_in, fst_with}
use Rattle.format.specs.Laws.NodeLaws.{node_at_sound, form_any, not_final}
use Rattle.format.specs.Laws.TransitionLaws.{at_member}
use Rattle.node_sound.specs.JudgingLaws.{sound_low}
use Rattle.node_sound.specs.Shapes.{is_any}
use Rattle.node.specs.declared.Node as N
use Rattle.node.specs.Read.{meaning, transitions_in, Readable, Judges}
use Rattle.node.specs.ReadLaws.{answer_sound, length_node_transitions}
use Rattle.converting.specs.Converting.{record_by}
use Rattle.converting.specs.Laws.LayLaws.{get_d_map_lt}
use Rattle.node_compile.specs.Parts.{Code}
use Rattle.node_compile.specs.One.{one_bytes}
use Rattle.node_compile.specs.OneLaws.{bytes_packed}
use Rattle.convert_size.specs.Sizes.{entry_in, Sizable, first_input, OneKept, SizableAt}

-- a target that RECORD passes does not lie past F
within_one : (first t : ℕ) → TargetOk first t → t ≤ first
unfolding TargetOk
within_one first t ok = ⊎_elim (λ z. omega arith) (λ q. omega arith) ok

within : (first : ℕ) (ts : List ℕ) → TargetsOk first ts → (i : ℕ) → i < length ts → get_or ts i 0 ≤ first
unfolding TargetsOk
within first ts all i l = within_one first (get_or ts i 0) (all i l)

pub record Single (m : Node) (inp : ℕ) : Type 0 where
  pub final : m.final ≡ false
  pub one : length m.transitions ≡ 1
  pub input : (transition_at m.transitions 0).inp ≡ inp

-- one transition is stored, whatever its form
stored_single : (s : List ℕ) (st : State) → is_any st ≡ false → (first n tsize osize inp outputs : ℕ) → n ≡ 1
    → (length (stored_transitions s st first n tsize osize inp outputs) ≡ 1) × ((transition_at (stored_transitions s st first n tsize osize inp outputs) 0).inp ≡ inp)
unfolding transitions_of numbers_down down_from
stored_single s OneTransNext e first n tsize osize inp outputs is = rw is (refl, refl)
stored_single s OneTrans e first n tsize osize inp outputs is = rw is (refl, refl)
stored_single s AnyTrans e first n tsize osize inp outputs is = absurd (true≢false e)

-- the forms 10 and 11
pub state_single : {st : State} (byte : ℕ) → st ≡ state_form byte → (st ≡ OneTrans) ⊎ (st ≡ OneTransNext) → is_any (state_form byte) ≡ false
state_single byte is (inl e) = ap is_any (sym is ∙ e)
state_single byte is (inr e) = ap is_any (sym is ∙ e)

-- the state byte of such a form
single_low : (state : ℕ) → is_any (state_form state) ≡ false → 128 ≤ state
single_low state form =
    elim (dec_le 128 state) [ yes p ↦ p | no p ↦ absurd (true≢false (sym (ap is_any (form_any state (omega arith))) ∙ form)) ]

count_single : (st : State) → is_any st ≡ false → (s : List ℕ) (a : ℕ) → ntrans_in st s a ≡ 1
count_single OneTransNext e s a = refl
count_single OneTrans e s a = refl
count_single AnyTrans e s a = absurd (true≢false e)

pub single_node : (s : List ℕ) (v a : ℕ) → is_any (state_form (get_or s a 0)) ≡ false → Single (node_of s v a) (input_of s a)
unfolding node_of ntrans_of
single_node s v a form =
    let q =
    stored_single s (state_form (get_or s a 0)) form (a + 1 - size_of s v a) (ntrans_of s a) (sizes_byte s a / 16) (sizes_byte s a % 16) (input_of s a)
    (outputs_at (a + 1 - size_of s v a) (is_final (get_or s a 0)) (sizes_byte s a % 16)) (count_single (state_form (get_or s a 0)) form s a) in
    record { final = not_final (get_or s a 0) (single_low (get_or s a 0) form); one = q.0; input = q.1 }

-- ---- its bytes

module _ {m : Node} {inp : ℕ} (is : Single m inp) (first : ℕ) (moved : List ℕ) where
  abbrev ts : List Transition
  ts = m.transitions

  abbrev b : BuilderNode
  b = record_by (entry_in moved) m

  has_one_lem : has_one b ≡ true
  has_one_lem = rw (is.final, length-map ts (λ (t : Transition). t.inp), is.one) refl

  listed : (h : Transition → ℕ) → 0 < length (map h ts)
  listed h = omega (arith, length-map ts h, is.one)

  pub single_packed : (idx rare out to target : ℕ) → Code inp idx rare → out ≡ (transition_at ts 0).out → to ≡ (transition_at ts 0).addr → target ≡ entry_in moved to
      → one_bytes first idx rare out target ≡ packed first b
  single_packed idx rare out to target code is_out is_to is_target =
      bytes_packed first b idx rare out target has_one_lem
      (subst (λ (x : ℕ). Code x idx rare) (sym (get_d_map_lt (λ (t : Transition). t.inp) ts 0 (listed (λ (t : Transition). t.inp)) ∙ is.input)) code)
      (is_out ∙ sym (get_d_map_lt (λ (t : Transition). t.out) ts 0 (listed (λ (t : Transition). t.out))))
      (is_target ∙ ap (entry_in moved) is_to ∙ sym (get_d_map_lt (λ (t : Transition). entry_in moved t.addr) ts 0 (listed (λ (t : Transition). entry_in moved t.addr))))

-- the same of a node with what is kept of its input
pub kept_packed : {m : Node} {idx rare : ℕ} → OneKept m idx rare → (first : ℕ) (moved : List ℕ) (out to target : ℕ) → out ≡ (transition_at m.transitions 0).out
    → to ≡ (transition_at m.transitions 0).addr → target ≡ entry_in moved to → one_bytes first idx rare out target ≡ packed first (record_by (entry_in moved) m)
kept_packed {m} {idx} {rare} kept first moved out to target is_out is_to is_target =
    single_packed {m = m} {inp = first_input m} (record { final = kept.final; one = kept.one; input = refl }) first moved idx rare out to target kept.code is_out is_to is_target

-- ---- its target

module _ {m : Node} {first : ℕ} {moved : List ℕ} (ok : Sizable m first moved) (i : ℕ) (l : i < length m.transitions) where
  pub target_in : (to : ℕ) → to ≡ (transition_at m.transitions i).addr → to < length moved
  target_in to is = rw is (ok.in_moved (transition_at m.transitions i) (at_member m.transitions i l))

  pub target_le : (to target : ℕ) → to ≡ (transition_at m.transitions i).addr → target ≡ entry_in moved to → target ≤ first
  target_le to target is_to is_target =
      let h : Transition → ℕ = λ (t : Transition). entry_in moved t.addr in
      let lt : i < length (map (λ (t : Transition). entry_in moved t.addr) m.transitions) = omega (arith, length-map m.transitions (λ (t : Transition). entry_in moved t.addr)) in
      let q = within first _ ok.fits.targets_ok i lt in
      subst (λ (x : ℕ). x ≤ first) (get_d_map_lt (λ (t : Transition). entry_in moved t.addr) m.transitions i lt ∙ sym (is_target ∙ ap (entry_in moved) is_to)) q

-- a node with one transition has a first, and its target lies within the table
pub kept_moves : {s : List ℕ} {r : N.Node} {idx rare first : ℕ} {moved : List ℕ} → Readable s r → OneKept (meaning s r) idx rare → Sizable (meaning s r) first moved
    → Readable s r × (0 < r.ntrans) × ((transition_at (transitions_in s r) 0).addr < length moved)
kept_moves {s} {r} read kept ok =
    let listed : 0 < length (transitions_in s r) = omega (arith, kept.one) in
    (read, omega (arith, kept.one, length_node_transitions s r read), target_in ok 0 listed _ refl)

-- ---- a node that the code read by its form

module _ {s : List ℕ} {v root a : ℕ} {r : N.Node} (j : Judges s v root a (Ok r)) where
  pub judged_at : node_in (fst_with s v root) a ≡ sound (meaning s r)
  judged_at = answer_sound j r refl

  pub judged_same : (m : Node) → node_in (fst_with s v root) a ≡ sound m → meaning s r ≡ m
  judged_same m e = let e' = judged_at in cc

  pub judged_sizable : {first : ℕ} {moved : List ℕ} → SizableAt (fst_with s v root) a first moved → Sizable (meaning s r) first moved
  judged_sizable ok = ok.each (meaning s r) judged_at

  -- of the forms 10 and 11
  module _ (at : SoundAt s v root a) (form : is_any (state_form (get_or s a 0)) ≡ false) where
    pub judged_single : Single (meaning s r) (input_of s a)
    judged_single =
        let low = sound_low s v root a at in
        let is = judged_same (node_of s v a) (node_at_sound s v root a (λ z. omega arith) at) in
        subst (λ (m : Node). Single m (input_of s a)) (sym is) (single_node s v a form)

    pub judged_listed : 0 < length (transitions_in s r)
    judged_listed = omega (arith, judged_single.one)

    pub judged_count : 0 < r.ntrans
    judged_count = omega (arith, judged_single.one, length_node_transitions s r (j.readable r refl))

    -- what is kept of its input by the old state byte
    pub judged_kept : {idx rare : ℕ} → Code (input_of s a) idx rare → OneKept (meaning s r) idx rare
    judged_kept {idx} {rare} code =
        let is = judged_single in
        record { final = is.final; one = is.one; code = subst (λ (x : ℕ). Code x idx rare) (sym is.input) code }

    -- where the length alone is asked, any input may be called rare: this one is
    pub judged_kept_own : {idx rare : ℕ} → Code (input_of s a) idx rare → OneKept (meaning s r) idx (first_input (meaning s r))
    judged_kept_own code =
        let kept = judged_kept code in
        record { final = kept.final; one = kept.one; code = record { is = kept.code.is; rare_is = λ _. refl } }
