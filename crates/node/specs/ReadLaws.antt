-- Laws of `Read`: what callers and the accessors' proofs use of a judged node, without opening a definition.
-- Assumes nothing.
use Rattle.std.specs.Prelude.{Result, Ok, Err, ◌≡◌, refl, Bool, true, false, ◌⊎◌, List, [], ◌∷◌, map, ℕ, zero, suc, ◌≤◌, ◌<◌, eqb, length, get_or}
use Rattle.std.proofs.Common.{sym, ap, ◌∙◌, inl, inr, ⊎_elim, eq-or-lt_of_le, le_of_suc-le-suc, not-le_of_lt, arith, eqb-true}
use Rattle.std.proofs.lemmas.Bool.{eqb-false}
use Rattle.std.proofs.lemmas.List.{length-map}
use Rattle.std.proofs.Math.ListN.{get_or-map}
use Rattle.format.specs.declared.State.{State}
use Rattle.format.specs.declared.State.TheVariants.{OneTransNext, OneTrans, AnyTrans}
use Rattle.format.specs.Node.{numbers_down, inputs_at, deltas_at, inputs_in, deltas_in, target_of, Absent, Indexed, transition_at, find_input, Search, Gap, sound, unsound, node_at}
use Rattle.format.specs.Laws.StoredLaws.{length_bytes_down, length_numbers_down}
use Rattle.format.specs.Laws.TransitionLaws.{length_transitions_of, transition_at_of, find_input_at, find_input_absent, find_input_member, find_input_le}
use Rattle.node.specs.declared.Node.{Node}
use Rattle.node.specs.declared.Unsound.{Unsound}
use Rattle.node.specs.Read.{meaning, judged_is, Judges, transitions_in, node_inputs, node_deltas, Readable, search_is, Finds}
use Rattle.node_sound.specs.Shapes.{is_any}

-- ---- a place or none

pub finds_at : {bs : List ℕ} {b : ℕ} (i : ℕ) → i < length bs → get_or bs i 0 ≡ b → Finds bs b (Ok i)
finds_at {bs} {b} i l is = record {
  found = λ j e. let q : i ≡ j = cc in (rw (← q) l, rw (← q) is);
  missing = λ p e. absurd (let z : ◌≡◌ {A = ℕ} 0 1 = cc in omega arith);
}

pub finds_missing : {bs : List ℕ} {b : ℕ} (p : ℕ) → Gap (length bs) (λ i. get_or bs i 0) b p → Finds bs b (Err p)
finds_missing {bs} {b} p gap = record {
  found = λ j e. absurd (let z : ◌≡◌ {A = ℕ} 0 1 = cc in omega arith);
  missing = λ q e. let same : p ≡ q = cc in rw (← same) gap;
}

-- the one input is b, below it, or above it
pub single_here : {inp b : ℕ} → inp ≡ b → Finds (inp ∷ []) b (Ok 0)
single_here e = finds_at 0 (omega arith) e

pub single_below : {inp b : ℕ} → inp < b → Finds (inp ∷ []) b (Err 1)
single_below h =
    finds_missing 1 (record {
      within = omega arith;
      below = λ i l. let z : i ≡ 0 = omega arith in rw z h;
      above = λ i l m. absurd (omega arith);
    })

pub single_above : {inp b : ℕ} → b < inp → Finds (inp ∷ []) b (Err 0)
single_above h =
    finds_missing 0 (record {
      within = omega arith;
      below = λ i l. absurd (omega arith);
      above = λ i l m. let z : i ≡ 0 = omega arith in rw z h;
    })

-- a byte is at some place below k, or at none of them
pub find_or : (bs : List ℕ) (b k : ℕ) → ((j : ℕ) × (j < k) × (get_or bs j 0 ≡ b)) ⊎ ((j : ℕ) → j < k → ¬ (get_or bs j 0 ≡ b))
find_or bs b zero = inr (λ j l e. omega arith)
find_or bs b (suc k) = go (eqb (get_or bs k 0) b) refl (find_or bs b k)
  where
    go : (t : Bool) → eqb (get_or bs k 0) b ≡ t → ((j : ℕ) × (j < k) × (get_or bs j 0 ≡ b)) ⊎ ((j : ℕ) → j < k → ¬ (get_or bs j 0 ≡ b))
        → ((j : ℕ) × (j < suc k) × (get_or bs j 0 ≡ b)) ⊎ ((j : ℕ) → j < suc k → ¬ (get_or bs j 0 ≡ b))
    go true e r = inl (k, omega arith, eqb-true (get_or bs k 0) b e)
    go false e (inl (j, l, is)) = inl (j, omega arith, is)
    go false e (inr none) = inr (λ j l. ⊎_elim (λ q is. eqb-false (get_or bs k 0) b e (rw (← q) is)) (λ m. none j m) (eq-or-lt_of_le (le_of_suc-le-suc l)))

-- a right index: an entry below the count is the place of its byte
pub entry_finds : (bs es : List ℕ) (b i : ℕ) → Indexed bs es → b < 256 → i < length bs → i ≡ get_or es b 0 → Finds bs b (Ok i)
unfolding Absent
entry_finds bs es b i right byte lt is_i = finds_at i lt (⊎_elim here gone (find_or bs b (length bs)))
  where
    here : (j : ℕ) × (j < length bs) × (get_or bs j 0 ≡ b) → get_or bs i 0 ≡ b
    here (j, m, is) =
        let at : get_or es (get_or bs j 0) 0 ≡ j = right.present j m in
        let same : i ≡ j = is_i ∙ (rw is at at) in
        rw same is

    gone : ((j : ℕ) → j < length bs → ¬ (get_or bs j 0 ≡ b)) → get_or bs i 0 ≡ b
    gone none = absurd (not-le_of_lt lt (rw (← is_i) at (right.absent b byte none)))

-- ---- the transitions of a judged node

module _ (s : List ℕ) (m : Node) (r : Readable s m) where
  pub length_node_inputs : length (node_inputs s m) ≡ m.ntrans
  length_node_inputs = go m.state r.single
    where
      go : (st : State) → (is_any st ≡ false → m.ntrans ≡ 1)
          → length (inputs_in st s (inputs_at m.outputs m.ntrans m.osize m.tsize) m.ntrans m.input) ≡ m.ntrans
      go OneTransNext one = sym (one refl)
      go OneTrans one = sym (one refl)
      go AnyTrans one = length_bytes_down s (inputs_at m.outputs m.ntrans m.osize m.tsize) m.ntrans

  pub length_node_deltas : length (node_deltas s m) ≡ m.ntrans
  length_node_deltas = go m.state r.single
    where
      go : (st : State) → (is_any st ≡ false → m.ntrans ≡ 1)
          → length (deltas_in st s (deltas_at m.outputs m.ntrans m.osize) m.tsize m.ntrans) ≡ m.ntrans
      go OneTransNext one = sym (one refl)
      go OneTrans one = length_numbers_down s (deltas_at m.outputs m.ntrans m.osize) m.tsize m.ntrans
      go AnyTrans one = length_numbers_down s (deltas_at m.outputs m.ntrans m.osize) m.tsize m.ntrans

  outputs_len : length (numbers_down s m.outputs m.osize m.ntrans) ≡ length (node_inputs s m)
  outputs_len = length_numbers_down s m.outputs m.osize m.ntrans ∙ sym length_node_inputs

  targets_len : length (map (target_of m.first) (node_deltas s m)) ≡ length (node_inputs s m)
  targets_len = length-map (node_deltas s m) (target_of m.first) ∙ length_node_deltas ∙ sym length_node_inputs

  pub length_node_transitions : length (transitions_in s m) ≡ m.ntrans
  length_node_transitions =
      length_transitions_of (node_inputs s m) (numbers_down s m.outputs m.osize m.ntrans) (map (target_of m.first) (node_deltas s m)) outputs_len targets_len
      ∙ length_node_inputs

  pub node_transition : (i : ℕ) → i < m.ntrans
      → transition_at (transitions_in s m) i
      ≡ record {
        inp = get_or (node_inputs s m) i 0;
        out = get_or (numbers_down s m.outputs m.osize m.ntrans) i 0;
        addr = target_of m.first (get_or (node_deltas s m) i 0);
      }
  node_transition i l =
      transition_at_of (node_inputs s m) (numbers_down s m.outputs m.osize m.ntrans) (map (target_of m.first) (node_deltas s m)) i outputs_len targets_len
      (omega (arith, length_node_inputs))
      ∙ rw (get_or-map (target_of m.first) (node_deltas s m) i 0)

  pub node_find : (b : ℕ) (f : Result ℕ ℕ) → Finds (node_inputs s m) b f → search_is f ≡ find_input (transitions_in s m) b
  node_find b (Ok i) h =
      sym (find_input_at (node_inputs s m) (numbers_down s m.outputs m.osize m.ntrans) (map (target_of m.first) (node_deltas s m)) b outputs_len targets_len
      r.ascending i (h.found i refl).0 (h.found i refl).1)
  node_find b (Err p) h =
      sym (find_input_absent (node_inputs s m) (numbers_down s m.outputs m.osize m.ntrans) (map (target_of m.first) (node_deltas s m)) b outputs_len targets_len
      r.ascending p (h.missing p refl))

-- ---- what an answer says to a caller

module _ {s : List ℕ} {v root a : ℕ} {r : Result Node Unsound} (j : Judges s v root a r) where
  pub answer_sound : (m : Node) → r ≡ Ok m → node_at s v root a ≡ sound (meaning s m)
  answer_sound m e = sym j.answer ∙ ap (judged_is s) e

  pub answer_unsound : (e : Unsound) → r ≡ Err e → node_at s v root a ≡ unsound
  answer_unsound _ e = sym j.answer ∙ ap (judged_is s) e

-- the place that `find_input` answered
pub search_is_lem : (q : Search) (f : Result ℕ ℕ) → search_is f ≡ q → (i : ℕ) → f ≡ Ok i → q ≡ Search.at i
search_is_lem q f e i is = sym e ∙ ap search_is is

pub search_gone : (q : Search) (f : Result ℕ ℕ) → search_is f ≡ q → (p : ℕ) → f ≡ Err p → q ≡ Search.absent p
search_gone q f e p is = sym e ∙ ap search_is is

pub place_lt : (s : List ℕ) (m : Node) (r : Readable s m) (b i : ℕ) → find_input (transitions_in s m) b ≡ Search.at i → i < m.ntrans
place_lt s m r b i e = omega (arith, (find_input_member (transitions_in s m) b i e).0, length_node_transitions s m r)

pub gone_le : (s : List ℕ) (m : Node) (r : Readable s m) (b p : ℕ) → find_input (transitions_in s m) b ≡ Search.absent p → p ≤ m.ntrans
gone_le s m r b p e = omega (arith, find_input_le (transitions_in s m) b p e, length_node_transitions s m r)
