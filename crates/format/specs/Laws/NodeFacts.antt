-- What `node_in f a ≡ sound m` says of the node m, so that nothing above opens a definition of `Node`.
--     Stored f a m                  a node other than the one at address 0: its stored lists and the conditions on them
--     node_zero                     address 0
--     node-first-.., node_inside    where its bytes lie; node_room, one for each transition at least
--     node_target, node_target_lt   where its transitions lead
--     node_ascending, node_same     its inputs are distinct
--     node-..-lt, node_count        its numbers, in a file of bytes
--     find_member, find_none, find_some     what the place of an input says
-- Assumes nothing.
use Rattle.std.specs.Prelude.{◌≡◌, refl, Bool, true, false, cond, ◌⊎◌, ℕ, ◌+◌, ◌-◌, ◌*◌, ◌/◌, ◌%◌, ◌^◌, ◌≤◌, ◌<◌, eqb, length, take, drop}
use Rattle.std.proofs.Common.{sym, ◌∙◌, ⊎_elim, lt_of_lt_of_le, arith, length-take, get_or-take, get_or-drop}
use Rattle.std.proofs.Math.Path.{ap}
use Rattle.std.proofs.Math.Logic.{inl, inr}
use mathlib.Core.List.Memᴰ
use mathlib.Core.List.{List, map, Memᴰ}
use Rattle.std.proofs.Math.Decide.{ℕ_discrete, dec_lt}
use Rattle.std.proofs.Math.ListN.{get_or, get_or-map}
use Rattle.std.proofs.lemmas.List.{length-map}
use Rattle.format.specs.declared.State.{State}
use Rattle.format.specs.declared.State.TheVariants.{OneTransNext, OneTrans, AnyTrans}
use Rattle.format.specs.declared.Transition.{Transition}
use Rattle.format.specs.Bytes.{le}
use Rattle.format.specs.Laws.BytesLaws.{le_lt, pow_256_le}
use Rattle.format.specs.Laws.CommonInputsLaws.{common_input_lt}
use Rattle.format.specs.Node.{state_form, is_final, low_bits, head_len, input_of, ntrans_of, sizes_byte, end_len, sizes_len, inputs_len, index_len, size_of, shape_of, first_of, outputs_at, deltas_at, inputs_at, numbers_down, inputs_in, deltas_in, shape_inputs, shape_deltas, target_of, Node, transitions_of, node_of, Ascending, TargetsRight, Useful, SoundAt, sound, empty_final, Search, find_input, transition_at}
use Rattle.format.specs.Laws.NodeLaws.{node_at_cases}
use Rattle.format.specs.Laws.StoredLaws.{length_bytes_down, get_d_bytes_down, length_numbers_down, get_d_numbers_down}
use Rattle.format.specs.Laws.HeadLaws.{input_of_byte, input_of_common, ntrans_next, ntrans_one}
use Rattle.format.specs.Laws.TransitionLaws.{length_transitions_of, transition_at_of, ascends_by, ascends_lt, member_at, at_member, find_input_member, find_input_none}
use Rattle.format.specs.Paths.{Fst, node_in}

-- ---- the stored lists

head_len_pos : (s : List ℕ) (a : ℕ) → 1 ≤ head_len s a
unfolding head_len
head_len_pos s a = go (eqb (low_bits s a) 0)
  where
    go : (t : Bool) → 1 ≤ cond t 2 1
    go true = omega arith
    go false = omega arith

size_pos : (s : List ℕ) (v a : ℕ) → 1 ≤ size_of s v a
unfolding size_of
size_pos s v a = omega (arith, head_len_pos s a)

-- a node has a byte for each transition
ntrans_le_size : (s : List ℕ) (v a : ℕ) → ntrans_of s a ≤ size_of s v a
unfolding size_of
ntrans_le_size s v a = go (state_form (get_or s a 0)) refl
  where
    go : (st : State) → state_form (get_or s a 0) ≡ st
        → ntrans_of s a
        ≤ end_len (is_final (get_or s a 0)) (sizes_byte s a % 16) + ntrans_of s a * (sizes_byte s a % 16) + ntrans_of s a * (sizes_byte s a / 16) + inputs_len st (ntrans_of s a)
        + index_len v (ntrans_of s a) + sizes_len st + head_len s a
    go OneTransNext form = omega (arith, ntrans_next s a form, head_len_pos s a)
    go OneTrans form = omega (arith, ntrans_one s a form, head_len_pos s a)
    go AnyTrans form = omega arith

-- a stored number of at most 8 bytes
number_lt : (s : List ℕ) (i k : ℕ) → ((i : ℕ) → get_or s i 0 < 256) → k ≤ 8 → le (take k (drop i s)) < 2 ^ 64
number_lt s i k bytes few =
    let short : length (take k (drop i s)) ≤ k = rw length-take (omega arith) in
    lt_of_lt_of_le
    (le_lt (take k (drop i s)) (λ j l. rw (get_or-take k (drop i s) j 0 (omega arith), get_or-drop i s j 0) (bytes (i + j))))
    (pow_256_le {j = length (take k (drop i s))} {k = 8} (omega arith))

input_lt : (s : List ℕ) (a : ℕ) → ((i : ℕ) → get_or s i 0 < 256) → input_of s a < 256
input_lt s a bytes =
    elim (ℕ_discrete (low_bits s a) 0) [
      | yes z ↦ rw (input_of_byte s a z) (bytes (a - 1))
      | no z ↦ rw (input_of_common s a z) (common_input_lt (low_bits s a) (omega arith) (omega arith))
    ]

module _ (s : List ℕ) (a at : ℕ) where
  length_inputs_in : length (inputs_in (state_form (get_or s a 0)) s at (ntrans_of s a) (input_of s a)) ≡ ntrans_of s a
  length_inputs_in = go (state_form (get_or s a 0)) refl
    where
      go : (st : State) → state_form (get_or s a 0) ≡ st → length (inputs_in st s at (ntrans_of s a) (input_of s a)) ≡ ntrans_of s a
      go OneTransNext form = sym (ntrans_next s a form)
      go OneTrans form = sym (ntrans_one s a form)
      go AnyTrans form = length_bytes_down s at (ntrans_of s a)

  length_deltas_in : (k : ℕ) → length (deltas_in (state_form (get_or s a 0)) s at k (ntrans_of s a)) ≡ ntrans_of s a
  length_deltas_in k = go (state_form (get_or s a 0)) refl
    where
      go : (st : State) → state_form (get_or s a 0) ≡ st → length (deltas_in st s at k (ntrans_of s a)) ≡ ntrans_of s a
      go OneTransNext form = sym (ntrans_next s a form)
      go OneTrans form = length_numbers_down s at k (ntrans_of s a)
      go AnyTrans form = length_numbers_down s at k (ntrans_of s a)

  inputs_in_lt : ((i : ℕ) → get_or s i 0 < 256) → (i : ℕ) → i < ntrans_of s a
      → get_or (inputs_in (state_form (get_or s a 0)) s at (ntrans_of s a) (input_of s a)) i 0 < 256
  inputs_in_lt bytes i l = go (state_form (get_or s a 0)) refl
    where
      go : (st : State) → state_form (get_or s a 0) ≡ st → get_or (inputs_in st s at (ntrans_of s a) (input_of s a)) i 0 < 256
      go OneTransNext form = let z : i ≡ 0 = omega (arith, ntrans_next s a form) in rw z (input_lt s a bytes)
      go OneTrans form = let z : i ≡ 0 = omega (arith, ntrans_one s a form) in rw z (input_lt s a bytes)
      go AnyTrans form = rw (get_d_bytes_down s at (ntrans_of s a) i l) (bytes (at + (ntrans_of s a - 1 - i)))

-- a node with bytes: what it stores, and what makes it sound
pub record Stored (f : Fst) (a : ℕ) (m : Node) : Type 0 where
  pub inputs : List ℕ
  pub outputs : List ℕ
  pub deltas : List ℕ
  pub is : m.transitions ≡ transitions_of inputs outputs (map (target_of m.first) deltas)
  pub length_outputs : length outputs ≡ length inputs
  pub length_deltas : length deltas ≡ length inputs
  pub inside : a < length f.bytes
  pub below : a ≤ f.root
  pub low : 16 ≤ m.first
  pub high : m.first ≤ a
  pub room : m.first + length inputs ≤ a + 1
  pub ascending : Ascending inputs
  pub targets : TargetsRight m.first deltas
  pub useful : (m.final ≡ true) ⊎ ((0 < length inputs) ⊎ (a ≡ f.root))
  pub not_final : m.final ≡ false → m.final_output ≡ 0
  pub inputs_lt : ((i : ℕ) → get_or f.bytes i 0 < 256) → (i : ℕ) → i < length inputs → get_or inputs i 0 < 256
  pub outputs_lt : ((i : ℕ) → get_or f.bytes i 0 < 256) → (i : ℕ) → i < length inputs → get_or outputs i 0 < 2 ^ 64
  pub final_lt : ((i : ℕ) → get_or f.bytes i 0 < 256) → m.final_output < 2 ^ 64

end_le : (final : Bool) (k : ℕ) → k ≤ 8 → end_len final k ≤ 8
end_le true k h = h
end_le false k h = omega arith

sound_stored : (f : Fst) (a : ℕ) → SoundAt f.bytes f.version f.root a → Stored f a (node_of f.bytes f.version a)
unfolding node_of Useful le
sound_stored f a h =
    let s = f.bytes in
    let v = f.version in
    let first = first_of s v a in
    let final = is_final (get_or s a 0) in
    let osize = sizes_byte s a % 16 in
    let outputs = outputs_at first final osize in
    let tsize = sizes_byte s a / 16 in
    let inputs = inputs_at outputs (ntrans_of s a) osize tsize in
    let n = length_inputs_in s a inputs in
    let n' = length_numbers_down s outputs osize (ntrans_of s a) in
    let pos = size_pos s v a in
    record {
      inputs = shape_inputs s a (shape_of s v a) first;
      outputs = numbers_down s outputs osize (ntrans_of s a);
      deltas = shape_deltas s (shape_of s v a) first;
      is = refl;
      length_outputs = n' ∙ sym n;
      length_deltas = length_deltas_in s a (deltas_at outputs (ntrans_of s a) osize) tsize ∙ sym n;
      inside = h.inside;
      below = h.below;
      low = omega (arith, h.above);
      high = omega (arith, h.above);
      room = omega (arith, h.above, n, ntrans_le_size s v a);
      ascending = h.ascending;
      targets = h.targets;
      useful = rw n h.useful;
      not_final = λ e. rw e;
      inputs_lt = λ bytes i l. inputs_in_lt s a inputs bytes i (omega arith);
      outputs_lt = λ bytes i l.
          rw (get_d_numbers_down s outputs osize (ntrans_of s a) i (omega arith))
          (number_lt s (outputs + (ntrans_of s a - 1 - i) * osize) osize bytes h.sizes.osize_le);
      final_lt = λ bytes. number_lt s first (end_len final osize) bytes (end_le final osize h.sizes.osize_le);
    }

-- ---- the transitions, by place

module _ {f : Fst} {a : ℕ} {m : Node} (st : Stored f a m) where
  length_targets : length (map (target_of m.first) st.deltas) ≡ length st.inputs
  length_targets = length-map st.deltas (target_of m.first) ∙ st.length_deltas

  pub stored_length : length m.transitions ≡ length st.inputs
  stored_length =
      ap (λ (ts : List Transition). length ts) st.is
      ∙ length_transitions_of st.inputs st.outputs (map (target_of m.first) st.deltas) st.length_outputs length_targets

  pub stored_at : (i : ℕ) → i < length m.transitions
      → transition_at m.transitions i ≡ record { inp = get_or st.inputs i 0; out = get_or st.outputs i 0; addr = target_of m.first (get_or st.deltas i 0) }
  stored_at i l =
      ap (λ (ts : List Transition). transition_at ts i) st.is
      ∙ transition_at_of st.inputs st.outputs (map (target_of m.first) st.deltas) i st.length_outputs length_targets (omega (arith, stored_length))
      ∙ rw (get_or-map (target_of m.first) st.deltas i 0)

  stored_inp : (i : ℕ) → i < length m.transitions → (transition_at m.transitions i).inp ≡ get_or st.inputs i 0
  stored_inp i l = ap (λ (t : Transition). t.inp) (stored_at i l)

  stored_target : (i : ℕ) → i < length m.transitions
      → ((transition_at m.transitions i).addr ≡ 0) ⊎ ((16 ≤ (transition_at m.transitions i).addr) × ((transition_at m.transitions i).addr < m.first))
  unfolding TargetsRight
  stored_target i l =
      let d = get_or st.deltas i 0 in
      let is : (transition_at m.transitions i).addr ≡ target_of m.first d = ap (λ (t : Transition). t.addr) (stored_at i l) in
      let right = st.targets i (omega (arith, stored_length, st.length_deltas)) in
      elim (ℕ_discrete (target_of m.first d) 0) [ yes z ↦ inl (is ∙ z) | no z ↦ inr (rw is (right.low z), rw is (right.high z)) ]

-- ---- the node at an address

module _ (f : Fst) (a : ℕ) (m : Node) (e : node_in f a ≡ sound m) where
  pub node_zero : a ≡ 0 → m ≡ empty_final
  node_zero z = ⊎_elim (λ h. h.1) (λ h. absurd (h.0 z)) (node_at_cases f.bytes f.version f.root a m e)

  pub node_stored : ¬ (a ≡ 0) → Stored f a m
  node_stored ne = ⊎_elim (λ h. absurd (ne h.0)) (λ h. rw h.2 (sound_stored f a h.1)) (node_at_cases f.bytes f.version f.root a m e)

  -- address 0 has no transitions
  pub node_zero_none : a ≡ 0 → (t : Transition) → Memᴰ t m.transitions → ⊥
  node_zero_none z t mem = Memᴰ.not-nil (rw (node_zero z) at mem)

  node_zero_length : a ≡ 0 → length m.transitions ≡ 0
  node_zero_length z = rw (node_zero z)

  pub node_first_low : ¬ (a ≡ 0) → 16 ≤ m.first
  node_first_low ne = (node_stored ne).low

  pub node_first_le : ¬ (a ≡ 0) → m.first ≤ a
  node_first_le ne = (node_stored ne).high

  pub node_room : ¬ (a ≡ 0) → m.first + length m.transitions ≤ a + 1
  node_room ne = let st = node_stored ne in omega (arith, st.room, stored_length st)

  pub node_inside : ¬ (a ≡ 0) → a < length f.bytes
  node_inside ne = (node_stored ne).inside

  pub node_below : ¬ (a ≡ 0) → a ≤ f.root
  node_below ne = (node_stored ne).below

  pub node_target : (t : Transition) → Memᴰ t m.transitions → (t.addr ≡ 0) ⊎ ((16 ≤ t.addr) × (t.addr < m.first))
  node_target t mem =
      elim (ℕ_discrete a 0) [
        | yes z ↦ absurd (node_zero_none z t mem)
        | no z ↦ let p = member_at mem in rw p.2 at (stored_target (node_stored z) p.0 p.1)
      ]

  pub node_target_lt : (t : Transition) → Memᴰ t m.transitions → t.addr < a
  node_target_lt t mem =
      elim (ℕ_discrete a 0) [
        | yes z ↦ absurd (node_zero_none z t mem)
        | no z ↦ let le = node_first_le z in ⊎_elim (λ h. omega arith) (λ h. omega arith) (node_target t mem)
      ]

  pub node_ascending : (i j : ℕ) → i < j → j < length m.transitions → (transition_at m.transitions i).inp < (transition_at m.transitions j).inp
  node_ascending i j h l =
      elim (ℕ_discrete a 0) [
        | yes z ↦ absurd (omega (arith, node_zero_length z))
        | no z ↦
            let st = node_stored z in
            rw (stored_inp st i (omega arith), stored_inp st j l) (ascends_lt st.inputs st.ascending i j h (omega (arith, stored_length st)))
      ]

  pub node_same : (t u : Transition) → Memᴰ t m.transitions → Memᴰ u m.transitions → t.inp ≡ u.inp → t ≡ u
  node_same t u mt mu same = go (member_at mt) (member_at mu)
    where
      go : (i : ℕ) × (i < length m.transitions) × (transition_at m.transitions i ≡ t)
          → (j : ℕ) × (j < length m.transitions) × (transition_at m.transitions j ≡ u) → t ≡ u
      go (i, li, is_t) (j, lj, is_u) =
          let eq : (transition_at m.transitions i).inp ≡ (transition_at m.transitions j).inp =
          ap (λ (x : Transition). x.inp) is_t ∙ same ∙ ap (λ (x : Transition). x.inp) (sym is_u) in
          elim (ℕ_discrete i j) [
            | yes z ↦ sym is_t ∙ ap (transition_at m.transitions) z ∙ is_u
            | no z ↦ elim (dec_lt i j) [
              | yes l ↦ absurd (omega (arith, node_ascending i j l lj))
              | no l ↦ absurd (omega (arith, node_ascending j i (omega arith) li))
            ]
          ]

  pub node_not_final : m.final ≡ false → m.final_output ≡ 0
  node_not_final nf =
      elim (ℕ_discrete a 0) [
        | yes z ↦ ap (λ (x : Node). x.final_output) (node_zero z)
        | no z ↦ (node_stored z).not_final nf
      ]

  pub node_useful : ¬ (a ≡ 0) → (m.final ≡ true) ⊎ ((0 < length m.transitions) ⊎ (a ≡ f.root))
  node_useful ne = let st = node_stored ne in rw (stored_length st) st.useful

  -- ---- in a file of bytes

  module _ (bytes : (i : ℕ) → get_or f.bytes i 0 < 256) where
    pub node_count : length m.transitions ≤ 256
    node_count =
        elim (ℕ_discrete a 0) [
          | yes z ↦ omega (arith, node_zero_length z)
          | no z ↦ elim (dec_lt 256 (length m.transitions)) [
            | yes l ↦
                let st = node_stored z in
                absurd (omega (arith, ascends_by st.inputs st.ascending 0 256 (omega (arith, stored_length st)), st.inputs_lt bytes 256 (omega (arith, stored_length st))))
            | no l ↦ omega arith
          ]
        ]

    pub node_inp_lt : (t : Transition) → Memᴰ t m.transitions → t.inp < 256
    node_inp_lt t mem =
        elim (ℕ_discrete a 0) [
          | yes z ↦ absurd (node_zero_none z t mem)
          | no z ↦
              let st = node_stored z in
              let p = member_at mem in
              let is : t.inp ≡ get_or st.inputs p.0 0 = ap (λ (x : Transition). x.inp) (sym p.2 ∙ stored_at st p.0 p.1) in
              rw is (st.inputs_lt bytes p.0 (omega (arith, p.1, stored_length st)))
        ]

    pub node_out_lt : (t : Transition) → Memᴰ t m.transitions → t.out < 2 ^ 64
    node_out_lt t mem =
        elim (ℕ_discrete a 0) [
          | yes z ↦ absurd (node_zero_none z t mem)
          | no z ↦
              let st = node_stored z in
              let p = member_at mem in
              let is : t.out ≡ get_or st.outputs p.0 0 = ap (λ (x : Transition). x.out) (sym p.2 ∙ stored_at st p.0 p.1) in
              rw is (st.outputs_lt bytes p.0 (omega (arith, p.1, stored_length st)))
        ]

    pub node_final_lt : m.final_output < 2 ^ 64
    node_final_lt =
        elim (ℕ_discrete a 0) [
          | yes z ↦ omega (arith, ap (λ (x : Node). x.final_output) (node_zero z))
          | no z ↦ (node_stored z).final_lt bytes
        ]

  -- ---- the place of an input

  pub find_member : (b i : ℕ) → find_input m.transitions b ≡ Search.at i → (i < length m.transitions) × ((transition_at m.transitions i).inp ≡ b)
  find_member b i found = find_input_member m.transitions b i found

  pub find_none : (b : ℕ) {p : ℕ} → find_input m.transitions b ≡ Search.absent p → (t : Transition) → Memᴰ t m.transitions → ¬ (t.inp ≡ b)
  find_none b none t mem = find_input_none m.transitions b none t mem

  pub find_some : (b : ℕ) (t : Transition) → Memᴰ t m.transitions → t.inp ≡ b
      → (i : ℕ) × (i < length m.transitions) × (find_input m.transitions b ≡ Search.at i) × (transition_at m.transitions i ≡ t)
  find_some b t mem is = go (find_input m.transitions b) refl
    where
      go : (p : Search) → find_input m.transitions b ≡ p
          → (i : ℕ) × (i < length m.transitions) × (find_input m.transitions b ≡ Search.at i) × (transition_at m.transitions i ≡ t)
      go (Search.at i) found =
          let q = find_member b i found in
          (i, q.0, found, node_same (transition_at m.transitions i) t (at_member m.transitions i q.0) mem (q.1 ∙ sym is))
      go (Search.absent p) none = absurd (find_none b none t mem is)
