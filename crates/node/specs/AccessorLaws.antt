-- The parts of a judged node's transition i, as the accessors read them.
-- Assumes nothing.
use Rattle.std.specs.Prelude.{Result, ◌≡◌, refl, false, List, ℕ, ◌+◌, ◌-◌, ◌≤◌, ◌<◌, get_or}
use Rattle.std.proofs.Common.{sym, ap, ◌∙◌, arith}
use Rattle.format.specs.declared.State.{State}
use Rattle.format.specs.declared.State.TheVariants.{OneTransNext, OneTrans, AnyTrans}
use Rattle.format.specs.declared.Transition.{Transition}
use Rattle.format.specs.Node.{bytes_down, numbers_down, inputs_at, inputs_in, target_of, TargetsRight, transition_at}
use Rattle.format.specs.Laws.StoredLaws.{get_d_bytes_down}
use Rattle.node.specs.declared.Node.{Node}
use Rattle.node.specs.Read.{transitions_in, node_inputs, node_deltas, Readable, Searchable, Finds}
use Rattle.node_sound.specs.Shapes.{is_any}
use Rattle.node.specs.ReadLaws.{node_transition, length_node_deltas}

module _ (s : List ℕ) (m : Node) (r : Readable s m) where
  -- the inputs and the index of a node with any number of transitions
  pub any_searchable : m.state ≡ AnyTrans → Searchable s (inputs_at m.outputs m.ntrans m.osize m.tsize) m.ntrans m.index_len
  any_searchable any = record {
    room = rw any at r.room;
    ascending = rw any at r.ascending;
    entries_len = r.entries_len;
    index = rw any at r.entries;
  }

  pub any_finds : (b : ℕ) (f : Result ℕ ℕ) → m.state ≡ AnyTrans → Finds (bytes_down s (inputs_at m.outputs m.ntrans m.osize m.tsize) m.ntrans) b f
      → Finds (node_inputs s m) b f
  any_finds b f any h = rw any h

module _ (s : List ℕ) (m : Node) (r : Readable s m) (i : ℕ) (l : i < m.ntrans) where
  transition_inp : (transition_at (transitions_in s m) i).inp ≡ get_or (node_inputs s m) i 0
  transition_inp = ap (λ (t : Transition). t.inp) (node_transition s m r i l)

  transition_addr : (transition_at (transitions_in s m) i).addr ≡ target_of m.first (get_or (node_deltas s m) i 0)
  transition_addr = ap (λ (t : Transition). t.addr) (node_transition s m r i l)

  pub input_any : m.state ≡ AnyTrans → get_or s (inputs_at m.outputs m.ntrans m.osize m.tsize + (m.ntrans - 1 - i)) 0 ≡ (transition_at (transitions_in s m) i).inp
  input_any any =
      let at = inputs_at m.outputs m.ntrans m.osize m.tsize in
      let same : get_or (node_inputs s m) i 0 ≡ get_or (bytes_down s at m.ntrans) i 0 = rw any in
      sym (transition_inp ∙ same ∙ get_d_bytes_down s at m.ntrans i l)

  first_only : is_any m.state ≡ false → i ≡ 0
  first_only one = omega (arith, r.single one)

  pub input_one : is_any m.state ≡ false → m.input ≡ (transition_at (transitions_in s m) i).inp
  input_one one = sym (transition_inp ∙ rw (first_only one) (go m.state one))
    where
      go : (st : State) → is_any st ≡ false → get_or (inputs_in st s (inputs_at m.outputs m.ntrans m.osize m.tsize) m.ntrans m.input) 0 0 ≡ m.input
      go OneTransNext e = refl
      go OneTrans e = refl
      go AnyTrans e = absurd (let z : ◌≡◌ {A = ℕ} 0 1 = cc in omega arith)

  pub output_is : get_or (numbers_down s m.outputs m.osize m.ntrans) i 0 ≡ (transition_at (transitions_in s m) i).out
  output_is = sym (ap (λ (t : Transition). t.out) (node_transition s m r i l))

  pub delta_next : m.state ≡ OneTransNext → 1 ≡ get_or (node_deltas s m) i 0
  delta_next next = let z : i ≡ 0 = first_only (rw next) in rw (next, z)

  -- what the target is, from the delta d
  module _ (d : ℕ) (is_d : d ≡ get_or (node_deltas s m) i 0) where
    pub delta_le : d ≤ m.first
    unfolding TargetsRight
    delta_le = rw is_d (r.targets i (omega (arith, length_node_deltas s m r))).reach

    pub target_is : (addr : ℕ) → addr ≡ target_of m.first d → addr ≡ (transition_at (transitions_in s m) i).addr
    target_is addr is_addr = is_addr ∙ sym (transition_addr ∙ rw (← is_d) refl)

  -- all three parts
  pub transition_is : (inp out addr : ℕ) → inp ≡ (transition_at (transitions_in s m) i).inp → out ≡ (transition_at (transitions_in s m) i).out
      → addr ≡ (transition_at (transitions_in s m) i).addr
      → ◌≡◌ {A = Transition} (record { inp = inp; out = out; addr = addr }) (transition_at (transitions_in s m) i)
  transition_is inp out addr is_inp is_out is_addr = rw (is_inp, is_out, is_addr)
