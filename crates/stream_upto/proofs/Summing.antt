-- The keys from the targets of a node's first transitions, added one by one to a total.
--     SummedTo c ts t i s          the total t with those of the first i of ts is s
--     below_at, below_absent       the smaller inputs are the first ones, as many as the place that the search for the byte answers
--     has_entries, has_entry       the table has an entry for each target of a sound node
-- Assumes nothing.
use Rattle.std.specs.Prelude.{Option}
use mathlib.Core.Path.{◌≡◌, ap, ◌∙◌}
use mathlib.Core.List.{List}
use Prim.Native.Nat.{ℕ, ◌+◌, ◌≤◌, ◌<◌}
use native.Mathlib.Omega.{arith}
use native.Mathlib.Decide.{ℕ_discrete}
use native.Mathlib.Numerals.{add-one}
use lib.ListN.{length, take}
use Rattle.format.specs.declared.Transition.{Transition}
use Rattle.format.specs.Node.{Node, sound, Search, find_input, transition_at}
use Rattle.format.specs.Paths.{Fst, node_in}
use Rattle.format.specs.Tables.{sum_of, keys_at}
use Rattle.format.specs.Laws.KeysLaws.{sum_take_step}
use Rattle.format.specs.Laws.NodeFacts.{node_ascending, node_inside, node_target_lt, node_zero_none, find_member}
use Rattle.format.specs.Laws.TransitionLaws.{search_absent, at_member}
use Rattle.plain.specs.Numbers.{keys_below}
use Rattle.plain.proofs.UpToLaws.{below_take}
use Rattle.stream_upto.specs.Counts.{HasEntry, HasEntries, total_as, added_to}
use Rattle.stream_upto.proofs.TotalLaws.{added_total}

abbrev pub first_keys : List ℕ → ℕ → List Transition → ℕ
first_keys c i ts = sum_of (λ (t : Transition). keys_at c t.addr) (take i ts)

-- ---- the loop

pub record SummedTo (c : List ℕ) (ts : List Transition) (t : Option ℕ) (i : ℕ) (s : Option ℕ) : Type 0 where
  pub is : (n : ℕ) → t ≡ total_as n → s ≡ total_as (n + first_keys c i ts)

pub summed_none : (c : List ℕ) (ts : List Transition) (t : Option ℕ) → SummedTo c ts t 0 t
unfolding sum_of
summed_none c ts t = record { is = λ n e. let z : n ≡ n + 0 = omega arith in e ∙ ap total_as z }

pub summed_step : {c : List ℕ} {ts : List Transition} {t : Option ℕ} {i : ℕ} {s : Option ℕ} → SummedTo c ts t i s → i < length ts → (a : ℕ)
    → a ≡ (transition_at ts i).addr → (k : ℕ) → k ≡ keys_at c a → (s' : Option ℕ) → s' ≡ added_to s k → SummedTo c ts t (i + 1) s'
summed_step {c} {ts} {t} {i} {s} h l a a_is k k_is s' s_is = record {
  is = λ n e.
      let step = sum_take_step (λ (u : Transition). keys_at c u.addr) ts i l in
      let more : n + first_keys c i ts + keys_at c (transition_at ts i).addr ≡ n + first_keys c (i + 1) ts = rw (add-one i) (omega (arith, step)) in
      s_is
      ∙ ap (λ u. added_to u k) (h.is n e)
      ∙ added_total (n + first_keys c i ts) k
      ∙ ap (λ u. total_as (n + first_keys c i ts + u)) (k_is ∙ ap (keys_at c) a_is)
      ∙ ap total_as more;
}

-- ---- the smaller inputs

module _ (f : Fst) (a : ℕ) (m : Node) (e : node_in f a ≡ sound m) where
  pub below_at : (c : List ℕ) (b p : ℕ) → find_input m.transitions b ≡ Search.at p → keys_below c b m.transitions ≡ first_keys c p m.transitions
  below_at c b p found =
      let q = find_member f a m e b p found in
      below_take c b m.transitions p (λ i l h. omega (arith, node_ascending f a m e i p l q.0, q.1))
      (λ i l h.
      elim (ℕ_discrete i p) [
        | yes z ↦ rw z (omega (arith, q.1))
        | no z ↦ omega (arith, node_ascending f a m e p i (omega arith) h, q.1)
      ])

  pub below_absent : (c : List ℕ) (b p : ℕ) → find_input m.transitions b ≡ Search.absent p → keys_below c b m.transitions ≡ first_keys c p m.transitions
  below_absent c b p gone =
      let g = (search_absent m.transitions (node_ascending f a m e) b p).0 gone in
      below_take c b m.transitions p (λ i l h. g.below i l) (λ i l h. omega (arith, g.above i l h))

  -- targets lie below their node, and the node lies in the file
  pub has_entries : (c : List ℕ) → length f.bytes ≤ length c → HasEntries c m.transitions
  has_entries c long = record {
    each = λ t mem. record {
      inside = λ ne.
          let some : ¬ (a ≡ 0) = λ z. node_zero_none f a m e z t mem in
          omega (arith, node_target_lt f a m e t mem, node_inside f a m e some);
    };
  }

-- the entry of transition i's target
pub has_entry : {c : List ℕ} {ts : List Transition} → HasEntries c ts → (i : ℕ) → i < length ts → (a : ℕ) → a ≡ (transition_at ts i).addr → HasEntry c a
has_entry {c} {ts} h i l a is = rw is (h.each (transition_at ts i) (at_member ts i l))
