-- One node, by the entries of its targets: what is known after the first i of its transitions.
--     CountedTo ..        their keys and the node's own, as a total
-- Assumes nothing.
use Rattle.std.specs.Prelude.{Option, Some}
use mathlib.Core.Path.{◌≡◌, sym, ap, ◌∙◌}
use mathlib.Core.Bool.{Bool, true, false}
use mathlib.Core.List.{List}
use Prim.Native.Nat.{ℕ, ◌+◌, ◌≤◌, ◌<◌}
use native.Mathlib.Numerals.{add-one}
use native.Mathlib.Decide.{dec_le}
use native.Mathlib.Omega.{arith}
use borrow.Author.Tests.{le-leb, lt-leb}
use lib.ListN.{length, take}
use lib.Seq.{take_all}
use Rattle.format.specs.declared.Transition.{Transition}
use Rattle.format.specs.Limits.{max_sum}
use Rattle.format.specs.Node.{transition_at}
use Rattle.format.specs.Tables.{one, sum_of, keys_at}
use Rattle.format.specs.Laws.TransitionLaws.{at_member}
use Rattle.format.specs.Laws.KeysLaws.{sum_take_step}
use Rattle.admission_node.specs.Entries.{total_as}
use Rattle.admission_node.specs.TotalLaws.{total_of_le}
use Rattle.counting_node.specs.CountNodes.{added_to, keys_by, Inside}

-- ---- a total and more

added_total : (n x : ℕ) → added_to (total_as n) x ≡ total_as (n + x)
added_total n x =
    elim (dec_le n max_sum) [
      | yes p ↦ rw (le-leb n max_sum p)
      | no p ↦ rw (lt-leb n max_sum (omega arith)) (rw (lt-leb (n + x) max_sum (omega arith)))
    ]

-- ---- the loop

keys_more : (c : List ℕ) (final : Bool) (ts : List Transition) (i : ℕ) → i < length ts
    → keys_by c final (take (i + 1) ts) ≡ keys_by c final (take i ts) + keys_at c (transition_at ts i).addr
unfolding keys_by
keys_more c final ts i l = rw add-one (omega (arith, sum_take_step (λ t. keys_at c t.addr) ts i l))

one_low : (b : Bool) → one b ≤ 1
one_low true = omega arith
one_low false = omega arith

pub record CountedTo (c : List ℕ) (final : Bool) (ts : List Transition) (i : ℕ) (total : Option ℕ) : Type 0 where
  pub total_is : total ≡ total_as (keys_by c final (take i ts))

pub counted_none : (c : List ℕ) (final : Bool) (ts : List Transition) (n : ℕ) → n ≡ one final → CountedTo c final ts 0 (Some n)
unfolding keys_by sum_of
counted_none c final ts n e =
    let same : n ≡ one final + 0 = omega arith in
    record { total_is = total_of_le n (omega (arith, one_low final)) ∙ ap total_as same }

module _ {c : List ℕ} {ts : List Transition} (i : ℕ) (l : i < length ts) (a : ℕ) (a_is : a ≡ (transition_at ts i).addr) where
  pub target_inside : Inside c ts → a < length c
  target_inside ok = rw a_is (ok.each (transition_at ts i) (at_member ts i l))

  pub counted_step : {final : Bool} {total : Option ℕ} (k : ℕ) (total' : Option ℕ) → CountedTo c final ts i total → k ≡ keys_at c a → total' ≡ added_to total k
      → CountedTo c final ts (i + 1) total'
  counted_step {final} k total' before k_is now_is_lem =
      let child : k ≡ keys_at c (transition_at ts i).addr = k_is ∙ ap (keys_at c) a_is in
      record {
        total_is =
            now_is_lem
            ∙ ap (λ u. added_to u k) before.total_is
            ∙ added_total (keys_by c final (take i ts)) k
            ∙ ap (λ u. total_as (keys_by c final (take i ts) + u)) child
            ∙ ap total_as (sym (keys_more c final ts i l));
      }

pub counted_all : {c : List ℕ} {final : Bool} {ts : List Transition} {i : ℕ} {total : Option ℕ} → CountedTo c final ts i total → length ts ≤ i
    → total ≡ total_as (keys_by c final ts)
counted_all {c} {final} {ts} {i} h l = h.total_is ∙ ap (λ u. total_as (keys_by c final u)) (take_all i ts l)
