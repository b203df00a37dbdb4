-- The lookup by key as a loop: what the loop knows before each turn, the turn, and each way out. The answer is always that of the whole walk.
--     Looking f key i a sum        i bytes of the key have led to the node at a, with this sum
-- Assumes nothing.
use mathlib.Core.Path.{◌≡◌, ap, ◌∙◌}
use mathlib.Core.List.{List, ◌∷◌}
use Prim.Native.Nat.{ℕ, ◌+◌, ◌≤◌, ◌<◌}
use native.Mathlib.Numerals.{add-one}
use native.Mathlib.Omega.{arith}
use lib.ListN.{length, get_or, drop}
use lib.Seq.{drop-cons}
use Rattle.format.specs.Limits.{max_sum, NODE}
use Rattle.format.specs.Node.{Node, sound, unsound, Search, find_input, transition_at}
use Rattle.format.specs.Paths.{Fst, node_in}
use Rattle.format.specs.Lookup.{Answer, get_from}
use Rattle.format.specs.Laws.LookupLaws.{get_from_unsound, get_from_absent, get_from_step}

pub record Looking (f : Fst) (key : List ℕ) (i a sum : ℕ) : Type 0 where
  pub within : i ≤ length key
  pub same : get_from f key f.root 0 ≡ get_from f (drop i key) a sum

pub looking_unsound : {f : Fst} {key : List ℕ} {i a sum : ℕ} → Looking f key i a sum → node_in f a ≡ unsound → get_from f key f.root 0 ≡ Answer.refused NODE
looking_unsound {f} {key} {i} {a} {sum} h e = h.same ∙ get_from_unsound f (drop i key) a sum e

module _ {f : Fst} {key : List ℕ} {i a sum : ℕ} (h : Looking f key i a sum) (m : Node) (e : node_in f a ≡ sound m) where
  module _ (fits : sum ≤ max_sum) where
    -- a byte is left
    module _ (more : i < length key) where
      next_byte : get_from f key f.root 0 ≡ get_from f (get_or key i 0 ∷ drop (i + 1) key) a sum
      next_byte = h.same ∙ ap (λ k. get_from f k a sum) (rw (add-one, drop-cons key i 0))

      pub looking_absent : {p : ℕ} → find_input m.transitions (get_or key i 0) ≡ Search.absent p → get_from f key f.root 0 ≡ Answer.none
      looking_absent none = next_byte ∙ get_from_absent f a sum m e fits (get_or key i 0) (drop (i + 1) key) none

      pub looking_step : (j : ℕ) → find_input m.transitions (get_or key i 0) ≡ Search.at j
          → Looking f key (i + 1) (transition_at m.transitions j).addr (sum + (transition_at m.transitions j).out)
      looking_step j found =
          record { within = omega arith; same = next_byte ∙ get_from_step f a sum m e fits (get_or key i 0) (drop (i + 1) key) j found }
