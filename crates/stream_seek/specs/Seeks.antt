-- What the parts of a start's walk along the lower bound answer, against `R.seek` (document 01, "A reading").
--     hit_at m p                    the transition p of a node, where a byte was found
--     enter_of f a b                a byte looked for at the node at a; place_in, the place in the answer
--     sought_is r ..                what the walk along the lower bound found, its levels in the arrays
--     SoughtAs w r ..              the answer and the arrays of a walk that finds w by definition
-- Assumes nothing.
use Rattle.std.specs.Prelude.{◌≡◌, List, ℕ, Ok, Err, Result}
use Rattle.format.specs.declared.Refusal.{Refusal}
use Rattle.format.specs.Node.{Node, find_input, transition_at}
use Rattle.format.specs.Paths.{Fst, node_in}
use Rattle.reading.specs.Reading as R
use Rattle.reading.specs.Reading.{on_node, on_search, got}
use Rattle.node.specs.declared.Unsound.{Unsound}
use Rattle.stream_seek.specs.declared.Hit.{Hit}
use Rattle.stream_levels.specs.Stacks.{Arrays, stack_is}

abbrev pub hit_at : Node → ℕ → Hit
hit_at m p = record { place = p; target = (transition_at m.transitions p).addr; output = (transition_at m.transitions p).out }

unfoldable pub enter_of : Fst → ℕ → ℕ → Result (Result Hit ℕ) Unsound
enter_of f a b = on_node (node_in f a) (λ m. on_search (find_input m.transitions b) (λ p. Ok (Ok (hit_at m p))) (λ p. Ok (Err p))) (Err (record {}))

abbrev pub place_in : Result (Result Hit ℕ) Unsound → ℕ
place_in (Ok (Ok h)) = h.place
place_in (Ok (Err p)) = p
place_in (Err u) = 0

abbrev pub sought_is : Result ℕ Refusal → List ℕ → List ℕ → List ℕ → List ℕ → R.Sought
sought_is (Ok n) xs is ps os = got (stack_is n xs is ps os)
sought_is (Err n) xs is ps os = R.Sought.halted n

pub record SoughtAs (w : R.Sought) (r : Result ℕ Refusal) (xs is ps os : List ℕ) : Type 0 where
  pub arrays : Arrays xs is ps os
  pub found : sought_is r xs is ps os ≡ w
