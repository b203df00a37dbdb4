-- One step of a lookup by value, as a definition over what judging a node says.
--     fitting_in ts v          the transition of ts that fits what is left, v
--     fit_of j v               one step of a lookup by value, from what judging says
--     Leading os v r          r of the leading numbers of os are not above v
-- Assumes nothing.
use Rattle.std.specs.Prelude.{Result, Ok, Err, ◌≡◌, cond, ◌&&◌, ◌⊎◌, List, ℕ, ◌≤◌, ◌<◌, eqb, length, get_or}
use Rattle.format.specs.declared.Transition.{Transition}
use Rattle.format.specs.Node as F
use Rattle.format.specs.Node.{Judgement, sound, unsound, Place, at, absent}
use Rattle.format.specs.Lookup.{last_fitting}
use Rattle.node.specs.declared.Unsound.{Unsound}
use Rattle.node_choice.specs.declared.Choice.{Choice}
use Rattle.node_choice.specs.declared.Choice.TheVariants.{Ends, To as Along, Absent as Missing}

-- the transition at this place
abbrev pub choice_as : List Transition → Place → Choice
choice_as ts (at i) = Along (F.transition_at ts i)
choice_as ts absent = Missing

abbrev pub fitting_in : List Transition → ℕ → Choice
fitting_in ts v = choice_as ts (last_fitting ts v)

-- the search ends where nothing is left and the node is final
abbrev pub choice_in : F.Node → ℕ → Choice
choice_in m v = cond (eqb v 0 && m.final) Ends (fitting_in m.transitions v)

-- one step of a lookup by value, from what judging says
abbrev pub fit_of : Judgement → ℕ → Result Choice Unsound
fit_of (sound m) v = Ok (choice_in m v)
fit_of unsound v = Err (record {})

-- r of the leading numbers of os are not above v, and no more
pub record Leading (os : List ℕ) (v r : ℕ) : Type 0 where
  pub within : r ≤ length os
  pub fit : (j : ℕ) → j < r → get_or os j 0 ≤ v
  pub stop : (r ≡ length os) ⊎ (v < get_or os r 0)
