-- One transition of a level over the arrays: the contract at each way out.
--     place_fits, target_fits             a place fits 16 bits, and a target 32
--     follows_sum, follows_bad            the running sum does not fit; the target is not sound
--     follows_to                          the target's level is written
-- Assumes nothing.
use mathlib.Core.Path.{◌≡◌, sym, ◌∙◌}
use Rattle.std.specs.Prelude.{Ok, Err}
use mathlib.Core.Logic.{inl, inr}
use mathlib.Core.List.{List}
use Prim.Native.Nat.{ℕ, ◌+◌, ◌<◌, ◌≤◌}
use native.Mathlib.Omega.{arith}
use lib.ListN.{get_or, set}
use Rattle.format.specs.Limits.{max_sum, NODE, SUM}
use Rattle.format.specs.Node.{sound, unsound, transition_at}
use Rattle.format.specs.Paths.{Fst, fst_with, node_in}
use Rattle.node.specs.declared.Node.{Node}
use Rattle.node.specs.Read.{meaning, Readable, transitions_in}
use Rattle.reading.specs.Reading.{Level, level_with, next_trans}
use Rattle.stream_levels.specs.Stacks.{LevelPut}
use Rattle.stream_levels.specs.PutLaws.{put_top, put_under, stepped_under}
use Rattle.stream_start.specs.Views.{Arrays, level_at, stack_is}
use Rattle.stream_pop.specs.Pops.{Ready}
use Rattle.stream_pop.specs.ReadyLaws.{ready_place, ready_target}
use Rattle.stream_descend.specs.Descent.{Pushed, Follows}

-- what is known where a level is followed from: its node is judged and has a transition left
pub record At (s : List ℕ) (v root k : ℕ) (xs is ps os : List ℕ) (m : Node) : Type 0 where
  pub room : k < 255
  pub arrays : Arrays xs is ps os
  pub ready : Ready s v root (get_or xs k 0) (get_or ps k 0) m

pub at_level : {s : List ℕ} {v root k : ℕ} {xs is ps os : List ℕ} {m : Node} → k < 255 → Arrays xs is ps os → Ready s v root (get_or xs k 0) (get_or ps k 0) m
    → At s v root k xs is ps os m
at_level h w r = record { room = h; arrays = w; ready = r }

-- ---- the place of the transition

module _ {s : List ℕ} {v root a p i : ℕ} {m : Node} (w : Ready s v root a p m) (ei : i ≡ p) where
  ready_at : Ready s v root a i m
  ready_at = rw ei w

  pub place_fits : ((j : ℕ) → get_or s j 0 < 256) → i < 256
  place_fits bytes = ready_place ready_at bytes

  pub target_fits : {b : ℕ} → b ≡ (transition_at (transitions_in s m) i).addr → root < 4294967296 → b < 4294967296
  target_fits eb small = omega (arith, eb, ready_target ready_at)

module _ {s : List ℕ} {v root k : ℕ} {xs is ps os : List ℕ} {m : Node} (w : At s v root k xs is ps os m) where
  abbrev f : Fst
  f = fst_with s v root

  abbrev l : Level
  l = level_at k xs is ps os

  abbrev below : List Level
  below = stack_is k xs is ps os

  -- ---- the transition that is taken

  module _ {i : ℕ} (ei : i ≡ get_or ps k 0) {out : ℕ} (eo : out ≡ (transition_at (transitions_in s m) i).out) where
    out_is : get_or os k 0 + out ≡ l.out + (next_trans l (meaning s m)).out
    out_is = rw (eo, ei)

    pub follows_sum : max_sum < get_or os k 0 + out → Follows s v root k l (meaning s m) below xs is ps os (Err SUM)
    follows_sum h = record {
      to = λ n e. absurd (let z : ◌≡◌ {A = ℕ} 0 1 = cc in omega arith);
      stops = λ why e. let q : SUM ≡ why = cc in inl (sym q, rw out_is at h);
      kept = w.arrays;
    }

    module _ (fits : get_or os k 0 + out ≤ max_sum) {a : ℕ} (ea : a ≡ (transition_at (transitions_in s m) i).addr) where
      light : l.out + (next_trans l (meaning s m)).out ≤ max_sum
      light = rw out_is at fits

      target_is : a ≡ (next_trans l (meaning s m)).addr
      target_is = rw (ea, ei)

      pub follows_bad : node_in f a ≡ unsound → Follows s v root k l (meaning s m) below xs is ps os (Err NODE)
      follows_bad e = record {
        to = λ n e. absurd (let z : ◌≡◌ {A = ℕ} 0 1 = cc in omega arith);
        stops = λ why er. let q : NODE ≡ why = cc in inr (sym q, light, rw target_is at e);
        kept = w.arrays;
      }

      -- ---- the target is judged, and its level is written

      module _ {b : ℕ} (eb : b ≡ (transition_at (transitions_in s m) i).inp) (n : Node) (en : node_in f a ≡ sound (meaning s n)) (readable : Readable s n)
          {sum : ℕ} (es : sum ≡ get_or os k 0 + out) {xs⁺ is⁺ ps⁺ os⁺ : List ℕ}
          (put : LevelPut (k + 1) (level_with a b 0 sum) (stack_is (k + 1) xs is (set ps k (i + 1)) os) xs⁺ is⁺ ps⁺ os⁺) where
        input_is : b ≡ (next_trans l (meaning s m)).inp
        input_is = rw (eb, ei)

        pushed : Pushed s v root k l (meaning s m) below xs⁺ is⁺ ps⁺ os⁺ n
        pushed = record {
          arrays = put.arrays;
          top = put_top put ∙ rw (target_is, input_is, es, out_is);
          under = put_under put ∙ stepped_under k xs is ps os (i + 1) (omega (arith, w.arrays.trans_len, w.room)) ∙ rw ei;
          light = light;
          node = rw target_is at en;
          readable = readable;
        }

        pub follows_to : Follows s v root k l (meaning s m) below xs⁺ is⁺ ps⁺ os⁺ (Ok n)
        follows_to = record {
          to = λ n' e. let q : n ≡ n' = cc in rw (← q) pushed;
          stops = λ why e. absurd (let z : ◌≡◌ {A = ℕ} 0 1 = cc in omega arith);
          kept = put.arrays;
        }
