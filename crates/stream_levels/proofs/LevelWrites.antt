-- Levels written to the four arrays by a start, as `stack_is` reads them.
--     level_put      level k is written, over the k levels below it
--     level_back     the highest level goes back to the transition before
--     level_over     the level of the bound's own node stands over the others
-- Assumes nothing.
use Prim.{absurd}
use mathlib.Core.Path.{◌≡◌, refl, sym, ◌∙◌}
use mathlib.Core.Bool.{Bool, true, false}
use mathlib.Core.List.{List, ◌∷◌}
use Prim.Native.Nat.{ℕ, zero, suc, ◌-◌, ◌<◌, ◌≤◌}
use native.Mathlib.Omega.{arith}
use lib.ListN.{length, get_or, set, length-set}
use lib.Seq.{get_or-set_same, get_or-set_other}
use Rattle.reading.specs.Reading.{Level, level_with, last_levels}
use Rattle.stream_levels.specs.Stacks.{Arrays, stack_is, LevelPut}
use Rattle.stream_levels.specs.StackLaws.{stack_more, stack_suc, stack_ext}

module _ (k : ℕ) (xs is ps os : List ℕ) (fits : k < 256) (h : Arrays xs is ps os) (a i p o : ℕ) where
  below_same : stack_is k (set xs k a) (set is k i) (set ps k p) (set os k o) ≡ stack_is k xs is ps os
  below_same =
      stack_ext k (set xs k a) (set is k i) (set ps k p) (set os k o) xs is ps os
      (λ j l. get_or-set_other xs k j a 0 (λ e. omega arith))
      (λ j l. get_or-set_other is k j i 0 (λ e. omega arith))
      (λ j l. get_or-set_other ps k j p 0 (λ e. omega arith))
      (λ j l. get_or-set_other os k j o 0 (λ e. omega arith))

  pub level_put : LevelPut k (level_with a i p o) (stack_is k xs is ps os) (set xs k a) (set is k i) (set ps k p) (set os k o)
  level_put = record {
    arrays = record {
      addrs_len = length-set xs k a ∙ h.addrs_len;
      inps_len = length-set is k i ∙ h.inps_len;
      trans_len = length-set ps k p ∙ h.trans_len;
      outs_len = length-set os k o ∙ h.outs_len;
    };
    place = get_or-set_same ps k p 0 (omega arith);
    levels =
        stack_more k (set xs k a) (set is k i) (set ps k p) (set os k o)
        ∙ rw (
          below_same,
          get_or-set_same xs k a 0 (omega arith),
          get_or-set_same is k i 0 (omega arith),
          get_or-set_same ps k p 0 (omega arith),
          get_or-set_same os k o 0 (omega arith),
        );
  }

module _ (k : ℕ) (xs is ps os : List ℕ) (pos : 0 < k) (inside : k ≤ length ps) where
  abbrev ps⁻ : List ℕ
  ps⁻ = set ps (k - 1) (get_or ps (k - 1) 0 - 1)

  rest_same : stack_is (k - 1) xs is ps⁻ os ≡ stack_is (k - 1) xs is ps os
  rest_same =
      stack_ext (k - 1) xs is ps⁻ os xs is ps os
      (λ j l. refl) (λ j l. refl) (λ j l. get_or-set_other ps (k - 1) j (get_or ps (k - 1) 0 - 1) 0 (λ e. omega arith)) (λ j l. refl)

  pub level_back : (c : Bool) (l : Level) → c ≡ true → stack_is k xs is ps⁻ os ≡ last_levels c l (stack_is k xs is ps os)
  level_back c l e =
      let same : get_or ps⁻ (k - 1) 0 ≡ get_or ps (k - 1) 0 - 1 = get_or-set_same ps (k - 1) (get_or ps (k - 1) 0 - 1) 0 (omega arith) in
      stack_suc k xs is ps⁻ os pos ∙ rw (same, rest_same) (sym (rw (e, stack_suc k xs is ps os pos)))

pub level_over : (k : ℕ) (xs is ps os : List ℕ) (c : Bool) (l : Level) → (c ≡ true → 0 < k → ⊥) → last_levels c l (stack_is k xs is ps os) ≡ l ∷ stack_is k xs is ps os
unfolding stack_is
level_over zero xs is ps os true l none = refl
level_over zero xs is ps os false l none = refl
level_over (suc k) xs is ps os true l none = absurd (none refl (omega arith))
level_over (suc k) xs is ps os false l none = refl
