-- Laws of `LevelPut`: what stands where a level was written.
--     put_top, put_under      the level itself, and the levels below it
--     stepped_under           the highest level, once its place is moved on
-- Assumes nothing.
use Rattle.std.specs.Prelude.{◌≡◌, refl, List, [], ◌∷◌, ℕ, ◌+◌, ◌<◌, length, get_or, set, drop}
use Rattle.std.proofs.Common.{sym, ◌∙◌, ap, arith, get_or-set_same, get_or-set_other}
use Rattle.reading.specs.Reading.{Level, level_with}
use Rattle.stream_levels.specs.Stacks.{level_at, stack_is, LevelPut}
use Rattle.stream_levels.specs.StackLaws.{stack_more, stack_ext}

abbrev first_of : Level → List Level → Level
first_of d [] = d
first_of d (l ∷ s) = l

module _ {k : ℕ} {l : Level} {s : List Level} {xs is ps os : List ℕ} (w : LevelPut k l s xs is ps os) where
  pub put_top : level_at k xs is ps os ≡ l
  put_top = ap (first_of l) (sym (stack_more k xs is ps os) ∙ w.levels)

  pub put_under : stack_is k xs is ps os ≡ s
  put_under = ap (drop 1) (sym (stack_more k xs is ps os) ∙ w.levels)

pub stepped_under : (k : ℕ) (xs is ps os : List ℕ) (p : ℕ) → k < length ps
    → stack_is (k + 1) xs is (set ps k p) os ≡ level_with (get_or xs k 0) (get_or is k 0) p (get_or os k 0) ∷ stack_is k xs is ps os
stepped_under k xs is ps os p h =
    stack_more k xs is (set ps k p) os
    ∙ rw (
      get_or-set_same ps k p 0 h,
      stack_ext k xs is (set ps k p) os xs is ps os (λ j l. refl) (λ j l. refl) (λ j l. get_or-set_other ps k j p 0 (λ e. omega arith)) (λ j l. refl),
    )
