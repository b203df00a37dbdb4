-- Laws of `stack_is`: the first k levels of the four arrays, highest first.
--     stack_length, stack_more, stack_suc     its length; its highest level
--     stack_ext                               what the entries from k on hold does not matter
--     key_stack                               the key of the levels up to k stands in the bytes after the first
--     pushed_top, pushed_below                the levels after the stores that push one
-- Assumes nothing.
use Rattle.std.specs.Prelude.{◌≡◌, refl, List, [], ◌∷◌, ℕ, zero, suc, ◌+◌, ◌-◌, ◌<◌, ◌≤◌, length, get_or, set, take, drop}
use Rattle.std.proofs.Common.{sym, ◌∙◌, ap, arith, add-one, length-set, take-suc, get_or-set_same, get_or-set_other}
use Rattle.std.proofs.Math.Seq.{take-nil}
use Rattle.reading.specs.Reading.{level_with, path_of, key_of}
use Rattle.stream_levels.specs.Stacks.{level_at, stack_is}

pub stack_length : (k : ℕ) (xs is ps os : List ℕ) → length (stack_is k xs is ps os) ≡ k
unfolding stack_is
stack_length zero xs is ps os = refl
stack_length (suc k) xs is ps os = ap suc (stack_length k xs is ps os)

pub stack_none : (xs is ps os : List ℕ) → stack_is 0 xs is ps os ≡ []
unfolding stack_is
stack_none xs is ps os = refl

pub stack_more : (k : ℕ) (xs is ps os : List ℕ) → stack_is (k + 1) xs is ps os ≡ level_at k xs is ps os ∷ stack_is k xs is ps os
unfolding stack_is
stack_more k xs is ps os = rw add-one

pub stack_suc : (k : ℕ) (xs is ps os : List ℕ) → 0 < k → stack_is k xs is ps os ≡ level_at (k - 1) xs is ps os ∷ stack_is (k - 1) xs is ps os
stack_suc k xs is ps os h =
    let e : k ≡ k - 1 + 1 = omega arith in
    ap (λ (j : ℕ). stack_is j xs is ps os) e ∙ stack_more (k - 1) xs is ps os

pub stack_ext : (k : ℕ) (xs is ps os xs' is' ps' os' : List ℕ)
    → ((j : ℕ) → j < k → get_or xs j 0 ≡ get_or xs' j 0) → ((j : ℕ) → j < k → get_or is j 0 ≡ get_or is' j 0)
    → ((j : ℕ) → j < k → get_or ps j 0 ≡ get_or ps' j 0) → ((j : ℕ) → j < k → get_or os j 0 ≡ get_or os' j 0)
    → stack_is k xs is ps os ≡ stack_is k xs' is' ps' os'
unfolding stack_is
stack_ext zero xs is ps os xs' is' ps' os' hx hi hp ho = refl
stack_ext (suc k) xs is ps os xs' is' ps' os' hx hi hp ho =
    rw (
      hx k (omega arith),
      hi k (omega arith),
      hp k (omega arith),
      ho k (omega arith),
      stack_ext k xs is ps os xs' is' ps' os' (λ j h. hx j (omega arith)) (λ j h. hi j (omega arith)) (λ j h. hp j (omega arith)) (λ j h. ho j (omega arith)),
    )

path_stack : (k : ℕ) (xs is ps os : List ℕ) → k ≤ length is → path_of (stack_is k xs is ps os) ≡ take k is
unfolding stack_is path_of
path_stack zero xs is ps os h = refl
path_stack (suc k) xs is ps os h = rw (path_stack k xs is ps os (omega arith)) (sym (take-suc is k 0 (omega arith)))

drop_take : (k : ℕ) (l : List ℕ) → drop 1 (take (suc k) l) ≡ take k (drop 1 l)
drop_take k [] = sym (take-nil k)
drop_take k (x ∷ l) = refl

pub key_stack : (k : ℕ) (xs is ps os : List ℕ) → k + 1 ≤ length is → key_of (level_at k xs is ps os ∷ stack_is k xs is ps os) ≡ take k (drop 1 is)
key_stack k xs is ps os h =
    ap key_of (sym (stack_more k xs is ps os)) ∙ ap (drop 1) (path_stack (k + 1) xs is ps os h ∙ ap (λ (j : ℕ). take j is) (add-one k)) ∙ drop_take k is

-- ---- a level is pushed: the level below it has its place moved on

module _ (k : ℕ) (xs is ps os : List ℕ) (a b p o : ℕ) (hx : k + 1 < length xs) (hi : k + 1 < length is) (hp : k + 1 < length ps) (ho : k + 1 < length os) where
  pub pushed_top : level_at (k + 1) (set xs (k + 1) a) (set is (k + 1) b) (set (set ps k p) (k + 1) 0) (set os (k + 1) o) ≡ level_with a b 0 o
  pushed_top =
      let lp : k + 1 < length (set ps k p) = simp length-set hp in
      simp (
        get_or-set_same xs (k + 1) a 0 hx,
        get_or-set_same is (k + 1) b 0 hi,
        get_or-set_same (set ps k p) (k + 1) 0 0 lp,
        get_or-set_same os (k + 1) o 0 ho,
      )

  pub pushed_below : stack_is (k + 1) (set xs (k + 1) a) (set is (k + 1) b) (set (set ps k p) (k + 1) 0) (set os (k + 1) o)
      ≡ level_with (get_or xs k 0) (get_or is k 0) p (get_or os k 0) ∷ stack_is k xs is ps os
  pushed_below =
      let ne : k ≡ k + 1 → ⊥ = λ e. omega arith in
      let lp : k < length ps = omega arith in
      let rest : stack_is k (set xs (k + 1) a) (set is (k + 1) b) (set (set ps k p) (k + 1) 0) (set os (k + 1) o) ≡ stack_is k xs is ps os =
      stack_ext k (set xs (k + 1) a) (set is (k + 1) b) (set (set ps k p) (k + 1) 0) (set os (k + 1) o) xs is ps os
      (λ j h. get_or-set_other xs (k + 1) j a 0 (λ e. omega arith))
      (λ j h. get_or-set_other is (k + 1) j b 0 (λ e. omega arith))
      (λ j h. get_or-set_other (set ps k p) (k + 1) j 0 0 (λ e. omega arith) ∙ get_or-set_other ps k j p 0 (λ e. omega arith))
      (λ j h. get_or-set_other os (k + 1) j o 0 (λ e. omega arith)) in
      stack_more k (set xs (k + 1) a) (set is (k + 1) b) (set (set ps k p) (k + 1) 0) (set os (k + 1) o)
      ∙ simp (
        rest,
        get_or-set_other xs (k + 1) k a 0 ne,
        get_or-set_other is (k + 1) k b 0 ne,
        get_or-set_other (set ps k p) (k + 1) k 0 0 ne,
        get_or-set_same ps k p 0 lp,
        get_or-set_other os (k + 1) k o 0 ne,
      )
