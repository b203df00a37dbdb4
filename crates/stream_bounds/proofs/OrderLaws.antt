-- The order of the library on lists of bytes, against that of strings.
--     above_is        a list that is greater: the other comes before it
--     from_is         one that is greater or equal does not come before the other
-- Assumes nothing.
use Rattle.std.proofs.Common.{◌≡◌, refl, List, ℕ, Bool, arith}
use Rattle.std.specs.Prelude.{not, Some}
use Rattle.std.specs.Ordering.{nat_cmp, is_gt, is_ge, is_some_and}
use Rattle.std.specs.Cmp.Lexicographic.{slice_partial_cmp}
use Rattle.std.proofs.lemmas.Cmp.{same_from_slice_cmp_tested}
use Rattle.std.proofs.lemmas.Bool.Decides.{nat_tests}
use Rattle.format.specs.Strings.{before_test}

pub above_is : (x y : List ℕ) (r : Bool) → r ≡ is_some_and is_gt (slice_partial_cmp (λ a b. Some (nat_cmp a b)) x y) → r ≡ before_test y x
unfolding before_test
above_is =
    same_from_slice_cmp_tested nat_cmp is_gt (λ (x y : List ℕ). before_test y x) refl (λ _ _. refl) (λ _ _. refl) (λ a b p q o h. grind (arith, nat_tests))

pub from_is : (x y : List ℕ) (r : Bool) → r ≡ is_some_and is_ge (slice_partial_cmp (λ a b. Some (nat_cmp a b)) x y) → r ≡ not (before_test x y)
unfolding before_test
from_is =
    same_from_slice_cmp_tested nat_cmp is_ge (λ (x y : List ℕ). not (before_test x y)) refl (λ _ _. refl) (λ _ _. refl) (λ a b p q o h. grind (arith, nat_tests))
