-- The order of the library on lists of bytes, against that of strings.
--     below_is        a list that is less comes before
--     upto_is         one that is less or equal: the other does not come before it
-- Assumes nothing.
use Rattle.std.proofs.Common.{◌≡◌, refl, List, ℕ, Bool, arith}
use Rattle.std.specs.Prelude.{not, Some}
use Rattle.std.specs.Ordering.{nat_cmp, is_lt, is_le, is_some_and}
use Rattle.std.specs.Cmp.Lexicographic.{slice_partial_cmp}
use Rattle.std.proofs.lemmas.Cmp.{same_from_slice_cmp_tested}
use Rattle.std.proofs.lemmas.Bool.Decides.{nat_tests}
use Rattle.format.specs.Strings.{before_test}

pub below_is : (x y : List ℕ) (r : Bool) → r ≡ is_some_and is_lt (slice_partial_cmp (λ a b. Some (nat_cmp a b)) x y) → r ≡ before_test x y
unfolding before_test
below_is = same_from_slice_cmp_tested nat_cmp is_lt before_test refl (λ _ _. refl) (λ _ _. refl) (λ a b p q o h. grind (arith, nat_tests))

pub upto_is : (x y : List ℕ) (r : Bool) → r ≡ is_some_and is_le (slice_partial_cmp (λ a b. Some (nat_cmp a b)) x y) → r ≡ not (before_test y x)
unfolding before_test
upto_is =
    same_from_slice_cmp_tested nat_cmp is_le (λ (x y : List ℕ). not (before_test y x)) refl (λ _ _. refl) (λ _ _. refl)
    (λ a b p q o h. grind (arith, nat_tests))
