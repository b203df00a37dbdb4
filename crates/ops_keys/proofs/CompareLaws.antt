-- Two keys, compared byte by byte.
--     compared_cmp              the library's order of two lists of bytes is that of keys
--     key_between               a key as a part of the bytes of eight
--     head_key_lem                  the key of the levels stands in the bytes after the first
-- Assumes nothing.
use mathlib.Core.Path.{◌≡◌, refl, sym, ap, ap₂, ◌∙◌}
use mathlib.Core.Logic.{⊎_elim, ◌⊎◌, inl, inr}
use mathlib.Core.List.{List}
use Prim.Native.Nat.{ℕ, zero, suc, ◌+◌, ◌-◌, ◌*◌, ◌<◌, ◌≤◌}
use native.Mathlib.Omega.{arith}
use lib.ListN.{length, take, drop}
use lib.Seq.{drop-drop}
use Rattle.std.proofs.Common.{Ordering}
use Rattle.std.specs.List.{between}
use Rattle.std.specs.Ordering.{nat_cmp, is_lt, is_gt}
use Rattle.std.specs.Cmp.Lexicographic.{slice_cmp}
use Rattle.std.proofs.lemmas.Cmp.{same_from_slice_cmp}
use Rattle.std.proofs.lemmas.Bool.Decides.{nat_tests}
use Rattle.format.specs.Strings.{before_test}
use Rattle.reading.specs.Reading.{path_of, key_of}
use Rattle.stream_start.specs.Views.{stack_is}
use Rattle.stream_start.specs.StackLaws.{stack_none, stack_suc, key_stack}
use Rattle.ops_keys.specs.declared.Place.{Place}
use Rattle.ops_keys.specs.Heads.{place_key, Compared}

-- ---- two strings

lt_is : (k l : List ℕ) (r : Ordering) → r ≡ slice_cmp nat_cmp k l → is_lt r ≡ before_test k l
unfolding before_test
lt_is = same_from_slice_cmp nat_cmp is_lt before_test refl (λ _ _. refl) (λ _ _. refl) (λ x y xs ys o h. grind (arith, nat_tests))

gt_is : (k l : List ℕ) (r : Ordering) → r ≡ slice_cmp nat_cmp k l → is_gt r ≡ before_test l k
unfolding before_test
gt_is = same_from_slice_cmp nat_cmp is_gt (λ (k l : List ℕ). before_test l k) refl (λ _ _. refl) (λ _ _. refl) (λ x y xs ys o h. grind (arith, nat_tests))

pub compared_cmp : (k l : List ℕ) (r : Ordering) → r ≡ slice_cmp nat_cmp k l → Compared k l r
compared_cmp k l r e = record { less = sym (lt_is k l r e); greater = sym (gt_is k l r e) }

-- the bytes after the first, as a part of all
pub key_between : (ks : List ℕ) (p : Place) (j : ℕ) → j ≡ p.levels - 1 → between (p.at * 256 + 1) (p.at * 256 + 1 + j) ks ≡ place_key ks p
key_between ks p j e = ap₂ take (omega arith) (sym (drop-drop 1 (p.at * 256) ks))

-- ---- the key of the levels

pub head_key_lem : (n : ℕ) (xs is ps os : List ℕ) → length is ≡ 256 → n ≤ 256 → take (n - 1) (drop 1 is) ≡ key_of (stack_is n xs is ps os)
unfolding path_of
head_key_lem n xs is ps os len few = ⊎_elim (λ (z : n ≡ 0). none z) (λ (h : 0 < n). some h) (zero_or n)
  where
    zero_or : (n : ℕ) → (n ≡ 0) ⊎ (0 < n)
    zero_or zero = inl refl
    zero_or (suc n) = inr (omega arith)

    none : n ≡ 0 → take (n - 1) (drop 1 is) ≡ key_of (stack_is n xs is ps os)
    none z = rw (z, stack_none xs is ps os)

    some : 0 < n → take (n - 1) (drop 1 is) ≡ key_of (stack_is n xs is ps os)
    some h = sym (ap key_of (stack_suc n xs is ps os h) ∙ key_stack (n - 1) xs is ps os (omega arith))
