-- What opening reads is what the definition reads, and its tests are the definition's.
-- Assumes nothing.
use mathlib.Core.Path.{◌≡◌, sym, ◌∙◌}
use mathlib.Core.Bool.{true, false, cond}
use mathlib.Core.Option.{none, some}
use mathlib.Core.List.{List, []}
use Prim.Native.Nat.{ℕ, ◌+◌, ◌-◌, ◌≤◌, ◌<◌}
use native.Mathlib.Decide.{ℕ_discrete}
use native.Mathlib.Omega.{arith}
use borrow.Author.Tests.{le-leb, lt-leb, eq-eqb, ne_eqb}
use lib.Dec.{eqb}
use lib.ListN.{length}
use Rattle.buffers.specs.DecideLaws.{decides_eq, decides_iff, decides_same}
use Rattle.format.specs.Limits.{min_len, max_len, SHORT, ROOT}
use Rattle.format.specs.Opening.{trailer_len, least_len, number_at, meta_of, version_test, root_test, opened, refused, opening}
use Rattle.format.specs.Laws.OpeningLaws.{blank_meta, version_right, opening_blank, opening_short, opening_few, opening_root, opening_opened, root_none, root_some}
use Rattle.std.specs.Prelude.{Option as Maybe, None}
use Rattle.fst.specs.Open.{checksum_is, meta_is}

pub meta_is_lem : (s : List ℕ) (version ty len root tl : ℕ) (c : Maybe ℕ) → version ≡ number_at s 0 8 → tl ≡ trailer_len version → ty ≡ number_at s 8 8
    → len ≡ number_at s (length s - tl) 8 → root ≡ number_at s (length s - tl + 8) 8
    → checksum_is c ≡ cond (eqb version 3) (some (number_at s (length s - 4) 4)) none
    → meta_is (record { version = version; ty = ty; len = len; root = root; checksum = c }) ≡ meta_of s
unfolding meta_of
meta_is_lem s version ty len root tl c is_v is_tl is_ty is_len is_root is_c = rw (is_c, is_ty, is_len, is_root, is_tl, is_v)

-- no bytes
pub blank_is_meta : meta_is (record { version = 0; ty = 0; len = 0; root = 0; checksum = None }) ≡ meta_of []
blank_is_meta = sym blank_meta

pub opening_of_few : (s : List ℕ) → length s < min_len → opening s ≡ cond (eqb (length s) 0) (opened (meta_of [])) (refused SHORT)
opening_of_few s few =
    elim (ℕ_discrete (length s) 0) [
      | yes z ↦ opening_blank s z ∙ rw (eq-eqb (length s) 0 z)
      | no ne ↦ opening_short s ne few ∙ rw (ne_eqb (length s) 0 ne)
    ]

-- ---- each way out past the version, by what was read

module _ (s : List ℕ) (version tl : ℕ) (is_version : version ≡ number_at s 0 8) (is_tl : tl ≡ trailer_len version) (low : min_len ≤ length s)
    (high : length s ≤ max_len) (from_1 : 1 ≤ version) (to_3 : version ≤ 3) where
  right : version_test (meta_of s).version ≡ true
  unfolding meta_of
  right = rw (← is_version) (version_right version from_1 to_3)

  least : least_len (meta_of s).version ≡ 16 + tl
  unfolding meta_of
  least = rw (← is_version, is_tl)

  pub opening_of_short : length s < 16 + tl → opening s ≡ refused SHORT
  opening_of_short h = opening_few s (λ z. omega arith) low high right (rw least h)

  module _ (room : 16 + tl ≤ length s) (root : ℕ) (is_root : root ≡ number_at s (length s - tl + 8) 8) where
    rule : root_test (meta_of s).version (meta_of s).root (length s) ≡ root_test version root (length s)
    unfolding meta_of
    rule = rw (is_root, is_tl, ← is_version)

    pub opening_of_root : root_test version root (length s) ≡ false → opening s ≡ refused ROOT
    opening_of_root r = opening_root s (λ z. omega arith) low high right (rw least room) (rule ∙ r)

    pub opening_of_right : root_test version root (length s) ≡ true → opening s ≡ opened (meta_of s)
    opening_of_right r = opening_opened s (λ z. omega arith) low high right (rw least room) (rule ∙ r)

-- ---- the rule on roots, by the tests of the code

pub root_of_none : (v len root tl : ℕ) → tl ≡ trailer_len v → least_len v ≤ len → root ≡ 0 → eqb (len - tl) 16 ≡ root_test v root len
root_of_none v len root tl is_tl room z =
    rw (z, root_none v len)
    (decides_same (eqb (len - tl) 16) (eqb len (least_len v)) (decides_eq (len - tl) 16)
    (decides_iff (λ e. omega (arith, is_tl)) (λ e. omega (arith, is_tl)) (decides_eq len (least_len v))))

pub root_too_low : (v len root : ℕ) → ¬ (root ≡ 0) → root < 16 → false ≡ root_test v root len
root_too_low v len root ne low = rw (root_some v root len ne, lt-leb 16 root low)

pub root_at_trailer : (v len root tl : ℕ) → tl ≡ trailer_len v → least_len v ≤ len → ¬ (root ≡ 0) → 16 ≤ root → eqb root (len - tl - 1) ≡ root_test v root len
root_at_trailer v len root tl is_tl room ne low =
    rw (root_some v root len ne, le-leb 16 root low, ← is_tl)
    (decides_same (eqb root (len - tl - 1)) (eqb (root + 1 + tl) len) (decides_eq root (len - tl - 1))
    (decides_iff (λ e. omega (arith, is_tl)) (λ e. omega (arith, is_tl)) (decides_eq (root + 1 + tl) len)))
