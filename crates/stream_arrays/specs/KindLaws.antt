-- Laws of a bound by its kind and its bytes, as a reading and the C caller have it.
--     BoundTaken kind bs n                   a bound has n bytes, the first of bs
--     taken-.., inclusive-.., meets-..       what each kind of bound says
--     bound_is_lem                           a buffer whose first bytes are those of a bound holds it
-- Assumes nothing.
use Rattle.std.specs.Prelude.{◌≡◌, not, List, [], ◌∷◌, ◌++◌, ℕ, ◌≤◌, eqb, length, take, drop, ⊤}
use Rattle.std.proofs.Math.Path.{refl}
use Rattle.std.proofs.Common.{◌∙◌, ap, arith, eq-eqb, ne_eqb, take_at, length-take-le}
use Rattle.std.proofs.Math.Bool.{true, false}
use Rattle.std.proofs.Math.Seq.{take-length}
use Rattle.std.specs.declared.ops.Bound.{Bound}
use Rattle.std.specs.declared.ops.Bound.TheVariants.{Included, Excluded, Unbounded}
use Rattle.format.specs.Strings.{included, excluded, before_test}
use Rattle.reading.specs.Reading.{meets_test, is_inclusive, bound_bytes}
use Rattle.stream_start.specs.Views.{bound_is}

pub record BoundTaken (kind : Bound ⊤) (bs : List ℕ) (n : ℕ) : Type 0 where
  pub inside : n ≤ length bs
  pub count : n ≡ length (bound_bytes (bound_is kind bs))
  pub bytes : take n bs ≡ bound_bytes (bound_is kind bs)

-- ---- a bound, by its kind

module _ (kind : Bound ⊤) (bs : List ℕ) where
  pub taken_included : kind ≡ Included tt → BoundTaken kind bs (length bs)
  taken_included e = rw e (record { inside = omega arith; count = refl; bytes = take-length bs })

  pub taken_excluded : kind ≡ Excluded tt → BoundTaken kind bs (length bs)
  taken_excluded e = rw e (record { inside = omega arith; count = refl; bytes = take-length bs })

  pub taken_unbounded : kind ≡ Unbounded → BoundTaken kind bs 0
  taken_unbounded e = rw e (record { inside = omega arith; count = refl; bytes = refl })

  pub inclusive_included : kind ≡ Included tt → true ≡ is_inclusive (bound_is kind bs)
  inclusive_included e = rw e

  pub inclusive_excluded : kind ≡ Excluded tt → false ≡ is_inclusive (bound_is kind bs)
  inclusive_excluded e = rw e

  pub inclusive_unbounded : kind ≡ Unbounded → true ≡ is_inclusive (bound_is kind bs)
  inclusive_unbounded e = rw e

meets_count : (bs : List ℕ) (n : ℕ) → n ≡ length bs → eqb n 0 ≡ not (before_test [] bs)
unfolding before_test
meets_count [] n e = eq-eqb n 0 e
meets_count (b ∷ bs) n e = ne_eqb n 0 (λ z. omega arith)

before_nothing : (bs : List ℕ) → false ≡ before_test bs []
unfolding before_test
before_nothing [] = refl
before_nothing (b ∷ bs) = refl

module _ (kind : Bound ⊤) (bs : List ℕ) where
  pub meets_included : kind ≡ Included tt → (n : ℕ) → BoundTaken kind bs n → eqb n 0 ≡ meets_test (bound_is kind bs) []
  meets_included e n h = rw e (meets_count bs n (rw e at h.count))

  pub meets_excluded : kind ≡ Excluded tt → false ≡ meets_test (bound_is kind bs) []
  meets_excluded e = rw e (before_nothing bs)

  pub meets_unbounded : kind ≡ Unbounded → true ≡ meets_test (bound_is kind bs) []
  meets_unbounded e = rw e

-- ---- the upper bound's bytes

of_kind : (kind : Bound ⊤) (bs cs : List ℕ) → cs ≡ bound_bytes (bound_is kind bs) → bound_is kind cs ≡ bound_is kind bs
of_kind (Included u) bs cs e = ap included e
of_kind (Excluded u) bs cs e = ap excluded e
of_kind Unbounded bs cs e = refl

pub bound_is_lem : (kind : Bound ⊤) (bs : List ℕ) (n : ℕ) → BoundTaken kind bs n → (to₀ to : List ℕ) → to ≡ take n bs ++ drop n to₀ → bound_is kind (take n to) ≡ bound_is kind bs
bound_is_lem kind bs n h to₀ to e =
    of_kind kind bs (take n to) (ap (take n) e ∙ take_at (take n bs) (drop n to₀) n (length-take-le n bs h.inside) ∙ h.bytes)
