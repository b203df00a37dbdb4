-- What a round comes to, against `decide` (crate ops_spec).
--     op_of n                    the operation of a number
--     op_is o                    the operation
--     CountTest n b              whether an operation is over n files
--     DecidedBy ks cs X v r w   w is the verdict v on the cards X, of which the cs are seen, and r is what is seen afterwards: the cards' files, readings
--                               and keys are kept, and at the end all that is seen
-- Assumes nothing.
use Rattle.std.specs.Prelude.{◌≡◌, ◌⊎◌, ◌≤◌, ◌<◌, Bool, true, false, List, ℕ, cond, eqb, length}
use Rattle.ops_spec.specs.Ops as O
use Rattle.ops_spec.specs.Ops.{Indexed}
use Rattle.ops_keys.specs.declared.Place.{Place}
use Rattle.ops_keys.specs.Heads.{place_key, Within}
use Rattle.ops_pairs.specs.declared.Pairs.{Pairs}
use Rattle.ops_pairs.specs.Pairs.{PairsAre}
use Rattle.ops_seen.specs.declared.Seen.{Seen}
use Rattle.ops_seen.specs.Sights.{Sees, SameKeys, Kept}
use Rattle.ops_decide.specs.declared.Op.{Op}
use Rattle.ops_decide.specs.declared.Op.TheVariants.{Union, Intersection, Difference, SymmetricDifference}
use Rattle.ops_decide.specs.declared.Verdict.TheVariants.{This, NoMore, Another}
use Rattle.ops_decide.specs.declared.Verdict.{Verdict}

-- any number from 3 on stands for the symmetric difference
abbrev pub op_of : ℕ → Op
op_of n = cond (eqb n 0) Union (cond (eqb n 1) Intersection (cond (eqb n 2) Difference SymmetricDifference))

abbrev pub op_is : Op → O.Op
op_is Union = O.union
op_is Intersection = O.intersection
op_is Difference = O.difference
op_is SymmetricDifference = O.symmetric

pub record CountTest (n : ℕ) (b : Bool) : Type 0 where
  pub yes : b ≡ true → (0 < n) × (n ≤ 8)
  pub no : b ≡ false → (n ≡ 0) ⊎ (8 < n)

pub record ThisBy (ks : List ℕ) (cs : List Seen) (X : List O.Card) (k : List ℕ) (ps : List Indexed) (ds : List O.Card) (r : List Seen) (p : Place) (its : Pairs) : Type 0 where
  pub key : place_key ks p ≡ k
  pub few : Within p
  pub pairs : PairsAre ps its
  pub sees : Sees ks (length cs) r ds
  pub kept : Kept X ds
  pub long : length r ≡ length cs
  pub keys : SameKeys (length cs) cs r

pub record AnotherBy (ks : List ℕ) (cs : List Seen) (X : List O.Card) (ds : List O.Card) (r : List Seen) : Type 0 where
  pub sees : Sees ks (length cs) r ds
  pub kept : Kept X ds
  pub long : length r ≡ length cs
  pub keys : SameKeys (length cs) cs r

abbrev pub DecidedBy : List ℕ → List Seen → List O.Card → O.Verdict → List Seen → Verdict → Type 0
DecidedBy ks cs X (O.this k ps ds) r (This p its) = ThisBy ks cs X k ps ds r p its
DecidedBy ks cs X (O.this k ps ds) r NoMore = ⊥
DecidedBy ks cs X (O.this k ps ds) r Another = ⊥
DecidedBy ks cs X O.no_more r (This p its) = ⊥
DecidedBy ks cs X O.no_more r NoMore = r ≡ cs
DecidedBy ks cs X O.no_more r Another = ⊥
DecidedBy ks cs X (O.another ds) r (This p its) = ⊥
DecidedBy ks cs X (O.another ds) r NoMore = ⊥
DecidedBy ks cs X (O.another ds) r Another = AnotherBy ks cs X ds r
