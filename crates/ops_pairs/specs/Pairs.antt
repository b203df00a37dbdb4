-- What eight places for values and file numbers hold.
--     padded ps          the pairs, then 0 up to eight
--     pairs_in vs fs      two arrays as one list
--     PairsAre ps p      p holds the pairs ps
-- Assumes nothing.
use Rattle.std.specs.Prelude.{◌≡◌, List, [], ◌∷◌, ◌++◌, ℕ, ◌-◌, length, replicate}
use Rattle.ops_spec.specs.Ops.{Indexed, indexed}
use Rattle.ops_pairs.specs.declared.Pairs.{Pairs}

abbrev pub padded : List Indexed → List Indexed
padded ps = ps ++ replicate (8 - length ps) (indexed 0 0)

abbrev pub pairs_in : List ℕ → List ℕ → List Indexed
pairs_in [] fs = []
pairs_in (v ∷ vs) [] = []
pairs_in (v ∷ vs) (f ∷ fs) = indexed v f ∷ pairs_in vs fs

pub record PairsAre (ps : List Indexed) (p : Pairs) : Type 0 where
  pub count : p.count ≡ length ps
  pub values_len : length p.values ≡ 8
  pub files_len : length p.files ≡ 8
  pub pairs : pairs_in p.values p.files ≡ padded ps
