-- What the operations hand out (document 02, N5), over held keys, the order and the bounds alone.
--     Source                 an admitted file with two bounds, and the reading that its start gave
--     Has c k v              file c holds k with v, between its bounds
--     AllPairs cs k ps       ps are the values of k with their file numbers, by value and then by file number: all of them
--     Takes op n ps          whether a key with these values belongs to the operation over n files
-- The item of a key is always AllPairs: in a difference that is file 0's value alone, since no other file has the key.
-- Assumes nothing.
use Prim.{Unit, tt}
use Rattle.std.specs.Prelude.{◌≡◌, ◌⊎◌, ℕ, zero, suc, ◌+◌, ◌%◌, ◌<◌, length}
use mathlib.Core.List.{List, [], ◌∷◌, Memᴰ}
use Rattle.format.specs.Paths.{fst_of, Held}
use Rattle.format.specs.Admitted.{Admitted}
use Rattle.format.specs.Strings.{Bound, Between}
use Rattle.plain.specs.Numbers.{TableFits}
use Rattle.plain.specs.Plain.{Plain, begun, start_plain}
use Rattle.ops_spec.specs.Ops.{Op, union, intersection, difference, symmetric, Indexed, indexed}

pub record Source : Type 0 where
  pub file : List ℕ
  pub admitted : Admitted file
  pub lower : Bound
  pub upper : Bound
  pub table : List ℕ
  pub fits : TableFits (fst_of file admitted.meta) lower upper table
  pub reading : Plain
  pub starts : start_plain file lower upper table ≡ begun reading

pub record Has (c : Source) (k : List ℕ) (v : ℕ) : Type 0 where
  pub held : Held (fst_of c.file c.admitted.meta) k v
  pub between : Between c.lower c.upper k

-- file i of the list has k with v
pub data HasAt : List Source → ℕ → List ℕ → ℕ → Type 0 where
  first : {c : Source} {cs : List Source} {k : List ℕ} {v : ℕ} → Has c k v → HasAt (c ∷ cs) 0 k v
  further : {c : Source} {cs : List Source} {i : ℕ} {k : List ℕ} {v : ℕ} → HasAt cs i k v → HasAt (c ∷ cs) (suc i) k v

-- by value, then by file number
abbrev pub Sooner : Indexed → Indexed → Type 0
Sooner x y = (x.value < y.value) ⊎ ((x.value ≡ y.value) × (x.index < y.index))

abbrev pub SoonerThanAll : Indexed → List Indexed → Type 0
SoonerThanAll x [] = Unit {0}
SoonerThanAll x (y ∷ ys) = Sooner x y × SoonerThanAll x ys

abbrev pub InOrder : List Indexed → Type 0
InOrder [] = Unit {0}
InOrder (x ∷ xs) = SoonerThanAll x xs × InOrder xs

pub record AllPairs (cs : List Source) (k : List ℕ) (ps : List Indexed) : Type 0 where
  pub in_order : InOrder ps
  pub such : (x : Indexed) → Memᴰ x ps → HasAt cs x.index k x.value
  pub all : (i v : ℕ) → HasAt cs i k v → Memᴰ (indexed v i) ps

abbrev pub Takes : Op → ℕ → List Indexed → Type 0
Takes union n ps = ¬ (ps ≡ [])
Takes intersection n ps = length ps ≡ n
Takes difference n ps = (v : ℕ) × (ps ≡ indexed v 0 ∷ [])
Takes symmetric n ps = length ps % 2 ≡ 1

-- k belongs to the operation, with these values
pub record Belongs (op : Op) (cs : List Source) (k : List ℕ) (ps : List Indexed) : Type 0 where
  pub pairs : AllPairs cs k ps
  pub takes : Takes op (length cs) ps
