-- What is promised of a converted file (document 02, N7).
--     old_fst, new_fst       the old file and the new one, with version and root
--     nonzero              the numbers of a list other than 0
--     OnChain A a          a is 0 or an address of the old chain: what a path may visit
--     Mirrors A            where the root does not vanish: the new file has the old one's nodes in the same order, with targets replaced
--     Told A a             the entry of the table at a
--     SameContents A B     the new file, admitted as B, says what the old one says
-- Proved for every admitted file that has bytes, and so for those of version 1, whose conversion is not too large: `converted_admitted`
-- and `converted_holds` in AdmittedLaws, `mirrors` and `table_tells` in MovedLaws.
-- Assumes nothing.
use Rattle.std.specs.Prelude.{◌≡◌, true, false, cond, ◌⊎◌, ℕ, ◌<◌, eqb, length, get_or}
use mathlib.Core.List.{List, [], ◌∷◌, map, Memᴰ}
use Rattle.format.specs.Paths.{Fst, fst_with, fst_of, node_in, Held}
use Rattle.format.specs.Admitted.{Chain, Admitted}
use Rattle.converting.specs.Converting.{vanishes, moved_to, converted, table_of}
use Rattle.converting.specs.Mirror.{Mirror}

unfoldable pub nonzero : List ℕ → List ℕ
nonzero [] = []
nonzero (n ∷ ns) = cond (eqb n 0) (nonzero ns) (n ∷ nonzero ns)

module _ {s : List ℕ} (A : Admitted s) where
  abbrev pub old_fst : Fst
  old_fst = fst_of s A.meta

  abbrev pub new_fst : Fst
  new_fst = fst_with (converted A) 2 (moved_to A A.meta.root)

  abbrev pub OnChain : ℕ → Type 0
  OnChain a = (a ≡ 0) ⊎ Memᴰ a A.nodes

  pub record Mirrors : Type 0 where
    -- each node of the old chain, and address 0, stands in the new file with its targets replaced
    pub mirror : Mirror old_fst new_fst (moved_to A) OnChain
    -- the new chain is the old one's new addresses in the same order, those that are 0 left out
    pub chain : Chain new_fst new_fst.root (nonzero (map (moved_to A) A.nodes))
    pub member : (a : ℕ) → Memᴰ a A.nodes → vanishes (node_in old_fst a) ≡ false → Memᴰ (moved_to A a) (nonzero (map (moved_to A) A.nodes))
    pub vanished : (a : ℕ) → Memᴰ a A.nodes → vanishes (node_in old_fst a) ≡ true → moved_to A a ≡ 0

  -- 0 off the chain and at nodes that vanish, and everywhere if the root does; nowhere else
  pub record Told (a : ℕ) : Type 0 where
    pub entry : a < length s → get_or (table_of A) a 0 ≡ moved_to A a
    pub gone : vanishes (node_in old_fst A.meta.root) ≡ true → moved_to A a ≡ 0
    pub off : ¬ Memᴰ a A.nodes → moved_to A a ≡ 0
    pub vanished : Memᴰ a A.nodes → vanishes (node_in old_fst a) ≡ true → moved_to A a ≡ 0
    pub kept : vanishes (node_in old_fst A.meta.root) ≡ false → Memᴰ a A.nodes → vanishes (node_in old_fst a) ≡ false → ¬ (moved_to A a ≡ 0)

  -- the keys with their values, the type and the number of keys; only the version is another
  pub record SameContents (B : Admitted (converted A)) : Type 0 where
    pub file : new_fst ≡ fst_of (converted A) B.meta
    pub version : B.meta.version ≡ 2
    pub ty : B.meta.ty ≡ A.meta.ty
    pub count : B.meta.len ≡ A.meta.len
    pub there : (k : List ℕ) (v : ℕ) → Held old_fst k v → Held (fst_of (converted A) B.meta) k v
    pub back : (k : List ℕ) (v : ℕ) → Held (fst_of (converted A) B.meta) k v → Held old_fst k v
