-- What a page of items of admitted files is, over held keys, their order and the bounds. ItemsLaws proves the claim (`items_exact`).
--     SameBounds lo hi cs           all sources have these two bounds
--     files_of cs                    their files
--     ItemsExact op cs most p       the page p is the first items of the operation, up to `most`
-- A source's table of keys says that its keys can be counted; a page is not lent it.
-- Assumes nothing.
use Prim.{Unit}
use Rattle.std.specs.Prelude.{◌≡◌, ℕ, ◌≤◌, ◌<◌, length}
use Rattle.format.specs.declared.Refusal.{Refusal}
use mathlib.Core.List.{List, [], ◌∷◌, map, Memᴰ}
use Rattle.format.specs.Strings.{Before, Bound, Rising}
use Rattle.paging.specs.Paging.{Stop, ended, more}
use Rattle.ops_spec.specs.Ops.{Op, Indexed}
use Rattle.ops_spec.specs.OpsDemand.{Source, Belongs}
use Rattle.ops_spec.specs.OpsLists.{Item, item_is}
use Rattle.ops_paging.specs.ItemPaging.{ItemPage}

abbrev pub SameBounds : Bound → Bound → List Source → Type 0
SameBounds lo hi [] = Unit {0}
SameBounds lo hi (c ∷ cs) = (c.lower ≡ lo) × (c.upper ≡ hi) × SameBounds lo hi cs

abbrev pub files_of : List Source → List (List ℕ)
files_of [] = []
files_of (c ∷ cs) = c.file ∷ files_of cs

pub record ItemsExact (op : Op) (cs : List Source) (most : ℕ) (p : ItemPage) : Type 0 where
  -- keys that belong to the operation, each with all its values
  pub such : (x : Item) → Memᴰ x p.items → Belongs op cs x.key x.pairs
  pub ascending : Rising (map (λ (x : Item). x.key) p.items)
  -- the first of them: none that belongs and is not greater is missing
  pub none_left_out : (k : List ℕ) (ps : List Indexed) → Belongs op cs k ps → (x : Item) → Memᴰ x p.items → ¬ Before x.key k
      → Memᴰ (item_is k ps) p.items
  -- up to `most`
  pub at_most : length p.items ≤ most
  pub not_refused : (n : Refusal) → ¬ (p.stop ≡ Stop.refused n)
  -- "ended" exactly where fewer were left than asked for, and then none is left
  pub ended_fewer : p.stop ≡ ended → length p.items < most
  pub fewer_ended : length p.items < most → p.stop ≡ ended
  pub ended_none_left : p.stop ≡ ended → (k : List ℕ) (ps : List Indexed) → Belongs op cs k ps → Memᴰ (item_is k ps) p.items
  -- "more" exactly where as many were handed out as asked for
  pub more_all : p.stop ≡ more → length p.items ≡ most
  pub all_more : length p.items ≡ most → p.stop ≡ more
