-- What an item that is written leaves in the four buffers.
--     HasPlace i rows counts numbers values     item i has its places in the buffers
--     ItemPut h p i ..                          the key of the head h and the pairs p stand as item i, and every other place is as given
-- Assumes nothing.
use Rattle.std.specs.Prelude.{◌≡◌, List, ◌∷◌, ℕ, ◌+◌, ◌*◌, ◌≤◌, ◌<◌, length, set}
use Rattle.buffers.specs.Put.{put}
use Rattle.paging.specs.Paging.{row_len}
use Rattle.ops_keys.specs.declared.Head.{Head}
use Rattle.ops_keys.specs.Heads.{head_key}
use Rattle.ops_pairs.specs.declared.Pairs.{Pairs}

pub record HasPlace (i : ℕ) (rows counts numbers values : List ℕ) : Type 0 where
  pub row : row_len * i + row_len ≤ length rows
  pub count : i < length counts
  pub number : 8 * i + 8 ≤ length numbers
  pub value : 8 * i + 8 ≤ length values

pub record ItemPut (h : Head) (p : Pairs) (i : ℕ) (rows₀ rows counts₀ counts numbers₀ numbers values₀ values : List ℕ) : Type 0 where
  pub row : rows ≡ put rows₀ (i * row_len) (length (head_key h) ∷ head_key h)
  pub count : counts ≡ set counts₀ i p.count
  pub number : numbers ≡ put numbers₀ (i * 8) p.files
  pub value : values ≡ put values₀ (i * 8) p.values
