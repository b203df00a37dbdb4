-- What opening answers in each case of the papers (document 01, "An opened file"; document 02, N3; docs/FORMAT.md, "A file").
--     RootRight v root len     the rule on roots, as facts
--     Whole s                  at least the header and the trailer of a version from 1 to 3, and within the limit
--     OpeningCase s o          when the answer to the bytes s is o, a line for each case; `opening_exactly` in OpeningLaws says it both ways
-- Assumes nothing.
use Rattle.std.specs.Prelude.{◌≡◌, ◌⊎◌, List, [], ℕ, ◌+◌, ◌≤◌, ◌<◌, length}
use Rattle.format.specs.Limits.{first_node, max_len, SHORT, VERSION, ROOT, LARGE}
use Rattle.format.specs.Opening.{trailer_len, least_len, meta_of, Opening, opened, refused}

-- root 0 exactly in a file with no node; any other root is at least 16 and the last byte before the trailer
unfoldable pub RootRight : ℕ → ℕ → ℕ → Type 0
RootRight v root len = ((root ≡ 0) × (len ≡ least_len v)) ⊎ ((first_node ≤ root) × (root + 1 + trailer_len v ≡ len))

pub record VersionRight (v : ℕ) : Type 0 where
  pub from_1 : 1 ≤ v
  pub to_3 : v ≤ 3

pub record Whole (s : List ℕ) : Type 0 where
  pub low : least_len (meta_of s).version ≤ length s
  pub high : length s ≤ max_len
  pub version : VersionRight (meta_of s).version

pub data OpeningCase (s : List ℕ) : Opening → Type 0 where
  no_bytes : length s ≡ 0 → OpeningCase s (opened (meta_of []))
  under_32 : 0 < length s → length s < 32 → OpeningCase s (refused SHORT)
  over_limit : max_len < length s → OpeningCase s (refused LARGE)
  other_version : 32 ≤ length s → length s ≤ max_len → ¬ VersionRight (meta_of s).version → OpeningCase s (refused VERSION)
  under_36 : 32 ≤ length s → length s < 36 → (meta_of s).version ≡ 3 → OpeningCase s (refused SHORT)
  wrong_root : Whole s → ¬ RootRight (meta_of s).version (meta_of s).root (length s) → OpeningCase s (refused ROOT)
  right_root : Whole s → RootRight (meta_of s).version (meta_of s).root (length s) → OpeningCase s (opened (meta_of s))
