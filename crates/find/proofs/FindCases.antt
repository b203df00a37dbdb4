-- `F.find` by what its tests answer: one law for each refusal before the walk, and one for the walk.
-- Assumes nothing.
use mathlib.Core.Path.{◌≡◌}
use Rattle.format.specs.declared.Refusal.{Refusal}
use mathlib.Core.Bool.{true, false}
use mathlib.Core.List.{List}
use Prim.Native.Nat.{ℕ, ◌≤◌, ◌<◌}
use borrow.Author.Tests.{le-leb, lt-leb}
use lib.ListN.{length}
use Rattle.format.specs.Limits.{max_path, BOUND, SPACE, PATTERN}
use Rattle.format.specs.Opening as O
use Rattle.format.specs.Opening.{Meta, opening}
use Rattle.format.specs.Strings.{Bound}
use Rattle.reading.specs.Reading.{bounds_test}
use Rattle.pattern.specs.Pattern.{Pattern, start_by}
use Rattle.paging.specs.Paging.{refused_page, room_test}
use Rattle.finding.specs.Finding.{page_by, find}

module _ (s : List ℕ) (p : Pattern) (lo hi : Bound) (most a b : ℕ) where
  pub find_unopened : (n : Refusal) → opening s ≡ O.Opening.refused n → find s p lo hi most a b ≡ refused_page n
  unfolding find
  find_unopened n e = rw e

  module _ (m : Meta) (opens : opening s ≡ O.opened m) where
    pub find_pattern : max_path < length p.positions → find s p lo hi most a b ≡ refused_page PATTERN
    unfolding find
    find_pattern many = let x = lt-leb (length p.positions) max_path many in rw (opens, x)

    module _ (few : length p.positions ≤ max_path) where
      pub find_bound : bounds_test lo hi ≡ false → find s p lo hi most a b ≡ refused_page BOUND
      unfolding find
      find_bound e = let x = le-leb (length p.positions) max_path few in rw (opens, x, e)

      pub find_space : bounds_test lo hi ≡ true → room_test most a b ≡ false → find s p lo hi most a b ≡ refused_page SPACE
      unfolding find
      find_space e f = let x = le-leb (length p.positions) max_path few in rw (opens, x, e, f)

      pub find_walk : bounds_test lo hi ≡ true → room_test most a b ≡ true → find s p lo hi most a b ≡ page_by s p most (start_by s p lo hi)
      unfolding find
      find_walk e f = let x = le-leb (length p.positions) max_path few in rw (opens, x, e, f)
