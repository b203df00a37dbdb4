-- A page by pattern in one call (document 02, N1; docs/FORMAT.md, "A page by pattern"): up to `most` keys between two bounds that fit, the least first,
-- each with its value. By definition, for every file, pattern, two bounds and buffers of any size. What a page is, and what the two buffers hold
-- afterwards, is said in `paging`.
--     fold_by s p r n                next_by called up to n times from the reading r, with room for a key of 255 bytes
--     find s p lo hi most a b       the page that a call answers, with rows of a bytes and b values
-- Assumes nothing.
use Rattle.std.specs.Prelude.{cond, List, [], ℕ, zero, suc, leb, length}
use Rattle.format.specs.Limits.{max_path, SPACE, BOUND, PATTERN}
use Rattle.format.specs.Opening.{opening}
use Rattle.format.specs.Strings.{Bound}
use Rattle.reading.specs.Reading.{View, on_opened, bounds_test, Started, started}
use Rattle.pattern.specs.Pattern.{Pattern, start_by, next_by}
use Rattle.paging.specs.Paging.{Page, page, more, refused_page, answered, room_test}

unfoldable pub fold_by : List ℕ → Pattern → View → ℕ → Page
fold_by s p r zero = page [] more
fold_by s p r (suc n) = answered (next_by s p r max_path).answer (fold_by s p (next_by s p r max_path).reading n)

abbrev pub page_by : List ℕ → Pattern → ℕ → Started → Page
page_by s p most (started r) = fold_by s p r most
page_by s p most (Started.refused n) = refused_page n

-- opening's refusals, PATTERN, BOUND, SPACE, then the walk: the start's other refusals and next_by, folded
unfoldable pub find : List ℕ → Pattern → Bound → Bound → ℕ → ℕ → ℕ → Page
unfolding fold_by
find s p lo hi most a b =
    on_opened (opening s)
    (λ m.
    cond (leb (length p.positions) max_path)
    (cond (bounds_test lo hi) (cond (room_test most a b) (page_by s p most (start_by s p lo hi)) (refused_page SPACE)) (refused_page BOUND))
    (refused_page PATTERN))
    (λ n. refused_page n)
