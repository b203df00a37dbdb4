-- An opened file (document 01, "An opened file"; docs/FORMAT.md, "A file").
--     Meta                   what the header and the trailer of a file say, by the source's name
--     trailer_len v           the bytes after the root's node in version v: key count, root address, in version 3 a checksum
--     least_len v             the bytes of a file of version v with no node: header and trailer
--     root_test v root len    the rule on roots
--     Opening, opening s     what opening the bytes s answers: what they say, or a refusal
-- Assumes nothing.
use Rattle.std.specs.Prelude.{Bool, true, false, cond, ◌&&◌, List, [], ℕ, ◌+◌, ◌-◌, ltb, leb, eqb, length, take, drop}
use Rattle.std.proofs.Math.Option.{Option, none, some}
use Rattle.format.specs.declared.Refusal.{Refusal}
use Rattle.format.specs.Limits.{first_node, min_len, max_len, SHORT, VERSION, ROOT, LARGE}
use Rattle.format.specs.Bytes.{le}

pub record Meta : Type 0 where
  pub version : ℕ
  pub ty : ℕ
  -- the number of keys, read and not judged
  pub len : ℕ
  pub root : ℕ
  -- versions 1 and 2 have none
  pub checksum : Option ℕ

-- the number of k bytes that stands at place i
abbrev pub number_at : List ℕ → ℕ → ℕ → ℕ
number_at s i k = le (take k (drop i s))

abbrev pub checksum_len : ℕ → ℕ
checksum_len v = cond (eqb v 3) 4 0

abbrev pub trailer_len : ℕ → ℕ
trailer_len v = 16 + checksum_len v

-- 36 in version 3, else 32
abbrev pub least_len : ℕ → ℕ
least_len v = first_node + trailer_len v

unfoldable pub meta_of : List ℕ → Meta
meta_of s = record {
  version = number_at s 0 8;
  ty = number_at s 8 8;
  len = number_at s (length s - trailer_len (number_at s 0 8)) 8;
  root = number_at s (length s - trailer_len (number_at s 0 8) + 8) 8;
  checksum = cond (eqb (number_at s 0 8) 3) (some (number_at s (length s - 4) 4)) none;
}

abbrev pub version_test : ℕ → Bool
version_test v = leb 1 v && leb v 3

-- root 0 stands in a file with no node; any other root is at least 16 and the last byte before the trailer
unfoldable pub root_test : ℕ → ℕ → ℕ → Bool
root_test v root len = cond (eqb root 0) (eqb len (least_len v)) (leb first_node root && eqb (root + 1 + trailer_len v) len)

pub data Opening : Type 0 where
  opened : Meta → Opening
  refused : Refusal → Opening

-- no bytes are a blank card and open; else SHORT, LARGE, VERSION, SHORT for this version, ROOT, in this order
unfoldable pub opening : List ℕ → Opening
unfolding meta_of root_test
opening s =
    cond (eqb (length s) 0) (opened (meta_of []))
    (cond (ltb (length s) min_len) (refused SHORT)
    (cond (ltb max_len (length s)) (refused LARGE)
    (cond (version_test (meta_of s).version)
    (cond (ltb (length s) (least_len (meta_of s).version)) (refused SHORT)
    (cond (root_test (meta_of s).version (meta_of s).root (length s)) (opened (meta_of s)) (refused ROOT)))
    (refused VERSION))))
