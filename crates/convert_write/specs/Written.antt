-- The bytes of a new file, by its parts.
--     header_of s                  version 2 and the type of the file s
--     file_of s nodes count root   the new file: header, nodes, key count, root
--     FileWritable                what writing it asks
-- Assumes nothing.
use Rattle.std.specs.Prelude.{List, ◌++◌, ℕ, ◌≤◌, ◌<◌, length, take, drop}
use Rattle.format.specs.Bytes.{bytes_of}
use Rattle.format.specs.Paths.{Fst}
use Rattle.convert_layout.specs.Layout.{Writable}

abbrev pub header_of : List ℕ → List ℕ
header_of s = bytes_of 8 2 ++ take 8 (drop 8 s)

abbrev pub file_of : List ℕ → List ℕ → ℕ → ℕ → List ℕ
file_of s nodes count root = header_of s ++ (nodes ++ (bytes_of 8 count ++ bytes_of 8 root))

pub record FileWritable (f : Fst) (d s out : List ℕ) : Type 0 where
  pub long : 16 ≤ length f.bytes
  pub root_in : f.root < length f.bytes
  pub writable : Writable f d s out
