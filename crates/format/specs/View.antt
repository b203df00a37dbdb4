-- The lent file as the code's functions take it.
--     view_with file v root     its bytes, its version and the address of its root
--     fst_is f                  the same as the definitions have it
-- Assumes nothing.
use Rattle.std.specs.Prelude.{List, ℕ}
use Rattle.std.specs.Borrow.{Bor}
use Rattle.format.specs.declared.FstRef.{FstRef}
use Rattle.format.specs.Paths.{Fst, fst_with}

abbrev pub view_with : Bor (List ℕ) → ℕ → ℕ → FstRef
view_with file v root = record { bytes = file; version = v; root = root }

abbrev pub fst_is : FstRef → Fst
fst_is f = fst_with f.bytes.now f.version f.root
