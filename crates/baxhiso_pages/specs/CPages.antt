-- A range page after page, as a C program asks for it. CPagesLaws proves `pages_tell`.
--     bytes_from b p n        n bytes of a buffer from place p on
--     read_rows               the keys and values that a C program reads out of rows and values
--     PageMade s lo hi       a call of fst_range_rows with room for at least one key: what was lent, and what its contract says of it afterwards
--     CPages s hi lo es      call after call from the lower bound lo on, up to the first that answers FST_END, es is read out of the buffers
--     PagesTell A lo hi es   what that is on an admitted file
-- Assumes nothing.
use Rattle.std.specs.Prelude.{◌≡◌, ℕ, zero, suc, ◌+◌, ◌-◌, ◌*◌, ◌≤◌, ◌<◌, ℤ, length, get_or}
use mathlib.Core.List.{List, [], ◌∷◌, ◌++◌, map, Memᴰ}
use Rattle.format.specs.Paths.{fst_of, Held}
use Rattle.format.specs.Admitted.{Admitted}
use Rattle.format.specs.Strings.{Bound, excluded, Between, Rising}
use Rattle.reading.specs.Demand.{Entry, entry, NoneLeft}
use Rattle.paging.specs.Paging.{row_len, range}
use Rattle.baxhiso_readings.specs.Readings.{END, MORE, RangeLeaves}

-- ---- what a C program reads

unfoldable pub bytes_from : List ℕ → ℕ → ℕ → List ℕ
bytes_from b p zero = []
bytes_from b p (suc n) = get_or b p 0 ∷ bytes_from b (suc p) n

-- row i: its first byte is the key's length, and the key follows
abbrev pub row_key : List ℕ → ℕ → List ℕ
row_key rows i = bytes_from rows (row_len * i + 1) (get_or rows (row_len * i) 0)

-- n rows from row i on, each with the value beside it
unfoldable pub read_rows : List ℕ → List ℕ → ℕ → ℕ → List Entry
read_rows rows values i zero = []
read_rows rows values i (suc n) = entry (row_key rows i) (get_or values i 0) ∷ read_rows rows values (suc i) n

-- ---- the calls

pub record PageMade (s : List ℕ) (lo hi : Bound) : Type 0 where
  pub most : ℕ
  pub rows₀ : List ℕ
  pub rows : List ℕ
  pub values₀ : List ℕ
  pub values : List ℕ
  pub count : ℕ
  pub result : ℤ
  pub some : 0 < most
  pub row_room : row_len * most ≤ length rows₀
  pub value_room : most ≤ length values₀
  pub leaves : RangeLeaves (range s lo hi most (length rows₀) (length values₀)) rows₀ rows values₀ values count result

abbrev pub read_of : {s : List ℕ} {lo hi : Bound} → PageMade s lo hi → List Entry
read_of c = read_rows c.rows c.values 0 c.count

-- the key in the last row of a page is the excluded lower bound of the next
pub data CPages (s : List ℕ) (hi : Bound) : Bound → List Entry → Type 0 where
  ends : {lo : Bound} (c : PageMade s lo hi) → c.result ≡ END → CPages s hi lo (read_of c)
  goes_on : {lo : Bound} {rest : List Entry} (c : PageMade s lo hi) → c.result ≡ MORE → CPages s hi (excluded (row_key c.rows (c.count - 1))) rest
      → CPages s hi lo (read_of c ++ rest)

-- exactly the held keys between the bounds, ascending, so once each, each with its value
pub record PagesTell {s : List ℕ} (A : Admitted s) (lo hi : Bound) (es : List Entry) : Type 0 where
  pub ascending : Rising (map (λ (e : Entry). e.key) es)
  pub held : (e : Entry) → Memᴰ e es → Held (fst_of s A.meta) e.key e.value × Between lo hi e.key
  pub none_left : NoneLeft (fst_of s A.meta) lo hi es
