-- The lines of an admitted file are its held keys: the claim that `listed` proves (ListingLaws).
--     line_for e           the line of a key and its value
--     HeldLines A c       the lines, with the table of keys c: the held keys, ascending, each once with its value, and then the two numbers
-- Assumes nothing.
use Rattle.std.specs.Prelude.{◌≡◌, ℕ, length}
use mathlib.Core.List.{List, [], ◌∷◌, ◌++◌, map, Memᴰ}
use Rattle.format.specs.Paths.{fst_of, Held}
use Rattle.format.specs.Admitted.{Admitted}
use Rattle.format.specs.Strings.{unbounded, Rising, NumberOf}
use Rattle.plain.specs.Plain.{Plain, begun, start_plain}
use Rattle.reading.specs.Demand.{BeginsHeld, Entry, entry, capped}
use Rattle.listing_lines.specs.Lines.{key_line, end_line}
use Rattle.listing.specs.Listing.{state, Lists}

abbrev pub line_for : Entry → List ℕ
line_for e = key_line e.key e.value

pub record HeldLines {s : List ℕ} (A : Admitted s) (c : List ℕ) : Type 0 where
  -- the unbounded reading
  pub reading : Plain
  pub starts : start_plain s unbounded unbounded c ≡ begun reading
  -- the held keys, ascending, each once with its value
  pub entries : List Entry
  pub ascending : Rising (map (λ (e : Entry). e.key) entries)
  pub held : (e : Entry) → Memᴰ e entries → Held (fst_of s A.meta) e.key e.value
  pub all : (k : List ℕ) (v : ℕ) → Held (fst_of s A.meta) k v → Memᴰ (entry k v) entries
  -- one transition is followed for each non-empty string that begins a held key
  pub followed : ℕ
  pub number : NumberOf (BeginsHeld (fst_of s A.meta)) followed
  -- a line for each key, and the last line
  pub lists : Lists s (state reading 0) (map line_for entries ++ (end_line (capped (length entries)) (capped followed) ∷ []))
