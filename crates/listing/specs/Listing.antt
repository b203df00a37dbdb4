-- A listing (document 01, "The lines of the listing program"): what is left to list, and the line that comes next, on any file and from any
-- reading. ListingLaws shows that the lines of an admitted file are its held keys.
--     State                  a reading, and how many keys were listed; that number stays at 2^64 - 1
--     Line, line_of s st      the next line, a key's or the last, with what is left
--     Lists s st ls          the lines ls follow each other from st to the last
-- Assumes nothing.
use Rattle.std.specs.Prelude.{◌≡◌, List, [], ◌∷◌, ℕ}
use Rattle.format.specs.Limits.{max_path}
use Rattle.reading.specs.Reading.{Answer, key, end, counted}
use Rattle.plain.specs.Plain.{Plain, next_plain}
use Rattle.listing_lines.specs.Lines.{key_line, end_line, refused_line}

pub record State : Type 0 where
  pub reading : Plain
  pub keys : ℕ

abbrev pub state : Plain → ℕ → State
state r n = record { reading = r; keys = n }

pub data Line : Type 0 where
  more : List ℕ → State → Line
  last : List ℕ → State → Line

-- the line of an answer, with the reading after it
abbrev pub line_by : Answer → Plain → ℕ → Line
line_by (key k v) r n = more (key_line k v) (state r (counted n))
line_by end r n = last (end_line n r.view.total) (state r n)
line_by (Answer.refused c) r n = last (refused_line c) (state r n)

-- a call of next with a key buffer of 255 bytes
unfoldable pub line_of : List ℕ → State → Line
line_of s st = line_by (next_plain s st.reading max_path).answer (next_plain s st.reading max_path).reading st.keys

pub data Lists (s : List ℕ) : State → List (List ℕ) → Type 0 where
  last_line : {st st' : State} (b : List ℕ) → line_of s st ≡ last b st' → Lists s st (b ∷ [])
  line_more : {st st' : State} {ls : List (List ℕ)} (b : List ℕ) → line_of s st ≡ more b st' → Lists s st' ls → Lists s st (b ∷ ls)
