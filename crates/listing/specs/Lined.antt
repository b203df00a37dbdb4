-- What the answers of this crate stand for: a line that was written.
--     state_is r, Wrote, Lined w buf₀ buf r     what is left, the line and the buffer of a call whose definition answers w
-- Assumes nothing.
use Rattle.std.specs.Prelude.{Ok, Err, Result, ◌≡◌, List, ◌++◌, ℕ, ◌≤◌, ◌<◌, length, drop}
use Rattle.format.specs.declared.Refusal.{Refusal}
use Rattle.format.specs.Limits.{SPACE}
use Rattle.stream.specs.Plains.{plain_is}
use Rattle.listing.specs.declared.Line.TheVariants.{Key, Last}
use Rattle.listing.specs.declared.Listed.{Listed}
use Rattle.listing_lines.specs.Lines.{longest_line}
use Rattle.listing.specs.Listing as L
use Rattle.listing.specs.Listing.{State, state, more, last}

abbrev pub state_is : Listed → State
state_is r = state (plain_is r.plain) r.keys

-- the line from the buffer's first byte on, the rest as given; no line is longer than the longest
abbrev pub Wrote : L.Line → List ℕ → List ℕ → Listed → Type 0
Wrote (more b st) buf₀ buf r = (r.line ≡ Key (length b)) × (buf ≡ b ++ drop (length b) buf₀) × (state_is r ≡ st) × (length b ≤ longest_line)
Wrote (last b st) buf₀ buf r = (r.line ≡ Last (length b)) × (buf ≡ b ++ drop (length b) buf₀) × (state_is r ≡ st) × (length b ≤ longest_line)

-- no room for a line: nothing changes
abbrev pub Lined : L.Line → List ℕ → List ℕ → Result Listed Refusal → Type 0
Lined w buf₀ buf (Ok r) = Wrote w buf₀ buf r × (longest_line ≤ length buf₀)
Lined w buf₀ buf (Err why) = (why ≡ SPACE) × (buf ≡ buf₀) × (length buf₀ < longest_line)
