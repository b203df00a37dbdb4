-- What `convert` answers and leaves in its four lent buffers (document 02, N7).
--     answer_as q                  the code's answer for the conversion q: the number of bytes, or the refusal
--     out_after, table_after        the lent output and the lent table after it
--     ConvertsBy q ..             answer, output and table are those of q
--     NotAdmitted, OfAdmitted     a file that admission refuses; one that it admits
--     Converts limit s ..         the whole, where the new file may have limit bytes
--     Marked, Says, OldFile, OldConverted, AgainConverted, Finishable, Finished     what the inner functions ask and answer
-- Assumes nothing.
use Rattle.std.specs.Prelude.{◌≡◌, ◌⊎◌, ℕ, ◌≤◌, ◌<◌, length, get_or, take, drop, Ok, Err, Result}
use Rattle.format.specs.declared.Refusal.{Refusal}
use mathlib.Core.List.{List, ◌++◌, Memᴰ}
use Rattle.format.specs.Limits.{max_len}
use Rattle.format.specs.Opening.{Meta, opened, opening}
use Rattle.format.specs.Paths.{Fst}
use Rattle.format.specs.Admitted.{Admitted}
use Rattle.admission_node.specs.Entries.{Kept}
use Rattle.admission.specs.Outcome.{Admits, RefusedFor}
use Rattle.converting.specs.Converting.{Conversion, written, refused, placing, conversion}
use Rattle.convert_marks.specs.Marks.{Hops}
use Rattle.convert_layout.specs.Layout.{laid_to, MarkedSound, LaidOut}
use Rattle.convert_write.specs.Written.{file_of}

abbrev pub answer_as : Conversion → Result ℕ Refusal
answer_as (written file table) = Ok (length file)
answer_as (refused k) = Err k

-- the new file from the first byte on, and the rest as given; a refusal leaves all as it was
abbrev pub out_after : Conversion → List ℕ → List ℕ
out_after (written file table) out = file ++ drop (length file) out
out_after (refused k) out = out

abbrev pub table_after : Conversion → List ℕ → List ℕ
table_after (written file table) t = table ++ drop (length table) t
table_after (refused k) t = t

pub record ConvertsBy (q : Conversion) (out₀ table₀ out table : List ℕ) (r : Result ℕ Refusal) : Type 0 where
  pub answer : r ≡ answer_as q
  pub out_is : out ≡ out_after q out₀
  pub table_is : table ≡ table_after q table₀

-- ---- the contract

-- admission's refusals, with its two tables as it leaves them
pub record NotAdmitted (s d₀ t₀ out₀ table₀ d t out table : List ℕ) (r : Result ℕ Refusal) : Type 0 where
  pub why : Refusal
  pub refuses : RefusedFor s d₀ t₀ d t why
  pub answer : r ≡ Err why
  pub out_is : out ≡ out₀
  pub table_is : table ≡ table₀

-- admission's two tables are as it leaves them, whatever is answered
pub record OfAdmitted (limit : ℕ) (s d₀ t₀ out₀ table₀ d t out table : List ℕ) (r : Result ℕ Refusal) : Type 0 where
  pub admits : Admits s d₀ t₀ d t
  pub converts : ConvertsBy (conversion limit admits.admitted (length out₀) (length table₀)) out₀ table₀ out table r

abbrev pub Converts : ℕ → List ℕ → List ℕ → List ℕ → List ℕ → List ℕ → List ℕ → List ℕ → List ℕ → List ℕ → Result ℕ Refusal → Type 0
Converts limit s d₀ t₀ out₀ table₀ d t out table r =
    NotAdmitted s d₀ t₀ out₀ table₀ d t out table r ⊎ OfAdmitted limit s d₀ t₀ out₀ table₀ d t out table r

-- ---- what the inner functions ask and answer

-- d and t are what admission left
pub record Marked (s d t : List ℕ) : Type 0 where
  pub depths₀ : List ℕ
  pub sums₀ : List ℕ
  pub admits : Admits s depths₀ sums₀ d t

-- the file says this version, count and root
pub record Says (s : List ℕ) (version count root : ℕ) : Type 0 where
  pub meta : Meta
  pub opens : opening s ≡ opened meta
  pub version_is : version ≡ meta.version
  pub count_is : count ≡ meta.len
  pub root_is : root ≡ meta.root

-- an admitted file of version 1, with entries of the depths at addresses of the chain only
pub record OldFile (f : Fst) (count : ℕ) (d t : List ℕ) : Type 0 where
  pub admitted : Admitted f.bytes
  pub old : f.version ≡ 1
  pub version_is : admitted.meta.version ≡ 1
  pub root_is : f.root ≡ admitted.meta.root
  pub count_is : count ≡ admitted.meta.len
  pub room_depths : length f.bytes ≤ length d
  pub room_sums : length f.bytes ≤ length t
  pub off : (j : ℕ) → j < length f.bytes → ¬ Memᴰ j admitted.nodes → get_or d j 0 ≡ 0

-- the two work tables are changed within the file only
pub record OldConverted (limit : ℕ) (s d₀ t₀ out₀ table₀ d t out table : List ℕ) (r : Result ℕ Refusal) : Type 0 where
  pub depths_kept : Kept (length s) d₀ d
  pub sums_kept : Kept (length s) t₀ t
  pub each : (A : Admitted s) → ConvertsBy (conversion limit A (length out₀) (length table₀)) out₀ table₀ out table r

-- what is admitted, converted: the two work tables are as they were
pub record AgainConverted (limit : ℕ) (s d₀ t₀ out₀ table₀ d t out table : List ℕ) (r : Result ℕ Refusal) : Type 0 where
  pub depths_same : d ≡ d₀
  pub sums_same : t ≡ t₀
  pub each : (A : Admitted s) → ConvertsBy (conversion limit A (length out₀) (length table₀)) out₀ table₀ out table r

-- the layout is known and within the limit
pub record Finishable (f : Fst) (d t : List ℕ) (next : ℕ) : Type 0 where
  pub long : 16 ≤ length f.bytes
  pub root_in : f.root < length f.bytes
  pub room_depths : length f.bytes ≤ length d
  pub room_sums : length f.bytes ≤ length t
  pub sounds : MarkedSound f d
  pub hops : Hops (length f.bytes) d
  pub laid_out : LaidOut f d t max_len next

-- the new file and the table, by the layout
pub record Finished (f : Fst) (count : ℕ) (d t out₀ table₀ out table : List ℕ) (r : Result ℕ Refusal) : Type 0 where
  pub converts : ConvertsBy
      (placing (file_of f.bytes (laid_to f d (length f.bytes)).nodes count (get_or t f.root 0)) (take (length f.bytes) t) (length f.bytes) (length out₀)
      (length table₀))
      out₀ table₀ out table r
