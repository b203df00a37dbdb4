-- What a node does to the two tables and what they say of it. Until the pass up comes to its place, an entry of the depths is a mark:
--     0    nothing leads here
--     1    a node of the chain leads here, and no reached node that is passed
--     2    a reached node leads here, or this is the root
--     3    a node of the chain, passed, that is not reached
--     4    a node of the chain, passed, that is reached
-- Above the marks 3 and 4 stands the node's link, 8 times how far above it the next node of the chain stands, or 0 (admission_walk `Links`).
--     Wide s m w              whether the numbers of a node can be read by 8 bytes at once
--     Kept n d₀ d             the table d is as long as d₀, and the same from n on
--     MarksTargets, MarksAt   the marks that one node gives to its targets
--     Unpassed, Enters        no address below one is passed; a node judged and its targets marked
--     FirstEntry d r          how many entries stand before the first that is not 0
--     FirstMarked             the first address from a place on that has an entry
--     child_depth, child_sum    what the tables say of a target
--     deepest, heaviest       the largest of these over a node's transitions
--     total_as, raised_by, entry_is, or_over     sums that may pass the limit
--     Surveyed, SurveyedAt    what a node's targets say of it; the same by its mark
-- Assumes nothing.
use Rattle.std.specs.Prelude.{◌≡◌, Bool, true, cond, ◌⊎◌, ℕ, ◌+◌, ◌*◌, ◌≤◌, ◌<◌, max, leb, eqb, length, get_or, drop, Option, Some, None, Ok, Err, Result}
use mathlib.Core.List.{List, Memᴰ}
use Rattle.format.specs.declared.Transition.{Transition}
use Rattle.format.specs.Limits.{max_path, max_sum}
use Rattle.format.specs.Node.{Node, sound, SoundAt, deltas_at}
use Rattle.format.specs.Paths.{Fst, node_in}
use Rattle.format.specs.Tables.{max_of}
use Rattle.node.specs.declared.Node as Read
use Rattle.node.specs.declared.Unsound.{Unsound}
use Rattle.admission_node.specs.declared.Survey.{Survey}

pub record Kept (n : ℕ) (d₀ d : List ℕ) : Type 0 where
  pub long : length d ≡ length d₀
  pub beyond : drop n d ≡ drop n d₀

-- ---- the numbers of a node

-- where w is true, 8 bytes of the file s follow the outputs and the deltas of the node m
pub record Wide (s : List ℕ) (m : Read.Node) (w : Bool) : Type 0 where
  pub room : w ≡ true → deltas_at m.outputs m.ntrans m.osize + m.ntrans * m.tsize + 8 ≤ length s

-- ---- the marks

-- one of the transitions leads to j
pub record TargetIn (ts : List Transition) (j : ℕ) : Type 0 where
  pub by : Transition
  pub one : Memᴰ by ts
  pub addr_is : by.addr ≡ j

-- the targets lie within the first n entries, at places that are not passed
pub record Markable (n : ℕ) (d : List ℕ) (ts : List Transition) : Type 0 where
  pub room : n ≤ length d
  pub inside : (t : Transition) → Memᴰ t ts → t.addr < n
  pub fresh : (t : Transition) → Memᴰ t ts → get_or d t.addr 0 ≤ 2

-- no address below a is passed
pub record Unpassed (n : ℕ) (d : List ℕ) (a : ℕ) : Type 0 where
  pub low : (j : ℕ) → j < a → j < n → get_or d j 0 ≤ 2

-- each target has at least the mark, and no entry is lowered or raised otherwise
pub record MarksTargets (n mark : ℕ) (ts : List Transition) (d₀ d : List ℕ) : Type 0 where
  pub kept : Kept n d₀ d
  pub led : (j : ℕ) → (get_or d j 0 ≡ get_or d₀ j 0) ⊎ (TargetIn ts j × (get_or d j 0 ≡ max (get_or d₀ j 0) mark))
  pub aim : (t : Transition) → Memᴰ t ts → mark ≤ get_or d t.addr 0

-- the node at a marks its targets, and its first byte is known
pub record MarksAt (f : Fst) (a mark : ℕ) (d₀ d : List ℕ) (first : ℕ) : Type 0 where
  pub marks : (m : Node) → node_in f a ≡ sound m → MarksTargets (length f.bytes) mark m.transitions d₀ d
  pub first_is : (m : Node) → node_in f a ≡ sound m → first ≡ m.first

-- the node at a is judged, and marks its targets where it is sound
abbrev pub Enters : Fst → ℕ → ℕ → List ℕ → List ℕ → Result ℕ Unsound → Type 0
Enters f a mark d₀ d (Ok first) = SoundAt f.bytes f.version f.root a × MarksAt f a mark d₀ d first
Enters f a mark d₀ d (Err _) = (¬ SoundAt f.bytes f.version f.root a) × (d ≡ d₀)

-- r entries from the first on are 0, and the next one, where there is one, is not
pub record FirstEntry (d : List ℕ) (r : ℕ) : Type 0 where
  pub within : r ≤ length d
  pub none : (j : ℕ) → j < r → get_or d j 0 ≡ 0
  pub next : r < length d → ¬ (get_or d r 0 ≡ 0)

-- r is the first marked address from `from` on, or n where there is none below
pub record FirstMarked (d : List ℕ) (from n r : ℕ) : Type 0 where
  pub low : from ≤ r
  pub high : r ≤ n
  pub none : (j : ℕ) → from ≤ j → j < r → get_or d j 0 ≡ 0
  pub marked : r < n → ¬ (get_or d r 0 ≡ 0)

-- ---- one node, by the entries of its targets

-- address 0 has no entry, no path and output 0
abbrev pub child_depth : List ℕ → ℕ → ℕ
child_depth d t = cond (eqb t 0) 1 (get_or d t 0)

abbrev pub child_sum : List ℕ → ℕ → ℕ
child_sum s t = cond (eqb t 0) 0 (get_or s t 0)

unfoldable pub deepest : List ℕ → List Transition → ℕ
unfolding max_of
deepest d ts = max_of (λ t. child_depth d t.addr) ts

unfoldable pub heaviest : List ℕ → ℕ → List Transition → ℕ
unfolding max_of
heaviest s out ts = max out (max_of (λ t. t.out + child_sum s t.addr) ts)

-- n as a total
abbrev pub total_as : ℕ → Option ℕ
total_as n = cond (leb n max_sum) (Some n) None

-- the larger of a total and x
abbrev pub raised_by : Option ℕ → ℕ → Option ℕ
raised_by (Some b) x = cond (leb x max_sum) (Some (max b x)) None
raised_by None x = None

abbrev pub entry_is : Option ℕ → ℕ
entry_is (Some x) = x
entry_is None = max_sum

abbrev pub or_over : Bool → Option ℕ → Bool
or_over heavy (Some x) = heavy
or_over heavy None = true

-- the targets lie within the tables, which have 0 at address 0, and their entries and the final output are small
pub record Surveyable (d s : List ℕ) (out : ℕ) (ts : List Transition) : Type 0 where
  pub in_depths : (t : Transition) → Memᴰ t ts → t.addr < length d
  pub in_sums : (t : Transition) → Memᴰ t ts → t.addr < length s
  pub no_depth : get_or d 0 0 ≡ 0
  pub no_sum : get_or s 0 0 ≡ 0
  pub small : (t : Transition) → Memᴰ t ts → child_depth d t.addr ≤ max_path + 2
  pub out_le : out ≤ max_sum

pub record Surveyed (d s : List ℕ) (out : ℕ) (ts : List Transition) (r : Survey) : Type 0 where
  pub depth : r.depth ≡ deepest d ts + 1
  pub total : r.total ≡ total_as (heaviest s out ts)

-- the same of the node at a
pub record SurveyReady (f : Fst) (d s : List ℕ) (a : ℕ) : Type 0 where
  pub each : (m : Node) → node_in f a ≡ sound m → Surveyable d s m.final_output m.transitions

pub record SurveyedNode (f : Fst) (d s : List ℕ) (a : ℕ) (r : Survey) : Type 0 where
  pub each : (m : Node) → node_in f a ≡ sound m → Surveyed d s m.final_output m.transitions r

-- the same at the address a of the chain, by its mark: only a reached node is read
pub record SurveyableAt (f : Fst) (d s : List ℕ) (a mark : ℕ) : Type 0 where
  pub sounds : ¬ (mark ≡ 3) → SoundAt f.bytes f.version f.root a
  pub ready : ¬ (mark ≡ 3) → SurveyReady f d s a

pub record SurveyedAt (f : Fst) (d s : List ℕ) (a mark : ℕ) (r : Survey) : Type 0 where
  pub no_depth : mark ≡ 3 → r.depth ≡ 0
  pub no_total : mark ≡ 3 → r.total ≡ Some 0
  pub found : ¬ (mark ≡ 3) → SurveyedNode f d s a r
