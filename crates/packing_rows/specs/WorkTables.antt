-- The working tables of packing (document 02, N4; docs/FORMAT.md, "Packing a list"): row d, of 256 entries, has the finished transitions of
-- the open node at depth d. Beside them, for each depth: how many they are, the byte that leads there, whether a key ends there, its value.
--     Tables               the three tables and what is kept for each depth
--     row_in t d n          the first n entries of row d of the table t
--     open_at T d           the open node at depth d
--     levels f d n         n open nodes from depth d on
--     Joined, close_into    the open nodes below o are finished, and their transition is added to o
--     Sized, Orderly       every table has its size; the rows are as a record asks
--     SameAbove e T T'     the open nodes above depth e are the same
-- Assumes nothing.
use Rattle.std.specs.Prelude.{◌≡◌, Bool, true, false, cond, List, [], ◌∷◌, ◌++◌, ℕ, zero, suc, ◌+◌, ◌*◌, ◌≤◌, ◌<◌, min, length, get_or, take, drop}
use Rattle.std.proofs.Math.Option.{Option, none, some}
use Rattle.format.specs.Node.{Ascending}
use Rattle.format.specs.Packed.{TargetsOk}
use Rattle.packing.specs.Registry.{Build}
use Rattle.packing.specs.Packing.{Arc, Open, with_arc, Closed, close}

pub record Tables : Type 0 where
  pub inputs : List ℕ
  pub leasts : List ℕ
  pub targets : List ℕ
  pub counts : List ℕ
  pub led : List ℕ
  pub finals : List Bool
  pub values : List ℕ

abbrev pub tables_with : List ℕ → List ℕ → List ℕ → List ℕ → List ℕ → List Bool → List ℕ → Tables
tables_with inputs leasts targets counts led finals values = record {
  inputs = inputs;
  leasts = leasts;
  targets = targets;
  counts = counts;
  led = led;
  finals = finals;
  values = values;
}

abbrev pub row_in : List ℕ → ℕ → ℕ → List ℕ
row_in t d n = take n (drop (256 * d) t)

abbrev pub arc_with : ℕ → ℕ → ℕ → Arc
arc_with b m a = record { inp = b; least = m; addr = a }

unfoldable pub zip_arcs : List ℕ → List ℕ → List ℕ → List Arc
zip_arcs [] ms as' = []
zip_arcs (b ∷ bs) [] as' = []
zip_arcs (b ∷ bs) (m ∷ ms) [] = []
zip_arcs (b ∷ bs) (m ∷ ms) (a ∷ as') = arc_with b m a ∷ zip_arcs bs ms as'

abbrev pub count_at : Tables → ℕ → ℕ
count_at T d = get_or T.counts d 0

abbrev pub value_in : Bool → ℕ → Option ℕ
value_in final v = cond final (some v) none

abbrev pub arcs_at : Tables → ℕ → List Arc
arcs_at T d = zip_arcs (row_in T.inputs d (count_at T d)) (row_in T.leasts d (count_at T d)) (row_in T.targets d (count_at T d))

unfoldable pub open_at : Tables → ℕ → Open
unfolding zip_arcs
open_at T d = record { inp = get_or T.led d 0; value = value_in (get_or T.finals d false) (get_or T.values d 0); arcs = arcs_at T d }

unfoldable pub levels : (ℕ → Open) → ℕ → ℕ → List Open
levels f d zero = []
levels f d (suc n) = f d ∷ levels f (d + 1) n

-- ---- open nodes finished into the one above

pub record Joined : Type 0 where
  pub build : Build
  pub top : Open

abbrev pub joined : Build → Open → Joined
joined B o = record { build = B; top = o }

abbrev pub join : Open → Closed → Joined
join o c = joined c.build (with_arc o c.arc)

abbrev pub close_into : Build → Open → List Open → Joined
close_into B o [] = joined B o
close_into B o (p ∷ s) = join o (close B p s)

-- ---- what the tables keep

-- the least value of a node's keys, by the numbers in its row
unfoldable pub least_num : List ℕ → ℕ → ℕ
least_num [] v = v
least_num (m ∷ ms) v = least_num ms (min v m)

abbrev pub least_from : Bool → ℕ → List ℕ → ℕ
least_from true v ms = least_num ms v
least_from false v [] = 0
least_from false v (m ∷ ms) = least_num ms m

-- every table has its size
pub record Sized (T : Tables) : Type 0 where
  pub inputs_long : 65536 ≤ length T.inputs
  pub leasts_long : 65536 ≤ length T.leasts
  pub targets_long : 65536 ≤ length T.targets
  pub counts_long : length T.counts ≡ 256
  pub led_long : length T.led ≡ 256
  pub finals_long : length T.finals ≡ 256
  pub values_long : length T.values ≡ 256

-- the open nodes down to depth k, where the next node is to stand at first: inputs ascend, and come before the byte that leads on
pub record Orderly (first : ℕ) (T : Tables) (k : ℕ) : Type 0 where
  pub few : (d : ℕ) → d ≤ k → count_at T d ≤ 256
  pub deepest : Ascending (row_in T.inputs k (count_at T k))
  pub next : (d : ℕ) → d < k → Ascending (row_in T.inputs d (count_at T d) ++ (get_or T.led (d + 1) 0 ∷ []))
  pub byte : (d : ℕ) → d < k → get_or T.led (d + 1) 0 < 256
  pub targets_ok : (d : ℕ) → d ≤ k → TargetsOk first (row_in T.targets d (count_at T d))

-- nothing of the open nodes above depth e has changed
pub record SameAbove (e : ℕ) (T T' : Tables) : Type 0 where
  pub inputs_same : take (256 * e) T'.inputs ≡ take (256 * e) T.inputs
  pub leasts_same : take (256 * e) T'.leasts ≡ take (256 * e) T.leasts
  pub targets_same : take (256 * e) T'.targets ≡ take (256 * e) T.targets
  pub counts_same : (j : ℕ) → j < e → count_at T' j ≡ count_at T j
  pub led_same : (j : ℕ) → j < e → get_or T'.led j 0 ≡ get_or T.led j 0
  pub finals_same : (j : ℕ) → j < e → get_or T'.finals j false ≡ get_or T.finals j false
  pub values_same : (j : ℕ) → j < e → get_or T'.values j 0 ≡ get_or T.values j 0
