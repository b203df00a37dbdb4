-- The operations (document 02, N5) on plain ascending lists: what `Ops` does, with no file, level or slot in it.
--     Lanes                    a list of entries for each file: what its reading has still to hand out
--     AllRising L              each lane's keys ascend
--     pairs_in i k L            the values of k in the lanes, with their numbers from i on, by value and then by number
--     past k es, past_all k L   the entries after k
--     judge op L               one round on lanes: the end, an item, or other lanes
--     total L                  how many entries the lanes have
--     Belongs op L k ps        k belongs to the operation, with the values ps
-- Assumes nothing.
use Prim.{Unit, tt}
use Rattle.std.specs.Prelude.{◌≡◌, Bool, true, false, cond, ℕ, zero, suc, ◌+◌, ◌<◌, length}
use Rattle.std.proofs.Math.Option.{Option, none, some}
use mathlib.Core.List.{List, [], ◌∷◌, map, Memᴰ}
use Rattle.format.specs.Strings.{Before, before_test, Rising}
use Rattle.reading.specs.Demand.{Entry, entry}
use Rattle.ops_spec.specs.Ops.{Op, union, intersection, difference, symmetric, Indexed, indexed, lesser, same_test, insert, takes_test}
use Rattle.ops_spec.specs.OpsDemand.{Takes}

abbrev pub Lanes : Type 0
Lanes = List (List Entry)

abbrev pub lane_keys : List Entry → List (List ℕ)
lane_keys es = map (λ (e : Entry). e.key) es

abbrev pub AllRising : Lanes → Type 0
AllRising [] = Unit {0}
AllRising (es ∷ L) = Rising (lane_keys es) × AllRising L

-- ---- what a key has

abbrev pub value_in : List ℕ → List Entry → Option ℕ
value_in k [] = none
value_in k (e ∷ es) = cond (same_test e.key k) (some e.value) (value_in k es)

abbrev pub put : ℕ → Option ℕ → List Indexed → List Indexed
put i none ps = ps
put i (some v) ps = insert (indexed v i) ps

abbrev pub pairs_in : ℕ → List ℕ → Lanes → List Indexed
pairs_in i k [] = []
pairs_in i k (es ∷ L) = put i (value_in k es) (pairs_in (i + 1) k L)

pub record Belongs (op : Op) (L : Lanes) (k : List ℕ) (ps : List Indexed) : Type 0 where
  pub pairs : pairs_in 0 k L ≡ ps
  pub takes : Takes op (length L) ps

abbrev pub past : List ℕ → List Entry → List Entry
past k [] = []
past k (e ∷ es) = cond (before_test k e.key) (e ∷ es) (past k es)

abbrev pub past_all : List ℕ → Lanes → Lanes
past_all k [] = []
past_all k (es ∷ L) = past k es ∷ past_all k L

-- ---- a round, on the first entries

abbrev pub least_in : Lanes → Option (List ℕ)
least_in [] = none
least_in ([] ∷ L) = least_in L
least_in ((e ∷ es) ∷ L) = lesser e.key (least_in L)

abbrev pub head_pairs : ℕ → List ℕ → Lanes → List Indexed
head_pairs i k [] = []
head_pairs i k ([] ∷ L) = head_pairs (i + 1) k L
head_pairs i k ((e ∷ es) ∷ L) = cond (same_test e.key k) (insert (indexed e.value i) (head_pairs (i + 1) k L)) (head_pairs (i + 1) k L)

abbrev pub drop_head : (List ℕ → Bool) → List Entry → List Entry
drop_head P [] = []
drop_head P (e ∷ es) = cond (P e.key) es (e ∷ es)

abbrev pub drop_heads : (List ℕ → Bool) → Lanes → Lanes
drop_heads P [] = []
drop_heads P (es ∷ L) = drop_head P es ∷ drop_heads P L

pub data Judged : Type 0 where
  this : List ℕ → List Indexed → Lanes → Judged
  no_more : Judged
  another : Lanes → Judged

abbrev pub judge_at : Op → List ℕ → Lanes → Judged
judge_at op k L =
    cond (takes_test op (length L) (head_pairs 0 k L)) (this k (head_pairs 0 k L) (drop_heads (λ l. same_test l k) L)) (another (drop_heads (λ l. same_test l k) L))

abbrev pub judge_least : Op → Option (List ℕ) → Lanes → Judged
judge_least op none L = no_more
judge_least op (some k) L = judge_at op k L

abbrev pub judge_first : List ℕ → Option (List ℕ) → Lanes → Judged
judge_first k none L = no_more
judge_first k (some l) L = cond (before_test l k) (another (drop_heads (λ x. before_test x k) L)) (judge_at difference k L)

abbrev pub judge : Op → Lanes → Judged
judge difference [] = no_more
judge difference ([] ∷ L) = no_more
judge difference ((e ∷ es) ∷ L) = judge_first e.key (least_in ((e ∷ es) ∷ L)) ((e ∷ es) ∷ L)
judge union L = judge_least union (least_in L) L
judge intersection L = judge_least intersection (least_in L) L
judge symmetric L = judge_least symmetric (least_in L) L

-- how many entries there are
abbrev pub total : Lanes → ℕ
total [] = 0
total (es ∷ L) = length es + total L

-- ---- what a round answers, in the keys that belong

-- the same keys belong, and after each of them the same is left
pub record Keeps (op : Op) (L M : Lanes) : Type 0 where
  pub to : (k : List ℕ) (ps : List Indexed) → Belongs op L k ps → Belongs op M k ps
  pub from : (k : List ℕ) (ps : List Indexed) → Belongs op M k ps → Belongs op L k ps
  pub rest : (k : List ℕ) (ps : List Indexed) → Belongs op M k ps → past_all k M ≡ past_all k L

-- k is the least key that belongs
pub record Least (op : Op) (L : Lanes) (k : List ℕ) (ps : List Indexed) : Type 0 where
  pub belongs : Belongs op L k ps
  pub none_before : (l : List ℕ) (qs : List Indexed) → Before l k → ¬ Belongs op L l qs

abbrev pub NoneBelongs : Op → Lanes → Type 0
NoneBelongs op L = (k : List ℕ) (ps : List Indexed) → ¬ Belongs op L k ps

-- what a round's answer says
abbrev pub RoundIs : Op → Lanes → Judged → Type 0
RoundIs op L (this k ps M) = Least op L k ps × (M ≡ past_all k L) × (total M < total L)
RoundIs op L no_more = NoneBelongs op L
RoundIs op L (another M) = Keeps op L M × AllRising M × (length M ≡ length L) × (total M < total L)

-- ---- a call, and a run of calls

pub data Outcome : Type 0 where
  item : List ℕ → List Indexed → Lanes → Outcome
  ending : Lanes → Outcome

abbrev pub by_judged : Lanes → (Lanes → Outcome) → Judged → Outcome
by_judged L more (this k ps M) = item k ps M
by_judged L more no_more = ending L
by_judged L more (another M) = more M

-- rounds, with so much fuel; `total` and one more is enough (OpsRunLaws, `call_right`)
abbrev pub call_to : ℕ → Op → Lanes → Outcome
call_to zero op L = ending L
call_to (suc n) op L = by_judged L (call_to n op) (judge op L)

-- what a call's answer says; at the end the lanes left have none either, so the next call ends too
abbrev pub Answered : Op → Lanes → Outcome → Type 0
Answered op L (item k ps M) = Least op L k ps × (M ≡ past_all k L) × (total M < total L)
Answered op L (ending M) = NoneBelongs op L × NoneBelongs op M × AllRising M × (length M ≡ length L)

pub record Item : Type 0 where
  pub key : List ℕ
  pub pairs : List Indexed

abbrev pub item_is : List ℕ → List Indexed → Item
item_is k ps = record { key = k; pairs = ps }

abbrev pub items_then : (Lanes → List Item) → Outcome → List Item
items_then more (item k ps M) = item_is k ps ∷ more M
items_then more (ending M) = []

-- the items of call after call
abbrev pub items_to : ℕ → Op → Lanes → List Item
items_to zero op L = []
items_to (suc n) op L = items_then (items_to n op) (call_to (suc (total L)) op L)

-- all keys that belong, ascending, each with all its values, none left out
pub record Exact (op : Op) (L : Lanes) (is : List Item) : Type 0 where
  pub ascending : Rising (map (λ (x : Item). x.key) is)
  pub such : (x : Item) → Memᴰ x is → Belongs op L x.key x.pairs
  pub all : (k : List ℕ) (ps : List Indexed) → Belongs op L k ps → Memᴰ (item_is k ps) is
