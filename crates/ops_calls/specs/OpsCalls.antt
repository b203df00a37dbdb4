-- What is promised of an operation (document 02, N5), for every list of calls, refused ones included. `OpsExact op cs calls` is the claim about an
-- operation, one to eight admitted files with the readings that their starts gave, and a list of calls; OpsCallsLaws proves it (`ops_exact`).
--
--     every list of calls, each handed all those files and a buffer          `OpsCall`: for each file that file or one of another length
--     of any size, or for some file one of another length
--     the keys that belong, each once, ascending, none left out              `items`, `ascending`, `such`, `all`
--     each with all its values                                               `such`, by `Belongs`: `AllPairs`
--     one a call, and "end" exactly when none is left                        `one_a_call`, `end_exactly`: the unrefused calls hand out the items one
--                                                                            by one, and then only "end"
--     with those files and enough buffer no call is refused;                 `allowed`
--     with a short buffer every call is;                                     `short`
--     any refused call changes nothing                                       `unchanged`
-- A file of another length is refused only in a call that steps its reading: a call that does not step it does not open it. So a call that is handed
-- one is refused, or it answers as it would with the right file; that is `one_a_call` too, which speaks of every call that is not refused.
-- Assumes nothing.
use Rattle.std.specs.Prelude.{◌≡◌, ◌⊎◌, ℕ, ◌<◌, ◌≤◌, length, take, replicate}
use Rattle.format.specs.declared.Refusal.{Refusal}
use mathlib.Core.List.{List, [], ◌∷◌, ◌++◌, map, Memᴰ}
use Rattle.format.specs.Limits.{max_path}
use Rattle.format.specs.Strings.{Rising}
use Rattle.ops_spec.specs.Ops as O
use Rattle.ops_spec.specs.Ops.{Op, Card, card_is, Indexed, next_item}
use Rattle.ops_spec.specs.OpsDemand.{Source, Belongs}
use Rattle.ops_spec.specs.OpsLists.{Item, item_is}
use Rattle.ops_spec.specs.OpsWholeLaws.{cards_of}

-- ---- calls

-- for each file that file or one of another length
pub data Lent : List Source → List (List ℕ) → Type 0 where
  no_file : Lent [] []
  one_file : {c : Source} {cs : List Source} {f : List ℕ} {fs : List (List ℕ)} → (f ≡ c.file) ⊎ (¬ (length f ≡ length c.file)) → Lent cs fs → Lent (c ∷ cs) (f ∷ fs)

pub record OpsCall (cs : List Source) : Type 0 where
  pub files : List (List ℕ)
  pub space : ℕ
  pub lent : Lent cs files

-- those files, and enough buffer
abbrev pub files_of : List Source → List (List ℕ)
files_of [] = []
files_of (c ∷ cs) = c.file ∷ files_of cs

pub record AllowedCall {cs : List Source} (c : OpsCall cs) : Type 0 where
  pub same : c.files ≡ files_of cs
  pub room : max_path ≤ c.space

-- cards, handed the files of a call
abbrev pub lend : List (List ℕ) → List Card → List Card
lend [] cs = []
lend (f ∷ fs) [] = []
lend (f ∷ fs) (c ∷ cs) = card_is f c.reading c.slot ∷ lend fs cs

-- ---- answers

pub data Told : Type 0 where
  item : List ℕ → List Indexed → Told
  end : Told
  refused : Refusal → Told

pub record ItemStep : Type 0 where
  pub answer : Told
  pub cards : List Card

-- a refusal gives the cards back
abbrev pub step_by : List Card → O.Merged → ItemStep
step_by cs (O.item k ps ds) = record { answer = item k ps; cards = ds }
step_by cs (O.ending ds) = record { answer = end; cards = ds }
step_by cs (O.Merged.refused n) = record { answer = refused n; cards = cs }

abbrev pub call_item : {cs : List Source} → Op → List Card → OpsCall cs → ItemStep
call_item op ds c = step_by ds (next_item op (lend c.files ds) c.space)

-- each call gets the cards that the one before returned
abbrev pub cards_after : {cs : List Source} → Op → List Card → List (OpsCall cs) → List Card
cards_after op ds [] = ds
cards_after op ds (c ∷ more) = cards_after op (call_item op ds c).cards more

abbrev pub answers_of : {cs : List Source} → Op → List Card → List (OpsCall cs) → List Told
answers_of op ds [] = []
answers_of op ds (c ∷ more) = (call_item op ds c).answer ∷ answers_of op (call_item op ds c).cards more

abbrev pub unrefused_first : Told → List Told → List Told
unrefused_first (item k ps) more = item k ps ∷ more
unrefused_first end more = end ∷ more
unrefused_first (refused n) more = more

abbrev pub unrefused_of : List Told → List Told
unrefused_of [] = []
unrefused_of (a ∷ more) = unrefused_first a (unrefused_of more)

abbrev pub told_item : Item → Told
told_item x = item x.key x.pairs

-- ---- the claim

pub record OpsExact (op : Op) (cs : List Source) (calls : List (OpsCall cs)) : Type 0 where
  -- the keys that belong, with their values
  pub items : List Item
  pub ascending : Rising (map (λ (x : Item). x.key) items)
  pub such : (x : Item) → Memᴰ x items → Belongs op cs x.key x.pairs
  pub all : (k : List ℕ) (ps : List Indexed) → Belongs op cs k ps → Memᴰ (item_is k ps) items
  -- the unrefused calls hand out the first of them, and then only "end", once all are handed out
  pub handed : ℕ
  pub ends : ℕ
  pub within : handed ≤ length items
  pub one_a_call : unrefused_of (answers_of op (cards_of cs) calls) ≡ map told_item (take handed items) ++ replicate ends end
  pub end_exactly : 0 < ends → handed ≡ length items
  -- refusals
  pub allowed : (pre post : List (OpsCall cs)) (c : OpsCall cs) → calls ≡ pre ++ (c ∷ post) → AllowedCall c
      → (n : Refusal) → ¬ ((call_item op (cards_after op (cards_of cs) pre) c).answer ≡ refused n)
  pub short : (pre post : List (OpsCall cs)) (c : OpsCall cs) → calls ≡ pre ++ (c ∷ post) → c.space < max_path
      → (n : Refusal) × ((call_item op (cards_after op (cards_of cs) pre) c).answer ≡ refused n)
  pub unchanged : (pre post : List (OpsCall cs)) (c : OpsCall cs) → calls ≡ pre ++ (c ∷ post) → (n : Refusal)
      → (call_item op (cards_after op (cards_of cs) pre) c).answer ≡ refused n
      → (call_item op (cards_after op (cards_of cs) pre) c).cards ≡ cards_after op (cards_of cs) pre
