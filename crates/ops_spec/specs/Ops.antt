-- Operations over several plain readings (document 02, N5; src/raw/ops.rs), by definition, for any files and any cards.
--     Op, Slot, Card, Cards       the operation; a reading with what it holds; the cards in file order
--     step_all                     every used-up reading is stepped once, in file order
--     decide                      the end, an item, or another round
--     next_item                    one call
-- Assumes nothing.
use Rattle.std.specs.Prelude.{Bool, true, false, cond, ◌&&◌, ◌||◌, not, List, [], ◌∷◌, ℕ, zero, suc, ◌+◌, ◌%◌, ltb, leb, eqb, length}
use Rattle.std.proofs.Math.Option.{Option, none, some}
use Rattle.format.specs.declared.Refusal.{Refusal}
use Rattle.format.specs.Limits.{max_path, max_levels, SPACE, STATE, CARDS}
use Rattle.format.specs.Paths.{Fst, fst_with, fst_of}
use Rattle.format.specs.Opening.{opening}
use Rattle.format.specs.Strings.{before_test}
use Rattle.reading.specs.Reading.{key_of, on_opened, Answer, key, end}
use Rattle.reading.specs.Visits.{left}
use Rattle.plain.specs.Plain.{Plain, next_plain}

pub data Op : Type 0 where
  union : Op
  intersection : Op
  difference : Op
  symmetric : Op

-- its key is used up; it holds the key of its levels, with a value; it has ended
pub data Slot : Type 0 where
  used : Slot
  holds : ℕ → Slot
  ended : Slot

pub record Card : Type 0 where
  pub file : List ℕ
  pub reading : Plain
  pub slot : Slot

abbrev pub card_is : List ℕ → Plain → Slot → Card
card_is s r x = record { file = s; reading = r; slot = x }

abbrev pub card_key : Card → List ℕ
card_key c = key_of c.reading.view.levels

pub record Cards : Type 0 where
  pub op : Op
  pub cards : List Card

-- ---- a round: the steps

pub data Stepped : Type 0 where
  cards : List Card → Bool → Stepped
  halted : Refusal → Stepped

abbrev pub with_card : Card → Bool → Stepped → Stepped
with_card c b (cards cs more) = cards (c ∷ cs) (b || more)
with_card c b (halted n) = halted n

abbrev pub by_answer : List ℕ → Plain → Answer → Stepped → Stepped
by_answer s r (key k v) others = with_card (card_is s r (holds v)) true others
by_answer s r end others = with_card (card_is s r ended) true others
by_answer s r (Answer.refused n) others = halted n

abbrev pub step_one : ℕ → Card → Slot → Stepped → Stepped
step_one space c used others = by_answer c.file (next_plain c.file c.reading space).reading (next_plain c.file c.reading space).answer others
step_one space c (holds v) others = cond (leb (length c.reading.view.levels) max_levels) (with_card c false others) (halted STATE)
step_one space c ended others = with_card c false others

-- in file order, the first refusal first; whether a reading was stepped
unfoldable pub step_all : ℕ → List Card → Stepped
step_all space [] = cards [] false
step_all space (c ∷ cs) = step_one space c c.slot (step_all space cs)

-- ---- a round: what the keys say

-- a value with the number of its file
pub record Indexed : Type 0 where
  pub value : ℕ
  pub index : ℕ

abbrev pub indexed : ℕ → ℕ → Indexed
indexed v i = record { value = v; index = i }

abbrev pub if_holds : {A : Type 0} → Slot → (ℕ → A) → A → A
if_holds (holds v) go stop = go v
if_holds used go stop = stop
if_holds ended go stop = stop

-- the least key held
abbrev pub lesser : List ℕ → Option (List ℕ) → Option (List ℕ)
lesser k none = some k
lesser k (some l) = cond (before_test l k) (some l) (some k)

unfoldable pub least_key : List Card → Option (List ℕ)
least_key [] = none
least_key (c ∷ cs) = if_holds c.slot (λ v. lesser (card_key c) (least_key cs)) (least_key cs)

abbrev pub same_test : List ℕ → List ℕ → Bool
same_test k l = not (before_test k l) && not (before_test l k)

-- by value, then by file number
abbrev pub sooner : Indexed → Indexed → Bool
sooner x y = ltb x.value y.value || (eqb x.value y.value && ltb x.index y.index)

unfoldable pub insert : Indexed → List Indexed → List Indexed
insert x [] = x ∷ []
insert x (y ∷ ys) = cond (sooner x y) (x ∷ y ∷ ys) (y ∷ insert x ys)

-- the values of the key k, from file number i on
unfoldable pub pairs_from : ℕ → List ℕ → List Card → List Indexed
unfolding insert
pairs_from i k [] = []
pairs_from i k (c ∷ cs) =
    if_holds c.slot (λ v. cond (same_test (card_key c) k) (insert (indexed v i) (pairs_from (i + 1) k cs)) (pairs_from (i + 1) k cs)) (pairs_from (i + 1) k cs)

-- the cards that hold a key such that P become used up
unfoldable pub use_up : (List ℕ → Bool) → List Card → List Card
use_up P [] = []
use_up P (c ∷ cs) = if_holds c.slot (λ v. cond (P (card_key c)) (card_is c.file c.reading used) c) c ∷ use_up P cs

abbrev pub only_first : List Indexed → Bool
only_first [] = false
only_first (x ∷ []) = eqb x.index 0
only_first (x ∷ y ∷ ys) = false

abbrev pub takes_test : Op → ℕ → List Indexed → Bool
takes_test union n ps = true
takes_test intersection n ps = eqb (length ps) n
takes_test difference n ps = only_first ps
takes_test symmetric n ps = eqb (length ps % 2) 1

pub data Verdict : Type 0 where
  this : List ℕ → List Indexed → List Card → Verdict
  no_more : Verdict
  another : List Card → Verdict

-- at the key k: its cards become used up, and it is the item or not
abbrev pub at_key : Op → List ℕ → List Card → Verdict
at_key op k cs =
    cond (takes_test op (length cs) (pairs_from 0 k cs))
    (this k (pairs_from 0 k cs) (use_up (λ l. same_test l k) cs))
    (another (use_up (λ l. same_test l k) cs))

abbrev pub at_least : Op → Option (List ℕ) → List Card → Verdict
at_least op none cs = no_more
at_least op (some k) cs = at_key op k cs

-- the first card's key, once no other holds a lesser one
abbrev pub at_first : List ℕ → Option (List ℕ) → List Card → Verdict
at_first k none cs = no_more
at_first k (some l) cs = cond (before_test l k) (another (use_up (λ x. before_test x k) cs)) (at_key difference k cs)

abbrev pub decide : Op → List Card → Verdict
decide difference [] = no_more
decide difference (c ∷ cs) = if_holds c.slot (λ v. at_first (card_key c) (least_key (c ∷ cs)) (c ∷ cs)) no_more
decide union cs = at_least union (least_key cs) cs
decide intersection cs = at_least intersection (least_key cs) cs
decide symmetric cs = at_least symmetric (least_key cs) cs

-- ---- a call

pub data Merged : Type 0 where
  item : List ℕ → List Indexed → List Card → Merged
  ending : List Card → Merged
  refused : Refusal → Merged

-- how much a card has still to do
abbrev pub file_of : List ℕ → Fst
file_of s = on_opened (opening s) (λ m. fst_of s m) (λ n. fst_with s 0 0)

abbrev pub pendings : Option ℕ → ℕ
pendings (some v) = 1
pendings none = 0

abbrev pub slot_left : Card → Slot → ℕ
slot_left c ended = 0
slot_left c used = left (file_of c.file) c.reading.view.levels + pendings c.reading.view.empty + 1
slot_left c (holds v) = left (file_of c.file) c.reading.view.levels + pendings c.reading.view.empty + 1

unfoldable pub all_left : List Card → ℕ
all_left [] = 0
all_left (c ∷ cs) = slot_left c c.slot + all_left cs

abbrev pub by_verdict : List Card → (List Card → Merged) → Verdict → Merged
by_verdict cs more (this k ps ds) = item k ps ds
by_verdict cs more no_more = ending cs
by_verdict cs more (another ds) = more ds

-- SPACE where no reading was stepped in this call
abbrev pub after_steps : Op → ℕ → Bool → (List Card → Merged) → Stepped → Merged
after_steps op space before more (cards cs now) = cond (before || (now || leb max_path space)) (by_verdict cs more (decide op cs)) (refused SPACE)
after_steps op space before more (halted n) = refused n

unfoldable pub rounds : ℕ → Op → ℕ → Bool → List Card → Merged
rounds zero op space before cs = refused SPACE
rounds (suc n) op space before cs = after_steps op space before (rounds n op space true) (step_all space cs)

-- one call: CARDS, then rounds; the files of the call stand in the cards
unfoldable pub next_item : Op → List Card → ℕ → Merged
unfolding step_all least_key pairs_from use_up rounds all_left
next_item op cs space = cond (ltb 0 (length cs) && leb (length cs) 8) (rounds (suc (suc (all_left cs))) op space false cs) (refused CARDS)
