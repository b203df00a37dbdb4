-- What begin and a call of an operation give back, against `next_item` (crate ops_spec).
--     BegunBy o n ps r                   what begin gives back
--     held_item fs c space                a call with the cards c: CARDS by the held count, then `next_item` on the first of them
--     MergedBy fs c m buf₀ buf r         what a call gives back whose definition answers m, with the buffer before and after
-- Assumes nothing.
use Rattle.std.specs.Prelude.{◌≡◌, Bool, true, false, cond, ◌&&◌, List, ◌++◌, map, ℕ, ltb, leb, length, drop, Ok, Err, Some, None, Result}
use Rattle.format.specs.declared.Refusal.{Refusal}
use Rattle.format.specs.Limits.{CARDS}
use Rattle.ops_spec.specs.Ops as O
use Rattle.ops_spec.specs.Ops.{Indexed, next_item}
use Rattle.stream.specs.declared.Plain.{Plain}
use Rattle.ops_round.specs.Cards.{cards_is, used_card}
use Rattle.ops_pairs.specs.Pairs.{padded}
use Rattle.ops_decide.specs.declared.Op.{Op}
use Rattle.ops_decide.specs.Verdicts.{op_is}
use Rattle.ops.specs.declared.Cards.{Cards}
use Rattle.ops.specs.declared.Item.{Item}
use Rattle.ops.specs.declared.Step.{Step}

-- one to eight
abbrev pub count_test : ℕ → Bool
count_test n = ltb 0 n && leb n 8

-- ---- begin

abbrev pub BegunAs : Bool → Op → ℕ → List Plain → Result Cards Refusal → Type 0
BegunAs true o n ps r = r ≡ Ok (record { op = o; count = n; cards = map used_card ps })
BegunAs false o n ps r = r ≡ Err CARDS

pub record BegunBy (o : Op) (n : ℕ) (ps : List Plain) (r : Result Cards Refusal) : Type 0 where
  pub is : BegunAs (count_test n) o n ps r

-- ---- a call

abbrev pub refused_step : Refusal → Cards → Step
refused_step why c = record { answer = Err why; cards = c }

abbrev pub held_item : List (List ℕ) → Cards → ℕ → O.Merged
held_item fs c space = cond (count_test c.count) (next_item (op_is c.op) (cards_is fs c.count c.cards) space) (O.Merged.refused CARDS)

-- the cards afterwards: the same operation over the same number of readings
pub record CardsAfter (fs : List (List ℕ)) (c : Cards) (ds : List O.Card) (after : Cards) : Type 0 where
  pub op : after.op ≡ c.op
  pub count : after.count ≡ c.count
  pub cards : cards_is fs c.count after.cards ≡ ds

pub record ItemBy (fs : List (List ℕ)) (c : Cards) (k : List ℕ) (ps : List Indexed) (ds : List O.Card) (buf₀ buf : List ℕ) (r : Step) : Type 0 where
  pub item : Item
  pub answer : r.answer ≡ Ok (Some item)
  pub len : item.len ≡ length k
  pub count : item.pairs.count ≡ length ps
  pub files : item.pairs.files ≡ map (λ (x : Indexed). x.index) (padded ps)
  pub values : item.pairs.values ≡ map (λ (x : Indexed). x.value) (padded ps)
  pub cards : CardsAfter fs c ds r.cards
  pub buffer : buf ≡ k ++ drop (length k) buf₀

pub record EndBy (fs : List (List ℕ)) (c : Cards) (ds : List O.Card) (buf₀ buf : List ℕ) (r : Step) : Type 0 where
  pub answer : r.answer ≡ Ok None
  pub cards : CardsAfter fs c ds r.cards
  pub buffer : buf ≡ buf₀

pub record RefusedBy (c : Cards) (n : Refusal) (buf₀ buf : List ℕ) (r : Step) : Type 0 where
  pub is : r ≡ refused_step n c
  pub buffer : buf ≡ buf₀

abbrev pub MergedBy : List (List ℕ) → Cards → O.Merged → List ℕ → List ℕ → Step → Type 0
MergedBy fs c (O.item k ps ds) buf₀ buf r = ItemBy fs c k ps ds buf₀ buf r
MergedBy fs c (O.ending ds) buf₀ buf r = EndBy fs c ds buf₀ buf r
MergedBy fs c (O.Merged.refused n) buf₀ buf r = RefusedBy c n buf₀ buf r
