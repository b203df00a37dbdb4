-- Where the readings stand that the code's own calls of an operation leave (document 02, N5).
--     last_cards run                     the cards after a list of calls
--     CodeRun S o pre call r buf        `begin` was given the readings of the starts; calls of `next_item` followed, and one call more gave r and left buf
--     left_readings n c                  the readings of the first n cards
--     CodeStands op S r buf             where they stand, by what r answers; CodeStandsLaws proves it (`code_stands`)
-- Assumes nothing.
use Rattle.std.specs.Prelude.{◌≡◌, true, List, map, ℕ, ◌≤◌, length, take, Ok, Some, None}
use Rattle.format.specs.Strings.{Before}
use Rattle.plain.specs.Plain as P
use Rattle.ops_spec.specs.Ops as O
use Rattle.ops_spec.specs.OpsDemand.{Source}
use Rattle.ops_calls.specs.OpsCalls.{OpsCall, Told}
use Rattle.stream.specs.declared.Plain.{Plain}
use Rattle.stream.specs.Plains.{plain_is}
use Rattle.ops_round.specs.declared.Card.{Card}
use Rattle.ops_decide.specs.declared.Op.{Op}
use Rattle.ops.specs.declared.Cards.{Cards}
use Rattle.ops.specs.declared.Step.{Step}
use Rattle.ops.specs.declared.Item.{Item}
use Rattle.ops.specs.Merges.{count_test, BegunBy, held_item, MergedBy}
use Rattle.ops_code.specs.OpsCodeLaws.{readings_of, CodeCalls, no_call, one_call}
use Rattle.ops_stands.specs.OpsStands.{AllAt, EndsAt}

abbrev pub last_cards : {S : List Source} {c : Cards} {calls : List (OpsCall S)} {ts : List Told} → CodeCalls S c calls ts → Cards
last_cards {c = c} no_call = c
last_cards (one_call call fs buf₀ buf r long files space merged more) = last_cards more

pub record CodeRun (S : List Source) (o : Op) (pre : List (OpsCall S)) (call : OpsCall S) (r : Step) (buf : List ℕ) : Type 0 where
  pub few : count_test (length S) ≡ true
  -- begin
  pub readings : List Plain
  pub begun : Cards
  pub begins : BegunBy o (length S) readings (Ok begun)
  pub starts : map plain_is (take (length S) readings) ≡ readings_of S
  -- calls
  pub told : List Told
  pub run : CodeCalls S begun pre told
  -- one call more, by its contract; files from the held count on may be any
  pub files : List (List ℕ)
  pub buf₀ : List ℕ
  pub long : (last_cards run).count ≤ length files
  pub same_files : take (last_cards run).count files ≡ call.files
  pub space : length buf₀ ≡ call.space
  pub merged : MergedBy files (last_cards run) (held_item files (last_cards run) (length buf₀)) buf₀ buf r

abbrev pub left_readings : ℕ → Cards → List P.Plain
left_readings n c = map (λ (d : Card). plain_is d.reading) (take n c.cards)

pub record CodeStands (op : O.Op) (S : List Source) (r : Step) (buf : List ℕ) : Type 0 where
  -- the item's key stands in the buffer
  pub after_item : (x : Item) → r.answer ≡ Ok (Some x) → AllAt (λ y. ¬ Before y (take x.len buf)) S (left_readings (length S) r.cards)
  pub after_end : r.answer ≡ Ok None → EndsAt op S (left_readings (length S) r.cards)
