-- A long list in two sittings (document 02, N14): a plain reading of an admitted file, cut at a string that lies between its bounds.
--     up_to_cut c, from_cut c     the upper bound of the first sitting, and the lower bound of the second
--     Greater f c              a string that begins a held key is greater than the cut
--     InTwo f c ..             the keys and the totals of the whole and of the two sittings
--     Ends p cs, total_after p cs     "end" is among the answers; the total after the calls
--     AllEnd ..                each of the three lists of calls has an "end" among its answers
--     TwoSittings A lo hi c t t₁ t₂ cs cs₁ cs₂     the claim, of lists of calls; SittingsLaws proves it (`two_sittings`)
--
--     For an admitted file and a string of at most 255 bytes              A; c, with `length c ≤ max_path`
--     that lies between the bounds of a plain reading,                    `Between lo hi c`; held or not
--     reading up to it included                                           `first`: from lo to `up_to_cut c`
--     and then from it excluded                                           `second`: from `from_cut c` to hi
--     hands out the same keys and values as the whole.                    `same_keys`: and in the same order
--     Where the whole's total is below 2^64 − 1,                          `n < max_sum`, with n the whole's total
--     the two totals together exceed it by one if a string that           `one_more`
--     begins a held key is greater than the string of the cut,            `Greater`
--     and otherwise not at all.                                           `no_more`
--     This holds where the start is given a table as filled               t, t₁ and t₂, each with `TableFits` for its bounds; one filled table
--     for that file or reads none.                                        serves all three
-- At the starts the numbers of keys to come add up too (`keys_add`).
-- Assumes nothing.
use Rattle.std.specs.Prelude.{◌≡◌, ℕ, ◌+◌, ◌<◌}
use mathlib.Core.List.{List, ◌++◌, Memᴰ}
use Rattle.format.specs.Limits.{max_sum}
use Rattle.format.specs.Paths.{Fst, fst_of, Held}
use Rattle.format.specs.Admitted.{Admitted}
use Rattle.format.specs.Strings.{Before, Begins, Bound, included, excluded}
use Rattle.reading.specs.Reading.{end}
use Rattle.reading.specs.Demand.{Call, Entry, handed_in}
use Rattle.plain.specs.Plain.{Plain, begun, start_plain, plain_after, answers_plain}

abbrev pub up_to_cut : List ℕ → Bound
up_to_cut c = included c

abbrev pub from_cut : List ℕ → Bound
from_cut c = excluded c

-- the string is never empty, since nothing comes before the empty one
pub record Greater (f : Fst) (c : List ℕ) : Type 0 where
  pub string : List ℕ
  pub whole : List ℕ
  pub value : ℕ
  pub held : Held f whole value
  pub begins : Begins string whole
  pub after : Before c string

-- es are the keys with their values and n is the total, of the whole, of the first sitting and of the second
pub record InTwo (f : Fst) (c : List ℕ) (es es₁ es₂ : List Entry) (n n₁ n₂ : ℕ) : Type 0 where
  -- the same keys and values
  pub same_keys : es₁ ++ es₂ ≡ es
  -- the totals
  pub one_more : n < max_sum → Greater f c → n₁ + n₂ ≡ n + 1
  pub no_more : n < max_sum → ¬ Greater f c → n₁ + n₂ ≡ n

abbrev pub Ends : {s : List ℕ} → Plain → List (Call s) → Type 0
Ends p cs = Memᴰ end (answers_plain p cs)

abbrev pub total_after : {s : List ℕ} → Plain → List (Call s) → ℕ
total_after p cs = (plain_after p cs).view.total

pub record AllEnd {s : List ℕ} (whole first second : Plain) (cs cs₁ cs₂ : List (Call s)) : Type 0 where
  pub whole_ends : Ends whole cs
  pub first_ends : Ends first cs₁
  pub second_ends : Ends second cs₂

-- of any three lists of calls, refused ones among them, also after "end"
pub record TwoSittings {s : List ℕ} (A : Admitted s) (lo hi : Bound) (c t t₁ t₂ : List ℕ) (cs cs₁ cs₂ : List (Call s)) : Type 0 where
  -- the three starts are not refused
  pub whole : Plain
  pub first : Plain
  pub second : Plain
  pub starts_whole : start_plain s lo hi t ≡ begun whole
  pub starts_first : start_plain s lo (up_to_cut c) t₁ ≡ begun first
  pub starts_second : start_plain s (from_cut c) hi t₂ ≡ begun second
  -- the numbers of keys to come, before any call
  pub keys_add : first.keys + second.keys ≡ whole.keys
  -- the same keys and values, and the totals
  pub in_two : AllEnd whole first second cs cs₁ cs₂
      → InTwo (fst_of s A.meta) c (handed_in (answers_plain whole cs)) (handed_in (answers_plain first cs₁)) (handed_in (answers_plain second cs₂))
      (total_after whole cs) (total_after first cs₁) (total_after second cs₂)
