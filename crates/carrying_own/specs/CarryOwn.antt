-- What is promised of a reading carried to its file's conversion (document 02, N8). `s` is an admitted file of version 1, `A` says so, and
-- `converted A` is the new file, within the limit. Proved in CarryOwnLaws, for plain readings in CarryPlainLaws, by pattern in CarryByLaws.
--
--     For every two bounds a start takes and every list of calls           lo, hi, cs
--     the carried reading is the one that the same calls on the            `carries`; the same calls: each is refused on both files or on
--     new file would have left:                                            neither (`SameCalls`)
--     its remaining keys and values, one a call,                           `answers_same`, `each_call`
--     and the total after each call are those of the reading that          `total_same`
--     stayed on the old file;
--     the limit on a call holds;                                           `limit`
--     the number of keys to come (N11) stays true.                         `KeepsCount`, and `keys_same` after each call
-- Assumes nothing.
use Rattle.std.specs.Prelude.{◌≡◌, refl, List, [], ◌∷◌, map, ℕ, ◌≤◌, ◌<◌, length, get_or}
use Rattle.std.proofs.Common.{inl}
use Rattle.format.specs.Limits.{max_len}
use Rattle.format.specs.Paths.{Held}
use Rattle.format.specs.Admitted.{Admitted}
use Rattle.format.specs.Strings.{Bound, NumberOf}
use Rattle.reading.specs.Reading.{View, started, start}
use Rattle.reading.specs.Demand.{Call, Allowed, call, reading_after, answers, unrefused, followed, handed_in}
use Rattle.plain.specs.Plain.{Plain, begun, start_plain, call_plain, plain_after, answers_plain}
use Rattle.plain.specs.PlainDemand.{keys_out, StillToCome}
use Rattle.pattern.specs.Pattern.{Pattern, start_by}
use Rattle.pattern.specs.PatternDemand.{call_by, reading_after_by, answers_by}
use Rattle.converting.specs.Converting.{converted}
use Rattle.converting.specs.Converted.{old_fst, new_fst}
use Rattle.carrying.specs.Carry.{Carried, carried, carry, carry_by, CarriedPlain, carry_plain}

-- ---- the same calls on two files

pub data Same {s s' : List ℕ} (c : Call s) (c' : Call s') : Type 0 where
  both_allowed : Allowed c → Allowed c' → Same c c'
  neither_allowed : ¬ Allowed c → ¬ Allowed c' → Same c c'

pub data SameCalls {s s' : List ℕ} : List (Call s) → List (Call s') → Type 0 where
  no_calls : SameCalls [] []
  and_then : {c : Call s} {c' : Call s'} {cs : List (Call s)} {cs' : List (Call s')} → Same c c' → SameCalls cs cs' → SameCalls (c ∷ cs) (c' ∷ cs')

-- calls with the file itself and key buffers of these sizes; on two files they are the same calls (CarryOwnLaws, `own_calls_same`)
abbrev pub own_call : (s : List ℕ) → ℕ → Call s
own_call s n = record { file = s; space = n; which = inl refl }

abbrev pub own_calls : (s : List ℕ) → List ℕ → List (Call s)
own_calls s ns = map (own_call s) ns

-- ---- the claims

-- a file that can be converted: of version 1, of bytes, and not too large afterwards; `conversion` refuses any other (CarryOwnLaws, `written_convertible`)
pub record Convertible {s : List ℕ} (A : Admitted s) : Type 0 where
  pub version_is : A.meta.version ≡ 1
  pub bytes : (i : ℕ) → get_or s i 0 < 256
  pub small : length (converted A) ≤ max_len

-- r is a reading that stays, r' the carried one; ds are calls with the one, ds' the same with the other
pub record GoesOn {s : List ℕ} (A : Admitted s) (r r' : View) (ds : List (Call s)) (ds' : List (Call (converted A))) : Type 0 where
  pub answers_same : unrefused (answers r' ds') ≡ unrefused (answers r ds)
  pub each_call : (c : Call s) (c' : Call (converted A)) → Allowed c → Allowed c' → (call (reading_after r' ds') c').answer ≡ (call (reading_after r ds) c).answer
  pub total_same : (reading_after r' ds').total ≡ (reading_after r ds).total
  pub limit : (c' : Call (converted A)) (n : ℕ) → ((k : List ℕ) (v : ℕ) → Held (old_fst A) k v → length k ≤ n) → followed (reading_after r' ds') c' ≤ n

pub record CarryOwn {s : List ℕ} (A : Admitted s) (lo hi : Bound) (cs : List (Call s)) (cs' : List (Call (converted A))) : Type 0 where
  pub reading : View
  pub starts : start s lo hi ≡ started reading
  pub new_reading : View
  pub new_starts : start (converted A) lo hi ≡ started new_reading
  pub carries : carry s (converted A) (reading_after reading cs) ≡ carried (reading_after new_reading cs')
  pub goes_on : (ds : List (Call s)) (ds' : List (Call (converted A))) → SameCalls ds ds' → GoesOn A (reading_after reading cs) (reading_after new_reading cs') ds ds'

-- the same of plain readings, and their numbers of keys to come
pub record GoesOnPlain {s : List ℕ} (A : Admitted s) (q q' : Plain) (ds : List (Call s)) (ds' : List (Call (converted A))) : Type 0 where
  pub answers_same : unrefused (answers_plain q' ds') ≡ unrefused (answers_plain q ds)
  pub each_call : (c : Call s) (c' : Call (converted A)) → Allowed c → Allowed c' → (call_plain (plain_after q' ds') c').answer ≡ (call_plain (plain_after q ds) c).answer
  pub total_same : (plain_after q' ds').view.total ≡ (plain_after q ds).view.total
  pub keys_same : (plain_after q' ds').keys ≡ (plain_after q ds).keys
  pub limit : (c' : Call (converted A)) (n : ℕ) → ((k : List ℕ) (v : ℕ) → Held (old_fst A) k v → length k ≤ n) → followed (plain_after q' ds').view c' ≤ n

-- counts is a table of keys for the old file, counts' one for the new
pub record CarryOwnPlain {s : List ℕ} (A : Admitted s) (lo hi : Bound) (counts counts' : List ℕ) (cs : List (Call s)) (cs' : List (Call (converted A))) : Type 0 where
  pub reading : Plain
  pub starts : start_plain s lo hi counts ≡ begun reading
  pub new_reading : Plain
  pub new_starts : start_plain (converted A) lo hi counts' ≡ begun new_reading
  pub carries : carry_plain s (converted A) (plain_after reading cs) ≡ CarriedPlain.carried (plain_after new_reading cs')
  pub goes_on : (ds : List (Call s)) (ds' : List (Call (converted A))) → SameCalls ds ds' → GoesOnPlain A (plain_after reading cs) (plain_after new_reading cs') ds ds'

-- the number of a carried reading is that of the new file's held keys between the bounds that the calls on the old one have not handed out; no table
-- of the new file is asked for
pub record KeepsCount {s : List ℕ} (A : Admitted s) (lo hi : Bound) (counts : List ℕ) (cs : List (Call s)) : Type 0 where
  pub reading : Plain
  pub starts : start_plain s lo hi counts ≡ begun reading
  pub to : Plain
  pub carries : carry_plain s (converted A) (plain_after reading cs) ≡ CarriedPlain.carried to
  pub number : NumberOf (StillToCome (new_fst A) lo hi (keys_out (handed_in (answers_plain reading cs)))) to.keys

-- as `GoesOn`; a call by pattern may follow any number of transitions
pub record GoesOnBy {s : List ℕ} (A : Admitted s) (p : Pattern) (r r' : View) (ds : List (Call s)) (ds' : List (Call (converted A))) : Type 0 where
  pub answers_same : unrefused (answers_by p r' ds') ≡ unrefused (answers_by p r ds)
  pub each_call : (c : Call s) (c' : Call (converted A)) → Allowed c → Allowed c'
      → (call_by p (reading_after_by p r' ds') c').answer ≡ (call_by p (reading_after_by p r ds) c).answer
  pub total_same : (reading_after_by p r' ds').total ≡ (reading_after_by p r ds).total

pub record CarryOwnBy {s : List ℕ} (A : Admitted s) (p : Pattern) (lo hi : Bound) (cs : List (Call s)) (cs' : List (Call (converted A))) : Type 0 where
  pub reading : View
  pub starts : start_by s p lo hi ≡ started reading
  pub new_reading : View
  pub new_starts : start_by (converted A) p lo hi ≡ started new_reading
  pub carries : carry_by s (converted A) p (reading_after_by p reading cs) ≡ carried (reading_after_by p new_reading cs')
  pub goes_on : (ds : List (Call s)) (ds' : List (Call (converted A))) → SameCalls ds ds'
      → GoesOnBy A p (reading_after_by p reading cs) (reading_after_by p new_reading cs') ds ds'
