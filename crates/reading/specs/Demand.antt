-- Demand 3, in its own words. `Demand3 A lo hi cs` is the claim about an admitted file, two bounds and a list of calls; DemandLaws
-- proves it for every admitted file, every two bounds of at most 255 bytes, and every list of calls (`demand_3`).
--
--     For every admitted file, every two bounds a start takes,              A, lo, hi; `reading`, `starts`: the start is not refused
--     and every list of next calls on the reading it gives,                 cs, folded by `answers` and `reading_after`; a call is handed the
--     refused ones included:                                                file or one of another length, and a buffer of any size (`Call`)
--     the unrefused calls hand out                                          `one_a_call`: keys first, then only "end"; `refused_exactly`
--     the held keys between the bounds,                                     `held`
--     from the least on,                                                    `none_left_out`
--     ascending,                                                            `ascending`
--     none left out                                                         `none_left_out`: none between the bounds and not greater
--     or repeated,                                                          `ascending`, strictly
--     each with its value,                                                  `held`
--     one a call,                                                           `one_a_call`
--     and answer "end" exactly when none is left.                           `end_exactly`
--     As far as 2^64 - 1, the total after the list is,                      `capped`
--     once "end" was answered, the number of different non-empty            `total_ended`; `NumberOf`: the length of a strictly ascending
--     strings that begin a held key and lie between the bounds,             list that has exactly these strings
--     plus one if a non-empty string that begins a held key meets           `Extra`
--     the lower bound and passes the upper;
--     before that, the number of such strings between the bounds            `total_before`
--     that are not greater than the key handed out last,
--     or 0 if none was.                                                     `NotAfterLast` has no string where none was handed out
--     No call follows more transitions than the longest held key            `limit`, and `followed` by document 01's words
--     has bytes.
--     But if the empty key is held and meets the lower bound, and           `EmptyExcluded`
--     the upper excludes it, none is followed and the total stays 0.        `none_followed`, `total_excluded`
-- Assumes nothing.
use Rattle.std.specs.Prelude.{◌≡◌, cond, ◌⊎◌, ℕ, ◌+◌, ◌≤◌, ◌<◌, leb, length, replicate}
use Rattle.format.specs.declared.Refusal.{Refusal}
use mathlib.Core.List.{List, [], ◌∷◌, ◌++◌, map, Memᴰ}
use Rattle.format.specs.Limits.{max_path, max_sum}
use Rattle.format.specs.Paths.{Fst, fst_of, Held}
use Rattle.format.specs.Admitted.{Admitted}
use Rattle.format.specs.Strings.{Before, Begins, Bound, MeetsLower, PassesUpper, Between, Rising, NumberOf}
use Rattle.reading.specs.Reading.{View, Started, started, start, Answer, key, end, Step, refuse, next}

-- ---- strings that begin held keys

-- x is not empty and begins a held key
pub record BeginsHeld (f : Fst) (x : List ℕ) : Type 0 where
  pub not_empty : ¬ (x ≡ [])
  pub whole : List ℕ
  pub value : ℕ
  pub held : Held f whole value
  pub begins : Begins x whole

abbrev pub Within : Fst → Bound → Bound → List ℕ → Type 0
Within f lo hi x = BeginsHeld f x × Between lo hi x

abbrev pub Beyond : Fst → Bound → Bound → List ℕ → Type 0
Beyond f lo hi x = BeginsHeld f x × (MeetsLower lo x × PassesUpper hi x)

-- one if such a string meets the lower bound and passes the upper
pub data Extra (f : Fst) (lo hi : Bound) : ℕ → Type 0 where
  one_more : (x : List ℕ) → Beyond f lo hi x → Extra f lo hi 1
  no_more : ((x : List ℕ) → ¬ Beyond f lo hi x) → Extra f lo hi 0

-- the empty key is held and meets the lower bound, and the upper excludes it
pub record EmptyExcluded (f : Fst) (lo hi : Bound) : Type 0 where
  pub value : ℕ
  pub held : Held f [] value
  pub meets : MeetsLower lo []
  pub passes : PassesUpper hi []

-- the total for n transitions followed: it stays at 2^64 - 1
abbrev pub capped : ℕ → ℕ
capped n = cond (leb n max_sum) n max_sum

-- ---- calls

-- each next is handed the file or one of another length
pub record Call (s : List ℕ) : Type 0 where
  pub file : List ℕ
  pub space : ℕ
  pub which : (file ≡ s) ⊎ (¬ (length file ≡ length s))

-- the file, and enough buffer
pub record Allowed {s : List ℕ} (c : Call s) : Type 0 where
  pub same : length c.file ≡ length s
  pub room : max_path ≤ c.space

abbrev pub call : {s : List ℕ} → View → Call s → Step
call r c = next c.file r c.space

-- each next gets the reading that the one before returned
abbrev pub reading_after : {s : List ℕ} → View → List (Call s) → View
reading_after r [] = r
reading_after r (c ∷ cs) = reading_after (call r c).reading cs

abbrev pub answers : {s : List ℕ} → View → List (Call s) → List Answer
answers r [] = []
answers r (c ∷ cs) = (call r c).answer ∷ answers (call r c).reading cs

abbrev pub unrefused_then : Answer → List Answer → List Answer
unrefused_then (key k v) more = key k v ∷ more
unrefused_then end more = end ∷ more
unrefused_then (Answer.refused n) more = more

abbrev pub unrefused : List Answer → List Answer
unrefused [] = []
unrefused (a ∷ more) = unrefused_then a (unrefused more)

-- the transitions that a call follows: what it would add to the total if that stood at 0
abbrev pub at_zero : View → View
at_zero r = record { len = r.len; bound = r.bound; bound_len = r.bound_len; empty = r.empty; total = 0; levels = r.levels }

abbrev pub followed : {s : List ℕ} → View → Call s → ℕ
followed r c = (call (at_zero r) c).reading.total

-- ---- keys handed out

pub record Entry : Type 0 where
  pub key : List ℕ
  pub value : ℕ

abbrev pub entry : List ℕ → ℕ → Entry
entry k v = record { key = k; value = v }

abbrev pub hand_out : Entry → Answer
hand_out e = key e.key e.value

abbrev pub handed_then : Answer → List Entry → List Entry
handed_then (key k v) es = entry k v ∷ es
handed_then end es = es
handed_then (Answer.refused n) es = es

-- the keys that a list of answers hands out
abbrev pub handed_in : List Answer → List Entry
handed_in [] = []
handed_in (a ∷ more) = handed_then a (handed_in more)

-- x is not greater than the key handed out last
pub record NotAfterLast (handed : List Entry) (x : List ℕ) : Type 0 where
  pub before : List Entry
  pub last : Entry
  pub is_last : handed ≡ before ++ (last ∷ [])
  pub not_after : ¬ Before last.key x

-- no held key between the bounds is missing among those handed out
abbrev pub NoneLeft : Fst → Bound → Bound → List Entry → Type 0
NoneLeft f lo hi handed = (k : List ℕ) (v : ℕ) → Held f k v → Between lo hi k → Memᴰ (entry k v) handed

-- ---- the claim

pub record Demand3 {s : List ℕ} (A : Admitted s) (lo hi : Bound) (cs : List (Call s)) : Type 0 where
  -- the start is not refused
  pub reading : View
  pub starts : start s lo hi ≡ started reading
  -- the unrefused calls hand out keys, and then answer only "end"
  pub handed : List Entry
  pub ends : ℕ
  pub one_a_call : unrefused (answers reading cs) ≡ map hand_out handed ++ replicate ends end
  pub held : (e : Entry) → Memᴰ e handed → Held (fst_of s A.meta) e.key e.value × Between lo hi e.key
  pub ascending : Rising (map (λ (e : Entry). e.key) handed)
  pub none_left_out : (k : List ℕ) (v : ℕ) → Held (fst_of s A.meta) k v → Between lo hi k → (e : Entry) → Memᴰ e handed → ¬ Before e.key k
      → Memᴰ (entry k v) handed
  pub end_exactly : (cs₁ cs₂ : List (Call s)) (c : Call s) → cs ≡ cs₁ ++ (c ∷ cs₂) → Allowed c
      → ((call (reading_after reading cs₁) c).answer ≡ end → NoneLeft (fst_of s A.meta) lo hi (handed_in (answers reading cs₁)))
      × (NoneLeft (fst_of s A.meta) lo hi (handed_in (answers reading cs₁)) → (call (reading_after reading cs₁) c).answer ≡ end)
  -- a call is refused exactly when it is handed a short buffer or a file of another length, and then it changes nothing
  pub refused_exactly : (cs₁ cs₂ : List (Call s)) (c : Call s) → cs ≡ cs₁ ++ (c ∷ cs₂)
      → (Allowed c → (n : Refusal) → ¬ ((call (reading_after reading cs₁) c).answer ≡ Answer.refused n))
      × (¬ Allowed c → (n : Refusal) × (call (reading_after reading cs₁) c ≡ refuse (reading_after reading cs₁) n))
  -- the total after the list
  pub total_ended : ¬ EmptyExcluded (fst_of s A.meta) lo hi → 0 < ends
      → (n e : ℕ) × NumberOf (Within (fst_of s A.meta) lo hi) n × Extra (fst_of s A.meta) lo hi e × ((reading_after reading cs).total ≡ capped (n + e))
  pub total_before : ends ≡ 0
      → (n : ℕ) × NumberOf (λ x. Within (fst_of s A.meta) lo hi x × NotAfterLast handed x) n × ((reading_after reading cs).total ≡ capped n)
  pub total_excluded : EmptyExcluded (fst_of s A.meta) lo hi → (reading_after reading cs).total ≡ 0
  -- the transitions of each call
  pub limit : (cs₁ cs₂ : List (Call s)) (c : Call s) → cs ≡ cs₁ ++ (c ∷ cs₂) → (n : ℕ)
      → ((k : List ℕ) (v : ℕ) → Held (fst_of s A.meta) k v → length k ≤ n) → followed (reading_after reading cs₁) c ≤ n
  pub none_followed : EmptyExcluded (fst_of s A.meta) lo hi → (cs₁ cs₂ : List (Call s)) (c : Call s) → cs ≡ cs₁ ++ (c ∷ cs₂)
      → followed (reading_after reading cs₁) c ≡ 0
