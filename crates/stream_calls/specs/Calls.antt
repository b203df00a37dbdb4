-- A list of the code's own calls of `stream::next`, each on the plain reading that the one before returned, and what the caller has in hand.
--     CodeCall                  one call: the file's bytes, the key buffer before and after, and what next gave back
--     Made s r cs               the calls cs, from the reading r, each as next's contract says; each with the file s or one of another length
--     answered c                the answer of a call, a key as the first n bytes of the buffer afterwards
--     last_reading r cs        the reading after cs, which a later call gets
--     calls_is w                 the calls by definition
--     StartMade s lo hi t b     the code's start for the file s, the bounds lo and hi and the table t was not refused, and gave the reading b
--     AsDefined                 the answers and the last reading are the definition's
--     CodeAllowed s c           a call with the file and enough buffer
--     DemandCode                demand 3 and the number of keys to come, of what the code handed out
-- Assumes nothing.
use Prim.{Unit}
use Rattle.std.specs.Prelude.{◌≡◌, ◌⊎◌, ℕ, ◌+◌, ◌≤◌, ◌<◌, length, take, replicate, Ok, Err, Some, None, Result, Option}
use Rattle.format.specs.declared.Refusal.{Refusal}
use mathlib.Core.List.{List, [], ◌∷◌, ◌++◌, map, Memᴰ}
use Rattle.format.specs.Limits.{max_path}
use Rattle.format.specs.Paths.{fst_of, Held}
use Rattle.format.specs.Admitted.{Admitted}
use Rattle.format.specs.Strings as S
use Rattle.format.specs.Strings.{Before, Between, Rising, NumberOf}
use Rattle.reading.specs.Reading as R
use Rattle.reading.specs.Reading.{key, end}
use Rattle.reading.specs.Demand.{Within, Extra, EmptyExcluded, Call, unrefused, Entry, entry, hand_out, handed_in, NotAfterLast, NoneLeft, capped}
use Rattle.plain.specs.Plain.{start_plain, next_plain, plain_after, answers_plain}
use Rattle.plain.specs.PlainDemand.{keys_out, StillToCome, DemandPlain}
use Rattle.stream.specs.declared.Plain.{Plain}
use Rattle.stream_step.specs.declared.Step.{Step}
use Rattle.stream.specs.Plains.{plain_is, begun_is, PlainStepped}

-- ---- a call

pub record CodeCall : Type 0 where
  pub file : List ℕ
  pub before : List ℕ
  pub after : List ℕ
  pub step : Step Plain

-- what the contract of next says, of a call on the reading r with the file s or one of another length
pub record CallMade (s : List ℕ) (r : Plain) (c : CodeCall) : Type 0 where
  pub which : (c.file ≡ s) ⊎ (¬ (length c.file ≡ length s))
  pub stepped : PlainStepped (next_plain c.file (plain_is r) (length c.before)) c.before c.after c.step

abbrev pub in_hand : Result (Option (ℕ × ℕ)) Refusal → List ℕ → R.Answer
in_hand (Ok (Some (n, v))) buf = key (take n buf) v
in_hand (Ok None) buf = end
in_hand (Err n) buf = R.Answer.refused n

abbrev pub answered : CodeCall → R.Answer
answered c = in_hand c.step.answer c.after

-- ---- a list of calls

abbrev pub Made : List ℕ → Plain → List CodeCall → Type 0
Made s r [] = Unit {0}
Made s r (c ∷ cs) = CallMade s r c × Made s c.step.reading cs

abbrev pub code_answers : List CodeCall → List R.Answer
code_answers cs = map answered cs

abbrev pub last_reading : Plain → List CodeCall → Plain
last_reading r [] = r
last_reading r (c ∷ cs) = last_reading c.step.reading cs

abbrev pub call_is : {s : List ℕ} {r : Plain} (c : CodeCall) → CallMade s r c → Call s
call_is c w = record { file = c.file; space = length c.before; which = w.which }

abbrev pub calls_is : {s : List ℕ} (r : Plain) (cs : List CodeCall) → Made s r cs → List (Call s)
calls_is r [] w = []
calls_is r (c ∷ cs) w = call_is c w.0 ∷ calls_is c.step.reading cs w.1

-- ---- the claim

pub record StartMade (s : List ℕ) (lo hi : S.Bound) (t : List ℕ) (b : Plain) : Type 0 where
  pub starts : begun_is (Ok b) ≡ start_plain s lo hi t

-- the calls are the definition's calls, and demand 3 holds of those
pub record AsDefined {s : List ℕ} (A : Admitted s) (lo hi : S.Bound) (t : List ℕ) (b : Plain) (cs : List CodeCall) (made : Made s b cs) : Type 0 where
  pub demand : DemandPlain A lo hi t (calls_is b cs made)
  pub first_reading : plain_is b ≡ demand.reading
  pub same_answers : code_answers cs ≡ answers_plain demand.reading (calls_is b cs made)
  pub last_reading_lem : plain_is (last_reading b cs) ≡ plain_after demand.reading (calls_is b cs made)

-- the file, and enough buffer
pub record CodeAllowed (s : List ℕ) (c : CodeCall) : Type 0 where
  pub same : length c.file ≡ length s
  pub room : max_path ≤ length c.before

-- `Demand3` field by field, of what the code answered
pub record DemandCode {s : List ℕ} (A : Admitted s) (lo hi : S.Bound) (b : Plain) (cs : List CodeCall) : Type 0 where
  -- the unrefused calls hand out keys, and then answer only "end"
  pub handed : List Entry
  pub ends : ℕ
  pub one_a_call : unrefused (code_answers cs) ≡ map hand_out handed ++ replicate ends end
  pub held : (e : Entry) → Memᴰ e handed → Held (fst_of s A.meta) e.key e.value × Between lo hi e.key
  pub ascending : Rising (map (λ (e : Entry). e.key) handed)
  pub none_left_out : (k : List ℕ) (v : ℕ) → Held (fst_of s A.meta) k v → Between lo hi k → (e : Entry) → Memᴰ e handed → ¬ Before e.key k
      → Memᴰ (entry k v) handed
  pub end_exactly : (cs₁ cs₂ : List CodeCall) (c : CodeCall) → cs ≡ cs₁ ++ (c ∷ cs₂) → CodeAllowed s c
      → (c.step.answer ≡ Ok None → NoneLeft (fst_of s A.meta) lo hi (handed_in (code_answers cs₁)))
      × (NoneLeft (fst_of s A.meta) lo hi (handed_in (code_answers cs₁)) → c.step.answer ≡ Ok None)
  -- a call is refused exactly when it is handed a short buffer or a file of another length; then what the reading says and the buffer stay
  pub refused_exactly : (cs₁ cs₂ : List CodeCall) (c : CodeCall) → cs ≡ cs₁ ++ (c ∷ cs₂)
      → (CodeAllowed s c → (n : Refusal) → ¬ (c.step.answer ≡ Err n))
      × (¬ CodeAllowed s c
      → (n : Refusal) × (c.step.answer ≡ Err n) × (plain_is c.step.reading ≡ plain_is (last_reading b cs₁)) × (c.after ≡ c.before))
  -- the total after the list
  pub total_ended : ¬ EmptyExcluded (fst_of s A.meta) lo hi → 0 < ends
      → (n e : ℕ) × NumberOf (Within (fst_of s A.meta) lo hi) n × Extra (fst_of s A.meta) lo hi e × ((last_reading b cs).reading.total ≡ capped (n + e))
  pub total_before : ends ≡ 0
      → (n : ℕ) × NumberOf (λ x. Within (fst_of s A.meta) lo hi x × NotAfterLast handed x) n × ((last_reading b cs).reading.total ≡ capped n)
  -- so none is followed, as every list of calls that begins this one has the total 0 too
  pub total_excluded : EmptyExcluded (fst_of s A.meta) lo hi → (last_reading b cs).reading.total ≡ 0
  -- the transitions of each call
  pub limit : (cs₁ cs₂ : List CodeCall) (c : CodeCall) → cs ≡ cs₁ ++ (c ∷ cs₂) → (n : ℕ)
      → ((k : List ℕ) (v : ℕ) → Held (fst_of s A.meta) k v → length k ≤ n) → c.step.reading.reading.total ≤ (last_reading b cs₁).reading.total + n
  -- the number after the list
  pub keys_to_come : NumberOf (StillToCome (fst_of s A.meta) lo hi (keys_out handed)) (last_reading b cs).keys
