-- Demand 3 for readings by pattern (document 02, N1), in the words of the request. `DemandBy A p lo hi cs` is the claim about an admitted file, a
-- pattern, two bounds and a list of calls; DemandByLaws proves it for every admitted file, every pattern of at most 255 positions, every two
-- bounds of at most 255 bytes, and every list of calls (`demand_3_by`). It is `Demand3` of `reading` with these differences:
--     hands out the keys between its bounds that fit                  `wanted`, `none_left_out`, `end_exactly`: with `Fits`
--     follows the non-empty strings that begin a held key, lie        `Followed`: less their last byte they fit the pattern's start
--     between the bounds and, less their last byte, fit the
--     pattern's start
--     plus one if such a string meets the lower bound and             `ExtraBy`
--     passes the upper
--     the excluded empty key case stays                               `total_excluded`, `none_followed`: whether or not it fits
--     the per-call limit is for plain readings only                   no `limit`
-- Assumes nothing.
use Rattle.std.specs.Prelude.{◌≡◌, ℕ, ◌+◌, ◌<◌, replicate}
use Rattle.format.specs.declared.Refusal.{Refusal}
use mathlib.Core.List.{List, [], ◌∷◌, ◌++◌, map, Memᴰ}
use Rattle.format.specs.Paths.{Fst, fst_of, Held}
use Rattle.format.specs.Admitted.{Admitted}
use Rattle.format.specs.Strings.{Before, Bound, MeetsLower, PassesUpper, Between, Rising, NumberOf}
use Rattle.reading.specs.Reading.{View, started, Answer, end, Step, refuse}
use Rattle.reading.specs.Demand.{BeginsHeld, EmptyExcluded, Call, Allowed, unrefused, at_zero, Entry, entry, hand_out, handed_in, NotAfterLast, capped}
use Rattle.pattern.specs.Pattern.{Pattern, FitsStart, Fits, start_by, next_by}

-- less its last byte x fits the pattern's start
pub record StartFits (p : Pattern) (x : List ℕ) : Type 0 where
  pub most : List ℕ
  pub last : ℕ
  pub is : x ≡ most ++ (last ∷ [])
  pub fits : FitsStart p most

abbrev pub Followed : Fst → Pattern → Bound → Bound → List ℕ → Type 0
Followed f p lo hi x = BeginsHeld f x × (StartFits p x × Between lo hi x)

abbrev pub FollowedBeyond : Fst → Pattern → Bound → Bound → List ℕ → Type 0
FollowedBeyond f p lo hi x = BeginsHeld f x × (StartFits p x × (MeetsLower lo x × PassesUpper hi x))

pub data ExtraBy (f : Fst) (p : Pattern) (lo hi : Bound) : ℕ → Type 0 where
  one_more : (x : List ℕ) → FollowedBeyond f p lo hi x → ExtraBy f p lo hi 1
  no_more : ((x : List ℕ) → ¬ FollowedBeyond f p lo hi x) → ExtraBy f p lo hi 0

-- a held key between the bounds that fits
pub record Wanted (f : Fst) (p : Pattern) (lo hi : Bound) (k : List ℕ) (v : ℕ) : Type 0 where
  pub held : Held f k v
  pub between : Between lo hi k
  pub fits : Fits p k

abbrev pub call_by : {s : List ℕ} → Pattern → View → Call s → Step
call_by p r c = next_by c.file p r c.space

abbrev pub reading_after_by : {s : List ℕ} → Pattern → View → List (Call s) → View
reading_after_by p r [] = r
reading_after_by p r (c ∷ cs) = reading_after_by p (call_by p r c).reading cs

abbrev pub answers_by : {s : List ℕ} → Pattern → View → List (Call s) → List Answer
answers_by p r [] = []
answers_by p r (c ∷ cs) = (call_by p r c).answer ∷ answers_by p (call_by p r c).reading cs

abbrev pub followed_by : {s : List ℕ} → Pattern → View → Call s → ℕ
followed_by p r c = (call_by p (at_zero r) c).reading.total

abbrev pub NoneLeftBy : Fst → Pattern → Bound → Bound → List Entry → Type 0
NoneLeftBy f p lo hi handed = (k : List ℕ) (v : ℕ) → Wanted f p lo hi k v → Memᴰ (entry k v) handed

pub record DemandBy {s : List ℕ} (A : Admitted s) (p : Pattern) (lo hi : Bound) (cs : List (Call s)) : Type 0 where
  -- the start is not refused
  pub reading : View
  pub starts : start_by s p lo hi ≡ started reading
  -- the unrefused calls hand out keys, and then answer only "end"
  pub handed : List Entry
  pub ends : ℕ
  pub one_a_call : unrefused (answers_by p reading cs) ≡ map hand_out handed ++ replicate ends end
  pub wanted : (e : Entry) → Memᴰ e handed → Wanted (fst_of s A.meta) p lo hi e.key e.value
  pub ascending : Rising (map (λ (e : Entry). e.key) handed)
  pub none_left_out : (k : List ℕ) (v : ℕ) → Wanted (fst_of s A.meta) p lo hi k v → (e : Entry) → Memᴰ e handed → ¬ Before e.key k
      → Memᴰ (entry k v) handed
  pub end_exactly : (cs₁ cs₂ : List (Call s)) (c : Call s) → cs ≡ cs₁ ++ (c ∷ cs₂) → Allowed c
      → ((call_by p (reading_after_by p reading cs₁) c).answer ≡ end → NoneLeftBy (fst_of s A.meta) p lo hi (handed_in (answers_by p reading cs₁)))
      × (NoneLeftBy (fst_of s A.meta) p lo hi (handed_in (answers_by p reading cs₁)) → (call_by p (reading_after_by p reading cs₁) c).answer ≡ end)
  -- a call is refused exactly when it is handed a short buffer or a file of another length, and then it changes nothing
  pub refused_exactly : (cs₁ cs₂ : List (Call s)) (c : Call s) → cs ≡ cs₁ ++ (c ∷ cs₂)
      → (Allowed c → (n : Refusal) → ¬ ((call_by p (reading_after_by p reading cs₁) c).answer ≡ Answer.refused n))
      × (¬ Allowed c → (n : Refusal) × (call_by p (reading_after_by p reading cs₁) c ≡ refuse (reading_after_by p reading cs₁) n))
  -- the total after the list
  pub total_ended : ¬ EmptyExcluded (fst_of s A.meta) lo hi → 0 < ends
      → (n e : ℕ) × NumberOf (Followed (fst_of s A.meta) p lo hi) n × ExtraBy (fst_of s A.meta) p lo hi e
      × ((reading_after_by p reading cs).total ≡ capped (n + e))
  pub total_before : ends ≡ 0
      → (n : ℕ) × NumberOf (λ x. Followed (fst_of s A.meta) p lo hi x × NotAfterLast handed x) n × ((reading_after_by p reading cs).total ≡ capped n)
  pub total_excluded : EmptyExcluded (fst_of s A.meta) lo hi → (reading_after_by p reading cs).total ≡ 0
  pub none_followed : EmptyExcluded (fst_of s A.meta) lo hi → (cs₁ cs₂ : List (Call s)) (c : Call s) → cs ≡ cs₁ ++ (c ∷ cs₂)
      → followed_by p (reading_after_by p reading cs₁) c ≡ 0
