-- What is promised of lookups on files that are fit for them: by key on admitted files, by value on numbered ones (docs/FORMAT.md, "Lookup").
--     GetExact s f k           a lookup of k answers the held value, or none exactly where k is not held
--     KeyExact s f v space     a search for v answers a key that has it, or none exactly where no held key has it
-- Assumes nothing.
use Rattle.std.specs.Prelude.{◌≡◌, List, ℕ, ◌≤◌}
use Rattle.format.specs.declared.Refusal.{Refusal}
use Rattle.format.specs.Limits.{max_path}
use Rattle.format.specs.Paths.{Fst, Held}
use Rattle.format.specs.Lookup.{Answer, get, KeyAnswer, get_key}

-- both ways for each answer, and no refusal
pub record GetExact (s : List ℕ) (f : Fst) (k : List ℕ) : Type 0 where
  pub get_held : (v : ℕ) → Held f k v → get s k ≡ Answer.value v
  pub held_get : (v : ℕ) → get s k ≡ Answer.value v → Held f k v
  pub get_none : ((v : ℕ) → ¬ Held f k v) → get s k ≡ Answer.none
  pub none_held : get s k ≡ Answer.none → (v : ℕ) → ¬ Held f k v
  pub get_not_refused : (n : Refusal) → ¬ (get s k ≡ Answer.refused n)

-- both ways for each answer; a short buffer is refused, and so finds nothing
pub record KeyExact (s : List ℕ) (f : Fst) (v space : ℕ) : Type 0 where
  pub get_key_found : (k : List ℕ) → get_key s v space ≡ KeyAnswer.found k → Held f k v
  pub get_key_held : max_path ≤ space → (k : List ℕ) → Held f k v → get_key s v space ≡ KeyAnswer.found k
  pub get_key_none : max_path ≤ space → ((k : List ℕ) → ¬ Held f k v) → get_key s v space ≡ KeyAnswer.none
  pub none_key_held : max_path ≤ space → get_key s v space ≡ KeyAnswer.none → (k : List ℕ) → ¬ Held f k v
  pub not_refused : max_path ≤ space → (n : Refusal) → ¬ (get_key s v space ≡ KeyAnswer.refused n)
