-- A reading from its start to its end, call after call: the claim that `whole` proves (WholeLaws).
--     Runs s space r es r'     calls with the file and a buffer of space bytes hand out es, then answer "end" and leave r'
--     Whole A lo hi space      from the start: the held keys between the bounds, and the total
-- Assumes nothing.
use Rattle.std.specs.Prelude.{◌≡◌, ℕ, ◌+◌}
use mathlib.Core.List.{List, [], ◌∷◌, map, Memᴰ}
use Rattle.format.specs.Paths.{fst_of, Held}
use Rattle.format.specs.Admitted.{Admitted}
use Rattle.format.specs.Strings.{Bound, Between, Rising, NumberOf}
use Rattle.reading.specs.Reading.{View, started, start, end, next}
use Rattle.reading.specs.Demand.{Within, Extra, EmptyExcluded, Entry, hand_out, NoneLeft, capped}

pub data Runs (s : List ℕ) (space : ℕ) : View → List Entry → View → Type 0 where
  run_end : {r r' : View} → next s r space ≡ record { answer = end; reading = r' } → Runs s space r [] r'
  run_key : {r r₁ r' : View} {es : List Entry} (e : Entry) → next s r space ≡ record { answer = hand_out e; reading = r₁ } → Runs s space r₁ es r'
      → Runs s space r (e ∷ es) r'

pub record Whole {s : List ℕ} (A : Admitted s) (lo hi : Bound) (space : ℕ) : Type 0 where
  pub reading : View
  pub starts : start s lo hi ≡ started reading
  pub entries : List Entry
  pub last : View
  pub runs : Runs s space reading entries last
  pub ascending : Rising (map (λ (e : Entry). e.key) entries)
  pub held : (e : Entry) → Memᴰ e entries → Held (fst_of s A.meta) e.key e.value × Between lo hi e.key
  pub none_left : NoneLeft (fst_of s A.meta) lo hi entries
  pub total : ¬ EmptyExcluded (fst_of s A.meta) lo hi
      → (n e : ℕ) × NumberOf (Within (fst_of s A.meta) lo hi) n × Extra (fst_of s A.meta) lo hi e × (last.total ≡ capped (n + e))
