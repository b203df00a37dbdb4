-- Demand 3 of plain readings, and the number of keys to come (document 02, N11). `DemandPlain A lo hi c cs` is the claim about an admitted file,
-- two bounds, a table and a list of calls; PlainLaws proves it for every admitted file, every two bounds of at most 255 bytes, every table that has
-- an entry for each byte of the file and fits (`TableFits`), and every list of calls (`demand_3_plain`).
--
--     It equals the number of held keys between the bounds                  `keys_to_come`, `StillToCome`: the held keys between the bounds that were
--     that next calls from there will hand out.                             not handed out, which demand 3 says will come
--     This, like demand 3 for plain readings, holds where the start         `demand`, `same_answers`, `same_readings`: demand 3 is of the same
--     is given a table as filled for that file or reads none.               answers and readings; `TableFits` (Numbers)
--     A key handed out where a held number says none is to come is STATE    `same_call`: it never comes here
--
--     keys_out es           the keys of entries
--     StillToCome          a held key between the bounds that is not among those handed out
-- Assumes nothing.
use Rattle.std.specs.Prelude.{◌≡◌, ℕ}
use mathlib.Core.List.{List, map, Memᴰ}
use Rattle.format.specs.Paths.{Fst, fst_of, Held}
use Rattle.format.specs.Admitted.{Admitted}
use Rattle.format.specs.Strings.{Bound, Between, NumberOf}
use Rattle.reading.specs.Demand.{Call, call, Entry, handed_in, answers, reading_after, Demand3}
use Rattle.plain.specs.Plain.{Plain, begun, start_plain, call_plain, plain_after, answers_plain}

abbrev pub keys_out : List Entry → List (List ℕ)
keys_out es = map (λ (e : Entry). e.key) es

abbrev pub StillToCome : Fst → Bound → Bound → List (List ℕ) → List ℕ → Type 0
StillToCome f lo hi handed k = (v : ℕ) × Held f k v × Between lo hi k × ¬ Memᴰ k handed

pub record DemandPlain {s : List ℕ} (A : Admitted s) (lo hi : Bound) (c : List ℕ) (cs : List (Call s)) : Type 0 where
  -- the start is not refused
  pub reading : Plain
  pub starts : start_plain s lo hi c ≡ begun reading
  -- demand 3, and that it is of this reading and of these answers
  pub demand : Demand3 A lo hi cs
  pub same_reading : reading.view ≡ demand.reading
  pub same_answers : answers_plain reading cs ≡ answers demand.reading cs
  pub same_readings : (plain_after reading cs).view ≡ reading_after demand.reading cs
  -- a call more answers as it would without the number: no key ever meets the number 0
  pub same_call : (d : Call s) → (call_plain (plain_after reading cs) d).answer ≡ (call (reading_after demand.reading cs) d).answer
  -- the number after the list
  pub keys_to_come : NumberOf (StillToCome (fst_of s A.meta) lo hi (keys_out (handed_in (answers_plain reading cs)))) (plain_after reading cs).keys
