-- What is promised of a reading with marks that is carried to its file's conversion, and of marks set there (document 02, N10 with N8). `s` is an admitted
-- file of version 1, `A` says so, `can` that its conversion is not refused, and `converted A` is the new file. Proved in CarriedRunLaws.
--
--     After every list of operations on the old file               bs; `MarkedRun` of it is `before`
--     the carried reading is the one that the same calls           `carries`; cs' are the calls in force on the old file, each refused on both
--     on the new file would have left, and has no marks,           files or on neither (`SameCalls`); there are such calls (carrying_own, `twin_calls`)
--     and from there on marks do what they do                      `after`, with the calls cs' behind the first mark: demand 3, the number of keys
--     on a file that was never carried to;                         to come, every return, every refusal
--     the limit on a call holds after every return.                `limit`, by the keys that the old file holds
-- Assumes nothing.
use Rattle.std.specs.Prelude.{◌≡◌, List, [], ◌∷◌, ◌++◌, ℕ, ◌≤◌, length}
use Rattle.format.specs.Paths.{Held}
use Rattle.format.specs.Admitted.{Admitted}
use Rattle.format.specs.Strings.{Bound}
use Rattle.reading.specs.Demand.{Call, followed}
use Rattle.converting.specs.Converting.{converted}
use Rattle.converting.specs.Converted.{old_fst}
use Rattle.carrying.specs.Carry.{CarriedPlain}
use Rattle.carrying_own.specs.CarryOwn.{Convertible}
use Rattle.carrying_own.specs.CarryOwnLaws.{new_admitted}
use Rattle.marking.specs.MarksDemand.{Did, reads, now_from, MarkedRun}
use Rattle.marks_carry.specs.MarksCarry.{carry_marked}

-- counts is a table of keys for the old file, counts' one for the new; bs are operations on the old file, ds on the new
pub record CarriedMarkedRun {s : List ℕ} (A : Admitted s) (can : Convertible A) (lo hi : Bound) (counts counts' : List ℕ)
    (bs : List (Did s)) (cs' : List (Call (converted A))) (ds : List (Did (converted A))) : Type 0 where
  pub before : MarkedRun A lo hi counts [] bs
  pub after : MarkedRun (new_admitted A can) lo hi counts' cs' ds
  -- not refused with the marks of the old file, and the reading with which the run on the new file begins
  pub carries : carry_marked s (converted A) (now_from before.first [] bs).reading (now_from before.first [] bs).marks
      ≡ CarriedPlain.carried (now_from after.first cs' []).reading
  pub no_marks_lem : (now_from after.first cs' []).marks ≡ []
  pub limit : (ds₁ ds₂ : List (Did (converted A))) (c : Call (converted A)) → ds ≡ ds₁ ++ (reads c ∷ ds₂) → (n : ℕ)
      → ((k : List ℕ) (v : ℕ) → Held (old_fst A) k v → length k ≤ n) → followed (now_from after.first cs' ds₁).reading.view c ≤ n
