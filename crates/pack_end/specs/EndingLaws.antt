-- Laws of the end of packing: an answer told of the output as it is left.
--     refused_any, written_on
-- Assumes nothing.
use Rattle.std.specs.Prelude.{◌≡◌, List, ℕ, Ok, Err, Result}
use Rattle.std.proofs.Common.{sym, ◌∙◌, subst}
use Rattle.format.specs.declared.Refusal.{Refusal}
use Rattle.packing.specs.Packing.{Answer}
use Rattle.pack_cell.specs.declared.Cell.{Cell}
use Rattle.pack_blank.specs.PackBlank.{Answers}
use Rattle.pack_blank.specs.PackBlankLaws.{refused_not}

pub refused_any : {A : Answer} {out : List ℕ} {table : List Cell} {r : Result ℕ Refusal} {k : Refusal} → Answers A out table r → r ≡ Err k → (out' : List ℕ) → Answers A out' table (Err k)
refused_any a e out' = record { answer = sym e ∙ a.answer; output = λ n q. absurd (refused_not q); cells_left = λ n q. absurd (refused_not q) }

pub written_on : {A : Answer} {out : List ℕ} {table : List Cell} {r : Result ℕ Refusal} {n : ℕ} → Answers A out table r → r ≡ Ok n → Answers A out table (Ok n)
written_on {A} {out} {table} a e = subst (Answers A out table) e a
