-- What the answers of a lookup by key stand for: document 01's refusal and values for each case.
--     answer_is r              what a lookup by key answered
-- Assumes nothing.
use Rattle.format.specs.Lookup as L
use Rattle.std.specs.Prelude.{Ok, Err, Some, None, Result, Option, ℕ}
use Rattle.format.specs.declared.Refusal.{Refusal}
use Rattle.format.specs.Lookup.{value}

abbrev pub answer_is : Result (Option ℕ) Refusal → L.Answer
answer_is (Ok (Some v)) = value v
answer_is (Ok None) = L.Answer.none
answer_is (Err n) = L.Answer.refused n
