-- What a call of next judges first, against `R.next` (document 01, "A reading").
--     judging s v     the file as its nodes are read; or opening's refusal, or STATE
--     judged_is x     what the code answers
-- Assumes nothing.
use Rattle.std.specs.Prelude.{cond, List, ℕ, length, Ok, Err, Result}
use Rattle.format.specs.declared.FstRef.{FstRef}
use Rattle.format.specs.declared.Refusal.{Refusal}
use Rattle.format.specs.Limits.{STATE}
use Rattle.format.specs.Opening.{opening}
use Rattle.format.specs.Paths.{Fst, fst_of}
use Rattle.format.specs.View.{fst_is}
use Rattle.reading.specs.Reading.{View, on_opened, state_test}

unfoldable pub judging : List ℕ → View → Result Fst Refusal
judging s v = on_opened (opening s) (λ m. cond (state_test v (length s)) (Ok (fst_of s m)) (Err STATE)) (λ n. Err n)

abbrev pub judged_is : Result FstRef Refusal → Result Fst Refusal
judged_is (Ok f) = Ok (fst_is f)
judged_is (Err n) = Err n
