-- What is told of an answer of the code is what is told of the definition's: number_is, value_is.
-- Assumes nothing.
use Rattle.std.specs.Prelude.{◌≡◌, refl, List, ℕ}
use Rattle.reading.specs.Reading as R
use Rattle.reading.specs.Reading.{key, end}
use Rattle.stream_step.specs.Stepped.{answer_as}
use Rattle.oracle_stream.specs.StreamTells.{next_number, value_in, answer_number, answer_value}

pub number_is : (a : R.Answer) → answer_number (answer_as a) ≡ next_number a
number_is (key k v) = refl
number_is end = refl
number_is (R.Answer.refused n) = refl

pub value_is : (a : R.Answer) (v : List ℕ) → answer_value (answer_as a) v ≡ value_in a v
value_is (key k x) v = refl
value_is end v = refl
value_is (R.Answer.refused n) v = refl
