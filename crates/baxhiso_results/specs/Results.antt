-- The results of readings and ranges, of the answers of the code (include/baxhiso.h).
--     END                     the result of a reading that has no more keys
--     MORE                    the result of a range that handed out as many keys as asked for
--     AnswerLeaves a ..       the answer a of a reading: the result, the key's length and its value
--     stop_of s                the stop s of a range
-- A name with ₀ is what the caller handed in. Assumes nothing.
use Rattle.std.specs.Prelude.{◌≡◌, ℕ, ℤ, negsuc, Ok, Err, Some, None, Result, Option}
use Rattle.format.specs.declared.Refusal.{Refusal}
use Rattle.range_fill.specs.declared.Stop.{Stop}
use Rattle.range_fill.specs.declared.Stop.TheVariants.{End as Ended, More}
use Rattle.baxhiso.specs.Exports.{OK, code}

-- minus 2: the end is no refusal, and not "none"
abbrev pub END : ℤ
END = negsuc 1

abbrev pub MORE : ℤ
MORE = negsuc 2

abbrev pub result_of : Result (Option (ℕ × ℕ)) Refusal → ℤ
result_of (Ok (Some (n, x))) = OK
result_of (Ok None) = END
result_of (Err n) = code n

abbrev pub len_of : Result (Option (ℕ × ℕ)) Refusal → ℕ → ℕ
len_of (Ok (Some (n, x))) len₀ = n
len_of (Ok None) len₀ = len₀
len_of (Err n) len₀ = len₀

abbrev pub value_of : Result (Option (ℕ × ℕ)) Refusal → ℕ → ℕ
value_of (Ok (Some (n, x))) v₀ = x
value_of (Ok None) v₀ = v₀
value_of (Err n) v₀ = v₀

pub record AnswerLeaves (a : Result (Option (ℕ × ℕ)) Refusal) (len₀ len v₀ v : ℕ) (r : ℤ) : Type 0 where
  pub result : r ≡ result_of a
  pub len_is : len ≡ len_of a len₀
  pub value_is : v ≡ value_of a v₀

abbrev pub stop_of : Result Stop Refusal → ℤ
stop_of (Ok Ended) = END
stop_of (Ok More) = MORE
stop_of (Err n) = code n
