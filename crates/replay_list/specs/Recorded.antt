-- How the lists of answers record what a next and a call that writes answer (the README.md of each program that replays).
--     answer_number a n    how many bytes a call wrote, or the refusal added to n
--     answer_test a n v    whether an answer has the number n and the value v: a key's length and value, 1000 at the end, 2000 and the refusal
-- Assumes nothing.
use Rattle.std.specs.Prelude.{Bool, ◌&&◌, ℕ, ◌+◌, eqb, Ok, Err, Some, None, Result, Option}
use Rattle.format.specs.Limits.{number}
use Rattle.format.specs.declared.Refusal.{Refusal}

abbrev pub answer_number : Result ℕ Refusal → ℕ → ℕ
answer_number (Ok k) n = k
answer_number (Err k) n = n + number k

abbrev pub answer_test : Result (Option (ℕ × ℕ)) Refusal → ℕ → ℕ → Bool
answer_test (Ok (Some (k, w))) n v = eqb k n && eqb w v
answer_test (Ok None) n v = eqb n 1000
answer_test (Err k) n v = eqb (2000 + number k) n
