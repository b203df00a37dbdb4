-- A start by pattern: the cases of its definition, and the contract at each.
--     start_shut, start_many, start_few       the file does not open; over 255 positions; a start without pattern
--     refused_.., started_by                  the contract where a start is refused, and where it is that of a start without pattern
-- Assumes nothing.
use mathlib.Core.Path.{◌≡◌, refl, sym, ◌∙◌, ap}
use Rattle.std.specs.Prelude.{Result, Ok, Err}
use Rattle.format.specs.declared.Refusal.{Refusal}
use mathlib.Core.Bool.{Bool}
use mathlib.Core.List.{List}
use Prim.Native.Nat.{ℕ, ◌<◌, ◌≤◌}
use native.Mathlib.Omega.{arith}
use borrow.Author.Tests.{le-leb, lt-leb}
use lib.ListN.{length, length-map}
use Rattle.format.specs.Limits.{max_path, PATTERN}
use Rattle.format.specs.Opening as O
use Rattle.format.specs.Opening.{Meta, Opening, opened, opening}
use Rattle.format.specs.Strings.{Bound}
use Rattle.reading.specs.Reading as R
use Rattle.reading.specs.Reading.{start}
use Rattle.stream_start.specs.declared.Reading.{Reading}
use Rattle.stream_start.specs.Views.{started_is}
use Rattle.pattern.specs.Pattern as P
use Rattle.pattern.specs.Pattern.{start_by}
use Rattle.patterned_fit.specs.declared.Pattern.{Pattern}
use Rattle.patterned_fit.specs.Positions.{position_is}
use Rattle.patterned_held.specs.HeldPatterns.{held_is, given_is}
use Rattle.patterned.specs.declared.Patterned.{Patterned}
use Rattle.patterned.specs.Patterns.{StartedBy}

module _ (s : List ℕ) (p : P.Pattern) (lo hi : Bound) where
  start_shut : (n : Refusal) → opening s ≡ O.refused n → start_by s p lo hi ≡ R.Started.refused n
  unfolding start_by
  start_shut n e = rw e

  start_many : (m : Meta) → opening s ≡ opened m → max_path < length p.positions → start_by s p lo hi ≡ R.Started.refused PATTERN
  unfolding start_by
  start_many m e h = rw (e, lt-leb (length p.positions) max_path h)

  plain_shut : (n : Refusal) → opening s ≡ O.refused n → start s lo hi ≡ R.Started.refused n
  unfolding start
  plain_shut n e = rw e

  plain_open : (m : Meta) → opening s ≡ opened m → length p.positions ≤ max_path → start_by s p lo hi ≡ start s lo hi
  unfolding start_by
  plain_open m e h = rw (e, le-leb (length p.positions) max_path h)

  start_few : length p.positions ≤ max_path → start_by s p lo hi ≡ start s lo hi
  start_few h = by (opening s) refl
    where
      by : (o : Opening) → opening s ≡ o → start_by s p lo hi ≡ start s lo hi
      by (opened m) e = plain_open m e h
      by (O.refused n) e = start_shut n e ∙ sym (plain_shut n e)

-- ---- the contract

pattern_of : (x y : Patterned) → ◌≡◌ {A = Result Patterned Refusal} (Ok x) (Ok y) → x.pattern ≡ y.pattern
pattern_of x y e = let z : x ≡ y = cc in ap (λ (w : Patterned). w.pattern) z

refused_by : (w : R.Started) (p : P.Pattern) (n : Refusal) → w ≡ R.Started.refused n → StartedBy w p (Err n)
refused_by w p n e = record { answer = sym e; pattern = λ q is. absurd (let z : ◌≡◌ {A = ℕ} 0 1 = cc in omega arith) }

module _ (s xs : List ℕ) (rest : Bool) (lo hi : Bound) where
  abbrev given : P.Pattern
  given = given_is xs rest

  pub refused_open : (n : Refusal) → opening s ≡ O.refused n → StartedBy (start_by s given lo hi) given (Err n)
  refused_open n e = refused_by (start_by s given lo hi) given n (start_shut s given lo hi n e)

  pub refused_many : (m : Meta) → opening s ≡ opened m → max_path < length xs → StartedBy (start_by s given lo hi) given (Err PATTERN)
  refused_many m e h = refused_by (start_by s given lo hi) given PATTERN (start_many s given lo hi m e (rw (length-map xs position_is) h))

  module _ (h : length xs ≤ max_path) (r : Result Reading Refusal) (e : started_is r ≡ start s lo hi) where
    plain : start_by s given lo hi ≡ started_is r
    plain = start_few s given lo hi (rw (length-map xs position_is) h) ∙ sym e

    pub refused_start : (n : Refusal) → r ≡ Err n → StartedBy (start_by s given lo hi) given (Err n)
    refused_start n q = refused_by (start_by s given lo hi) given n (plain ∙ ap started_is q)

    pub started_by : (v : Reading) → r ≡ Ok v → (q : Pattern) → held_is q ≡ given
        → StartedBy (start_by s given lo hi) given (Ok (record { reading = v; pattern = q }))
    started_by v is q held = record {
      answer = sym (plain ∙ ap started_is is);
      pattern = λ y same. ap (λ (x : Pattern). held_is x) (let z : q ≡ y.pattern = pattern_of (record { reading = v; pattern = q }) y same in sym z) ∙ held;
    }
