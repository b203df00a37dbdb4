-- A start of a plain reading, a law for each way out.
--     then_refused, then_halted, then_begun     a start without the number, and then the number
--     plain_refused, plain_bound, plain_table     the refusals before them
--     plain_then                                the rest
-- Assumes nothing.
use mathlib.Core.Path.{◌≡◌, sym, ap, ◌∙◌}
use Rattle.std.specs.Prelude.{Ok, Err, Result}
use Rattle.format.specs.declared.Refusal.{Refusal}
use mathlib.Core.Bool.{true, false}
use mathlib.Core.List.{List}
use Prim.Native.Nat.{ℕ, ◌≤◌, ◌<◌}
use borrow.Author.Tests.{le-leb, lt-leb}
use lib.ListN.{length}
use Rattle.format.specs.Limits.{BOUND, SPACE}
use Rattle.format.specs.Opening as O
use Rattle.format.specs.Opening.{Meta, opening}
use Rattle.format.specs.Paths.{fst_of}
use Rattle.format.specs.Strings as S
use Rattle.reading.specs.Reading as R
use Rattle.reading.specs.Reading.{bounds_test}
use Rattle.plain.specs.Numbers.{Tally, number}
use Rattle.plain.specs.Plain as P
use Rattle.plain.specs.Plain.{plain_with, begun, start_plain, then_number}
use Rattle.stream_start.specs.Views.{view_is, started_is}
use Rattle.stream_start.specs.declared.Reading.{Reading}
use Rattle.stream_number.specs.Totals.{tally_is}

module _ {w : R.Started} (o : Result Reading Refusal) (h : started_is o ≡ w) where
  pub then_refused : (t : Tally) (n : Refusal) → o ≡ Err n → P.Begun.refused n ≡ then_number w t
  then_refused t n e = ap (λ (x : R.Started). then_number x t) (ap started_is (sym e) ∙ h)

  module _ (r : Reading) (e : o ≡ Ok r) {t : Tally} (k : Result ℕ Refusal) (g : tally_is k ≡ t) where
    began : then_number (R.started (view_is r)) t ≡ then_number w t
    began = ap (λ (x : R.Started). then_number x t) (ap started_is (sym e) ∙ h)

    pub then_halted : (n : Refusal) → k ≡ Err n → P.Begun.refused n ≡ then_number w t
    then_halted n is = ap (then_number (R.started (view_is r))) (ap tally_is (sym is) ∙ g) ∙ began

    pub then_begun : (n : ℕ) → k ≡ Ok n → begun (plain_with (view_is r) n) ≡ then_number w t
    then_begun n is = ap (then_number (R.started (view_is r))) (ap tally_is (sym is) ∙ g) ∙ began

module _ (s : List ℕ) (lo hi : S.Bound) (c : List ℕ) where
  pub plain_refused : (n : Refusal) → opening s ≡ O.refused n → start_plain s lo hi c ≡ P.Begun.refused n
  unfolding start_plain
  plain_refused n e = rw e

  module _ (m : Meta) (opens : opening s ≡ O.opened m) where
    pub plain_bound : bounds_test lo hi ≡ false → start_plain s lo hi c ≡ P.Begun.refused BOUND
    unfolding start_plain
    plain_bound e = rw (opens, e)

    module _ (short : bounds_test lo hi ≡ true) where
      pub plain_table : length c < length s → start_plain s lo hi c ≡ P.Begun.refused SPACE
      unfolding start_plain
      plain_table h = rw (opens, short, lt-leb (length s) (length c) h)

      pub plain_then : length s ≤ length c → start_plain s lo hi c ≡ then_number (R.start s lo hi) (number (fst_of s m) c lo hi)
      unfolding start_plain
      plain_then h = rw (opens, short, le-leb (length s) (length c) h)
