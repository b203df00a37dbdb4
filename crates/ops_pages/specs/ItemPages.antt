-- The next page of an operation is asked with the last key as an excluded lower bound of every file.
--     After k c, after_one     the source c from behind the key k: what its start gives, and the source
--     AllAfter k cs           that for each source
--     after_all                the sources of the next page
-- Assumes nothing.
use Rattle.std.specs.Prelude.{◌≡◌, List, [], ◌∷◌, ℕ}
use Rattle.format.specs.Paths.{fst_of}
use Rattle.format.specs.Strings.{excluded}
use Rattle.plain.specs.Numbers.{TableFits}
use Rattle.plain.specs.Plain.{Plain, begun, start_plain}
use Rattle.ops_spec.specs.OpsDemand.{Source}

pub record After (k : List ℕ) (c : Source) : Type 0 where
  pub table : List ℕ
  pub fits : TableFits (fst_of c.file c.admitted.meta) (excluded k) c.upper table
  pub reading : Plain
  pub starts : start_plain c.file (excluded k) c.upper table ≡ begun reading

abbrev pub after_one : (k : List ℕ) (c : Source) → After k c → Source
after_one k c a =
    record {
      file = c.file;
      admitted = c.admitted;
      lower = excluded k;
      upper = c.upper;
      table = a.table;
      fits = a.fits;
      reading = a.reading;
      starts = a.starts;
    }

pub data AllAfter (k : List ℕ) : List Source → Type 0 where
  no_source : AllAfter k []
  one_source : {c : Source} {cs : List Source} → After k c → AllAfter k cs → AllAfter k (c ∷ cs)

abbrev pub after_all : (k : List ℕ) (cs : List Source) → AllAfter k cs → List Source
after_all k _ no_source = []
after_all k _ (one_source {c} {cs} a more) = after_one k c a ∷ after_all k cs more
