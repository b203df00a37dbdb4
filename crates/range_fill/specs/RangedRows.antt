-- What a range gives back, against `P.range`.
--     stop_as w                  the stop that stands for one of the definition
--     refused_range why          refused before any key
--     OpensAs s version root    the file opens, with this version and this root
--     Ready s .. hi             the levels can be gone on from, to the upper bound hi
--     view_from len hi n empty levels     the reading that a start gave
--     RangedBy w rows₀ rows values₀ values r     the answer and the two buffers of a call whose definition answers w
-- Assumes nothing.
use Rattle.std.specs.Prelude.{◌≡◌, List, ℕ, ◌≤◌, length, Ok, Err, Result}
use Rattle.std.proofs.Math.Option.{Option}
use Rattle.format.specs.declared.Refusal.{Refusal}
use Rattle.format.specs.Limits.{max_path, max_levels}
use Rattle.format.specs.Opening.{Meta, opened, opening}
use Rattle.format.specs.Paths.{fst_with}
use Rattle.format.specs.Strings as S
use Rattle.reading.specs.Reading.{View, Level, bound_bytes}
use Rattle.paging.specs.Paging as P
use Rattle.paging.specs.Paging.{Page, ended, more, rows_after, values_after}
use Rattle.range_node.specs.Entries.{SoundTo}
use Rattle.range_fill.specs.declared.Stop.{Stop}
use Rattle.range_fill.specs.declared.Stop.TheVariants.{End, More}
use Rattle.range_fill.specs.declared.Ranged.{Ranged}

abbrev pub stop_as : P.Stop → Result Stop Refusal
stop_as ended = Ok End
stop_as more = Ok More
stop_as (P.Stop.refused n) = Err n

abbrev pub refused_range : Refusal → Ranged
refused_range why = record { count = 0; stop = Err why }

pub record OpensAs (s : List ℕ) (version root : ℕ) : Type 0 where
  pub meta : Meta
  pub opens : opening s ≡ opened meta
  pub version_is : meta.version ≡ version
  pub root_is : meta.root ≡ root

-- the levels, of which xs are the addresses, can be gone on from, to the upper bound hi
pub record Ready (s : List ℕ) (version root levels : ℕ) (xs : List ℕ) (hi : S.Bound) : Type 0 where
  pub opens : OpensAs s version root
  pub few : levels ≤ max_levels
  pub sounds : SoundTo (fst_with s version root) xs levels
  pub short : length (bound_bytes hi) ≤ max_path

abbrev pub view_from : ℕ → S.Bound → ℕ → Option ℕ → List Level → View
view_from len hi n empty levels = record { len = len; bound = hi; bound_len = n; empty = empty; total = 0; levels = levels }

pub record RangedBy (w : Page) (rows₀ rows values₀ values : List ℕ) (r : Ranged) : Type 0 where
  pub count : r.count ≡ length w.entries
  pub stop : r.stop ≡ stop_as w.stop
  pub rows_are : rows ≡ rows_after w.entries rows₀
  pub values_are : values ≡ values_after w.entries values₀
