-- What the values of this crate stand for: document 01's refusal and values for each case of an answer, and the view of a reading that
-- drops what carries no meaning.
--     level_at, stack_is, stack_of     the levels in four arrays, of stream_levels
--     bound_of b                      a bound that is lent
--     bound_is kind bytes             a bound by its kind and its bytes
--     view_is r                       what a reading says
--     started_is r                    what a start answered
--     no_reading                      a reading without levels
-- Assumes nothing.
use Rattle.std.proofs.Math.Option.{Option, none, some}
use Rattle.std.specs.Borrow.{Bor}
use Rattle.std.specs.Prelude.{Option as Maybe, Some, None, Ok, Err, Result, ⊤}
use Rattle.std.specs.Prelude.{List, ℕ, take, replicate}
use Rattle.std.specs.declared.ops.Bound.{Bound}
use Rattle.std.specs.declared.ops.Bound.TheVariants.{Included, Excluded, Unbounded}
use Rattle.format.specs.declared.Refusal.{Refusal}
use Rattle.format.specs.Limits.{max_path}
use Rattle.format.specs.Strings as S
use Rattle.format.specs.Strings.{unbounded, included, excluded}
use Rattle.reading.specs.Reading as R
use Rattle.reading.specs.Reading.{View}
pub use Rattle.stream_levels.specs.Stacks.{Arrays, level_at, stack_of, no_levels}
unfoldable pub use Rattle.stream_levels.specs.Stacks.{stack_is}
use Rattle.stream_start.specs.declared.Reading.{Reading}

abbrev pub bound_of : Bound (Bor (List ℕ)) → S.Bound
bound_of (Included bs) = included bs.now
bound_of (Excluded bs) = excluded bs.now
bound_of Unbounded = unbounded

abbrev pub bound_is : Bound ⊤ → List ℕ → S.Bound
bound_is (Included u) bs = included bs
bound_is (Excluded u) bs = excluded bs
bound_is Unbounded bs = unbounded

abbrev pub empty_is : Maybe ℕ → Option ℕ
empty_is (Some v) = some v
empty_is None = none

abbrev pub view_is : Reading → View
view_is r = record {
  len = r.len;
  bound = bound_is r.kind (take r.bound_len r.bound);
  bound_len = r.bound_len;
  empty = empty_is r.empty_output;
  total = r.total;
  levels = stack_of r.levels r.stack;
}

abbrev pub started_is : Result Reading Refusal → R.Started
started_is (Ok r) = R.started (view_is r)
started_is (Err n) = R.Started.refused n

abbrev pub no_reading : Reading
no_reading = record {
  len = 0;
  kind = Unbounded;
  bound_len = 0;
  bound = replicate max_path 0;
  empty_output = None;
  total = 0;
  levels = 0;
  stack = no_levels;
}
