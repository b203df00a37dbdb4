-- Laws of the reading of a page.
--     bound_back, view_is_lem      the plain reading that it stands for says what it says
-- Assumes nothing.
use Rattle.std.specs.Prelude.{◌≡◌, refl, List, ℕ, length, take}
use Rattle.std.proofs.Common.{ap}
use Rattle.std.proofs.Math.Seq.{take-length}
use Rattle.format.specs.Strings as S
use Rattle.format.specs.Strings.{unbounded, included, excluded}
use Rattle.reading.specs.Reading.{bound_bytes}
use Rattle.stream_start.specs.Views.{bound_is, view_is, empty_is, stack_of}
use Rattle.ops_live.specs.declared.Live.{Live}
use Rattle.ops_live.specs.Lives.{view_from, kind_for, plain_of}

bound_back : (hi : S.Bound) → bound_is (kind_for hi) (take (length (bound_bytes hi)) (bound_bytes hi)) ≡ hi
bound_back unbounded = refl
bound_back (included b) = ap included (take-length b)
bound_back (excluded b) = ap excluded (take-length b)

pub view_is_lem : (f : List ℕ) (hi : S.Bound) (l : Live) (t : ℕ) → view_is (plain_of f hi l t).reading ≡ view_from f hi l t
view_is_lem f hi l t =
    ap (λ (b : S.Bound). record { len = length f; bound = b; bound_len = length (bound_bytes hi); empty = empty_is l.empty; total = t; levels = stack_of l.levels l.stack }) (bound_back hi)
