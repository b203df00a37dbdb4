-- The cases of a call of next by pattern before the walk: the refusals, and the walk itself.
-- Assumes nothing.
use mathlib.Core.Path.{◌≡◌, refl, sym, ◌∙◌, ap}
use Rattle.std.specs.Prelude.{Ok, Err}
use Rattle.format.specs.declared.Refusal.{Refusal}
use mathlib.Core.Bool.{cond}
use mathlib.Core.Option.{Option}
use mathlib.Core.List.{List}
use Prim.Native.Nat.{ℕ, ◌<◌, ◌≤◌}
use borrow.Author.Tests.{lt-leb, le-leb}
use lib.Dec.{leb}
use lib.ListN.{length}
use Rattle.format.specs.Limits.{max_path, SPACE, PATTERN}
use Rattle.format.specs.Paths.{Fst}
use Rattle.reading.specs.Reading as R
use Rattle.reading.specs.Reading.{refuse}
use Rattle.stream_start.specs.declared.Reading.{Reading}
use Rattle.stream_start.specs.Views.{view_is, empty_is}
use Rattle.stream_step.specs.declared.Step.{Step}
use Rattle.stream_step.specs.Judged.{judging}
use Rattle.stream_step.specs.JudgedLaws.{on_judged, judged_way}
use Rattle.stream_step.specs.Stepped.{Stepped}
use Rattle.pattern.specs.Pattern as P
use Rattle.pattern.specs.Pattern.{pending_by, next_by}

module _ (s : List ℕ) (p : P.Pattern) (r : Reading) (buf₀ : List ℕ) where
  -- what is left once the file opens and the reading can go on with it
  abbrev goes : Fst → R.Step
  goes f =
      cond (leb (length p.positions) max_path)
      (cond (leb max_path (length buf₀)) (pending_by f p (view_is r) (view_is r).empty) (refuse (view_is r) SPACE))
      (refuse (view_is r) PATTERN)

  next_judged : next_by s p (view_is r) (length buf₀) ≡ on_judged (judging s (view_is r)) goes (λ n. refuse (view_is r) n)
  unfolding next_by
  next_judged = judged_way s (view_is r) goes (λ n. refuse (view_is r) n)

  refused_by : (n : Refusal) → next_by s p (view_is r) (length buf₀) ≡ refuse (view_is r) n → (x : Step Reading) → (x.answer ≡ Err n) × (x.reading ≡ r)
      → Stepped (next_by s p (view_is r) (length buf₀)) buf₀ buf₀ x
  refused_by n e x h = rw e (record { answer = h.0; reading = ap view_is h.1; buffer = refl })

  pub next_refused : (n : Refusal) → Err n ≡ judging s (view_is r) → (x : Step Reading) → (x.answer ≡ Err n) × (x.reading ≡ r)
      → Stepped (next_by s p (view_is r) (length buf₀)) buf₀ buf₀ x
  next_refused n e = refused_by n (rw (sym e) at next_judged)

  module _ (f : Fst) (right : Ok f ≡ judging s (view_is r)) where
    pub next_pattern : max_path < length p.positions → (x : Step Reading) → (x.answer ≡ Err PATTERN) × (x.reading ≡ r)
        → Stepped (next_by s p (view_is r) (length buf₀)) buf₀ buf₀ x
    next_pattern g = refused_by PATTERN (rw (sym right, lt-leb (length p.positions) max_path g) at next_judged)

    module _ (few : length p.positions ≤ max_path) where
      pub next_space : length buf₀ < max_path → (x : Step Reading) → (x.answer ≡ Err SPACE) × (x.reading ≡ r)
          → Stepped (next_by s p (view_is r) (length buf₀)) buf₀ buf₀ x
      next_space g = refused_by SPACE (rw (sym right, le-leb (length p.positions) max_path few, lt-leb max_path (length buf₀) g) at next_judged)

      module _ (g : max_path ≤ length buf₀) {e : Option ℕ} (is : empty_is r.empty_output ≡ e) where
        next_walks : next_by s p (view_is r) (length buf₀) ≡ pending_by f p (view_is r) e
        next_walks =
            (rw (sym right, le-leb (length p.positions) max_path few, le-leb max_path (length buf₀) g) at next_judged) ∙ ap (pending_by f p (view_is r)) is

        pub next_walk : (buf : List ℕ) (x : Step Reading) → Stepped (pending_by f p (view_is r) e) buf₀ buf x
            → Stepped (next_by s p (view_is r) (length buf₀)) buf₀ buf x
        next_walk buf x w = rw next_walks w
