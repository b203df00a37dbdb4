-- The cases of `next`, each by what leads to it: the answer, the reading and the buffer.
--     pending-..          the pending empty key
--     walk-..             what the walk comes to
--     left_by, left_is    the reading that is left after it
--     next-..             the refusals before the walk, and the walk
-- Assumes nothing.
use mathlib.Core.Path.{◌≡◌, refl, sym, ◌∙◌, ap, subst}
use mathlib.Core.Bool.{true, false, cond}
use mathlib.Core.Option.{Option, some}
use Rattle.std.specs.Prelude.{None, Ok, Err, Some, Result, ◌+◌}
use Rattle.format.specs.declared.Refusal.{Refusal}
use mathlib.Core.List.{List, []}
use Prim.Native.Nat.{ℕ, ◌<◌, ◌≤◌}
use borrow.Author.Tests.{lt-leb, le-leb}
use lib.Dec.{leb}
use lib.ListN.{length}
use Rattle.format.specs.Limits.{max_path, SPACE}
use Rattle.format.specs.Paths.{Fst}
use Rattle.reading.specs.Reading as R
use Rattle.reading.specs.Reading.{View, passes_test, refuse}
use Rattle.stream_start.specs.declared.Reading.{Reading}
use Rattle.stream_start.specs.Views.{stack_is, stack_of, view_is, empty_is}
use Rattle.stream_levels.specs.declared.Stack.{Stack}
use Rattle.stream_step.specs.declared.Step.{Step}
use Rattle.stream_step.specs.Judged.{judging}
use Rattle.stream_step.specs.JudgedLaws.{on_judged, judged_way}
use Rattle.stream_step.specs.Stepped.{Stepped}
use Rattle.stream_descend.specs.declared.Followed.{Followed}
use Rattle.stream_next.specs.Going.{GoneBy}

-- ---- the pending empty key

module _ (f : Fst) (r : Reading) (v : ℕ) (buf : List ℕ) where
  pub pending_passed : passes_test (view_is r).bound [] ≡ true → (q : Reading) → view_is q ≡ R.moved (view_is r) [] r.total
      → Stepped (R.walk f (view_is r) (some v)) buf buf (record { answer = Ok None; reading = q })
  pending_passed p q e = rw p (record { answer = refl; reading = e; buffer = refl })

  pub pending_key : passes_test (view_is r).bound [] ≡ false → (q : Reading) → view_is q ≡ R.moved (view_is r) (view_is r).levels r.total
      → Stepped (R.walk f (view_is r) (some v)) buf buf (record { answer = Ok (Some (0, v)); reading = q })
  pending_key p q e = rw p (record { answer = refl; reading = e; buffer = refl })

-- ---- what the walk comes to, as the reading that is handed back

module _ {w : R.Step} {v : View} {xs is ps os buf₀ buf : List ℕ} {g : Result Followed Refusal} (h : GoneBy w v buf₀ buf xs is ps os g) where
  as_gone : {d : Result Followed Refusal} → g ≡ d → GoneBy w v buf₀ buf xs is ps os d
  as_gone e = subst (GoneBy w v buf₀ buf xs is ps os) e h

  pub gone_low : (k u t : ℕ) → g ≡ Ok (record { found = Some (k, u); total = t }) → k < 256
  gone_low k u t e = (as_gone e).low

  pub walk_refused : (n : Refusal) → g ≡ Err n → (r : Reading) → view_is r ≡ v → Stepped w buf₀ buf (record { answer = Err n; reading = r })
  walk_refused n e r same = let q = as_gone e in record { answer = q.answer; reading = same ∙ q.reading; buffer = q.buffer }

  pub walk_ended : (t : ℕ) → g ≡ Ok (record { found = None; total = t }) → (r : Reading) → view_is r ≡ R.moved v [] t
      → Stepped w buf₀ buf (record { answer = Ok None; reading = r })
  walk_ended t e r same = let q = as_gone e in record { answer = q.answer; reading = same ∙ q.reading; buffer = q.buffer }

  pub walk_key : (k u t : ℕ) → g ≡ Ok (record { found = Some (k, u); total = t }) → (r : Reading) → view_is r ≡ R.moved v (stack_is (k + 1) xs is ps os) t
      → Stepped w buf₀ buf (record { answer = Ok (Some (k, u)); reading = r })
  walk_key k u t e r same = let q = as_gone e in record { answer = q.answer; reading = same ∙ q.reading; buffer = q.buffer }

-- the reading with k levels of this stack and the total t, which has nothing pending
abbrev pub left_by : Reading → Stack → ℕ → ℕ → Reading
left_by r q k t = record {
  len = r.len;
  kind = r.kind;
  bound_len = r.bound_len;
  bound = r.bound;
  empty_output = r.empty_output;
  total = t;
  levels = k;
  stack = q;
}

pub left_is : (r : Reading) (q : Stack) (k t : ℕ) → r.empty_output ≡ None → view_is (left_by r q k t) ≡ R.moved (view_is r) (stack_of k q) t
left_is r q k t e = rw e refl

-- no level is left, or those up to the level where a key ends
pub left_none : (r : Reading) (q : Stack) (t : ℕ) → r.empty_output ≡ None → view_is (left_by r q 0 t) ≡ R.moved (view_is r) [] t
unfolding stack_is
left_none r q t e = left_is r q 0 t e

-- ---- what comes before the walk

module _ (s : List ℕ) (r : Reading) (buf₀ : List ℕ) where
  next_judged : R.next s (view_is r) (length buf₀)
      ≡ on_judged (judging s (view_is r)) (λ f. cond (leb max_path (length buf₀)) (R.walk f (view_is r) (view_is r).empty) (refuse (view_is r) SPACE)) (λ n. refuse (view_is r) n)
  unfolding R.next
  next_judged = judged_way s (view_is r) (λ f. cond (leb max_path (length buf₀)) (R.walk f (view_is r) (view_is r).empty) (refuse (view_is r) SPACE)) (λ n. refuse (view_is r) n)

  refused_by : (n : Refusal) → R.next s (view_is r) (length buf₀) ≡ refuse (view_is r) n
      → Stepped (R.next s (view_is r) (length buf₀)) buf₀ buf₀ (record { answer = Err n; reading = r })
  refused_by n e = rw e (record { answer = refl; reading = refl; buffer = refl })

  pub next_refused : (n : Refusal) → Err n ≡ judging s (view_is r)
      → Stepped (R.next s (view_is r) (length buf₀)) buf₀ buf₀ (record { answer = Err n; reading = r })
  next_refused n e = refused_by n (rw (sym e) at next_judged)

  module _ (f : Fst) (right : Ok f ≡ judging s (view_is r)) where
    pub next_space : length buf₀ < max_path → Stepped (R.next s (view_is r) (length buf₀)) buf₀ buf₀ (record { answer = Err SPACE; reading = r })
    next_space g = refused_by SPACE (rw (sym right, lt-leb max_path (length buf₀) g) at next_judged)

    module _ (g : max_path ≤ length buf₀) {e : Option ℕ} (is : empty_is r.empty_output ≡ e) where
      next_walks : R.next s (view_is r) (length buf₀) ≡ R.walk f (view_is r) e
      next_walks = (rw (sym right, le-leb max_path (length buf₀) g) at next_judged) ∙ ap (R.walk f (view_is r)) is

      pub next_walk : (buf : List ℕ) (x : Step Reading) → Stepped (R.walk f (view_is r) e) buf₀ buf x → Stepped (R.next s (view_is r) (length buf₀)) buf₀ buf x
      next_walk buf x w = rw next_walks w
