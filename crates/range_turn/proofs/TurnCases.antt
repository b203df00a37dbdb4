-- A turn by what the pops and the descent find, each with the answer of next.
-- Assumes nothing.
use mathlib.Core.Path.{◌≡◌, refl, sym, ap, ◌∙◌}
use Rattle.std.specs.Prelude.{Ok, Err, Some, None, Result, Option}
use Rattle.format.specs.declared.Refusal.{Refusal}
use mathlib.Core.Bool.{false}
use mathlib.Core.List.{List, ◌∷◌}
use Prim.Native.Nat.{ℕ, ◌+◌, ◌-◌, ◌<◌}
use native.Mathlib.Omega.{arith}
use lib.ListN.{drop}
use Rattle.format.specs.Limits.{max_path, max_levels, NODE}
use Rattle.format.specs.Node.{Judgement}
use Rattle.format.specs.Paths.{Fst}
use Rattle.format.specs.Strings as S
use Rattle.reading.specs.Reading as R
use Rattle.reading.specs.Reading.{Level, View, Step, key, Popped, top, used_up, pop, on_node, found, passed, descend, after_descend, after_pop}
use Rattle.stream_start.specs.Views.{Arrays, level_at, stack_is}
use Rattle.stream_start.specs.StackLaws.{stack_more, stack_length, key_stack}
use Rattle.range_bound.specs.Besides.{Beside}
use Rattle.range_node.specs.Entries.{SoundTo}
use Rattle.range_down.specs.declared.Next.{Next}
use Rattle.range_down.specs.Downs.{down_from, went_seen, DescendsOn}
use Rattle.range_turn.specs.Turns.{view_at, step_of, TopAt, Turned, goes_on, ends, stops}

module _ (f : Fst) (len : ℕ) (hi : S.Bound) (b : List ℕ) (n t levels : ℕ) (ys js qs us xs is ps os : List ℕ) where
  abbrev stack : List Level
  stack = stack_is levels ys js qs us

  abbrev view : View
  view = view_at len hi n t stack

  step_by : (p : Popped) → pop f stack ≡ p → step_of f len hi n t stack ≡ after_pop f view p
  step_by p e = ap (after_pop f view) e

  pub turn_empty : pop f stack ≡ used_up → Turned f len hi b n t stack xs is ps os (Ok None)
  turn_empty e = ends (ap (λ (o : Step). o.answer) (step_by used_up e))

  module _ {k₀ : ℕ} (at : TopAt f ys qs levels k₀) (w : R.Went) (went : w ≡ down_from f hi ys js qs us k₀ t) where
    down_is : down_from f hi ys js qs us k₀ t ≡ descend (max_path - k₀) f hi (level_at k₀ ys js qs us) at.node (stack_is k₀ ys js qs us) t
    down_is =
        ap (λ (j : Judgement). on_node j (λ m. descend (max_path - k₀) f hi (level_at k₀ ys js qs us) m (stack_is k₀ ys js qs us) t) (R.Went.halted NODE)) at.is

    step_down : step_of f len hi n t stack ≡ after_descend view w
    step_down =
        step_by (top (level_at k₀ ys js qs us) at.node (stack_is k₀ ys js qs us)) (at.pops js us)
        ∙ ap (λ (j : ℕ). after_descend view (descend (max_path - j) f hi (level_at k₀ ys js qs us) at.node (stack_is k₀ ys js qs us) t))
        (stack_length k₀ ys js qs us)
        ∙ ap (after_descend view) (sym (went ∙ down_is))

    pub turn_halted : (c : Refusal) → w ≡ R.Went.halted c → Turned f len hi b n t stack xs is ps os (Err c)
    turn_halted c e = stops c (ap (λ (o : Step). o.answer) (step_down ∙ ap (after_descend view) e))

    pub turn_passed : (t' : ℕ) → w ≡ passed t' → Turned f len hi b n t stack xs is ps os (Ok None)
    turn_passed t' e = ends (ap (λ (o : Step). o.answer) (step_down ∙ ap (after_descend view) e))

    pub turn_found : (q : Next) (t' : ℕ) → q.level < max_levels → Arrays xs is ps os → SoundTo f xs (q.level + 1) → Beside hi b (drop 1 is) q.level q.same false
        → w ≡ found (level_at q.level xs is ps os ∷ stack_is q.level xs is ps os) q.value t' → Turned f len hi b n t stack xs is ps os (Ok (Some q))
    turn_found q t' low arrays sounds beside e =
        let o = step_down ∙ ap (after_descend view) e in
        goes_on q t' low arrays sounds beside
        (ap (λ (x : Step). x.answer) o ∙ ap (λ (x : List ℕ). key x q.value) (key_stack q.level xs is ps os (omega (arith, arrays.inps_len))))
        (ap (λ (x : Step). x.reading) o ∙ ap (λ (z : List Level). view_at len hi n t' z) (sym (stack_more q.level xs is ps os)))

  -- what the descent answers is the turn
  pub turn_went : {k₀ : ℕ} → TopAt f ys qs levels k₀ → (r : Result (Option Next) Refusal) → DescendsOn f hi b (down_from f hi ys js qs us k₀) xs is ps os r
      → Turned f len hi b n t stack xs is ps os r
  turn_went at (Err c) d = let seen = d.from t in turn_halted at (went_seen xs is ps os seen.total (Err c)) seen.seen c refl
  turn_went at (Ok None) d = let seen = d.from t in turn_passed at (went_seen xs is ps os seen.total (Ok None)) seen.seen seen.total refl
  turn_went at (Ok (Some q)) d =
      let seen = d.from t in
      turn_found at (went_seen xs is ps os seen.total (Ok (Some q))) seen.seen q seen.total d.low d.arrays d.sound (d.beside q refl) refl
