-- The walk of a next over levels in arrays, by what leads to each answer.
--     pops_is                            what the pops answer
--     gone_empty, gone_bad               what the pops lead to
--     gone_halted, gone_passed, gone_found     what the descent leads to
--     ended_is, found_is                 what a walk comes to, by what it found
--     inputs_hold, inputs_copied         the key, out of the inputs after the first
-- Assumes nothing.
use mathlib.Core.Path.{◌≡◌, refl, sym, ◌∙◌, ap, subst}
use Rattle.std.specs.Prelude.{Ok, Err, Some, None, Result, Option as Maybe}
use Rattle.format.specs.declared.Refusal.{Refusal}
use mathlib.Core.Option.{Option, none}
use mathlib.Core.List.{List, ◌∷◌, ◌++◌}
use Prim.Native.Nat.{ℕ, ◌<◌, ◌≤◌}
use native.Mathlib.Omega.{arith}
use lib.ListN.{length, take, drop, length-drop}
use lib.Seq.{length-take-le, take-take}
use Rattle.format.specs.Limits.{max_levels, NODE}
use Rattle.format.specs.Paths.{Fst, fst_with}
use Rattle.format.specs.Strings as S
use Rattle.node.specs.declared.Node.{Node}
use Rattle.node.specs.declared.Unsound.{Unsound}
use Rattle.node.specs.Read.{meaning}
use Rattle.reading.specs.Reading as R
use Rattle.reading.specs.Reading.{View, Level, Went, found, passed, top, used_up, bad, pop, moved, after_descend}
use Rattle.stream_start.specs.Views.{level_at, stack_is}
use Rattle.stream_start.specs.StackLaws.{stack_length, stack_more, key_stack}
use Rattle.stream_pop.specs.Pops.{pop_seen, Pops}
use Rattle.stream_descend.specs.declared.Followed.{Followed}
use Rattle.stream_descend.specs.Descent.{down_seen, down_at, down_from, Descends}
use Rattle.stream_next.specs.Going.{view_with, GoneBy}

-- ---- the pops

pub pops_is : {s : List ℕ} {v root : ℕ} {xs ps : List ℕ} {levels : ℕ} {p p' : Result (Maybe (ℕ × Node)) Unsound} → Pops s v root xs ps levels p → p ≡ p' → (is os : List ℕ)
    → pop (fst_with s v root) (stack_is levels xs is ps os) ≡ pop_seen s xs is ps os p'
pops_is {s} {xs = xs} {ps = ps} h e is os = sym (h.seen is os) ∙ ap (pop_seen s xs is ps os) e

-- ---- the descent

pub descends_is : {want : Went} {xs is ps os : List ℕ} {d d' : Result Followed Refusal} → Descends want xs is ps os d → d ≡ d' → want ≡ down_seen xs is ps os d'
descends_is {want} {xs} {is} {ps} {os} h e = sym h.seen ∙ ap (down_seen xs is ps os) e

pub descends_low : {want : Went} {xs is ps os : List ℕ} {d : Result Followed Refusal} {k v t : ℕ} → Descends want xs is ps os d → d ≡ Ok (record { found = Some (k, v); total = t }) → k < max_levels
descends_low h e = rw (ap down_at e) at h.low

-- no key is found, or one is
pub ended_is : (g : Followed) → g.found ≡ None → ◌≡◌ {A = Result Followed Refusal} (Ok g) (Ok (record { found = None; total = g.total }))
ended_is g e = ap (λ (o : Maybe (ℕ × ℕ)). Ok (record { found = o; total = g.total })) e

pub found_is : (g : Followed) → (q : ℕ × ℕ) → g.found ≡ Some q → ◌≡◌ {A = Result Followed Refusal} (Ok g) (Ok (record { found = Some q; total = g.total }))
found_is g q e = ap (λ (o : Maybe (ℕ × ℕ)). Ok (record { found = o; total = g.total })) e

-- ---- the answers, from a reading whose levels are in the arrays

module _ (s : List ℕ) (version root len : ℕ) (hi : S.Bound) (n : ℕ) (e : Option ℕ) (t levels : ℕ) (xs is ps os : List ℕ) where
  abbrev f : Fst
  f = fst_with s version root

  abbrev v : View
  v = view_with len hi n e t (stack_is levels xs is ps os)

  abbrev GoneAs : List ℕ → List ℕ → List ℕ → List ℕ → List ℕ → List ℕ → Result Followed Refusal → Type 0
  GoneAs buf₀ buf xs' is' ps' os' g = GoneBy (R.walk f v none) v buf₀ buf xs' is' ps' os' g

  pub gone_empty : pop f (stack_is levels xs is ps os) ≡ used_up → (buf xs' is' ps' os' : List ℕ) → GoneAs buf buf xs' is' ps' os' (Ok (record { found = None; total = t }))
  gone_empty p buf xs' is' ps' os' = rw p (record { answer = refl; reading = refl; buffer = refl; low = omega arith })

  pub gone_bad : pop f (stack_is levels xs is ps os) ≡ bad → (buf xs' is' ps' os' : List ℕ) → GoneAs buf buf xs' is' ps' os' (Err NODE)
  gone_bad p buf xs' is' ps' os' = rw p (record { answer = refl; reading = refl; buffer = refl; low = omega arith })

  module _ (k : ℕ) (m : Node) (p : pop f (stack_is levels xs is ps os) ≡ top (level_at k xs is ps os) (meaning s m) (stack_is k xs is ps os)) where
    at_walk : R.walk f v none ≡ after_descend v (down_from s version root hi xs is ps os k m t)
    at_walk = rw (p, stack_length k xs is ps os)

    module _ {w : Went} (is_w : down_from s version root hi xs is ps os k m t ≡ w) where
      as_went : {buf₀ buf xs' is' ps' os' : List ℕ} {g : Result Followed Refusal} → GoneBy (after_descend v w) v buf₀ buf xs' is' ps' os' g → GoneAs buf₀ buf xs' is' ps' os' g
      as_went {buf₀} {buf} {xs'} {is'} {ps'} {os'} {g} h =
          subst (λ (q : R.Step). GoneBy q v buf₀ buf xs' is' ps' os' g) (sym (at_walk ∙ ap (after_descend v) is_w)) h

      pub gone_halted : (c : Refusal) → w ≡ Went.halted c → (buf xs' is' ps' os' : List ℕ) → GoneAs buf buf xs' is' ps' os' (Err c)
      gone_halted c q buf xs' is' ps' os' = as_went (rw q (record { answer = refl; reading = refl; buffer = refl; low = omega arith }))

      pub gone_passed : (u : ℕ) → w ≡ passed u → (buf xs' is' ps' os' : List ℕ) → GoneAs buf buf xs' is' ps' os' (Ok (record { found = None; total = u }))
      gone_passed u q buf xs' is' ps' os' = as_went (rw q (record { answer = refl; reading = refl; buffer = refl; low = omega arith }))

      pub gone_found : (j x u : ℕ) (xs' is' ps' os' buf₀ buf : List ℕ) → w ≡ found (level_at j xs' is' ps' os' ∷ stack_is j xs' is' ps' os') x u → j < max_levels
          → length is' ≡ max_levels → buf ≡ take j (drop 1 is') ++ drop j buf₀ → GoneAs buf₀ buf xs' is' ps' os' (Ok (record { found = Some (j, x); total = u }))
      gone_found j x u xs' is' ps' os' buf₀ buf q low held copy =
          let key = key_stack j xs' is' ps' os' (omega arith) in
          let size : length (take j (drop 1 is')) ≡ j = length-take-le j (drop 1 is') (simp length-drop (omega arith)) in
          as_went (rw q (record {
            answer = rw (key, size);
            reading = ap (λ (ls : List Level). moved v ls u) (stack_more j xs' is' ps' os');
            buffer = rw (key, size) copy;
            low = low;
          }))

-- ---- the key goes to the buffer, out of the inputs after the first

module _ {want : Went} {xs is ps os : List ℕ} {r : Result Followed Refusal} (h : Descends want xs is ps os r) (k : ℕ) (low : k < max_levels) where
  pub inputs_hold : k ≤ length (take 255 (drop 1 is))
  inputs_hold = rw (length-take-le 255 (drop 1 is) (simp length-drop (omega (arith, h.len)))) (omega arith)

  pub inputs_copied : (buf₀ buf : List ℕ) → buf ≡ take k (take 255 (drop 1 is)) ++ drop k buf₀ → buf ≡ take k (drop 1 is) ++ drop k buf₀
  inputs_copied buf₀ buf copy = copy ∙ ap (λ (l : List ℕ). l ++ drop k buf₀) (take-take k 255 (drop 1 is) (omega arith))
