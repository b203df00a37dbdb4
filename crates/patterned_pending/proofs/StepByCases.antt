-- The cases of a step by pattern, each by what leads to it: the answer, the reading and the buffer.
--     walks_is            what a walk ensures of its answer, of what that answer is
--     ended_is, found_is  what a walk comes to, by what it found
--     after-..            what the walk leads to
--     inputs-..           the key, out of the inputs after the first
--     pending-..          the pending empty key
--     fits-..             whether the empty key fits
-- Assumes nothing.
use mathlib.Core.Path.{◌≡◌, refl, ap, subst}
use Rattle.std.specs.Prelude.{Result, Ok, Some, None, Option as Maybe}
use Rattle.format.specs.declared.Refusal.{Refusal}
use mathlib.Core.Bool.{Bool, true, false}
use mathlib.Core.Option.{some}
use mathlib.Core.List.{List, [], ◌∷◌, ◌++◌}
use Prim.Native.Nat.{ℕ, zero, suc, ◌+◌, ◌≤◌}
use native.Mathlib.Omega.{arith}
use lib.ListN.{length, take, drop, length-drop}
use lib.Seq.{length-take-le}
use Rattle.format.specs.Paths.{Fst}
use Rattle.reading.specs.Reading.{Level, passes_test, moved}
use Rattle.stream_levels.specs.declared.Stack.{Stack}
use Rattle.stream_start.specs.declared.Reading.{Reading}
use Rattle.stream_start.specs.Views.{level_at, stack_of, view_is}
use Rattle.stream_start.specs.StackLaws.{stack_more, key_stack}
use Rattle.stream_step.specs.declared.Step.{Step}
use Rattle.stream_step.specs.Stepped.{Stepped}
use Rattle.stream_step.specs.Steps.{placed_at, ended_at, found_at}
use Rattle.pattern.specs.Pattern as P
use Rattle.pattern.specs.Pattern.{fits_test, WentBy, found, ended, after_walk, pending_by}
use Rattle.patterned_fit.specs.Positions.{positions_is}
use Rattle.stream_descend.specs.declared.Followed.{Followed}
use Rattle.patterned_walk.specs.Walks.{WalksBy}
use Rattle.patterned_pending.specs.PendingWalks.{walk_of}

-- ---- the walk

pub walks_is : {want : WentBy} {xs is ps os : List ℕ} {r r' : Result Followed Refusal} → WalksBy want xs is ps os r → r ≡ r' → WalksBy want xs is ps os r'
walks_is {want} {xs} {is} {ps} {os} h e = subst (λ (x : Result Followed Refusal). WalksBy want xs is ps os x) e h

-- no key is found, or one is
pub ended_is : (g : Followed) → g.found ≡ None → ◌≡◌ {A = Result Followed Refusal} (Ok g) (Ok (record { found = None; total = g.total }))
ended_is g e = ap (λ (o : Maybe (ℕ × ℕ)). Ok (record { found = o; total = g.total })) e

pub found_is : (g : Followed) → (q : ℕ × ℕ) → g.found ≡ Some q → ◌≡◌ {A = Result Followed Refusal} (Ok g) (Ok (record { found = Some q; total = g.total }))
found_is g q e = ap (λ (o : Maybe (ℕ × ℕ)). Ok (record { found = o; total = g.total })) e

module _ (r : Reading) (w : WentBy) where
  pub after_ended : (buf : List ℕ) (t : ℕ) → w ≡ ended t → (x : Step Reading) → Stepped (ended_at (view_is r) t) buf buf x → Stepped (after_walk (view_is r) w) buf buf x
  after_ended buf t e x h = rw e h

  pub after_found : (k v t : ℕ) (q : Stack) (buf₀ buf : List ℕ) → w ≡ found (level_at k q.addrs q.inps q.trans q.outs ∷ stack_of k q) v t → k + 1 ≤ length q.inps
      → buf ≡ take k (drop 1 q.inps) ++ drop k buf₀ → Stepped (after_walk (view_is r) w) buf₀ buf (found_at r q k v t)
  after_found k v t q buf₀ buf e low copy =
      let key = key_stack k q.addrs q.inps q.trans q.outs low in
      let len : length (take k (drop 1 q.inps)) ≡ k = length-take-le k (drop 1 q.inps) (simp length-drop (omega arith)) in
      rw e (record {
        answer = rw (key, len);
        reading = ap (λ (x : List Level). moved (view_is r) x t) (stack_more k q.addrs q.inps q.trans q.outs);
        buffer = rw (key, len) copy;
      })

-- ---- the key goes to the buffer, out of the inputs after the first

pub inputs_copied : (is copied : List ℕ) (n k : ℕ) (buf : List ℕ) → n ≡ k → copied ≡ take n (drop 1 is) → copied ++ drop k buf ≡ take k (drop 1 is) ++ drop k buf
inputs_copied is copied n k buf same e = rw (e, same)

-- ---- the pending empty key

module _ (f : Fst) (p : P.Pattern) (r : Reading) (v : ℕ) where
  pub pending_passed : (buf : List ℕ) → passes_test (view_is r).bound [] ≡ true → (x : Step Reading) → Stepped (ended_at (view_is r) r.total) buf buf x
      → Stepped (pending_by f p (view_is r) (some v)) buf buf x
  pending_passed buf e x h = rw e h

  module _ (e : passes_test (view_is r).bound [] ≡ false) where
    pub pending_key : (buf : List ℕ) → fits_test p.positions p.rest [] ≡ true → (q : Reading) → q ≡ placed_at r r.levels r.total
        → Stepped (pending_by f p (view_is r) (some v)) buf buf (record { answer = Ok (Some (0, v)); reading = q })
    pending_key buf t q is = rw (e, t) (record { answer = refl; reading = ap view_is is; buffer = refl })

    pub pending_walk : (buf₀ buf : List ℕ) → fits_test p.positions p.rest [] ≡ false → (x : Step Reading) → Stepped (walk_of f p (view_is r)) buf₀ buf x
        → Stepped (pending_by f p (view_is r) (some v)) buf₀ buf x
    pending_walk buf₀ buf t x h = rw (e, t) h

pub fits_empty : (n : ℕ) (rest : Bool) (xs : List ℕ) → n ≡ 0 → fits_test (positions_is n xs) rest [] ≡ true
unfolding positions_is fits_test
fits_empty n rest xs e = rw e

pub fits_not : (n : ℕ) (rest : Bool) (xs : List ℕ) → ¬ (n ≡ 0) → fits_test (positions_is n xs) rest [] ≡ false
unfolding positions_is fits_test
fits_not zero rest xs h = absurd (h refl)
fits_not (suc n) rest [] h = refl
fits_not (suc n) rest (x ∷ xs) h = refl
