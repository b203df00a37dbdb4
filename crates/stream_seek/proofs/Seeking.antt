-- A start's walk along the lower bound as a loop: what it knows before each turn, the turn, and each way out. What is left of the bound
-- decides the answer.
--     Seeking f c lo .. k a i sum    k bytes of lo have led to the node at a, by the byte i, with this sum
--     place_fits, target_fits, gone_fits     the numbers of a level fit its arrays
-- Assumes nothing.
use mathlib.Core.Path.{◌≡◌, refl, sym, ◌∙◌, ap}
use Rattle.format.specs.declared.Refusal.{Refusal}
use mathlib.Core.Bool.{Bool}
use mathlib.Core.List.{List, [], ◌∷◌}
use Prim.Native.Nat.{ℕ, ◌+◌, ◌-◌, ◌<◌, ◌≤◌}
use native.Mathlib.Omega.{arith}
use lib.ListN.{length, get_or, drop}
use Rattle.format.specs.Limits.{max_sum, NODE}
use Rattle.format.specs.Node.{Node, sound, unsound, Search, find_input, transition_at}
use Rattle.format.specs.Paths.{Fst, node_in}
use Rattle.format.specs.Laws.NodeFacts.{find_member, node_count}
use Rattle.format.specs.Laws.LiveLaws.{target_below_root}
use Rattle.format.specs.Laws.TransitionLaws.{at_member, find_input_le}
use Rattle.format.specs.Lookup.{past_sum}
use Rattle.reading.specs.Reading.{level_with, got, halted, last_levels, seek}
use Rattle.stream_levels.specs.Stacks.{Arrays, stack_is, LevelPut, LevelsEnd}
use Rattle.std.specs.Prelude.{Ok, Err}
use Rattle.node.specs.declared.Unsound.{Unsound}
use Rattle.stream_seek.specs.declared.Hit.{Hit}
use Rattle.stream_seek.specs.Seeks.{enter_of}
use Rattle.stream_seek.proofs.SeekCases.{seek_unsound, seek_past, bound_done, bound_bad, bound_miss, bound_on}

-- ---- the place and the target that a byte leads to

module _ (f : Fst) (a : ℕ) (m : Node) (e : node_in f a ≡ sound m) (b p : ℕ) (found : find_input m.transitions b ≡ Search.at p) where
  pub place_fits : ((j : ℕ) → get_or f.bytes j 0 < 256) → p < 256
  place_fits bytes = omega (arith, (find_member f a m e b p found).0, node_count f a m e bytes)

  pub target_fits : (transition_at m.transitions p).addr < f.root
  target_fits = target_below_root f a m (transition_at m.transitions p) e (at_member m.transitions p (find_member f a m e b p found).0)

-- the place of the first greater input, where the byte is absent
pub gone_fits : (f : Fst) (a : ℕ) (m : Node) → node_in f a ≡ sound m → (b p : ℕ) → find_input m.transitions b ≡ Search.absent p
    → ((j : ℕ) → get_or f.bytes j 0 < 256) → p ≤ 256
gone_fits f a m e b p gone bytes = omega (arith, find_input_le m.transitions b p gone, node_count f a m e bytes)

-- ---- the loop

pub record Seeking (f : Fst) (c : Bool) (lo xs is ps os : List ℕ) (k a i sum : ℕ) : Type 0 where
  pub within : k ≤ length lo
  pub fits : sum ≤ max_sum
  pub arrays : Arrays xs is ps os
  -- the highest level has followed a transition
  pub followed : 0 < k → 0 < get_or ps (k - 1) 0
  pub same : seek f c f.root 0 0 [] lo ≡ seek f c a i sum (stack_is k xs is ps os) (drop k lo)

pub seeking_none : (f : Fst) (c : Bool) (lo xs is ps os : List ℕ) → Arrays xs is ps os → Seeking f c lo xs is ps os 0 f.root 0 0
unfolding stack_is
seeking_none f c lo xs is ps os h = record { within = omega arith; fits = omega arith; arrays = h; followed = λ l. absurd (omega arith); same = refl }

module _ {f : Fst} {c : Bool} {lo xs is ps os : List ℕ} {k a i sum : ℕ} (h : Seeking f c lo xs is ps os k a i sum) where
  pub seeking_unsound : node_in f a ≡ unsound → halted NODE ≡ seek f c f.root 0 0 [] lo
  seeking_unsound e = sym (h.same ∙ seek_unsound f c a i sum (stack_is k xs is ps os) (drop k lo) e)

  pub seeking_done : length lo ≤ k → (m : Node) → node_in f a ≡ sound m → {n : ℕ} {xs' is' ps' os' : List ℕ}
      → LevelsEnd n (last_levels c (level_with a i 0 sum) (stack_is (length lo) xs is ps os)) xs' is' ps' os' → got (stack_is n xs' is' ps' os') ≡ seek f c f.root 0 0 [] lo
  seeking_done l m e put =
      let all : length lo ≡ k = omega (arith, h.within) in
      ap got put.levels
      ∙ ap (λ j. got (last_levels c (level_with a i 0 sum) (stack_is j xs is ps os))) all
      ∙ sym (h.same ∙ bound_done f c a i sum (stack_is k xs is ps os) h.fits lo k l m e)

  module _ (more : k < length lo) where
    pub seeking_bad : {u : Unsound} → enter_of f a (get_or lo k 0) ≡ Err u → halted NODE ≡ seek f c f.root 0 0 [] lo
    seeking_bad e = sym (h.same ∙ bound_bad f c a i sum (stack_is k xs is ps os) h.fits lo k more e)

    pub seeking_miss : (p : ℕ) → enter_of f a (get_or lo k 0) ≡ Ok (Err p) → {xs' is' ps' os' : List ℕ}
        → LevelPut k (level_with a i p sum) (stack_is k xs is ps os) xs' is' ps' os' → got (stack_is (k + 1) xs' is' ps' os') ≡ seek f c f.root 0 0 [] lo
    seeking_miss p e put = ap got put.levels ∙ sym (h.same ∙ bound_miss f c a i sum (stack_is k xs is ps os) h.fits lo k more p e)

    pub seeking_on : (hit : Hit) → enter_of f a (get_or lo k 0) ≡ Ok (Ok hit)
        → seek f c f.root 0 0 [] lo
        ≡ seek f c hit.target (get_or lo k 0) (sum + hit.output) (level_with a i (hit.place + 1) sum ∷ stack_is k xs is ps os) (drop (k + 1) lo)
    seeking_on hit e = h.same ∙ bound_on f c a i sum (stack_is k xs is ps os) h.fits lo k more hit e

    -- the sum up to the target does not fit
    pub seeking_past : (hit : Hit) → enter_of f a (get_or lo k 0) ≡ Ok (Ok hit) → max_sum < sum + hit.output → (n : Refusal) → n ≡ past_sum (node_in f hit.target)
        → halted n ≡ seek f c f.root 0 0 [] lo
    seeking_past hit e past n is_lem =
        ap halted is_lem
        ∙ sym (seek_past f c hit.target (get_or lo k 0) (sum + hit.output) (level_with a i (hit.place + 1) sum ∷ stack_is k xs is ps os) (drop (k + 1) lo) past)
        ∙ sym (seeking_on hit e)

    pub seeking_step : (hit : Hit) → enter_of f a (get_or lo k 0) ≡ Ok (Ok hit) → sum + hit.output ≤ max_sum → {xs' is' ps' os' : List ℕ}
        → LevelPut k (level_with a i (hit.place + 1) sum) (stack_is k xs is ps os) xs' is' ps' os'
        → Seeking f c lo xs' is' ps' os' (k + 1) hit.target (get_or lo k 0) (sum + hit.output)
    seeking_step hit e l {xs'} {is'} {ps'} {os'} put =
        let last : k + 1 - 1 ≡ k = omega arith in
        record {
          within = omega arith;
          fits = l;
          arrays = put.arrays;
          followed = λ q. rw (last, put.place) (omega arith);
          same = seeking_on hit e ∙ sym (rw put.levels);
        }
