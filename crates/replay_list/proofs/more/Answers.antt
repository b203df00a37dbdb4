-- `replay_list::more` meets its contract: a sum that saturates is one more, or the largest count.
-- Assumes nothing.
use Rattle.std.specs.Prelude.{◌≡◌, refl, Bool, true, false, cond, List, ℕ, ◌+◌, ◌≤◌, min, ltb, get_or, set}
use Rattle.std.proofs.Common.{arith, ltb-true, ltb-false}
use Rattle.std.proofs.lemmas.List.{set-get_or}
use Rattle.replay_list.specs.Tallies.{more_at}
use Rattle.replay_list.proofs.more.Goals as goal

saturated : (c : List ℕ) (k n : ℕ) → get_or c k 0 ≤ 18446744073709551615 → n ≡ min (get_or c k 0 + 1) 18446744073709551615 → set c k n ≡ more_at c k
unfolding more_at
saturated c k n most is = go (ltb (get_or c k 0) 18446744073709551615) refl
  where
    go : (t : Bool) → ltb (get_or c k 0) 18446744073709551615 ≡ t → set c k n ≡ cond t (set c k (get_or c k 0 + 1)) c
    go true h = let e : n ≡ get_or c k 0 + 1 = omega (arith, ltb-true _ _ h) in rw e refl
    go false h = let e : n ≡ get_or c k 0 = omega (arith, ltb-false _ _ h) in rw (e, set-get_or c k 0) refl

pub returns : goal.returns
returns c = saturated _ _ _ (omega (arith, c.fits-counts c.args.k)) c.saturating_add.ensures
