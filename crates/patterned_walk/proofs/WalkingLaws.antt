-- The walk by pattern over the arrays: a turn, and each way out of it.
--     WalkingBy ..            the walk from the first n levels is the one that is wanted
--     walking-..              the contract at each way out, and the next turn
-- Assumes nothing.
use mathlib.Core.Path.{◌≡◌, refl, sym, ◌∙◌, ap}
use Rattle.std.specs.Prelude.{Ok, Err, Some, None, Result, Option}
use Rattle.format.specs.declared.Refusal.{Refusal}
use mathlib.Core.Bool.{Bool, true}
use mathlib.Core.List.{List, ◌∷◌}
use Prim.Native.Nat.{ℕ, ◌-◌, ◌<◌, ◌≤◌}
use native.Mathlib.Omega.{arith}
use lib.ListN.{length, take, drop, length-drop}
use lib.Seq.{length-take-le}
use Rattle.format.specs.Limits.{NODE}
use Rattle.format.specs.Paths.{Fst, fst_with}
use Rattle.format.specs.Strings.{Bound}
use Rattle.node.specs.declared.Node.{Node}
use Rattle.node.specs.declared.Unsound.{Unsound}
use Rattle.reading.specs.Reading.{Level}
use Rattle.reading.specs.Visits.{left}
use Rattle.stream_start.specs.Views.{Arrays, level_at, stack_is}
use Rattle.stream_start.specs.StackLaws.{stack_none}
use Rattle.pattern.specs.Pattern.{Pattern, start_test, WentBy, walk_by}
use Rattle.pattern.specs.FitCount.{fit_count, Tells}
use Rattle.pattern.proofs.CountLaws.{tells_count, tells_all}
use Rattle.pattern.proofs.TurnLaws.{turn_end}
use Rattle.stream_descend.specs.declared.Followed.{Followed}
use Rattle.patterned_descend.specs.declared.Down.{Down}
use Rattle.patterned_descend.specs.Descents.{down_seen, down_at, DescendsBy}
use Rattle.patterned_walk.specs.Walks.{Told, pop_seen, PopsBy, WalksBy}
use Rattle.patterned_walk.proofs.PopByLaws.{told_key}

pub record WalkingBy (s : List ℕ) (v root : ℕ) (p : Pattern) (hi : Bound) (want : WentBy) (xs is ps os : List ℕ) (n t fit : ℕ) : Type 0 where
  pub within : n ≤ 256
  pub arrays : Arrays xs is ps os
  pub tells : Tells p (take (n - 1) (drop 1 is)) fit
  pub same : walk_by (fst_with s v root) p hi (stack_is n xs is ps os) t ≡ want

pub walking_none : (s : List ℕ) (v root : ℕ) (p : Pattern) (hi : Bound) (xs is ps os : List ℕ) (n t fit : ℕ) → n ≤ 256 → Arrays xs is ps os
    → fit ≡ fit_count p.positions (take (n - 1) (drop 1 is))
    → WalkingBy s v root p hi (walk_by (fst_with s v root) p hi (stack_is n xs is ps os) t) xs is ps os n t fit
walking_none s v root p hi xs is ps os n t fit h w e =
    record { within = h; arrays = w; tells = rw e (tells_count p (take (n - 1) (drop 1 is))); same = refl }

below_pops : {a b c : ℕ} → a < b → b ≤ c → a < c
below_pops h g = omega arith

module _ {s : List ℕ} {v root : ℕ} {p : Pattern} {hi : Bound} {want : WentBy} {xs is ps os : List ℕ} {n t fit : ℕ}
    (w : WalkingBy s v root p hi want xs is ps os n t fit) where
  abbrev f : Fst
  f = fst_with s v root

  -- no level is left
  pub walking_end : n ≤ 0 → WalksBy want xs is ps os (Ok (record { found = None; total = t }))
  walking_end h = record {
    low = omega arith;
    inps_len = w.arrays.inps_len;
    seen =
        let e : n ≡ 0 = omega arith in
        sym (turn_end f p hi t)
        ∙ ap (λ (x : List Level). walk_by f p hi x t) (sym (ap (λ (j : ℕ). stack_is j xs is ps os) e ∙ stack_none xs is ps os))
        ∙ w.same;
  }

  -- ---- the pops

  module _ {len : ℕ} {rest : Bool} (el : length p.positions ≡ len) (er : p.rest ≡ rest) {r : Result (Option (ℕ × Node)) Unsound} (pops : PopsBy s v root len rest xs ps n fit r) where
    told : Told len rest n fit is p
    told = record { inps_len = w.arrays.inps_len; count = el; any_rest_lem = er; tells = w.tells }

    pops_is : (r' : Result (Option (ℕ × Node)) Unsound) → r ≡ r' → pop_seen f p hi t xs is ps os r' ≡ want
    pops_is r' e = ap (pop_seen f p hi t xs is ps os) (sym e) ∙ pops.seen is os p told hi t ∙ w.same

    pub walking_empty : r ≡ Ok None → WalksBy want xs is ps os (Ok (record { found = None; total = t }))
    walking_empty e = record { low = omega arith; inps_len = w.arrays.inps_len; seen = pops_is (Ok None) e }

    pub walking_bad : (u : Unsound) → r ≡ Err u → WalksBy want xs is ps os (Err NODE)
    walking_bad u e = record { low = omega arith; inps_len = w.arrays.inps_len; seen = pops_is (Err u) e }

    module _ (k : ℕ) (m : Node) (e : r ≡ Ok (Some (k, m))) where
      pub top_low : k < 256
      top_low = omega (arith, pops.low k m e, w.within)

      pub top_fits : start_test p.positions p.rest (take k (drop 1 is)) ≡ true
      top_fits = told_key told k (pops.low k m e) w.within ∙ pops.fits k m e

      -- ---- the descent

      module _ {xs' is' ps' os' : List ℕ} {d : Result Down Refusal} (down : DescendsBy f p hi (level_at k xs is ps os ∷ stack_is k xs is ps os) t xs' is' ps' os' d) where
        down_is : (d' : Result Down Refusal) → d ≡ d' → down_seen f p hi xs' is' ps' os' d' ≡ want
        down_is d' q = ap (down_seen f p hi xs' is' ps' os') (sym q) ∙ down.seen ∙ pops_is (Ok (Some (k, m))) e

        pub walking_done : (r' : Followed) → d ≡ Ok (Down.Done r') → WalksBy want xs' is' ps' os' (Ok r')
        walking_done r' q = record { low = rw (ap down_at q) at down.low; inps_len = down.arrays.inps_len; seen = down_is (Ok (Down.Done r')) q }

        pub walking_halted : (why : Refusal) → d ≡ Err why → WalksBy want xs' is' ps' os' (Err why)
        walking_halted why q = record { low = omega arith; inps_len = down.arrays.inps_len; seen = down_is (Err why) q }

        module _ (j u : ℕ) (q : d ≡ Ok (Down.Stuck j u)) where
          low : j < 256
          low = rw (ap down_at q) at down.low

          pub walking_on : WalkingBy s v root p hi want xs' is' ps' os' j u j
          walking_on = record {
            within = omega (arith, low);
            arrays = down.arrays;
            tells =
                let len = length-take-le (j - 1) (drop 1 is') (simp length-drop (omega (arith, down.arrays.inps_len, low))) in
                tells_all p (take (j - 1) (drop 1 is')) (down.fits j u q) j (omega (arith, len));
            same = down_is (Ok (Down.Stuck j u)) q;
          }

          pub walking_less : left f (stack_is j xs' is' ps' os') < left f (stack_is n xs is ps os)
          walking_less = below_pops (down.less j u q) (pops.less k m e is os)
