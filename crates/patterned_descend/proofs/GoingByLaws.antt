-- The descent by pattern over the arrays: a turn, and each way out of it.
--     GoingBy ..                      from level k on, which can go on, the walk is the one that is wanted, with no more to do
--     going-..                        the contract at each way out, and the next turn
-- Assumes nothing.
use mathlib.Core.Path.{◌≡◌, refl, sym, ◌∙◌, ap, subst}
use Rattle.std.specs.Prelude.{Ok, Err, Some, None, Result}
use Rattle.std.proofs.lemmas.Bool.{and_parts}
use Rattle.format.specs.declared.Refusal.{Refusal}
use mathlib.Core.Bool.{true, false, cond, ◌&&◌}
use mathlib.Core.Logic.{⊎_elim}
use mathlib.Core.List.{List, [], ◌∷◌, ◌++◌}
use Prim.Native.Nat.{ℕ, suc, ◌+◌, ◌-◌, ◌<◌, ◌≤◌}
use native.Mathlib.Omega.{arith}
use borrow.Author.Tests.{lt-ltb, ltb-true}
use lib.Dec.{ltb}
use lib.ListN.{length, get_or, take, drop, length-drop}
use lib.Seq.{length-take-le}
use Rattle.format.specs.Limits.{max_sum, DEEP, SUM}
use Rattle.format.specs.Node as F
use Rattle.format.specs.Paths.{Fst, fst_with}
use Rattle.format.specs.Strings.{Bound}
use Rattle.node.specs.declared.Node.{Node}
use Rattle.node.specs.Read.{meaning}
use Rattle.node.specs.ReadLaws.{length_node_transitions}
use Rattle.reading.specs.Reading.{Level, passes_test, key_of, path_of, counted, next_trans, child, stepped}
use Rattle.reading.specs.Visits.{left}
use Rattle.reading.proofs.RunLaws.{first_key}
use Rattle.reading.proofs.LeftLaws.{left_pop, left_follow}
use Rattle.stream_start.specs.Views.{Arrays, level_at, stack_is}
use Rattle.stream_start.specs.StackLaws.{stack_length, stack_more, key_stack}
use Rattle.stream_pop.specs.Pops.{Ready}
use Rattle.stream_pop.specs.ReadyLaws.{ready_length}
use Rattle.pattern.specs.Pattern.{Pattern, start_test, fits_test, ended, halted, walk_by}
use Rattle.pattern.specs.FitCount.{fit_count, place_test, goes_on, key_fits}
use Rattle.pattern.proofs.CountLaws.{fits_by_count, tells_count, tells_last, count_on}
use Rattle.pattern.proofs.TurnLaws.{live_test, turn_popped, turn_deep, turn_sum, turn_target, turn_past, turn_on, turn_key, turn_final}
use Rattle.patterned_descend.specs.declared.Down.TheVariants.{Done, Stuck}
use Rattle.stream_descend.specs.Descent.{Pushed, Follows}
use Rattle.patterned_descend.specs.Descents.{DescendsBy}

-- a level that has a transition and fits is left by it; how many levels are below it
live_by : (p : Pattern) (m : F.Node) (l : Level) (s : List Level) → l.trans < length m.transitions
    → start_test p.positions p.rest (key_of (l ∷ s)) ≡ true → live_test p m l s ≡ true
live_by p m l s h e = rw (lt-ltb l.trans (length m.transitions) h, e)

room_of : (k : ℕ) (xs is ps os : List ℕ) → k < 255 → length (stack_is k xs is ps os) < 255
room_of k xs is ps os h = rw (stack_length k xs is ps os) h

-- ---- the loop

pub record GoingBy (s : List ℕ) (v root : ℕ) (p : Pattern) (hi : Bound) (levels : List Level) (total : ℕ) (xs is ps os : List ℕ) (k : ℕ) (m : Node) (t : ℕ)
    : Type 0 where
  pub low : k < 256
  pub arrays : Arrays xs is ps os
  pub ready : Ready s v root (get_or xs k 0) (get_or ps k 0) m
  pub fits : start_test p.positions p.rest (take k (drop 1 is)) ≡ true
  pub same : walk_by (fst_with s v root) p hi (level_at k xs is ps os ∷ stack_is k xs is ps os) t ≡ walk_by (fst_with s v root) p hi levels total
  pub less : left (fst_with s v root) (level_at k xs is ps os ∷ stack_is k xs is ps os) ≤ left (fst_with s v root) levels

pub going_none : (s : List ℕ) (v root : ℕ) (p : Pattern) (hi : Bound) (xs is ps os : List ℕ) (k : ℕ) (m : Node) (t : ℕ)
    → k < 256 → Arrays xs is ps os → Ready s v root (get_or xs k 0) (get_or ps k 0) m → start_test p.positions p.rest (take k (drop 1 is)) ≡ true
    → GoingBy s v root p hi (level_at k xs is ps os ∷ stack_is k xs is ps os) t xs is ps os k m t
going_none s v root p hi xs is ps os k m t l w r e = record { low = l; arrays = w; ready = r; fits = e; same = refl; less = omega arith }

below_all : {a b c d : ℕ} → a < b → b < c → c ≤ d → a < d
below_all h g e = omega arith

below_some : {b c d : ℕ} → b < c → c ≤ d → b ≤ d
below_some g e = omega arith

module _ {s : List ℕ} {v root : ℕ} {p : Pattern} {hi : Bound} {levels : List Level} {total : ℕ} {xs is ps os : List ℕ} {k : ℕ} {m : Node} {t : ℕ}
    (g : GoingBy s v root p hi levels total xs is ps os k m t) where
  abbrev f : Fst
  f = fst_with s v root

  abbrev l : Level
  l = level_at k xs is ps os

  abbrev below : List Level
  below = stack_is k xs is ps os

  key_is_lem : key_of (l ∷ below) ≡ take k (drop 1 is)
  key_is_lem = key_stack k xs is ps os (omega (arith, g.low, g.arrays.inps_len))

  fits_key : start_test p.positions p.rest (key_of (l ∷ below)) ≡ true
  fits_key = ap (start_test p.positions p.rest) key_is_lem ∙ g.fits

  alive : live_test p (meaning s m) l below ≡ true
  alive = live_by p (meaning s m) l below (ready_length g.ready) fits_key

  -- a refusal
  stops : {xs' is' ps' os' : List ℕ} (why : Refusal) → Arrays xs' is' ps' os' → walk_by f p hi (l ∷ below) t ≡ halted why
      → DescendsBy f p hi levels total xs' is' ps' os' (Err why)
  stops why w e = record {
    low = omega arith;
    arrays = w;
    seen = sym e ∙ g.same;
    less = λ j u q. absurd (let z : ◌≡◌ {A = ℕ} 0 1 = cc in omega arith);
    fits = λ j u q. absurd (let z : ◌≡◌ {A = ℕ} 0 1 = cc in omega arith);
  }

  pub going_deep : 255 ≤ k → DescendsBy f p hi levels total xs is ps os (Err DEEP)
  going_deep h = stops DEEP g.arrays (turn_deep f p hi t l below (meaning s m) g.ready.node alive (rw (stack_length k xs is ps os) h))

  pub going_halted : k < 255 → {xs' is' ps' os' : List ℕ} {r : Result Node Refusal} → Follows s v root k l (meaning s m) below xs' is' ps' os' r → (why : Refusal)
      → r ≡ Err why → DescendsBy f p hi levels total xs' is' ps' os' (Err why)
  going_halted hk w why e =
      stops why w.kept
      (⊎_elim
      (λ q. turn_sum f p hi t l below (meaning s m) g.ready.node alive (room_of k xs is ps os hk) q.1 ∙ ap halted (sym q.0))
      (λ q. turn_target f p hi t l below (meaning s m) g.ready.node alive (room_of k xs is ps os hk) q.1 q.2 ∙ ap halted (sym q.0))
      (w.stops why e))

  -- ---- a transition is followed

  module _ (hk : k < 255) {xs⁺ is⁺ ps⁺ os⁺ : List ℕ} (n : Node) (w : Pushed s v root k l (meaning s m) below xs⁺ is⁺ ps⁺ os⁺ n) where
    abbrev to : List Level
    to = child l (meaning s m) ∷ stepped l ∷ below

    room : length below < 255
    room = room_of k xs is ps os hk

    levels⁺ : level_at (k + 1) xs⁺ is⁺ ps⁺ os⁺ ∷ stack_is (k + 1) xs⁺ is⁺ ps⁺ os⁺ ≡ to
    levels⁺ = rw (w.top, w.under)

    key⁺ : key_of to ≡ take (k + 1) (drop 1 is⁺)
    key⁺ = ap key_of (sym levels⁺) ∙ key_stack (k + 1) xs⁺ is⁺ ps⁺ os⁺ (omega (arith, w.arrays.inps_len))

    pub key_low : k + 1 < 256
    key_low = omega arith

    len_key : length (take k (drop 1 is)) ≡ k
    len_key = length-take-le k (drop 1 is) (simp length-drop (omega (arith, g.arrays.inps_len)))

    len⁺ : length (take (k + 1) (drop 1 is⁺)) ≡ k + 1
    len⁺ = length-take-le (k + 1) (drop 1 is⁺) (simp length-drop (omega (arith, w.arrays.inps_len)))

    byte_is : (next_trans l (meaning s m)).inp ≡ get_or is⁺ (k + 1) 0
    byte_is = sym (ap (λ (x : Level). x.inp) w.top)

    key_more : take (k + 1) (drop 1 is⁺) ≡ take k (drop 1 is) ++ (get_or is⁺ (k + 1) 0 ∷ [])
    key_more = sym key⁺ ∙ sym (first_key f l (meaning s m) below) ∙ rw (key_is_lem, byte_is)

    sum_is : get_or os⁺ (k + 1) 0 ≡ l.out + (next_trans l (meaning s m)).out
    sum_is = ap (λ (x : Level). x.out) w.top

    follow_less : left f to < left f (l ∷ below)
    follow_less = left_follow f l (meaning s m) below room g.ready.node (ready_length g.ready)

    module _ {u : ℕ} (eu : u ≡ counted t) where
      pub going_passed : passes_test hi (take (k + 1) (drop 1 is⁺)) ≡ true → DescendsBy f p hi levels total xs⁺ is⁺ ps⁺ os⁺ (Ok (Done (record { found = None; total = u })))
      going_passed e = record {
        low = omega arith;
        arrays = w.arrays;
        seen =
            ap ended eu
            ∙ sym (turn_past f p hi t l below (meaning s m) g.ready.node alive room w.light (meaning s n) w.node (ap (passes_test hi) key⁺ ∙ e))
            ∙ g.same;
        less = λ j x q. absurd (let z : ◌≡◌ {A = ℕ} 0 1 = cc in omega arith);
        fits = λ j x q. absurd (let z : ◌≡◌ {A = ℕ} 0 1 = cc in omega arith);
      }

      module _ {fit : ℕ} (ef : fit ≡ cond (place_test p.positions k (get_or is⁺ (k + 1) 0)) (suc k) k) {len : ℕ} (el : length p.positions ≡ len) where
        count⁺ : fit_count p.positions (take (k + 1) (drop 1 is⁺)) ≡ fit
        count⁺ =
            ap (fit_count p.positions) key_more
            ∙ count_on p (take k (drop 1 is)) g.fits (get_or is⁺ (k + 1) 0)
            ∙ ap (λ (j : ℕ). cond (place_test p.positions j (get_or is⁺ (k + 1) 0)) (suc j) j) len_key
            ∙ sym ef

        fits⁺ : fits_test p.positions p.rest (key_of to) ≡ key_fits fit len p.rest (k + 1)
        fits⁺ =
            ap (fits_test p.positions p.rest) key⁺
            ∙ fits_by_count p.positions p.rest (take (k + 1) (drop 1 is⁺))
            ∙ rw (count⁺, el, len⁺)

        starts⁺ : start_test p.positions p.rest (take (k + 1) (drop 1 is⁺)) ≡ goes_on fit len p.rest (k + 1)
        starts⁺ = tells_last p (take (k + 1) (drop 1 is⁺)) (tells_count p (take (k + 1) (drop 1 is⁺))) ∙ rw (count⁺, el, len⁺)

        live⁺ : live_test p (meaning s n) (child l (meaning s m)) (stepped l ∷ below) ≡ (ltb 0 n.ntrans && goes_on fit len p.rest (k + 1))
        live⁺ = rw (length_node_transitions s n w.readable, key⁺, starts⁺)

        module _ (e : passes_test hi (take (k + 1) (drop 1 is⁺)) ≡ false) where
          within : passes_test hi (key_of to) ≡ false
          within = ap (passes_test hi) key⁺ ∙ e

          module _ (final : (n.is_final && key_fits fit len p.rest (k + 1)) ≡ true) where
            abbrev value : ℕ
            value = l.out + (next_trans l (meaning s m)).out + n.final_output

            is_key : (n.is_final && fits_test p.positions p.rest (key_of to)) ≡ true
            is_key = rw fits⁺ final

            value_is : get_or os⁺ (k + 1) 0 + n.final_output ≡ value
            value_is = ap (λ (x : ℕ). x + n.final_output) sum_is

            pub going_key : {x : ℕ} → x ≡ get_or os⁺ (k + 1) 0 + n.final_output → x ≤ max_sum
                → DescendsBy f p hi levels total xs⁺ is⁺ ps⁺ os⁺ (Ok (Done (record { found = Some (k + 1, x); total = u })))
            going_key ex h =
                let turned = turn_key f p hi t l below (meaning s m) g.ready.node alive room w.light (meaning s n) w.node within is_key (rw (ex, value_is) at h) in
                record {
                  low = omega arith;
                  arrays = w.arrays;
                  seen = rw (levels⁺, ex, value_is, eu) (sym turned ∙ g.same);
                  less = λ j x q. absurd (let z : ◌≡◌ {A = ℕ} 0 1 = cc in omega arith);
                  fits = λ j x q. absurd (let z : ◌≡◌ {A = ℕ} 0 1 = cc in omega arith);
                }

            pub going_heavy : max_sum < get_or os⁺ (k + 1) 0 + n.final_output → DescendsBy f p hi levels total xs⁺ is⁺ ps⁺ os⁺ (Err SUM)
            going_heavy h =
                stops SUM w.arrays
                (turn_final f p hi t l below (meaning s m) g.ready.node alive room w.light (meaning s n) w.node within is_key (rw value_is at h))

          module _ (idle : (n.is_final && key_fits fit len p.rest (k + 1)) ≡ false) where
            turned : walk_by f p hi (l ∷ below) t ≡ walk_by f p hi to (counted t)
            turned = turn_on f p hi t l below (meaning s m) g.ready.node alive room w.light (meaning s n) w.node within (rw fits⁺ idle)

            -- the bytes of the levels that are left
            left_key : take (k + 1 - 1) (drop 1 is⁺) ≡ take k (drop 1 is)
            unfolding path_of
            left_key =
                let j : k + 1 - 1 ≡ k = omega arith in
                let a = key_stack k xs⁺ is⁺ ps⁺ os⁺ (omega (arith, w.arrays.inps_len)) in
                let b : key_of (level_at k xs⁺ is⁺ ps⁺ os⁺ ∷ stack_is k xs⁺ is⁺ ps⁺ os⁺) ≡ key_of (stepped l ∷ below) = ap key_of (sym (stack_more k xs⁺ is⁺ ps⁺ os⁺) ∙ w.under) in
                rw j (sym a ∙ b ∙ key_is_lem)

            pub going_stuck : (ltb 0 n.ntrans && goes_on fit len p.rest (k + 1)) ≡ false → DescendsBy f p hi levels total xs⁺ is⁺ ps⁺ os⁺ (Ok (Stuck (k + 1) u))
            going_stuck dead = record {
              low = omega arith;
              arrays = w.arrays;
              seen =
                  rw (w.under, eu)
                  (sym (turn_popped f p hi (counted t) (child l (meaning s m)) (stepped l ∷ below) (meaning s n) w.node (live⁺ ∙ dead)) ∙ sym turned ∙ g.same);
              less = λ j x q.
                  let z : k + 1 ≡ j = cc in
                  rw (← z, w.under) (below_all (left_pop f (child l (meaning s m)) (stepped l ∷ below)) follow_less g.less);
              fits = λ j x q. let z : k + 1 ≡ j = cc in rw (← z, left_key) g.fits;
            }

            pub going_on : (ltb 0 n.ntrans && goes_on fit len p.rest (k + 1)) ≡ true → GoingBy s v root p hi levels total xs⁺ is⁺ ps⁺ os⁺ (k + 1) n u
            going_on live =
                let both = and_parts (ltb 0 n.ntrans) (goes_on fit len p.rest (k + 1)) live in
                let x : get_or xs⁺ (k + 1) 0 ≡ (next_trans l (meaning s m)).addr = ap (λ (y : Level). y.addr) w.top in
                let y : get_or ps⁺ (k + 1) 0 ≡ 0 = ap (λ (y : Level). y.trans) w.top in
                record {
                  low = omega arith;
                  arrays = w.arrays;
                  ready = record { node = rw x w.node; readable = w.readable; next = rw y (ltb-true 0 n.ntrans both.0) };
                  fits = starts⁺ ∙ both.1;
                  same = rw (levels⁺, eu) (sym turned ∙ g.same);
                  less = subst (λ (x : List Level). left f x ≤ left f levels) (sym levels⁺) (below_some follow_less g.less);
                }
