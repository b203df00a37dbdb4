-- The descent over the arrays: a turn, and each way out of it.
--     Going ..                        from level k on, the answer is the one that is wanted
--     going-..                        the contract at each way out, and the next turn
-- Assumes nothing.
use mathlib.Core.Path.{◌≡◌, refl, sym, ◌∙◌, ap}
use Rattle.std.specs.Prelude.{Ok, Err, Some, None, Result}
use Rattle.format.specs.declared.Refusal.{Refusal}
use mathlib.Core.Bool.{true, false, cond, true≢false}
use mathlib.Core.Logic.{⊎_elim}
use mathlib.Core.List.{List, ◌∷◌}
use Prim.Native.Nat.{ℕ, ◌+◌, ◌-◌, ◌<◌, ◌≤◌}
use native.Mathlib.Omega.{arith}
use borrow.Author.Tests.{le-leb, lt-leb}
use lib.Dec.{leb}
use lib.ListN.{length, get_or, take, drop}
use Rattle.format.specs.Limits.{max_sum, DEEP, SUM}
use Rattle.format.specs.Node as F
use Rattle.format.specs.Laws.NodeFacts.{node_zero}
use Rattle.format.specs.Laws.LiveLaws.{live_below_root}
use Rattle.format.specs.Paths.{Fst, fst_with}
use Rattle.format.specs.Strings.{Bound}
use Rattle.node.specs.declared.Node.{Node}
use Rattle.node.specs.Read.{meaning, transitions_in}
use Rattle.node.specs.ReadLaws.{length_node_transitions}
use Rattle.reading.specs.Reading.{Level, passes_test, key_of, counted, Went, found, next_trans, child, stepped}
use Rattle.stream_start.specs.Views.{Arrays, level_at, stack_is}
use Rattle.stream_pop.specs.Pops.{Ready}
use Rattle.stream_pop.specs.ReadyLaws.{ready_target}
use Rattle.stream_descend.specs.Descent.{down_from, Pushed, Follows, Descends}
use Rattle.stream_start.specs.StackLaws.{key_stack}
use Rattle.stream_descend.proofs.DescendLaws.{down_deep, down_sum, down_bad, down_passed, down_final, down_on}

pub record Going (s : List ℕ) (v root : ℕ) (hi : Bound) (want : Went) (xs is ps os : List ℕ) (k : ℕ) (m : Node) (t : ℕ) : Type 0 where
  pub low : k < 256
  pub arrays : Arrays xs is ps os
  pub ready : Ready s v root (get_or xs k 0) (get_or ps k 0) m
  pub same : want ≡ down_from s v root hi xs is ps os k m t

pub going_none : (s : List ℕ) (v root : ℕ) (hi : Bound) (xs is ps os : List ℕ) (k : ℕ) (m : Node) (t : ℕ)
    → k < 256 → Arrays xs is ps os → Ready s v root (get_or xs k 0) (get_or ps k 0) m
    → Going s v root hi (down_from s v root hi xs is ps os k m t) xs is ps os k m t
going_none s v root hi xs is ps os k m t l w r = record { low = l; arrays = w; ready = r; same = refl }

module _ {s : List ℕ} {v root : ℕ} {hi : Bound} {want : Went} {xs is ps os : List ℕ} {k : ℕ} {m : Node} {t : ℕ}
    (g : Going s v root hi want xs is ps os k m t) where
  abbrev f : Fst
  f = fst_with s v root

  abbrev l : Level
  l = level_at k xs is ps os

  pub going_deep : 255 ≤ k → Descends want xs is ps os (Err DEEP)
  going_deep h = record {
    low = omega arith;
    len = g.arrays.inps_len;
    seen = sym (g.same ∙ down_deep k f hi l (meaning s m) (stack_is k xs is ps os) t h);
  }

  -- ---- a transition is followed, or refused

  pub going_halted : k < 255 → {xs' is' ps' os' : List ℕ} {r : Result Node Refusal}
      → Follows s v root k l (meaning s m) (stack_is k xs is ps os) xs' is' ps' os' r → (why : Refusal) → r ≡ Err why → Descends want xs' is' ps' os' (Err why)
  going_halted hk w why e = record {
    low = omega arith;
    len = w.kept.inps_len;
    seen = ⊎_elim
        (λ p. sym (g.same ∙ down_sum k f hi l (meaning s m) (stack_is k xs is ps os) t hk p.1 ∙ ap Went.halted (sym p.0)))
        (λ p. sym (g.same ∙ down_bad k f hi l (meaning s m) (stack_is k xs is ps os) t hk p.1 p.2 ∙ ap Went.halted (sym p.0)))
        (w.stops why e);
  }

  module _ (hk : k < 255) {xs⁺ is⁺ ps⁺ os⁺ : List ℕ} (n : Node) (w : Pushed s v root k l (meaning s m) (stack_is k xs is ps os) xs⁺ is⁺ ps⁺ os⁺ n)
      {u : ℕ} (eu : u ≡ counted t) where
    sum_is : get_or os⁺ (k + 1) 0 ≡ l.out + (next_trans l (meaning s m)).out
    sum_is = ap (λ (x : Level). x.out) w.top

    levels⁺ : level_at (k + 1) xs⁺ is⁺ ps⁺ os⁺ ∷ stack_is (k + 1) xs⁺ is⁺ ps⁺ os⁺ ≡ child l (meaning s m) ∷ stepped l ∷ stack_is k xs is ps os
    levels⁺ = rw (w.top, w.under)

    key⁺ : key_of (child l (meaning s m) ∷ stepped l ∷ stack_is k xs is ps os) ≡ take (k + 1 + 1 - 1) (drop 1 is⁺)
    key⁺ =
        let same : k + 1 + 1 - 1 ≡ k + 1 = omega arith in
        ap key_of (sym levels⁺) ∙ key_stack (k + 1) xs⁺ is⁺ ps⁺ os⁺ (omega (arith, w.arrays.inps_len)) ∙ ap (λ (j : ℕ). take j (drop 1 is⁺)) (sym same)

    pub going_passed : passes_test hi (take (k + 1 + 1 - 1) (drop 1 is⁺)) ≡ true → Descends want xs⁺ is⁺ ps⁺ os⁺ (Ok (record { found = None; total = u }))
    going_passed p = record {
      low = omega arith;
      len = w.arrays.inps_len;
      seen = sym (g.same ∙ down_passed k f hi l (meaning s m) (stack_is k xs is ps os) t hk w.light (meaning s n) w.node (ap (passes_test hi) key⁺ ∙ p) ∙ sym (rw eu));
    }

    module _ (p : passes_test hi (take (k + 1 + 1 - 1) (drop 1 is⁺)) ≡ false) where
      abbrev value : ℕ
      value = l.out + (next_trans l (meaning s m)).out + n.final_output

      value_is : get_or os⁺ (k + 1) 0 + n.final_output ≡ value
      value_is = ap (λ (x : ℕ). x + n.final_output) sum_is

      final_is : n.is_final ≡ true
          → want
          ≡ cond (leb value max_sum) (found (child l (meaning s m) ∷ stepped l ∷ stack_is k xs is ps os) value (counted t)) (Went.halted SUM)
      final_is e = g.same ∙ down_final k f hi l (meaning s m) (stack_is k xs is ps os) t hk w.light (meaning s n) w.node (ap (passes_test hi) key⁺ ∙ p) e

      pub going_final : n.is_final ≡ true → get_or os⁺ (k + 1) 0 + n.final_output ≤ max_sum → {x : ℕ} → x ≡ get_or os⁺ (k + 1) 0 + n.final_output
          → Descends want xs⁺ is⁺ ps⁺ os⁺ (Ok (record { found = Some (k + 1, x); total = u }))
      going_final e h {x} ex =
          let turned : want ≡ found (child l (meaning s m) ∷ stepped l ∷ stack_is k xs is ps os) value (counted t) = final_is e ∙ rw (le-leb value max_sum (rw value_is at h)) in
          record {
            low = omega arith;
            len = w.arrays.inps_len;
            seen = rw (levels⁺, ex, value_is, eu) (sym turned);
          }

      pub going_final_past : n.is_final ≡ true → max_sum < get_or os⁺ (k + 1) 0 + n.final_output → Descends want xs⁺ is⁺ ps⁺ os⁺ (Err SUM)
      going_final_past e h = record { low = omega arith; len = w.arrays.inps_len; seen = sym (final_is e ∙ rw (lt-leb value max_sum (rw value_is at h))) }

      target_low : (next_trans l (meaning s m)).addr < root
      target_low = ready_target g.ready

      live : n.is_final ≡ false → 0 < length (transitions_in s n)
      live e =
          ⊎_elim (λ y. absurd (true≢false (sym y ∙ e))) (λ y. y)
          (live_below_root f (next_trans l (meaning s m)).addr (meaning s n) w.node not_zero (λ z. omega (arith, target_low)))
        where
          not_zero : ¬ ((next_trans l (meaning s m)).addr ≡ 0)
          not_zero z = true≢false (sym (ap (λ (x : F.Node). x.final) (node_zero f (next_trans l (meaning s m)).addr (meaning s n) w.node z)) ∙ e)

      pub going_on : n.is_final ≡ false → Going s v root hi want xs⁺ is⁺ ps⁺ os⁺ (k + 1) n u
      going_on e =
          let x : get_or xs⁺ (k + 1) 0 ≡ (next_trans l (meaning s m)).addr = ap (λ (y : Level). y.addr) w.top in
          let y : get_or ps⁺ (k + 1) 0 ≡ 0 = ap (λ (y : Level). y.trans) w.top in
          record {
            low = omega arith;
            arrays = w.arrays;
            ready = record { node = rw x w.node; readable = w.readable; next = rw y (omega (arith, live e, length_node_transitions s n w.readable)) };
            same = rw (w.top, w.under, eu)
                (g.same ∙ down_on k f hi l (meaning s m) (stack_is k xs is ps os) t hk w.light (meaning s n) w.node (ap (passes_test hi) key⁺ ∙ p) e);
          }
