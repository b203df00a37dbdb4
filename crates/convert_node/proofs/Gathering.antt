-- A node's transitions gathered one after the other: what a turn of such a loop knows.
--     Gathering .. i                                   the first i transitions stand at the fronts of the three buffers
--     gathering_none, gathering_step, gathering_all    before the first turn, after a turn, after the last
-- Assumes nothing.
use mathlib.Core.Path.{◌≡◌, sym, ap, ◌∙◌}
use mathlib.Core.List.{List, ◌++◌, map}
use Prim.Native.Nat.{ℕ, ◌+◌, ◌≤◌, ◌<◌}
use native.Mathlib.Omega.{arith}
use lib.ListN.{length, take, drop, set, length-map}
use lib.Seq.{take_at, take_all}
use Rattle.format.specs.declared.Transition.{Transition}
use Rattle.format.specs.Node.{transition_at}
use Rattle.buffers.specs.CopyLaws.{Copied, copied_none, copied_step, copied_all}
use Rattle.converting.specs.Laws.LayLaws.{get_d_map_lt}
use Rattle.convert_size.specs.Sizes.{entry_in}
use Rattle.convert_node.specs.Packs.{Gathered}

pub record Gathering (ts : List Transition) (moved inputs₀ outputs₀ targets₀ inputs outputs targets : List ℕ) (i : ℕ) : Type 0 where
  pub ins : Copied (map (λ (t : Transition). t.inp) ts) (length ts) inputs₀ inputs i
  pub outs : Copied (map (λ (t : Transition). t.out) ts) (length ts) outputs₀ outputs i
  pub tos : Copied (map (λ (t : Transition). entry_in moved t.addr) ts) (length ts) targets₀ targets i

pub gathering_none : (ts : List Transition) (moved inputs outputs targets : List ℕ) → Gathering ts moved inputs outputs targets inputs outputs targets 0
gathering_none ts moved inputs outputs targets = record { ins = copied_none _ _ _; outs = copied_none _ _ _; tos = copied_none _ _ _ }

one : (h : Transition → ℕ) (ts : List Transition) {out₀ out : List ℕ} {i : ℕ} (x : ℕ) → i < length ts → length ts ≤ length out₀ → x ≡ h (transition_at ts i)
    → Copied (map h ts) (length ts) out₀ out i → Copied (map h ts) (length ts) out₀ (set out i x) (i + 1)
one h ts {i = i} x l room is c =
    let len = length-map ts h in
    rw (is ∙ sym (get_d_map_lt h ts i (omega arith))) (copied_step l (omega arith) (omega arith) c)

pub gathering_step : {ts : List Transition} {moved inputs₀ outputs₀ targets₀ inputs outputs targets : List ℕ} {i : ℕ}
    → length ts ≤ length inputs₀ → length ts ≤ length outputs₀ → length ts ≤ length targets₀ → i < length ts → (t : Transition) → t ≡ transition_at ts i → {x : ℕ} → x ≡ entry_in moved t.addr
    → Gathering ts moved inputs₀ outputs₀ targets₀ inputs outputs targets i
    → Gathering ts moved inputs₀ outputs₀ targets₀ (set inputs i t.inp) (set outputs i t.out) (set targets i x) (i + 1)
gathering_step {ts} {moved} in_inputs in_outputs in_targets l t is {x} to g =
    record {
      ins = one (λ (u : Transition). u.inp) ts t.inp l in_inputs (ap (λ (u : Transition). u.inp) is) g.ins;
      outs = one (λ (u : Transition). u.out) ts t.out l in_outputs (ap (λ (u : Transition). u.out) is) g.outs;
      tos = one (λ (u : Transition). entry_in moved u.addr) ts x l in_targets
          (to ∙ ap (λ (u : Transition). entry_in moved u.addr) is) g.tos;
    }

whole : (h : Transition → ℕ) (ts : List Transition) {out₀ out : List ℕ} {i : ℕ} → length ts ≤ i → Copied (map h ts) (length ts) out₀ out i
    → take (length ts) out ≡ map h ts
whole h ts {out₀} past c =
    let len = length-map ts h in
    ap (take (length ts)) (copied_all past c) ∙ ap (λ (l : List ℕ). take (length ts) (l ++ drop (length ts) out₀)) (take_all (length ts) (map h ts) (omega arith))
    ∙ take_at (map h ts) (drop (length ts) out₀) (length ts) len

pub gathering_all : {ts : List Transition} {moved inputs₀ outputs₀ targets₀ inputs outputs targets : List ℕ} {i : ℕ} → length ts ≤ i
    → Gathering ts moved inputs₀ outputs₀ targets₀ inputs outputs targets i → Gathered ts moved inputs outputs targets
gathering_all {ts} {moved} past g =
    record {
      inputs_are = whole (λ (t : Transition). t.inp) ts past g.ins;
      outputs_are = whole (λ (t : Transition). t.out) ts past g.outs;
      targets_are = whole (λ (t : Transition). entry_in moved t.addr) ts past g.tos;
    }
