-- The pops over the arrays: what the definition says of each way out of a turn, and the contract that it gives.
--     pop_end, pop_bad, pop_at, pop_on     the definition at the first k levels
--     Popping ..                           the pops go on from level k
-- Assumes nothing.
use mathlib.Core.Path.{◌≡◌, refl, sym, ◌∙◌, ap}
use mathlib.Core.List.{List}
use Prim.Native.Nat.{ℕ, ◌-◌, ◌<◌, ◌≤◌}
use native.Mathlib.Omega.{arith}
use borrow.Author.Tests.{lt-ltb, le-ltb}
use lib.ListN.{length, get_or}
use Rattle.format.specs.Node as F
use Rattle.format.specs.Node.{sound, unsound}
use Rattle.format.specs.Paths.{Fst, fst_with, node_in}
use Rattle.node.specs.declared.Node.{Node}
use Rattle.node.specs.Read.{meaning, Readable}
use Rattle.node.specs.ReadLaws.{length_node_transitions}
use Rattle.reading.specs.Reading.{top, used_up, bad, pop}
use Rattle.node.specs.declared.Unsound.{Unsound}
use Rattle.std.specs.Prelude.{Ok, Err, Some, None}
use Rattle.stream_start.specs.Views.{level_at, stack_is}
use Rattle.stream_pop.specs.Pops.{Pops}
use Rattle.stream_start.specs.StackLaws.{stack_suc}

-- ---- the definition

module _ (f : Fst) (k : ℕ) (xs is ps os : List ℕ) where
  pop_end : k ≤ 0 → pop f (stack_is k xs is ps os) ≡ used_up
  unfolding pop stack_is
  pop_end h = let e : k ≡ 0 = omega arith in rw e

  module _ (pos : 0 < k) where
    pop_bad : node_in f (get_or xs (k - 1) 0) ≡ unsound → pop f (stack_is k xs is ps os) ≡ bad
    unfolding pop
    pop_bad e = ap (pop f) (stack_suc k xs is ps os pos) ∙ simp e

    module _ (m : F.Node) (e : node_in f (get_or xs (k - 1) 0) ≡ sound m) where
      pop_at : get_or ps (k - 1) 0 < length m.transitions
          → pop f (stack_is k xs is ps os) ≡ top (level_at (k - 1) xs is ps os) m (stack_is (k - 1) xs is ps os)
      unfolding pop
      pop_at t = ap (pop f) (stack_suc k xs is ps os pos) ∙ simp (e, lt-ltb (get_or ps (k - 1) 0) (length m.transitions) t)

      pop_on : length m.transitions ≤ get_or ps (k - 1) 0 → pop f (stack_is k xs is ps os) ≡ pop f (stack_is (k - 1) xs is ps os)
      unfolding pop
      pop_on t = ap (pop f) (stack_suc k xs is ps os pos) ∙ simp (e, le-ltb (get_or ps (k - 1) 0) (length m.transitions) t)

-- ---- the loop

-- the first k levels decide
pub record Popping (s : List ℕ) (v root : ℕ) (xs ps : List ℕ) (levels k : ℕ) : Type 0 where
  pub within : k ≤ 256
  pub same : (is os : List ℕ) → pop (fst_with s v root) (stack_is levels xs is ps os) ≡ pop (fst_with s v root) (stack_is k xs is ps os)

pub popping_none : (s : List ℕ) (v root : ℕ) (xs ps : List ℕ) (levels : ℕ) → levels ≤ 256 → Popping s v root xs ps levels levels
popping_none s v root xs ps levels h = record { within = h; same = λ is os. refl }

module _ {s : List ℕ} {v root : ℕ} {xs ps : List ℕ} {levels k : ℕ} (p : Popping s v root xs ps levels k) where
  pub popping_end : k ≤ 0 → Pops s v root xs ps levels (Ok None)
  popping_end h = record {
    seen = λ is os. sym (p.same is os ∙ pop_end (fst_with s v root) k xs is ps os h);
    low = λ j m e. absurd (let z : ◌≡◌ {A = ℕ} 0 1 = cc in omega arith);
    ready = λ j m e. absurd (let z : ◌≡◌ {A = ℕ} 0 1 = cc in omega arith);
  }

  pub popping_bad : 0 < k → node_in (fst_with s v root) (get_or xs (k - 1) 0) ≡ unsound → (u : Unsound) → Pops s v root xs ps levels (Err u)
  popping_bad pos e u = record {
    seen = λ is os. sym (p.same is os ∙ pop_bad (fst_with s v root) k xs is ps os pos e);
    low = λ j m e. absurd (let z : ◌≡◌ {A = ℕ} 0 1 = cc in omega arith);
    ready = λ j m e. absurd (let z : ◌≡◌ {A = ℕ} 0 1 = cc in omega arith);
  }

  module _ (pos : 0 < k) (m : Node) (e : node_in (fst_with s v root) (get_or xs (k - 1) 0) ≡ sound (meaning s m)) (readable : Readable s m) where
    pub popping_at : get_or ps (k - 1) 0 < m.ntrans → Pops s v root xs ps levels (Ok (Some (k - 1, m)))
    popping_at t = record {
      seen = λ is os.
          sym (p.same is os ∙ pop_at (fst_with s v root) k xs is ps os pos (meaning s m) e (omega (arith, length_node_transitions s m readable)));
      low = λ j n q.
          let both : ◌≡◌ {A = ℕ × Node} (k - 1, m) (j, n) = cc in
          omega (arith, ap (λ (x : ℕ × Node). x.0) both, p.within);
      ready = λ j n q.
          let both : ◌≡◌ {A = ℕ × Node} (k - 1, m) (j, n) = cc in
          rw (← ap (λ (x : ℕ × Node). x.0) both, ← ap (λ (x : ℕ × Node). x.1) both) (record { node = e; readable = readable; next = t });
    }

    pub popping_on : m.ntrans ≤ get_or ps (k - 1) 0 → Popping s v root xs ps levels (k - 1)
    popping_on t = record {
      within = omega (arith, p.within);
      same = λ is os. p.same is os ∙ pop_on (fst_with s v root) k xs is ps os pos (meaning s m) e (omega (arith, length_node_transitions s m readable));
    }
