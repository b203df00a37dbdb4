-- What the tables say of a target, and that a node's numbers follow from those of its targets.
-- Assumes nothing.
use Rattle.std.specs.Prelude.{◌≡◌, cond, eqb, get_or}
use Rattle.std.proofs.Math.Path.{sym, ap}
use Rattle.std.proofs.Common.{◌∙◌, arith, eq-eqb, ne_eqb}
use mathlib.Core.List.{List, Memᴰ}
use Prim.Native.Nat.{ℕ, suc, ◌+◌, ◌≤◌, max}
use Rattle.std.proofs.Math.Decide.{ℕ_discrete}
use Rattle.format.specs.declared.Transition.{Transition}
use Rattle.format.specs.Limits.{max_path}
use Rattle.format.specs.Node.{Node, sound}
use Rattle.format.specs.Paths.{Fst, node_in}
use Rattle.format.specs.Tables.{longest, largest_sum}
use Rattle.format.specs.Laws.TableLaws.{max_same, longest_of, largest_of, longest_zero, largest_zero}
use Rattle.admission_node.specs.Entries.{child_depth, child_sum, deepest, heaviest}

-- ---- one target

-- v stands for address 0, in the depths and in the sums
pub child_zero : (v : ℕ) (d : List ℕ) (t : ℕ) → t ≡ 0 → cond (eqb t 0) v (get_or d t 0) ≡ v
child_zero v d t z = rw (eq-eqb t 0 z)

pub child_entry : (v : ℕ) (d : List ℕ) (t : ℕ) → ¬ (t ≡ 0) → cond (eqb t 0) v (get_or d t 0) ≡ get_or d t 0
child_entry v d t ne = rw (ne_eqb t 0 ne)

pub child_depth_le : (d : List ℕ) (t : ℕ) → get_or d t 0 ≤ max_path + 2 → child_depth d t ≤ max_path + 2
child_depth_le d t h =
    elim (ℕ_discrete t 0) [
      | yes e ↦ omega (arith, child_zero 1 d t e)
      | no e ↦ omega (arith, child_entry 1 d t e)
    ]

-- ---- the node

module _ (f : Fst) (a : ℕ) (m : Node) (e : node_in f a ≡ sound m) where
  -- the entries of the targets are right, so what they give for the node is right
  pub deepest_is : (d : List ℕ) → ((t : Transition) → Memᴰ t m.transitions → ¬ (t.addr ≡ 0) → get_or d t.addr 0 ≡ longest f t.addr + 1)
      → deepest d m.transitions ≡ longest f a
  unfolding deepest
  deepest_is d right =
      max_same (λ t. child_depth d t.addr) (λ t. suc (longest f t.addr)) m.transitions same ∙ sym (longest_of f a m e)
    where
      same : (t : Transition) → Memᴰ t m.transitions → child_depth d t.addr ≡ suc (longest f t.addr)
      same t mem =
          elim (ℕ_discrete t.addr 0) [
            | yes z ↦ omega (arith, child_zero 1 d t.addr z, ap (longest f) z, longest_zero f)
            | no z ↦ omega (arith, child_entry 1 d t.addr z, right t mem z)
          ]

  pub heaviest_is : (s : List ℕ) → ((t : Transition) → Memᴰ t m.transitions → ¬ (t.addr ≡ 0) → get_or s t.addr 0 ≡ largest_sum f t.addr)
      → heaviest s m.final_output m.transitions ≡ largest_sum f a
  unfolding heaviest
  heaviest_is s right =
      ap (max m.final_output) (max_same (λ t. t.out + child_sum s t.addr) (λ t. t.out + largest_sum f t.addr) m.transitions same)
      ∙ sym (largest_of f a m e)
    where
      same : (t : Transition) → Memᴰ t m.transitions → t.out + child_sum s t.addr ≡ t.out + largest_sum f t.addr
      same t mem =
          elim (ℕ_discrete t.addr 0) [
            | yes z ↦ omega (arith, child_zero 0 s t.addr z, ap (largest_sum f) z, largest_zero f)
            | no z ↦ omega (arith, child_entry 0 s t.addr z, right t mem z)
          ]
