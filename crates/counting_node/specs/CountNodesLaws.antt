-- Laws of `CountNodes`: the sum over the targets' entries is the number of keys.
-- Assumes nothing.
use Rattle.std.specs.Prelude.{◌≡◌, ℕ, ◌+◌, get_or}
use Rattle.std.proofs.Common.{sym, ap, ◌∙◌, arith}
use mathlib.Core.List.{List, Memᴰ}
use Rattle.std.proofs.Math.Decide.{ℕ_discrete}
use Rattle.format.specs.declared.Transition.{Transition}
use Rattle.format.specs.Node.{Node, sound}
use Rattle.format.specs.Paths.{Fst, node_in}
use Rattle.format.specs.Tables.{one, keys_from, keys_at}
use Rattle.format.specs.Laws.NodeLaws.{sound_not_empty}
use Rattle.format.specs.Laws.KeysLaws.{sum_same, keys_of, keys_zero}
use Rattle.admission_node.specs.ChildLaws.{child_zero, child_entry}
use Rattle.counting_node.specs.CountNodes.{keys_by}

-- the entries of the targets are right, so what they give for the node is right
pub keys_by_is : (f : Fst) (a : ℕ) (m : Node) → node_in f a ≡ sound m → (c : List ℕ)
    → ((t : Transition) → Memᴰ t m.transitions → ¬ (t.addr ≡ 0) → get_or c t.addr 0 ≡ keys_from f t.addr)
    → keys_by c m.final m.transitions ≡ keys_from f a
unfolding keys_by
keys_by_is f a m e c right =
    ap (λ n. one m.final + n) (sum_same (λ t. keys_at c t.addr) (λ t. keys_from f t.addr) m.transitions same) ∙ sym (keys_of f a m e)
  where
    same : (t : Transition) → Memᴰ t m.transitions → keys_at c t.addr ≡ keys_from f t.addr
    same t mem =
        elim (ℕ_discrete t.addr 0) [
          | yes z ↦
              let pos = sound_not_empty f.bytes f.version f.root a m e in
              omega (arith, child_zero 1 c t.addr z, ap (keys_from f) z, keys_zero f pos)
          | no z ↦ omega (arith, child_entry 1 c t.addr z, right t mem z)
        ]
