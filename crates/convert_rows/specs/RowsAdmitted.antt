-- The files of the rows meet the rows' premise: version 1 files are admitted, so that what is said of their conversion is not empty.
--     admitted_E     the file of 32 bytes, with no node
--     admitted_W     the file with a node that vanishes
--     no_node_E, vanished_W     their conversions, with nothing assumed
-- Assumes nothing.
use Rattle.std.specs.Prelude.{◌≡◌, ◌⊎◌, ℕ, length, replicate}
use Rattle.std.proofs.Math.Path.{ap}
use Rattle.std.proofs.Math.Bool.{true}
use Rattle.std.proofs.Common.{inl, inr, arith}
use Rattle.std.proofs.Math.Logic.{⊎_elim}
use mathlib.Core.List.Memᴰ
use mathlib.Core.List.{List, [], ◌∷◌, ◌++◌, Memᴰ}
use Rattle.format.specs.declared.Transition.{Transition}
use Rattle.format.specs.Node.{Node, sound}
use Rattle.format.specs.Paths.{Fst, fst_of, node_in}
use Rattle.format.specs.Admitted.{RootChain, Nodes, Shallow, Light, Admitted}
use Rattle.format.specs.Tables.{max_of, longest, largest_sum}
use Rattle.format.specs.Laws.TableLaws.{longest_of, longest_zero, longest_bound, largest_of, largest_zero, largest_bound}
use Rattle.format.specs.Laws.ReachedLaws.{reached_stays}
use Rattle.converting.specs.Converting.{converted, table_of}
use Rattle.convert_rows.specs.Rows.{file_is, E1, W1, W2, meta_is, node_w, plain, opens_E, opens_W, at_W, chain_E, chain_W, row_vanished, row_no_node}

-- ---- no node

abbrev fst_e : Fst
fst_e = fst_of E1 (meta_is 0)

nodes_E : Nodes fst_e []
nodes_E = record { chain = chain_E; closed = λ a m t on e mem ne. absurd (Memᴰ.not-nil on) }

shallow_E : Shallow fst_e
unfolding Shallow
shallow_E a k sum b r p =
    ⊎_elim (λ (z : a ≡ 0). omega (arith, longest_bound p, ap (longest fst_e) z, longest_zero fst_e)) (λ on. absurd (Memᴰ.not-nil on))
    (reached_stays nodes_E r)

light_E : Light fst_e
unfolding Light
light_E a k sum b m r p e =
    ⊎_elim (λ (z : a ≡ 0). omega (arith, largest_bound p e, ap (largest_sum fst_e) z, largest_zero fst_e)) (λ on. absurd (Memᴰ.not-nil on))
    (reached_stays nodes_E r)

pub admitted_E : Admitted E1
admitted_E = record { meta = meta_is 0; nodes = []; opens = opens_E; chained = nodes_E; shallow = shallow_E; light = light_E }

-- ---- two nodes, at 27 and 18

abbrev addrs : List ℕ
addrs = 27 ∷ 18 ∷ []

in_one : {A : Type 0} {x a : A} → Memᴰ x (a ∷ []) → x ≡ a
in_one h = ⊎_elim (λ e. e) (λ n. absurd (Memᴰ.not-nil n)) (Memᴰ.cases_cons h)

in_two : {A : Type 0} {x a b : A} → Memᴰ x (a ∷ b ∷ []) → (x ≡ a) ⊎ (x ≡ b)
in_two h = ⊎_elim (λ e. inl e) (λ g. inr (in_one g)) (Memᴰ.cases_cons h)

module _ (f : Fst) (chain : RootChain f addrs) (at_27 : node_in f 27 ≡ sound node_w) (at_18 : node_in f 18 ≡ sound (plain 16 true 0)) where
  target : (t : Transition) → Memᴰ t node_w.transitions → ¬ (t.addr ≡ 0) → Memᴰ t.addr addrs
  target t mem ne =
      ⊎_elim (λ q. Memᴰ.tail (Memᴰ.head (ap (λ (u : Transition). u.addr) q))) (λ q. absurd (ne (ap (λ (u : Transition). u.addr) q)))
      (in_two mem)

  closed_at : (a : ℕ) (m : Node) (t : Transition) → (a ≡ 27) ⊎ (a ≡ 18) → node_in f a ≡ sound m → Memᴰ t m.transitions → ¬ (t.addr ≡ 0)
      → Memᴰ t.addr addrs
  closed_at a m t (inl q) e mem ne =
      let g : node_in f 27 ≡ sound m = rw q at e in
      let is : m ≡ node_w = cc in
      target t (rw is at mem) ne
  closed_at a m t (inr q) e mem ne =
      let g : node_in f 18 ≡ sound m = rw q at e in
      let is : m ≡ plain 16 true 0 = cc in
      absurd (Memᴰ.not-nil (rw is at mem))

  nodes_W : Nodes f addrs
  nodes_W = record { chain = chain; closed = λ a m t on e mem ne. closed_at a m t (in_two on) e mem ne }

  long_18 : longest f 18 ≡ 0
  unfolding max_of
  long_18 = omega (arith, longest_of f 18 (plain 16 true 0) at_18)

  long_27 : longest f 27 ≡ 1
  unfolding max_of
  long_27 = omega (arith, longest_of f 27 node_w at_27, longest_zero f, long_18)

  sum_18 : largest_sum f 18 ≡ 0
  unfolding max_of
  sum_18 = omega (arith, largest_of f 18 (plain 16 true 0) at_18)

  sum_27 : largest_sum f 27 ≡ 2
  unfolding max_of
  sum_27 = omega (arith, largest_of f 27 node_w at_27, largest_zero f, sum_18)

  shallow_W : Shallow f
  unfolding Shallow
  shallow_W a k sum b r p =
      ⊎_elim (λ (z : a ≡ 0). omega (arith, longest_bound p, ap (longest f) z, longest_zero f))
      (λ on.
      ⊎_elim (λ (q : a ≡ 27). omega (arith, longest_bound p, ap (longest f) q, long_27))
      (λ (q : a ≡ 18). omega (arith, longest_bound p, ap (longest f) q, long_18)) (in_two on))
      (reached_stays nodes_W r)

  light_W : Light f
  unfolding Light
  light_W a k sum b m r p e =
      ⊎_elim (λ (z : a ≡ 0). omega (arith, largest_bound p e, ap (largest_sum f) z, largest_zero f))
      (λ on.
      ⊎_elim (λ (q : a ≡ 27). omega (arith, largest_bound p e, ap (largest_sum f) q, sum_27))
      (λ (q : a ≡ 18). omega (arith, largest_bound p e, ap (largest_sum f) q, sum_18)) (in_two on))
      (reached_stays nodes_W r)

abbrev fst_w : Fst
fst_w = fst_of W1 (meta_is 27)

pub admitted_W : Admitted W1
admitted_W =
    record {
      meta = meta_is 27;
      nodes = addrs;
      opens = opens_W;
      chained = nodes_W fst_w chain_W at_W.0 at_W.1;
      shallow = shallow_W fst_w chain_W at_W.0 at_W.1;
      light = light_W fst_w chain_W at_W.0 at_W.1;
    }

-- ---- what the rows then say

pub no_node_E : (converted admitted_E ≡ file_is 2 [] 0) × (table_of admitted_E ≡ replicate 32 0)
no_node_E = row_no_node admitted_E

pub vanished_W : (converted admitted_W ≡ W2) × ((length (converted admitted_W) ≡ 41) × (table_of admitted_W ≡ replicate 27 0 ++ (24 ∷ replicate 16 0)))
vanished_W = row_vanished admitted_W
