-- The 50-byte file of document 01's listing meets the conditions that the demands speak of: they are not empty.
--     root_node, t_node          its two nodes, at 29 and 21
--     admitted_D               it is admitted
--     numbered_D               and numbered
-- Its bytes are computed with in three equations only (`opens_D`, `root_D`, `t_D`); all else is over any file with two such nodes.
-- Assumes nothing.
use Rattle.std.specs.Prelude.{◌≡◌, refl, true, false, ◌⊎◌, ℕ, zero, suc, ◌+◌, ◌<◌, length}
use Rattle.std.proofs.Common.{sym, subst, inl, inr, arith}
use Rattle.std.proofs.Math.Path.{ap}
use Rattle.std.proofs.Math.Option.{some}
use Rattle.std.proofs.Math.Logic.{⊎_elim}
use mathlib.Core.List.Memᴰ
use mathlib.Core.List.{List, [], ◌∷◌, Memᴰ}
use Rattle.format.specs.declared.Transition.{Transition}
use Rattle.format.specs.Bytes.{le, bytes_of}
use Rattle.format.specs.CommonInputs.{common_inputs, common_inputs_inv}
use Rattle.format.specs.Node.{Node, sound, empty_final, head_len, input_of, ntrans_of, sizes_byte, index_len, size_of, down_from, bytes_down, numbers_down, transitions_of, node_of, sound_test, node_at, transition_at}
use Rattle.format.specs.Laws.NodeFacts.{node_zero}
use Rattle.format.specs.Opening.{Meta, opened, meta_of, root_test, opening}
use Rattle.format.specs.Paths.{Fst, fst_of, node_in, Path}
use Rattle.format.specs.Admitted.{Chain, last, next, RootChain, rooted, Nodes, Shallow, Light, Admitted}
use Rattle.format.specs.Tables.{max_of, longest, largest_sum}
use Rattle.format.specs.Laws.TableLaws.{longest_of, longest_zero, longest_bound, largest_of, largest_zero, largest_bound}
use Rattle.format.specs.Laws.LiveLaws.{path_stays}
use Rattle.format.specs.Laws.ReachedLaws.{reached_stays}
use Rattle.format.specs.Lookup.{NumberedNode, Numbered}
use Rattle.bench_table.specs.BenchTable.{D}

abbrev by : ℕ → ℕ → ℕ → Transition
by inp out addr = record { inp = inp; out = out; addr = addr }

-- a/1 to 21, e/4 to 0
abbrev pub root_node : Node
root_node = record { first = 22; final = false; final_output = 0; transitions = by 97 1 21 ∷ by 101 4 0 ∷ [] }

-- final, t/2 to 0
abbrev pub t_node : Node
t_node = record { first = 16; final = true; final_output = 0; transitions = by 116 2 0 ∷ [] }

-- ---- a file with these two nodes

abbrev pub addrs : List ℕ
addrs = 29 ∷ 21 ∷ []

pub in_two : {A : Type 0} {x a b : A} → Memᴰ x (a ∷ b ∷ []) → (x ≡ a) ⊎ (x ≡ b)
in_two h = ⊎_elim (λ e. inl e) (λ g. ⊎_elim (λ e. inr e) (λ n. absurd (Memᴰ.not-nil n)) (Memᴰ.cases_cons g)) (Memᴰ.cases_cons h)

in_one : {A : Type 0} {x a : A} → Memᴰ x (a ∷ []) → x ≡ a
in_one h = ⊎_elim (λ e. e) (λ n. absurd (Memᴰ.not-nil n)) (Memᴰ.cases_cons h)

module _ (f : Fst) (root_is : f.root ≡ 29) (at_root : node_in f 29 ≡ sound root_node) (at_t : node_in f 21 ≡ sound t_node) where
  chain_29 : Chain f 29 addrs
  chain_29 = next root_node at_root (λ e. omega arith) (last t_node at_t refl)

  root_chain : RootChain f addrs
  root_chain = rooted {l = addrs} (λ z. omega arith) (subst (λ (a : ℕ). Chain f a addrs) (sym root_is) chain_29)

  -- the node at an address of the chain
  one_of : (a : ℕ) (m : Node) → Memᴰ a addrs → node_in f a ≡ sound m → ((a ≡ 29) × (m ≡ root_node)) ⊎ ((a ≡ 21) × (m ≡ t_node))
  one_of a m on e = ⊎_elim (λ (q : a ≡ 29). inl (q, at_29 q)) (λ (q : a ≡ 21). inr (q, at_21 q)) (in_two on)
    where
      at_29 : a ≡ 29 → m ≡ root_node
      at_29 q = let g : node_in f 29 ≡ sound m = rw q at e in cc

      at_21 : a ≡ 21 → m ≡ t_node
      at_21 q = let g : node_in f 21 ≡ sound m = rw q at e in cc

  targets : (m : Node) (t : Transition) → Memᴰ t m.transitions → ¬ (t.addr ≡ 0) → (m ≡ root_node) ⊎ (m ≡ t_node) → Memᴰ t.addr addrs
  targets m t mem ne (inl e) =
      ⊎_elim
      (λ (q : t ≡ by 97 1 21). Memᴰ.tail (Memᴰ.head (ap (λ (u : Transition). u.addr) q)))
      (λ (q : t ≡ by 101 4 0). absurd (ne (ap (λ (u : Transition). u.addr) q)))
      (in_two (rw e at mem))
  targets m t mem ne (inr e) = absurd (ne (ap (λ (u : Transition). u.addr) (in_one (rw e at mem))))

  pub nodes_two : Nodes f addrs
  nodes_two =
      record {
        chain = root_chain;
        closed = λ a m t on e mem ne. targets m t mem ne (⊎_elim (λ q. inl q.1) (λ q. inr q.1) (one_of a m on e));
      }

  -- ---- the longest paths and the largest sums

  long_t : longest f 21 ≡ 1
  unfolding max_of
  long_t = omega (arith, longest_of f 21 t_node at_t, longest_zero f)

  long_root : longest f 29 ≡ 2
  unfolding max_of
  long_root = omega (arith, longest_of f 29 root_node at_root, longest_zero f, long_t)

  sum_t : largest_sum f 21 ≡ 2
  unfolding max_of
  sum_t = omega (arith, largest_of f 21 t_node at_t, largest_zero f)

  sum_root : largest_sum f 29 ≡ 4
  unfolding max_of
  sum_root = omega (arith, largest_of f 29 root_node at_root, largest_zero f, sum_t)

  shallow_two : Shallow f
  unfolding Shallow
  shallow_two a k sum b r p =
      ⊎_elim
      (λ (z : a ≡ 0). omega (arith, longest_bound p, ap (longest f) z, longest_zero f))
      (λ (on : Memᴰ a addrs).
      ⊎_elim (λ (q : a ≡ 29). omega (arith, longest_bound p, ap (longest f) q, long_root))
      (λ (q : a ≡ 21). omega (arith, longest_bound p, ap (longest f) q, long_t)) (in_two on))
      (reached_stays nodes_two r)

  light_two : Light f
  unfolding Light
  light_two a k sum b m r p e =
      ⊎_elim
      (λ (z : a ≡ 0). omega (arith, largest_bound p e, ap (largest_sum f) z, largest_zero f))
      (λ (on : Memᴰ a addrs).
      ⊎_elim (λ (q : a ≡ 29). omega (arith, largest_bound p e, ap (largest_sum f) q, sum_root))
      (λ (q : a ≡ 21). omega (arith, largest_bound p e, ap (largest_sum f) q, sum_t)) (in_two on))
      (reached_stays nodes_two r)

  -- ---- numbered

  numbered_root : NumberedNode f root_node
  numbered_root =
      record {
        no_final_output = refl;
        first_output = λ fin l. omega arith;
        below_next = below;
      }
    where
      below : (i : ℕ) → i + 1 < length root_node.transitions
          → (transition_at root_node.transitions i).out + largest_sum f (transition_at root_node.transitions i).addr < (transition_at root_node.transitions (i + 1)).out
      below zero l = omega (arith, sum_t)
      below (suc i) l = absurd (omega arith)

  numbered_t : NumberedNode f t_node
  numbered_t = record { no_final_output = refl; first_output = λ fin l. omega arith; below_next = λ i l. absurd (omega arith) }

  numbered_empty : NumberedNode f empty_final
  numbered_empty = record { no_final_output = refl; first_output = λ fin l. absurd (omega arith); below_next = λ i l. absurd (omega arith) }

  numbered_two : (k : List ℕ) (sum a : ℕ) (m : Node) → Path f f.root k sum a → node_in f a ≡ sound m → NumberedNode f m
  numbered_two k sum a m p e =
      ⊎_elim
      (λ (z : a ≡ 0). rw (node_zero f a m e z) numbered_empty)
      (λ (on : Memᴰ a addrs). ⊎_elim (λ q. rw q.1 numbered_root) (λ q. rw q.1 numbered_t) (one_of a m on e))
      (path_stays nodes_two (inr (Memᴰ.head root_is)) p)

-- ---- the file

abbrev pub meta_d : Meta
meta_d = record { version = 3; ty = 0; len = 3; root = 29; checksum = some 0 }

pub opens_D : opening D ≡ opened meta_d
unfolding bytes_of le meta_of root_test opening
opens_D = refl

pub root_D : node_in (fst_of D meta_d) 29 ≡ sound root_node
unfolding bytes_of le common_inputs common_inputs_inv head_len input_of ntrans_of sizes_byte index_len size_of down_from bytes_down numbers_down transitions_of node_of sound_test node_at
root_D = refl

pub t_D : node_in (fst_of D meta_d) 21 ≡ sound t_node
unfolding bytes_of le common_inputs common_inputs_inv head_len input_of ntrans_of sizes_byte index_len size_of down_from bytes_down numbers_down transitions_of node_of sound_test node_at
t_D = refl

pub admitted_D : Admitted D
admitted_D =
    record {
      meta = meta_d;
      nodes = addrs;
      opens = opens_D;
      chained = nodes_two (fst_of D meta_d) refl root_D t_D;
      shallow = shallow_two (fst_of D meta_d) refl root_D t_D;
      light = light_two (fst_of D meta_d) refl root_D t_D;
    }

pub numbered_D : Numbered D
unfolding admitted_D
numbered_D = record { admitted = admitted_D; numbered = numbered_two (fst_of D meta_d) refl root_D t_D }

pub meta_D : admitted_D.meta ≡ meta_d
unfolding admitted_D
meta_D = refl

pub numbered_meta_D : numbered_D.admitted.meta ≡ meta_d
unfolding admitted_D numbered_D
numbered_meta_D = refl
