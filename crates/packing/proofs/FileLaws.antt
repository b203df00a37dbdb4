-- The nodes of a run as any file around them reads them.
--     Has nodes g          g is a file of version 2 that has these bytes from 16 on, with its root not below their end
--     has_less             a file that has more nodes has the first of them
--     node_with, Reads g a b    what the record b says, as a node; the node at a of g says it
--     At nodes b a         every file that has the nodes reads the record b at a
--     at_more              nodes that are written later do not change what is read
--     zero_at, written_at  the record that packs to nothing stands at 0; a record that is written stands at the end
-- Assumes nothing.
use Rattle.std.specs.Prelude.{◌≡◌, refl, Bool, true, false, cond, ◌⊎◌, List, [], ◌∷◌, ◌++◌, ℕ, ◌+◌, ◌≤◌, ◌<◌, replicate}
use Rattle.std.proofs.Common.{sym, ap, ap₂, ◌∙◌, append_assoc, append-nil, arith, length-append}
use Rattle.std.proofs.Math.Logic.{inl, inr}
use Rattle.std.proofs.Math.ListN.{length}
use Rattle.std.proofs.lemmas.List.{length-replicate}
use Rattle.format.specs.Limits.{max_len}
use Rattle.format.specs.Node.{Node, sound, transitions_of, Useful, empty_final, node_at}
use Rattle.format.specs.Laws.NodeLaws.{node_at_zero}
use Rattle.format.specs.Packed.{BuilderNode, Ranges, RecordOk, packed, packs_to_nothing, has_one, leads_next, node_addr, record_node}
use Rattle.format.specs.Laws.PackedLaws.{nothing_means, packed_next_is, packed_one_is, packed_any_is, length_packed_next, length_packed_one, length_packed_any}
use Rattle.format.specs.RoundTrip.RoundTrip.{round_trip}
use Rattle.format.specs.Paths.{Fst, fst_with, node_in}

pub record Has (nodes : List ℕ) (g : Fst) : Type 0 where
  pub pre : List ℕ
  pub post : List ℕ
  pub at : length pre ≡ 16
  pub bytes : g.bytes ≡ pre ++ (nodes ++ post)
  pub version : g.version ≡ 2
  pub low : 15 + length nodes ≤ g.root
  pub high : g.root < max_len

pub has_less : (nodes more : List ℕ) {g : Fst} → Has (nodes ++ more) g → Has nodes g
has_less nodes more h = record {
  pre = h.pre;
  post = more ++ h.post;
  at = h.at;
  bytes = h.bytes ∙ ap (λ (l : List ℕ). h.pre ++ l) (append_assoc nodes more h.post);
  version = h.version;
  low = omega (arith, h.low, length-append nodes more);
  high = h.high;
}

pub has_bytes : {nodes : List ℕ} {g : Fst} → Has nodes g → 0 < length g.bytes
has_bytes {nodes} {g} h = rw (h.bytes, length-append) (omega (arith, h.at))

-- the nodes so far, as they are looked up
pub has_stored : (nodes : List ℕ) → 15 + length nodes < max_len → Has nodes (fst_with (replicate 16 0 ++ nodes) 2 (15 + length nodes))
has_stored nodes small = record {
  pre = replicate 16 0;
  post = [];
  at = length-replicate {A = ℕ} 16 0;
  bytes = ap (λ (l : List ℕ). replicate 16 0 ++ l) (sym (append-nil nodes));
  version = refl;
  low = omega arith;
  high = small;
}

-- ---- a record that is read

abbrev pub node_with : ℕ → BuilderNode → Node
node_with first b =
    record { first = first; final = b.final; final_output = b.final_output; transitions = transitions_of b.inputs b.outputs b.targets }

pub record Reads (g : Fst) (a : ℕ) (b : BuilderNode) : Type 0 where
  pub first : ℕ
  pub is : node_in g a ≡ sound (node_with first b)

pub record At (nodes : List ℕ) (b : BuilderNode) (a : ℕ) : Type 0 where
  pub reads : (g : Fst) → Has nodes g → Reads g a b

pub at_more : {nodes : List ℕ} {b : BuilderNode} {a : ℕ} (more : List ℕ) → At nodes b a → At (nodes ++ more) b a
at_more {nodes} more s = record { reads = λ g h. s.reads g (has_less nodes more h) }

pub zero_at : (nodes : List ℕ) (b : BuilderNode) → packs_to_nothing b ≡ true → At nodes b 0
unfolding transitions_of
zero_at nodes b none = record { reads = λ g h. record { first = 0; is = node_at_zero g.bytes g.version g.root (has_bytes h) ∙ ap sound (sym empty) } }
  where
    no_transitions : (is os ts : List ℕ) → length is ≡ 0 → transitions_of is os ts ≡ []
    no_transitions [] os ts e = refl
    no_transitions (i ∷ is) os ts e = absurd (omega arith)

    empty : node_with 0 b ≡ empty_final
    empty =
        let is = nothing_means b none in
        rw (is.0, is.1.1, no_transitions b.inputs b.outputs b.targets is.1.0)

-- a node that is written has at least one byte
pub packed_some : (first : ℕ) (b : BuilderNode) → packs_to_nothing b ≡ false → 1 ≤ length (packed first b)
packed_some first b some = go (has_one b) refl (leads_next first b) refl
  where
    go : (one : Bool) → has_one b ≡ one → (leads : Bool) → leads_next first b ≡ leads → 1 ≤ length (packed first b)
    go true one true leads = rw (packed_next_is first b one leads, length_packed_next) (omega arith)
    go true one false leads = rw (packed_one_is first b one leads, length_packed_one) (omega arith)
    go false one leads is_leads = rw (packed_any_is first b some one, length_packed_any) (omega arith)

module _ (nodes : List ℕ) (b : BuilderNode) (some : packs_to_nothing b ≡ false) (ranges : Ranges b)
    (ok : 16 + length nodes ≤ max_len → RecordOk (16 + length nodes) b) where
  abbrev pub grown : List ℕ
  grown = nodes ++ packed (16 + length nodes) b

  pub grown_more : length nodes + 1 ≤ length grown
  grown_more = omega (arith, length-append nodes (packed (16 + length nodes) b), packed_some (16 + length nodes) b some)

  -- at the root, or where it is final or has a transition
  pub written_reads : (g : Fst) → Has grown g → Useful b.final (length b.inputs) (15 + length grown) g.root
      → node_in g (15 + length grown) ≡ sound (node_with (16 + length nodes) b)
  written_reads g h useful =
      let size = length-append nodes (packed (16 + length nodes) b) in
      let first : ℕ = 16 + length nodes in
      let p : List ℕ = packed first b in
      let here : node_addr first b ≡ 15 + length grown = rw some (omega (arith, size, packed_some first b some)) in
      let file_is_lem : g.bytes ≡ (h.pre ++ nodes) ++ (p ++ h.post) =
      h.bytes ∙ ap (λ (l : List ℕ). h.pre ++ l) (append_assoc nodes p h.post) ∙ sym (append_assoc h.pre nodes (p ++ h.post)) in
      let record_is : record_node first b ≡ node_with first b = rw some in
      ap₂ (λ (l : List ℕ) (v : ℕ). node_at l v g.root (15 + length grown)) file_is_lem h.version
      ∙ ap (λ (n : ℕ). node_at ((h.pre ++ nodes) ++ (p ++ h.post)) 2 g.root n) (sym here)
      ∙ round_trip first b (h.pre ++ nodes) h.post 2 g.root ranges (ok (omega (arith, h.low, h.high, grown_more)))
      (omega (arith, length-append h.pre nodes, h.at)) (omega arith) (omega (arith, h.low, here)) (rw here useful)
      ∙ ap sound record_is

  pub written_at : (b.final ≡ true) ⊎ (0 < length b.inputs) → At grown b (15 + length grown)
  unfolding Useful
  written_at live = record { reads = λ g h. record { first = 16 + length nodes; is = written_reads g h (go g live) } }
    where
      go : (g : Fst) → (b.final ≡ true) ⊎ (0 < length b.inputs) → (b.final ≡ true) ⊎ ((0 < length b.inputs) ⊎ (15 + length grown ≡ g.root))
      go g (inl q) = inl q
      go g (inr q) = inr (inl q)
