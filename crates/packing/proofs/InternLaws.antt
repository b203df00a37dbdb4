-- Laws of `Registry`: records that say the same, and what it means that a cell matches.
--     Alike b c            two records that say the same
--     match_means, match_of    where the node at a cell's address is known, a match says that it is the record
-- Assumes nothing.
use Rattle.std.proofs.Math.Path.{◌≡◌, sym}
use Rattle.std.specs.Prelude.{refl, cond, ◌&&◌, ◌⊎◌, ℕ, zero, suc, ◌+◌, ◌-◌, ◌*◌, ◌/◌, ◌%◌, ◌≤◌, ◌<◌, get_or, set, replicate}
use Rattle.std.proofs.Common.{ap, ap₂, ◌∙◌, subst, inl, inr, ⊎_elim, arith, length-set, length-append}
use Rattle.std.proofs.Math.Bool.{Bool, true, false, not}
use mathlib.Core.List.{List, [], ◌∷◌, ◌++◌, append-nil, map, Memᴰ}
use Rattle.std.proofs.Math.Decide.{ℕ_discrete}
use borrow.Author.Tests.{eqb-true, eq-eqb, ne_eqb}
use Rattle.std.proofs.Math.Dec.{eqb}
use Rattle.std.proofs.Math.ListN.{length}
use Rattle.std.proofs.lemmas.Bool.{and_parts}
use Rattle.format.specs.declared.Transition.{Transition}
use Rattle.format.specs.Limits.{max_len}
use Rattle.format.specs.Node.{Node, Judgement, sound, unsound, transitions_of, node_at}
use Rattle.format.specs.Packed.{BuilderNode, Ranges, RecordOk, packed, packs_to_nothing}
use Rattle.format.specs.Paths.{Fst, fst_with, node_in}
use Rattle.format.specs.Admitted.{Chain, last, next}
use Rattle.format.specs.Laws.ChainLaws.{chain_start_low}
use Rattle.packing.specs.Registry.{transitions_in, hash_of, Cell, empty_cell, Build, cell_at, row_of, same_transitions, same_bool, same_node, stored_at, matches, Interned, row_set, write_node, promote, intern}
use Rattle.packing.proofs.FileLaws.{Has, has_less, has_stored, node_with, Reads, At, at_more, zero_at, grown_more, written_reads, written_at}

-- ---- records that say the same

pub record Alike (b c : BuilderNode) : Type 0 where
  pub final : b.final ≡ c.final
  pub final_output : b.final_output ≡ c.final_output
  pub transitions : transitions_in b ≡ transitions_in c

pub alike_sym : {b c : BuilderNode} → Alike b c → Alike c b
alike_sym s = record { final = sym s.final; final_output = sym s.final_output; transitions = sym s.transitions }

pub alike_trans : {b c d : BuilderNode} → Alike b c → Alike c d → Alike b d
alike_trans s t = record { final = s.final ∙ t.final; final_output = s.final_output ∙ t.final_output; transitions = s.transitions ∙ t.transitions }

pub alike_hash : {b c : BuilderNode} → Alike b c → hash_of b ≡ hash_of c
unfolding hash_of
alike_hash s = rw (s.final, s.final_output, s.transitions)

pub reads_alike : {g : Fst} {a : ℕ} {b c : BuilderNode} → Alike b c → Reads g a b → Reads g a c
reads_alike s r = record { first = r.first; is = r.is ∙ (rw (s.final, s.final_output, s.transitions)) }

pub at_alike : {nodes : List ℕ} {a : ℕ} {b c : BuilderNode} → Alike b c → At nodes b a → At nodes c a
at_alike s r = record { reads = λ g h. reads_alike s (r.reads g h) }

-- one node, read as two records
pub reads_same : {g : Fst} {a : ℕ} {b c : BuilderNode} → Reads g a b → Reads g a c → Alike b c
reads_same {g} {a} {b} {c} r s =
    let e = r.is in
    let e' = s.is in
    let same : node_with r.first b ≡ node_with s.first c = cc in
    record {
      final = ap (λ (m : Node). m.final) same;
      final_output = ap (λ (m : Node). m.final_output) same;
      transitions = ap (λ (m : Node). m.transitions) same;
    }

-- ---- the test on a stored node

abbrev transition_with : ℕ → ℕ → ℕ → Transition
transition_with i o a = record { inp = i; out = o; addr = a }

same_transition : (t u : Transition) → t.inp ≡ u.inp → t.out ≡ u.out → t.addr ≡ u.addr → t ≡ u
same_transition t u p q r =
    ap (λ (i : ℕ). transition_with i t.out t.addr) p ∙ ap (λ (o : ℕ). transition_with u.inp o t.addr) q
    ∙ ap (λ (a : ℕ). transition_with u.inp u.out a) r

same_transitions_means : (ts us : List Transition) → same_transitions ts us ≡ true → ts ≡ us
unfolding same_transitions
same_transitions_means [] [] e = refl
same_transitions_means [] (u ∷ us) e = absurd (let z : ◌≡◌ {A = ℕ} 0 1 = cc in omega arith)
same_transitions_means (t ∷ ts) [] e = absurd (let z : ◌≡◌ {A = ℕ} 0 1 = cc in omega arith)
same_transitions_means (t ∷ ts) (u ∷ us) e =
    by (eqb t.inp u.inp) refl (eqb t.out u.out) refl (eqb t.addr u.addr) refl (same_transitions ts us) (λ q. same_transitions_means ts us q) e
  where
    heads : t.inp ≡ u.inp → t.out ≡ u.out → t.addr ≡ u.addr → ts ≡ us → t ∷ ts ≡ u ∷ us
    heads p q r s = ap₂ (λ (x : Transition) (xs : List Transition). x ∷ xs) (same_transition t u p q r) s

    by : (p : Bool) → eqb t.inp u.inp ≡ p → (q : Bool) → eqb t.out u.out ≡ q → (r : Bool) → eqb t.addr u.addr ≡ r
        → (s : Bool) → (s ≡ true → ts ≡ us) → (p && (q && (r && s))) ≡ true → t ∷ ts ≡ u ∷ us
    by true p true q true r s rest is = heads (eqb-true t.inp u.inp p) (eqb-true t.out u.out q) (eqb-true t.addr u.addr r) (rest is)
    by false p q q_is r r_is s rest is = absurd (let z : ◌≡◌ {A = ℕ} 0 1 = cc in omega arith)
    by true p false q r r_is s rest is = absurd (let z : ◌≡◌ {A = ℕ} 0 1 = cc in omega arith)
    by true p true q false r s rest is = absurd (let z : ◌≡◌ {A = ℕ} 0 1 = cc in omega arith)

same_transitions_self : (ts : List Transition) → same_transitions ts ts ≡ true
unfolding same_transitions
same_transitions_self [] = refl
same_transitions_self (t ∷ ts) =
    rw (eq-eqb t.inp t.inp refl, eq-eqb t.out t.out refl, eq-eqb t.addr t.addr refl) (same_transitions_self ts)

same_bool_means : (b c : Bool) → same_bool b c ≡ true → b ≡ c
same_bool_means true true e = refl
same_bool_means true false e = sym e
same_bool_means false true e = e
same_bool_means false false e = refl

same_bool_self : (b : Bool) → same_bool b b ≡ true
same_bool_self true = refl
same_bool_self false = refl

same_node_means : (first : ℕ) (c b : BuilderNode) → same_node (sound (node_with first c)) b ≡ true → Alike c b
same_node_means first c b e =
    let p : Bool = same_bool c.final b.final in
    let q : Bool = eqb c.final_output b.final_output in
    let r : Bool = same_transitions (transitions_in c) (transitions_in b) in
    record {
      final = same_bool_means c.final b.final (and_parts p (q && r) e).0;
      final_output = eqb-true c.final_output b.final_output (and_parts q r (and_parts p (q && r) e).1).0;
      transitions = same_transitions_means (transitions_in c) (transitions_in b) (and_parts q r (and_parts p (q && r) e).1).1;
    }

same_node_of : (first : ℕ) (c b : BuilderNode) → Alike c b → same_node (sound (node_with first c)) b ≡ true
same_node_of first c b s =
    rw (s.final, s.final_output, s.transitions, same_bool_self b.final, eq-eqb b.final_output b.final_output refl, same_transitions_self (transitions_in b))

-- ---- a cell that matches

module _ (nodes : List ℕ) (small : 15 + length nodes < max_len) (b : BuilderNode) where
  -- what stands at the cell's address is known
  pub match_means : (c : Cell) (d : BuilderNode) → At nodes d c.addr → matches nodes b c ≡ true → Alike d b
  unfolding matches
  match_means c d at e =
      let r = at.reads (fst_with (replicate 16 0 ++ nodes) 2 (15 + length nodes)) (has_stored nodes small) in
      let p : Bool = not (eqb c.addr 1) in
      let q : Bool = eqb c.hash (hash_of b) in
      let z : Bool = same_node (stored_at nodes c.addr) b in
      same_node_means r.first d b (subst (λ (j : Judgement). same_node j b ≡ true) r.is (and_parts q z (and_parts p (q && z) e).1).1)

  pub match_filled : (c : Cell) → matches nodes b c ≡ true → ¬ (c.addr ≡ 1)
  unfolding matches
  match_filled c e z =
      let p : Bool = not (eqb c.addr 1) in
      let q : Bool = eqb c.hash (hash_of b) in
      let y : Bool = same_node (stored_at nodes c.addr) b in
      let filled : p ≡ true = (and_parts p (q && y) e).0 in
      let empty : p ≡ false = rw (eq-eqb c.addr 1 z) in
      absurd (let w : true ≡ false = sym filled ∙ empty in let v : ◌≡◌ {A = ℕ} 0 1 = cc in omega arith)

  pub match_of : (c : Cell) (d : BuilderNode) → At nodes d c.addr → ¬ (c.addr ≡ 1) → c.hash ≡ hash_of b → Alike d b → matches nodes b c ≡ true
  unfolding matches
  match_of c d at filled hash s =
      let r = at.reads (fst_with (replicate 16 0 ++ nodes) 2 (15 + length nodes)) (has_stored nodes small) in
      rw (ne_eqb c.addr 1 filled, eq-eqb c.hash (hash_of b) hash) (subst (λ (j : Judgement). same_node j b ≡ true) (sym r.is) (same_node_of r.first d b s))
