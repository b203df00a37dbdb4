-- Where each node went (document 02, N7): `mirrors` and `table_tells`.
--     Tells, Along          along a chain: a node has the new address 0 exactly where it vanishes, and the order stays
--     mirrors               an admitted file whose root does not vanish
--     table_tells           each entry of the table
-- Assumes nothing.
use Rattle.std.specs.Prelude.{◌≡◌, Bool, true, false, ℕ, ◌+◌, ◌-◌, ◌≤◌, ◌<◌, eqb, length, get_or}
use Rattle.std.proofs.Math.Path.{refl, sym, ap}
use Rattle.std.proofs.Common.{ap₂, ◌∙◌, subst, arith}
use Rattle.std.proofs.Math.Bool.{cond}
use Rattle.std.proofs.Math.Logic.{⊎_elim}
use mathlib.Core.List.Memᴰ
use mathlib.Core.List.{List, [], ◌∷◌, map, Memᴰ}
use Rattle.format.specs.Limits.{max_len}
use Rattle.format.specs.Node.{Node, sound}
use Rattle.format.specs.Laws.NodeFacts.{node_first_low, node_first_le}
use Rattle.format.specs.Packed.{BuilderNode, packed, packs_to_nothing, node_addr}
use Rattle.format.specs.Laws.PackedLaws.{get_d_up_from}
use Rattle.format.specs.Paths.{Fst, node_in}
use Rattle.format.specs.Admitted.{Chain, last, next, Admitted}
use Rattle.format.specs.Laws.ChainLaws.{chain_not_zero, chain_le}
use Rattle.converting.specs.Converting.{vanishes, Moved, new_addr, record_of, Laid, lay_out, laid, moved_to, converted, table_of}
use Rattle.converting.specs.Converted.{nonzero, old_fst, new_fst, Mirrors, Told}
use Rattle.converting.specs.Laws.LayLaws.{vanishes_nothing, lay_out_is, packed_pos, new_addr_here, new_addr_other}
use Rattle.converting.specs.Standing.{new_nodes}
use Rattle.converting.specs.Laws.ConvertedLaws.{new_addr_off, zero_vanished, laid_is, old_chain, mirrors_kept}
use Rattle.converting.specs.Laws.AdmittedLaws.{new_nodes_hold, new_chain}

-- ---- along a chain

-- the new address of the node that is laid out at first
node_addr_zero : (first : ℕ) (b : BuilderNode) → 16 ≤ first → (t : Bool) → packs_to_nothing b ≡ t
    → (t ≡ true → node_addr first b ≡ 0) × (t ≡ false → ¬ (node_addr first b ≡ 0))
node_addr_zero first b low true e = (λ _. rw e, λ q. absurd (let z : ◌≡◌ {A = ℕ} 0 1 = cc in omega arith))
node_addr_zero first b low false e = (
  λ q. absurd (let z : ◌≡◌ {A = ℕ} 0 1 = cc in omega arith),
  λ _ z. let p = packed_pos first b e in let is : node_addr first b ≡ first + length (packed first b) - 1 = rw e in omega arith,
)

abbrev pub Tells : Fst → List Moved → ℕ → Type 0
Tells f ms j = (vanishes (node_in f j) ≡ true → new_addr ms j ≡ 0) × (vanishes (node_in f j) ≡ false → ¬ (new_addr ms j ≡ 0))

pub record Along (f : Fst) (l : List ℕ) (ms : List Moved) : Type 0 where
  pub tells : (j : ℕ) → Memᴰ j l → Tells f ms j
  pub order : new_nodes ms ≡ nonzero (map (new_addr ms) l)

map_agree : (g h : ℕ → ℕ) (l : List ℕ) → ((j : ℕ) → Memᴰ j l → g j ≡ h j) → map g l ≡ map h l
map_agree g h [] e = refl
map_agree g h (a ∷ l) e = ap₂ ◌∷◌ (e a (Memᴰ.head refl)) (map_agree g h l (λ j mem. e j (Memᴰ.tail mem)))

module _ (f : Fst) (bytes : (i : ℕ) → get_or f.bytes i 0 < 256) where
  along_cons : (a : ℕ) (l : List ℕ) (x : Moved) (ms : List Moved) → x.from ≡ a → ((j : ℕ) → Memᴰ j l → j < a)
      → ((vanishes (node_in f a) ≡ true → x.to ≡ 0) × (vanishes (node_in f a) ≡ false → ¬ (x.to ≡ 0)))
      → Along f l ms → Along f (a ∷ l) (x ∷ ms)
  unfolding new_nodes nonzero
  along_cons a l x ms is lower head below = record {
    tells = λ j mem.
        ⊎_elim
        (λ z. let here : new_addr (x ∷ ms) j ≡ x.to = new_addr_here x ms j (is ∙ sym z) in
        (λ v. here ∙ head.0 (ap (λ (i : ℕ). vanishes (node_in f i)) (sym z) ∙ v), λ v q. head.1 (ap (λ (i : ℕ). vanishes (node_in f i)) (sym z) ∙ v) (sym here ∙ q)))
        (λ k. (λ v. other j k ∙ (below.tells j k).0 v, λ v q. (below.tells j k).1 v (sym (other j k) ∙ q)))
        (Memᴰ.cases_cons mem);
    order =
        ap (λ (ns : List ℕ). cond (eqb x.to 0) ns (x.to ∷ ns)) (below.order ∙ ap nonzero (map_agree (new_addr ms) (new_addr (x ∷ ms)) l (λ j k. sym (other j k))))
        ∙ ap (λ (n : ℕ). nonzero (n ∷ map (new_addr (x ∷ ms)) l)) (sym (new_addr_here x ms a is));
  }
    where
      other : (j : ℕ) → Memᴰ j l → new_addr (x ∷ ms) j ≡ new_addr ms j
      other j k = new_addr_other x ms j (λ z. omega (arith, lower j k, is))

  along_step : (a : ℕ) (l : List ℕ) (m : Node) → node_in f a ≡ sound m → ((j : ℕ) → Memᴰ j l → j < a)
      → Along f l (lay_out f l).moved → Along f (a ∷ l) (lay_out f (a ∷ l)).moved
  along_step a l m e lower below =
      let r : Laid = lay_out f l in
      let z = node_addr_zero (16 + length r.nodes) (record_of r.moved m) (omega arith) (vanishes (sound m)) (vanishes_nothing r.moved m) in
      let v = ap vanishes e in
      subst (λ (q : Laid). Along f (a ∷ l) q.moved) (sym (lay_out_is f a l m e))
      (along_cons a l _ r.moved refl lower (λ h. z.0 (sym v ∙ h), λ h. z.1 (sym v ∙ h)) below)

  along_none : Along f [] (lay_out f []).moved
  unfolding lay_out new_nodes nonzero
  along_none = record { tells = λ j mem. absurd (Memᴰ.not-nil mem); order = refl }

  pub along : {a : ℕ} {l : List ℕ} → Chain f a l → Along f l (lay_out f l).moved
  along {a} (last m e done) = along_step a [] m e (λ j k. absurd (Memᴰ.not-nil k)) along_none
  along {a} (next {l = l} m e more d) =
      let ne = chain_not_zero (next m e more d) in
      along_step a l m e (λ j k. omega (arith, chain_le d j k, node_first_le f a m e ne, node_first_low f a m e ne)) (along d)

-- ---- an admitted file

module _ {s : List ℕ} (A : Admitted s) (has_bytes : 0 < length s) (bytes : (i : ℕ) → get_or s i 0 < 256) where
  module _ (kept : vanishes (node_in (old_fst A) A.meta.root) ≡ false) where
    moved_along : Along (old_fst A) A.nodes (laid A).moved
    moved_along = subst (λ (r : Laid). Along (old_fst A) A.nodes r.moved) (sym (laid_is A has_bytes kept)) (along (old_fst A) bytes (old_chain A has_bytes kept))

    pub mirrors : length (converted A) ≤ max_len → Mirrors A
    mirrors small =
        record {
          mirror = mirrors_kept A has_bytes kept bytes small;
          chain = subst (Chain (new_fst A) (new_fst A).root) moved_along.order (new_chain A has_bytes kept bytes small);
          member = λ a mem v. subst (Memᴰ (moved_to A a)) moved_along.order (new_nodes_hold (laid A).moved a ((moved_along.tells a mem).1 v));
          vanished = λ a mem v. (moved_along.tells a mem).0 v;
        }

  entry_told : (a : ℕ) → a < length s → get_or (table_of A) a 0 ≡ moved_to A a
  unfolding table_of
  entry_told a l = get_d_up_from (moved_to A) 0 (length s) a l ∙ ap (moved_to A) (omega arith)

  pub table_tells : (a : ℕ) → Told A a
  table_tells a = go (vanishes (node_in (old_fst A) A.meta.root)) refl
    where
      go : (t : Bool) → vanishes (node_in (old_fst A) A.meta.root) ≡ t → Told A a
      go true gone =
          record {
            entry = entry_told a;
            gone = λ _. zero_vanished A has_bytes gone a;
            off = λ _. zero_vanished A has_bytes gone a;
            vanished = λ _ _. zero_vanished A has_bytes gone a;
            kept = λ h. absurd (let q : ◌≡◌ {A = Bool} true false = sym gone ∙ h in let z : ◌≡◌ {A = ℕ} 0 1 = cc in omega arith);
          }
      go false kept =
          record {
            entry = entry_told a;
            gone = λ h. zero_vanished A has_bytes h a;
            off = λ away. ap (λ (r : Laid). new_addr r.moved a) (laid_is A has_bytes kept) ∙ new_addr_off (old_fst A) A.nodes a away;
            vanished = λ mem v. ((moved_along kept).tells a mem).0 v;
            kept = λ _ mem v. ((moved_along kept).tells a mem).1 v;
          }
