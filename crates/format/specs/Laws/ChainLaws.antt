-- Laws of the chain of `Admitted`: it is one list, its addresses have sound nodes, and they lie from 16 to the node it starts from.
--     chain-..          of the chain from any node
--     root-chain-..     of the file's chain, where root 0 has none
--     dec_mem           whether an address is on a list
-- Assumes nothing.
use Rattle.std.specs.Prelude.{◌≡◌, refl, ◌⊎◌, ℕ, ◌-◌, ◌≤◌}
use Rattle.std.proofs.Common.{sym, ap, ◌∙◌, subst, inl, inr, ⊎_elim, arith}
use mathlib.Core.List.Memᴰ
use mathlib.Core.List.{List, [], ◌∷◌, Memᴰ}
use Rattle.std.proofs.Math.Decide.{ℕ_discrete}
use Rattle.format.specs.Limits.{first_node}
use Rattle.format.specs.Node.{Node, sound}
use Rattle.format.specs.Paths.{Fst, node_in}
use Rattle.format.specs.Admitted.{Chain, last, next, RootChain, empty, rooted}
use Rattle.format.specs.Laws.NodeFacts.{node_zero, node_first_low, node_first_le}

-- ---- a chain taken apart

-- the chain l from a is a and then the chain from the node that ends below it
pub record ChainNext (f : Fst) (a : ℕ) (l : List ℕ) : Type 0 where
  pub node : Node
  pub judged : node_in f a ≡ sound node
  pub more : ¬ (node.first ≡ first_node)
  pub others : List ℕ
  pub rest : Chain f (node.first - 1) others
  pub list_is : l ≡ a ∷ others

pub record ChainLast (f : Fst) (a : ℕ) (l : List ℕ) : Type 0 where
  pub node : Node
  pub judged : node_in f a ≡ sound node
  pub done : node.first ≡ first_node
  pub list_is : l ≡ a ∷ []

pub chain_cases : {f : Fst} {a : ℕ} {l : List ℕ} → Chain f a l → ChainLast f a l ⊎ ChainNext f a l
chain_cases (last m e done) = inl (record { node = m; judged = e; done = done; list_is = refl })
chain_cases (next {l = l} m e more c) = inr (record { node = m; judged = e; more = more; others = l; rest = c; list_is = refl })

-- ---- the chain is one list

pub chain_unique : {f : Fst} {a : ℕ} {l l' : List ℕ} → Chain f a l → Chain f a l' → l ≡ l'
chain_unique {f} {a} {l' = l'} (last m e done) c = go (chain_cases c)
  where
    go : ChainLast f a l' ⊎ ChainNext f a l' → a ∷ [] ≡ l'
    go (inl z) = sym z.list_is
    go (inr n) =
        let e' = n.judged in
        let same : n.node ≡ m = cc in
        absurd (n.more (ap (λ (x : Node). x.first) same ∙ done))
chain_unique {f} {a} {l' = l'} (next {l = l} m e more c) d = go (λ k d. chain_unique c d) (chain_cases d)
  where
    go : ((k : List ℕ) → Chain f (m.first - 1) k → l ≡ k) → ChainLast f a l' ⊎ ChainNext f a l' → a ∷ l ≡ l'
    go below (inl z) =
        let e' = z.judged in
        let same : z.node ≡ m = cc in
        absurd (more (ap (λ (x : Node). x.first) (sym same) ∙ z.done))
    go below (inr n) =
        let e' = n.judged in
        let same : n.node ≡ m = cc in
        ap (λ k. a ∷ k) (below n.others (subst (λ (x : Node). Chain f (x.first - 1) n.others) same n.rest)) ∙ sym n.list_is

-- ---- the addresses of the chain

pub chain_not_zero : {f : Fst} {a : ℕ} {l : List ℕ} → Chain f a l → ¬ (a ≡ 0)
chain_not_zero {f} {a} (last m e done) z = omega (arith, ap (λ (x : Node). x.first) (node_zero f a m e z))
chain_not_zero {f} {a} (next m e more c) z = chain_not_zero c (omega (arith, ap (λ (x : Node). x.first) (node_zero f a m e z)))

pub chain_start_low : {f : Fst} {a : ℕ} {l : List ℕ} → Chain f a l → 16 ≤ a
chain_start_low {f} {a} c = go (chain_not_zero c) (chain_cases c)
  where
    go : {l : List ℕ} → ¬ (a ≡ 0) → ChainLast f a l ⊎ ChainNext f a l → 16 ≤ a
    go ne (inl z) = omega (arith, node_first_low f a z.node z.judged ne, node_first_le f a z.node z.judged ne)
    go ne (inr n) = omega (arith, node_first_low f a n.node n.judged ne, node_first_le f a n.node n.judged ne)

pub chain_head : {f : Fst} {a : ℕ} {l : List ℕ} → Chain f a l → Memᴰ a l
chain_head (last m e done) = Memᴰ.head refl
chain_head (next m e more c) = Memᴰ.head refl

-- what holds of every start of a chain holds of every member
chain_all : {f : Fst} {a : ℕ} {l : List ℕ} (P : ℕ → Type 0) → ((b : ℕ) (k : List ℕ) → Chain f b k → P b) → Chain f a l → (j : ℕ) → Memᴰ j l → P j
chain_all {a = a} P each (last m e done) j mem = subst P (sym (Memᴰ.eq_of_singleton mem)) (each a (a ∷ []) (last m e done))
chain_all {a = a} P each (next {l = l} m e more c) j mem =
    ⊎_elim (λ q. subst P (sym q) (each a (a ∷ l) (next m e more c))) (λ k. chain_all P each c j k) (Memᴰ.cases_cons mem)

pub chain_sound : {f : Fst} {a : ℕ} {l : List ℕ} → Chain f a l → (j : ℕ) → Memᴰ j l → (m : Node) × (node_in f j ≡ sound m)
chain_sound {f} c = chain_all (λ j. (m : Node) × (node_in f j ≡ sound m)) (λ b k d. go b k (chain_cases d)) c
  where
    go : (b : ℕ) (k : List ℕ) → ChainLast f b k ⊎ ChainNext f b k → (m : Node) × (node_in f b ≡ sound m)
    go b k (inl z) = (z.node, z.judged)
    go b k (inr n) = (n.node, n.judged)

pub chain_low : {f : Fst} {a : ℕ} {l : List ℕ} → Chain f a l → (j : ℕ) → Memᴰ j l → 16 ≤ j
chain_low c = chain_all (λ j. 16 ≤ j) (λ b k d. chain_start_low d) c

pub chain_le : {f : Fst} {a : ℕ} {l : List ℕ} → Chain f a l → (j : ℕ) → Memᴰ j l → j ≤ a
chain_le (last m e done) j mem = omega (arith, Memᴰ.eq_of_singleton mem)
chain_le {f} {a} (next m e more c) j mem =
    let le = node_first_le f a m e (chain_not_zero (next m e more c)) in
    ⊎_elim (λ q. omega arith) (λ k. omega (arith, chain_le c j k)) (Memᴰ.cases_cons mem)

-- ---- the file's chain

pub root_chain_cases : {f : Fst} {l : List ℕ} → RootChain f l → ((f.root ≡ 0) × (l ≡ [])) ⊎ ((¬ (f.root ≡ 0)) × Chain f f.root l)
root_chain_cases (empty z) = inl (z, refl)
root_chain_cases (rooted ne c) = inr (ne, c)

pub root_chain_unique : {f : Fst} {l l' : List ℕ} → RootChain f l → RootChain f l' → l ≡ l'
root_chain_unique (empty z) d = ⊎_elim (λ h. sym h.1) (λ h. absurd (h.0 z)) (root_chain_cases d)
root_chain_unique (rooted ne c) d = ⊎_elim (λ h. absurd (ne h.0)) (λ h. chain_unique c h.1) (root_chain_cases d)

-- an address is on the file's chain only where the root is not 0
pub root_chain_of : {f : Fst} {l : List ℕ} {j : ℕ} → RootChain f l → Memᴰ j l → Chain f f.root l
root_chain_of (empty z) mem = absurd (Memᴰ.not-nil mem)
root_chain_of (rooted ne c) mem = c

pub root_chain_sound : {f : Fst} {l : List ℕ} → RootChain f l → (j : ℕ) → Memᴰ j l → (m : Node) × (node_in f j ≡ sound m)
root_chain_sound c j mem = chain_sound (root_chain_of c mem) j mem

pub root_chain_low : {f : Fst} {l : List ℕ} → RootChain f l → (j : ℕ) → Memᴰ j l → 16 ≤ j
root_chain_low c j mem = chain_low (root_chain_of c mem) j mem

pub root_chain_le : {f : Fst} {l : List ℕ} → RootChain f l → (j : ℕ) → Memᴰ j l → j ≤ f.root
root_chain_le c j mem = chain_le (root_chain_of c mem) j mem

pub root_chain_root : {f : Fst} {l : List ℕ} → RootChain f l → ¬ (f.root ≡ 0) → Memᴰ f.root l
root_chain_root c ne = ⊎_elim (λ h. absurd (ne h.0)) (λ h. chain_head h.1) (root_chain_cases c)

-- ---- membership is decided

pub dec_mem : (j : ℕ) (l : List ℕ) → Dec (Memᴰ j l)
dec_mem j [] = no (λ m. Memᴰ.not-nil m)
dec_mem j (a ∷ l) = go (ℕ_discrete j a) (dec_mem j l)
  where
    go : Dec (j ≡ a) → Dec (Memᴰ j l) → Dec (Memᴰ j (a ∷ l))
    go (yes e) r = yes (Memᴰ.head e)
    go (no e) (yes m) = yes (Memᴰ.tail m)
    go (no e) (no m) = no (λ k. ⊎_elim e m (Memᴰ.cases_cons k))
