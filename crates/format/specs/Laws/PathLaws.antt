-- Laws of `Paths`: a path taken apart and put together, and that a key determines its path and its value.
--     path_nil, path_step            a path along no byte; a path along a first byte and the rest
--     path_append, path_snoc, path_split     two paths in a row
--     path_unique, held_unique       one key, one path, one value
--     path_ends_low                  a path never leads up
-- Assumes nothing.
use Rattle.std.specs.Prelude.{◌≡◌, refl, ◌⊎◌, ℕ, ◌+◌, ◌≤◌, ◌<◌, length}
use Rattle.std.proofs.Common.{sym, ap, ◌∙◌, subst, inl, inr, ⊎_elim, add_assoc, zero-add, add-zero, arith}
use mathlib.Core.List.{List, [], ◌∷◌, ◌++◌, Memᴰ}
use Rattle.format.specs.declared.Transition.{Transition}
use Rattle.format.specs.Node.{Node, sound}
use Rattle.format.specs.Paths.{Fst, node_in, Path, here, follow, Held}
use Rattle.format.specs.Laws.NodeLaws.{sound_not_empty}
use Rattle.format.specs.Laws.NodeFacts.{node_same, node_target_lt}

-- ---- a path taken apart

-- a path along the byte x and then along k
pub record PathStep (f : Fst) (a x : ℕ) (k : List ℕ) (sum b : ℕ) : Type 0 where
  pub node : Node
  pub by : Transition
  pub judged : node_in f a ≡ sound node
  pub member : Memᴰ by node.transitions
  pub inp_is : by.inp ≡ x
  pub more : ℕ
  pub rest : Path f by.addr k more b
  pub sum_is : sum ≡ by.out + more

path_cases : {f : Fst} {a : ℕ} {k : List ℕ} {sum b : ℕ} → Path f a k sum b
    → ((k ≡ []) × (sum ≡ 0) × (b ≡ a)) ⊎ ((x : ℕ) × (k' : List ℕ) × (k ≡ x ∷ k') × PathStep f a x k' sum b)
path_cases here = inl (refl, refl, refl)
path_cases (follow {k = k} {sum = sum} m t e mem p) =
    inr (t.inp, k, refl, record { node = m; by = t; judged = e; member = mem; inp_is = refl; more = sum; rest = p; sum_is = refl })

pub path_nil : {f : Fst} {a sum b : ℕ} → Path f a [] sum b → (sum ≡ 0) × (b ≡ a)
path_nil p = ⊎_elim (λ h. (h.1, h.2)) (λ h. absurd (let e = h.2 in let z : ◌≡◌ {A = ℕ} 0 1 = cc in omega arith)) (path_cases p)

pub path_step : {f : Fst} {a x : ℕ} {k : List ℕ} {sum b : ℕ} → Path f a (x ∷ k) sum b → PathStep f a x k sum b
path_step {f} {a} {x} {k} {sum} {b} p = go (path_cases p)
  where
    go : ((x ∷ k ≡ []) × (sum ≡ 0) × (b ≡ a)) ⊎ ((y : ℕ) × (k' : List ℕ) × (x ∷ k ≡ y ∷ k') × PathStep f a y k' sum b) → PathStep f a x k sum b
    go (inl (e, _, _)) = absurd (let z : ◌≡◌ {A = ℕ} 0 1 = cc in omega arith)
    go (inr (y, k', e, s)) =
        let head : y ≡ x = cc in
        let tail : k' ≡ k = cc in
        rw (head, tail) at s

-- ---- two paths in a row

pub path_append : {f : Fst} {a : ℕ} {k : List ℕ} {sum b : ℕ} {k' : List ℕ} {sum' c : ℕ} → Path f a k sum b → Path f b k' sum' c
    → Path f a (k ++ k') (sum + sum') c
path_append here q = rw zero-add q
path_append (follow m t e mem p) q = rw add_assoc (follow m t e mem (path_append p q))

-- one transition more
pub path_snoc : {f : Fst} {a : ℕ} {k : List ℕ} {sum b : ℕ} (m : Node) (t : Transition) → Path f a k sum b → node_in f b ≡ sound m
    → Memᴰ t m.transitions → Path f a (k ++ (t.inp ∷ [])) (sum + t.out) t.addr
path_snoc {f} m t p e mem =
    let last : Path f _ (t.inp ∷ []) t.out t.addr = rw add-zero at (follow m t e mem (here {a = t.addr})) in
    path_append p last

-- a path along k and then along k', by the node between them
pub record PathSplit (f : Fst) (a : ℕ) (k k' : List ℕ) (sum c : ℕ) : Type 0 where
  pub middle : ℕ
  pub sum_to : ℕ
  pub sum_from : ℕ
  pub to : Path f a k sum_to middle
  pub from : Path f middle k' sum_from c
  pub sum_is : sum ≡ sum_to + sum_from

pub path_split : {f : Fst} {a : ℕ} (k k' : List ℕ) {sum c : ℕ} → Path f a (k ++ k') sum c → PathSplit f a k k' sum c
path_split {f = f} {a = a} [] k' {sum} p = record { middle = a; sum_to = 0; sum_from = sum; to = here; from = p; sum_is = sym (zero-add sum) }
path_split {f = f} {a = a} (x ∷ k) k' {sum = sum} {c = c} p =
    let s = path_step p in
    let r = path_split {f = f} {a = s.by.addr} k k' {sum = s.more} {c = c} s.rest in
    record {
      middle = r.middle;
      sum_to = s.by.out + r.sum_to;
      sum_from = r.sum_from;
      to = rw s.inp_is at (follow s.node s.by s.judged s.member r.to);
      from = r.from;
      sum_is = omega (arith, s.sum_is, r.sum_is);
    }

-- ---- a key determines its path

-- the transitions of one node by one byte are one transition
step_same : (f : Fst) (a : ℕ) (m : Node) (t : Transition) → node_in f a ≡ sound m → Memᴰ t m.transitions → (n : Node) (u : Transition)
    → node_in f a ≡ sound n → Memᴰ u n.transitions → u.inp ≡ t.inp → u ≡ t
step_same f a m t e mem n u e' mem' same =
    let q : n ≡ m = cc in
    node_same f a m e u t (rw q at mem') mem same

pub path_unique : {f : Fst} {a : ℕ} {k : List ℕ} {sum b sum' b' : ℕ} → Path f a k sum b → Path f a k sum' b' → (sum ≡ sum') × (b ≡ b')
path_unique here q = let r = path_nil q in (sym r.0, sym r.1)
path_unique {f} {a} {b' = b'} (follow {k = k} m t e mem p) q =
    let s = path_step q in
    let same = step_same f a m t e mem s.node s.by s.judged s.member s.inp_is in
    let rest = subst (λ (u : Transition). Path f u.addr k s.more b') same s.rest in
    let r = path_unique p rest in
    (ap (λ x. t.out + x) r.0 ∙ ap (λ (u : Transition). u.out + s.more) (sym same) ∙ sym s.sum_is, r.1)

pub held_unique : {f : Fst} {k : List ℕ} {v w : ℕ} → Held f k v → Held f k w → v ≡ w
held_unique {f} h g =
    let r = path_unique h.path g.path in
    let ends : node_in f h.to ≡ sound g.last = ap (node_in f) r.1 ∙ g.ends in
    let e = h.ends in
    let same : h.last ≡ g.last = cc in
    h.value ∙ (rw (r.0, same)) ∙ sym g.value

-- ---- targets lie below their node

pub path_ends_low : {f : Fst} {a : ℕ} {k : List ℕ} {sum b : ℕ} → Path f a k sum b → b ≤ a
path_ends_low here = omega arith
path_ends_low {f} {a} (follow m t e mem p) = omega (arith, path_ends_low p, node_target_lt f a m e t mem)

-- a file without bytes holds no key, whatever its version and its root are taken to be
pub held_not_empty : {f : Fst} {k : List ℕ} {v : ℕ} → Held f k v → 0 < length f.bytes
held_not_empty {f} h = sound_not_empty f.bytes f.version f.root h.to h.last h.ends

pub blank_held : {f : Fst} {k : List ℕ} {v : ℕ} → length f.bytes ≡ 0 → ¬ Held f k v
blank_held z h = omega (arith, held_not_empty h)
