-- Laws of `Tables`: the equations of `longest` and `largest_sum`, and that these numbers are the largest over paths: each is attained by
-- a path, and exceeded by none.
--     max_same, max_bound, max_attained      the largest over a list of transitions
--     longest_at, largest_at                 the equations, of any address; longest_of, largest_of of a sound node
--     longest_bound, largest_bound           exceeded by no path
--     longest_attained, largest_attained     attained by a path, from a node of a set whose nodes are sound and lead into it
-- Assumes nothing.
use Rattle.std.specs.Prelude.{◌≡◌, refl, ◌⊎◌, ℕ, zero, suc, ◌+◌, ◌-◌, ◌≤◌, ◌<◌, max, length}
use Rattle.std.proofs.Common.{sym, ap, ◌∙◌, inl, inr, ⊎_elim, arith}
use mathlib.Core.List.Memᴰ
use mathlib.Core.List.{List, [], ◌∷◌, Memᴰ}
use Rattle.std.proofs.Math.Decide.{ℕ_discrete}
use Rattle.format.specs.declared.Transition.{Transition}
use Rattle.format.specs.Node.{Node, Judgement, sound, unsound, empty_final}
use Rattle.format.specs.Laws.NodeLaws.{node_at_zero, node_at_zero_blank, sound_not_empty}
use Rattle.format.specs.Paths.{Fst, node_in, Path, here, follow}
use Rattle.format.specs.Tables.{max_of, transitions_of?, final_output_of?, longest_to, longest, largest_to, largest_sum}
use Rattle.format.specs.Laws.NodeFacts.{node_target_lt}

-- ---- the largest over a list

pub max_same : (g h : Transition → ℕ) (ts : List Transition) → ((t : Transition) → Memᴰ t ts → g t ≡ h t) → max_of g ts ≡ max_of h ts
unfolding max_of
max_same g h [] same = refl
max_same g h (t ∷ ts) same = let p = max_same g h ts (λ u m. same u (Memᴰ.tail m)) in let q = same t (Memᴰ.head refl) in cc

pub max_bound : (g : Transition → ℕ) (ts : List Transition) (t : Transition) → Memᴰ t ts → g t ≤ max_of g ts
unfolding max_of
max_bound g [] t m = absurd (Memᴰ.not-nil m)
max_bound g (u ∷ ts) t m = ⊎_elim (λ e. omega (arith, ap g e)) (λ k. let h = max_bound g ts t k in omega arith) (Memᴰ.cases_cons m)

pub record Best (g : Transition → ℕ) (ts : List Transition) : Type 0 where
  pub by : Transition
  pub member : Memᴰ by ts
  pub best : g by ≡ max_of g ts

pub max_attained : (g : Transition → ℕ) (ts : List Transition) → (max_of g ts ≡ 0) ⊎ Best g ts
unfolding max_of
max_attained g [] = inl refl
max_attained g (t ∷ ts) = go (max_attained g ts) (ℕ_discrete (max (max_of g ts) (g t)) (g t))
  where
    go : (max_of g ts ≡ 0) ⊎ Best g ts → Dec (max (max_of g ts) (g t) ≡ g t) → (max (max_of g ts) (g t) ≡ 0) ⊎ Best g (t ∷ ts)
    go h (yes e) = inr (record { by = t; member = Memᴰ.head refl; best = sym e })
    go (inl z) (no e) = inl (omega arith)
    go (inr b) (no e) = inr (record { by = b.by; member = Memᴰ.tail b.member; best = omega (arith, b.best) })

-- ---- the transitions of a judged node

target_below : (f : Fst) (a : ℕ) (t : Transition) → Memᴰ t (transitions_of? (node_in f a)) → t.addr < a
target_below f a t = go (node_in f a) refl
  where
    go : (j : Judgement) → node_in f a ≡ j → Memᴰ t (transitions_of? j) → t.addr < a
    go (sound m) e mem = node_target_lt f a m e t mem
    go unsound e mem = absurd (Memᴰ.not-nil mem)

-- address 0 has no transitions and output 0, also where there is no node
none_at_zero : (f : Fst) (a : ℕ) → a ≡ 0 → transitions_of? (node_in f a) ≡ []
none_at_zero f a z =
    elim (ℕ_discrete (length f.bytes) 0) [
      | yes n ↦ rw (z, node_at_zero_blank f.bytes f.version f.root n)
      | no n ↦ let pos : 0 < length f.bytes = omega arith in rw (z, node_at_zero f.bytes f.version f.root pos)
    ]

output_at_zero : (f : Fst) → final_output_of? (node_in f 0) ≡ 0
output_at_zero f =
    elim (ℕ_discrete (length f.bytes) 0) [
      | yes n ↦ rw (node_at_zero_blank f.bytes f.version f.root n)
      | no n ↦ let pos : 0 < length f.bytes = omega arith in rw (node_at_zero f.bytes f.version f.root pos)
    ]

max_at_zero : (f : Fst) (g : Transition → ℕ) (a : ℕ) → a ≡ 0 → max_of g (transitions_of? (node_in f a)) ≡ 0
unfolding max_of
max_at_zero f g a z = rw (none_at_zero f a z)

-- ---- a number of each address, once for both tables: the larger of its own number and of the largest g over its transitions

module _ (f : Fst) (own : ℕ → ℕ) (g : Transition → ℕ → ℕ) (val : ℕ → ℕ → ℕ) (at_none : (a : ℕ) → val 0 a ≡ own a)
    (at_suc : (k a : ℕ) → val (suc k) a ≡ max (own a) (max_of (λ t. g t (val k t.addr)) (transitions_of? (node_in f a)))) where
  at_zero : (k a : ℕ) → a ≡ 0 → val k a ≡ own a
  at_zero zero a z = at_none a
  at_zero (suc k) a z = omega (arith, at_suc k a, max_at_zero f (λ t. g t (val k t.addr)) a z)

  -- the count does not matter once it is at least the address
  value_count : (k m a : ℕ) → a ≤ k → a ≤ m → val k a ≡ val m a
  value_count zero m a h i = at_none a ∙ sym (at_zero m a (omega arith))
  value_count (suc k) zero a h i = at_zero (suc k) a (omega arith) ∙ sym (at_none a)
  value_count (suc k) (suc m) a h i =
      at_suc k a
      ∙ ap (max (own a)) (max_same (λ t. g t (val k t.addr)) (λ t. g t (val m t.addr)) (transitions_of? (node_in f a))
      (λ t u. let b = target_below f a t u in ap (g t) (value_count k m t.addr (omega arith) (omega arith))))
      ∙ sym (at_suc m a)

  value_at_lem : (a : ℕ) → val a a ≡ max (own a) (max_of (λ t. g t (val t.addr t.addr)) (transitions_of? (node_in f a)))
  value_at_lem zero = omega (arith, at_none 0, max_at_zero f (λ t. g t (val t.addr t.addr)) 0 refl)
  value_at_lem (suc a) =
      at_suc a (suc a)
      ∙ ap (max (own (suc a))) (max_same (λ t. g t (val a t.addr)) (λ t. g t (val t.addr t.addr)) (transitions_of? (node_in f (suc a)))
      (λ t u. let b = target_below f (suc a) t u in ap (g t) (value_count a t.addr t.addr (omega arith) (omega arith))))

-- ---- the equations

longest_suc : (f : Fst) (k a : ℕ) → longest_to (suc k) f a ≡ max 0 (max_of (λ t. suc (longest_to k f t.addr)) (transitions_of? (node_in f a)))
unfolding longest_to
longest_suc f k a = omega arith

longest_none : (f : Fst) (a : ℕ) → longest_to 0 f a ≡ 0
unfolding longest_to
longest_none f a = refl

pub longest_at : (f : Fst) (a : ℕ) → longest f a ≡ max_of (λ t. suc (longest f t.addr)) (transitions_of? (node_in f a))
unfolding longest
longest_at f a = omega (arith, value_at_lem f (λ a. 0) (λ t x. suc x) (λ k a. longest_to k f a) (longest_none f) (longest_suc f) a)

largest_suc : (f : Fst) (k a : ℕ)
    → largest_to (suc k) f a ≡ max (final_output_of? (node_in f a)) (max_of (λ t. t.out + largest_to k f t.addr) (transitions_of? (node_in f a)))
unfolding largest_to
largest_suc f k a = refl

largest_none : (f : Fst) (a : ℕ) → largest_to 0 f a ≡ final_output_of? (node_in f a)
unfolding largest_to
largest_none f a = refl

pub largest_at : (f : Fst) (a : ℕ)
    → largest_sum f a ≡ max (final_output_of? (node_in f a)) (max_of (λ t. t.out + largest_sum f t.addr) (transitions_of? (node_in f a)))
unfolding largest_sum
largest_at f a =
    value_at_lem f (λ a. final_output_of? (node_in f a)) (λ t x. t.out + x) (λ k a. largest_to k f a) (largest_none f) (largest_suc f) a

-- of a sound node
pub longest_of : (f : Fst) (a : ℕ) (m : Node) → node_in f a ≡ sound m → longest f a ≡ max_of (λ t. suc (longest f t.addr)) m.transitions
longest_of f a m e = longest_at f a ∙ rw e

pub largest_of : (f : Fst) (a : ℕ) (m : Node) → node_in f a ≡ sound m
    → largest_sum f a ≡ max m.final_output (max_of (λ t. t.out + largest_sum f t.addr) m.transitions)
largest_of f a m e = largest_at f a ∙ rw e

pub longest_zero : (f : Fst) → longest f 0 ≡ 0
unfolding max_of
longest_zero f = longest_at f 0 ∙ max_at_zero f (λ t. suc (longest f t.addr)) 0 refl

pub largest_zero : (f : Fst) → largest_sum f 0 ≡ 0
unfolding max_of
largest_zero f = omega (arith, largest_at f 0, output_at_zero f, max_at_zero f (λ t. t.out + largest_sum f t.addr) 0 refl)

-- ---- exceeded by none

pub longest_bound : {f : Fst} {a : ℕ} {k : List ℕ} {sum b : ℕ} → Path f a k sum b → length k ≤ longest f a
longest_bound here = omega arith
longest_bound {f} {a} (follow m t e mem p) =
    omega (arith, longest_bound p, longest_of f a m e, max_bound (λ u. suc (longest f u.addr)) m.transitions t mem)

pub largest_bound : {f : Fst} {a : ℕ} {k : List ℕ} {sum b : ℕ} {m : Node} → Path f a k sum b → node_in f b ≡ sound m → sum + m.final_output ≤ largest_sum f a
largest_bound {f} {a} {m = m} here ends = omega (arith, largest_of f a m ends)
largest_bound {f} {a} (follow n t e mem p) ends =
    omega (arith, largest_bound p ends, largest_of f a n e, max_bound (λ u. u.out + largest_sum f u.addr) n.transitions t mem)

-- ---- attained

-- a path from a of n transitions
pub record LongPath (f : Fst) (a n : ℕ) : Type 0 where
  pub key : List ℕ
  pub sum : ℕ
  pub to : ℕ
  pub path : Path f a key sum to
  pub length_is : length key ≡ n

-- a path from a whose sum is n, the final output of its end included
pub record HeavyPath (f : Fst) (a n : ℕ) : Type 0 where
  pub key : List ℕ
  pub sum : ℕ
  pub to : ℕ
  pub last : Node
  pub path : Path f a key sum to
  pub ends : node_in f to ≡ sound last
  pub total_is : sum + last.final_output ≡ n

module _ (f : Fst) (S : ℕ → Type 0) (sounds : (a : ℕ) → S a → (m : Node) × (node_in f a ≡ sound m))
    (closed : (a : ℕ) (m : Node) (t : Transition) → S a → node_in f a ≡ sound m → Memᴰ t m.transitions → ¬ (t.addr ≡ 0) → S t.addr) where
  -- W a x: the number x is attained from a. The node's own number is, and with a target's number the one by its transition
  module _ (own : ℕ → ℕ) (g : Transition → ℕ → ℕ) (val : ℕ → ℕ) (W : ℕ → ℕ → Type 0)
      (val_of : (a : ℕ) (m : Node) → node_in f a ≡ sound m → val a ≡ max (own a) (max_of (λ t. g t (val t.addr)) m.transitions))
      (stop : (a : ℕ) (m : Node) → node_in f a ≡ sound m → W a (own a))
      (step : (a : ℕ) (m : Node) (t : Transition) (x : ℕ) → node_in f a ≡ sound m → Memᴰ t m.transitions → W t.addr x → W a (g t x)) where
    attained_step : (a : ℕ) (m : Node) → node_in f a ≡ sound m → ((t : Transition) → Memᴰ t m.transitions → W t.addr (val t.addr)) → W a (val a)
    attained_step a m e below = go (max_attained (λ t. g t (val t.addr)) m.transitions)
      where
        go : (max_of (λ t. g t (val t.addr)) m.transitions ≡ 0) ⊎ Best (λ t. g t (val t.addr)) m.transitions → W a (val a)
        go (inl z) = let own_is : val a ≡ own a = omega (arith, val_of a m e) in rw own_is (stop a m e)
        go (inr b) =
            elim (ℕ_discrete (val a) (own a)) [
              | yes q ↦ rw q (stop a m e)
              | no q ↦
                  let by_is : val a ≡ g b.by (val b.by.addr) = omega (arith, val_of a m e, b.best) in
                  rw by_is (step a m b.by (val b.by.addr) e b.member (below b.by b.member))
            ]

    attained_zero : (a : ℕ) → 0 < length f.bytes → a ≡ 0 → W a (val a)
    attained_zero a pos z = attained_step a empty_final (rw z (node_at_zero f.bytes f.version f.root pos)) (λ t mem. absurd (Memᴰ.not-nil mem))

    attained_to : (k a : ℕ) → a ≤ k → S a → W a (val a)
    attained_to zero a h s = attained_zero a (let q = sounds a s in sound_not_empty f.bytes f.version f.root a q.0 q.1) (omega arith)
    attained_to (suc k) a h s =
        let q = sounds a s in
        attained_step a q.0 q.1
        (λ t mem.
        elim (ℕ_discrete t.addr 0) [
          | yes z ↦ attained_zero t.addr (sound_not_empty f.bytes f.version f.root a q.0 q.1) z
          | no z ↦ attained_to k t.addr (omega (arith, node_target_lt f a q.0 q.1 t mem)) (closed a q.0 t s q.1 mem z)
        ])

  pub longest_attained : (a : ℕ) → S a → LongPath f a (longest f a)
  longest_attained a s =
      attained_to (λ a. 0) (λ t x. suc x) (longest f) (LongPath f)
      (λ a m e. omega (arith, longest_of f a m e))
      (λ a m e. record { key = []; sum = 0; to = a; path = here; length_is = refl })
      (λ a m t x e mem p.
      record { key = t.inp ∷ p.key; sum = t.out + p.sum; to = p.to; path = follow m t e mem p.path; length_is = ap suc p.length_is })
      a a (omega arith) s

  pub largest_attained : (a : ℕ) → S a → HeavyPath f a (largest_sum f a)
  largest_attained a s =
      attained_to (λ a. final_output_of? (node_in f a)) (λ t x. t.out + x) (largest_sum f) (HeavyPath f)
      (λ a m e. rw e (largest_of f a m e))
      (λ a m e. record { key = []; sum = 0; to = a; last = m; path = here; ends = e; total_is = rw e (omega arith) })
      (λ a m t x e mem p.
      record {
        key = t.inp ∷ p.key;
        sum = t.out + p.sum;
        to = p.to;
        last = p.last;
        path = follow m t e mem p.path;
        ends = p.ends;
        total_is = omega (arith, p.total_is);
      })
      a a (omega arith) s
