-- Laws of `keys_from` (Tables): its equation, and that it is the number of keys from a node, in every file and at every address: an address
-- whose node is not sound has no key, and every target lies below its node.
--     sum_same, sum_member           sums over a list of transitions
--     sum_take_step, sum_take_le     over the first of them, one more; and no more than over all
--     keys_at_lem, keys_of, keys_zero    the equation; of a sound node; of address 0 in a file that has bytes
--     Ascends, node_ascends          inputs each below all that follow
--     By K ts, by_number             a string by one of the transitions ts, and their number
--     keys_right                     keys_from f a is the number of keys from the node at a
--     keys_path_le                   no node has more keys than a node that a path comes from
--     keys_root                      the number of held keys
--     root_in_table, over_root       some reached node has over 2^64 - 1 keys exactly when the root has
--     root_over
-- Assumes nothing.
use Prim.{Unit, tt}
use Rattle.std.specs.Prelude.{◌≡◌, refl, true, ◌⊎◌, ℕ, zero, suc, ◌+◌, ◌-◌, ◌≤◌, ◌<◌, length, take}
use Rattle.std.proofs.Common.{sym, ap, ◌∙◌, subst, inl, inr, ⊎_elim, arith}
use mathlib.Core.List.Memᴰ
use mathlib.Core.List.{List, [], ◌∷◌, Memᴰ}
use Rattle.std.proofs.Math.Decide.{ℕ_discrete}
use Rattle.format.specs.declared.Transition.{Transition}
use Rattle.format.specs.Limits.{max_sum}
use Rattle.format.specs.Node.{Node, Judgement, sound, unsound, empty_final, transition_at}
use Rattle.format.specs.Laws.NodeLaws.{node_at_zero, node_at_blank}
use Rattle.format.specs.Laws.TransitionLaws.{member_at}
use Rattle.format.specs.Paths.{Fst, node_in, Path, here, follow, Held, HeldFrom, KeyFrom}
use Rattle.format.specs.Laws.NodeFacts.{node_target_lt, node_ascending}
use Rattle.format.specs.Laws.ReachedLaws.{held_from, from_held, held_here, held_by, held_nil, held_step, held_input}
use Rattle.format.specs.Strings.{Before, shorter, lower, NumberOf}
use Rattle.format.specs.Tables.{transitions_of?, one, sum_of, own_keys?, keys_to, keys_from, InTable}
use Rattle.format.specs.Laws.NumberOfLaws.{number_iff, number_none, number_when, number_append, Under, number_under}

-- ---- sums over a list of transitions

pub sum_same : (g h : Transition → ℕ) (ts : List Transition) → ((t : Transition) → Memᴰ t ts → g t ≡ h t) → sum_of g ts ≡ sum_of h ts
unfolding sum_of
sum_same g h [] same = refl
sum_same g h (t ∷ ts) same = let p = sum_same g h ts (λ u m. same u (Memᴰ.tail m)) in let q = same t (Memᴰ.head refl) in cc

pub sum_member : (g : Transition → ℕ) (ts : List Transition) (t : Transition) → Memᴰ t ts → g t ≤ sum_of g ts
unfolding sum_of
sum_member g [] t m = absurd (Memᴰ.not-nil m)
sum_member g (u ∷ ts) t m = ⊎_elim (λ e. omega (arith, ap g e)) (λ k. let h = sum_member g ts t k in omega arith) (Memᴰ.cases_cons m)

-- over the first i of them, as a loop that counts up adds them
pub sum_take_step : (g : Transition → ℕ) (ts : List Transition) (i : ℕ) → i < length ts → sum_of g (take (suc i) ts) ≡ sum_of g (take i ts) + g (transition_at ts i)
unfolding sum_of
sum_take_step g [] i l = absurd (omega arith)
sum_take_step g (t ∷ ts) zero l = omega arith
sum_take_step g (t ∷ ts) (suc i) l = omega (arith, sum_take_step g ts i (omega arith))

pub sum_take_le : (g : Transition → ℕ) (ts : List Transition) (i : ℕ) → sum_of g (take i ts) ≤ sum_of g ts
unfolding sum_of
sum_take_le g [] zero = omega arith
sum_take_le g [] (suc i) = omega arith
sum_take_le g (t ∷ ts) zero = omega arith
sum_take_le g (t ∷ ts) (suc i) = omega (arith, sum_take_le g ts i)

-- ---- the equation

target_below : (f : Fst) (a : ℕ) (t : Transition) → Memᴰ t (transitions_of? (node_in f a)) → t.addr < a
target_below f a t = go (node_in f a) refl
  where
    go : (j : Judgement) → node_in f a ≡ j → Memᴰ t (transitions_of? j) → t.addr < a
    go (sound m) e mem = node_target_lt f a m e t mem
    go unsound e mem = absurd (Memᴰ.not-nil mem)

sum_at_zero : (f : Fst) (g : Transition → ℕ) (a : ℕ) → a ≡ 0 → sum_of g (transitions_of? (node_in f a)) ≡ 0
unfolding sum_of
sum_at_zero f g a z = go (transitions_of? (node_in f a)) (λ t m. target_below f a t m)
  where
    go : (ts : List Transition) → ((t : Transition) → Memᴰ t ts → t.addr < a) → sum_of g ts ≡ 0
    go [] h = refl
    go (t ∷ ts) h = absurd (omega (arith, h t (Memᴰ.head refl)))

to_zero : (f : Fst) (k a : ℕ) → a ≡ 0 → keys_to k f a ≡ own_keys? (node_in f a)
unfolding keys_to
to_zero f zero a z = refl
to_zero f (suc k) a z = omega (arith, sum_at_zero f (λ t. keys_to k f t.addr) a z)

-- the count does not matter once it is at least the address
to_count : (f : Fst) (k m a : ℕ) → a ≤ k → a ≤ m → keys_to k f a ≡ keys_to m f a
unfolding keys_to
to_count f zero m a h i = sym (to_zero f m a (omega arith))
to_count f (suc k) zero a h i = to_zero f (suc k) a (omega arith)
to_count f (suc k) (suc m) a h i =
    ap (λ n. own_keys? (node_in f a) + n)
    (sum_same (λ t. keys_to k f t.addr) (λ t. keys_to m f t.addr) (transitions_of? (node_in f a))
    (λ t u. let b = target_below f a t u in to_count f k m t.addr (omega arith) (omega arith)))

pub keys_at_lem : (f : Fst) (a : ℕ) → keys_from f a ≡ own_keys? (node_in f a) + sum_of (λ t. keys_from f t.addr) (transitions_of? (node_in f a))
unfolding keys_from keys_to
keys_at_lem f zero = omega (arith, sum_at_zero f (λ t. keys_to t.addr f t.addr) 0 refl)
keys_at_lem f (suc a) =
    ap (λ n. own_keys? (node_in f (suc a)) + n)
    (sum_same (λ t. keys_to a f t.addr) (λ t. keys_to t.addr f t.addr) (transitions_of? (node_in f (suc a)))
    (λ t u. let b = target_below f (suc a) t u in to_count f a t.addr t.addr (omega arith) (omega arith)))

-- of a sound node, and of one that is not
pub keys_of : (f : Fst) (a : ℕ) (m : Node) → node_in f a ≡ sound m → keys_from f a ≡ one m.final + sum_of (λ t. keys_from f t.addr) m.transitions
keys_of f a m e = keys_at_lem f a ∙ rw e

pub keys_unsound : (f : Fst) (a : ℕ) → node_in f a ≡ unsound → keys_from f a ≡ 0
unfolding sum_of
keys_unsound f a e = keys_at_lem f a ∙ rw e

pub keys_zero : (f : Fst) → 0 < length f.bytes → keys_from f 0 ≡ 1
unfolding sum_of
keys_zero f pos = keys_of f 0 empty_final (node_at_zero f.bytes f.version f.root pos)

pub keys_zero_le : (f : Fst) → keys_from f 0 ≤ 1
keys_zero_le f =
    elim (ℕ_discrete (length f.bytes) 0) [
      | yes z ↦ omega (arith, keys_unsound f 0 (node_at_blank f.bytes f.version f.root 0 z))
      | no ne ↦ omega (arith, keys_zero f (omega arith))
    ]

-- ---- strings by transitions

-- inputs each below all that follow
abbrev pub Ascends : List Transition → Type 0
Ascends [] = Unit {0}
Ascends (t ∷ ts) = ((u : Transition) → Memᴰ u ts → t.inp < u.inp) × Ascends ts

ascends : (ts : List Transition) → ((i j : ℕ) → i < j → j < length ts → (transition_at ts i).inp < (transition_at ts j).inp) → Ascends ts
ascends [] h = tt
ascends (t ∷ ts) h = (
  λ u m. let p = member_at m in rw p.2 at (h 0 (suc p.0) (omega arith) (omega (arith, p.1))),
  ascends ts (λ i j l n. h (suc i) (suc j) (omega arith) (omega arith)),
)

pub node_ascends : (f : Fst) (a : ℕ) (m : Node) → node_in f a ≡ sound m → Ascends m.transitions
node_ascends f a m e = ascends m.transitions (node_ascending f a m e)

-- the input of a transition of ts, and then a string such that K
abbrev pub By : (Transition → List ℕ → Type 0) → List Transition → List ℕ → Type 0
By K ts x = (t : Transition) × Memᴰ t ts × Under t.inp (K t) x

pub by_number : (K : Transition → List ℕ → Type 0) (g : Transition → ℕ) (ts : List Transition) → Ascends ts
    → ((t : Transition) → Memᴰ t ts → NumberOf (K t) (g t)) → NumberOf (By K ts) (sum_of g ts)
unfolding sum_of
by_number K g [] asc each = number_none (By K []) (λ x h. Memᴰ.not-nil h.1)
by_number K g (t ∷ ts) asc each =
    number_iff (λ x. (Under t.inp (K t) x) ⊎ (By K ts x)) (By K (t ∷ ts)) (g t + sum_of g ts) to from
    (number_append (Under t.inp (K t)) (By K ts) (g t) (sum_of g ts) order
    (number_under t.inp (K t) (g t) (each t (Memᴰ.head refl)))
    (by_number K g ts asc.1 (λ u m. each u (Memᴰ.tail m))))
  where
    to : (x : List ℕ) → (Under t.inp (K t) x) ⊎ (By K ts x) → By K (t ∷ ts) x
    to x (inl h) = (t, Memᴰ.head refl, h)
    to x (inr (u, m, h)) = (u, Memᴰ.tail m, h)

    from : (x : List ℕ) → By K (t ∷ ts) x → (Under t.inp (K t) x) ⊎ (By K ts x)
    from x (u, m, h) = ⊎_elim (λ e. inl (subst (λ (v : Transition). Under v.inp (K v) x) e h)) (λ n. inr (u, n, h)) (Memᴰ.cases_cons m)

    order : (x y : List ℕ) → Under t.inp (K t) x → By K ts y → Before x y
    order x y (p, e, k) (u, m, (q, i, j)) = rw (e, i) (lower (asc.0 u m))

-- ---- the keys from a node

path_start : {f : Fst} {a : ℕ} {k : List ℕ} {sum b : ℕ} {m : Node} → Path f a k sum b → node_in f b ≡ sound m → (n : Node) × (node_in f a ≡ sound n)
path_start {m = m} here e = (m, e)
path_start (follow n t e mem p) g = (n, e)

pub key_sound : (f : Fst) (a : ℕ) (k : List ℕ) → KeyFrom f a k → (m : Node) × (node_in f a ≡ sound m)
key_sound f a k (v, h) = path_start h.path h.ends

-- a key from a sound node: the empty one where the node is final, or by one of its transitions
abbrev pub NodeKey : Fst → Node → List ℕ → Type 0
NodeKey f m k = ((k ≡ []) × (m.final ≡ true)) ⊎ (By (λ t. KeyFrom f t.addr) m.transitions k)

module _ (f : Fst) (a : ℕ) (m : Node) (e : node_in f a ≡ sound m) where
  pub node_key : (k : List ℕ) → NodeKey f m k → KeyFrom f a k
  node_key k (inl (nil, is)) = rw nil (m.final_output, held_here f a m e is)
  node_key k (inr (t, mem, (y, q, (v, h)))) = rw q (t.out + v, held_by f a m e t mem h)

  pub key_node : (k : List ℕ) → KeyFrom f a k → NodeKey f m k
  key_node [] (v, h) = inl (refl, (held_nil f a m e h).0)
  key_node (x ∷ k) (v, h) =
      let t = held_input f a m e h in
      let i = t.2 in
      let g : HeldFrom f a (t.0.inp ∷ k) v = rw i h in
      let s = held_step f a m e t.0 t.1 g in
      inr (t.0, t.1, (k, ap (λ b. b ∷ k) (sym i), (s.0, s.1)))

  keys_step : ((t : Transition) → Memᴰ t m.transitions → NumberOf (KeyFrom f t.addr) (keys_from f t.addr))
      → NumberOf (KeyFrom f a) (keys_from f a)
  keys_step below =
      rw (keys_of f a m e)
      (number_iff (NodeKey f m) (KeyFrom f a) (one m.final + sum_of (λ t. keys_from f t.addr) m.transitions) node_key key_node
      (number_append (λ k. (k ≡ []) × (m.final ≡ true)) (By (λ t. KeyFrom f t.addr) m.transitions) (one m.final)
      (sum_of (λ t. keys_from f t.addr) m.transitions) order (number_when m.final [])
      (by_number (λ t. KeyFrom f t.addr) (λ t. keys_from f t.addr) m.transitions (node_ascends f a m e) below)))
    where
      order : (x y : List ℕ) → (x ≡ []) × (m.final ≡ true) → By (λ t. KeyFrom f t.addr) m.transitions y → Before x y
      order x y (nil, is) (t, mem, (z, q, h)) = rw (nil, q) shorter

keys_right_to : (f : Fst) (k a : ℕ) → a < k → NumberOf (KeyFrom f a) (keys_from f a)
keys_right_to f zero a l = absurd (omega arith)
keys_right_to f (suc k) a l = go (node_in f a) refl (λ b h. keys_right_to f k b h)
  where
    go : (j : Judgement) → node_in f a ≡ j → ((b : ℕ) → b < k → NumberOf (KeyFrom f b) (keys_from f b)) → NumberOf (KeyFrom f a) (keys_from f a)
    go (sound m) e below = keys_step f a m e (λ t mem. below t.addr (omega (arith, node_target_lt f a m e t mem)))
    go unsound e below =
        rw (keys_unsound f a e)
        (number_none (KeyFrom f a)
        (λ x h.
        let s = key_sound f a x h in
        let is = s.1 in
        let z : ◌≡◌ {A = ℕ} 0 1 = cc in
        omega arith))

pub keys_right : (f : Fst) (a : ℕ) → NumberOf (KeyFrom f a) (keys_from f a)
keys_right f a = keys_right_to f (suc a) a (omega arith)

-- the held keys of a file
pub keys_root : (f : Fst) → NumberOf (λ k. (v : ℕ) × Held f k v) (keys_from f f.root)
keys_root f =
    number_iff (KeyFrom f f.root) (λ k. (v : ℕ) × Held f k v) (keys_from f f.root) (λ k h. (h.0, from_held h.1)) (λ k h. (h.0, held_from h.1))
    (keys_right f f.root)

-- ---- along a path

pub keys_path_le : {f : Fst} {a : ℕ} {k : List ℕ} {sum b : ℕ} → Path f a k sum b → keys_from f b ≤ keys_from f a
keys_path_le here = omega arith
keys_path_le {f} {a} (follow m t e mem p) =
    omega (arith, keys_path_le p, keys_of f a m e, sum_member (λ u. keys_from f u.addr) m.transitions t mem)

-- ---- too many keys

pub root_in_table : (f : Fst) → ¬ (f.root ≡ 0) → InTable f f.root
root_in_table f ne = record { not_zero = ne; reached = record { key = []; sum = 0; path = here } }

-- some reached node has more than 2^64 - 1 keys exactly when the root has
pub over_root : (f : Fst) (a : ℕ) → InTable f a → max_sum < keys_from f a → max_sum < keys_from f f.root
over_root f a on over = omega (arith, keys_path_le on.reached.path)

pub root_over : (f : Fst) → max_sum < keys_from f f.root → InTable f f.root
root_over f over = root_in_table f (λ z. let q : keys_from f f.root ≡ keys_from f 0 = ap (keys_from f) z in omega (arith, keys_zero_le f))
