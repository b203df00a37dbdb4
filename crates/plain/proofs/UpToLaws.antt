-- Laws of `up_to` (Numbers): with right entries where it reads them it is the number of keys from a node that come before a string, and that
-- string itself where it counts; in every file, wherever it is not refused.
--     UpTo own x k             k comes before x, or is x and counts
--     up-to-..                 the equations of `up_to`, one for each case
--     below_number             the keys by smaller inputs
--     below_take               the smaller inputs are the first ones: what a loop up to the place of an input adds
--     up_to_right              the number of keys up to a string
--     up_to_comes              not refused where every node that a path reaches is sound
--     reads_in_table           what is read stands in the table
--     up_to_few                where no entry is read the number is small
-- Assumes nothing.
use Rattle.std.specs.Prelude.{◌≡◌, refl, Bool, true, false, cond, ◌&&◌, ◌⊎◌, ℕ, zero, suc, ◌+◌, ◌*◌, ◌-◌, ◌≤◌, ◌<◌, ltb, eqb, length, get_or, take}
use Rattle.std.proofs.Common.{sym, ap, ◌∙◌, subst, inl, inr, ⊎_elim, arith, ltb-true, ltb-false, eq-eqb, ne_eqb, lt-ltb, le-ltb}
use Rattle.std.proofs.lemmas.Bool.{eqb-false, and_parts}
use mathlib.Core.List.{List, [], ◌∷◌, ◌++◌, Memᴰ}
use Rattle.std.proofs.Math.Decide.{ℕ_discrete}
use Rattle.format.specs.declared.Transition.{Transition}
use Rattle.format.specs.Limits.{NODE}
use Rattle.format.specs.Node.{Node, Judgement, sound, unsound, Search, find_input, transition_at}
use Rattle.format.specs.Laws.NodeLaws.{sound_not_empty}
use Rattle.format.specs.Laws.TransitionLaws.{at_member}
use Rattle.format.specs.Paths.{Fst, node_in, Path, here, follow, KeyFrom}
use Rattle.format.specs.Laws.NodeFacts.{node_zero, node_zero_none, node_first_low, node_first_le, node_room, node_target, node_same, find_member, find_none}
use Rattle.format.specs.Laws.PathLaws.{path_snoc}
use Rattle.format.specs.Strings.{Before, shorter, lower, later, NumberOf}
use Rattle.format.specs.Laws.StringLaws.{before_nil, before_cons}
use Rattle.format.specs.Tables.{one, sum_of, keys_from, InTable, keys_at}
use Rattle.format.specs.Laws.NumberOfLaws.{number_iff, number_none, number_when, number_append, Under, number_under}
use Rattle.format.specs.Laws.KeysLaws.{keys_zero, keys_right, node_ascends, By, by_number, node_key, key_node}
use Rattle.reading.specs.Reading.{on_node, on_search}
use Rattle.plain.specs.Numbers.{Tally, comes_to, refused, plus, keys_below, up_to, entry_at, reads_below, reads_to}

abbrev pub UpTo : Bool → List ℕ → List ℕ → Type 0
UpTo own x k = (Before k x) ⊎ ((k ≡ x) × (own ≡ true))

-- the entries at these addresses are right
abbrev pub Right : Fst → List ℕ → List ℕ → Type 0
Right f c reads = (a : ℕ) → Memᴰ a reads → get_or c a 0 ≡ keys_from f a

-- ---- the equations

module _ (f : Fst) (c : List ℕ) (own : Bool) (a : ℕ) where
  pub up_to_unsound : (x : List ℕ) → node_in f a ≡ unsound → up_to f c own a x ≡ refused NODE
  unfolding up_to
  up_to_unsound [] e = rw e
  up_to_unsound (b ∷ x) e = rw e

  pub up_to_end : (m : Node) → node_in f a ≡ sound m → up_to f c own a [] ≡ comes_to (one (own && m.final))
  unfolding up_to
  up_to_end m e = rw e

  pub up_to_absent : (m : Node) → node_in f a ≡ sound m → (b : ℕ) (x : List ℕ) (p : ℕ) → find_input m.transitions b ≡ Search.absent p
      → up_to f c own a (b ∷ x) ≡ comes_to (one m.final + keys_below c b m.transitions + 0)
  unfolding up_to
  up_to_absent m e b x p none = rw (e, none)

  pub up_to_at : (m : Node) → node_in f a ≡ sound m → (b : ℕ) (x : List ℕ) (p : ℕ) → find_input m.transitions b ≡ Search.at p
      → up_to f c own a (b ∷ x) ≡ plus (one m.final + keys_below c b m.transitions) (up_to f c own (transition_at m.transitions p).addr x)
  unfolding up_to
  up_to_at m e b x p found = rw (e, found)

module _ (f : Fst) (a : ℕ) (m : Node) (e : node_in f a ≡ sound m) (b : ℕ) (x : List ℕ) where
  reads_below_lem : (d : ℕ) → Memᴰ d (reads_below b m.transitions) → Memᴰ d (reads_to f a (b ∷ x))
  unfolding reads_to
  reads_below_lem d mem =
      rw e (mathlib.Core.List.Memᴰ.append_left (on_search (find_input m.transitions b) (λ p. reads_to f (transition_at m.transitions p).addr x) (λ p. [])) mem)

  reads_on : (p : ℕ) → find_input m.transitions b ≡ Search.at p → (d : ℕ) → Memᴰ d (reads_to f (transition_at m.transitions p).addr x)
      → Memᴰ d (reads_to f a (b ∷ x))
  unfolding reads_to
  reads_on p found d mem = rw (e, found) (mathlib.Core.List.Memᴰ.append_right (reads_below b m.transitions) mem)

-- the entry of a smaller input's target is read
below_read : (b : ℕ) (ts : List Transition) (t : Transition) → Memᴰ t ts → t.inp < b → ¬ (t.addr ≡ 0) → Memᴰ t.addr (reads_below b ts)
below_read b [] t mem l ne = absurd (mathlib.Core.List.Memᴰ.not-nil mem)
below_read b (u ∷ ts) t mem l ne =
    ⊎_elim {A = t ≡ u} {B = Memᴰ t ts}
    (λ q.
    let read : Memᴰ t.addr (cond (ltb t.inp b) (entry_at t.addr) []) = rw (lt-ltb t.inp b l, ne_eqb t.addr 0 ne) (mathlib.Core.List.Memᴰ.head refl) in
    subst (λ (v : Transition). Memᴰ t.addr (reads_below b (v ∷ ts))) q (mathlib.Core.List.Memᴰ.append_left (reads_below b ts) read))
    (λ n. mathlib.Core.List.Memᴰ.append_right (cond (ltb u.inp b) (entry_at u.addr) []) (below_read b ts t n l ne))
    (mathlib.Core.List.Memᴰ.cases_cons mem)

-- ---- the keys by smaller inputs

pub keys_at_right : (f : Fst) (c : List ℕ) (a : ℕ) → 0 < length f.bytes → (¬ (a ≡ 0) → get_or c a 0 ≡ keys_from f a) → keys_at c a ≡ keys_from f a
keys_at_right f c a pos right =
    elim (ℕ_discrete a 0) [
      | yes z ↦ rw (eq-eqb a 0 z) (sym (ap (keys_from f) z ∙ keys_zero f pos))
      | no z ↦ rw (ne_eqb a 0 z) (right z)
    ]

-- a file with a sound node has bytes
has_bytes : (f : Fst) (a : ℕ) (m : Node) → node_in f a ≡ sound m → 0 < length f.bytes
has_bytes f a m e = sound_not_empty f.bytes f.version f.root a m e

-- a key by a transition whose input is smaller than b
abbrev SmallerKey : Fst → ℕ → Transition → List ℕ → Type 0
SmallerKey f b t y = (t.inp < b) × KeyFrom f t.addr y

below_number : (f : Fst) (c : List ℕ) (a : ℕ) (m : Node) → node_in f a ≡ sound m → (b : ℕ) → Right f c (reads_below b m.transitions)
    → NumberOf (By (SmallerKey f b) m.transitions) (keys_below c b m.transitions)
below_number f c a m e b right =
    by_number (SmallerKey f b) (λ t. cond (ltb t.inp b) (keys_at c t.addr) 0) m.transitions (node_ascends f a m e)
    (λ t mem. each t mem (ltb t.inp b) refl)
  where
    each : (t : Transition) → Memᴰ t m.transitions → (w : Bool) → ltb t.inp b ≡ w → NumberOf (SmallerKey f b t) (cond w (keys_at c t.addr) 0)
    each t mem true is =
        let l = ltb-true t.inp b is in
        let same = keys_at_right f c t.addr (has_bytes f a m e) (λ ne. right t.addr (below_read b m.transitions t mem l ne)) in
        rw same (number_iff (KeyFrom f t.addr) (SmallerKey f b t) (keys_from f t.addr) (λ y h. (l, h)) (λ y h. h.1) (keys_right f t.addr))
    each t mem false is = number_none (SmallerKey f b t) (λ y h. let l = ltb-false t.inp b is in let g = h.0 in omega arith)

-- the first p inputs are smaller than b, the others are not
pub below_take : (c : List ℕ) (b : ℕ) (ts : List Transition) (p : ℕ) → ((i : ℕ) → i < p → i < length ts → (transition_at ts i).inp < b)
    → ((i : ℕ) → p ≤ i → i < length ts → b ≤ (transition_at ts i).inp) → keys_below c b ts ≡ sum_of (λ t. keys_at c t.addr) (take p ts)
unfolding sum_of
below_take c b [] zero small large = refl
below_take c b [] (suc p) small large = refl
below_take c b (t ∷ ts) zero small large =
    let h = below_take c b ts 0 (λ i l. absurd (omega arith)) (λ i l m. large (suc i) (omega arith) (omega arith)) in
    rw (le-ltb t.inp b (large 0 (omega arith) (omega arith))) (omega arith)
below_take c b (t ∷ ts) (suc p) small large =
    let h = below_take c b ts p (λ i l m. small (suc i) (omega arith) (omega arith)) (λ i l m. large (suc i) (omega arith) (omega arith)) in
    rw (lt-ltb t.inp b (small 0 (omega arith) (omega arith)), h)

-- ---- the keys up to a string

both_and : (p q : Bool) → p ≡ true → q ≡ true → (p && q) ≡ true
both_and p q e g = rw (e, g)

-- where the string ends
end_number : (f : Fst) (own : Bool) (a : ℕ) (m : Node) → node_in f a ≡ sound m → NumberOf (λ k. KeyFrom f a k × UpTo own [] k) (one (own && m.final))
end_number f own a m e =
    number_iff (λ k. (k ≡ []) × ((own && m.final) ≡ true)) (λ k. KeyFrom f a k × UpTo own [] k) (one (own && m.final))
    (λ k h. let w = and_parts own m.final h.1 in (node_key f a m e k (inl (h.0, w.1)), inr (h.0, w.0)))
    from (number_when (own && m.final) [])
  where
    final : (k : List ℕ) → k ≡ [] → KeyFrom f a k → m.final ≡ true
    final k nil h =
        ⊎_elim {A = (k ≡ []) × (m.final ≡ true)} {B = By (λ t. KeyFrom f t.addr) m.transitions k} (λ g. g.1)
        (λ g. let q = g.2.1 in absurd (let z : ◌≡◌ {A = ℕ} 0 1 = cc in omega arith))
        (key_node f a m e k h)

    from : (k : List ℕ) → KeyFrom f a k × UpTo own [] k → (k ≡ []) × ((own && m.final) ≡ true)
    from k (h, inl l) = absurd (before_nil k l)
    from k (h, inr (nil, o)) = (nil, both_and own m.final o (final k nil h))

-- before the string ends: the empty key, the keys by smaller inputs, and by the next byte b those up to the rest of the string
module _ (f : Fst) (c : List ℕ) (own : Bool) (a : ℕ) (m : Node) (e : node_in f a ≡ sound m) (b : ℕ) (x : List ℕ) where
  -- a key by the transition of b, without that byte
  abbrev OnwardKey : List ℕ → Type 0
  OnwardKey y = ((t : Transition) × Memᴰ t m.transitions × (t.inp ≡ b) × KeyFrom f t.addr y) × UpTo own x y

  abbrev Parts : List ℕ → Type 0
  Parts k = (((k ≡ []) × (m.final ≡ true)) ⊎ (By (SmallerKey f b) m.transitions k)) ⊎ (Under b OnwardKey k)

  parts_to : (k : List ℕ) → Parts k → KeyFrom f a k × UpTo own (b ∷ x) k
  parts_to k (inl (inl (nil, is))) = (node_key f a m e k (inl (nil, is)), inl (rw nil shorter))
  parts_to k (inl (inr (t, mem, (y, q, (l, h))))) = (node_key f a m e k (inr (t, mem, (y, q, h))), inl (rw q (lower l)))
  parts_to k (inr (y, q, ((t, mem, i, h), up))) =
      let byte : k ≡ t.inp ∷ y = q ∙ ap (λ z. z ∷ y) (sym i) in
      (node_key f a m e k (inr (t, mem, (y, byte, h))), ⊎_elim (λ l. inl (rw q (later l))) (λ g. inr (q ∙ ap (λ z. b ∷ z) g.0, g.1)) up)

  parts_from : (k : List ℕ) → KeyFrom f a k × UpTo own (b ∷ x) k → Parts k
  parts_from k (h, up) = go (key_node f a m e k h) up
    where
      go : ((k ≡ []) × (m.final ≡ true)) ⊎ (By (λ t. KeyFrom f t.addr) m.transitions k) → UpTo own (b ∷ x) k → Parts k
      go (inl g) up = inl (inl g)
      go (inr (t, mem, (y, q, g))) (inl l) =
          ⊎_elim {A = t.inp < b} {B = (t.inp ≡ b) × Before y x} (λ s. inl (inr (t, mem, (y, q, (s, g)))))
          (λ s. inr (y, q ∙ ap (λ z. z ∷ y) s.0, ((t, mem, s.0, g), inl s.1)))
          (before_cons (rw q at l))
      go (inr (t, mem, (y, q, g))) (inr (same, o)) =
          let head : t.inp ≡ b = cc in
          let tail : y ≡ x = cc in
          inr (y, q ∙ ap (λ z. z ∷ y) head, ((t, mem, head, g), inr (tail, o)))

  parts_order : (k l : List ℕ) → ((k ≡ []) × (m.final ≡ true)) ⊎ (By (SmallerKey f b) m.transitions k) → Under b OnwardKey l → Before k l
  parts_order k l (inl (nil, is)) (y, q, h) = rw (nil, q) shorter
  parts_order k l (inr (t, mem, (z, r, (s, g)))) (y, q, h) = rw (r, q) (lower s)

  empty_order : (k l : List ℕ) → (k ≡ []) × (m.final ≡ true) → By (SmallerKey f b) m.transitions l → Before k l
  empty_order k l (nil, is) (t, mem, (z, r, g)) = rw (nil, r) shorter

  parts_number : Right f c (reads_below b m.transitions) → (n : ℕ) → NumberOf OnwardKey n
      → NumberOf (λ k. KeyFrom f a k × UpTo own (b ∷ x) k) (one m.final + keys_below c b m.transitions + n)
  parts_number right n N =
      let base = one m.final + keys_below c b m.transitions in
      number_iff Parts (λ k. KeyFrom f a k × UpTo own (b ∷ x) k) (base + n) parts_to parts_from
      (number_append (λ k. ((k ≡ []) × (m.final ≡ true)) ⊎ (By (SmallerKey f b) m.transitions k)) (Under b OnwardKey) base n parts_order
      (number_append (λ k. (k ≡ []) × (m.final ≡ true)) (By (SmallerKey f b) m.transitions) (one m.final) (keys_below c b m.transitions) empty_order
      (number_when m.final []) (below_number f c a m e b right))
      (number_under b OnwardKey n N))

  onward_absent : (p : ℕ) → find_input m.transitions b ≡ Search.absent p → NumberOf OnwardKey 0
  onward_absent p none = number_none OnwardKey (λ y h. find_none f a m e b none h.0.0 h.0.1 h.0.2)

  onward_at : (p : ℕ) → find_input m.transitions b ≡ Search.at p → (n : ℕ)
      → NumberOf (λ k. KeyFrom f (transition_at m.transitions p).addr k × UpTo own x k) n → NumberOf OnwardKey n
  onward_at p found n N =
      let t = transition_at m.transitions p in
      let q = find_member f a m e b p found in
      let on = at_member m.transitions p q.0 in
      number_iff (λ k. KeyFrom f t.addr k × UpTo own x k) OnwardKey n (λ y h. ((t, on, q.1, h.0), h.1))
      (λ y h.
      let same = node_same f a m e h.0.0 t h.0.1 on (h.0.2 ∙ sym q.1) in
      (subst (λ (u : Transition). KeyFrom f u.addr y) same h.0.3, h.1))
      N

plus_comes : (n r : ℕ) (t : Tally) → plus n t ≡ comes_to r → (k : ℕ) × (t ≡ comes_to k) × (r ≡ n + k)
plus_comes n r (comes_to k) e = (k, refl, cc)
plus_comes n r (refused k) e = absurd (let z : ◌≡◌ {A = ℕ} 0 1 = cc in omega arith)

pub up_to_right : (f : Fst) (c : List ℕ) (own : Bool) (x : List ℕ) (a n : ℕ) → Right f c (reads_to f a x) → up_to f c own a x ≡ comes_to n
    → NumberOf (λ k. KeyFrom f a k × UpTo own x k) n
up_to_right f c own [] a n right is = go (node_in f a) refl
  where
    go : (j : Judgement) → node_in f a ≡ j → NumberOf (λ k. KeyFrom f a k × UpTo own [] k) n
    go (sound m) e = let q : one (own && m.final) ≡ n = let r = up_to_end f c own a m e in cc in rw (sym q) (end_number f own a m e)
    go unsound e = let r = up_to_unsound f c own a [] e in absurd (let z : ◌≡◌ {A = ℕ} 0 1 = cc in omega arith)
up_to_right f c own (b ∷ x) a n right is = go (λ d k r i. up_to_right f c own x d k r i) (node_in f a) refl
  where
    on : ((d k : ℕ) → Right f c (reads_to f d x) → up_to f c own d x ≡ comes_to k → NumberOf (λ l. KeyFrom f d l × UpTo own x l) k)
        → (m : Node) → node_in f a ≡ sound m → (p : Search) → find_input m.transitions b ≡ p → NumberOf (λ k. KeyFrom f a k × UpTo own (b ∷ x) k) n
    on rest m e (Search.absent p) none =
        let r = up_to_absent f c own a m e b x p none in
        let q : n ≡ one m.final + keys_below c b m.transitions + 0 = cc in
        rw q (parts_number f c own a m e b x (λ d mem. right d (reads_below_lem f a m e b x d mem)) 0 (onward_absent f c own a m e b x p none))
    on rest m e (Search.at p) found =
        let d = (transition_at m.transitions p).addr in
        let w = plus_comes (one m.final + keys_below c b m.transitions) n (up_to f c own d x) (sym (up_to_at f c own a m e b x p found) ∙ is) in
        rw w.2
        (parts_number f c own a m e b x (λ d mem. right d (reads_below_lem f a m e b x d mem)) w.0
        (onward_at f c own a m e b x p found w.0 (rest d w.0 (λ i mem. right i (reads_on f a m e b x p found i mem)) w.1)))

    go : ((d k : ℕ) → Right f c (reads_to f d x) → up_to f c own d x ≡ comes_to k → NumberOf (λ l. KeyFrom f d l × UpTo own x l) k)
        → (j : Judgement) → node_in f a ≡ j → NumberOf (λ k. KeyFrom f a k × UpTo own (b ∷ x) k) n
    go rest (sound m) e = on rest m e (find_input m.transitions b) refl
    go rest unsound e = let r = up_to_unsound f c own a (b ∷ x) e in absurd (let z : ◌≡◌ {A = ℕ} 0 1 = cc in omega arith)

-- ---- not refused

-- every node that a path from a reaches is sound
abbrev pub AllSound : Fst → ℕ → Type 0
AllSound f a = (k : List ℕ) (sum b : ℕ) → Path f a k sum b → (m : Node) × (node_in f b ≡ sound m)

all_sound_by : (f : Fst) (a : ℕ) (m : Node) → node_in f a ≡ sound m → (t : Transition) → Memᴰ t m.transitions → AllSound f a → AllSound f t.addr
all_sound_by f a m e t mem all k sum b p = all (t.inp ∷ k) (t.out + sum) b (follow m t e mem p)

pub up_to_comes : (f : Fst) (c : List ℕ) (own : Bool) (x : List ℕ) (a : ℕ) → AllSound f a → (n : ℕ) × (up_to f c own a x ≡ comes_to n)
up_to_comes f c own [] a all = let q = all [] 0 a here in (one (own && q.0.final), up_to_end f c own a q.0 q.1)
up_to_comes f c own (b ∷ x) a all =
    let q = all [] 0 a here in
    go (λ d h. up_to_comes f c own x d h) q.0 q.1 (find_input q.0.transitions b) refl
  where
    go : ((d : ℕ) → AllSound f d → (n : ℕ) × (up_to f c own d x ≡ comes_to n)) → (m : Node) → node_in f a ≡ sound m → (p : Search)
        → find_input m.transitions b ≡ p → (n : ℕ) × (up_to f c own a (b ∷ x) ≡ comes_to n)
    go rest m e (Search.absent p) none = (one m.final + keys_below c b m.transitions + 0, up_to_absent f c own a m e b x p none)
    go rest m e (Search.at p) found =
        let t = transition_at m.transitions p in
        let r = rest t.addr (all_sound_by f a m e t (at_member m.transitions p (find_member f a m e b p found).0) all) in
        let base = one m.final + keys_below c b m.transitions in
        (base + r.0, up_to_at f c own a m e b x p found ∙ ap (plus base) r.1)

-- ---- what is read

-- an entry that is read is that of a smaller input's target
read_below : (b : ℕ) (ts : List Transition) (d : ℕ) → Memᴰ d (reads_below b ts)
    → (t : Transition) × Memᴰ t ts × (t.inp < b) × (t.addr ≡ d) × (¬ (d ≡ 0))
read_below b [] d mem = absurd (mathlib.Core.List.Memᴰ.not-nil mem)
read_below b (u ∷ ts) d mem =
    ⊎_elim {A = Memᴰ d (cond (ltb u.inp b) (entry_at u.addr) [])} {B = Memᴰ d (reads_below b ts)}
    (λ g. by (ltb u.inp b) refl (eqb u.addr 0) refl g)
    (λ g. let r = read_below b ts d g in (r.0, mathlib.Core.List.Memᴰ.tail r.1, r.2, r.3, r.4))
    (mathlib.Core.List.Memᴰ.append_cases (cond (ltb u.inp b) (entry_at u.addr) []) mem)
  where
    by : (w : Bool) → ltb u.inp b ≡ w → (z : Bool) → eqb u.addr 0 ≡ z → Memᴰ d (cond w (cond z [] (u.addr ∷ [])) [])
        → (t : Transition) × Memᴰ t (u ∷ ts) × (t.inp < b) × (t.addr ≡ d) × (¬ (d ≡ 0))
    by true l true z g = absurd (mathlib.Core.List.Memᴰ.not-nil g)
    by true l false z g =
        ⊎_elim {A = d ≡ u.addr} {B = Memᴰ d []}
        (λ q. (u, mathlib.Core.List.Memᴰ.head refl, ltb-true u.inp b l, sym q, λ y. eqb-false u.addr 0 z (sym q ∙ y))) (λ n. absurd (mathlib.Core.List.Memᴰ.not-nil n))
        (mathlib.Core.List.Memᴰ.cases_cons g)
    by false l z y g = absurd (mathlib.Core.List.Memᴰ.not-nil g)

pub reads_in_table : (f : Fst) (x : List ℕ) (a : ℕ) (k : List ℕ) (sum : ℕ) → Path f f.root k sum a → (d : ℕ) → Memᴰ d (reads_to f a x) → InTable f d
unfolding reads_to
reads_in_table f [] a k sum path d mem = absurd (mathlib.Core.List.Memᴰ.not-nil mem)
reads_in_table f (b ∷ x) a k sum path d mem = go (λ i l s p g. reads_in_table f x i l s p d g) (node_in f a) refl mem
  where
    on : ((i : ℕ) (l : List ℕ) (s : ℕ) → Path f f.root l s i → Memᴰ d (reads_to f i x) → InTable f d) → (m : Node) → node_in f a ≡ sound m
        → (p : Search) → find_input m.transitions b ≡ p → Memᴰ d (on_search p (λ i. reads_to f (transition_at m.transitions i).addr x) (λ i. [])) → InTable f d
    on rest m e (Search.absent p) none g = absurd (mathlib.Core.List.Memᴰ.not-nil g)
    on rest m e (Search.at p) found g =
        let t = transition_at m.transitions p in
        rest t.addr (k ++ (t.inp ∷ [])) (sum + t.out) (path_snoc m t path e (at_member m.transitions p (find_member f a m e b p found).0)) g

    go : ((i : ℕ) (l : List ℕ) (s : ℕ) → Path f f.root l s i → Memᴰ d (reads_to f i x) → InTable f d) → (j : Judgement) → node_in f a ≡ j
        → Memᴰ d
        (on_node j (λ m. reads_below b m.transitions ++ on_search (find_input m.transitions b) (λ p. reads_to f (transition_at m.transitions p).addr x) (λ p. [])) [])
        → InTable f d
    go rest unsound e g = absurd (mathlib.Core.List.Memᴰ.not-nil g)
    go rest (sound m) e g =
        ⊎_elim
        {A = Memᴰ d (reads_below b m.transitions)}
        {B = Memᴰ d (on_search (find_input m.transitions b) (λ p. reads_to f (transition_at m.transitions p).addr x) (λ p. []))}
        (λ h.
        let r = read_below b m.transitions d h in
        let i = r.3 in
        record {
          not_zero = r.4;
          reached = record {
            key = k ++ (r.0.inp ∷ []);
            sum = sum + r.0.out;
            path = subst (λ n. Path f f.root (k ++ (r.0.inp ∷ [])) (sum + r.0.out) n) i (path_snoc m r.0 path e r.1);
          };
        })
        (λ h. on rest m e (find_input m.transitions b) refl h)
        (mathlib.Core.List.Memᴰ.append_cases (reads_below b m.transitions) g)

-- ---- where nothing is read

abbrev pub NoneRead : List ℕ → Type 0
NoneRead reads = (d : ℕ) → ¬ Memᴰ d reads

-- each smaller input leads to address 0
few_below : (c : List ℕ) (b : ℕ) (ts : List Transition) → NoneRead (reads_below b ts) → keys_below c b ts ≤ length ts
unfolding sum_of
few_below c b [] none = omega arith
few_below c b (t ∷ ts) none =
    omega (
      arith,
      by (ltb t.inp b) refl (eqb t.addr 0) refl,
      few_below c b ts (λ d m. none d (mathlib.Core.List.Memᴰ.append_right (cond (ltb t.inp b) (entry_at t.addr) []) m)),
    )
  where
    by : (w : Bool) → ltb t.inp b ≡ w → (z : Bool) → eqb t.addr 0 ≡ z → cond w (cond z 1 (get_or c t.addr 0)) 0 ≤ 1
    by true l true z = omega arith
    by true l false z =
        absurd (none t.addr (below_read b (t ∷ ts) t (mathlib.Core.List.Memᴰ.head refl) (ltb-true t.inp b l) (λ q. eqb-false t.addr 0 z q)))
    by false l z y = omega arith

one_le : (b : Bool) → one b ≤ 1
one_le true = omega arith
one_le false = omega arith

count_le : (f : Fst) (a : ℕ) (m : Node) → node_in f a ≡ sound m → length m.transitions ≤ a
count_le f a m e =
    elim (ℕ_discrete a 0) [
      | yes z ↦ let none : length m.transitions ≡ 0 = rw (node_zero f a m e z) in omega arith
      | no z ↦ omega (arith, node_room f a m e z, node_first_low f a m e z)
    ]

-- the nodes of a path lie one below the other, and each has a byte for each of its transitions
pub up_to_few : (f : Fst) (c : List ℕ) (own : Bool) (x : List ℕ) (a n : ℕ) → NoneRead (reads_to f a x) → up_to f c own a x ≡ comes_to n → n ≤ 2 * (a + 1)
up_to_few f c own [] a n none is = go (node_in f a) refl
  where
    go : (j : Judgement) → node_in f a ≡ j → n ≤ 2 * (a + 1)
    go (sound m) e =
        let q : one (own && m.final) ≡ n = let r = up_to_end f c own a m e in cc in
        omega (arith, one_le (own && m.final))
    go unsound e = let r = up_to_unsound f c own a [] e in absurd (let z : ◌≡◌ {A = ℕ} 0 1 = cc in omega arith)
up_to_few f c own (b ∷ x) a n none is = go (λ d k r i. up_to_few f c own x d k r i) (node_in f a) refl
  where
    on : ((d k : ℕ) → NoneRead (reads_to f d x) → up_to f c own d x ≡ comes_to k → k ≤ 2 * (d + 1)) → (m : Node) → node_in f a ≡ sound m → (p : Search)
        → find_input m.transitions b ≡ p → n ≤ 2 * (a + 1)
    on rest m e (Search.absent p) gone =
        let r = up_to_absent f c own a m e b x p gone in
        let q : n ≡ one m.final + keys_below c b m.transitions + 0 = cc in
        let few = few_below c b m.transitions (λ d mem. none d (reads_below_lem f a m e b x d mem)) in
        omega (arith, one_le m.final, count_le f a m e)
    on rest m e (Search.at p) found =
        let t = transition_at m.transitions p in
        let mem = at_member m.transitions p (find_member f a m e b p found).0 in
        let ne : ¬ (a ≡ 0) = λ z. node_zero_none f a m e z t mem in
        let w = plus_comes (one m.final + keys_below c b m.transitions) n (up_to f c own t.addr x) (sym (up_to_at f c own a m e b x p found) ∙ is) in
        let few = few_below c b m.transitions (λ d mem. none d (reads_below_lem f a m e b x d mem)) in
        let more = rest t.addr w.0 (λ d g. none d (reads_on f a m e b x p found d g)) w.1 in
        let low = node_first_low f a m e ne in
        let room = node_room f a m e ne in
        let high = node_first_le f a m e ne in
        ⊎_elim (λ z. omega (arith, one_le m.final, w.2)) (λ g. let l = g.1 in omega (arith, one_le m.final, w.2)) (node_target f a m e t mem)

    go : ((d k : ℕ) → NoneRead (reads_to f d x) → up_to f c own d x ≡ comes_to k → k ≤ 2 * (d + 1)) → (j : Judgement) → node_in f a ≡ j → n ≤ 2 * (a + 1)
    go rest (sound m) e = on rest m e (find_input m.transitions b) refl
    go rest unsound e = let r = up_to_unsound f c own a (b ∷ x) e in absurd (let z : ◌≡◌ {A = ℕ} 0 1 = cc in omega arith)
