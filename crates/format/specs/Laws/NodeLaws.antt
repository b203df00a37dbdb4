-- Laws of `Node`: what the tests decide, and the node at an address by its soundness.
-- Assumes nothing.
use Rattle.std.specs.Prelude.{◌≡◌, refl, Bool, true, false, cond, not, ◌&&◌, ◌||◌, ◌⊎◌, List, [], ◌∷◌, ℕ, zero, suc, ◌+◌, ◌-◌, ◌*◌, ◌≤◌, ◌<◌, ltb, leb, eqb, length, get_or}
use Rattle.std.proofs.Common.{sym, ap, ◌∙◌, inl, inr, arith, eq-eqb, ne_eqb, eqb-true, lt-ltb, le-ltb, le-leb}
use Rattle.std.proofs.Math.Decide.{ℕ_discrete}
use Rattle.std.proofs.lemmas.Bool.{eqb-false, lt-leb}
use Rattle.format.specs.declared.State.{State}
use Rattle.format.specs.declared.State.TheVariants.{OneTransNext, OneTrans, AnyTrans}
use Rattle.buffers.specs.Decide.{Decides, implies, all_below}
use Rattle.buffers.specs.DecideLaws.{decides_true, decides_false, decides_lt, decides_le, decides_eq, decides_iff, decides_self, decides_and, decides_or, decides_not, decides_implies, decides_below, true_of, false_of}
use Rattle.format.specs.Limits.{first_node}
use Rattle.format.specs.Node.{state_form, is_final, Shape, shape_of, first_of, target_of, Node, node_of, shape_inputs, shape_deltas, shape_entries, Ascending, Absent, Indexed, stores_deltas, SizesRight, TargetRight, TargetsRight, Useful, SoundShape, SoundAt, ascending_test, absent_test, indexed_test, sizes_test, target_test, shape_test, sound_test, Judgement, sound, unsound, empty_final, node_at}

-- ---- what the tests decide

pub decides_ascending : (bs : List ℕ) → Decides (ascending_test bs) (Ascending bs)
unfolding Ascending
decides_ascending bs =
    decides_iff (λ h i l. h i (omega arith)) (λ h i l. h i (omega arith))
    (decides_below (λ i. ltb (get_or bs i 0) (get_or bs (i + 1) 0)) (λ i. get_or bs i 0 < get_or bs (i + 1) 0)
    (λ i. decides_lt (get_or bs i 0) (get_or bs (i + 1) 0)) (length bs - 1))

pub decides_absent : (b : ℕ) (bs : List ℕ) → Decides (absent_test b bs) (Absent b bs)
unfolding Absent
decides_absent b bs =
    decides_below (λ i. not (eqb (get_or bs i 0) b)) (λ i. ¬ (get_or bs i 0 ≡ b))
    (λ i. decides_not (eqb (get_or bs i 0) b) (decides_eq (get_or bs i 0) b)) (length bs)

pub decides_indexed : (bs es : List ℕ) → Decides (indexed_test bs es) (Indexed bs es)
decides_indexed bs es =
    decides_iff (λ h. record { present = h.0; absent = h.1 }) (λ h. (h.present, h.absent))
    (decides_and (all_below (λ i. eqb (get_or es (get_or bs i 0) 0) i) (length bs)) (all_below (λ b. implies (absent_test b bs) (leb (length bs) (get_or es b 0))) 256)
    (decides_below (λ i. eqb (get_or es (get_or bs i 0) 0) i) (λ i. get_or es (get_or bs i 0) 0 ≡ i)
    (λ i. decides_eq (get_or es (get_or bs i 0) 0) i) (length bs))
    (decides_below (λ b. implies (absent_test b bs) (leb (length bs) (get_or es b 0))) (λ b. Absent b bs → length bs ≤ get_or es b 0)
    (λ b. decides_implies (absent_test b bs) (leb (length bs) (get_or es b 0)) (decides_absent b bs) (decides_le (length bs) (get_or es b 0))) 256))

pub decides_sizes : (state : State) (n tsize osize : ℕ) → Decides (sizes_test state n tsize osize) (SizesRight state n tsize osize)
decides_sizes state n tsize osize =
    decides_iff (λ h. record { tsize_le = h.0; osize_le = h.1.0; tsize_pos = h.1.1 }) (λ h. (h.tsize_le, (h.osize_le, h.tsize_pos)))
    (decides_and (leb tsize 8) (leb osize 8 && implies (stores_deltas state) (implies (ltb 0 n) (ltb 0 tsize))) (decides_le tsize 8)
    (decides_and (leb osize 8) (implies (stores_deltas state) (implies (ltb 0 n) (ltb 0 tsize))) (decides_le osize 8)
    (decides_implies (stores_deltas state) (implies (ltb 0 n) (ltb 0 tsize)) (decides_self (stores_deltas state))
    (decides_implies (ltb 0 n) (ltb 0 tsize) (decides_lt 0 n) (decides_lt 0 tsize)))))

pub decides_target : (first d : ℕ) → Decides (target_test first d) (TargetRight first d)
decides_target first d =
    let t : ℕ = target_of first d in
    decides_iff (λ h. record { reach = h.0; low = λ ne. (h.1 ne).0; high = λ ne. (h.1 ne).1 })
    (λ h. (h.reach, λ ne. (h.low ne, h.high ne)))
    (decides_and (leb d first) (implies (not (eqb t 0)) (leb first_node t && ltb t first)) (decides_le d first)
    (decides_implies (not (eqb t 0)) (leb first_node t && ltb t first) (decides_not (eqb t 0) (decides_eq t 0))
    (decides_and (leb first_node t) (ltb t first) (decides_le first_node t) (decides_lt t first))))

pub decides_targets : (first : ℕ) (ds : List ℕ) → Decides (all_below (λ i. target_test first (get_or ds i 0)) (length ds)) (TargetsRight first ds)
unfolding TargetsRight
decides_targets first ds =
    decides_below (λ i. target_test first (get_or ds i 0)) (λ i. TargetRight first (get_or ds i 0)) (λ i. decides_target first (get_or ds i 0)) (length ds)

pub decides_useful : (final : Bool) (n a root : ℕ) → Decides (final || (ltb 0 n || eqb a root)) (Useful final n a root)
unfolding Useful
decides_useful final n a root =
    decides_or final (ltb 0 n || eqb a root) (decides_self final) (decides_or (ltb 0 n) (eqb a root) (decides_lt 0 n) (decides_eq a root))

pub decides_shape : (s : List ℕ) (root a : ℕ) (h : Shape) (first : ℕ) → Decides (shape_test s root a h first) (SoundShape s root a h first)
decides_shape s root a h first =
    let bs = shape_inputs s a h first in
    decides_iff
    (λ q. record {
      inside = q.0;
      below = q.1.0;
      above = q.1.1.0;
      sizes = q.1.1.1.0;
      ascending = q.1.1.1.1.0;
      entries = q.1.1.1.1.1.0;
      targets = q.1.1.1.1.1.1.0;
      useful = q.1.1.1.1.1.1.1;
    })
    (λ q. (q.inside, (q.below, (q.above, (q.sizes, (q.ascending, (q.entries, (q.targets, q.useful))))))))
    (decides_and _ _ (decides_lt a (length s))
    (decides_and _ _ (decides_le a root)
    (decides_and _ _ (decides_le (first_node + h.size) (a + 1))
    (decides_and _ _ (decides_sizes h.state h.ntrans h.tsize h.osize)
    (decides_and _ _ (decides_ascending bs)
    (decides_and _ _ (decides_implies _ _ (decides_not (eqb h.indexed 0) (decides_eq h.indexed 0)) (decides_indexed bs (shape_entries s h first)))
    (decides_and _ _ (decides_targets first (shape_deltas s h first))
    (decides_useful h.final h.ntrans a root))))))))

pub decides_sound : (s : List ℕ) (v root a : ℕ) → Decides (sound_test s v root a) (SoundAt s v root a)
unfolding sound_test
decides_sound s v root a = decides_shape s root a (shape_of s v a) (first_of s v a)

-- ---- the node at an address

pub node_at_zero : (s : List ℕ) (v root : ℕ) → 0 < length s → node_at s v root 0 ≡ sound empty_final
unfolding node_at
node_at_zero s v root pos = let ne : ¬ (length s ≡ 0) = λ z. omega arith in rw (ne_eqb (length s) 0 ne)

pub node_at_zero_blank : (s : List ℕ) (v root : ℕ) → length s ≡ 0 → node_at s v root 0 ≡ unsound
unfolding node_at
node_at_zero_blank s v root z = rw (eq-eqb (length s) 0 z)

pub node_at_sound : (s : List ℕ) (v root a : ℕ) → ¬ (a ≡ 0) → SoundAt s v root a → node_at s v root a ≡ sound (node_of s v a)
unfolding node_at
node_at_sound s v root a ne h = rw (ne_eqb a 0 ne, true_of (sound_test s v root a) (decides_sound s v root a) h)

pub node_at_unsound : (s : List ℕ) (v root a : ℕ) → ¬ (a ≡ 0) → ¬ SoundAt s v root a → node_at s v root a ≡ unsound
unfolding node_at
node_at_unsound s v root a ne h = rw (ne_eqb a 0 ne, false_of (sound_test s v root a) (decides_sound s v root a) h)

-- what an answer `sound` says: the file has bytes, and this is address 0 or a sound node
pub node_at_cases : (s : List ℕ) (v root a : ℕ) (m : Node) → node_at s v root a ≡ sound m
    → ((a ≡ 0) × (m ≡ empty_final)) ⊎ ((¬ (a ≡ 0)) × SoundAt s v root a × (m ≡ node_of s v a))
unfolding node_at
node_at_cases s v root a m = go (eqb a 0) refl (eqb (length s) 0) (sound_test s v root a) (decides_sound s v root a)
  where
    go : (z : Bool) → eqb a 0 ≡ z → (n : Bool) → (t : Bool) → Decides t (SoundAt s v root a)
        → cond z (cond n unsound (sound empty_final)) (cond t (sound (node_of s v a)) unsound) ≡ sound m
        → ((a ≡ 0) × (m ≡ empty_final)) ⊎ ((¬ (a ≡ 0)) × SoundAt s v root a × (m ≡ node_of s v a))
    go true z true t d e = absurd (let q : ◌≡◌ {A = ℕ} 0 1 = cc in omega arith)
    go true z false t d e = inl (eqb-true a 0 z, let q : empty_final ≡ m = cc in sym q)
    go false z n true d e = inr (eqb-false a 0 z, d.yes refl, let q : node_of s v a ≡ m = cc in sym q)
    go false z n false d e = absurd (let q : ◌≡◌ {A = ℕ} 0 1 = cc in omega arith)

-- a file without bytes has no node
pub node_at_blank : (s : List ℕ) (v root a : ℕ) → length s ≡ 0 → node_at s v root a ≡ unsound
node_at_blank s v root a z =
    elim (ℕ_discrete a 0) [
      | yes zero_addr ↦ rw zero_addr (node_at_zero_blank s v root z)
      | no ne ↦ node_at_unsound s v root a ne (λ h. omega (arith, h.inside))
    ]

pub no_node : (v root a : ℕ) → node_at [] v root a ≡ unsound
no_node v root a = node_at_blank [] v root a refl

pub sound_not_empty : (s : List ℕ) (v root a : ℕ) (m : Node) → node_at s v root a ≡ sound m → 0 < length s
sound_not_empty s v root a m e =
    elim (ℕ_discrete (length s) 0) [
      | yes z ↦ absurd (let n = node_at_blank s v root a z in let q : ◌≡◌ {A = ℕ} 0 1 = cc in omega arith)
      | no ne ↦ omega arith
    ]

-- ---- the state byte

pub form_next : (state : ℕ) → 192 ≤ state → state_form state ≡ OneTransNext
form_next state h = rw (le-leb 192 state h)

pub form_one : (state : ℕ) → 128 ≤ state → state < 192 → state_form state ≡ OneTrans
form_one state low high = rw (lt-leb 192 state high, le-leb 128 state low)

pub form_any : (state : ℕ) → state < 128 → state_form state ≡ AnyTrans
form_any state high =
    let a : state < 192 = omega arith in
    rw (lt-leb 192 state a, lt-leb 128 state high)

-- and back
pub any_lt : (state : ℕ) → state_form state ≡ AnyTrans → state < 128
any_lt state e = grind arith

pub one_from : (state : ℕ) → state_form state ≡ OneTrans → 128 ≤ state
one_from state e = grind arith

pub next_from : (state : ℕ) → state_form state ≡ OneTransNext → 192 ≤ state
next_from state e = grind arith

-- only the form 01 is final
pub not_final : (state : ℕ) → 128 ≤ state → is_final state ≡ false
not_final state low = let a : 64 ≤ state = omega arith in rw (le-leb 64 state a, le-ltb state 128 low)

pub final_any : (state : ℕ) → state < 128 → is_final state ≡ leb 64 state
final_any state high = rw (lt-ltb state 128 high) (go (leb 64 state))
  where
    go : (t : Bool) → (t && true) ≡ t
    go true = refl
    go false = refl
